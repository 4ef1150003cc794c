pub mod BitLaws
pub mod BitMaps
pub mod BitMapLaws
pub mod MapOrder
pub mod MapOrderLaws
pub mod dnw_codes
pub use Rattle.dnw_encoder.specs.dnw_decoder
pub mod dnw_encoder
