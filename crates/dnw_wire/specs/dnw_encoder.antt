pub use Rattle.dnw_encoder.specs.Effects
pub use Rattle.dnw_encoder.specs.Encoders
pub use Rattle.dnw_encoder.specs.Names
pub use Rattle.dnw_encoder.specs.State
pub use Rattle.dnw_encoder.specs.declared
