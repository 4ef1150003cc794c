pub use Rattle.dnw_decoder.specs.Codes
pub use Rattle.dnw_decoder.specs.Octets
pub use Rattle.dnw_decoder.specs.Reading
pub use Rattle.dnw_decoder.specs.Refusals
pub use Rattle.dnw_decoder.specs.Spelling
