pub mod ArpaLabels
pub mod Networks
pub use Rattle.dnw_label.specs.dnw_codes
pub mod dnw_label
