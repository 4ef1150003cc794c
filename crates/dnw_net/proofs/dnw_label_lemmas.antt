pub use Rattle.dnw_label.proofs.EscapeLaws
pub use Rattle.dnw_label.proofs.LabelRoundTrip
pub use Rattle.dnw_label.proofs.LabelTextLemmas
pub use Rattle.dnw_label.proofs.Orders
pub use Rattle.dnw_label.proofs.LabelRefusalLemmas
pub use Rattle.dnw_label.proofs.LabelsLemmas
