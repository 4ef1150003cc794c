pub use Rattle.dnw_label.specs.Label
pub use Rattle.dnw_label.specs.LabelHash
pub use Rattle.dnw_label.specs.LabelPrint
pub use Rattle.dnw_label.specs.LabelText
pub use Rattle.dnw_label.specs.LabelHashLaws
pub use Rattle.dnw_label.specs.LabelRefusals
pub use Rattle.dnw_label.specs.LabelRefusalsLaws
pub use Rattle.dnw_label.specs.Labels
