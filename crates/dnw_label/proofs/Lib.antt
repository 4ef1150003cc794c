pub mod EscapeLaws
pub mod EscapeLemmas
pub mod LabelRefusalLemmas
pub mod LabelRoundTrip
pub mod LabelTextLemmas
pub mod LabelsLemmas
pub mod Orders
