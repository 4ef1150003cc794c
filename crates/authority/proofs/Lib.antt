pub mod Certified
pub mod HandedOver
