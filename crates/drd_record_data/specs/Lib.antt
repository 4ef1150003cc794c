pub mod Numbers
pub mod drd_rdata
