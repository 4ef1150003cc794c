pub use Rattle.drd_rdata.specs.OrderLaws
