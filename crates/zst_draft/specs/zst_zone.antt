pub use Rattle.zst_zone.specs.Securings
