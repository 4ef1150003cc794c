pub use Rattle.zst_codes.specs.declared
