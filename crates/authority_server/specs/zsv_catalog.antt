pub use Rattle.zsv_catalog.specs.Catalogs
pub use Rattle.zsv_catalog.specs.Chains
pub use Rattle.zsv_catalog.specs.ReadingBack
pub use Rattle.zsv_catalog.specs.zsv_answer
pub use Rattle.zsv_catalog.specs.zsv_update
