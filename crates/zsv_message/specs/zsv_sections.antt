pub use Rattle.zsv_sections.specs.Sections
pub use Rattle.zsv_sections.specs.declared
