pub use Rattle.dnw_wire.specs.BitMapLaws
pub use Rattle.dnw_wire.specs.BitMaps
