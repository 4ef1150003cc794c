pub use Rattle.dnw_wire.specs.BitMapLaws
pub use Rattle.dnw_wire.specs.BitMaps
pub use Rattle.dnw_wire.specs.MapOrder
pub use Rattle.dnw_wire.specs.MapOrderLaws
