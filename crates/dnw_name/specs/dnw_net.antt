pub use Rattle.dnw_net.specs.Networks
