pub use Rattle.authority_server.specs.Frames
pub use Rattle.authority_server.specs.Runs
pub use Rattle.authority_server.specs.Servers
pub use Rattle.authority_server.specs.Serving
pub use Rattle.authority_server.specs.declared
pub use Rattle.authority_server.specs.zsv_catalog
