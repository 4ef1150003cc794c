pub use Rattle.authority_server.specs.Servers
