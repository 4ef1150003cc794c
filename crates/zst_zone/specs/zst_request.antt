pub use Rattle.zst_request.specs.Blocking
pub use Rattle.zst_request.specs.Denying
pub use Rattle.zst_request.specs.Handed
pub use Rattle.zst_request.specs.Handling
pub use Rattle.zst_request.specs.Transfers
pub use Rattle.zst_request.specs.Views
pub use Rattle.zst_request.specs.declared
