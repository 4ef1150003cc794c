pub use Rattle.zst_request.proofs.zst_denial_lemmas
