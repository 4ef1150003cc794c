use Rattle.std.proofs.Common.{◌≡◌, true, false, take}
use Rattle.std.specs.List.{AllByRecursion}
use Rattle.zst_handler.specs.zst_record.RecordSets.{is_signature_of}
use Rattle.zst_denial.specs.Signing.{AreSignatures, any_fails}
use Rattle.zst_denial.proofs.signatures.sign_set.Given as goal

abbrev pub invariant-keys : goal.invariant-keys
invariant-keys g l = record {
  given : AreSignatures g.K.ZoneSigner.gives (take l.key-index l.keys) l.set l.now l.signatures.items;
  fit : AllByRecursion (λ r. is_signature_of l.set r ≡ true) l.signatures.items;
  none : any_fails g.K.ZoneSigner.fails (take l.key-index l.keys) l.set l.now ≡ false;
}
