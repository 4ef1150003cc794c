use Rattle.std.proofs.Common.{◌≡◌, true, ◌+◌, ◌++◌, ◌∷◌, [], List, take, sym, ap, subst, ◌∙◌}
use Rattle.std.specs.List.{AllByRecursion}
use Rattle.std.proofs.lemmas.List.{take_more}
use Rattle.zst_handler.specs.zst_record.RecordSets.{is_signature_of}
use Rattle.zst_handler.specs.zst_record.declared.records.Record.{Record}
use Rattle.zst_denial.specs.Signing.{AreSignatures, any_fails, unsigned}
use Rattle.zst_denial.proofs.Signings.{all_more, any_more, no_error, signatures_more}
use Rattle.zst_denial.proofs.signatures.sign_set.Goals as goal

pub keys-preserved : goal.keys-preserved
keys-preserved g c =
    let gives = g.K.ZoneSigner.gives in
    let fails = g.K.ZoneSigner.fails in
    let set = c.args.set.now in
    let front = take c.keys.key-index c.args.keys.now in
    let more : take (c.keys.key-index + 1) c.args.keys.now ≡ front ++ c.key-item.result ∷ [] =
    take_more c.args.keys.now c.keys.key-index c.key-item.result c.keys-test.true ∙ ap (λ x. front ++ x ∷ []) (sym c.key-item.is) in
    let items : c.push.new.values.items ≡ c.keys.signatures.items ++ c.in-Ok.signature ∷ [] =
    no_error c.push.result c.is_err.result c.is_err.ensures.value c.if-is_err.false c.push.ensures.ok in
    record {
      given = subst (λ ks. AreSignatures gives ks set c.args.now c.push.new.values.items) (sym more)
          (subst (λ (rs : List Record). AreSignatures gives (front ++ c.key-item.result ∷ []) set c.args.now rs) (sym items)
          (signatures_more gives front c.key-item.result set c.args.now c.keys.signatures.items c.in-Ok.signature c.keys.invariant.given c.in-Ok.ensures.given));
      fit = subst (λ (rs : List Record). AllByRecursion (λ r. is_signature_of set r ≡ true) rs) (sym items)
          (all_more (λ r. is_signature_of set r ≡ true) c.keys.signatures.items c.in-Ok.signature c.keys.invariant.fit c.in-Ok.ensures.fit);
      none = ap (λ ks. any_fails fails ks set c.args.now) more
          ∙ any_more (λ k. fails k (unsigned set) c.args.now) front c.key-item.result c.keys.invariant.none c.in-Ok.ensures.ok;
    }
