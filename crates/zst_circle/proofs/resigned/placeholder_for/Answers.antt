use Rattle.std.proofs.Common.{◌≡◌, ◌∙◌, ◌&&◌, Bool, ap, refl, subst, sym, true, false}
use Rattle.std.specs.Prelude.{Some, None, option_copied}
use Rattle.std.proofs.lemmas.Result.{err_from_is_err_and}
use Rattle.zst_absence.specs.zst_record.RecordSets.{RRset}
use Rattle.zst_absence.proofs.zst_map_lemmas.Replacing.{one}
use Rattle.zst_circle.specs.Resigning.{IsResigning, IsSignedBy, is_soa_set, risen}
use Rattle.zst_circle.proofs.resigned.placeholder_for.Goals.{in-Some+in_ok-resign-in-Some, in-None}
use Rattle.zst_circle.proofs.resigned.placeholder_for.Goals as goal

off : (b : Bool) → (b ≡ true → ⊥) → b ≡ false
off true e = absurd (e refl)
off false e = refl

pub returns-in_err-resign-in-Some-clause-failed : goal.returns-in_err-resign-in-Some-clause-failed
returns-in_err-resign-in-Some-clause-failed g c =
    let p = err_from_is_err_and c.from_residual-in_err-resign-in-Some.result c.from_residual-in_err-resign-in-Some.ensures.1 in
    let set = c.in-Some.set.now in
    rw (p.1, p.2) (λ is other.
    let f = c.in_err-resign-in-Some.ensures.failed is in
    record {
      set = risen c.eq-at_origin.result set;
      is = record {
        name = c.args.key;
        record_type = c.args.record_type;
        stored = set;
        there = sym c.get.ensures ∙ ap option_copied c.in-Some.is;
        moves = other;
        is = ap (λ (b : Bool). risen b set) c.eq-at_origin.ensures;
        signs = λ zone at. (c.in_ok-signs.ensures zone at).0 f.0;
      };
      failed = f.1;
    })

pub returns-clause-resigned : goal.returns-clause-resigned
returns-clause-resigned g c = λ set there.
    let gives = g.K.ZoneSigner.gives in
    let fails = g.K.ZoneSigner.fails in
    let keys = c.args.keys.now in
    let origin = c.args.origin.now in
    let sets = c.args.sets.now in
    elim c.match-get.branch [
      | in-Some+in_ok-resign-in-Some w ↦
          let same : w.in-Some.set.now ≡ set = one w.in-Some.set.now set (sym (sym c.get.ensures ∙ ap option_copied w.in-Some.is) ∙ there) in
          let it = w.in_ok-resign-in-Some.ensures in
          subst (λ made. IsResigning gives fails keys c.args.now sets origin (record { key = c.args.key; record_type = c.args.record_type; rises = made.0; signatures = made.1 }) set) (sym w.rises-is)
          (subst (λ (s : RRset). IsResigning gives fails keys c.args.now sets origin
          (record { key = c.args.key; record_type = c.args.record_type; rises = w.in_ok-resign-in-Some.rises; signatures = w.in_ok-resign-in-Some.signatures }) s) same (record {
            fit = it.fit;
            rises = it.rises ∙ ap (λ (b : Bool). b && is_soa_set w.in-Some.set.now) c.eq-at_origin.ensures;
            signed = λ zone at signs.
                subst (λ (b : Bool). IsSignedBy gives fails keys c.args.now (risen b w.in-Some.set.now) w.in_ok-resign-in-Some.signatures.items) c.eq-at_origin.ensures
                (it.signed ((c.in_ok-signs.ensures zone at).1 signs));
            bare = λ zone at bare. it.bare (off c.in_ok-signs.signs (λ signs. bare ((c.in_ok-signs.ensures zone at).0 signs)));
          }))
      | in-None w ↦ let h : Some set ≡ None = sym there ∙ sym c.get.ensures ∙ ap option_copied w.in-None.is in absurd (cc h)
    ]
