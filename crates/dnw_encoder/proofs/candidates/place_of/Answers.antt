use Rattle.std.proofs.Common.{◌≡◌, true, false, inl, inr, refl, sym, ap, get_or, ◌∙◌, arith}
use Rattle.std.specs.List.{slice_range}
use Rattle.std.specs.Str.{bytes_eq}
use Rattle.std.proofs.lemmas.Slice.Eq.{bytes_eq-Decides}
use Rattle.dnw_encoder.specs.Candidates.{candidate_of}
use Rattle.dnw_encoder.specs.declared.candidates.Entry.{Entry}
use Rattle.dnw_encoder.proofs.CandidateLaws.{blank, in_all, in_get, in_map, in_map_back, in_more}
use Rattle.dnw_encoder.proofs.candidates.place_of.Goals as goal

pub octets-requires : goal.octets-requires
octets-requires c = c.requires _ (in_get c.args.entries.now c.entries.entry-index blank (omega arith))

pub returns-then-eq : goal.returns-then-eq
returns-then-eq c =
    let e : Entry = get_or c.args.entries.now c.entries.entry-index blank in
    let same = (bytes_eq-Decides c.octets.result.now c.args.wanted.now).0 (sym c.eq.ensures ∙ c.if-eq.true) in
    (candidate_of c.args.octets.now e, in_map_back (candidate_of c.args.octets.now) e c.args.entries.now (in_get c.args.entries.now c.entries.entry-index blank (omega arith)), sym c.octets.ensures ∙ same, refl)

pub entries-preserved : goal.entries-preserved
entries-preserved c e found is =
    elim (in_more c.args.entries.now c.entries.entry-index blank e (omega arith) found) [
      | inl before ↦ c.entries.invariant e before is
      | inr same ↦
          let here : c.octets.result.now ≡ c.args.wanted.now = c.octets.ensures ∙ ap (λ (x : Entry). slice_range c.args.octets.now x.from x.to) same ∙ is in
          let test : bytes_eq c.octets.result.now c.args.wanted.now ≡ true = (bytes_eq-Decides c.octets.result.now c.args.wanted.now).1 here in
          let other : bytes_eq c.octets.result.now c.args.wanted.now ≡ false = sym c.eq.ensures ∙ c.if-eq.false in
          absurd (cc (test, other))
    ]

pub returns : goal.returns
returns c x found is =
    let from = in_map (candidate_of c.args.octets.now) x c.args.entries.now found in
    c.entries.invariant from.0 (in_all c.args.entries.now c.entries.entry-index from.0 (omega arith) from.1) (ap (λ o. o.octets) from.2 ∙ is)
