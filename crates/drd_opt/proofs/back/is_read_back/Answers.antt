use Rattle.std.proofs.Common.{◌≡◌, ℕ, true, List, length, map, sym, subst, ◌∙◌, arith, rules}
use Rattle.std.proofs.lemmas.List.Sorted.{IsPermutation-refl}
use Rattle.drd_fields.proofs.dnw_decoder_lemmas.Standing.{stands_same}
use Rattle.drd_opt.specs.Entries.{RawOption, raw_of, entries_octets}
use Rattle.drd_opt.specs.Equality.{same_counts}
use Rattle.drd_opt.specs.EqualityLaws.{permutation_tells}
use Rattle.drd_opt.specs.Reading.{HoldsEntries}
use Rattle.drd_opt.proofs.BackLaws.{read_back}
use Rattle.drd_opt.proofs.back.is_read_back.Goals as goal

pub returns-clause-back : goal.returns-clause-back
returns-clause-back c = λ source message place end holds there found.
    let ws = c.args.written.now.options.items in
    let vs = c.args.read.now.options.items in
    let long : length found.octets ≡ length (entries_octets ws) = omega (arith, there.behind, found.there.behind) in
    let octets = stands_same message place found.octets (entries_octets ws) end end long found.there there in
    let same = read_back source ws vs holds (subst (λ (o : List ℕ). HoldsEntries o vs) octets.0 found.holds) in
    let value : c.eq.result ≡ same_counts (map raw_of ws) (map raw_of vs) = search rules in
    value ∙ subst (λ (xs : List RawOption). same_counts (map raw_of ws) xs ≡ true) (sym same) (permutation_tells (map raw_of ws) (map raw_of ws) (IsPermutation-refl (map raw_of ws)))
