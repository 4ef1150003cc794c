use Rattle.std.proofs.Common.{◌≡◌, ℕ, ◌==◌, Bool, List, eqb, sym, ap, ◌∙◌, rules}
use Rattle.std.specs.List.{list_any, dedup}
use Rattle.std.proofs.lemmas.List.Filters.{dedup_is}
use Rattle.std.proofs.lemmas.List.Sorted.{list_any-IsPermutation}
use Rattle.std.proofs.lemmas.Map.Keys.{IsStrictlyIncreasing-dedup}
use Rattle.dnw_wire.proofs.SortedTypes.{any_dedup, any_map}
use Rattle.dnw_wire.proofs.set.RecordTypeSet.new.Goals as goal

pub of_codes-requires : goal.of_codes-requires
of_codes-requires g c =
    let same : c.dedup.new.self.items ≡ dedup eqb c.sort.new.self.items = dedup_is eqb _ _ c.dedup.ensures.filtered in
    rw same (IsStrictlyIncreasing-dedup c.sort.new.self.items c.in_ok-sort.ensures.sorted)

pub returns : goal.returns
returns g c =
    let same : c.dedup.new.self.items ≡ dedup eqb c.sort.new.self.items = dedup_is eqb _ _ c.dedup.ensures.filtered in (
      c.types.yielded,
      search rules,
      λ code.
          let p : ℕ → Bool = λ n. n == code in
          ap (λ (xs : List ℕ). list_any p xs) (c.of_codes.ensures ∙ same)
          ∙ any_dedup p c.sort.new.self.items
          ∙ sym (list_any-IsPermutation p c.types.codes.items c.sort.new.self.items c.sort.ensures.permutation)
          ∙ ap (λ (xs : List ℕ). list_any p xs) c.types.invariant.codes
          ∙ any_map code c.types.yielded,
    )
