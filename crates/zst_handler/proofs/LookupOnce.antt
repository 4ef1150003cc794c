-- A question has one alias chain, and one outcome.
use Rattle.std.proofs.Common.{◌≡◌, ℕ, ◌+◌, ◌≤◌, Bool, true, false, ◌||◌, List, [], ◌∷◌, length, refl, ap, sym, ◌∙◌, subst, arith, true≢false}
use Rattle.std.specs.Prelude.{Option, Some, None}
use Rattle.std.specs.List.{list_any}
use Rattle.zst_handler.specs.dnw_codes.declared.record_type.RecordType.{RecordType}
use Rattle.zst_handler.specs.dnw_codes.declared.record_type.RecordType.TheVariants as kind
use Rattle.zst_handler.specs.dnw_codes.RecordType.{same_record_type}
use Rattle.zst_handler.specs.dnw_name.DomainName.{DomainName, name_eq}
use Rattle.zst_handler.specs.zst_record.RecordSets.{RRset}
use Rattle.zst_handler.specs.Chains.{IsAliasChain, Links, NoneTwice, asked_names, end_of, leads, long, loops, nothing}
use Rattle.zst_handler.specs.Found.{found}
use Rattle.zst_handler.specs.Lookups.{Answer, AnswersFrom, IsLookup, LookupFrom, Outcome, answered, is_flattened}
use Rattle.zst_handler.specs.Zones.{Zone}

-- ---- the alias chain
module _ (zone : List RRset) (t : RecordType) where
  -- Why a chain ends at a name, of which so many sets and these names stand before the part that is seen.
  data Ends (before : List DomainName) (n : ℕ) (asked : List DomainName) (chain : List RRset) (last : DomainName) : Type 0 where
    absent : found zone last t ≡ None → Ends before n asked chain last
    again : (list_any (name_eq last) before || list_any (name_eq last) asked) ≡ true → Ends before n asked chain last
    full : n + length chain ≡ 8 → Ends before n asked chain last

  -- The rest of an alias chain, from a name on.
  record Rest (before : List DomainName) (n : ℕ) (name : Option DomainName) (chain : List RRset) : Type 0 where
    links : Links zone t name chain
    once : NoneTwice before (asked_names t name chain)
    short : n + length chain ≤ 8
    ends : (last : DomainName) → end_of t name chain ≡ Some last → Ends before n (asked_names t name chain) chain last

  moved : (before first later : Bool) → (before || (first || later)) ≡ true → ((first || before) || later) ≡ true
  moved true true later e = refl
  moved true false later e = refl
  moved false true later e = refl
  moved false false later e = e

  later : (before : List DomainName) (n : ℕ) (name : DomainName) (set : RRset) (chain : List RRset) → Rest before n (Some name) (set ∷ chain) → Rest (name ∷ before) (n + 1) (leads t set) chain
  later before n name set chain is =
      record {
        links = is.links.1;
        once = is.once.1;
        short = omega (arith, is.short);
        ends = λ last to. elim (is.ends last to) [
          | absent none ↦ absent none
          | again at ↦ again (moved (list_any (name_eq last) before) (name_eq last name) (list_any (name_eq last) (asked_names t (leads t set) chain)) at)
          | full all ↦ full (omega (arith, all))
        ];
      }

  or-none : (b : Bool) → (b || false) ≡ true → b ≡ true
  or-none true e = refl
  or-none false e = e

  -- Where one chain goes on, the other doesn't end.
  goes-on : (before : List DomainName) (n : ℕ) (name : DomainName) (set : RRset) (chain : List RRset) → Rest before n (Some name) [] → Rest before n (Some name) (set ∷ chain) → ⊥
  goes-on before n name set chain ended is = elim (ended.ends name refl) [
    | absent none ↦ let h : ⊥ = cc (none, is.links.0) in h
    | again at ↦ true≢false (sym (or-none (list_any (name_eq name) before) at) ∙ is.once.0)
    | full all ↦ omega (arith, all, is.short)
  ]

  one-rest : (before : List DomainName) (n : ℕ) (name : Option DomainName) (a b : List RRset) → Rest before n name a → Rest before n name b → a ≡ b
  one-rest before n name [] [] is also = refl
  one-rest before n None [] (y ∷ b) is also = absurd also.links
  one-rest before n (Some name) [] (y ∷ b) is also = absurd (goes-on before n name y b is also)
  one-rest before n None (x ∷ a) b is also = absurd is.links
  one-rest before n (Some name) (x ∷ a) [] is also = absurd (goes-on before n name x a also is)
  one-rest before n (Some name) (x ∷ a) (y ∷ b) is also =
      let same : y ≡ x = cc (is.links.0, also.links.0) in
      let more : Rest (name ∷ before) (n + 1) (leads t x) b = subst (λ (s : RRset). Rest (name ∷ before) (n + 1) (leads t s) b) same (later before n name y b also) in
      ap (λ (s : List RRset). x ∷ s) (one-rest (name ∷ before) (n + 1) (leads t x) a b (later before n name x a is) more)
      ∙ ap (λ (s : RRset). s ∷ b) (sym same)

  whole : (name : DomainName) (chain : List RRset) → IsAliasChain zone name t chain → Rest [] 0 (Some name) chain
  whole name chain is =
      record {
        links = is.links;
        once = is.once;
        short = omega (arith, is.short);
        ends = λ last to. elim (is.ends last to) [
          | nothing none ↦ absent none
          | loops at ↦ again at
          | long all ↦ full (omega (arith, all))
        ];
      }

-- A question has one alias chain.
pub one-chain : (zone : List RRset) (name : DomainName) (t : RecordType) (a b : List RRset) → IsAliasChain zone name t a → IsAliasChain zone name t b → a ≡ b
one-chain zone name t a b is also = one-rest zone t [] 0 (Some name) a b (whole zone t name a is) (whole zone t name b also)

-- ---- the outcome
same-answer : (a b : Answer) → a.answers ≡ b.answers → a.additionals ≡ b.additionals → a ≡ b
same-answer a b e f =
    ap (λ (sets : List RRset). record { answers = sets; additionals = a.additionals }) e
    ∙ ap (λ (sets : List RRset). record { answers = b.answers; additionals = sets }) f

one-answer : (zone : List RRset) (name : DomainName) (t : RecordType) (first : RRset) (a b : Answer) → AnswersFrom zone name t first a → AnswersFrom zone name t first b → a ≡ b
one-answer zone name t first a b is also = by (is_flattened t first) refl
  where
    by : (flat : Bool) → is_flattened t first ≡ flat → a ≡ b
    by true flat = is.0 flat ∙ sym (also.0 flat)
    by false flat = same-answer a b (one-chain zone name t a.answers b.answers (is.1 flat).0 (also.1 flat).0) ((is.1 flat).1 ∙ sym (also.1 flat).1)

one-from : (zone : Zone) (name : DomainName) (t : RecordType) (first : Option RRset) (x y : Outcome) → LookupFrom zone name t first x → LookupFrom zone name t first y → x ≡ y
one-from zone name t None x y is also = is ∙ sym also
one-from zone name t (Some first) x y is also = is.1 ∙ ap (λ (a : Answer). answered a) (one-answer zone.sets name t first is.0 also.0 is.2 also.2) ∙ sym also.1

-- A question has one outcome.
pub one-lookup : (zone : Zone) (name : DomainName) (t : RecordType) (x y : Outcome) → IsLookup zone name t x → IsLookup zone name t y → x ≡ y
one-lookup zone name t x y is also = by (same_record_type t kind.ANY) refl
  where
    by : (any : Bool) → same_record_type t kind.ANY ≡ any → x ≡ y
    by true any = is.any any ∙ sym (also.any any)
    by false any = one-from zone name t (found zone.sets name t) x y (is.one any) (also.one any)
