-- Chains of aliases, one set longer, and where they end.
use Rattle.std.proofs.Common.{◌≡◌, ℕ, ◌+◌, ◌<◌, ◌≤◌, ◌++◌, Bool, true, false, ◌||◌, List, [], ◌∷◌, map, length, refl, ap, sym, ◌∙◌, subst, arith, length-append}
use Rattle.std.specs.Prelude.{Option, Some, None}
use Rattle.std.specs.List.{list_any}
use Rattle.zst_circle.specs.dnw_codes.declared.record_type.RecordType.{RecordType}
use Rattle.zst_circle.specs.dnw_name.DomainName.{DomainName, lowercase_name, name_eq}
use Rattle.zst_circle.specs.zst_record.RecordSets.{RRset}
use Rattle.zst_circle.specs.zst_handler.declared.answer_set.AnswerSet.{AnswerSet}
use Rattle.zst_circle.specs.zst_handler.Answers.{set_in}
use Rattle.zst_circle.specs.zst_handler.Chains.{IsAliasChain, Links, NoneTwice, Stops, asked_names, end_of, leads, long, loops, nothing}
use Rattle.zst_circle.specs.zst_handler.Found.{found}
use Rattle.zst_key.proofs.KeyLemmas.{eq-lower, eq-lower-first}
use Rattle.zst_zone.specs.Answering.{LeadsOn, LeadsTo}

-- ---- one set more
links_more : (zone : List RRset) (t : RecordType) (name : Option DomainName) (chain : List RRset) (next : DomainName) (set : RRset)
    → Links zone t name chain → end_of t name chain ≡ Some next → found zone next t ≡ Some set → Links zone t name (chain ++ set ∷ [])
links_more zone t name [] next set links e f = subst (λ (n : Option DomainName). Links zone t n (set ∷ [])) (sym e) (f, tt)
links_more zone t None (s ∷ chain) next set links e f = absurd links
links_more zone t (Some name) (s ∷ chain) next set links e f = (links.0, links_more zone t (leads t s) chain next set links.1 e f)

end_more : (t : RecordType) (name : Option DomainName) (chain : List RRset) (set : RRset) → end_of t name (chain ++ set ∷ []) ≡ leads t set
end_more t name [] set = refl
end_more t name (s ∷ chain) set = end_more t (leads t s) chain set

none_asked : (t : RecordType) (name : Option DomainName) → asked_names t name [] ≡ []
none_asked t None = refl
none_asked t (Some name) = refl

asked_more : (zone : List RRset) (t : RecordType) (name : Option DomainName) (chain : List RRset) (next : DomainName) (set : RRset)
    → Links zone t name chain → end_of t name chain ≡ Some next → asked_names t name (chain ++ set ∷ []) ≡ asked_names t name chain ++ next ∷ []
asked_more zone t name [] next set links e =
    ap (λ (n : Option DomainName). asked_names t n (set ∷ [])) e ∙ ap (λ (ns : List DomainName). next ∷ ns) (none_asked t (leads t set))
    ∙ sym (ap (λ (ns : List DomainName). ns ++ next ∷ []) (none_asked t name))
asked_more zone t None (s ∷ chain) next set links e = absurd links
asked_more zone t (Some name) (s ∷ chain) next set links e = ap (λ (ns : List DomainName). name ∷ ns) (asked_more zone t (leads t s) chain next set links.1 e)

or_first : (a b : Bool) → (a || b) ≡ false → a ≡ false
or_first false b e = refl
or_first true b e = e

or_later : (a b : Bool) → (a || b) ≡ false → b ≡ false
or_later false b e = e
or_later true b e = let h : ⊥ = cc in absurd h

once_more : (before names : List DomainName) (next : DomainName) → NoneTwice before names → list_any (name_eq next) before ≡ false → list_any (name_eq next) names ≡ false
    → NoneTwice before (names ++ next ∷ [])
once_more before [] next once early late = (early, tt)
once_more before (name ∷ names) next once early late = (
  once.0,
  once_more (name ∷ before) names next once.1
      (ap (λ (b : Bool). b || list_any (name_eq next) before) (or_first (name_eq next name) (list_any (name_eq next) names) late) ∙ early)
      (or_later (name_eq next name) (list_any (name_eq next) names) late),
)

-- A key is among the keys of names where its name is among the names.
asked_lower : (next : DomainName) (names : List DomainName) → list_any (name_eq (lowercase_name next)) (map lowercase_name names) ≡ list_any (name_eq next) names
asked_lower next [] = refl
asked_lower next (name ∷ names) =
    ap (λ (b : Bool). b || list_any (name_eq (lowercase_name next)) (map lowercase_name names)) (eq-lower-first next (lowercase_name name) ∙ eq-lower next name)
    ∙ ap (λ (b : Bool). name_eq next name || b) (asked_lower next names)

map_more : (names : List DomainName) (next : DomainName) → map lowercase_name (names ++ next ∷ []) ≡ map lowercase_name names ++ lowercase_name next ∷ []
map_more [] next = refl
map_more (name ∷ names) next = ap (λ (ns : List DomainName). lowercase_name name ∷ ns) (map_more names next)

-- The sets of an answer with one more.
pub sets-more : (xs ys : List AnswerSet) (x : AnswerSet) (set : RRset) → ys ≡ xs ++ x ∷ [] → set_in x ≡ set → map set_in ys ≡ map set_in xs ++ set ∷ []
sets-more xs ys x set e is = ap (map set_in) e ∙ more xs ∙ ap (λ (s : RRset). map set_in xs ++ s ∷ []) is
  where
    more : (xs : List AnswerSet) → map set_in (xs ++ x ∷ []) ≡ map set_in xs ++ set_in x ∷ []
    more [] = refl
    more (y ∷ xs) = ap (λ (sets : List RRset). set_in y ∷ sets) (more xs)

-- ---- chains that lead on
pub first-link : (zone : List RRset) (name : DomainName) (t : RecordType) (key : DomainName) (set : RRset) (to : DomainName) (chain : List RRset) (keys : List DomainName)
    → found zone name t ≡ Some set → leads t set ≡ Some to → key ≡ lowercase_name name → chain ≡ set ∷ [] → keys ≡ key ∷ [] → LeadsTo zone name t chain keys 1 to
first-link zone name t key set to chain keys f e at one first =
    subst (λ (c : List RRset). LeadsTo zone name t c keys 1 to) (sym one)
    (record {
      links = (f, tt);
      once = rw (none_asked t (leads t set)) (refl, tt);
      asked = first ∙ ap (λ (k : DomainName). k ∷ []) at ∙ ap (λ (ns : List DomainName). lowercase_name name ∷ map lowercase_name ns) (sym (none_asked t (leads t set)));
      count = refl;
      ends = e;
    })

module _ (zone : List RRset) (name : DomainName) (t : RecordType) (chain : List RRset) (keys : List DomainName) (n : ℕ) (next : DomainName) (is : LeadsTo zone name t chain keys n next) where
  abbrev asked : List DomainName
  asked = asked_names t (Some name) chain

  asked-key : (key : DomainName) → key ≡ lowercase_name next → list_any (name_eq key) keys ≡ list_any (name_eq next) asked
  asked-key key at = ap (λ (k : DomainName). list_any (name_eq k) keys) at ∙ ap (list_any (name_eq (lowercase_name next))) is.asked ∙ asked_lower next asked

  once-more : list_any (name_eq next) asked ≡ false → (set : RRset) → NoneTwice [] (asked_names t (Some name) (chain ++ set ∷ []))
  once-more new set =
      subst (NoneTwice []) (sym (asked_more zone t (Some name) chain next set is.links is.ends)) (once_more [] asked next is.once refl new)

  length-more : (set : RRset) → length (chain ++ set ∷ []) ≡ n + 1
  length-more set = length-append chain (set ∷ []) ∙ ap (λ (k : ℕ). k + 1) is.count

  leads-on : (key : DomainName) (set : RRset) (to : DomainName) → key ≡ lowercase_name next → list_any (name_eq key) keys ≡ false
      → found zone next t ≡ Some set → leads t set ≡ Some to → LeadsTo zone name t (chain ++ set ∷ []) (keys ++ key ∷ []) (n + 1) to
  leads-on key set to at new f e =
      record {
        links = links_more zone t (Some name) chain next set is.links is.ends f;
        once = once-more (sym (asked-key key at) ∙ new) set;
        asked = ap (λ (k : DomainName). keys ++ k ∷ []) at ∙ ap (λ (ks : List DomainName). ks ++ lowercase_name next ∷ []) is.asked ∙ sym (map_more asked next)
            ∙ ap (map lowercase_name) (sym (asked_more zone t (Some name) chain next set is.links is.ends));
        count = length-more set;
        ends = end_more t (Some name) chain set ∙ e;
      }

  -- ---- chains that end
  leads-nowhere : (key : DomainName) (set : RRset) → n < 8 → key ≡ lowercase_name next → list_any (name_eq key) keys ≡ false
      → found zone next t ≡ Some set → leads t set ≡ None → IsAliasChain zone name t (chain ++ set ∷ [])
  leads-nowhere key set few at new f e =
      record {
        links = links_more zone t (Some name) chain next set is.links is.ends f;
        once = once-more (sym (asked-key key at) ∙ new) set;
        short = omega (arith, few, length-more set);
        ends = λ last to. let h : ⊥ = cc (to, end_more t (Some name) chain set, e) in absurd h;
      }

  -- One set more leads on, or nowhere.
  pub one-more : (key : DomainName) (set : RRset) (to : Option DomainName) (chain' : List RRset) (keys' : List DomainName) → n < 8 → key ≡ lowercase_name next → list_any (name_eq key) keys ≡ false
      → found zone next t ≡ Some set → to ≡ leads t set → chain' ≡ chain ++ set ∷ [] → keys' ≡ keys ++ key ∷ [] → LeadsOn zone name t chain' keys' (n + 1) to
  one-more key set None chain' keys' few at new f e longer more =
      subst (IsAliasChain zone name t) (sym longer) (leads-nowhere key set few at new f (sym e))
  one-more key set (Some to) chain' keys' few at new f e longer more =
      subst (λ (c : List RRset). LeadsTo zone name t c keys' (n + 1) to) (sym longer)
      (subst (λ (k : List DomainName). LeadsTo zone name t (chain ++ set ∷ []) k (n + 1) to) (sym more) (leads-on key set to at new f (sym e)))

  stops : n ≤ 8 → Stops zone t asked chain next → IsAliasChain zone name t chain
  stops few why =
      record {
        links = is.links;
        once = is.once;
        short = omega (arith, few, is.count);
        ends = λ last to. let same : next ≡ last = cc (to, is.ends) in subst (Stops zone t asked chain) same why;
      }

  pub ends-asked : (key : DomainName) → n < 8 → key ≡ lowercase_name next → list_any (name_eq key) keys ≡ true → IsAliasChain zone name t chain
  ends-asked key few at old = stops (omega (arith, few)) (loops (sym (asked-key key at) ∙ old))

  pub ends-absent : n < 8 → found zone next t ≡ None → IsAliasChain zone name t chain
  ends-absent few none = stops (omega (arith, few)) (nothing none)

  pub ends-long : n ≡ 8 → IsAliasChain zone name t chain
  ends-long full = stops (omega (arith, full)) (long (is.count ∙ full))

-- A set that leads nowhere is the whole chain.
pub one-set : (zone : List RRset) (name : DomainName) (t : RecordType) (set : RRset) → found zone name t ≡ Some set → leads t set ≡ None → IsAliasChain zone name t (set ∷ [])
one-set zone name t set f e =
    record {
      links = (f, tt);
      once = rw (none_asked t (leads t set)) (refl, tt);
      short = omega arith;
      ends = λ last to. let h : ⊥ = cc (to, e) in absurd h;
    }
