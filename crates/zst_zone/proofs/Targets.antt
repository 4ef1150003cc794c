-- What the targets of records add, one record after the other.
use Rattle.std.proofs.Common.{◌≡◌, ◌++◌, ◌≤◌, ℕ, drop, length, refl, ap, sym, ◌∙◌, append_assoc, append-nil}
use Rattle.std.specs.Prelude.{Bool, true, false, not, cond, ◌||◌, List, [], ◌∷◌, Option, Some, None}
use Rattle.std.proofs.lemmas.List.{drop_all}
use Rattle.std.specs.List.{cons_option, filter, flat_map, list_any}
use Rattle.zst_circle.specs.dnw_codes.declared.record_type.RecordType.TheVariants as kind
use Rattle.zst_circle.specs.dnw_name.DomainName.{DomainName, lowercase_name, name_eq}
use Rattle.zst_circle.specs.zst_record.RecordSets.{RRset}
use Rattle.zst_circle.specs.zst_record.declared.records.Record.{Record}
use Rattle.zst_circle.specs.zst_handler.Chains.{target_of}
use Rattle.zst_circle.specs.zst_handler.Lookups.{additionals, addresses, has_additionals, listed, once, targets}
use Rattle.zst_circle.specs.zst_handler.Zones.{rrset_at}
use Rattle.zst_key.proofs.KeyLemmas.{eq-lower-first, one-lower}
use Rattle.zst_zone.specs.Answering.{left_to_list, target_addresses, unseen}
use Rattle.zst_zone.proofs.LowerNames.{rrset-keyed}

-- ---- one target
module _ (f g : DomainName → List RRset) (name : DomainName) (same : (other : DomainName) → cond (name_eq name other) [] (f other) ≡ g other) where
  passed : (names : List DomainName) → flat_map f (filter (λ other. not (name_eq name other)) names) ≡ flat_map g names
  passed [] = refl
  passed (x ∷ xs) = by (name_eq name x) (same x) (passed xs)
    where
      by : (b : Bool) → cond b [] (f x) ≡ g x → flat_map f (filter (λ other. not (name_eq name other)) xs) ≡ flat_map g xs
          → flat_map f (cond (not b) (x ∷ filter (λ other. not (name_eq name other)) xs) (filter (λ other. not (name_eq name other)) xs)) ≡ g x ++ flat_map g xs
      by true e rest = rest ∙ ap (λ (sets : List RRset). sets ++ flat_map g xs) e
      by false e rest = ap (λ (sets : List RRset). sets ++ flat_map f (filter (λ other. not (name_eq name other)) xs)) e ∙ ap (λ (sets : List RRset). g x ++ sets) rest

  -- What a record's target adds, and what is left.
  one-more : (new : List RRset) (r : Record) (later : List Record) → f name ≡ new → Some name ≡ target_of r.rdata
      → new ++ flat_map g (once (targets later)) ≡ flat_map f (once (targets (r ∷ later)))
  one-more new r later is to =
      ap (λ (sets : List RRset). sets ++ flat_map g (once (targets later))) (sym is)
      ∙ ap (λ (sets : List RRset). f name ++ sets) (sym (passed (once (targets later))))
      ∙ ap (λ (target : Option DomainName). flat_map f (once (cons_option target (targets later)))) to

-- ---- names that are equal
equal-names : {X : Type 0} (f : DomainName → X) → ((name : DomainName) → f (lowercase_name name) ≡ f name) → (a b : DomainName) → name_eq a b ≡ true → f a ≡ f b
equal-names f lower a b e = sym (lower a) ∙ ap f (one-lower a b e) ∙ lower b

addresses-keyed : (sets : List RRset) (key name : DomainName) → key ≡ lowercase_name name → addresses sets (Some key) ≡ addresses sets (Some name)
addresses-keyed sets key name at =
    ap (λ (o : Option RRset). listed o ++ listed (rrset_at sets key kind.AAAA)) (rrset-keyed sets key name kind.A at)
    ∙ ap (λ (o : Option RRset). listed (rrset_at sets name kind.A) ++ listed o) (rrset-keyed sets key name kind.AAAA at)

-- The addresses that are found by the key of a name.
pub addresses-found : (sets : List RRset) (key name : DomainName) → key ≡ lowercase_name name → (v4 v6 : Option RRset) → v4 ≡ rrset_at sets key kind.A → v6 ≡ rrset_at sets key kind.AAAA
    → listed v4 ++ listed v6 ≡ addresses sets (Some name)
addresses-found sets key name at v4 v6 is4 is6 =
    ap (λ (o : Option RRset). listed o ++ listed v6) is4 ∙ ap (λ (o : Option RRset). listed (rrset_at sets key kind.A) ++ listed o) is6 ∙ addresses-keyed sets key name at

any-lower : (keys : List DomainName) (name : DomainName) → list_any (name_eq (lowercase_name name)) keys ≡ list_any (name_eq name) keys
any-lower [] name = refl
any-lower (key ∷ keys) name =
    ap (λ (b : Bool). b || list_any (name_eq (lowercase_name name)) keys) (eq-lower-first name key)
    ∙ ap (λ (b : Bool). name_eq name key || b) (any-lower keys name)

module _ (sets : List RRset) (seen : List DomainName) where
  seen-keyed : (key name : DomainName) → key ≡ lowercase_name name → list_any (name_eq key) seen ≡ list_any (name_eq name) seen
  seen-keyed key name at = ap (λ (other : DomainName). list_any (name_eq other) seen) at ∙ any-lower seen name

  unseen-lower : (name : DomainName) → unseen sets seen (lowercase_name name) ≡ unseen sets seen name
  unseen-lower name =
      ap (λ (b : Bool). cond b [] (addresses sets (Some (lowercase_name name)))) (seen-keyed (lowercase_name name) name refl)
      ∙ ap (λ (more : List RRset). cond (list_any (name_eq name) seen) [] more) (addresses-keyed sets (lowercase_name name) name refl)

  -- A target that adds nothing is passed over, and so are those equal to it.
  adds-nothing : (name : DomainName) → unseen sets seen name ≡ [] → (other : DomainName) → cond (name_eq name other) [] (unseen sets seen other) ≡ unseen sets seen other
  adds-nothing name none other = by (name_eq name other) refl
    where
      by : (b : Bool) → name_eq name other ≡ b → cond b [] (unseen sets seen other) ≡ unseen sets seen other
      by true e = sym none ∙ equal-names (unseen sets seen) unseen-lower name other e
      by false e = refl

  -- ---- the cases of a record
  module _ (before : List RRset) (r : Record) (key name : DomainName) (at : key ≡ lowercase_name name) (to : Some name ≡ target_of r.rdata) where
    either-none : (b : Bool) (more : List RRset) → more ≡ [] → cond b [] more ≡ []
    either-none true more e = refl
    either-none false more e = e

    -- The target has no addresses.
    pub left-without : None ≡ rrset_at sets key kind.A → None ≡ rrset_at sets key kind.AAAA → (later : List Record) → before ++ left_to_list sets seen later ≡ before ++ left_to_list sets seen (r ∷ later)
    left-without v4 v6 later =
        let none : unseen sets seen name ≡ []
        = either-none (list_any (name_eq name) seen) (addresses sets (Some name))
        (sym (addresses-keyed sets key name at) ∙ ap (λ (o : Option RRset). listed o ++ listed (rrset_at sets key kind.AAAA)) (sym v4) ∙ ap listed (sym v6)) in
        ap (λ (more : List RRset). before ++ more) (one-more (unseen sets seen) (unseen sets seen) name (adds-nothing name none) [] r later none to)

    -- The target is seen then.
    module _ (new : List DomainName) (puts : (k : DomainName) → list_any (name_eq k) new ≡ cond (name_eq key k) true (list_any (name_eq k) seen)) where
      seen-now : (other : DomainName) → cond (name_eq name other) [] (unseen sets seen other) ≡ unseen sets new other
      seen-now other =
          by (name_eq name other)
          ∙ ap (λ (b : Bool). cond b [] (addresses sets (Some other)))
          (sym (puts other ∙ ap (λ (b : Bool). cond b true (list_any (name_eq other) seen)) (ap (λ (k : DomainName). name_eq k other) at ∙ eq-lower-first name other)))
        where
          by : (b : Bool) → cond b [] (unseen sets seen other) ≡ cond (cond b true (list_any (name_eq other) seen)) [] (addresses sets (Some other))
          by true = refl
          by false = refl

      -- It was seen before.
      pub left-seen : list_any (name_eq key) seen ≡ true → (later : List Record) → before ++ left_to_list sets new later ≡ before ++ left_to_list sets seen (r ∷ later)
      left-seen there later =
          let none : unseen sets seen name ≡ [] = ap (λ (b : Bool). cond b [] (addresses sets (Some name))) (sym (seen-keyed key name at) ∙ there) in
          ap (λ (more : List RRset). before ++ more) (one-more (unseen sets seen) (unseen sets new) name seen-now [] r later none to)

      -- It was not.
      pub left-new : list_any (name_eq key) seen ≡ false → (v4 v6 : Option RRset) → v4 ≡ rrset_at sets key kind.A → v6 ≡ rrset_at sets key kind.AAAA
          → (first after : List RRset) → first ≡ before ++ listed v4 → after ≡ first ++ listed v6
          → (later : List Record) → after ++ left_to_list sets new later ≡ before ++ left_to_list sets seen (r ∷ later)
      left-new absent v4 v6 is4 is6 first after one two later =
          let adds : unseen sets seen name ≡ listed v4 ++ listed v6
          = ap (λ (b : Bool). cond b [] (addresses sets (Some name))) (sym (seen-keyed key name at) ∙ absent)
          ∙ sym (addresses-found sets key name at v4 v6 is4 is6) in
          ap (λ (all : List RRset). all ++ left_to_list sets new later)
          (two ∙ ap (λ (some : List RRset). some ++ listed v6) one ∙ append_assoc before (listed v4) (listed v6))
          ∙ append_assoc before (listed v4 ++ listed v6) (left_to_list sets new later)
          ∙ ap (λ (more : List RRset). before ++ more) (one-more (unseen sets seen) (unseen sets new) name seen-now (listed v4 ++ listed v6) r later adds to)

-- ---- all targets
-- Nothing was seen before the first.
none-seen : (sets : List RRset) (seen : List DomainName) → seen ≡ [] → (names : List DomainName)
    → flat_map (unseen sets seen) names ≡ flat_map (λ name. addresses sets (Some name)) names
none-seen sets seen empty [] = refl
none-seen sets seen empty (name ∷ names) =
    ap (λ (keys : List DomainName). cond (list_any (name_eq name) keys) [] (addresses sets (Some name)) ++ flat_map (unseen sets seen) names) empty
    ∙ ap (λ (more : List RRset). addresses sets (Some name) ++ more) (none-seen sets seen empty names)

pub left-last : (sets : List RRset) (seen : List DomainName) (before all : List RRset) (rs : List Record) (n : ℕ) → length rs ≤ n
    → before ++ left_to_list sets seen (drop n rs) ≡ all → before ≡ all
left-last sets seen before all rs n end e =
    sym (append-nil before) ∙ ap (λ (more : List Record). before ++ left_to_list sets seen more) (sym (drop_all n rs end)) ∙ e

pub left-first : (sets : List RRset) (seen : List DomainName) → seen ≡ [] → (rs : List Record) → left_to_list sets seen rs ≡ target_addresses sets rs
left-first sets seen empty rs = none-seen sets seen empty (once (targets rs))

-- ---- the additional data of a set
pub additionals-all : (sets : List RRset) (first : RRset) → has_additionals first.record_type ≡ true → target_addresses sets first.records ≡ additionals sets first
additionals-all sets first has = ap (λ (b : Bool). cond b (target_addresses sets first.records) []) (sym has)

pub additionals-none : (sets : List RRset) (first : RRset) → has_additionals first.record_type ≡ false → additionals sets first ≡ []
additionals-none sets first none = ap (λ (b : Bool). cond b (target_addresses sets first.records) []) none

-- Of one record they are those of its target.
pub addresses-one : (sets : List RRset) (r : Record) → addresses sets (target_of r.rdata) ≡ target_addresses sets (r ∷ [])
addresses-one sets r = by (target_of r.rdata)
  where
    by : (target : Option DomainName) → addresses sets target ≡ flat_map (λ name. addresses sets (Some name)) (once (cons_option target []))
    by None = refl
    by (Some name) = sym (append-nil (addresses sets (Some name)))
