-- What the records of an answer are, and that they meet what a lookup answers.
use Rattle.std.proofs.Common.{◌≡◌, ◌++◌, Bool, true, false, ◌&&◌, not, cond, List, [], ◌∷◌, map, length, ℕ, eqb, refl, ap, sym, subst, ◌∙◌, append-nil, true≢false, eqb-true}
use Rattle.std.specs.Prelude.{Option, Some, None}
use Rattle.std.specs.List.{flat_map}
use Rattle.zst_circle.specs.dnw_codes.declared.record_type.RecordType.{RecordType}
use Rattle.zst_circle.specs.dnw_codes.declared.record_type.RecordType.TheVariants as kind
use Rattle.zst_circle.specs.dnw_codes.RecordType.{record_type_number, same_record_type}
use Rattle.zst_circle.specs.dnw_name.DomainName.{DomainName, lowercase_name}
use Rattle.zst_circle.specs.zst_record.RecordSets.{RRset, flattened_set}
use Rattle.zst_circle.specs.zst_record.declared.records.Record.{Record}
use Rattle.zst_circle.specs.zst_handler.declared.answer_set.AnswerSet.{AnswerSet}
use Rattle.zst_circle.specs.zst_handler.declared.auth_lookup.AuthLookup.{AuthLookup}
use Rattle.zst_circle.specs.zst_handler.declared.auth_lookup.AuthLookup.TheVariants as auths
use Rattle.zst_circle.specs.zst_handler.declared.lookup_options.LookupOptions.{LookupOptions}
use Rattle.zst_circle.specs.zst_handler.declared.lookup_records.LookupRecords.{LookupRecords}
use Rattle.zst_circle.specs.zst_handler.Answers.{ShowsAnswer, all_shown, records_if, records_in, set_in, sets_shown, shown}
use Rattle.zst_circle.specs.zst_handler.Chains.{IsAliasChain, first_target, leads}
use Rattle.zst_circle.specs.zst_handler.Found.{found, is_address}
use Rattle.zst_circle.specs.zst_handler.Lookups.{Answer, additionals, addresses, alias_answer, alias_ttl, behind_alias, flattened, has_additionals, is_flattened, of_type, once}
use Rattle.zst_circle.specs.zst_map.declared.zone_sets.Match.{Match}
use Rattle.zst_circle.specs.zst_map.Searches.{match_set}
use Rattle.zst_zone.specs.Answering.{AnswersAll, AnswersSet, IsBehind, target_addresses}
use Rattle.zst_zone.proofs.ChainLinks.{one-set}
use Rattle.zst_zone.proofs.Matches.{match-flattened, match-leads, match-targets, match-ttl, match-type}
use Rattle.zst_zone.proofs.Targets.{additionals-none}

-- ---- records that are shown
all_shown-sets : (b : Bool) (xs : List AnswerSet) → all_shown b xs ≡ sets_shown b (map set_in xs)
all_shown-sets b [] = refl
all_shown-sets b (x ∷ xs) = ap (λ (rs : List Record). shown b (set_in x) ++ rs) (all_shown-sets b xs)

pub shows-many : (b : Bool) (sets : List RRset) (xs : List AnswerSet) (rs : List Record) → rs ≡ all_shown b xs → map set_in xs ≡ sets → rs ≡ sets_shown b sets
shows-many b sets xs rs e same = e ∙ all_shown-sets b xs ∙ ap (sets_shown b) same

shows-one : (b : Bool) (set : RRset) (x : AnswerSet) (rs : List Record) → rs ≡ shown b (set_in x) → set_in x ≡ set → rs ≡ sets_shown b (set ∷ [])
shows-one b set x rs e same = e ∙ ap (shown b) same ∙ sym (append-nil (shown b set))

shows : (options : LookupOptions) (answer : Answer) (answers : LookupRecords) (more : Option LookupRecords) → records_in answers ≡ sets_shown options.dnssec_ok answer.answers
    → records_if more ≡ sets_shown options.dnssec_ok answer.additionals → ShowsAnswer options answer (auths.Records answers more)
shows options answer answers more first later = record { answers = first; additionals = later; authorities = refl }

pub shows-all : (options : LookupOptions) (sets : List RRset) (answers : LookupRecords) → eqb (length sets) 0 ≡ false → records_in answers ≡ sets_shown options.dnssec_ok sets
    → AnswersAll options sets (Some (auths.Records answers None))
shows-all options [] answers some e = absurd (true≢false some)
shows-all options (set ∷ sets) answers some e = shows options (record { answers = set ∷ sets; additionals = [] }) answers None e refl

-- ---- an alias for addresses
module _ (sets : List RRset) (t : RecordType) (target : DomainName) (to : Option DomainName) (leads-to : Some target ≡ to) where
  behind-by : (o : Option RRset) (from : Option RRset) → found sets target t ≡ o → IsBehind (of_type t o) from → IsBehind (behind_alias sets t to) from
  behind-by o from e is =
      subst (λ (n : Option DomainName). IsBehind (behind_alias sets t n) from) leads-to (subst (λ (p : Option RRset). IsBehind (of_type t p) from) (sym e) is)

  match-kind : (m : Match) (b : Bool) → same_record_type m.set.now.record_type t ≡ b → of_type t (Some (match_set target m)) ≡ cond b (Some (match_set target m)) None
  match-kind m b e = ap (λ (same : Bool). cond same (Some (match_set target m)) None) (ap (λ (k : RecordType). same_record_type k t) (match-type target m) ∙ e)

  -- The set that was found is of the type, or of another.
  pub behind-some : (m : Match) → found sets target t ≡ Some (match_set target m) → same_record_type m.set.now.record_type t ≡ true → IsBehind (behind_alias sets t to) (Some m.set.now)
  behind-some m f e =
      behind-by (Some (match_set target m)) (Some m.set.now) f
      (subst (λ (o : Option RRset). IsBehind o (Some m.set.now)) (sym (match-kind m true e)) (λ owner alias. match-flattened owner (alias_ttl alias.records) target m))

  pub behind-other : (m : Match) → found sets target t ≡ Some (match_set target m) → same_record_type m.set.now.record_type t ≡ false → IsBehind (behind_alias sets t to) None
  behind-other m f e = behind-by (Some (match_set target m)) None f (subst (λ (o : Option RRset). IsBehind o None) (sym (match-kind m false e)) refl)

  pub behind-none : found sets target t ≡ None → IsBehind (behind_alias sets t to) None
  behind-none f = behind-by None None f refl

-- Nothing is behind it: it answers alone.
module _ (options : LookupOptions) (name : DomainName) (m : Match) (x : AnswerSet) (own : set_in x ≡ match_set name m) where
  pub alias-alone : (o : Option RRset) → IsBehind o None → (answers : LookupRecords) → records_in answers ≡ shown options.dnssec_ok (set_in x)
      → ShowsAnswer options (alias_answer name (match_set name m) o) (auths.Records answers None)
  alias-alone None is answers e = shows options (alias_answer name (match_set name m) None) answers None (shows-one options.dnssec_ok (match_set name m) x (records_in answers) e own) refl
  alias-alone (Some set) is answers e = absurd is

  -- The addresses behind it answer, and it stands beside them.
  pub alias-beside : (o : Option RRset) (from : RRset) → IsBehind o (Some from) → (y : AnswerSet) → set_in y ≡ flattened_set (lowercase_name name) (alias_ttl m.set.now.records) from
      → (answers more : LookupRecords) → records_in answers ≡ shown options.dnssec_ok (set_in y) → records_in more ≡ shown options.dnssec_ok (set_in x)
      → ShowsAnswer options (alias_answer name (match_set name m) o) (auths.Records answers (Some more))
  alias-beside None from is y e answers more first later = let h : ⊥ = cc in absurd h
  alias-beside (Some set) from is y e answers more first later =
      let same : set_in y ≡ flattened (lowercase_name name) (match_set name m) set
      = e ∙ ap (λ (ttl : ℕ). flattened_set (lowercase_name name) ttl from) (sym (match-ttl name m)) ∙ sym (is (lowercase_name name) (match_set name m)) in
      shows options (alias_answer name (match_set name m) (Some set)) answers (Some more)
      (shows-one options.dnssec_ok (flattened (lowercase_name name) (match_set name m) set) y (records_in answers) first same)
      (shows-one options.dnssec_ok (match_set name m) x (records_in more) later own)

-- ---- what the first set answers
-- An alias that is followed has no additional data.
no_additionals : (n : ℕ) → eqb n 5 ≡ true → cond (eqb n 2) true (cond (eqb n 15) true (eqb n 33)) ≡ false
no_additionals n e = ap (λ (k : ℕ). cond (eqb k 2) true (cond (eqb k 15) true (eqb k 33))) (eqb-true n 5 e)

leading : (b c : Bool) (x : Option DomainName) (to : DomainName) → cond (b && c) x None ≡ Some to → b ≡ true
leading true c x to e = refl
leading false c x to e = let h : ⊥ = cc in absurd h

leads-alone : (sets : List RRset) (t : RecordType) (first : RRset) (to : DomainName) → leads t first ≡ Some to → additionals sets first ≡ []
leads-alone sets t first to e =
    additionals-none sets first
    (no_additionals (record_type_number first.record_type)
    (leading (same_record_type first.record_type kind.CNAME) (not (same_record_type t kind.CNAME)) (first_target first.records) to e))

module _ (options : LookupOptions) (sets : List RRset) (name : DomainName) (t : RecordType) (m : Match) (is : found sets name t ≡ Some (match_set name m)) where
  flat-match : is_flattened t (match_set name m) ≡ is_flattened t m.set.now
  flat-match = ap (λ (k : RecordType). same_record_type k kind.ANAME && is_address t) (match-type name m)

  pub answers-alias : is_flattened t m.set.now ≡ true → (answer : AuthLookup)
      → ShowsAnswer options (alias_answer name (match_set name m) (behind_alias sets t (first_target (match_set name m).records))) answer → AnswersSet options sets name t (match_set name m) answer
  answers-alias flat answer shown =
      (alias_answer name (match_set name m) (behind_alias sets t (first_target (match_set name m).records)), (λ e. refl, λ e. absurd (true≢false (sym flat ∙ sym flat-match ∙ e))), shown)

  pub answers-chain : is_flattened t m.set.now ≡ false → (to : DomainName) → Some to ≡ leads t m.set.now → (chain : List AnswerSet) → IsAliasChain sets name t (map set_in chain)
      → (answers : LookupRecords) → records_in answers ≡ all_shown options.dnssec_ok chain → AnswersSet options sets name t (match_set name m) (auths.Records answers None)
  answers-chain flat to e chain links answers shown =
      let alone = leads-alone sets t (match_set name m) to (match-leads t name m ∙ sym e) in (
        record { answers = map set_in chain; additionals = [] },
        (λ h. absurd (true≢false (sym h ∙ flat-match ∙ flat)), λ h. (links, sym alone)),
        shows options (record { answers = map set_in chain; additionals = [] }) answers None (shown ∙ all_shown-sets options.dnssec_ok chain) refl,
      )

  more-match : additionals sets m.set.now ≡ additionals sets (match_set name m)
  more-match =
      ap (λ (k : RecordType). cond (has_additionals k) (target_addresses sets m.set.now.records) []) (sym (match-type name m))
      ∙ ap (λ (names : List DomainName). cond (has_additionals (match_set name m).record_type) (flat_map (λ target. addresses sets (Some target)) (once names)) []) (sym (match-targets name m))

  pub answers-one : is_flattened t m.set.now ≡ false → None ≡ leads t m.set.now → (x : AnswerSet) → set_in x ≡ match_set name m → (answers : LookupRecords) (more : Option LookupRecords)
      → records_in answers ≡ shown options.dnssec_ok (set_in x) → records_if more ≡ sets_shown options.dnssec_ok (additionals sets m.set.now)
      → AnswersSet options sets name t (match_set name m) (auths.Records answers more)
  answers-one flat e x own answers more first later =
      let whole = one-set sets name t (match_set name m) is (match-leads t name m ∙ sym e) in (
        record { answers = match_set name m ∷ []; additionals = additionals sets (match_set name m) },
        (λ h. absurd (true≢false (sym h ∙ flat-match ∙ flat)), λ h. (whole, refl)),
        shows options (record { answers = match_set name m ∷ []; additionals = additionals sets (match_set name m) }) answers more
            (shows-one options.dnssec_ok (match_set name m) x (records_in answers) first own) (later ∙ ap (sets_shown options.dnssec_ok) more-match),
      )

-- Nothing goes beside a set whose type has nothing beside it.
pub nothing-beside : (sets : List RRset) (first : RRset) (b : Bool) → has_additionals first.record_type ≡ false → records_if None ≡ sets_shown b (additionals sets first)
nothing-beside sets first b none = ap (sets_shown b) (sym (additionals-none sets first none))
