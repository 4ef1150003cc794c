-- Loading, line by line.
use Rattle.std.proofs.Common.{◌≡◌, refl, sym, ap, ◌∙◌, subst, ℕ, ◌+◌, ◌-◌, ◌<◌, ◌≤◌, Bool, true, false, List, [], ◌∷◌, ◌++◌, None, length, take, get_or, eqb, length-append, arith}
use Rattle.std.specs.List.{AllByRecursion, slice_split, join_with_byte}
use Rattle.std.specs.Str.Lines.{lines, lines_of_parts}
use Rattle.std.specs.Bool.{MatchBool}
use Rattle.std.proofs.lemmas.Bool.{eqb-false, true≢false}
use Rattle.std.proofs.lemmas.List.{take_more, get_or_default}
use Rattle.std.proofs.lemmas.List.Splits.{join_with_byte-slice_split}
use Rattle.zst_zone.specs.zst_record.declared.records.Record.{Record}
use Rattle.zst_zone.specs.zst_record.Records.{IsServable, belongs_to_message}
use Rattle.authority_load.specs.declared.loader.LoadCause.{LoadCause}
use Rattle.authority_load.specs.declared.loader.LoadCause.TheVariants as causes
use Rattle.zst_zone.specs.zst_handler.Zones.{AreInOrder, AreStored, Zone, ZoneReadsBack}
use Rattle.zst_zone.specs.dnw_codes.DNSClass.{same_class}
use Rattle.zst_zone.specs.dnw_codes.declared.dns_class.DNSClass.TheVariants.{IN}
use Rattle.zst_zone.specs.drd_rdata.Types.{type_of}
use Rattle.authority_load.proofs.Joined.{joins_reads_back}
use Rattle.authority_load.proofs.Sound.{IsAccepted, IsSound, joins_sound}
use Rattle.authority_load.proofs.TextTypes.{text_own, text_unsecured}
use Rattle.authority_load.specs.Loaded.{AliasesAlone, IsLoaded, IsLoadedSet}
use Rattle.authority_load.specs.Joining.{Joins}
use Rattle.authority_load.specs.ZoneText.{Loads, LoadsLine, IsTaken, RefusesLine, IsRefusedAt, is_skipped_line}

loads_push : (zone : Zone) (xs : List (List ℕ)) (x : List ℕ) (mid end : Zone) → Loads zone xs mid → LoadsLine mid x end → Loads zone (xs ++ x ∷ []) end
loads_push zone [] x mid end before more = (end, subst (λ z. LoadsLine z x end) before more, refl)
loads_push zone (y ∷ ys) x mid end before more = (before.0, before.1, loads_push before.0 ys x mid end before.2 more)

pub loads_more : (zone : Zone) (all : List (List ℕ)) (k : ℕ) (line : List ℕ) (mid end : Zone) → (k < length all) × (line ≡ get_or all k line) → Loads zone (take k all) mid → LoadsLine mid line end → Loads zone (take (k + 1) all) end
loads_more zone all k line mid end at before more =
    let e : take (k + 1) all ≡ take k all ++ get_or all k line ∷ [] = take_more all k line at.0 in
    subst (λ xs. Loads zone xs end) (sym e) (loads_push zone (take k all) (get_or all k line) mid end before (subst (λ x. LoadsLine mid x end) at.1 more))

-- A line changes the sets alone.
line_keeps : (zone : Zone) (line : List ℕ) (end : Zone) (skipped : Bool) → MatchBool skipped (end ≡ zone) ((r : Record) × IsTaken zone line r × Joins zone r end) → end ≡ record zone { sets = end.sets }
line_keeps zone line end true same = subst (λ z. end ≡ record z { sets = end.sets }) same refl
line_keeps zone line end false added = added.2.rest

pub loads_keep : (zone : Zone) (xs : List (List ℕ)) (end : Zone) → Loads zone xs end → end ≡ record zone { sets = end.sets }
loads_keep zone [] end same = subst (λ z. end ≡ record z { sets = end.sets }) same refl
loads_keep zone (x ∷ xs) end run =
    loads_keep run.0 xs end run.2 ∙ ap (λ (z : Zone). record z { sets = end.sets }) (line_keeps zone x run.0 (is_skipped_line x) run.1)

-- A line's record may be served: the type of a message's record is refused before.
taken_servable : (zone : Zone) (line : List ℕ) (r : Record) → IsTaken zone line r → IsServable r
taken_servable zone line r taken = record { alone = taken.joins.reads_back; of_zones = by (belongs_to_message (type_of r.rdata)) refl }
  where
    by : (b : Bool) → belongs_to_message (type_of r.rdata) ≡ b → belongs_to_message (type_of r.rdata) ≡ false
    by false e = e
    by true e = absurd (taken.no_cause causes.TypeNotLoaded (omega arith) (omega arith) (type_of r.rdata, taken.text.value.0, e))

-- What loads may be served, if what was there before may.
line_reads_back : (zone : Zone) (line : List ℕ) (end : Zone) (skipped : Bool) → MatchBool skipped (end ≡ zone) ((r : Record) × IsTaken zone line r × Joins zone r end) → ZoneReadsBack zone → ZoneReadsBack end
line_reads_back zone line end true same back = subst ZoneReadsBack (sym same) back
line_reads_back zone line end false added back = joins_reads_back zone end added.0 added.2 back (taken_servable zone line added.0 added.1)

pub loads_read_back : (zone : Zone) (xs : List (List ℕ)) (end : Zone) → Loads zone xs end → ZoneReadsBack zone → ZoneReadsBack end
loads_read_back zone [] end same back = subst ZoneReadsBack (sym same) back
loads_read_back zone (x ∷ xs) end run back = loads_read_back run.0 xs end run.2 (line_reads_back zone x run.0 (is_skipped_line x) run.1 back)

-- A zone stays as loaders make it.
taken_accepted : (zone : Zone) (line : List ℕ) (r : Record) → IsTaken zone line r → IsAccepted zone r
taken_accepted zone line r taken = record {
  inside = taken.inside;
  unsecured = text_unsecured (type_of r.rdata) taken.text.value.1.0 None r.rdata taken.text.value.1.2;
  own_type = text_own (type_of r.rdata) taken.text.value.1.0 None r.rdata taken.text.value.1.2;
  of_class = ap (λ c. same_class c IN) taken.text.class;
  no_alias = taken.joins.no_alias;
  no_second = taken.joins.no_second;
  fits = taken.fits;
}

line_sound : (zone : Zone) (line : List ℕ) (end : Zone) (skipped : Bool) → MatchBool skipped (end ≡ zone) ((r : Record) × IsTaken zone line r × Joins zone r end) → IsSound zone → IsSound end
line_sound zone line end true same sound = subst IsSound (sym same) sound
line_sound zone line end false added sound = joins_sound zone end added.0 (taken_accepted zone line added.0 added.1) (taken_servable zone line added.0 added.1) added.2 sound

loads_sound : (zone : Zone) (xs : List (List ℕ)) (end : Zone) → Loads zone xs end → IsSound zone → IsSound end
loads_sound zone [] end same sound = subst IsSound (sym same) sound
loads_sound zone (x ∷ xs) end run sound = loads_sound run.0 xs end run.2 (line_sound zone x run.0 (is_skipped_line x) run.1 sound)

-- From a zone without records on.
pub loads_loaded : (empty : Zone) (xs : List (List ℕ)) (end : Zone) → empty.sets ≡ [] → Loads empty xs end → AreInOrder end.sets → AreStored end.sets → IsLoaded end
loads_loaded empty xs end bare run ordered stored =
    let none : IsSound empty = record {
      sets = subst (AllByRecursion (IsLoadedSet empty.origin)) (sym bare) tt;
      aliases = subst AliasesAlone (sym bare) (λ name first second h k. absurd (true≢false (sym h)));
    } in
    let sound = loads_sound empty xs end run none in
    record { sets = sound.sets; aliases = sound.aliases; ordered = ordered; stored = stored }

lines_in : (parts : List (List ℕ)) → length (lines_of_parts parts) ≤ length (join_with_byte 10 parts)
lines_in [] = omega arith
lines_in (x ∷ []) = last x (eqb (length x) 0) refl
  where
    last : (x : List ℕ) (b : Bool) → eqb (length x) 0 ≡ b → length (lines_of_parts (x ∷ [])) ≤ length x
    last x true e = rw e (omega arith)
    last x false e = let some = eqb-false (length x) 0 e in rw e (omega arith)
lines_in (x ∷ y ∷ more) =
    let rest = lines_in (y ∷ more) in
    omega (arith, length-append x (10 ∷ join_with_byte 10 (y ∷ more)))

-- A text has at most as many lines as octets.
pub lines_at_most : (text : List ℕ) → length (lines text) ≤ length text
lines_at_most text =
    let in-parts = lines_in (slice_split (λ b. eqb b 10) text) in
    omega (arith, in-parts, ap length (join_with_byte-slice_split 10 text))

-- A line is refused behind those that load.
pub refused_at : (empty zone : Zone) (text : List ℕ) (k number : ℕ) (line : List ℕ) (cause : LoadCause) → (k < length (lines text)) × (line ≡ get_or (lines text) k line)
    → number ≡ k → Loads empty (take k (lines text)) zone → RefusesLine zone line cause → IsRefusedAt empty text (number + 1) cause
refused_at empty zone text k number line cause at same before refused =
    let place : number + 1 - 1 ≡ k = omega arith in
    let some : k < length (lines text) = at.0 in
    let there : line ≡ get_or (lines text) (number + 1 - 1) [] = at.1 ∙ get_or_default (lines text) k line [] at.0 ∙ ap (λ i. get_or (lines text) i []) (sym place) in
    record {
      zone = zone;
      before = subst (λ i. Loads empty (take i (lines text)) zone) (sym place) before;
      there = (omega arith, omega arith);
      refused = subst (λ x. RefusesLine zone x cause) there refused;
    }
