-- What is taken of a reply leaves a zone as loaders make it.
use Rattle.std.proofs.Common.{◌≡◌, refl, sym, subst, ℕ, ◌+◌}
use Rattle.std.proofs.lemmas.Bool.{true≢false}
use Rattle.std.specs.Prelude.{Bool, true, false, not, ◌&&◌, List, [], ◌∷◌, Some, None, cond}
use Rattle.std.specs.List.{AllByRecursion}
use Rattle.drd_record_data.specs.Numbers.{NumbersFit}
use Rattle.zsv_message.specs.zst_record.Records.{IsServable}
use Rattle.zsv_message.specs.zst_record.RecordSets.{RRset}
use Rattle.zsv_message.specs.zst_record.declared.records.Record.{Record}
use Rattle.zsv_message.specs.zst_record.dnw_codes.DNSClass.{same_class}
use Rattle.zsv_message.specs.zst_record.dnw_codes.declared.dns_class.DNSClass.TheVariants.{IN}
use Rattle.zsv_message.specs.zst_record.dnw_name.DomainName.{DomainName, is_at_or_below}
use Rattle.zsv_message.specs.zst_record.drd_rdata.Types.{type_of}
use Rattle.authority_load.specs.Joining.{is_beside_alias, is_second_start}
use Rattle.authority_load.specs.Loaded.{AliasesAlone, IsLoaded, IsLoadedRecord, IsLoadedSet, added_by_signing}
use Rattle.authority_load.specs.zst_zone.zst_handler.Zones.{AreInOrder, AreStored, SetReadsBack, Zone, ZoneReadsBack}
use Rattle.authority_load.proofs.Sound.{IsAccepted, IsSound, joins_sound}
use Rattle.authority_transfer.specs.Transfers.{AllNumbersFit, TakesAll, TakesFrom, but_last, record_fault}
use Rattle.authority_transfer.specs.declared.error.TransferError.TheVariants as errors
use Rattle.authority_transfer.proofs.Received.{IsReceived}

-- ---- a record that isn't refused
accepted : (zone : Zone) (index : ℕ) (r : Record) → record_fault zone index r ≡ None → IsReceived r → NumbersFit r.rdata → IsAccepted zone r
accepted zone index r e received fits =
    by (is_at_or_below r.name zone.origin) (added_by_signing (type_of r.rdata)) (same_class r.dns_class IN) (is_beside_alias zone.sets r) (is_second_start zone.sets r) refl refl refl refl refl e
  where
    by : (a b c d f : Bool) → is_at_or_below r.name zone.origin ≡ a → added_by_signing (type_of r.rdata) ≡ b → same_class r.dns_class IN ≡ c → is_beside_alias zone.sets r ≡ d → is_second_start zone.sets r ≡ f
        → cond (not a) (Some errors.OutsideZone) (cond b (Some errors.DnssecRecord) (cond (c && (not d && not f)) None (Some (errors.Record index)))) ≡ None → IsAccepted zone r
    by true false true false false ea eb ec ed ef none = record { inside = ea; unsecured = eb; own_type = received.own_type; of_class = ec; no_alias = ed; no_second = ef; fits = fits }
    by false b c d f ea eb ec ed ef none = absurd (cc none)
    by true true c d f ea eb ec ed ef none = absurd (cc none)
    by true false false d f ea eb ec ed ef none = absurd (cc none)
    by true false true true f ea eb ec ed ef none = absurd (cc none)
    by true false true false true ea eb ec ed ef none = absurd (cc none)

takes_sound : (index : ℕ) (zone : Zone) (rs : List Record) (end : Zone) → TakesFrom index zone rs end → AllByRecursion IsReceived rs → AllNumbersFit rs → IsSound zone → IsSound end
takes_sound index zone [] end same received fits sound = subst IsSound (sym same) sound
takes_sound index zone (r ∷ rs) end (none, next, joins, later) received fits sound =
    takes_sound (index + 1) next rs end later received.1 fits.1
    (joins_sound zone next r (accepted zone index r none received.0 fits.0) received.0.servable joins sound)

-- From a zone without records on.
pub takes_loaded : (empty : Zone) (rs : List Record) (end : Zone) → empty.sets ≡ [] → TakesAll empty rs end → AllByRecursion IsReceived rs → AllNumbersFit rs → AreInOrder end.sets → AreStored end.sets → IsLoaded end
takes_loaded empty rs end bare takes received fits ordered stored =
    let none : IsSound empty = record {
      sets = subst (AllByRecursion (IsLoadedSet empty.origin)) (sym bare) tt;
      aliases = subst AliasesAlone (sym bare) (λ name first second h k. absurd (true≢false (sym h)));
    } in
    let sound = takes_sound 0 empty rs end takes received fits none in
    record { sets = sound.sets; aliases = sound.aliases; ordered = ordered; stored = stored }

-- ---- a loaded zone may be served
records_back : (origin : DomainName) (set : RRset) (rs : List Record) → AllByRecursion (IsLoadedRecord origin set) rs → AllByRecursion IsServable rs
records_back origin set [] all = tt
records_back origin set (r ∷ rs) all = (all.0.servable, records_back origin set rs all.1)

sets_back : (origin : DomainName) (sets : List RRset) → AllByRecursion (IsLoadedSet origin) sets → AllByRecursion SetReadsBack sets
sets_back origin [] all = tt
sets_back origin (s ∷ sets) all = (
  record { records = records_back origin s s.records all.0.records; signatures = subst (AllByRecursion IsServable) (sym all.0.unsigned) tt },
  sets_back origin sets all.1,
)

pub loaded_back : (zone : Zone) → IsLoaded zone → ZoneReadsBack zone
loaded_back zone loaded = sets_back zone.origin zone.sets loaded.sets

-- ---- all answers but the last
pub all_but : (P : Record → Type 0) (rs : List Record) → AllByRecursion P rs → AllByRecursion P (but_last rs)
all_but P [] all = tt
all_but P (r ∷ []) all = tt
all_but P (r ∷ s ∷ rs) all = (all.0, all_but P (s ∷ rs) all.1)
