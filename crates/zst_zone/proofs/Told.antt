-- What a zone's handler tells of a lookup.
use Rattle.std.proofs.Common.{◌≡◌, Bool, true, false, cond, List, [], ◌∷◌, refl, sym, ◌∙◌, true≢false}
use Rattle.std.specs.Prelude.{Option, Some, None, Ok, Err}
use Rattle.zst_circle.specs.dnw_codes.declared.record_type.RecordType.{RecordType}
use Rattle.zst_circle.specs.dnw_codes.declared.record_type.RecordType.TheVariants as kind
use Rattle.zst_circle.specs.dnw_codes.RecordType.{same_record_type}
use Rattle.zst_circle.specs.dnw_name.DomainName.{DomainName, is_at_or_below}
use Rattle.zst_circle.specs.zst_record.RecordSets.{RRset}
use Rattle.zst_circle.specs.zst_codes.declared.lookup_control_flow.LookupControlFlow.{LookupControlFlow}
use Rattle.zst_circle.specs.zst_codes.declared.lookup_control_flow.LookupControlFlow.TheVariants as flows
use Rattle.zst_circle.specs.zst_codes.declared.lookup_error.LookupError.{LookupError}
use Rattle.zst_circle.specs.zst_handler.declared.auth_lookup.AuthLookup.{AuthLookup}
use Rattle.zst_circle.specs.zst_handler.declared.lookup_options.LookupOptions.{LookupOptions}
use Rattle.zst_circle.specs.zst_handler.Answers.{LookupAnswers, Tells, denial_error}
use Rattle.zst_circle.specs.zst_handler.Found.{found}
use Rattle.zst_circle.specs.zst_handler.Lookups.{LookupFrom, Outcome, all_outcome, answered, denial, name_error, name_exists, out_of_zone, sets_of_name}
use Rattle.zst_circle.specs.zst_handler.Zones.{Zone, exists_in}
use Rattle.zst_zone.specs.Answering.{AnswersAll, AnswersOne}

module _ (zone : Zone) (name : DomainName) (t : RecordType) (options : LookupOptions) where
  -- What is told where this was found.
  abbrev ToldOf : Option AuthLookup → LookupControlFlow AuthLookup LookupError → Type 0
  ToldOf None flow = flow ≡ flows.Continue (Err (denial_error (denial zone name)))
  ToldOf (Some found) flow = flow ≡ flows.Continue (Ok found)

  tells_denied : (there inside : Bool) (flow : LookupControlFlow AuthLookup LookupError) → flow ≡ flows.Continue (Err (denial_error (cond there name_exists (cond inside name_error out_of_zone))))
      → Tells options (cond there name_exists (cond inside name_error out_of_zone)) flow
  tells_denied true inside flow e = e
  tells_denied false true flow e = e
  tells_denied false false flow e = e

  told_all : (sets : List RRset) (answer : Option AuthLookup) (flow : LookupControlFlow AuthLookup LookupError) → AnswersAll options sets answer → ToldOf answer flow
      → Tells options (all_outcome zone name sets) flow
  told_all [] None flow is told = tells_denied (exists_in zone.sets name) (is_at_or_below name zone.origin) flow told
  told_all [] (Some found) flow is told = let h : ⊥ = cc in absurd h
  told_all (set ∷ sets) None flow is told = absurd is
  told_all (set ∷ sets) (Some found) flow is told = (found, told, is)

  record TellsFirst (first : Option RRset) (flow : LookupControlFlow AuthLookup LookupError) : Type 0 where
    outcome : Outcome
    from : LookupFrom zone name t first outcome
    told : Tells options outcome flow

  told_one : (first : Option RRset) (answer : Option AuthLookup) (flow : LookupControlFlow AuthLookup LookupError) → AnswersOne options zone.sets name t first answer → ToldOf answer flow
      → TellsFirst first flow
  told_one None None flow is told =
      record { outcome = denial zone name; from = refl; told = tells_denied (exists_in zone.sets name) (is_at_or_below name zone.origin) flow told }
  told_one None (Some found) flow is told = let h : ⊥ = cc in absurd h
  told_one (Some first) None flow is told = absurd is
  told_one (Some first) (Some found) flow is told =
      record { outcome = answered is.0; from = (is.0, refl, is.1); told = (found, told, is.2) }

  pub tells : (answer : Option AuthLookup) (flow : LookupControlFlow AuthLookup LookupError)
      → (same_record_type t kind.ANY ≡ true → AnswersAll options (sets_of_name zone.sets name) answer)
      → (same_record_type t kind.ANY ≡ false → AnswersOne options zone.sets name t (found zone.sets name t) answer)
      → ToldOf answer flow → LookupAnswers zone name t options flow
  tells answer flow all one told = by (same_record_type t kind.ANY) refl
    where
      by : (b : Bool) → same_record_type t kind.ANY ≡ b → LookupAnswers zone name t options flow
      by true any = record {
        outcome = all_outcome zone name (sets_of_name zone.sets name);
        is = record { any = λ e. refl; one = λ e. absurd (true≢false (sym any ∙ e)) };
        told = told_all (sets_of_name zone.sets name) answer flow (all any) told;
      }
      by false any =
          let first = told_one (found zone.sets name t) answer flow (one any) told in
          record {
            outcome = first.outcome;
            is = record { any = λ e. absurd (true≢false (sym e ∙ any)); one = λ e. first.from };
            told = first.told;
          }
