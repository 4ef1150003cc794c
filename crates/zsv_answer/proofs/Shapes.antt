-- What a response holds where nothing was found, and where an answer is all that it holds.
use Rattle.std.proofs.Common.{◌≡◌, ◌∙◌, Bool, true, false, List, [], ◌++◌, Some, None, Option, refl, sym, ap, true≢false}
use Rattle.std.specs.Prelude.{◌&&◌, if◌then◌else◌, is_none}
use Rattle.zsv_reply.specs.zst_record.declared.records.Record.{Record}
use Rattle.zst_request.specs.dnw_codes.declared.record_type.RecordType.{RecordType}
use Rattle.zst_request.specs.zst_handler.Answers.{additionals_in, answers_in, records_in}
use Rattle.zst_request.specs.zst_handler.declared.auth_lookup.AuthLookup.{AuthLookup}
use Rattle.zst_request.specs.zst_handler.declared.auth_lookup.AuthLookup.TheVariants as auths
use Rattle.zst_request.specs.zst_handler.declared.lookup_records.LookupRecords.{LookupRecords}
use Rattle.zst_request.specs.zst_handler.declared.lookup_records.LookupRecords.TheVariants as lookups
use Rattle.zsv_answer.specs.Responses.{denial_of, has_no_authority, is_empty, parts_of, parts_with}
use Rattle.zsv_answer.specs.Shown.{shown_if}
use Rattle.zsv_answer.specs.declared.response.Response.{Response}

either_way : (b : Bool) (records : List Record) → (if b then records else records) ≡ records
either_way true records = refl
either_way false records = refl

none_shown : (asked : Option RecordType) → shown_if asked [] ≡ []
none_shown None = refl
none_shown (Some record_type) = refl

-- A referral of no records, or an answer of none.
none_found : (r : Response) (referral : Bool) (beside : List Record) → parts_with r.metadata referral [] [] beside ≡ parts_with r.metadata false [] [] beside
none_found r true beside = refl
none_found r false beside = refl

-- A list that is empty holds none.
empty_records : (list : LookupRecords) → is_empty list ≡ true → records_in list ≡ []
empty_records lookups.Empty e = refl
empty_records (lookups.Records options set) e = absurd (true≢false (sym e))
empty_records (lookups.ManyRecords options many) e = absurd (true≢false (sym e))
empty_records (lookups.Section records) e = absurd (true≢false (sym e))

none_denied : (referral : Bool) (denial : LookupRecords) → is_empty denial ≡ true → (if referral then [] else records_in denial) ≡ []
none_denied true denial e = refl
none_denied false denial e = empty_records denial e

-- Where nothing was found and nothing is denied, what is beside is all.
pub beside_alone : (r : Response) → r.found ≡ auths.Empty → is_empty r.denial ≡ true → parts_with r.metadata false [] [] (records_in r.beside) ≡ parts_of r
beside_alone r found undenied =
    let beside = records_in r.beside in
    sym (ap (λ (f : AuthLookup). parts_with r.metadata r.is_referral (shown_if r.asked (answers_in f)) (if r.is_forwarded then [] else additionals_in f) (denial_of r ++ beside)) found
    ∙ ap (λ (denial : List Record). parts_with r.metadata r.is_referral (shown_if r.asked []) (if r.is_forwarded then [] else []) (denial ++ beside)) (none_denied r.is_referral r.denial undenied)
    ∙ ap (λ (shown : List Record). parts_with r.metadata r.is_referral shown (if r.is_forwarded then [] else []) beside) (none_shown r.asked)
    ∙ ap (λ (more : List Record). parts_with r.metadata r.is_referral [] more beside) (either_way r.is_forwarded [])
    ∙ none_found r r.is_referral beside)

both_true : (a b : Bool) → (a && b) ≡ true → (a ≡ true) × (b ≡ true)
both_true true b e = (refl, e)
both_true false b e = absurd (true≢false (sym e))

no_authority : (referral : Bool) (denial beside : LookupRecords) → has_no_authority referral denial beside ≡ true → (referral ≡ false) × ((if referral then [] else records_in denial) ++ records_in beside ≡ [])
no_authority true denial beside e = absurd (true≢false (sym e))
no_authority false denial beside e =
    let both = both_true (is_empty denial) (is_empty beside) e in
    (refl, ap (λ (records : List Record). records ++ records_in beside) (empty_records denial both.0) ∙ empty_records beside both.1)

-- Where nothing goes with an answer, and nothing is authority, it is all.
pub answer_alone : (r : Response) (answers : LookupRecords) (additionals : Option LookupRecords) → additionals ≡ None → r.found ≡ auths.Records answers additionals → has_no_authority r.is_referral r.denial r.beside ≡ true
    → parts_with r.metadata false (shown_if r.asked (records_in answers)) [] [] ≡ parts_of r
answer_alone r answers additionals none_go found alone =
    let none = no_authority r.is_referral r.denial r.beside alone in
    let authority = denial_of r ++ records_in r.beside in
    let shown = shown_if r.asked (records_in answers) in
    sym (ap (λ (f : AuthLookup). parts_with r.metadata r.is_referral (shown_if r.asked (answers_in f)) (if r.is_forwarded then [] else additionals_in f) authority) (found ∙ ap (auths.Records answers) none_go)
    ∙ ap (λ (more : List Record). parts_with r.metadata r.is_referral shown more authority) (either_way r.is_forwarded [])
    ∙ ap (λ (referral : Bool). parts_with r.metadata referral shown [] authority) none.0
    ∙ ap (λ (beside : List Record). parts_with r.metadata false shown [] beside) none.1)

-- There is nothing where nothing is told to be.
pub none_there : (o : Option LookupRecords) → is_none o ≡ true → o ≡ None
none_there None told = refl
none_there (Some more) told = absurd (true≢false (sym told))

-- A response whose lists were given back holds no records.
pub none_left : (r : Response) → r.found ≡ auths.Empty → r.denial ≡ lookups.Empty → r.beside ≡ lookups.Empty → parts_of r ≡ parts_with r.metadata false [] [] []
none_left r found denial beside =
    sym (beside_alone r found (ap is_empty denial)) ∙ ap (λ (records : LookupRecords). parts_with r.metadata false [] [] (records_in records)) beside

-- What is authority: a referral or what denies, then what is beside.
pub authority_parts : (referral : Bool) (shown denial beside : List Record)
    → (if referral then shown else []) ++ ((if referral then [] else denial) ++ beside) ≡ (if referral then shown else denial) ++ beside
authority_parts true shown denial beside = refl
authority_parts false shown denial beside = refl
