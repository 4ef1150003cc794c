-- What iterators yield and responses hold: what a caller of `MessageResponse` cites.
use Rattle.std.proofs.Common.{◌≡◌, List, [], ◌∷◌, ◌++◌, Bor, refl, ap, sym, inl}
use Rattle.std.proofs.lemmas.Iterator.{YieldsList-from_slice}
use Rattle.std.specs.Iterator.{AlwaysYields, YieldsFirstBy, YieldsFirstRef}
use Rattle.std.specs.Iterator.Adapters.{once_item, once_steps}
use Rattle.std.specs.Prelude.{Option, Some, None, option_copied}
use Rattle.std.specs.Slice.Iter.{iter_rest, iter_steps}
use Rattle.std.specs.declared.iter.Once.{Once}
use Rattle.std.specs.declared.slice.Iter.{Iter}
use Rattle.zsv_request.specs.zsv_message.zst_record.Lending.{seen}
use Rattle.zsv_request.specs.zsv_message.zst_record.declared.records.Record.{Record}
use Rattle.zsv_reply.specs.declared.message_response.MessageResponse.{MessageResponse}
use Rattle.zsv_request.specs.zsv_message.zst_edns.declared.edns.Edns.{Edns}
use Rattle.zsv_request.specs.zsv_message.zsv_parts.Questions.{Asked}
use Rattle.zsv_request.specs.zsv_message.zsv_parts.declared.header.Metadata.{Metadata}
use Rattle.zsv_reply.specs.Building.{BuildsEmpty}
use Rattle.zsv_reply.specs.Iterators.{Supplies}
use Rattle.zsv_reply.specs.Lending.{Holds}

-- A slice's iterator yields the slice.
pub slice_yielded : (lender : Iter Record) (records : List Record) → iter_rest lender ≡ records → Supplies iter_steps (λ r. r.now) lender records
slice_yielded lender records is = inl (YieldsList-from_slice records is).runs

-- An iterator whose calls give the first of what is left yields what is left.
rest_given : {I : Type 0} (rest : I → List Record) (lender : I) (records : List Record) → rest lender ≡ records → AlwaysYields (YieldsFirstRef rest) (λ r. r.now) lender records
rest_given rest lender [] is = λ x next step. cc
rest_given rest lender (r ∷ rs) is = (λ next step. absurd (cc step.0), λ x next step. (cc, rest_given rest next rs (cc)))

pub rest_yielded : {I : Type 0} (rest : I → List Record) (lender : I) (records : List Record) → rest lender ≡ records → Supplies (YieldsFirstRef rest) (λ r. r.now) lender records
rest_yielded rest lender records is = inl (rest_given rest lender records is)

-- A response of such iterators holds what is left of each.
pub rest_held : {A N S D : Type 0} (answers : A → List Record) (authorities : N → List Record) (soa : S → List Record) (additionals : D → List Record) (response : MessageResponse A N S D) →
    Holds (YieldsFirstRef answers) (λ r. r.now) (YieldsFirstRef authorities) (λ r. r.now) (YieldsFirstRef soa) (λ r. r.now) (YieldsFirstRef additionals) (λ r. r.now) response
    (record { metadata = response.metadata; answers = answers response.answers; authorities = authorities response.authorities ++ soa response.soa; additionals = additionals response.additionals; edns = option_copied response.edns; signature = option_copied response.signature })
rest_held answers authorities soa additionals response = record {
  above = authorities response.authorities;
  behind = soa response.soa;
  metadata = refl;
  answers = rest_yielded answers response.answers (answers response.answers) refl;
  authorities = rest_yielded authorities response.authorities (authorities response.authorities) refl;
  soa = rest_yielded soa response.soa (soa response.soa) refl;
  section = refl;
  additionals = rest_yielded additionals response.additionals (additionals response.additionals) refl;
  edns = refl;
  signature = refl;
}

-- No item is none.
pub none_yielded : {A B : Type 0} (lent : A → B) (lender : Once A) → once_item lender ≡ None → Supplies once_steps lent lender []
none_yielded lent lender is = inl (λ x next step. cc (step.0, is))

-- A response that was made without records holds none.
pub empty_held : (metadata : Metadata) (queries : Bor Asked) (edns : Option (Bor Edns)) (response : MessageResponse (Once (Bor Record)) (Once (Bor Record)) (Once (Bor Record)) (Once (Bor Record))) → BuildsEmpty metadata queries edns response →
    Holds once_steps (λ r. r.now) once_steps (λ r. r.now) once_steps (λ r. r.now) once_steps (λ r. r.now) response
    (record { metadata = metadata; answers = []; authorities = []; additionals = []; edns = option_copied edns; signature = None })
empty_held metadata queries edns response made = record {
  above = [];
  behind = [];
  metadata = sym (ap (λ (r : MessageResponse (Once (Bor Record)) (Once (Bor Record)) (Once (Bor Record)) (Once (Bor Record))). r.metadata) made.is);
  answers = none_yielded (λ (r : Bor Record). r.now) response.answers made.answers;
  authorities = none_yielded (λ (r : Bor Record). r.now) response.authorities made.authorities;
  soa = none_yielded (λ (r : Bor Record). r.now) response.soa made.soa;
  section = refl;
  additionals = none_yielded (λ (r : Bor Record). r.now) response.additionals made.additionals;
  edns = sym (ap (λ (r : MessageResponse (Once (Bor Record)) (Once (Bor Record)) (Once (Bor Record)) (Once (Bor Record))). option_copied r.edns) made.is);
  signature = sym (ap (λ (r : MessageResponse (Once (Bor Record)) (Once (Bor Record)) (Once (Bor Record)) (Once (Bor Record))). option_copied r.signature) made.is);
}

-- One item in hand is yielded once, as what it lends.
pub once_yielded : {A B : Type 0} (lent : A → B) (lender : Once A) (x : A) → once_item lender ≡ Some x → Supplies once_steps lent lender (lent x ∷ [])
once_yielded lent lender x is = inl (λ next step. absurd (cc (step.0, is)), λ y next step. (ap lent (cc (step.0, is)), λ z after more. absurd (cc (step.1, more.0))))

-- The same where records are lent field by field.
lent_given : {I : Type 0} (rest : I → List Record) (lender : I) (records : List Record) → rest lender ≡ records → AlwaysYields (YieldsFirstBy (λ lent. seen lent) rest) (λ lent. seen lent) lender records
lent_given rest lender [] is = λ x next step. cc
lent_given rest lender (r ∷ rs) is = (λ next step. absurd (cc step.0), λ x next step. (cc, lent_given rest next rs (cc)))

pub lent_yielded : {I : Type 0} (rest : I → List Record) (lender : I) (records : List Record) → rest lender ≡ records → Supplies (YieldsFirstBy (λ lent. seen lent) rest) (λ lent. seen lent) lender records
lent_yielded rest lender records is = inl (lent_given rest lender records is)
