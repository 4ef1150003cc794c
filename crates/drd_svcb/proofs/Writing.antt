-- Parameters that are written behind the priority and the target.
use Rattle.std.proofs.Common.{◌≡◌, ◌≤◌, ◌+◌, ℕ, ◌⊎◌, inl, inr, List, [], ◌∷◌, ◌++◌, length, length-append, append_assoc, append-nil, refl, sym, ap, subst, ◌∙◌, arith}
use Rattle.std.specs.Prelude.{Result, Ok, Err, IfErr}
use Rattle.drd_params.specs.dnw_codes.declared.error.ProtoError.{ProtoError}
use Rattle.drd_params.specs.dnw_decoder.Octets.{Stands, octets_16}
use Rattle.drd_params.specs.dnw_encoder.Effects.{IsRefusal, SameModes, StaysTrue, Writes, WritesOctets}
use Rattle.drd_params.specs.dnw_encoder.Names.{encoded_name}
use Rattle.drd_params.specs.dnw_encoder.State.{State}
use Rattle.drd_params.specs.dnw_encoder.declared.modes.NameEncoding.TheVariants.{Uncompressed}
use Rattle.drd_params.specs.dnw_encoder.declared.modes.RDataEncoding.TheVariants.{Other}
use Rattle.drd_params.specs.dnw_name.DomainName.{DomainName, name_octets}
use Rattle.drd_params.specs.drd_fields.Fields.{Field, FieldsAt, name, short}
use Rattle.drd_params.specs.drd_fields.Writing.{EmitsData, EndsWithin, RefusesFields, fields_octets}
use Rattle.drd_params.proofs.dnw_encoder_lemmas.Laws.{holds_more, holds_written, puts_stands}
use Rattle.drd_params.proofs.drd_fields_lemmas.WritingLaws.{puts_then, refused_later, within_then}
use Rattle.drd_params.specs.Params.{AreParams, Param, params_octets}
use Rattle.drd_params.specs.Writing.{RefusesWriting}
use Rattle.drd_svcb.specs.Fields.{svcb_fields, svcb_parts}
use Rattle.drd_svcb.specs.Writing.{RefusesEmitSvcb}
use Rattle.drd_svcb.specs.declared.svcb.SVCB.{SVCB}

-- The priority and the target.
abbrev pub front_parts : ℕ → DomainName → List Field
front_parts priority target = short priority ∷ name target ∷ []

whole_octets : (a : ℕ) (n : DomainName) (octets : List ℕ) → fields_octets (front_parts a n) ++ octets ≡ fields_octets (svcb_parts a n octets)
whole_octets a n octets =
    append_assoc (octets_16 a) (name_octets n ++ []) octets
    ∙ ap (λ (o : List ℕ). octets_16 a ++ o) (append_assoc (name_octets n) [] octets ∙ ap (λ (o : List ℕ). name_octets n ++ o) (sym (append-nil octets)))

whole_length : (a : ℕ) (n : DomainName) (octets : List ℕ) → length (fields_octets (front_parts a n)) + length octets ≡ length (fields_octets (svcb_parts a n octets))
whole_length a n octets = sym (length-append (fields_octets (front_parts a n)) octets) ∙ ap length (whole_octets a n octets)

rest_behind : (message : List ℕ) (place a : ℕ) (n : DomainName) (octets : List ℕ) (mid end : ℕ) → FieldsAt message place (front_parts a n) mid → Stands message mid octets end → FieldsAt message place (svcb_parts a n octets) end
rest_behind message place a n octets mid end front last =
    (front.0, front.1, (front.2.0, front.2.1, (end, subst (λ (k : ℕ). Stands message k octets end) front.2.2 last, refl)))

pub parts-written : (a : ℕ) (n : DomainName) (octets : List ℕ) (old mid new : State) → old.offset ≤ length old.octets → EmitsData Other (front_parts a n) old mid → Writes old mid → WritesOctets octets mid new → Writes mid new → EndsWithin mid new → EmitsData Other (svcb_parts a n octets) old new
parts-written a n octets old mid new le front v puts w ends =
    let written = encoded_name Uncompressed n in
    record {
      stays = λ sound.
          let there : StaysTrue new new.offset (λ message. FieldsAt message old.offset (front_parts a written) mid.offset) =
          holds_more mid.offset new.offset new (λ message. FieldsAt message old.offset (front_parts a written) mid.offset) w.forward
          (holds_written mid.offset mid new (λ message. FieldsAt message old.offset (front_parts a written) mid.offset) w (omega arith) (front.stays sound)) in
          let last = puts_stands octets mid new (v.sound sound) puts in
          record { of = λ later agrees. rest_behind later old.offset a written octets mid.offset new.offset (there.of later agrees) (last.of later agrees) };
      size = omega (arith, front.size, puts.offset, whole_length a n octets);
      exact = λ plain. subst (λ (o : List ℕ). WritesOctets o old new) (whole_octets a written octets) (puts_then (fields_octets (front_parts a written)) octets old mid new le (front.exact plain) puts);
      candidates = omega (arith, front.candidates, ap length puts.candidates);
      within = within_then old mid new v.modes.maximum w.forward front.within ends;
    }

-- A refusal of the parameters is one of the whole.
pub params-refused : {V : Type 0} (r : Result V ProtoError) (svcb : SVCB) (params : List Param) (old mid : State) → params ≡ svcb.svc_params.items → SameModes old mid → mid.offset ≤ old.offset + length (fields_octets (front_parts svcb.svc_priority svcb.target_name)) → IfErr r (λ e. IsRefusal mid (length (params_octets params)) e ⊎ RefusesWriting params e) → (AreParams params → IfErr r (λ e. IsRefusal mid (length (params_octets params)) e)) → IfErr r (RefusesEmitSvcb svcb old)
params-refused (Ok v) svcb params old mid same modes far why read = tt
params-refused (Err e) svcb params old mid same modes far why read = record {
  cause = by_cause why;
  read = λ are. whole (read (subst (λ (ps : List Param). AreParams ps) (sym same) are));
}
  where
    front : ℕ
    front = length (fields_octets (front_parts svcb.svc_priority svcb.target_name))

    whole : IsRefusal mid (length (params_octets params)) e → IsRefusal old (length (fields_octets (svcb_fields svcb))) e
    whole refused =
        subst (λ (k : ℕ). IsRefusal old k e)
        (ap (λ (ps : List Param). front + length (params_octets ps)) same ∙ whole_length svcb.svc_priority svcb.target_name (params_octets svcb.svc_params.items))
        (refused_later (length (params_octets params)) front old mid e modes far refused)

    by_cause : IsRefusal mid (length (params_octets params)) e ⊎ RefusesWriting params e → RefusesFields (svcb_fields svcb) old e ⊎ RefusesWriting svcb.svc_params.items e
    by_cause (inl refused) = inl (inl (whole refused))
    by_cause (inr unwritable) = inr (subst (λ (ps : List Param). RefusesWriting ps e) same unwritable)
