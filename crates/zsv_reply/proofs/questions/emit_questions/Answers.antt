use Rattle.std.proofs.Common.{◌∙◌, List, ap, subst, arith}
use Rattle.std.specs.Prelude.{slice_get}
use Rattle.std.proofs.lemmas.Result.{on_ok_weaker}
use Rattle.zsv_request.specs.zsv_message.zst_record.dnw_encoder.Effects.{StoresName, WritesOctets}
use Rattle.zsv_request.specs.zsv_message.zst_record.dnw_encoder.Encoders.{state}
use Rattle.zsv_request.specs.zsv_message.zst_record.dnw_encoder.Members.{In}
use Rattle.zsv_request.specs.zsv_message.zst_record.dnw_encoder.declared.open_places.OpenPlace.{OpenPlace}
use Rattle.zsv_request.specs.zsv_message.zsv_parts.declared.question.Query.{Query}
use Rattle.zsv_reply.proofs.Asking.{asks_first, asks_nothing, labels_first, labels_none, stored_or_not}
use Rattle.zsv_reply.proofs.questions.emit_questions.Goals as goal

pub store_name-requires : goal.store_name-requires
store_name-requires c r member low high =
    let before = c.requires.stands.places r (subst (λ (rs : List OpenPlace). In r rs) c.in_ok-emit_vec.ensures.ok.places member) in
    omega (arith, before, c.requires.at_end, low, c.offset-start.ensures.value)

pub returns-in-Some-clause-writes : goal.returns-in-Some-clause-writes
returns-in-Some-clause-writes c =
    stored_or_not c.in-Some.query.now.name c.offset-start.result (state c.args.encoder.now) (state c.emit_vec.new.self) (state c.store_name.new.self) c.store_name.result c.in_ok-emit_vec.ensures.writes (omega (arith, c.offset-start.ensures.value)) c.store_name.ensures.ok c.store_name.ensures.err

pub returns-in-Some-clause-ok : goal.returns-in-Some-clause-ok
returns-in-Some-clause-ok c =
    let old = state c.args.encoder.now in
    let mid = state c.emit_vec.new.self in
    let new = state c.store_name.new.self in
    let name = c.in-Some.query.now.name in
    on_ok_weaker c.store_name.result (λ stores.
    asks_first c.args.queries.now name old mid new c.requires
    (subst (λ octets. WritesOctets octets old mid) c.as_bytes.ensures c.in_ok-emit_vec.ensures.ok)
    (labels_first c.args.queries.now.questions c.in-Some.query.now (c.in-Some.ensures.value ∙ ap (λ (qs : List Query). slice_get qs 0) c.queries.ensures.value))
    (subst (λ start. StoresName name start mid new) c.offset-start.ensures.value stores))
    c.store_name.ensures.ok

pub returns-in-None-clause-ok : goal.returns-in-None-clause-ok
returns-in-None-clause-ok c =
    let old = state c.args.encoder.now in
    let mid = state c.emit_vec.new.self in
    asks_nothing c.args.queries.now old mid c.requires
    (subst (λ octets. WritesOctets octets old mid) c.as_bytes.ensures c.in_ok-emit_vec.ensures.ok)
    (labels_none c.args.queries.now.questions (c.in-None.ensures.value ∙ ap (λ (qs : List Query). slice_get qs 0) c.queries.ensures.value))
