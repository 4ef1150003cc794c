use Rattle.std.proofs.Common.{◌≡◌, ap, map, ◌∙◌}
use Rattle.std.specs.Prelude.{None}
use Rattle.std.specs.String.{string_bytes}
use Rattle.drd_types.specs.dnw_codes.declared.error.ParseError.TheVariants.{UnsupportedRecordType}
use Rattle.drd_svcb.specs.drd_words.Text.{IsSplitInto, TextRefused}
use Rattle.drd_svcb.specs.drd_words.Word.{IsOutOfMemory}
use Rattle.drd_rdata.specs.Texts.{IsTextOf, RefusesTextOf}
use Rattle.drd_rdata.proofs.Words.{ok_of, refused_of, only_of, fault_of}
use Rattle.drd_rdata.proofs.rdata.RData.try_from_str.Goals as goal

pub returns-clause-ok : goal.returns-clause-ok
returns-clause-ok c = ok_of (IsSplitInto c.args.text.now) (λ ws value. IsTextOf c.args.record_type ws None value) c.iter.result (map string_bytes c.in-Ok.words.items) c.from_tokens.result (ap (map string_bytes) (c.iter.ensures.rest ∙ c.deref.ensures.value)) c.in-Ok.ensures.ok c.from_tokens.ensures.ok

pub returns-clause-refused : goal.returns-clause-refused
returns-clause-refused c = refused_of (IsSplitInto c.args.text.now) (λ ws value. IsTextOf c.args.record_type ws None value) IsOutOfMemory (TextRefused c.args.text.now) (λ e. e ≡ UnsupportedRecordType c.args.record_type) c.iter.result (map string_bytes c.in-Ok.words.items) c.from_tokens.result (ap (map string_bytes) (c.iter.ensures.rest ∙ c.deref.ensures.value)) c.in-Ok.ensures.ok c.from_tokens.ensures.refused

pub returns-clause-only : goal.returns-clause-only
returns-clause-only c = λ words read.
    only_of (λ ws value. IsTextOf c.args.record_type ws None value) IsOutOfMemory (λ e. e ≡ UnsupportedRecordType c.args.record_type) c.iter.result words
    c.from_tokens.result (ap (map string_bytes) (c.iter.ensures.rest ∙ c.deref.ensures.value) ∙ c.in-Ok.ensures.only words read)
    c.from_tokens.ensures.ok c.from_tokens.ensures.refused

pub returns-clause-fault : goal.returns-clause-fault
returns-clause-fault c = λ has. fault_of (IsSplitInto c.args.text.now) (λ ws e. RefusesTextOf c.args.record_type ws None e) IsOutOfMemory (TextRefused c.args.text.now) c.iter.result (map string_bytes c.in-Ok.words.items) c.from_tokens.result (ap (map string_bytes) (c.iter.ensures.rest ∙ c.deref.ensures.value)) c.in-Ok.ensures.ok (c.from_tokens.ensures.cause has)
