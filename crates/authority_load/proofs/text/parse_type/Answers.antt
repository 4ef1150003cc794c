use Rattle.std.proofs.Common.{◌≡◌, ◌∙◌, sym, ap, rules}
use Rattle.std.specs.Prelude.{Option, Some, None, Ok}
use Rattle.std.specs.Option.{ok_or}
use Rattle.std.specs.Str.{str_to_ascii_uppercase}
use Rattle.zst_zone.specs.dnw_codes.declared.record_type.RecordType.{RecordType}
use Rattle.zst_zone.specs.dnw_codes.RecordType.{record_type_of_text}
use Rattle.authority_load.proofs.text.parse_type.Goals as goal

found : {E : Type 0} → (o : Option RecordType) (e : E) (t : RecordType) → Ok t ≡ ok_or o e → o ≡ Some t
found None e t is = absurd (cc)
found (Some u) e t is = let same : t ≡ u = cc in ap (λ (x : RecordType). Some x) (sym same)

pub returns-in-Ok-read : goal.returns-in-Ok-read
returns-in-Ok-read c =
    let text : c.as_str.result.now ≡ str_to_ascii_uppercase c.args.word.now = search rules in
    ap record_type_of_text (sym text) ∙ found (record_type_of_text c.as_str.result.now) _ c.in-Ok-read.record_type c.in-Ok-read.ensures.value
