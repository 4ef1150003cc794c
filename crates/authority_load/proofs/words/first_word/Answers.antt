use Rattle.std.proofs.Common.{◌≡◌, sym, ◌∙◌, ap, subst, ◌∷◌, take, drop, length, not, position, unwrap_or}
use Rattle.std.specs.Str.{IsCharBoundary}
use Rattle.dnw_lexer.specs.dnw_codes.Ascii.{is_blank}
use Rattle.authority_load.specs.ZoneText.{words_of}
use Rattle.authority_load.proofs.WordPlaces.{words_none, words_from, word_first, behind_first, plain_boundary, blank_boundary}
use Rattle.authority_load.proofs.words.first_word.Goals as goal

pub returns-in_err-first_plain : goal.returns-in_err-first_plain
returns-in_err-first_plain c =
    let same = ap (λ t. position (λ octet. not (is_blank octet)) t) (sym c.as_bytes.ensures.value) in
    rw c.from_residual.ensures (words_none c.args.text.now (same ∙ sym c.in_err-first_plain.ensures.place))

pub split_at-requires : goal.split_at-requires
split_at-requires c =
    let same = ap (λ t. position (λ octet. not (is_blank octet)) t) (sym c.as_bytes.ensures.value) in
    plain_boundary c.args.text.now _ c.utf8.text (same ∙ sym c.in_ok-first_plain.ensures.place)

pub split_at-requires-2 : goal.split_at-requires-2
split_at-requires-2 c =
    let rest = c.split_at.result.1.now in
    let cut = ap (position is_blank) (sym c.as_bytes-2.ensures.value) ∙ sym c.first_blank.ensures.place in
    subst (λ i. IsCharBoundary rest i) (sym c.unwrap_or-len.ensures) (blank_boundary rest c.first_blank.result cut)

pub returns : goal.returns
returns c =
    let rest = c.split_at.result.1.now in
    let found = ap (λ t. position (λ octet. not (is_blank octet)) t) (sym c.as_bytes.ensures.value) ∙ sym c.in_ok-first_plain.ensures.place in
    let cut = ap (position is_blank) (sym c.as_bytes-2.ensures.value) ∙ sym c.first_blank.ensures.place in
    let from = words_from c.args.text.now c.in_ok-first_plain.field-0 rest found c.split_at.ensures.back in
    let first = word_first rest from.2 from.1 c.first_blank.result cut in
    let len = c.unwrap_or-len.ensures in
    let front : c.split_at-2.result.0.now ≡ take (unwrap_or c.first_blank.result (length rest)) rest = c.split_at-2.ensures.front ∙ ap (λ n. take n rest) len in
    let behind : c.split_at-2.result.1.now ≡ drop (unwrap_or c.first_blank.result (length rest)) rest = c.split_at-2.ensures.back ∙ ap (λ n. drop n rest) len in (
      from.0 ∙ first ∙ ap (λ w. w ∷ words_of (drop (unwrap_or c.first_blank.result (length rest)) rest)) (sym front) ∙ ap (λ r. c.split_at-2.result.0.now ∷ words_of r) (sym behind),
      behind ∙ behind_first c.args.text.now c.in_ok-first_plain.field-0 rest c.first_blank.result found c.split_at.ensures.back cut,
    )
