-- Copies of records, one more at a time.
use Rattle.std.proofs.Common.{◌≡◌, ℕ, ◌+◌, ◌<◌, Bool, true, false, not, List, [], ◌∷◌, ◌++◌, get_or, length, take, refl, subst, sym}
use Rattle.std.proofs.lemmas.Bool.{true≢false}
use Rattle.std.proofs.lemmas.List.{take_more}
use Rattle.zsv_answer.specs.zsv_reply.zst_record.declared.records.Record.{Record}
use Rattle.zsv_catalog.specs.Requests.{AreCopies, IsCopy}

pub is_true : (b : Bool) → not b ≡ false → b ≡ true
is_true true is = refl
is_true false is = absurd (true≢false is)

one_copy : (rs copies : List Record) (r copy : Record) → AreCopies rs copies → IsCopy r copy → AreCopies (rs ++ r ∷ []) (copies ++ copy ∷ [])
one_copy [] [] r copy all one = (one, tt)
one_copy [] (c ∷ cs) r copy all one = absurd all
one_copy (s ∷ rs) [] r copy all one = absurd all
one_copy (s ∷ rs) (c ∷ cs) r copy all one = (all.0, one_copy rs cs r copy all.1 one)

pub more_copies : (rs copies : List Record) (count : ℕ) (d r copy : Record) (later : List Record) → count < length rs → r ≡ get_or rs count d → AreCopies (take count rs) copies → IsCopy r copy → later ≡ copies ++ copy ∷ [] → AreCopies (take (count + 1) rs) later
more_copies rs copies count d r copy later more is all one pushed =
    subst (AreCopies (take (count + 1) rs)) (sym pushed)
    (subst (λ (xs : List Record). AreCopies xs (copies ++ copy ∷ [])) (sym (take_more rs count d more)) (one_copy (take count rs) copies (get_or rs count d) copy all (subst (λ (x : Record). IsCopy x copy) is one)))
