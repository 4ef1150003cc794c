-- Types in words.
use Rattle.std.proofs.Common.{◌≡◌}
use Rattle.std.specs.Prelude.{Result, Ok, Err, IfOk, Option, Some, None}
use Rattle.std.specs.Option.{ok_or}

pub if_ok : {T E : Type 0} {P Q : T → Type 0} → (r : Result T E) → ((v : T) → P v → Q v) → IfOk r P → IfOk r Q
if_ok (Ok v) f p = f v p
if_ok (Err e) f p = tt

-- What an answer says of an option.
pub answered : {X E : Type 0} → (o : Option X) (e : E) (x : X) → Ok x ≡ ok_or o e → o ≡ Some x
answered (Some y) e x same = cc same
answered None e x same = absurd (cc same)

pub unanswered : {X E : Type 0} → (o : Option X) (e f : E) → Err f ≡ ok_or o e → (x : X) → o ≡ Some x → ⊥
unanswered (Some y) e f same x is = cc same
unanswered None e f same x is = cc is
