-- What the answer of one handler says to those behind it in a chain.
use Rattle.std.specs.Prelude.{ℕ, ◌≡◌, Bool, true, false, List, codes, Option, Some, None, Result, Ok, Err, IsOk, IsErr, IsOkAnd, IsErrAnd, IsSomeAnd, MatchResult}
use Rattle.zst_codes.specs.declared.lookup_control_flow.LookupControlFlow.{LookupControlFlow}
use Rattle.zst_codes.specs.declared.lookup_control_flow.LookupControlFlow.TheVariants.{Continue, Break, Skip}

-- The handlers behind this one may change the result.
abbrev pub is_continue : {T E : Type 0} → LookupControlFlow T E → Bool
is_continue (Continue r) = true
is_continue other = false

-- No handler behind this one is asked.
abbrev pub is_break : {T E : Type 0} → LookupControlFlow T E → Bool
is_break (Break r) = true
is_break other = false

-- The result; a handler that did not answer has none.
abbrev pub flow_result : {T E : Type 0} → LookupControlFlow T E → Option (Result T E)
flow_result (Continue r) = Some r
flow_result (Break r) = Some r
flow_result Skip = None

-- There is a result, and it is `Ok`.
abbrev pub HoldsOk : {T E : Type 0} → LookupControlFlow T E → Type 0
HoldsOk flow = IsSomeAnd (flow_result flow) (λ r. IsOk r)

-- There is a result, and it is `Err`.
abbrev pub HoldsErr : {T E : Type 0} → LookupControlFlow T E → Type 0
HoldsErr flow = IsSomeAnd (flow_result flow) (λ r. IsErr r)

-- P of the value, where the result is `Ok`.
abbrev pub ForHeldOk : {T E : Type 0} → LookupControlFlow T E → (T → Type 0) → Type 0
ForHeldOk {T} flow P = (x : T) → flow_result flow ≡ Some (Ok x) → P x

-- P of the error, where the result is `Err`.
abbrev pub ForHeldErr : {T E : Type 0} → LookupControlFlow T E → (E → Type 0) → Type 0
ForHeldErr {E = E} flow P = (e : E) → flow_result flow ≡ Some (Err e) → P e

-- The value of the result, or else one of which P holds.
abbrev pub UnwrapsFlowOrElse : {T E : Type 0} → LookupControlFlow T E → (T → Type 0) → T → Type 0
UnwrapsFlowOrElse (Continue (Ok x)) P value = value ≡ x
UnwrapsFlowOrElse (Break (Ok x)) P value = value ≡ x
UnwrapsFlowOrElse other P value = P value

-- Both continue, both break off or both skip, and their results are so related.
abbrev pub KeepsFlow : {T E U D : Type 0} → (Result T E → Result U D → Type 0)
    → LookupControlFlow T E → LookupControlFlow U D → Type 0
KeepsFlow R (Continue r) (Continue s) = R r s
KeepsFlow R (Break r) (Break s) = R r s
KeepsFlow R Skip Skip = Unit {0}
KeepsFlow R flow other = ⊥

-- A value becomes one that P relates to it, and an error stays.
abbrev pub MapsOk : {T E U : Type 0} → (T → U → Type 0) → Result T E → Result U E → Type 0
MapsOk P r s = MatchResult r (λ x. IsOkAnd s (P x)) (λ e. s ≡ Err e)

-- An error becomes one that P relates to it, and a value stays.
abbrev pub MapsErr : {T E D : Type 0} → (E → D → Type 0) → Result T E → Result T D → Type 0
MapsErr P r s = MatchResult r (λ x. s ≡ Ok x) (λ e. IsErrAnd s (P e))

-- The case, and that of its result.
abbrev pub flow_text : {T E : Type 0} → LookupControlFlow T E → List ℕ
flow_text (Continue (Ok x)) = codes "LookupControlFlow::Continue(Ok)"
flow_text (Continue (Err e)) = codes "LookupControlFlow::Continue(Err)"
flow_text (Break (Ok x)) = codes "LookupControlFlow::Break(Ok)"
flow_text (Break (Err e)) = codes "LookupControlFlow::Break(Err)"
flow_text Skip = codes "LookupControlFlow::Skip"
