-- Chains of handlers, each registered under a name: RFC 1034, section 4.3.2, step 2.
use Rattle.std.specs.Prelude.{◌≡◌, ◌<◌, ◌≤◌, ℕ, Bool, List, [], ◌∷◌, length, map, Option, None, Some, Result, option_map}
use Rattle.std.specs.BTreeMap.{insert_entry}
use Rattle.std.specs.Map.{remove_entry, set_value}
use Rattle.std.specs.Ordering.{is_eq}
use Rattle.std.proofs.Common.{Vec, Global}
use Rattle.zst_key.specs.Ancestors.{nearest_in, up}
use Rattle.zst_key.specs.Sorted.{entry_at}
use Rattle.zst_key.specs.dnw_name.DomainName.{DomainName, lowercase_name, name_cmp}
use Rattle.zst_request.specs.Requested.{context_of}
use Rattle.zst_request.specs.Updating.{Asked, SigningContext, UpdatesView, update_context}
use Rattle.zst_request.specs.Views.{View}
use Rattle.zst_request.specs.declared.request.TSigResponseContext.{TSigResponseContext}
use Rattle.zst_request.specs.zst_codes.declared.response_code.ResponseCode.{ResponseCode}

-- The chain under a name, up to case.
abbrev pub chain_at : {X : Type 0} → List (DomainName × X) → DomainName → Option X
chain_at chains name = entry_at chains name

-- The chain for a name: that under the name, or else under the nearest name above it.
abbrev pub chain_for : {X : Type 0} → List (DomainName × X) → DomainName → Option X
chain_for chains name =
    option_map (λ entry. entry.1) (nearest_in (chain_at chains) (lowercase_name name))

-- The name from a name up that is the nearest one with a chain, and the chain.
abbrev pub entry_for : {X : Type 0} → List (DomainName × X) → DomainName → Option (DomainName × X)
entry_for chains name = nearest_in (chain_at chains) (lowercase_name name)

-- The second name is the first one, or an ancestor of it.
pub record IsSelfOrAncestor (name ancestor : DomainName) : Type 0 where
  pub levels : ℕ
  pub within : levels ≤ length name.labels
  pub is : ancestor ≡ up name levels

-- A chain in place of the one under a name.
abbrev pub with_chain : {X : Type 0} → List (DomainName × X) → DomainName → X
    → List (DomainName × X)
with_chain chains name chain = insert_entry name_cmp chains (lowercase_name name) chain

-- All others.
abbrev pub without_chain : {X : Type 0} → List (DomainName × X) → DomainName
    → List (DomainName × X)
without_chain chains name =
    remove_entry (λ other. is_eq (name_cmp (lowercase_name name) other)) chains

-- What the handlers of each chain mean.
abbrev pub views_of : {H : Type 0} → (H → View) → List (DomainName × Vec H Global)
    → List (DomainName × List View)
views_of view chains = map (λ entry. (entry.0, map view entry.1.items)) chains

-- There is a chain, and a handler in it.
abbrev pub HasHandler : {H : Type 0} → Option (Vec H Global) → Type 0
HasHandler None = ⊥
HasHandler (Some handlers) = 0 < length handlers.items

-- All chains, of which that under a name is another.
abbrev pub with_chain_at : {X : Type 0} → List (DomainName × X) → DomainName → X
    → List (DomainName × X)
with_chain_at chains name chain = set_value (λ other. is_eq (name_cmp name other)) chains chain

-- ---- updates (RFC 2136, section 3)
-- What a handler answers to an update: whether it changed its zone, or why it was refused; and what
-- the reply is signed with.
abbrev pub Answer : Type 0
Answer = Result Bool ResponseCode × Option SigningContext

abbrev pub answer_of : Result Bool ResponseCode × Option TSigResponseContext → Answer
answer_of given = (given.0, option_map context_of given.1)

-- The first of these handlers answers to an update, and no other one changes.
abbrev pub UpdatesFirst : List View → Asked → ℕ → Option Answer → List View → Type 0
UpdatesFirst [] asked moment None new = new ≡ []
UpdatesFirst (view ∷ views) asked moment (Some answer) new =
    (left : View) × UpdatesView view asked answer.0 left
    × (answer.1 ≡ update_context view asked moment) × (new ≡ left ∷ views)
UpdatesFirst views asked moment other new = ⊥

-- Of the chain under a name, if there is one, the first handler answers.
abbrev pub UpdatesFound : List (DomainName × List View) → DomainName → Option (List View) → Asked
    → ℕ → Option Answer → List (DomainName × List View) → Type 0
UpdatesFound chains name None asked moment answer new = (answer ≡ None) × (new ≡ chains)
UpdatesFound chains name (Some views) asked moment answer new =
    (left : List View) × UpdatesFirst views asked moment answer left
    × (new ≡ with_chain_at chains name left)

abbrev pub UpdatesChain : List (DomainName × List View) → DomainName → Asked → ℕ → Option Answer
    → List (DomainName × List View) → Type 0
UpdatesChain chains name asked moment answer new =
    UpdatesFound chains name (chain_at chains name) asked moment answer new
