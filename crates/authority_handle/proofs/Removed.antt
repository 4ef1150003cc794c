-- Nothing is removed where a name has no chain.
use Rattle.std.proofs.Common.{◌≡◌, List, [], ◌∷◌, ap, refl, true≢false}
use Rattle.std.specs.Prelude.{Bool, true, false, cond, Some, None, is_some}
use Rattle.std.specs.Map.{lookup, remove_entry}
use Rattle.std.specs.Ordering.{is_eq}
use Rattle.authority_server.specs.Servers.{without_zones}
use Rattle.authority_server.specs.Serving.{World}
use Rattle.authority_server.specs.zsv_catalog.Chains.{chain_at}
use Rattle.authority_server.specs.zsv_catalog.zsv_answer.zst_request.dnw_name.DomainName.{DomainName, lowercase_name, name_cmp}

module _ {K X : Type 0} (test : K → Bool) where
  kept : (entries : List (K × X)) → lookup test entries ≡ None → remove_entry test entries ≡ entries
  kept [] none = refl
  kept (e ∷ es) none = by (test e.0) none (kept es)
    where
      by : (b : Bool) → cond b (Some e.1) (lookup test es) ≡ None → (lookup test es ≡ None → remove_entry test es ≡ es) → cond b es (e ∷ remove_entry test es) ≡ e ∷ es
      by true there later = absurd (true≢false (ap is_some there))
      by false absent later = ap (λ rest. e ∷ rest) (later absent)

pub not_there : (world : World) (name : DomainName) → chain_at world.chains (lowercase_name name) ≡ None → without_zones world name ≡ world
not_there world name none =
    ap (λ chains. record world { chains = chains }) (kept (λ other. is_eq (name_cmp (lowercase_name name) other)) world.chains none)
