use Rattle.std.proofs.Common.{◌≡◌, ◌∷◌, true, ap, sym, subst, ◌∙◌, inl, inr, refl}
use Rattle.std.specs.List.Sorted.{IsPermutation}
use Rattle.std.proofs.lemmas.Result.{on_ok_weaker}
use Rattle.dnw_name.specs.DomainName.{DomainName, domain_name, lowercase_name}
use Rattle.zst_key.proofs.KeyLemmas.{lower-twice}
use Rattle.zsv_blocked.specs.BlockedNames.{is_listed}
use Rattle.zsv_blocked.proofs.names.BlockedNames.add_name.Goals as goal

pub put-requires-clause-lower : goal.put-requires-clause-lower
put-requires-clause-lower c =
    c.in_ok-lower.ensures ∙ sym (lower-twice c.set_fqdn.new.self) ∙ sym (ap lowercase_name c.in_ok-key.ensures.key)

pub returns-then-holds : goal.returns-then-holds
returns-then-holds c =
    let is : c.in_ok-key.key ≡ lowercase_name (domain_name true c.args.name.labels) = c.in_ok-key.ensures.key ∙ ap lowercase_name c.set_fqdn.ensures in
    inl (ap (is_listed c.args.self.now) (sym is) ∙ sym c.holds.ensures ∙ c.if-holds.true, refl)

pub returns : goal.returns
returns c =
    let is : c.in_ok-key.key ≡ lowercase_name (domain_name true c.args.name.labels) = c.in_ok-key.ensures.key ∙ ap lowercase_name c.set_fqdn.ensures in
    on_ok_weaker c.put.result
    (λ put. inr (
      ap (is_listed c.args.self.now) (sym is) ∙ sym c.holds.ensures ∙ c.if-holds.false,
      subst (λ (key : DomainName). IsPermutation (key ∷ c.args.self.now) c.put.new.self) is put,
    ))
    c.put.ensures
