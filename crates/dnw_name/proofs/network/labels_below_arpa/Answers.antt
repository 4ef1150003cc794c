use Rattle.std.proofs.Common.{ℕ, List, ◌≡◌, ◌∙◌, sym, true, false}
use Rattle.std.specs.declared.net.ip_addr.IpAddr.{IpAddr}
use Rattle.dnw_name.specs.Arpa.{IsArpaName, EndsInArpa}
use Rattle.dnw_name.proofs.ArpaEnds.{no-relative_end, no-end_of_nothing, no-other_top, no-end_of_one}
use Rattle.dnw_net.proofs.NetworkLemmas.{if_none}
use Rattle.dnw_name.proofs.SuffixLemmas.{no-label, no-arpa, no-second}
use Rattle.dnw_name.proofs.network.labels_below_arpa.Goals as goal

pub returns-in_err-top-clause-none : goal.returns-in_err-top-clause-none
returns-in_err-top-clause-none c =
    if_none c.from_residual.result ((addr : IpAddr) → (prefix : ℕ) → IsArpaName c.args.name.now addr prefix → ⊥)
    (no-label c.args.name.now (sym c.iter-labels.ensures.labels ∙ c.in_err-top.ensures.steps.0))

pub returns-then-not-eq_ignore_ascii_case-clause-none : goal.returns-then-not-eq_ignore_ascii_case-clause-none
returns-then-not-eq_ignore_ascii_case-clause-none c =
    no-arpa c.args.name.now c.next_back.new.self c.in_ok-top.top.now (sym c.iter-labels.ensures.labels ∙ c.in_ok-top.ensures.steps)
    (λ e. let no : false ≡ true = c.if-not-eq_ignore_ascii_case.ensures.test.1 e in absurd (cc))

pub returns-in_err-kind-clause-none : goal.returns-in_err-kind-clause-none
returns-in_err-kind-clause-none c =
    if_none c.from_residual-in_err-kind.result ((addr : IpAddr) → (prefix : ℕ) → IsArpaName c.args.name.now addr prefix → ⊥)
    (no-second c.args.name.now c.next_back.new.self c.in_ok-top.top.now (sym c.iter-labels.ensures.labels ∙ c.in_ok-top.ensures.steps)
    c.in_err-kind.ensures.steps.0)

pub returns-then-not-is_fqdn-clause-other : goal.returns-then-not-is_fqdn-clause-other
returns-then-not-is_fqdn-clause-other c = no-relative_end c.args.name.now (sym c.is_fqdn.ensures ∙ c.if-not-is_fqdn.true)

pub returns-in_err-top-clause-other : goal.returns-in_err-top-clause-other
returns-in_err-top-clause-other c =
    if_none c.from_residual.result ((below : List (List ℕ)) → (kind : List ℕ) → EndsInArpa c.args.name.now below kind → ⊥)
    (no-end_of_nothing c.args.name.now (sym c.iter-labels.ensures.labels ∙ c.in_err-top.ensures.steps.0))

pub returns-then-not-eq_ignore_ascii_case-clause-other : goal.returns-then-not-eq_ignore_ascii_case-clause-other
returns-then-not-eq_ignore_ascii_case-clause-other c =
    no-other_top c.args.name.now c.next_back.new.self c.in_ok-top.top.now (sym c.iter-labels.ensures.labels ∙ c.in_ok-top.ensures.steps)
    (λ e. let no : false ≡ true = c.if-not-eq_ignore_ascii_case.ensures.test.1 e in absurd (cc))

pub returns-in_err-kind-clause-other : goal.returns-in_err-kind-clause-other
returns-in_err-kind-clause-other c =
    if_none c.from_residual-in_err-kind.result ((below : List (List ℕ)) → (kind : List ℕ) → EndsInArpa c.args.name.now below kind → ⊥)
    (no-end_of_one c.args.name.now c.next_back.new.self c.in_ok-top.top.now (sym c.iter-labels.ensures.labels ∙ c.in_ok-top.ensures.steps)
    c.in_err-kind.ensures.steps.0)
