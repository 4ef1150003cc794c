use Rattle.std.proofs.Common.{ℕ, ◌≡◌, refl, true, false}
use Rattle.std.specs.Prelude.{codes}
use Rattle.std.specs.Result.{IsOkAnd}
use Rattle.std.specs.declared.net.ip_addr.IpAddr.{IpAddr}
use Rattle.dnw_net.specs.dnw_label.Label.{label_eq}
use Rattle.dnw_net.specs.declared.net.IpNet.{IpNet}
use Rattle.std.proofs.Common.{inl, inr}
use Rattle.dnw_name.specs.Arpa.{IsArpaName, EndsInZone}
use Rattle.dnw_name.proofs.ArpaEnds.{no-other_kind, number-refused, in-zone}
use Rattle.dnw_net.proofs.SuffixLemmas.{suffix-v4, suffix-v6}
use Rattle.dnw_name.proofs.SuffixLemmas.{result-ok, result-only, address-from, label_eq-from, no-suffix}
use Rattle.dnw_name.proofs.name.Name.parse_arpa_name.Goals as goal
use Rattle.dnw_name.proofs.name.Name.parse_arpa_name.Goals.{After-net_of_v4, After-net_of_v6}

pub returns-in_default-clause-address : goal.returns-in_default-clause-address
returns-in_default-clause-address c = address-from c.args.self.now (λ addr prefix. ⊥) c.in_default.ensures.none

is-v4 : (c : After-net_of_v4) → label_eq c.in-Some.kind.now (codes "in-addr") ≡ true
is-v4 c = label_eq-from c.in-Some.kind.now (codes "in-addr") (c.if-eq_ignore_ascii_case.ensures.test.0 refl)

pub returns-then-eq_ignore_ascii_case-clause-ok : goal.returns-then-eq_ignore_ascii_case-clause-ok
returns-then-eq_ignore_ascii_case-clause-ok c =
    result-ok (λ (net : IpNet). net.addr) (λ (net : IpNet). net.prefix_len) c.args.self.now c.in-Some.labels c.in-Some.kind.now (codes "in-addr")
    c.net_of_v4.result c.in-Some.ensures.some (is-v4 c) c.net_of_v4.ensures.ok

only-v4 : (c : After-net_of_v4) → (addr : IpAddr) (prefix : ℕ) → IsArpaName c.args.self.now addr prefix → IsOkAnd c.net_of_v4.result (λ (net : IpNet). (net.addr ≡ addr) × (net.prefix_len ≡ prefix))
only-v4 c =
    result-only (λ (net : IpNet). net.addr) (λ (net : IpNet). net.prefix_len) c.args.self.now c.in-Some.labels c.in-Some.kind.now (codes "in-addr")
    c.net_of_v4.result c.in-Some.ensures.some (suffix-v4 c.in-Some.kind.now (is-v4 c)) c.net_of_v4.ensures.ok c.net_of_v4.ensures.refused

pub returns-then-eq_ignore_ascii_case-clause-only : goal.returns-then-eq_ignore_ascii_case-clause-only
returns-then-eq_ignore_ascii_case-clause-only c = only-v4 c

pub returns-then-eq_ignore_ascii_case-clause-address : goal.returns-then-eq_ignore_ascii_case-clause-address
returns-then-eq_ignore_ascii_case-clause-address c =
    address-from c.args.self.now (λ addr prefix. IsOkAnd c.net_of_v4.result (λ (net : IpNet). (net.addr ≡ addr) × (net.prefix_len ≡ prefix))) (only-v4 c)

is-v6 : (c : After-net_of_v6) → label_eq c.in-Some.kind.now (codes "ip6") ≡ true
is-v6 c = label_eq-from c.in-Some.kind.now (codes "ip6") (c.if-eq_ignore_ascii_case-2.ensures.test.0 refl)

pub returns-then-eq_ignore_ascii_case-2-clause-ok : goal.returns-then-eq_ignore_ascii_case-2-clause-ok
returns-then-eq_ignore_ascii_case-2-clause-ok c =
    result-ok (λ (net : IpNet). net.addr) (λ (net : IpNet). net.prefix_len) c.args.self.now c.in-Some.labels c.in-Some.kind.now (codes "ip6")
    c.net_of_v6.result c.in-Some.ensures.some (is-v6 c) c.net_of_v6.ensures.ok

only-v6 : (c : After-net_of_v6) → (addr : IpAddr) (prefix : ℕ) → IsArpaName c.args.self.now addr prefix → IsOkAnd c.net_of_v6.result (λ (net : IpNet). (net.addr ≡ addr) × (net.prefix_len ≡ prefix))
only-v6 c =
    result-only (λ (net : IpNet). net.addr) (λ (net : IpNet). net.prefix_len) c.args.self.now c.in-Some.labels c.in-Some.kind.now (codes "ip6")
    c.net_of_v6.result c.in-Some.ensures.some (suffix-v6 c.in-Some.kind.now (is-v6 c)) c.net_of_v6.ensures.ok c.net_of_v6.ensures.refused

pub returns-then-eq_ignore_ascii_case-2-clause-only : goal.returns-then-eq_ignore_ascii_case-2-clause-only
returns-then-eq_ignore_ascii_case-2-clause-only c = only-v6 c

pub returns-then-eq_ignore_ascii_case-2-clause-address : goal.returns-then-eq_ignore_ascii_case-2-clause-address
returns-then-eq_ignore_ascii_case-2-clause-address c =
    address-from c.args.self.now (λ addr prefix. IsOkAnd c.net_of_v6.result (λ (net : IpNet). (net.addr ≡ addr) × (net.prefix_len ≡ prefix))) (only-v6 c)

pub returns-clause-only : goal.returns-clause-only
returns-clause-only c =
    no-suffix c.args.self.now c.in-Some.labels c.in-Some.kind.now c.in-Some.ensures.some
    (λ e. let f : false ≡ true = c.if-eq_ignore_ascii_case.ensures.test.1 e in absurd (cc))
    (λ e. let f : false ≡ true = c.if-eq_ignore_ascii_case-2.ensures.test.1 e in absurd (cc))

pub returns-clause-address : goal.returns-clause-address
returns-clause-address c = address-from c.args.self.now (λ addr prefix. ⊥) (returns-clause-only c)

pub returns-in_default-clause-cause : goal.returns-in_default-clause-cause
returns-in_default-clause-cause c = inl (tt, λ zone. c.in_default.ensures.other zone.0 zone.1 zone.2)

zone-v4 : (c : After-net_of_v4) → EndsInZone c.args.self.now
zone-v4 c = (c.in-Some.labels, c.in-Some.kind.now, c.in-Some.ensures.some, inl (is-v4 c))

pub returns-then-eq_ignore_ascii_case-clause-zone : goal.returns-then-eq_ignore_ascii_case-clause-zone
returns-then-eq_ignore_ascii_case-clause-zone c = in-zone c.net_of_v4.result (EndsInZone c.args.self.now) (zone-v4 c)

pub returns-then-eq_ignore_ascii_case-clause-cause : goal.returns-then-eq_ignore_ascii_case-clause-cause
returns-then-eq_ignore_ascii_case-clause-cause c =
    number-refused c.args.self.now c.net_of_v4.result (λ addr prefix (net : IpNet). (net.addr ≡ addr) × (net.prefix_len ≡ prefix)) (zone-v4 c) c.net_of_v4.ensures.cause (only-v4 c)

zone-v6 : (c : After-net_of_v6) → EndsInZone c.args.self.now
zone-v6 c = (c.in-Some.labels, c.in-Some.kind.now, c.in-Some.ensures.some, inr (is-v6 c))

pub returns-then-eq_ignore_ascii_case-2-clause-zone : goal.returns-then-eq_ignore_ascii_case-2-clause-zone
returns-then-eq_ignore_ascii_case-2-clause-zone c = in-zone c.net_of_v6.result (EndsInZone c.args.self.now) (zone-v6 c)

pub returns-then-eq_ignore_ascii_case-2-clause-cause : goal.returns-then-eq_ignore_ascii_case-2-clause-cause
returns-then-eq_ignore_ascii_case-2-clause-cause c =
    number-refused c.args.self.now c.net_of_v6.result (λ addr prefix (net : IpNet). (net.addr ≡ addr) × (net.prefix_len ≡ prefix)) (zone-v6 c) c.net_of_v6.ensures.cause (only-v6 c)

pub returns-clause-cause : goal.returns-clause-cause
returns-clause-cause c = inl (
  tt,
  no-other_kind c.args.self.now c.in-Some.labels c.in-Some.kind.now c.in-Some.ensures.some
      (λ e. let f : false ≡ true = c.if-eq_ignore_ascii_case.ensures.test.1 e in absurd (cc))
      (λ e. let f : false ≡ true = c.if-eq_ignore_ascii_case-2.ensures.test.1 e in absurd (cc)),
)
