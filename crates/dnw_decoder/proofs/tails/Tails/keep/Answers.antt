use Rattle.std.proofs.Common.{rules, ◌≡◌, ◌∙◌, ◌+◌, ◌∷◌, [], ℕ, List, true, ap, subst, length, arith, Vec, Global}
use Rattle.std.proofs.lemmas.List.{get_or_push, length-append}
use Rattle.dnw_name.specs.DomainName.{DomainName, domain_name}
use Rattle.dnw_decoder.specs.Octets.{Stands}
use Rattle.dnw_decoder.specs.Spelling.{NameAt, pointer_octets}
use Rattle.dnw_decoder.specs.Tails.{kept_name, last as last_labels}
use Rattle.dnw_decoder.proofs.ChainLaws.{led_back}
use Rattle.dnw_decoder.proofs.Progress.{run_ahead}
use Rattle.dnw_decoder.proofs.TailLaws.{all_named, led_named, named_segment, tail_stays}
use Rattle.dnw_decoder.proofs.tails.Tails.keep.Goals as goal

pub returns-in_err-push-clause-tails : goal.returns-in_err-push-clause-tails
returns-in_err-push-clause-tails c = rw c.in_err-push.ensures.items c.requires.tails

pub segments-init : goal.segments-init
segments-init c =
    let long : c.len-labels.result ≡ length c.args.name.now.labels = search rules in
    let copy : c.in_ok-clone.field-0 ≡ c.args.name.now = search rules in (
      c.requires.start,
      omega (arith, long),
      (c.requires.named.0, all_named c.args.octets.now c.args.start c.args.name.now c.requires.named.0 c.len-labels.result c.requires.named.1 long),
      omega (arith, c.len-number.ensures, ap length c.in_ok-push.ensures.items, length-append c.args.self.now.names.items (c.in_ok-clone.field-0 ∷ [])),
      ap (λ (names : List DomainName). kept_name names c.len-number.result) c.in_ok-push.ensures.items
          ∙ get_or_push c.args.self.now.names.items c.in_ok-clone.field-0 (domain_name true []) c.len-number.result (omega (arith, c.len-number.ensures)) ∙ copy,
      rw c.in_ok-push.ensures.items (λ place tail kept. tail_stays c.args.octets.now c.args.self.now.names.items c.in_ok-clone.field-0 place tail (c.requires.tails place tail kept)),
      c.requires.chains,
    )

pub keep_run-reached-requires-clause-tail : goal.keep_run-reached-requires-clause-tail
keep_run-reached-requires-clause-tail c =
    let same = c.segments.invariant.4 in
    record {
      known = c.segments.invariant.3;
      few = rw same c.segments.invariant.1;
      named = rw same (named_segment c.args.octets.now c.segments.place c.in-Some.segment _ c.segments.invariant.2.0 c.in-Some.ensures c.segments.invariant.2.1);
    }

pub segments-smaller : goal.segments-smaller
segments-smaller c =
    let last = rw c.in-Some-target.is at c.in-Some.ensures.last in
    omega (arith, last.0, led_back c.args.octets.now c.segments.place c.in-Some-target.target c.follow-led.result.0 c.follow-led.result.1 c.follow-led.ensures.leads)

pub segments-preserved : goal.segments-preserved
segments-preserved c =
    let last = rw c.in-Some-target.is at c.in-Some.ensures.last in
    let back = led_back c.args.octets.now c.segments.place c.in-Some-target.target c.follow-led.result.0 c.follow-led.result.1 c.follow-led.ensures.leads in
    let kept = c.keep_run-reached.ensures in
    let names : c.keep_run-reached.new.self.names.items ≡ c.segments.self.names.items = ap (λ (v : Vec DomainName Global). v.items) kept.names in
    let same : kept_name c.keep_run-reached.new.self.names.items c.len-number.result ≡ c.args.name.now = ap (λ (ns : List DomainName). kept_name ns c.len-number.result) names ∙ c.segments.invariant.4 in
    let behind : c.in-Some.segment.end ≡ c.in-Some.segment.run + 2 = last.2.behind in
    let there = subst (λ (e : ℕ). Stands c.args.octets.now c.in-Some.segment.run (pointer_octets c.in-Some-target.target) e) behind last.2 in
    let named = subst (λ (p : ℕ). NameAt c.args.octets.now p (domain_name true (last_labels c.keep_run-reached.result.1 c.args.name.now.labels)) c.in-Some.segment.end) c.if-reached-segment.false (rw same at kept.tail.named) in (
      omega (arith, last.0, back, c.segments.invariant.0),
      rw same at kept.tail.few,
      led_named c.args.octets.now c.in-Some.segment.run c.in-Some-target.target c.segments.place c.follow-led.result.0 c.follow-led.result.1 (last_labels c.keep_run-reached.result.1 c.args.name.now.labels) c.in-Some.segment.end named last.1 there (omega (arith, last.0, run_ahead c.args.octets.now (length c.args.octets.now) c.segments.place c.in-Some.ensures.run.0 c.in-Some.segment.run c.in-Some.ensures.run.1)) c.follow-led.ensures.leads,
      rw names c.segments.invariant.3,
      same,
      kept.tails,
      c.follow-led.ensures.chains,
    )
