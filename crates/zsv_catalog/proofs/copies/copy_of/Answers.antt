use Rattle.std.proofs.Common.{◌≡◌, ◌∙◌, rules, refl, subst, sym, true}
use Rattle.std.proofs.lemmas.Bool.{true≢false}
use Rattle.zsv_answer.specs.zsv_reply.drd_rdata.Order.{rdata_eq}
use Rattle.zsv_answer.specs.zsv_reply.zst_record.declared.records.Record.{Record}
use Rattle.zsv_catalog.proofs.Copied.{is_true}
use Rattle.zsv_catalog.proofs.copies.copy_of.Goals as goal
use Rattle.zsv_catalog.proofs.copies.copy_of.Goals.{else-is_servable-via-then-is_servable+else-not-is_servable, else-is_servable-via-else-is_servable}

pub returns : goal.returns
returns c = record {
  name = search rules;
  dns_class = refl;
  ttl = search rules;
  rdata = subst (λ (r : Record). rdata_eq r.rdata c.args.record.now.rdata ≡ true) (sym c.from_rdata-copy.ensures) (is_true (rdata_eq c.in-Ok.rdata c.args.record.now.rdata) (sym c.ne.ensures ∙ c.if-ne.false));
  servable = λ servable.
      elim c.else-is_servable.branch [
        | else-is_servable-via-then-is_servable+else-not-is_servable w ↦ w.is_servable-then-is_servable.ensures.0 w.if-not-is_servable.false
        | else-is_servable-via-else-is_servable w ↦ absurd (true≢false (sym (c.is_servable.ensures.1 servable) ∙ w.if-is_servable.false))
      ];
}
