use Rattle.std.proofs.Common.{◌∙◌, ◌∷◌, ◌++◌, [], List, Bor, ap, map, sym}
use Rattle.std.specs.Prelude.{Some, cond, is_some}
use Rattle.std.specs.BTreeMap.{BTreeMap, get}
use Rattle.std.specs.Ordering.{is_eq}
use Rattle.std.proofs.lemmas.Bool.{not-false}
use Rattle.zst_map.specs.dnw_codes.DNSClass.{same_class}
use Rattle.zst_map.specs.dnw_codes.declared.dns_class.DNSClass.TheVariants.{IN}
use Rattle.zst_map.specs.zst_record.declared.records.Record.{Record}
use Rattle.zsv_sqlite.specs.Groups.{Group, key_cmp}
use Rattle.zsv_sqlite.specs.declared.groups.SetKey.{SetKey}
use Rattle.zsv_sqlite.proofs.Gathered.{gathers_more, gathers_one, listed, records_more}
use Rattle.zsv_sqlite.proofs.groups.gather.Goals as goal

pub returns-in-Some : goal.returns-in-Some
returns-in-Some c = λ rs gathers.
    let w = c.push.new.self in
    let there = c.in-Some.ensures.value in
    let key : SetKey = record { owner = c.in_ok-of.field-0; record_type = c.record_type.result } in
    gathers_more rs c.args.asked.now c.args.groups.now (c.get_mut.follows.lender w) gathers
    (not-false (same_class c.args.asked.now.dns_class IN) (sym c.ne.ensures ∙ c.if-ne.false))
    (gathers_one c.args.groups.now (c.get_mut.follows.lender w) key c.args.asked.now w c.in_ok-of.ensures.key c.record_type.ensures
    ((c.get_mut.follows.holds w).3 (sym (ap is_some there))).0
    (records_more c.in-Some.group.now w c.args.asked c.in_ok-push.ensures.items ∙ ap (λ (rs : List Record). rs ++ c.args.asked.now ∷ []) (ap listed there)))

pub returns : goal.returns
returns c = λ rs gathers.
    let w = c.push-2.new.self in
    let key : SetKey = record { owner = c.in_ok-of.field-0; record_type = c.record_type.result } in
    gathers_more rs c.args.asked.now c.args.groups.now c.insert.new.self gathers
    (not-false (same_class c.args.asked.now.dns_class IN) (sym c.ne.ensures ∙ c.if-ne.false))
    (gathers_one c.args.groups.now c.insert.new.self key c.args.asked.now w c.in_ok-of.ensures.key c.record_type.ensures
    (λ q. c.in_ok-insert.ensures.updates.0 q ∙ ap (λ (m : BTreeMap SetKey Group). cond (is_eq (key_cmp key q)) (Some w) (get key_cmp m q)) c.get_mut.follows.holds-at-none)
    (records_more c.new-group.result w c.args.asked c.in_ok-push-2.ensures.items
    ∙ ap (λ (rs : List Record). rs ++ c.args.asked.now ∷ []) (ap (λ (xs : List (Bor Record)). map (λ r. r.now) xs) c.new-group.ensures.items ∙ ap listed c.in_default.ensures.value)))
