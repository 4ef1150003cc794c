use Rattle.std.proofs.Common.{◌≡◌, ◌∙◌, ap, subst, sym}
use Rattle.std.specs.Prelude.{Bool, List, is_some}
use Rattle.std.specs.HashMap.{HashMap}
use Rattle.zst_map.specs.dnw_name.DomainName.{DomainName, name_eq}
use Rattle.zst_map.specs.zst_handler.Zones.{rrset_at}
use Rattle.zst_map.specs.zst_record.RecordSets.{RRset}
use Rattle.zst_map.specs.zst_record.declared.records.Record.{Record}
use Rattle.zst_draft.specs.OwnerDrafts.{Applies}
use Rattle.zst_draft.specs.ZoneDrafts.{Begins}
use Rattle.zst_draft.specs.declared.owner.OwnerDraft.{OwnerDraft}
use Rattle.zst_draft.proofs.DraftedRecords.{if_ok, ok_on}
use Rattle.zst_draft.proofs.DraftedZones.{applied_begun, applied_found}
use Rattle.zst_draft.proofs.zone.ZoneDraft.apply.Goals as goal

begins_as : {S : Type 0} {a b : List RRset} {m n : HashMap DomainName OwnerDraft S} (key : DomainName) (at_apex : Bool) (r : Record) (changed : Bool) (new : HashMap DomainName OwnerDraft S) → a ≡ b
    → m ≡ n → Begins a m key at_apex r changed new → Begins b n key at_apex r changed new
begins_as {S = S} {b = b} {m = m} key at_apex r changed new sets owners begins =
    subst (λ (l : HashMap DomainName OwnerDraft S). Begins b l key at_apex r changed new) owners
    (subst (λ (l : List RRset). Begins l m key at_apex r changed new) sets begins)

pub returns-in-Some-clause-changed : goal.returns-in-Some-clause-changed
returns-in-Some-clause-changed c =
    let w = c.apply.new.self in
    let there = c.in-Some.ensures.value in
    if_ok c.apply.result _ _
    (λ changed applies. λ at drafts.
    (applied_found c.args.zone.now c.args.self.now (record { owners = c.get_mut.follows.lender w }) c.in-Ok.key c.args.change c.in-Some.owner.now w c.eq-at_apex.result changed at
    c.in-Ok.ensures.key (c.eq-at_apex.ensures ∙ ap (name_eq c.args.change.name) c.origin.ensures.value) (sym there)
    ((c.get_mut.follows.holds w).3 (sym (ap is_some there))) (c.get_mut.follows.holds w).1
    (subst (λ (sets : List RRset). Applies (rrset_at sets c.in-Ok.key) c.in-Some.owner.now.sets.items c.eq-at_apex.result c.args.change c.args.change.dns_class changed w.sets.items) c.records-sets.ensures applies)
    drafts).0)
    c.apply.ensures

pub returns-in-Some-clause-applied : goal.returns-in-Some-clause-applied
returns-in-Some-clause-applied c =
    let w = c.apply.new.self in
    let there = c.in-Some.ensures.value in
    ok_on c.apply.result _
    (λ changed applies. λ at drafts.
    (applied_found c.args.zone.now c.args.self.now (record { owners = c.get_mut.follows.lender w }) c.in-Ok.key c.args.change c.in-Some.owner.now w c.eq-at_apex.result changed at
    c.in-Ok.ensures.key (c.eq-at_apex.ensures ∙ ap (name_eq c.args.change.name) c.origin.ensures.value) (sym there)
    ((c.get_mut.follows.holds w).3 (sym (ap is_some there))) (c.get_mut.follows.holds w).1
    (subst (λ (sets : List RRset). Applies (rrset_at sets c.in-Ok.key) c.in-Some.owner.now.sets.items c.eq-at_apex.result c.args.change c.args.change.dns_class changed w.sets.items) c.records-sets.ensures applies)
    drafts).1)
    c.apply.ensures

pub returns-clause-changed : goal.returns-clause-changed
returns-clause-changed c =
    if_ok c.begin.result _ _
    (λ changed begins. λ at drafts.
    (applied_begun c.args.zone.now c.args.self.now c.begin.new.self c.in-Ok.key c.args.change c.eq-at_apex.result changed at
    c.in-Ok.ensures.key (c.eq-at_apex.ensures ∙ ap (name_eq c.args.change.name) c.origin.ensures.value) (sym c.in_default-get_mut.ensures.value)
    (begins_as c.in-Ok.key c.eq-at_apex.result c.args.change changed c.begin.new.self.owners c.records-sets.ensures c.get_mut.follows.holds-at-none begins)
    drafts).0)
    c.begin.ensures

pub returns-clause-applied : goal.returns-clause-applied
returns-clause-applied c =
    ok_on c.begin.result _
    (λ changed begins. λ at drafts.
    (applied_begun c.args.zone.now c.args.self.now c.begin.new.self c.in-Ok.key c.args.change c.eq-at_apex.result changed at
    c.in-Ok.ensures.key (c.eq-at_apex.ensures ∙ ap (name_eq c.args.change.name) c.origin.ensures.value) (sym c.in_default-get_mut.ensures.value)
    (begins_as c.in-Ok.key c.eq-at_apex.result c.args.change changed c.begin.new.self.owners c.records-sets.ensures c.get_mut.follows.holds-at-none begins)
    drafts).1)
    c.begin.ensures
