use Rattle.std.proofs.Common.{subst, sym}
use Rattle.zst_map.specs.dnw_codes.declared.dns_class.DNSClass.{DNSClass}
use Rattle.zst_map.specs.zst_handler.Zones.{rrset_at}
use Rattle.zst_draft.specs.OwnerDrafts.{Applies}
use Rattle.zst_draft.proofs.AppliedDrafts.{deleted_in, in_applies, none_class_applies, other_applies}
use Rattle.zst_draft.proofs.DraftedRecords.{if_ok}
use Rattle.zst_draft.proofs.owner.OwnerDraft.apply.Goals as goal

pub returns-in-ANY : goal.returns-in-ANY
returns-in-ANY c =
    subst (λ (class : DNSClass). Applies (rrset_at c.args.sets.now c.args.key.now) c.args.self.now.sets.items c.args.at_apex c.args.change class c.delete-changed.result c.delete-changed.new.self.sets.items) (sym c.in-ANY.is)
    (deleted_in (rrset_at c.args.sets.now c.args.key.now) c.args.at_apex c.args.change c.args.self.now.sets.items c.delete-changed.new.self.sets.items c.delete-changed.result c.requires
    c.delete-changed.ensures.changed c.delete-changed.ensures.drafts)

pub returns-in-IN : goal.returns-in-IN
returns-in-IN c =
    if_ok c.add.result _ _
    (λ changed applies. in_applies (rrset_at c.args.sets.now c.args.key.now) c.args.self.now.sets.items c.add.new.self.sets.items c.args.at_apex c.args.change c.args.change.dns_class changed c.in-IN.is applies)
    c.add.ensures

pub returns-in-NONE : goal.returns-in-NONE
returns-in-NONE c =
    if_ok c.take-changed.result _ _
    (λ changed applies. none_class_applies (rrset_at c.args.sets.now c.args.key.now) c.args.self.now.sets.items c.take-changed.new.self.sets.items c.args.at_apex c.args.change c.args.change.dns_class changed c.in-NONE.is applies)
    c.take-changed.ensures

pub returns-in_default : goal.returns-in_default
returns-in_default c =
    other_applies (rrset_at c.args.sets.now c.args.key.now) c.args.self.now.sets.items c.args.at_apex c.args.change c.args.change.dns_class c.requires
    c.in_default.not-IN c.in_default.not-ANY c.in_default.not-NONE
