use Rattle.std.proofs.Common.{◌≡◌, ◌∙◌, ap, sym}
use Rattle.std.specs.Prelude.{true, false, Some, None, find, option_copied}
use Rattle.zst_handler.specs.dnw_codes.declared.record_type.RecordType.TheVariants as kind
use Rattle.zst_handler.specs.Zones.{rrset_at}
use Rattle.zst_map.proofs.ZoneNodes.{is_of_type}
use Rattle.zst_map.proofs.Searched.{address_here, alias_here, first_here, no_sets, nothing_here, own_found}
use Rattle.zst_map.proofs.node.here.Goals as goal

pub returns-then-is_empty : goal.returns-then-is_empty
returns-then-is_empty c zone name e =
    sym (nothing_here zone name c.args.record_type (λ u. sym (own_found zone c.args.sets.now name u e) ∙ ap (find (is_of_type u)) (no_sets c.args.sets.now c.if-is_empty.ensures)))

pub returns-in-Some : goal.returns-in-Some
returns-in-Some c zone name e =
    sym (first_here zone name c.args.record_type c.in-Some.set.now
    (sym (own_found zone c.args.sets.now name c.args.record_type e) ∙ sym c.find_to_read.ensures ∙ ap option_copied c.in-Some.is))

pub returns-in-Some-find_set : goal.returns-in-Some-find_set
returns-in-Some-find_set c zone name e =
    let first : rrset_at zone name c.args.record_type ≡ None
    = sym (own_found zone c.args.sets.now name c.args.record_type e) ∙ sym c.find_to_read.ensures ∙ ap option_copied c.in_default.is in
    let second : rrset_at zone name kind.CNAME ≡ Some c.in-Some-find_set.alias.now
    = sym (own_found zone c.args.sets.now name kind.CNAME e) ∙ sym c.find_set.ensures ∙ ap option_copied c.in-Some-find_set.is in
    sym (alias_here zone name c.args.record_type c.in-Some-find_set.alias.now first second)

pub returns-then-is_address : goal.returns-then-is_address
returns-then-is_address c zone name e =
    let first : rrset_at zone name c.args.record_type ≡ None
    = sym (own_found zone c.args.sets.now name c.args.record_type e) ∙ sym c.find_to_read.ensures ∙ ap option_copied c.in_default.is in
    let second : rrset_at zone name kind.CNAME ≡ None
    = sym (own_found zone c.args.sets.now name kind.CNAME e) ∙ sym c.find_set.ensures ∙ ap option_copied c.in_default-find_set.is in
    c.find_set-then-is_address.ensures ∙ own_found zone c.args.sets.now name kind.ANAME e
    ∙ sym (address_here zone name c.args.record_type true first second c.if-is_address.ensures)

pub returns-else-is_address : goal.returns-else-is_address
returns-else-is_address c zone name e =
    let first : rrset_at zone name c.args.record_type ≡ None
    = sym (own_found zone c.args.sets.now name c.args.record_type e) ∙ sym c.find_to_read.ensures ∙ ap option_copied c.in_default.is in
    let second : rrset_at zone name kind.CNAME ≡ None
    = sym (own_found zone c.args.sets.now name kind.CNAME e) ∙ sym c.find_set.ensures ∙ ap option_copied c.in_default-find_set.is in
    sym (address_here zone name c.args.record_type false first second c.if-is_address.ensures)
