-- A set that is edited where it is keeps its owner, up to case, and the number of its type.
use Rattle.std.proofs.Common.{◌≡◌, ◌∙◌, ℕ, refl, ap, sym, subst}
use Rattle.std.proofs.lemmas.Bool.{and_parts, eqb-true}
use Rattle.std.specs.Prelude.{◌&&◌, ◌==◌, Bool, true, false, List, [], ◌∷◌, Some, cond}
use Rattle.zst_handler.specs.dnw_codes.RecordType.{record_type_number, same_record_type}
use Rattle.zst_handler.specs.dnw_codes.declared.record_type.RecordType.{RecordType}
use Rattle.zst_handler.specs.dnw_name.DomainName.{DomainName, name_eq}
use Rattle.zst_handler.specs.Updates.{Replaces, set_of_type, with_set}
use Rattle.zst_handler.specs.Zones.{rrset_at}
use Rattle.zst_handler.specs.zst_record.Drafts.{drafted}
use Rattle.zst_handler.specs.zst_record.RecordLaws.{name_eq_equiv}
use Rattle.zst_handler.specs.zst_record.RecordSets.{RRset, first_name}
use Rattle.zst_key.specs.NameKeys.{name_key}
use Rattle.zst_map.specs.Edits.{CanEdit, edited}
use Rattle.zst_map.specs.ZoneMaps.{IsNode, IsOwnedAt}
use Rattle.zst_map.specs.declared.edit.Edit.{Edit}
use Rattle.zst_map.specs.declared.edit.Edit.TheVariants as edits
use Rattle.zst_map.proofs.Kept.{alike_keys}
use Rattle.zst_map.proofs.NodeSets.{IsNode-with, found_of, found_type}

pub edited_name : (edit : Edit) (set : RRset) → CanEdit edit set → name_key (edited edit set).name ≡ name_key set.name
edited_name (edits.Settle t draft) set can = alike_keys (first_name (drafted set.records draft.places.items draft.items.items)) set.name can.2
edited_name edits.RaiseSerial set can = refl
edited_name (edits.Sign signatures) set can = refl

pub edited_type : (edit : Edit) (set : RRset) → CanEdit edit set → record_type_number (edited edit set).record_type ≡ record_type_number set.record_type
edited_type (edits.Settle t draft) set can = eqb-true (record_type_number t) (record_type_number set.record_type) can.3
edited_type edits.RaiseSerial set can = refl
edited_type (edits.Sign signatures) set can = refl

-- Among the sets of its owner it stands where it stood.
pub edited_code : (edit : Edit) (set : RRset) (t : RecordType) (sets : List RRset) → CanEdit edit set → set_of_type t sets ≡ Some set → record_type_number (edited edit set).record_type ≡ record_type_number t
edited_code edit set t sets can found = edited_type edit set can ∙ found_type t sets set found

pub node_edited : (key : List ℕ) (sets : List RRset) (t : RecordType) (set : RRset) (edit : Edit) → IsNode key sets → set_of_type t sets ≡ Some set → CanEdit edit set → IsNode key (with_set sets (edited edit set))
node_edited key sets t set edit node found can =
    IsNode-with key (edited edit set) sets (record { owner = edited_name edit set can ∙ (found_of (IsOwnedAt key) t sets set node.owned found).owner }) node.owned node.rise

-- ---- under the name and the type that it is asked for by
one : {X : Type 0} (x y : X) → Some x ≡ Some y → x ≡ y
one x y e = cc

found_parts : (sets : List RRset) (name : DomainName) (t : RecordType) (s : RRset) → rrset_at sets name t ≡ Some s → (name_eq name s.name && same_record_type s.record_type t) ≡ true
found_parts [] name t s e = absurd (let h : ⊥ = cc in h)
found_parts (x ∷ xs) name t s e = by (name_eq name x.name && same_record_type x.record_type t) refl e (found_parts xs name t s)
  where
    by : (b : Bool) → (name_eq name x.name && same_record_type x.record_type t) ≡ b → cond b (Some x) (rrset_at xs name t) ≡ Some s → (rrset_at xs name t ≡ Some s → (name_eq name s.name && same_record_type s.record_type t) ≡ true)
        → (name_eq name s.name && same_record_type s.record_type t) ≡ true
    by true is e more = subst (λ (u : RRset). (name_eq name u.name && same_record_type u.record_type t) ≡ true) (one x s e) is
    by false is e more = more e

alike_names : (edit : Edit) (set : RRset) → CanEdit edit set → name_eq (edited edit set).name set.name ≡ true
alike_names (edits.Settle t draft) set can = can.2
alike_names edits.RaiseSerial set can = name_eq_equiv.refl set.name
alike_names (edits.Sign signatures) set can = name_eq_equiv.refl set.name

-- The set in place of another one has the name and the type by which that was found.
pub found_by : (sets after : List RRset) (name : DomainName) (t : RecordType) (set : RRset) (edit : Edit) → rrset_at sets name t ≡ Some set → CanEdit edit set
    → Replaces sets (edited edit set).name (edited edit set).record_type (Some (edited edit set)) after → Replaces sets name t (Some (edited edit set)) after
found_by sets after name t set edit found can replaces other u =
    let parts = and_parts (name_eq name set.name) (same_record_type set.record_type t) (found_parts sets name t set found) in
    let named : name_eq other (edited edit set).name ≡ name_eq other name =
    name_eq_equiv.symm other (edited edit set).name ∙ name_eq_equiv.congr (edited edit set).name set.name other (alike_names edit set can)
    ∙ sym (name_eq_equiv.congr name set.name other parts.0) ∙ name_eq_equiv.symm name other in
    let typed : same_record_type (edited edit set).record_type u ≡ same_record_type t u =
    ap (λ (n : ℕ). n == record_type_number u) (edited_type edit set can ∙ eqb-true (record_type_number set.record_type) (record_type_number t) parts.1) in
    replaces other u
    ∙ ap (λ (b : Bool). cond (b && same_record_type (edited edit set).record_type u) (Some (edited edit set)) (rrset_at sets other u)) named
    ∙ ap (λ (b : Bool). cond (name_eq other name && b) (Some (edited edit set)) (rrset_at sets other u)) typed
