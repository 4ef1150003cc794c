use Rattle.std.proofs.Common.{◌≡◌, ◌∙◌, ap, sym}
use Rattle.std.specs.Prelude.{Bool, true, false, not, ◌&&◌, ◌||◌, is_some}
use Rattle.zst_absence.specs.dnw_codes.RecordType.{same_record_type}
use Rattle.zst_absence.specs.dnw_codes.declared.record_type.RecordType.{RecordType}
use Rattle.zst_absence.specs.dnw_name.DomainName.{DomainName, lowercase_name, name_eq}
use Rattle.zst_absence.specs.zst_record.RecordSets.{RRset}
use Rattle.zst_absence.specs.zst_handler.Zones.{rrset_at}
use Rattle.zst_absence.proofs.zst_denial_lemmas.zst_key_lemmas.KeyLemmas.{eq-lower}
use Rattle.zst_absence.specs.zst_denial.Kept.{is_circle_type}
use Rattle.zst_circle.specs.Moves.{is_placeholder_of, placeholder_of}
use Rattle.zst_circle.proofs.Placing.{find_last, hit_moves, kept_out, put_in, some_of}
use Rattle.zst_circle.proofs.moves.put_placeholder.Goals as goal

pub returns-then-is_circle_type-clause-there : goal.returns-then-is_circle_type-clause-there
returns-then-is_circle_type-clause-there g c = λ name t.
    let set = c.args.set.now in
    let stays : is_circle_type set.record_type ≡ true = ap is_circle_type (sym c.record_type-record_type.ensures) ∙ sym c.is_circle_type.ensures ∙ c.if-is_circle_type.true in
    kept_out (name_eq name set.name && same_record_type set.record_type t) (not (is_circle_type t)) (is_some (rrset_at c.args.new.now name t))
    (λ hit. hit_moves name set t hit ∙ ap not stays)

pub returns-then-is_circle_type-clause-listed : goal.returns-then-is_circle_type-clause-listed
returns-then-is_circle_type-clause-listed g c = λ name t.
    let set = c.args.set.now in
    let stays : is_circle_type set.record_type ≡ true = ap is_circle_type (sym c.record_type-record_type.ensures) ∙ sym c.is_circle_type.ensures ∙ c.if-is_circle_type.true in
    kept_out (name_eq name set.name && same_record_type set.record_type t) (not (is_circle_type t)) (is_some (placeholder_of c.args.list.now.items name t))
    (λ hit. hit_moves name set t hit ∙ ap not stays)

pub returns-clause-there : goal.returns-clause-there
returns-clause-there g c = λ name t.
    let set = c.args.set.now in
    let goes : is_circle_type set.record_type ≡ false = ap is_circle_type (sym c.record_type-record_type.ensures) ∙ sym c.is_circle_type.ensures ∙ c.if-is_circle_type.false in
    let named : c.in_ok-name.name ≡ set.name = c.in_ok-name.ensures.cases ∙ c.name-2.ensures in
    put_in (name_eq name set.name && same_record_type set.record_type t) (not (is_circle_type t)) (is_some (rrset_at c.args.new.now name t)) (is_some (rrset_at c.put.new.self name t))
    (λ hit. hit_moves name set t hit ∙ ap not goes)
    (ap is_some (c.in_ok-put.ensures.ok name t) ∙ some_of (name_eq name c.new.result.name && same_record_type c.new.result.record_type t) c.new.result (rrset_at c.args.new.now name t)
    ∙ ap (λ (s : RRset). (name_eq name s.name && same_record_type s.record_type t) || is_some (rrset_at c.args.new.now name t)) c.new.ensures
    ∙ ap (λ (n : DomainName). (name_eq name n && same_record_type c.record_type-record_type.result t) || is_some (rrset_at c.args.new.now name t)) named
    ∙ ap (λ (u : RecordType). (name_eq name set.name && same_record_type u t) || is_some (rrset_at c.args.new.now name t)) c.record_type-record_type.ensures)

pub returns-clause-listed : goal.returns-clause-listed
returns-clause-listed g c = λ name t.
    let set = c.args.set.now in
    let goes : is_circle_type set.record_type ≡ false = ap is_circle_type (sym c.record_type-record_type.ensures) ∙ sym c.is_circle_type.ensures ∙ c.if-is_circle_type.false in
    let p = c.in_ok-placeholder.placeholder in
    let under : p.key ≡ lowercase_name set.name = c.in_ok-placeholder.ensures.at.0 ∙ c.in_ok-clone.ensures.cases ∙ c.in_ok-key.ensures.key ∙ ap lowercase_name c.name.ensures in
    let kind : p.record_type ≡ set.record_type = c.in_ok-placeholder.ensures.at.1 ∙ c.record_type-record_type.ensures in
    put_in (name_eq name set.name && same_record_type set.record_type t) (not (is_circle_type t)) (is_some (placeholder_of c.args.list.now.items name t))
    (is_some (placeholder_of c.push.new.values.items name t))
    (λ hit. hit_moves name set t hit ∙ ap not goes)
    (ap (λ l. is_some (placeholder_of l name t)) c.in_ok-push.ensures.ok ∙ find_last (is_placeholder_of name t) c.args.list.now.items p
    ∙ ap (λ (n : DomainName). (name_eq name n && same_record_type p.record_type t) || is_some (placeholder_of c.args.list.now.items name t)) under
    ∙ ap (λ (b : Bool). (b && same_record_type p.record_type t) || is_some (placeholder_of c.args.list.now.items name t)) (eq-lower name set.name)
    ∙ ap (λ (u : RecordType). (name_eq name set.name && same_record_type u t) || is_some (placeholder_of c.args.list.now.items name t)) kind)
