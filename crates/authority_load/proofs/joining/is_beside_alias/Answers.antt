use Rattle.std.proofs.Common.{◌≡◌, ◌∙◌, sym, ap, List, Bool, true, false}
use Rattle.std.specs.Prelude.{◌&&◌, ◌||◌, Option}
use Rattle.zst_zone.specs.dnw_codes.declared.record_type.RecordType.TheVariants as kind
use Rattle.zst_zone.specs.dnw_codes.RecordType.{same_record_type}
use Rattle.zst_zone.specs.drd_rdata.Types.{type_of}
use Rattle.zst_zone.specs.zst_handler.Lookups.{sets_of_name}
use Rattle.zst_zone.specs.zst_handler.Updates.{is_kept_out}
use Rattle.zst_zone.specs.zst_handler.Zones.{rrset_at}
use Rattle.zst_zone.specs.zst_record.RecordSets.{RRset}
use Rattle.zst_zone.specs.zst_record.declared.records.Record.{Record}
use Rattle.zst_zone.proofs.LowerNames.{rrset-keyed, sets-keyed}
use Rattle.authority_load.specs.Joining.{is_beside_alias, is_other_alias}
use Rattle.authority_load.proofs.joining.is_beside_alias.Goals as goal

abbrev other : List RRset → Record → Bool
other sets r = same_record_type (type_of r.rdata) kind.CNAME && is_other_alias (rrset_at sets r.name kind.CNAME) r

beside : (sets : List RRset) (r : Record) → is_kept_out (sets_of_name sets r.name) (type_of r.rdata) ≡ true → true ≡ is_beside_alias sets r
beside sets r e = sym (ap (λ (b : Bool). b || other sets r) e)

not_beside : (sets : List RRset) (r : Record) (x : Bool) → is_kept_out (sets_of_name sets r.name) (type_of r.rdata) ≡ false → x ≡ other sets r → x ≡ is_beside_alias sets r
not_beside sets r x e f = f ∙ sym (ap (λ (b : Bool). b || other sets r) e)

pub returns-then-is_kept_out : goal.returns-then-is_kept_out
returns-then-is_kept_out c =
    let sets = c.args.zone.now.sets in
    let r = c.args.next.now in
    let all = c.sets_at.ensures ∙ ap (λ (ss : List RRset). sets_of_name ss c.args.key.now) c.records.ensures ∙ sets-keyed sets c.args.key.now r.name c.requires in
    let kept = c.is_kept_out.ensures ∙ ap (λ (ss : List RRset). is_kept_out ss c.record_type.result) all ∙ ap (is_kept_out (sets_of_name sets r.name)) c.record_type.ensures in
    beside sets r (sym kept ∙ c.if-is_kept_out.true)

pub returns-then-eq : goal.returns-then-eq
returns-then-eq c =
    let sets = c.args.zone.now.sets in
    let r = c.args.next.now in
    let all = c.sets_at.ensures ∙ ap (λ (ss : List RRset). sets_of_name ss c.args.key.now) c.records.ensures ∙ sets-keyed sets c.args.key.now r.name c.requires in
    let kept = c.is_kept_out.ensures ∙ ap (λ (ss : List RRset). is_kept_out ss c.record_type.result) all ∙ ap (is_kept_out (sets_of_name sets r.name)) c.record_type.ensures in
    let same = ap (λ t. same_record_type t kind.CNAME) (sym c.record_type-2.ensures) ∙ sym c.eq.ensures ∙ c.if-eq.true in
    let alias = c.is_other_alias.ensures ∙ ap (λ (o : Option RRset). is_other_alias o r) (c.get_at.ensures ∙ rrset-keyed sets c.args.key.now r.name kind.CNAME c.requires) in
    not_beside sets r c.is_other_alias.result (sym kept ∙ c.if-is_kept_out.false)
    (alias ∙ sym (ap (λ (b : Bool). b && is_other_alias (rrset_at sets r.name kind.CNAME) r) same))

pub returns-else-eq : goal.returns-else-eq
returns-else-eq c =
    let sets = c.args.zone.now.sets in
    let r = c.args.next.now in
    let all = c.sets_at.ensures ∙ ap (λ (ss : List RRset). sets_of_name ss c.args.key.now) c.records.ensures ∙ sets-keyed sets c.args.key.now r.name c.requires in
    let kept = c.is_kept_out.ensures ∙ ap (λ (ss : List RRset). is_kept_out ss c.record_type.result) all ∙ ap (is_kept_out (sets_of_name sets r.name)) c.record_type.ensures in
    let same = ap (λ t. same_record_type t kind.CNAME) (sym c.record_type-2.ensures) ∙ sym c.eq.ensures ∙ c.if-eq.false in
    not_beside sets r c.eq.result (sym kept ∙ c.if-is_kept_out.false)
    (c.if-eq.false ∙ sym (ap (λ (b : Bool). b && is_other_alias (rrset_at sets r.name kind.CNAME) r) same))
