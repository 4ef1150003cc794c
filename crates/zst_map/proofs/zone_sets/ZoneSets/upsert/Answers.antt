use Rattle.std.proofs.Common.{◌≡◌, ◌∙◌, sym, ap, List}
use Rattle.std.specs.Prelude.{Bool, true, false, not, ◌||◌, Result, Ok, Err, OnOk}
use Rattle.std.proofs.lemmas.Bool.{true≢false}
use Rattle.std.proofs.lemmas.Result.{IfOk-weaker}
use Rattle.zst_handler.specs.dnw_codes.DNSClass.{same_class}
use Rattle.zst_handler.specs.dnw_codes.declared.dns_class.DNSClass.TheVariants.{IN}
use Rattle.zst_handler.specs.zst_record.declared.records.Record.{Record}
use Rattle.zst_handler.specs.dnw_name.DomainName.{DomainName, lowercase_name}
use Rattle.zst_handler.specs.drd_rdata.Types.{type_of}
use Rattle.zst_handler.specs.zst_record.RecordSets.{RRset}
use Rattle.zst_handler.specs.Lookups.{sets_of_name}
use Rattle.zst_handler.specs.Updates.{is_kept_out, joins}
use Rattle.zst_handler.specs.Zones.{rrset_at}
use Rattle.zst_map.proofs.Upserted.{alters_joins, kept_out, left_alone, let_in, sets_named}
use Rattle.zst_map.proofs.zone_sets.ZoneSets.upsert.Goals as goal

-- the test of the code, as the zone's sets say it
abbrev IsOut : List RRset → Record → Bool → Type 0
IsOut zone r out = (not (same_class r.dns_class IN) || is_kept_out (sets_of_name zone r.name) (type_of r.rdata)) ≡ out

tested : (inside zone there : List RRset) (key : DomainName) (r : Record) (result out : Bool) → key ≡ lowercase_name r.name → inside ≡ zone → there ≡ sets_of_name inside key
    → result ≡ (not (same_class r.dns_class IN) || is_kept_out there (type_of r.rdata)) → result ≡ out → IsOut zone r out
tested inside zone there key r result out keyed view at told is =
    ap (λ (ss : List RRset). not (same_class r.dns_class IN) || is_kept_out ss (type_of r.rdata))
    (sym (at ∙ ap (λ (z : List RRset). sets_of_name z key) view ∙ ap (sets_of_name zone) keyed ∙ sets_named zone r.name))
    ∙ sym told ∙ is

pub returns-then-is_kept_out-clause-changed : goal.returns-then-is_kept_out-clause-changed
returns-then-is_kept_out-clause-changed c =
    kept_out (same_class c.args.next.dns_class IN) (is_kept_out (sets_of_name c.args.self.now c.args.next.name) (type_of c.args.next.rdata)) (joins (rrset_at c.args.self.now c.args.next.name (type_of c.args.next.rdata)) c.args.next)
    (tested c.self.inside.sets c.args.self.now c.sets_at.result.now c.args.key c.args.next c.is_kept_out.result true c.requires c.self.view_is c.sets_at.ensures c.is_kept_out.ensures c.if-is_kept_out.true)

pub returns-then-is_kept_out-clause-ok : goal.returns-then-is_kept_out-clause-ok
returns-then-is_kept_out-clause-ok c = λ changes. absurd (true≢false (sym changes ∙ sym (returns-then-is_kept_out-clause-changed c)))

pub returns-then-is_kept_out-clause-ordered : goal.returns-then-is_kept_out-clause-ordered
returns-then-is_kept_out-clause-ordered c = λ changes. absurd (true≢false (sym changes ∙ sym (returns-then-is_kept_out-clause-changed c)))

all_ok : {T E : Type 0} {P Q R S : Type 0} (r : Result T E) → (P → Q → R → S) → OnOk r P → OnOk r Q → OnOk r R → OnOk r S
all_ok (Ok x) f p q s = f p q s
all_ok (Err e) f p q s = p

pub returns-clause-changed : goal.returns-clause-changed
returns-clause-changed c =
    let there = rrset_at c.args.self.now c.args.next.name (type_of c.args.next.rdata) in
    IfOk-weaker c.change.result _ _
    (λ changed e. e ∙ alters_joins there c.args.next
    ∙ let_in (same_class c.args.next.dns_class IN) (is_kept_out (sets_of_name c.args.self.now c.args.next.name) (type_of c.args.next.rdata)) (joins (rrset_at c.args.self.now c.args.next.name (type_of c.args.next.rdata)) c.args.next)
    (tested c.self.inside.sets c.args.self.now c.sets_at.result.now c.args.key c.args.next c.is_kept_out.result false c.requires c.self.view_is c.sets_at.ensures c.is_kept_out.ensures c.if-is_kept_out.false))
    c.change.ensures.changed

pub returns-clause-unchanged : goal.returns-clause-unchanged
returns-clause-unchanged c =
    let there = rrset_at c.args.self.now c.args.next.name (type_of c.args.next.rdata) in
    let joined = let_in (same_class c.args.next.dns_class IN) (is_kept_out (sets_of_name c.args.self.now c.args.next.name) (type_of c.args.next.rdata)) (joins (rrset_at c.args.self.now c.args.next.name (type_of c.args.next.rdata)) c.args.next)
    (tested c.self.inside.sets c.args.self.now c.sets_at.result.now c.args.key c.args.next c.is_kept_out.result false c.requires c.self.view_is c.sets_at.ensures c.is_kept_out.ensures c.if-is_kept_out.false) in
    all_ok c.change.result
    (λ before after replaces same. left_alone c.args.self.now c.args.next c.change.new.self before after (joined ∙ same) replaces)
    c.change.ensures.before c.change.ensures.ordered c.change.ensures.ok
