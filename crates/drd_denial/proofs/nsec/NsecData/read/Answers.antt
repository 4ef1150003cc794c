use Rattle.std.proofs.Common.{◌≡◌, ◌-◌, ℕ, List, sym, ap, subst, arith, ◌∙◌}
use Rattle.std.specs.Prelude.{length}
use Rattle.drd_plain.specs.dnw_decoder.Reading.{Reading}
use Rattle.drd_plain.specs.dnw_decoder.Spelling.{NameAt}
use Rattle.drd_plain.specs.dnw_name.DomainName.{DomainName}
use Rattle.dnw_wire.specs.BitMaps.{TypesAt}
use Rattle.drd_denial.specs.Nsec.{IsNsecData}
use Rattle.drd_denial.proofs.NsecLaws.{no_name, no_types, nothing_there, nsec_read, or_not, too_long}
use Rattle.drd_denial.proofs.nsec.NsecData.read.Goals as goal

pub returns-in-Err : goal.returns-in-Err
returns-in-Err c =
    let start : c.new-decoder.result.octets ≡ c.args.octets.now = ap (λ (r : Reading). r.octets) c.new-decoder.ensures in
    let zero : c.new-decoder.result.index ≡ 0 = ap (λ (r : Reading). r.index) c.new-decoder.ensures in
    nothing_there c.nothing.result c.in-Err.refused ((next : DomainName) (types : List ℕ) → IsNsecData c.args.octets.now next types → ⊥) (λ nsec. IsNsecData c.args.octets.now nsec.next nsec.types) c.nothing.ensures.memory c.nothing.ensures.none
    (or_not (λ (none : (name : DomainName) (end : ℕ) → NameAt c.new-decoder.result.octets c.new-decoder.result.index name end → ⊥). no_name c.args.octets.now (λ name end at. none name end (subst (λ (o : List ℕ). NameAt o c.new-decoder.result.index name end) (sym start) (subst (λ (n : ℕ). NameAt c.args.octets.now n name end) (sym zero) at)))) c.in-Err.ensures.none)

pub returns-then-len-gt65535 : goal.returns-then-len-gt65535
returns-then-len-gt65535 c =
    let start : c.new-decoder.result.octets ≡ c.args.octets.now = ap (λ (r : Reading). r.octets) c.new-decoder.ensures in
    let zero : c.new-decoder.result.index ≡ 0 = ap (λ (r : Reading). r.index) c.new-decoder.ensures in
    let index = c.read.new.decoder.index in
    let at : NameAt c.args.octets.now 0 c.in-Ok.next index =
    subst (λ (n : ℕ). NameAt c.args.octets.now n c.in-Ok.next index) zero (subst (λ (o : List ℕ). NameAt o c.new-decoder.result.index c.in-Ok.next index) start c.in-Ok.ensures.ok) in
    too_long c.args.octets.now c.in-Ok.next index at (omega (arith, c.if-len-gt65535.true, c.index.ensures.value))

pub returns-in-Ok-read_data : goal.returns-in-Ok-read_data
returns-in-Ok-read_data c =
    let start : c.new-decoder.result.octets ≡ c.args.octets.now = ap (λ (r : Reading). r.octets) c.new-decoder.ensures in
    let zero : c.new-decoder.result.index ≡ 0 = ap (λ (r : Reading). r.index) c.new-decoder.ensures in
    let index = c.read.new.decoder.index in
    let at : NameAt c.args.octets.now 0 c.in-Ok.next index =
    subst (λ (n : ℕ). NameAt c.args.octets.now n c.in-Ok.next index) zero (subst (λ (o : List ℕ). NameAt o c.new-decoder.result.index c.in-Ok.next index) start c.in-Ok.ensures.ok) in
    let moved : c.read.new.decoder.octets ≡ c.args.octets.now = c.in-Ok.ensures.same ∙ start in
    let h = c.in-Ok-read_data.ensures.ok in
    nsec_read c.args.octets.now c.in-Ok.next index (length c.args.octets.now - c.index.result) c.in-Ok-read_data.types c.read_data.new.decoder.index at (ap (λ (n : ℕ). length c.args.octets.now - n) c.index.ensures.value)
    (subst (λ (o : List ℕ). TypesAt o index (length c.args.octets.now - c.index.result) c.in-Ok-read_data.types c.read_data.new.decoder.index) moved c.in-Ok-read_data.ensures.ok)

pub returns : goal.returns
returns c =
    let start : c.new-decoder.result.octets ≡ c.args.octets.now = ap (λ (r : Reading). r.octets) c.new-decoder.ensures in
    let zero : c.new-decoder.result.index ≡ 0 = ap (λ (r : Reading). r.index) c.new-decoder.ensures in
    let index = c.read.new.decoder.index in
    let at : NameAt c.args.octets.now 0 c.in-Ok.next index =
    subst (λ (n : ℕ). NameAt c.args.octets.now n c.in-Ok.next index) zero (subst (λ (o : List ℕ). NameAt o c.new-decoder.result.index c.in-Ok.next index) start c.in-Ok.ensures.ok) in
    let moved : c.read.new.decoder.octets ≡ c.args.octets.now = c.in-Ok.ensures.same ∙ start in
    let len = length c.args.octets.now - c.index.result in
    nothing_there c.nothing-in-Err-read_data.result c.in-Err-read_data.refused ((next : DomainName) (types : List ℕ) → IsNsecData c.args.octets.now next types → ⊥) (λ nsec. IsNsecData c.args.octets.now nsec.next nsec.types) c.nothing-in-Err-read_data.ensures.memory c.nothing-in-Err-read_data.ensures.none
    (or_not (λ (none : (types : List ℕ) (end : ℕ) → TypesAt c.read.new.decoder.octets index len types end → ⊥).
    no_types c.args.octets.now c.in-Ok.next index len at (omega (arith, c.in-Ok.ensures.within, ap (λ (o : List ℕ). length o) moved)) (ap (λ (n : ℕ). length c.args.octets.now - n) c.index.ensures.value)
    (λ types end there. none types end (subst (λ (o : List ℕ). TypesAt o index len types end) (sym moved) there))) c.in-Err-read_data.ensures.none)
