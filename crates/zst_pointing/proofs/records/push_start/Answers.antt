use Rattle.std.proofs.Common.{◌+◌, List, ℕ, ◌++◌, length, ap, refl, ◌∙◌}
use Rattle.drd_fields.specs.Writing.{fields_octets}
use Rattle.zst_record.specs.Lending.{seen}
use Rattle.zst_record.specs.Writing.{head_numbers}
use Rattle.zst_record.specs.dnw_decoder.Octets.{octets_16}
use Rattle.zst_record.specs.drd_names.Fields.{soa_numbers}
use Rattle.zst_pointing.specs.Names.{spelling_octets}
use Rattle.zst_pointing.proofs.PointingRecords.{puts_pointing}
use Rattle.zst_pointing.proofs.Putting.{start_few, start_held}
use Rattle.zst_pointing.proofs.records.push_start.Goals as goal

pub returns-in_default-clause-left : goal.returns-in_default-clause-left
returns-in_default-clause-left c = λ is. (λ points. c.in_default.ensures.spelled points.mname_own points.mname, refl)

pub returns-in_default-of-clause-left : goal.returns-in_default-of-clause-left
returns-in_default-of-clause-left c = λ is. (λ points. c.in_default-of.ensures.spelled points.rname_own points.rname, refl)

pub push_spelled-requires : goal.push_spelled-requires
push_spelled-requires c =
    start_few c.args.asked.now c.args.soa.now (length c.in-Some.mname.own.now) (length c.in-Some-of.rname.own.now) (spelling_octets c.in-Some.mname) (spelling_octets c.in-Some-of.rname)
    c.of.ensures.name c.of-2.ensures.name c.in-Some.ensures.spelled.0 c.in-Some-of.ensures.spelled.0 c.in-Some.ensures.spelled.1 c.in-Some-of.ensures.spelled.1

pub returns-clause-put : goal.returns-clause-put
returns-clause-put c = λ is.
    let r = seen c.args.record.now in
    let soa = c.args.soa.now in
    let m = length c.in-Some.mname.own.now in
    let n = length c.in-Some-of.rname.own.now in
    let mname = spelling_octets c.in-Some.mname in
    let rname = spelling_octets c.in-Some-of.rname in
    let rest = mname ++ (rname ++ fields_octets (soa_numbers soa)) in
    let size = length mname + length rname + 20 in
    let put = c.in_ok-push_spelled.ensures.ok in (
      record {
        mname_own = m;
        rname_own = n;
        apart_own = c.own_octets.result;
        mname = c.in-Some.ensures.spelled.0;
        rname = c.in-Some-of.ensures.spelled.0;
        apart = c.own_octets.ensures;
        no_more = c.if-own_octets-rname.false;
      },
      puts_pointing c.args.asked.now r size rest c.args.octets.now.items c.push_spelled.new.octets.items c.requires.asked c.requires.name c.requires.points
          (start_held c.args.asked.now r.rdata soa m n mname rname c.requires.data c.requires.asked c.of.ensures.name c.of-2.ensures.name c.in-Some.ensures.spelled.0 c.in-Some-of.ensures.spelled.0 c.in-Some.ensures.spelled.1 c.in-Some-of.ensures.spelled.1)
          put.0
          (put.1 ∙ ap (λ (o : List ℕ). c.args.octets.now.items ++ (o ++ (head_numbers r ++ (octets_16 size ++ rest)))) c.requires.owner),
    )
