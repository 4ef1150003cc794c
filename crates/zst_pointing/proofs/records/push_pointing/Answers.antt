use Rattle.std.proofs.Common.{List, ℕ, ◌++◌, ap, subst, sym, ◌∙◌}
use Rattle.std.specs.Net.Addr.{ipv4_bits}
use Rattle.zst_record.specs.Lending.{seen}
use Rattle.zst_record.specs.Writing.{head_numbers}
use Rattle.zst_record.specs.dnw_decoder.Octets.{octets_16, octets_32}
use Rattle.zst_record.specs.drd_rdata.Writing.{written_octets}
use Rattle.zst_record.specs.drd_rdata.declared.rdata.RData.{RData}
use Rattle.zst_record.specs.drd_rdata.declared.rdata.RData.TheVariants as rdata
use Rattle.zst_record.proofs.Emission.{are_address, are_wide}
use Rattle.zst_pointing.specs.Pointing.{DataPoint}
use Rattle.zst_pointing.proofs.PointingRecords.{held, puts_pointing}
use Rattle.zst_pointing.proofs.records.push_pointing.Goals as goal

pub returns-in_ok-push_address-in-A-clause-put : goal.returns-in_ok-push_address-in-A-clause-put
returns-in_ok-push_address-in-A-clause-put c = λ is.
    let asked = c.args.asked.now in
    let r = seen c.args.record.now in
    let own = octets_32 (ipv4_bits c.in-A.address.0) in
    let points = c.in-Some.ensures.points in
    let put = c.in_ok-push_address-in-A.ensures.ok in (
      (points.0, subst (λ (v : RData). DataPoint asked v) (sym c.in-A.is) tt),
      puts_pointing asked r 4 own c.args.octets.now.items c.push_address.new.octets.items c.owner_pointer.ensures.asked c.owner_pointer.ensures.owner points.0
          (held asked r.rdata 4 own (are_address r.rdata c.in-A.address c.in-A.is)) put.0
          (put.1 ∙ ap (λ (o : List ℕ). c.args.octets.now.items ++ (o ++ (head_numbers r ++ (octets_16 4 ++ own)))) points.1),
    )

pub returns-in_ok-push_wide-in-AAAA-clause-put : goal.returns-in_ok-push_wide-in-AAAA-clause-put
returns-in_ok-push_wide-in-AAAA-clause-put c = λ is.
    let asked = c.args.asked.now in
    let r = seen c.args.record.now in
    let own = written_octets (rdata.AAAA c.in-AAAA.address) in
    let points = c.in-Some.ensures.points in
    let put = c.in_ok-push_wide-in-AAAA.ensures.ok in (
      (points.0, subst (λ (v : RData). DataPoint asked v) (sym c.in-AAAA.is) tt),
      puts_pointing asked r 16 own c.args.octets.now.items c.push_wide.new.octets.items c.owner_pointer.ensures.asked c.owner_pointer.ensures.owner points.0
          (held asked r.rdata 16 own (are_wide r.rdata c.in-AAAA.address c.in-AAAA.is)) put.0
          (put.1 ∙ ap (λ (o : List ℕ). c.args.octets.now.items ++ (o ++ (head_numbers r ++ (octets_16 16 ++ own)))) points.1),
    )
