use Rattle.std.proofs.Common.{◌≡◌, ◌+◌, List, ℕ, ◌++◌, length, ap, arith, ◌∙◌}
use Rattle.drd_fields.specs.Writing.{fields_octets}
use Rattle.zst_record.specs.Lending.{seen}
use Rattle.zst_record.specs.Writing.{head_numbers}
use Rattle.zst_record.specs.dnw_decoder.Octets.{octets_16}
use Rattle.zst_record.specs.drd_names.Fields.{soa_numbers}
use Rattle.zst_pointing.specs.Names.{spelling_octets}
use Rattle.zst_pointing.proofs.Putting.{head_put, pieces_put}
use Rattle.zst_pointing.proofs.records.push_spelled.Goals as goal

pub returns-clause-ok : goal.returns-clause-ok
returns-clause-ok c =
    let r = seen c.args.record.now in
    let mname = spelling_octets c.args.mname.now in
    let rname = spelling_octets c.args.rname.now in
    let size = length mname + length rname + 20 in
    let len : c.to_be_bytes-2.result ≡ octets_16 size = c.to_be_bytes-2.ensures ∙ ap octets_16 (omega (arith, c.len.ensures, c.len-2.ensures)) in (
      c.head_numbers.ensures.small,
      pieces_put c.args.octets.now.items c.reserve.new.self.items c.push.new.octets.items c.push-2.new.octets.items c.push-3.new.octets.items c.push-4.new.octets.items
          (octets_16 c.args.owner) (head_numbers r) (octets_16 size) mname rname (fields_octets (soa_numbers c.args.soa.now)) _
          c.reserve.ensures.items (head_put c.to_be_bytes.result c.head_numbers.result c.to_be_bytes-2.result c.args.owner size r c.to_be_bytes.ensures c.head_numbers.ensures.octets len)
          c.push.ensures.items c.push-2.ensures.items c.push-3.ensures.items
          (c.push-4.ensures.items ∙ ap (λ (o : List ℕ). c.push-3.new.octets.items ++ o) c.number_octets.ensures),
    )
