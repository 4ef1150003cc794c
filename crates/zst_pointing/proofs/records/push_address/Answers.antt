use Rattle.std.proofs.Common.{List, ℕ, ◌++◌, ap, ◌∙◌}
use Rattle.std.specs.Net.Addr.{ipv4_bits}
use Rattle.drd_fields.proofs.WritingLaws.{on_ok}
use Rattle.zst_record.specs.Lending.{seen}
use Rattle.zst_pointing.proofs.Putting.{address_put}
use Rattle.zst_pointing.proofs.records.push_address.Goals as goal

pub returns-clause-ok : goal.returns-clause-ok
returns-clause-ok c =
    on_ok c.extend_from_slice.result
    (λ put. (
      c.address_octets.ensures.small,
      put ∙ ap (λ (o : List ℕ). c.args.octets.now.items ++ o)
          (address_put c.to_be_bytes.result c.address_octets.result c.args.owner (seen c.args.record.now) (ipv4_bits c.args.address.now.0) c.to_be_bytes.ensures c.address_octets.ensures.octets),
    ))
    c.extend_from_slice.ensures.ok
