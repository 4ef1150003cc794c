use Rattle.std.proofs.Common.{◌++◌, ◌∷◌, [], ℕ, List, ap, ◌∙◌}
use Rattle.dnw_wire.specs.BitMapLaws.{tight_reads}
use Rattle.drd_denial.proofs.NsecLaws.{nsec_written}
use Rattle.drd_denial.proofs.nsec.nsec_data.Goals as goal

pub returns : goal.returns
returns c =
    let front = ap (λ (o : List ℕ). o ++ 0 ∷ []) (c.in_ok-octets.ensures.items ∙ c.as_octets.ensures.octets) in
    let maps = c.in_ok-maps.maps.items in
    nsec_written c.args.next.now c.args.types.now c.extend_from_slice.new.self.items maps c.as_octets.ensures.name
    (c.in_ok-extend_from_slice.ensures.items ∙ (λ i. (c.in_ok-push.ensures.items ∙ front) i ++ c.deref.ensures.value i))
    (tight_reads 0 maps c.args.types.now c.in_ok-maps.ensures.maps)
