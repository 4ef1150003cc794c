use Rattle.std.proofs.Common.{rules, ◌≡◌, ◌++◌, ◌∷◌, [], ℕ, List, cond, ap, ◌∙◌, append_assoc}
use Rattle.dnw_wire.specs.BitMapLaws.{tight_reads}
use Rattle.drd_denial.specs.Nsec3.{parameter_octets}
use Rattle.drd_denial.proofs.nsec3.nsec3_data.Goals as goal

pub returns : goal.returns
returns c =
    let maps = c.in_ok-maps.maps.items in
    let front = parameter_octets (cond c.args.opt_out 1 0) c.args.iterations c.args.salt.now in
    let next = c.args.next.now in
    let flags : c.from.result ≡ cond c.args.opt_out 1 0 = search rules in
    let parameters : c.in_ok-octets.octets.items ≡ front = c.in_ok-octets.ensures ∙ ap (λ (f : ℕ). parameter_octets f c.args.iterations c.args.salt.now) flags in
    record {
      long = c.told-next;
      maps = maps;
      whole = c.in_ok-extend_from_slice-2.ensures.items
          ∙ (λ i. (c.in_ok-extend_from_slice.ensures.items ∙ ap (λ (o : List ℕ). o ++ next) (c.in_ok-push.ensures.items ∙ ap (λ (o : List ℕ). o ++ 20 ∷ []) parameters)) i ++ c.deref.ensures.value i)
          ∙ ap (λ (o : List ℕ). o ++ maps) (append_assoc front (20 ∷ []) next);
      are = tight_reads 0 maps c.args.types.now c.in_ok-maps.ensures.maps;
    }
