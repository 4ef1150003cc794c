use Rattle.std.proofs.Common.{◌∙◌, ◌∷◌, [], ◌++◌, ℕ, List, length, ap, arith, append_assoc}
use Rattle.dnw_encoder.proofs.NameLaws.{encoded_is, length-encoded, length-octets}
use Rattle.dnw_encoder.proofs.NameOctets.{encoded_octets}
use Rattle.dnw_encoder.proofs.name.append_name.Goals as goal

pub append-requires : goal.append-requires
append-requires c = omega (arith, c.requires, length-encoded c.args.encoding c.args.name.now, ap length c.as_octets.ensures.octets, length-octets c.args.name.now)

pub push_reserved-requires : goal.push_reserved-requires
push_reserved-requires c =
    omega (arith, c.requires, length-encoded c.args.encoding c.args.name.now, ap length c.as_octets.ensures.octets, length-octets c.args.name.now, c.append.ensures.len, c.append.ensures.capacity)

pub returns-clause-octets : goal.returns-clause-octets
returns-clause-octets c =
    c.push_reserved.ensures.items
    ∙ ap (λ (o : List ℕ). o ++ 0 ∷ []) c.append.ensures.items
    ∙ append_assoc c.args.buffer.now.items _ (0 ∷ [])
    ∙ ap (λ (o : List ℕ). c.args.buffer.now.items ++ (o ++ 0 ∷ []))
    (encoded_octets c.args.encoding c.args.name.now c.is_lower.result c.as_octets.result.now c.as_octets.ensures.name c.is_lower.ensures c.as_octets.ensures.octets)

pub returns-clause-name : goal.returns-clause-name
returns-clause-name c = encoded_is c.args.encoding c.args.name.now c.as_octets.ensures.name
