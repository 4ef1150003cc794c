use Rattle.std.proofs.Common.{ℕ, ◌∙◌, ap, List, ◌∷◌, [], ◌++◌, slice_index_or}
use Rattle.std.specs.Int.{to_be_bytes, w32}
use Rattle.std.specs.Net.Addr.{ipv4_bits}
use Rattle.zst_record.specs.Lending.{seen}
use Rattle.zst_record.specs.Writing.{head_numbers}
use Rattle.zst_record.proofs.Emission.{eight_octets, four_octets}
use Rattle.zst_record.proofs.records.RecordRef.address_octets.Goals as goal

pub returns-clause-octets : goal.returns-clause-octets
returns-clause-octets c =
    let four = c.to_be_bytes.result in
    let address = slice_index_or four 0 0 ∷ slice_index_or four 1 0 ∷ slice_index_or four 2 0 ∷ slice_index_or four 3 0 ∷ [] in
    ap (λ (front : List ℕ). front ++ 0 ∷ 4 ∷ address) (eight_octets c.head_numbers.result (seen c.args.self.now) c.head_numbers.ensures.octets)
    ∙ ap (λ (rest : List ℕ). head_numbers (seen c.args.self.now) ++ 0 ∷ 4 ∷ rest)
    (four_octets four (ipv4_bits c.args.a.now.0) (c.to_be_bytes.ensures ∙ ap (λ (n : ℕ). to_be_bytes w32 n) c.to_bits.ensures))
