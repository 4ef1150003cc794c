use Rattle.std.proofs.Common.{◌∙◌, ap, List, ℕ, ◌∷◌, [], ◌++◌, slice_index_or}
use Rattle.zst_record.specs.Lending.{seen}
use Rattle.zst_record.specs.Writing.{head_numbers}
use Rattle.zst_record.proofs.Emission.{eight_octets, sixteen_octets}
use Rattle.zst_record.proofs.records.RecordRef.wide_octets.Goals as goal

pub returns-clause-octets : goal.returns-clause-octets
returns-clause-octets c =
    let own = c.octets_of.result in
    let address = slice_index_or own 0 0 ∷ slice_index_or own 1 0 ∷ slice_index_or own 2 0 ∷ slice_index_or own 3 0 ∷ slice_index_or own 4 0 ∷ slice_index_or own 5 0 ∷ slice_index_or own 6 0 ∷ slice_index_or own 7 0 ∷ slice_index_or own 8 0 ∷ slice_index_or own 9 0 ∷ slice_index_or own 10 0 ∷ slice_index_or own 11 0 ∷ slice_index_or own 12 0 ∷ slice_index_or own 13 0 ∷ slice_index_or own 14 0 ∷ slice_index_or own 15 0 ∷ [] in
    ap (λ (front : List ℕ). front ++ 0 ∷ 16 ∷ address) (eight_octets c.head_numbers.result (seen c.args.self.now) c.head_numbers.ensures.octets)
    ∙ ap (λ (rest : List ℕ). head_numbers (seen c.args.self.now) ++ 0 ∷ 16 ∷ rest) (sixteen_octets own c.args.aaaa.now c.octets_of.ensures)
