-- Octets of records that are put piece by piece.
use Rattle.std.proofs.Common.{◌≡◌, ◌+◌, ◌^◌, ◌<◌, ℕ, List, [], ◌∷◌, ◌++◌, length, length-append, append_assoc, slice_index_or, refl, sym, ap, subst, ◌∙◌, arith}
use Rattle.drd_fields.specs.Writing.{fields_octets}
use Rattle.drd_fields.proofs.ReadableLaws.{fields_alone, own_fields}
use Rattle.drd_fields.proofs.dnw_encoder_lemmas.NameLaws.{length-name_octets}
use Rattle.zst_record.specs.dnw_decoder.Octets.{octets_16, octets_32, Stands}
use Rattle.zst_record.proofs.dnw_decoder_lemmas.Standing.{stands_split}
use Rattle.zst_record.specs.dnw_name.DomainName.{DomainName, IsDomainName, name_octets}
use Rattle.zst_record.specs.drd_names.Fields.{soa_fields, soa_numbers}
use Rattle.zst_record.specs.drd_names.declared.soa.SOA.{SOA}
use Rattle.zst_record.specs.drd_rdata.declared.rdata.RData.{RData}
use Rattle.zst_record.specs.drd_rdata.declared.rdata.RData.TheVariants as rdata
use Rattle.zst_record.proofs.Emission.{eight_octets}
use Rattle.zst_record.specs.Writing.{head_numbers}
use Rattle.zst_record.specs.declared.records.Record.{Record}
use Rattle.zst_pointing.specs.Names.{IsNear, near_octets}
use Rattle.zst_pointing.proofs.NearNames.{near_size, near_stands}
use Rattle.zst_pointing.proofs.PointingRecords.{HoldsBehind}

two_octets : (octets : List ℕ) (n : ℕ) → octets ≡ octets_16 n → slice_index_or octets 0 0 ∷ slice_index_or octets 1 0 ∷ [] ≡ octets_16 n
two_octets octets n is = subst (λ (o : List ℕ). slice_index_or o 0 0 ∷ slice_index_or o 1 0 ∷ [] ≡ octets_16 n) (sym is) refl

fourteen_octets : (octets : List ℕ) (r : Record) (bits : ℕ) → octets ≡ head_numbers r ++ (octets_16 4 ++ octets_32 bits) → slice_index_or octets 0 0 ∷ slice_index_or octets 1 0 ∷ slice_index_or octets 2 0 ∷ slice_index_or octets 3 0 ∷ slice_index_or octets 4 0 ∷ slice_index_or octets 5 0 ∷ slice_index_or octets 6 0 ∷ slice_index_or octets 7 0 ∷ slice_index_or octets 8 0 ∷ slice_index_or octets 9 0 ∷ slice_index_or octets 10 0 ∷ slice_index_or octets 11 0 ∷ slice_index_or octets 12 0 ∷ slice_index_or octets 13 0 ∷ [] ≡ octets
unfolding octets_32
fourteen_octets octets r bits is =
    subst (λ (o : List ℕ). slice_index_or o 0 0 ∷ slice_index_or o 1 0 ∷ slice_index_or o 2 0 ∷ slice_index_or o 3 0 ∷ slice_index_or o 4 0 ∷ slice_index_or o 5 0 ∷ slice_index_or o 6 0 ∷ slice_index_or o 7 0 ∷ slice_index_or o 8 0 ∷ slice_index_or o 9 0 ∷ slice_index_or o 10 0 ∷ slice_index_or o 11 0 ∷ slice_index_or o 12 0 ∷ slice_index_or o 13 0 ∷ [] ≡ o) (sym is) refl

-- The octets of an address of 32 bits behind the pointer, one by one.
pub address_put : (pointer octets : List ℕ) (owner : ℕ) (r : Record) (bits : ℕ) → pointer ≡ octets_16 owner → octets ≡ head_numbers r ++ (octets_16 4 ++ octets_32 bits) → slice_index_or pointer 0 0 ∷ slice_index_or pointer 1 0 ∷ slice_index_or octets 0 0 ∷ slice_index_or octets 1 0 ∷ slice_index_or octets 2 0 ∷ slice_index_or octets 3 0 ∷ slice_index_or octets 4 0 ∷ slice_index_or octets 5 0 ∷ slice_index_or octets 6 0 ∷ slice_index_or octets 7 0 ∷ slice_index_or octets 8 0 ∷ slice_index_or octets 9 0 ∷ slice_index_or octets 10 0 ∷ slice_index_or octets 11 0 ∷ slice_index_or octets 12 0 ∷ slice_index_or octets 13 0 ∷ [] ≡ octets_16 owner ++ (head_numbers r ++ (octets_16 4 ++ octets_32 bits))
address_put pointer octets owner r bits points is =
    ap (λ (o : List ℕ). slice_index_or pointer 0 0 ∷ slice_index_or pointer 1 0 ∷ o) (fourteen_octets octets r bits is)
    ∙ ap (λ (o : List ℕ). o ++ octets) (two_octets pointer owner points) ∙ ap (λ (o : List ℕ). octets_16 owner ++ o) is

-- What stands before the data of a zone's start: pointer, type, class, time to live, and how many octets these take.
pub head_put : (pointer head len : List ℕ) (owner n : ℕ) (r : Record) → pointer ≡ octets_16 owner → head ≡ head_numbers r → len ≡ octets_16 n → slice_index_or pointer 0 0 ∷ slice_index_or pointer 1 0 ∷ slice_index_or head 0 0 ∷ slice_index_or head 1 0 ∷ slice_index_or head 2 0 ∷ slice_index_or head 3 0 ∷ slice_index_or head 4 0 ∷ slice_index_or head 5 0 ∷ slice_index_or head 6 0 ∷ slice_index_or head 7 0 ∷ slice_index_or len 0 0 ∷ slice_index_or len 1 0 ∷ [] ≡ octets_16 owner ++ (head_numbers r ++ octets_16 n)
head_put pointer head len owner n r points is long =
    ap (λ (o : List ℕ). slice_index_or pointer 0 0 ∷ slice_index_or pointer 1 0 ∷ slice_index_or head 0 0 ∷ slice_index_or head 1 0 ∷ slice_index_or head 2 0 ∷ slice_index_or head 3 0 ∷ slice_index_or head 4 0 ∷ slice_index_or head 5 0 ∷ slice_index_or head 6 0 ∷ slice_index_or head 7 0 ∷ o) (two_octets len n long)
    ∙ ap (λ (o : List ℕ). slice_index_or pointer 0 0 ∷ slice_index_or pointer 1 0 ∷ (o ++ octets_16 n)) (eight_octets head r is)
    ∙ ap (λ (o : List ℕ). o ++ (head_numbers r ++ octets_16 n)) (two_octets pointer owner points)

-- The pieces one behind the other.
pub pieces_put : (old begun first second third last pointer head len mname rname numbers front : List ℕ) → begun ≡ old → front ≡ pointer ++ (head ++ len) → first ≡ begun ++ front → second ≡ first ++ mname → third ≡ second ++ rname → last ≡ third ++ numbers → last ≡ old ++ (pointer ++ (head ++ (len ++ (mname ++ (rname ++ numbers)))))
pieces_put old begun first second third last pointer head len mname rname numbers front same is one two three four =
    let rest = mname ++ (rname ++ numbers) in
    four ∙ ap (λ (o : List ℕ). o ++ numbers) (three ∙ ap (λ (o : List ℕ). o ++ rname) (two ∙ ap (λ (o : List ℕ). o ++ mname) (one ∙ ap (λ (o : List ℕ). o ++ front) same)))
    ∙ append_assoc ((old ++ front) ++ mname) rname numbers ∙ append_assoc (old ++ front) mname (rname ++ numbers) ∙ append_assoc old front rest
    ∙ ap (λ (o : List ℕ). old ++ o) (ap (λ (o : List ℕ). o ++ rest) is ∙ append_assoc pointer (head ++ len) rest ∙ ap (λ (o : List ℕ). pointer ++ o) (append_assoc head len rest))

numbers_size : (soa : SOA) → length (fields_octets (soa_numbers soa)) ≡ 20
unfolding octets_32
numbers_size soa = refl

-- So few that 16 bits count them.
pub start_few : (asked : DomainName) (soa : SOA) (m n : ℕ) (mname rname : List ℕ) → IsDomainName soa.mname → IsDomainName soa.rname → IsNear asked soa.mname m → IsNear asked soa.rname n → mname ≡ near_octets asked soa.mname m → rname ≡ near_octets asked soa.rname n → length mname + length rname + 20 < 2 ^ 16
start_few asked soa m n mname rname mname_is rname_is mname_near rname_near mname_octets rname_octets =
    omega (arith, ap length mname_octets, ap length rname_octets, near_size asked soa.mname m mname_near, near_size asked soa.rname n rname_near, mname_is.short, rname_is.short, length-name_octets soa.mname, length-name_octets soa.rname)

-- The octets of a zone's start whose names point.
pub start_held : (asked : DomainName) (v : RData) (soa : SOA) (m n : ℕ) (mname rname : List ℕ) → v ≡ rdata.SOA soa → IsDomainName asked → IsDomainName soa.mname → IsDomainName soa.rname → IsNear asked soa.mname m → IsNear asked soa.rname n → mname ≡ near_octets asked soa.mname m → rname ≡ near_octets asked soa.rname n → HoldsBehind asked v (length mname + length rname + 20) (mname ++ (rname ++ fields_octets (soa_numbers soa)))
start_held asked v soa m n mname rname is named mname_is rname_is mname_near rname_near mname_octets rname_octets = subst (λ (v : RData). HoldsBehind asked v (length mname + length rname + 20) (mname ++ (rname ++ fields_octets (soa_numbers soa)))) (sym is) (record {
  holds = λ readable message first place end there before stands.
      let alone = fields_alone readable.message readable.place (soa_fields soa) readable.end readable.there.0 in
      let both = stands_split message place mname (rname ++ fields_octets (soa_numbers soa)) end stands in
      let more = stands_split message (place + length mname) rname (fields_octets (soa_numbers soa)) end both.1 in
      let middle = place + length mname in
      let last = place + length mname + length rname in (
        refl,
        (
          (
            middle,
            near_stands asked soa.mname m mname_near named mname_is alone.0.0 message first place middle there before (subst (λ (o : List ℕ). Stands message place o middle) mname_octets both.0),
            (
              last,
              near_stands asked soa.rname n rname_near named rname_is alone.1.0.0 message first middle last there (omega (arith, before)) (subst (λ (o : List ℕ). Stands message middle o last) rname_octets more.0),
              own_fields message last (soa_numbers soa) end alone.1.1 more.1,
            ),
          ),
          tt,
        ),
      );
  short = λ far. far;
  long = omega (arith, length-append mname (rname ++ fields_octets (soa_numbers soa)), length-append rname (fields_octets (soa_numbers soa)), numbers_size soa);
  plain = omega (
    arith,
    ap length mname_octets,
    ap length rname_octets,
    near_size asked soa.mname m mname_near,
    near_size asked soa.rname n rname_near,
    numbers_size soa,
    length-append (name_octets soa.mname) (name_octets soa.rname ++ fields_octets (soa_numbers soa)),
    length-append (name_octets soa.rname) (fields_octets (soa_numbers soa)),
  );
  some = omega arith;
  few = start_few asked soa m n mname rname mname_is rname_is mname_near rname_near mname_octets rname_octets;
})
