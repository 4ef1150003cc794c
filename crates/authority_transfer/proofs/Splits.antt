-- A list is its items before an index, the item at the index, and the items after it.
use Rattle.std.proofs.Common.{◌⊎◌, inl, inr, ◌≡◌, ◌∙◌, refl, sym, ap, ℕ, ◌<◌, zero, suc, List, [], ◌∷◌, ◌++◌, length, take, get_or, arith}
use Rattle.std.specs.Prelude.{Some}
use Rattle.zsv_message.specs.zst_record.declared.records.Record.{Record}
use Rattle.authority_load.specs.zst_zone.zst_handler.Zones.{Zone}
use Rattle.authority_transfer.specs.Transfers.{RefusesRecords, TakesAll, record_fault}
use Rattle.authority_transfer.specs.declared.error.TransferError.{TransferError}
use Rattle.authority_transfer.specs.declared.error.TransferError.TheVariants as errors

record Parts (all : List Record) (k : ℕ) (x : Record) : Type 0 where
  later : List Record
  is : all ≡ take k all ++ x ∷ later
  count : length (take k all) ≡ k

parts : (all : List Record) (k : ℕ) (x : Record) → k < length all → x ≡ get_or all k x → Parts all k x
parts [] k x h e = absurd (omega (arith, h))
parts (y ∷ ys) zero x h e = record { later = ys; is = ap (λ (z : Record). z ∷ ys) (sym e); count = refl }
parts (y ∷ ys) (suc k) x h e =
    let p = parts ys k x (omega (arith, h)) e in
    record { later = p.later; is = ap (λ (zs : List Record). y ∷ zs) p.is; count = let c = p.count in omega (arith, c) }

pub refused_at : (old mid : Zone) (rs : List Record) (k index : ℕ) (x : Record) (e : TransferError) → (k < length rs) × (x ≡ get_or rs k x) → index ≡ k → TakesAll old (take k rs) mid
    → (e ≡ errors.OutOfMemory) ⊎ (record_fault mid index x ≡ Some e) → RefusesRecords old rs e
refused_at old mid rs k index x e at same takes (inl memory) = inl memory
refused_at old mid rs k index x e at same takes (inr cause) =
    let p = parts rs k x at.0 at.1 in
    inr (record {
      front = take k rs;
      refused = x;
      later = p.later;
      parts = p.is;
      zone = mid;
      before = takes;
      cause = ap (λ (n : ℕ). record_fault mid n x) (p.count ∙ sym same) ∙ cause;
    })
