-- Records that are written one behind the other.
use Rattle.std.proofs.Common.{◌≡◌, ℕ, List, [], ◌∷◌, ◌++◌, length, append_assoc, refl, sym, ap, subst, ◌∙◌}
use Rattle.std.specs.Prelude.{Option, Some, None, IfSome, MatchOption, Result, Ok, Err, IfOk}
use Rattle.zsv_reply.specs.Writing.{AreWritten}
use Rattle.zsv_reply.specs.declared.written_reply.WrittenRecords.{WrittenRecords}
use Rattle.std.specs.List.{AllByRecursion}
use Rattle.std.proofs.lemmas.List.{append-nil}
use Rattle.zsv_reply.specs.zst_pointing.Pointing.{ArePointing, Points, PutsPointing}
use Rattle.zsv_reply.specs.zst_record.dnw_name.DomainName.{DomainName}
use Rattle.zsv_reply.specs.zst_record.declared.records.Record.{Record}

-- One more behind them.
pub pointing_more : (asked : DomainName) (taken : List Record) (octets new : List ℕ) (r : Record) → ArePointing asked taken octets → PutsPointing asked r octets new → ArePointing asked (taken ++ r ∷ []) new
pointing_more asked [] octets new r none puts =
    (puts.octets, [], puts.is, puts.put ∙ ap (λ (o : List ℕ). o ++ puts.octets) none ∙ sym (append-nil puts.octets), refl)
pointing_more asked (t ∷ ts) octets new r (one, rest, is, same, later) puts = (
  one,
  rest ++ puts.octets,
  is,
  puts.put ∙ ap (λ (o : List ℕ). o ++ puts.octets) same ∙ append_assoc one rest puts.octets,
  pointing_more asked ts rest (rest ++ puts.octets) r later (record { octets = puts.octets; put = refl; is = puts.is }),
)

-- Where all can point, each can.
pub each_points : (asked : DomainName) (taken later : List Record) (r : Record) → AllByRecursion (Points asked) (taken ++ r ∷ later) → Points asked r
each_points asked [] later r all = all.0
each_points asked (t ∷ ts) later r all = each_points asked ts later r all.1

-- The list is written as answers, or as authority.
pub list_answers : (asked : DomainName) (written : WrittenRecords) (records : List Record) → length records ≡ written.answers → written.authorities ≡ 0 → ArePointing asked records written.octets.now → AreWritten asked written records []
list_answers asked written records counted none are = record {
  answered = counted;
  authorized = sym none;
  pointing = subst (λ (rs : List Record). ArePointing asked rs written.octets.now) (sym (append-nil records)) are;
}

pub list_authorities : (asked : DomainName) (written : WrittenRecords) (records : List Record) → length records ≡ written.authorities → written.answers ≡ 0 → ArePointing asked records written.octets.now → AreWritten asked written [] records
list_authorities asked written records counted none are = record { answered = sym none; authorized = counted; pointing = are }

-- What is said of what was found.
pub found_told : {X : Type 0} (P : Type 0) (R : X → Type 0) (o : Option X) (x : X) → o ≡ Some x → MatchOption o P R → R x
found_told {X = X} P R o x is told = subst (λ (found : Option X). MatchOption found P R) is told

-- Two clauses on what is returned, put together.
pub both_ok : {X E : Type 0} (P Q R : X → Type 0) (r : Result X E) → ((x : X) → P x → Q x → R x) → IfOk r P → IfOk r Q → IfOk r R
both_ok P Q R (Ok x) joined p q = joined x p q
both_ok P Q R (Err e) joined p q = tt

-- Two clauses on what was found, put together.
pub both_found : {X : Type 0} (P : Type 0) (R Q S : X → Type 0) (o : Option X) → ((x : X) → R x → Q x → S x) → MatchOption o P R → IfSome o Q → IfSome o S
both_found P R Q S None joined m q = tt
both_found P R Q S (Some x) joined m q = joined x m q
