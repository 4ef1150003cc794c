-- Signatures of a set are those of the set without its own.
use Rattle.std.proofs.Common.{List, [], ◌∷◌, ℕ}
use Rattle.std.specs.Prelude.{IfErr, IfOk, OnOk, Result, Ok, Err}
use Rattle.zst_absence.specs.drd_denial.Rrsig.{Signing}
use Rattle.zst_absence.specs.zst_denial.Signing.{AreSignatures, unsigned}
use Rattle.zst_absence.specs.zst_record.RecordSets.{RRset}
use Rattle.zst_absence.specs.zst_record.declared.records.Record.{Record}

pub are_unsigned : {K : Type 0} (gives : K → RRset → ℕ → Signing → Type 0) (ks : List K) (set : RRset) (now : ℕ) (rs : List Record) → AreSignatures gives ks set now rs
    → AreSignatures gives ks (unsigned set) now rs
are_unsigned gives [] set now [] all = tt
are_unsigned gives [] set now (r ∷ rs) all = absurd all
are_unsigned gives (k ∷ ks) set now [] all = absurd all
are_unsigned gives (k ∷ ks) set now (r ∷ rs) all =
    let it = all.0 in
    ((it.0, it.1, record { owner = it.2.owner; class = it.2.class; ttl = it.2.ttl; record_type = it.2.record_type; held = it.2.held }), are_unsigned gives ks set now rs all.1)

pub ok_both : {T E : Type 0} (P R : T → Type 0) (Q : Type 0) (r : Result T E) → ((x : T) → P x → Q → R x) → IfOk r P → OnOk r Q → IfOk r R
ok_both P R Q (Ok x) f p q = f x p q
ok_both P R Q (Err e) f p q = tt

pub if_ok : {T E : Type 0} {P Q : T → Type 0} (r : Result T E) → ((x : T) → P x → Q x) → IfOk r P → IfOk r Q
if_ok (Ok x) f p = f x p
if_ok (Err e) f p = tt

pub ok_two : {T E A B C : Type 0} (r : Result T E) → (A → B → C) → OnOk r A → OnOk r B → OnOk r C
ok_two (Ok x) f a b = f a b
ok_two (Err e) f a b = tt

pub err_as : {T E : Type 0} {P Q : E → Type 0} (r : Result T E) → ((e : E) → P e → Q e) → IfErr r P → IfErr r Q
err_as (Ok x) f p = tt
err_as (Err e) f p = f e p

pub ok_as : {T E A C : Type 0} (r : Result T E) → (A → C) → OnOk r A → OnOk r C
ok_as (Ok x) f a = f a
ok_as (Err e) f a = tt

pub ok_three : {T E A B C D : Type 0} (r : Result T E) → (A → B → C → D) → OnOk r A → OnOk r B → OnOk r C → OnOk r D
ok_three (Ok x) f a b c = f a b c
ok_three (Err e) f a b c = tt
