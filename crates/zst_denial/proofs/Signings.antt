-- One more signature of a set.
use Rattle.std.proofs.Common.{◌≡◌, ℕ, arith, Bool, true, false, ◌&&◌, ◌||◌, ◌==◌, List, [], ◌∷◌, ◌++◌, sym, ap, ◌∙◌}
use Rattle.std.specs.Prelude.{OnOk, Result, Ok, Err, is_err}
use Rattle.std.specs.List.{AllByRecursion, list_any}
use Rattle.std.specs.Ordering.{is_eq}
use Rattle.std.proofs.lemmas.Bool.{true≢false}
use Rattle.std.proofs.lemmas.Bool.Decides.{nat_tests}
use Rattle.std.proofs.lemmas.Cmp.{tied_itself}
use Rattle.zst_handler.specs.dnw_codes.declared.dns_class.DNSClass.{DNSClass}
use Rattle.zst_handler.specs.dnw_codes.DNSClass.{class_number, same_class}
use Rattle.zst_handler.specs.dnw_name.DomainName.{DomainName, name_eq}
use Rattle.zst_handler.specs.dnw_name.NameOrderLaws.{name_eq-by_cmp}
use Rattle.zst_handler.specs.zst_record.RecordSets.{RRset}
use Rattle.zst_handler.specs.zst_record.declared.records.Record.{Record}
use Rattle.zst_hash.proofs.zst_key_lemmas.NamesAbove.{name_total}
use Rattle.drd_denial.specs.Rrsig.{Signing}
use Rattle.zst_denial.specs.Signing.{AreSignatures, IsSignatureBy, unsigned}

pub same_number : (n : ℕ) → (n == n) ≡ true
same_number n = grind (arith, nat_tests)

-- A record of the set's owner and class may be its signature, if it is an RRSIG.
pub fits : (set : RRset) (name : DomainName) (class : DNSClass) → name ≡ set.name → class ≡ set.dns_class
    → (name_eq name set.name && (same_class class set.dns_class && true)) ≡ true
fits set name class n c =
    let owner : name_eq name set.name ≡ true =
    ap (λ (x : DomainName). name_eq x set.name) n ∙ name_eq-by_cmp set.name set.name ∙ ap is_eq (tied_itself name_total set.name) in
    let same : same_class class set.dns_class ≡ true = ap (λ (x : DNSClass). same_class x set.dns_class) c ∙ same_number (class_number set.dns_class) in
    λ i. owner i && (same i && true)

pub any_more : {X : Type 0} (test : X → Bool) (xs : List X) (x : X) → list_any test xs ≡ false → test x ≡ false → list_any test (xs ++ x ∷ []) ≡ false
any_more test [] x none e = ap (λ (b : Bool). b || false) e
any_more test (y ∷ ys) x none e = by (test y) none (λ h. any_more test ys x h e) where
  by : (b : Bool) → (b || list_any test ys) ≡ false → (list_any test ys ≡ false → list_any test (ys ++ x ∷ []) ≡ false) → (b || list_any test (ys ++ x ∷ [])) ≡ false
  by true h later = h
  by false h later = later h

pub all_more : {X : Type 0} (P : X → Type 0) (xs : List X) (x : X) → AllByRecursion P xs → P x → AllByRecursion P (xs ++ x ∷ [])
all_more P [] x all p = (p, tt)
all_more P (y ∷ ys) x all p = (all.0, all_more P ys x all.1 p)

pub signatures_more : {K : Type 0} (gives : K → RRset → ℕ → Signing → Type 0) (ks : List K) (k : K) (set : RRset) (now : ℕ) (rs : List Record) (r : Record)
    → AreSignatures gives ks set now rs → (given : Signing) × gives k (unsigned set) now given × IsSignatureBy set given r
    → AreSignatures gives (ks ++ k ∷ []) set now (rs ++ r ∷ [])
signatures_more gives [] k set now [] r all here = (here, tt)
signatures_more gives [] k set now (x ∷ xs) r all here = absurd all
signatures_more gives (y ∷ ys) k set now [] r all here = absurd all
signatures_more gives (y ∷ ys) k set now (x ∷ xs) r all here = (all.0, signatures_more gives ys k set now xs r all.1 here)

-- What holds of a success, where there is no error.
pub no_error : {T E P : Type 0} (r : Result T E) (failed : Bool) → failed ≡ is_err r → failed ≡ false → OnOk r P → P
no_error (Ok x) failed is none p = p
no_error (Err e) failed is none p = absurd (true≢false (sym is ∙ none))
