-- What denies a name denies each name that equals it up to case.
use Rattle.std.proofs.Common.{◌≡◌, ◌∙◌, ◌==◌, true, not, List, [], ◌∷◌, ℕ, inl, inr, refl, sym, ap, true≢false}
use Rattle.std.specs.List.{list_any}
use Rattle.std.specs.Ordering.{is_eq, is_lt}
use Rattle.std.specs.declared.cmp.Ordering.{Ordering}
use Rattle.std.specs.declared.cmp.Ordering.TheVariants.{Less, Equal, Greater}
use Rattle.std.proofs.lemmas.Cmp.{alike_right}
use Rattle.zst_denial.proofs.zst_key_lemmas.NamesAbove.{name_total}
use Rattle.zst_denial.specs.Denials.{Covers, Lacks, SomeOf}
use Rattle.zst_denial.specs.dnw_codes.RecordType.{record_type_number}
use Rattle.zst_denial.specs.dnw_codes.declared.record_type.RecordType.{RecordType}
use Rattle.zst_denial.specs.dnw_name.DomainName.{DomainName, name_cmp, name_eq}
use Rattle.zst_denial.specs.dnw_name.NameOrderLaws.{name_eq-by_cmp}
use Rattle.zst_denial.specs.drd_denial.Between.{between_by, is_between}
use Rattle.zst_denial.specs.zst_record.declared.records.Record.{Record}

is-equal : (o : Ordering) → is_eq o ≡ true → o ≡ Equal
is-equal Less e = absurd (true≢false (sym e))
is-equal Equal e = refl
is-equal Greater e = absurd (true≢false (sym e))

module _ (asked name : DomainName) (same : name_eq asked name ≡ true) where
  level : name_cmp asked name ≡ Equal
  level = is-equal (name_cmp asked name) (sym (name_eq-by_cmp asked name) ∙ same)

  right : (x : DomainName) → name_cmp x asked ≡ name_cmp x name
  right x = alike_right name_total asked name x level

  left : (x : DomainName) → name_cmp asked x ≡ name_cmp name x
  left x = name_total.congr asked name x level

  pub covers_same : (r : Record) → Covers asked r → Covers name r
  covers_same r c =
      let turned : is_between name_cmp r.name asked c.next ≡ is_between name_cmp r.name name c.next =
      λ i. between_by (name_cmp r.name c.next) (is_lt (right r.name i)) (is_lt (left c.next i)) (not (is_eq (right r.name i))) in
      record { next = c.next; types = c.types; nsec = c.nsec; between = sym turned ∙ c.between }

  pub lacks_same : (t u : RecordType) (r : Record) → record_type_number t ≡ record_type_number u → Lacks asked t r → Lacks name u r
  lacks_same t u r number c = record {
    next = c.next;
    types = c.types;
    nsec = c.nsec;
    owner = name_eq-by_cmp r.name name ∙ ap is_eq (sym (right r.name)) ∙ sym (name_eq-by_cmp r.name asked) ∙ c.owner;
    lacks = ap (λ (n : ℕ). list_any (λ code. code == n) c.types) (sym number) ∙ c.lacks;
  }

pub some_turned : {X : Type 0} (P Q : X → Type 0) → ((x : X) → P x → Q x) → (xs : List X) → SomeOf P xs → SomeOf Q xs
some_turned P Q turn [] some = absurd some
some_turned P Q turn (x ∷ xs) (inl here) = inl (turn x here)
some_turned P Q turn (x ∷ xs) (inr later) = inr (some_turned P Q turn xs later)
