-- Where names end in `arpa.`, or don't.
use Rattle.std.proofs.Common.{◌≡◌, ◌∙◌, ◌⊎◌, inl, inr, ℕ, ◌++◌, List, [], ◌∷◌, true, false, ap, subst, reverse}
use Rattle.std.specs.Prelude.{codes, IfErr, OnOk, Result, Ok, Err}
use Rattle.std.specs.Str.{str_to_ascii_lowercase}
use Rattle.std.specs.Result.{IsOkAnd}
use Rattle.std.specs.declared.net.ip_addr.IpAddr.{IpAddr}
use Rattle.dnw_net.specs.declared.net.IpNet.{IpNet}
use Rattle.dnw_net.specs.dnw_codes.declared.error.ProtoError.{ProtoError}
use Rattle.dnw_net.specs.dnw_codes.declared.error.ProtoError.TheVariants.{ParseInt}
use Rattle.dnw_net.specs.dnw_label.Label.{label_eq}
use Rattle.dnw_name.specs.DomainName.{DomainName}
use Rattle.dnw_name.specs.Arpa.{IsArpaName, EndsInArpa, EndsInZone, RefusesArpaName}
use Rattle.dnw_name.proofs.SuffixLemmas.{lower-from, reversed-two, two-labels}

module _ (name : DomainName) where
  from-right : (below : List (List ℕ)) (kind : List ℕ) (ends : EndsInArpa name below kind) → reverse name.labels ≡ ends.top ∷ kind ∷ reverse below
  from-right below kind ends =
      ap reverse (ends.labels ∙ two-labels below kind ends.top) ∙ reversed-two (below ++ kind ∷ []) ends.top ∙ ap (λ xs. ends.top ∷ xs) (reversed-two below kind)

  pub no-relative_end : name.fqdn ≡ false → (below : List (List ℕ)) (kind : List ℕ) → EndsInArpa name below kind → ⊥
  no-relative_end e below kind ends = let fully : name.fqdn ≡ true = ends.fqdn in absurd (cc)

  pub no-end_of_nothing : name.labels ≡ [] → (below : List (List ℕ)) (kind : List ℕ) → EndsInArpa name below kind → ⊥
  no-end_of_nothing e below kind ends =
      let right : reverse name.labels ≡ ends.top ∷ kind ∷ reverse below = from-right below kind ends in
      let nothing : reverse name.labels ≡ [] = ap reverse e in
      absurd (cc)

  pub no-other_top : (behind : List (List ℕ)) (top : List ℕ) → name.labels ≡ behind ++ top ∷ [] → (str_to_ascii_lowercase top ≡ codes "arpa" → ⊥) → (below : List (List ℕ)) (kind : List ℕ) → EndsInArpa name below kind → ⊥
  no-other_top behind top e other below kind ends =
      let right : reverse name.labels ≡ ends.top ∷ kind ∷ reverse below = from-right below kind ends in
      let seen : reverse name.labels ≡ top ∷ reverse behind = ap reverse e ∙ reversed-two behind top in
      let same : ends.top ≡ top = cc in
      other (subst (λ (x : List ℕ). str_to_ascii_lowercase x ≡ codes "arpa") same (lower-from ends.top (codes "arpa") ends.arpa))

  pub no-end_of_one : (behind : List (List ℕ)) (top : List ℕ) → name.labels ≡ behind ++ top ∷ [] → behind ≡ [] → (below : List (List ℕ)) (kind : List ℕ) → EndsInArpa name below kind → ⊥
  no-end_of_one behind top e none below kind ends =
      let right : reverse name.labels ≡ ends.top ∷ kind ∷ reverse below = from-right below kind ends in
      let seen : reverse name.labels ≡ top ∷ reverse behind = ap reverse e ∙ reversed-two behind top in
      let nothing : reverse behind ≡ [] = ap reverse none in
      absurd (cc)

  pub no-other_kind : (below : List (List ℕ)) (kind : List ℕ) → EndsInArpa name below kind → (str_to_ascii_lowercase kind ≡ codes "in-addr" → ⊥) → (str_to_ascii_lowercase kind ≡ codes "ip6" → ⊥) → EndsInZone name → ⊥
  no-other_kind below kind ends v4 v6 zone = by_kind zone.3
    where
      same : zone.1 ≡ kind
      same =
          let one : reverse name.labels ≡ ends.top ∷ kind ∷ reverse below = from-right below kind ends in
          let two : reverse name.labels ≡ zone.2.top ∷ zone.1 ∷ reverse zone.0 = from-right zone.0 zone.1 zone.2 in
          cc

      by_kind : (label_eq zone.1 (codes "in-addr") ≡ true) ⊎ (label_eq zone.1 (codes "ip6") ≡ true) → ⊥
      by_kind (inl h) =
          v4 (subst (λ (x : List ℕ). str_to_ascii_lowercase x ≡ codes "in-addr") same (lower-from zone.1 (codes "in-addr") h))
      by_kind (inr h) =
          v6 (subst (λ (x : List ℕ). str_to_ascii_lowercase x ≡ codes "ip6") same (lower-from zone.1 (codes "ip6") h))

  pub number-refused : (r : Result IpNet ProtoError) (Is : IpAddr → ℕ → IpNet → Type 0) → EndsInZone name → IfErr r (λ e. e ≡ ParseInt) → ((addr : IpAddr) (prefix : ℕ) → IsArpaName name addr prefix → IsOkAnd r (Is addr prefix)) → IfErr r (RefusesArpaName name)
  number-refused (Ok net) Is zone number only = tt
  number-refused (Err e) Is zone number only = inr (number, zone, λ addr prefix is. only addr prefix is)

pub in-zone : (r : Result IpNet ProtoError) (Zone : Type 0) → Zone → OnOk r Zone
in-zone (Ok net) Zone zone = zone
in-zone (Err e) Zone zone = tt
