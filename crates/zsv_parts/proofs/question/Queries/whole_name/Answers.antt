use Rattle.std.proofs.Common.{◌≡◌, List, [], ◌∷◌, length, true, inl, inr, sym, ap, subst, arith, ◌∙◌}
use Rattle.std.specs.Prelude.{slice_get}
use Rattle.dnw_encoder.specs.dnw_label.Labels.{label_octets}
use Rattle.dnw_encoder.specs.dnw_name.DomainName.{DomainName, IsDomainName, domain_name}
use Rattle.zsv_parts.specs.Questions.{Asked, HasWholeName}
use Rattle.zsv_parts.specs.declared.question.Query.{Query}
use Rattle.zsv_parts.proofs.WholeNames.{first_alone, whole_name, whole_long}
use Rattle.zsv_parts.proofs.question.Queries.whole_name.Goals as goal

pub returns-then-is_whole : goal.returns-then-is_whole
returns-then-is_whole c =
    let q = c.in_ok-query.query.now in
    let questions = c.self.inside.queries.items in
    let asked : Asked = record { questions = questions; octets = c.self.inside.original.now } in
    let only : questions ≡ q ∷ [] =
    first_alone questions q (c.in_ok-query.ensures.value ∙ ap (λ (qs : List Query). slice_get qs 0) c.deref.ensures) (sym c.len.ensures.value ∙ c.if-len-eq1.true) in
    subst (λ (a : Asked). HasWholeName a q.name) c.self.view_is
    (whole_name asked q c.self.invariant only (omega (arith, c.if-is_whole.true, ap length c.as_octets.ensures.octets)))

pub returns-else-len-eq1 : goal.returns-else-len-eq1
returns-else-len-eq1 c = λ name has.
    let asked : Asked = record { questions = c.self.inside.queries.items; octets = c.self.inside.original.now } in
    let own : HasWholeName asked name = subst (λ (a : Asked). HasWholeName a name) (sym c.self.view_is) has in
    let q = c.in_ok-query.query.now in
    let one : length c.self.inside.queries.items ≡ 1 = ap (λ (qs : List Query). length qs) own.only in
    let only = first_alone c.self.inside.queries.items q (c.in_ok-query.ensures.value ∙ ap (λ (qs : List Query). slice_get qs 0) c.deref.ensures) one in
    let same : q.name ≡ name = ap (λ (qs : List Query). first_name qs) (sym only ∙ own.only) ∙ own.is in
    elim c.else-len-eq1.either [
      | inl whole ↦ whole.1 (omega (arith, whole_long asked name c.self.invariant (subst (λ (n : DomainName). IsDomainName n) same c.as_octets.ensures.name) own, ap length c.as_octets.ensures.octets, ap (λ (n : DomainName). length (label_octets n.labels)) same))
      | inr other ↦ other (c.len.ensures.value ∙ one)
    ]
  where
    first_name : List Query → DomainName
    first_name [] = domain_name true []
    first_name (q ∷ qs) = q.name
