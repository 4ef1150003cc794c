-- Equality of questions holds of each and itself, both ways round, and along a chain.
use Rattle.std.specs.Prelude.{nat_eq}
use Rattle.std.specs.Cmp.{IsEquivalence}
use Rattle.std.specs.Cmp.Lexicographic.{lists_equiv, pointwise}
use Rattle.std.specs.Cmp.Rules.{comparing}
use Rattle.std.proofs.Common.{rules}
use Rattle.std.proofs.lemmas.Cmp.{and_equiv, on_equiv}
use Rattle.dnw_codes.specs.DNSClass.{same_class}
use Rattle.dnw_codes.specs.RecordType.{same_record_type}
use Rattle.dnw_encoder.specs.dnw_name.DomainName.{name_eq}
use Rattle.zsv_parts.specs.declared.question.Query.{Query}
use Rattle.zsv_parts.specs.Questions.{Asked, asked_eq, question_eq}

pub name_equiv : IsEquivalence name_eq
name_equiv = Prim.search (comparing, rules) depth 12

pub type_equiv : IsEquivalence same_record_type
type_equiv = Prim.search (comparing, rules)

pub class_equiv : IsEquivalence same_class
class_equiv = Prim.search (comparing, rules)

pub octets_equiv : IsEquivalence (pointwise nat_eq)
octets_equiv = Prim.search (comparing, rules)

pub question_equiv : IsEquivalence question_eq
question_equiv =
    and_equiv (on_equiv (λ (q : Query). q.name) name_equiv)
    (and_equiv (on_equiv (λ (q : Query). q.query_type) type_equiv)
    (on_equiv (λ (q : Query). q.query_class) class_equiv))

pub asked_equiv : IsEquivalence asked_eq
asked_equiv =
    and_equiv (on_equiv (λ (a : Asked). a.questions) (lists_equiv question_equiv))
    (on_equiv (λ (a : Asked). a.octets) octets_equiv)
