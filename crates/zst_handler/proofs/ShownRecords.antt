-- Records as they are shown.
use Rattle.std.proofs.Common.{◌≡◌, ℕ, ◌+◌, ◌<◌, ◌≤◌, ◌++◌, List, [], ◌∷◌, length, drop, map, zero, suc, refl, ap, sym, ◌∙◌, arith, append-nil}
use Rattle.std.specs.Prelude.{Bool, true, false, cond, get_or, Option, Some, None}
use Rattle.zst_record.specs.dnw_codes.declared.record_type.RecordType.{RecordType}
use Rattle.zst_record.specs.dnw_name.DomainName.{DomainName}
use Rattle.zst_record.specs.drd_rdata.Types.{type_of}
use Rattle.zst_record.specs.RecordSets.{RRset, flattened_record, renamed_record}
use Rattle.zst_record.specs.declared.records.Record.{Record}
use Rattle.zst_handler.specs.declared.answer_set.AnswerSet.{AnswerSet}
use Rattle.zst_handler.specs.declared.answer_set.Guise.{Guise}
use Rattle.zst_handler.specs.declared.answer_set.Guise.TheVariants as guises
use Rattle.zst_handler.specs.Answers.{all_shown, first_of, first_type, left_over, set_in, shown, shown_as, under}

pub own_shown : (rs : List Record) → map (shown_as guises.Own) rs ≡ rs
own_shown [] = refl
own_shown (r ∷ rs) = ap (λ (t : List Record). r ∷ t) (own_shown rs)

next_shown : (dnssec : Bool) (ss : List AnswerSet) (n : ℕ) (d : AnswerSet) → n < length ss
    → all_shown dnssec (drop n ss) ≡ shown dnssec (set_in (get_or ss n d)) ++ all_shown dnssec (drop (n + 1) ss)
next_shown dnssec [] n d less = absurd (omega (arith, less))
next_shown dnssec (s ∷ ss) zero d less = refl
next_shown dnssec (s ∷ ss) (suc n) d less =
    let e : suc n + 1 ≡ suc (n + 1) = omega arith in
    next_shown dnssec ss n d (omega (arith, less))
    ∙ ap (λ (m : ℕ). shown dnssec (set_in (get_or ss n d)) ++ all_shown dnssec (drop m (s ∷ ss))) (sym e)

-- The next set takes the place of one that is shown whole.
pub goes_on : (guise after : Guise) (rest : List Record) (dnssec : Bool) (ss : List AnswerSet) (n : ℕ) (d : AnswerSet) → n < length ss
    → map (shown_as after) rest ≡ shown dnssec (set_in (get_or ss n d)) → left_over after rest dnssec ss (n + 1) ≡ left_over guise [] dnssec ss n
goes_on guise after rest dnssec ss n d less is =
    ap (λ (t : List Record). t ++ all_shown dnssec (drop (n + 1) ss)) is ∙ sym (next_shown dnssec ss n d less)

drop_all : (ss : List AnswerSet) (n : ℕ) → length ss ≤ n → drop n ss ≡ []
drop_all [] zero long = refl
drop_all [] (suc n) long = refl
drop_all (s ∷ ss) zero long = absurd (omega (arith, long))
drop_all (s ∷ ss) (suc n) long = drop_all ss n (omega (arith, long))

pub none_left : (guise : Guise) (dnssec : Bool) (ss : List AnswerSet) (n : ℕ) → length ss ≤ n → left_over guise [] dnssec ss n ≡ []
none_left guise dnssec ss n long = ap (all_shown dnssec) (drop_all ss n long)

pub alone_shown : (rs : List Record) (dnssec : Bool) → left_over guises.Own (rs ++ []) dnssec [] 0 ≡ rs
alone_shown rs dnssec = append-nil (map (shown_as guises.Own) (rs ++ [])) ∙ own_shown (rs ++ []) ∙ append-nil rs

-- ---- the first record
headed : (dnssec : Bool) (rs signatures : List Record) (r : Record) (t : RecordType) → first_of rs ≡ Some r → type_of r.rdata ≡ t
    → first_type (cond dnssec (rs ++ signatures) rs) ≡ Some t
headed dnssec [] signatures r t e type = let h : ⊥ = cc in absurd h
headed true (s ∷ rs) signatures r t e type = let same : s ≡ r = cc in ap (λ (q : Record). Some (type_of q.rdata)) same ∙ ap Some type
headed false (s ∷ rs) signatures r t e type = let same : s ≡ r = cc in ap (λ (q : Record). Some (type_of q.rdata)) same ∙ ap Some type

first_mapped : (f : Record → Record) (rs : List Record) (r : Record) → first_of rs ≡ Some r → first_of (map f rs) ≡ Some (f r)
first_mapped f [] r e = let h : ⊥ = cc in absurd h
first_mapped f (s ∷ rs) r e = let same : s ≡ r = cc in ap (λ (q : Record). Some (f q)) same

-- The first record of a set has its type, whatever name it is shown under.
pub first_shown : (dnssec : Bool) (set : RRset) (owner : Option DomainName) (behind : Option ℕ) (r : Record) → first_of set.records ≡ Some r
    → first_type (shown dnssec (under set owner behind)) ≡ Some (type_of r.rdata)
first_shown dnssec set None behind r e = headed dnssec set.records set.signatures r (type_of r.rdata) e refl
first_shown dnssec set (Some owner) None r e =
    headed dnssec (map (renamed_record owner) set.records) (map (renamed_record owner) set.signatures) (renamed_record owner r) (type_of r.rdata)
    (first_mapped (renamed_record owner) set.records r e) refl
first_shown dnssec set (Some owner) (Some ttl) r e =
    headed dnssec (map (flattened_record owner ttl) set.records) [] (flattened_record owner ttl r) (type_of r.rdata)
    (first_mapped (flattened_record owner ttl) set.records r e) refl
