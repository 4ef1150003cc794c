-- What is kept of one record more of an additional section, and what it means where none is read.
use Rattle.std.proofs.Common.{◌≡◌, ℕ, ◌+◌, ◌-◌, ◌^◌, ◌<◌, ◌≤◌, Bool, true, false, not, ◌||◌, List, [], ◌∷◌, ◌++◌, length, Option, Some, None, refl, sym, ap, subst, inl, inr, ◌∙◌, ◌⊎◌, arith, true≢false, append-nil, length-append}
use Rattle.std.proofs.lemmas.Bool.{eqb-true}
use Rattle.std.proofs.lemmas.List.Elements.{filter-append}
use Rattle.std.proofs.lemmas.List.Folds.{find-append}
use Rattle.std.specs.Option.{option_or}
use Rattle.std.specs.Prelude.{cond, find, slice_get}
use Rattle.zst_edns.specs.declared.edns.Edns.{Edns}
use Rattle.zsv_sections.specs.zst_record.dnw_codes.RecordType.{record_type_number, same_record_type}
use Rattle.zsv_sections.specs.zst_record.dnw_codes.declared.error.DecodeError.{DecodeError}
use Rattle.zsv_sections.specs.zst_record.dnw_codes.declared.record_type.RecordType.{RecordType}
use Rattle.zsv_sections.specs.zst_record.dnw_codes.declared.record_type.RecordType.TheVariants as kind
use Rattle.zsv_sections.specs.zst_record.dnw_decoder.Reading.{IsWantOfMemory}
use Rattle.zsv_sections.specs.zst_record.drd_rdata.Types.{type_of}
use Rattle.zsv_sections.specs.zst_record.declared.records.Record.{Record}
use Rattle.zsv_sections.specs.zst_record.Records.{RecordAt}
use Rattle.zsv_sections.specs.zsv_parts.declared.header.OpCode.{OpCode}
use Rattle.zsv_sections.specs.zsv_parts.declared.tsig.TsigRecord.{TsigRecord}
use Rattle.zsv_sections.specs.zsv_parts.declared.tsig.Tsig.{Tsig}
use Rattle.zsv_sections.specs.zsv_parts.Signatures.{RefusesTsig, TsigAt}
use Rattle.zsv_message.specs.declared.additionals.Additionals.{Additionals}
use Rattle.zsv_sections.specs.declared.placing.Placing.{Placing}
use Rattle.zsv_message.specs.Gathering.{Gathers}
use Rattle.zsv_message.specs.Messages.{AdditionalsAt, IsEdnsFor, IsEdnsRecord, IsSignatureFor, IsSigned, RefusesAdditionals, data_octets, in_additionals, is_update, other_records}
use Rattle.zsv_sections.specs.Sections.{PlacedRecords, RefusesPlaced, SectionAt, is_opt, is_signature, is_tsig, misplaced, past, past_all}
use Rattle.zsv_message.proofs.Held.{tsig_holds}
use Rattle.zsv_sections.proofs.Alike.{are_alike}
use Rattle.zsv_sections.proofs.Sectioning.{goes_on, may_stand, past_more, placed_more, section_none, section_refused}

-- The first of a list and one more that passes a test.
find_more : (test : Record → Bool) (rs : List Record) (r : Record) → test r ≡ false → find test (rs ++ r ∷ []) ≡ find test rs
find_more test rs r fails = find-append test rs (r ∷ []) ∙ ap (λ (b : Bool). option_or (find test rs) (cond b (Some r) None)) fails ∙ or_none (find test rs) where
  or_none : (o : Option Record) → option_or o None ≡ o
  or_none None = refl
  or_none (Some x) = refl

find_last : (test : Record → Bool) (rs : List Record) (r : Record) → find test rs ≡ None → test r ≡ true → find test (rs ++ r ∷ []) ≡ Some r
find_last test rs r none passes = find-append test rs (r ∷ []) ∙ ap (λ (o : Option Record). option_or o (find test (r ∷ []))) none ∙ ap (λ (b : Bool). cond b (Some r) None) passes

neither : (a b : Bool) → (a || b) ≡ false → (a ≡ false) × (b ≡ false)
neither false false e = (refl, refl)
neither true b e = absurd (true≢false e)
neither false true e = absurd (true≢false e)

-- Where nothing was signed, no TSIG stands; where there were no options, no OPT record.
signed_before : (at : Placing) (rs : List Record) → (past_all at rs).is_signed ≡ false → at.is_signed ≡ false
signed_before at [] e = e
signed_before at (r ∷ rs) e = (neither at.is_signed (is_signature r) (signed_before (past at r) rs e)).0

no_tsig : (at : Placing) (rs : List Record) → (past_all at rs).is_signed ≡ false → find is_tsig rs ≡ None
no_tsig at [] e = refl
no_tsig at (r ∷ rs) e =
    let signature = (neither at.is_signed (is_signature r) (signed_before (past at r) rs e)).1 in
    let none : is_tsig r ≡ false = (neither (is_tsig r) (same_record_type (type_of r.rdata) kind.SIG) signature).0 in
    ap (λ (b : Bool). cond b (Some r) (find is_tsig rs)) none ∙ no_tsig (past at r) rs e

options_before : (at : Placing) (rs : List Record) → (past_all at rs).has_options ≡ false → at.has_options ≡ false
options_before at [] e = e
options_before at (r ∷ rs) e = (neither at.has_options (is_opt r) (options_before (past at r) rs e)).0

no_opt : (at : Placing) (rs : List Record) → (past_all at rs).has_options ≡ false → find is_opt rs ≡ None
no_opt at [] e = refl
no_opt at (r ∷ rs) e =
    let none = (neither at.has_options (is_opt r) (options_before (past at r) rs e)).1 in
    ap (λ (b : Bool). cond b (Some r) (find is_opt rs)) none ∙ no_opt (past at r) rs e

opt_no_tsig : (t : RecordType) → same_record_type t kind.OPT ≡ true → same_record_type t kind.TSIG ≡ false
opt_no_tsig t e = by (same_record_type t kind.TSIG) refl where
  by : (b : Bool) → same_record_type t kind.TSIG ≡ b → b ≡ false
  by false other = refl
  by true other =
      let opt : record_type_number t ≡ 41 = eqb-true (record_type_number t) 41 e in
      let tsig : record_type_number t ≡ 250 = eqb-true (record_type_number t) 250 other in
      absurd (omega (arith, opt, tsig))

-- No signature stays none, wherever the records end.
no_signature : (message : List ℕ) (at end : ℕ) (found : Option Record) (signature : Option TsigRecord) → found ≡ None → IsSignatureFor message at found signature → IsSignatureFor message end None signature
no_signature message at end found signature none is = by signature (subst (λ (f : Option Record). IsSignatureFor message at f signature) none is) where
  by : (s : Option TsigRecord) → IsSignatureFor message at None s → IsSignatureFor message end None s
  by None is = tt
  by (Some s) is = is

-- The signature that was kept.
abbrev first_of : Additionals → Option TsigRecord
first_of found = slice_get found.signature.items 0

first_same : (old new : Additionals) → new.signature.items ≡ old.signature.items → first_of new ≡ first_of old
first_same old new same = ap (λ (ts : List TsigRecord). slice_get ts 0) same

no_first : (message : List ℕ) (at : ℕ) (signature : Option TsigRecord) → IsSignatureFor message at None signature → signature ≡ None
no_first message at None is = refl
no_first message at (Some s) is = absurd is

first_last : (ts : List TsigRecord) (t : TsigRecord) → slice_get ts 0 ≡ None → slice_get (ts ++ t ∷ []) 0 ≡ Some t
first_last [] t none = refl
first_last (x ∷ xs) t none = absurd (cc none)

-- The records that stand behind one more.
standing_more : (op : OpCode) (message : List ℕ) (place n : ℕ) (found : Additionals) (at : ℕ) (r : Record) (end : ℕ) (g : Gathers op message place n found at) → RecordAt message at r end → misplaced found.next r ≡ None → SectionAt (in_additionals op) message place (n + 1) (g.standing ++ r ∷ []) end
standing_more op message place n found at r end g here may = (
  placed_more (in_additionals op) message place g.standing at r end g.there.0 here (subst (λ (p : Placing). misplaced p r ≡ None) g.next may),
  length-append g.standing (r ∷ []) ∙ ap (λ (m : ℕ). m + 1) g.there.1,
)

next_more : (op : OpCode) (message : List ℕ) (place n : ℕ) (found : Additionals) (at : ℕ) (r : Record) (next : Placing) (g : Gathers op message place n found at) → next ≡ past found.next r → next ≡ past_all (in_additionals op) (g.standing ++ r ∷ [])
next_more op message place n found at r next g moved = moved ∙ ap (λ (p : Placing). past p r) g.next ∙ sym (past_more (in_additionals op) g.standing r)

unsigned : (op : OpCode) (message : List ℕ) (place n : ℕ) (found : Additionals) (at : ℕ) (r : Record) (g : Gathers op message place n found at) → misplaced found.next r ≡ None → find is_tsig g.standing ≡ None
unsigned op message place n found at r g may =
    no_tsig (in_additionals op) g.standing (sym (ap (λ (p : Placing). p.is_signed) g.next) ∙ (may_stand found.next r may).unsigned)

others_same : (standing : List Record) (r : Record) → (is_opt r || is_tsig r) ≡ true → other_records (standing ++ r ∷ []) ≡ other_records standing
others_same standing r is = filter-append (λ r. not (is_opt r || is_tsig r)) standing (r ∷ []) ∙ ap (λ (b : Bool). other_records standing ++ cond (not b) (r ∷ []) []) is ∙ append-nil (other_records standing)

others_more : (standing : List Record) (r : Record) → (is_opt r || is_tsig r) ≡ false → other_records (standing ++ r ∷ []) ≡ other_records standing ++ r ∷ []
others_more standing r is = filter-append (λ r. not (is_opt r || is_tsig r)) standing (r ∷ []) ∙ ap (λ (b : Bool). other_records standing ++ cond (not b) (r ∷ []) []) is

pub gathers_opt : (op : OpCode) (message : List ℕ) (place n : ℕ) (old new : Additionals) (at : ℕ) (r : Record) (end : ℕ) (edns : Edns) → Gathers op message place n old at → RecordAt message at r end → misplaced old.next r ≡ None → is_opt r ≡ true → IsEdnsRecord r edns → new.next ≡ past old.next r → new.records.items ≡ old.records.items → new.edns ≡ Some edns → new.signature.items ≡ old.signature.items → Gathers op message place (n + 1) new end
gathers_opt op message place n old new at r end edns g here may is says next records options signature =
    let other : is_tsig r ≡ false = opt_no_tsig (type_of r.rdata) is in
    let none = unsigned op message place n old at r g may in
    let first : find is_opt (g.standing ++ r ∷ []) ≡ Some r = find_last is_opt g.standing r
    (no_opt (in_additionals op) g.standing (sym (ap (λ (p : Placing). p.has_options) g.next) ∙ (may_stand old.next r may).once is)) is in
    record {
      standing = g.standing ++ r ∷ [];
      there = standing_more op message place n old at r end g here may;
      next = next_more op message place n old at r new.next g next;
      additionals = records ∙ g.additionals ∙ sym (others_same g.standing r (ap (λ (b : Bool). b || is_tsig r) is));
      edns = subst (λ (o : Option Record). IsEdnsFor o new.edns) (sym first) (subst (λ (o : Option Edns). IsEdnsFor (Some r) o) (sym options) says);
      signature = subst (λ (o : Option Record). IsSignatureFor message end o (first_of new)) (sym (find_more is_tsig g.standing r other ∙ none))
          (subst (λ (s : Option TsigRecord). IsSignatureFor message end None s) (sym (first_same old new signature)) (no_signature message at end (find is_tsig g.standing) (first_of old) none g.signature));
    }

pub gathers_tsig : (op : OpCode) (message : List ℕ) (place n : ℕ) (old new : Additionals) (at : ℕ) (r : Record) (end : ℕ) (octets : List ℕ) (tsig : TsigRecord) → Gathers op message place n old at → RecordAt message at r end → misplaced old.next r ≡ None → is_opt r ≡ false → is_tsig r ≡ true → data_octets r.rdata ≡ Some octets → IsSigned message (end - length octets) (length octets) r tsig → new.next ≡ past old.next r → new.records.items ≡ old.records.items → new.edns ≡ old.edns → new.signature.items ≡ old.signature.items ++ tsig ∷ [] → Gathers op message place (n + 1) new end
gathers_tsig op message place n old new at r end octets tsig g here may other is whole signed next records options signature =
    let none = unsigned op message place n old at r g may in
    let last : find is_tsig (g.standing ++ r ∷ []) ≡ Some r = find_last is_tsig g.standing r none is in
    let unsigned_yet = no_first message at (first_of old) (subst (λ (f : Option Record). IsSignatureFor message at f (first_of old)) none g.signature) in
    record {
      standing = g.standing ++ r ∷ [];
      there = standing_more op message place n old at r end g here may;
      next = next_more op message place n old at r new.next g next;
      additionals = records ∙ g.additionals ∙ sym (others_same g.standing r (λ i. (other i || is i)));
      edns = subst (λ (o : Option Record). IsEdnsFor o new.edns) (sym (find_more is_opt g.standing r other)) (subst (λ (o : Option Edns). IsEdnsFor (find is_opt g.standing) o) (sym options) g.edns);
      signature = subst (λ (o : Option Record). IsSignatureFor message end o (first_of new)) (sym last)
          (subst (λ (s : Option TsigRecord). IsSignatureFor message end (Some r) s) (sym (ap (λ (ts : List TsigRecord). slice_get ts 0) signature ∙ first_last old.signature.items tsig unsigned_yet)) (record { octets = octets; whole = whole; there = signed }));
    }

pub gathers_other : (op : OpCode) (message : List ℕ) (place n : ℕ) (old new : Additionals) (at : ℕ) (r : Record) (end : ℕ) → Gathers op message place n old at → RecordAt message at r end → misplaced old.next r ≡ None → is_opt r ≡ false → is_tsig r ≡ false → new.next ≡ past old.next r → new.records.items ≡ old.records.items ++ r ∷ [] → new.edns ≡ old.edns → new.signature.items ≡ old.signature.items → Gathers op message place (n + 1) new end
gathers_other op message place n old new at r end g here may other is next records options signature =
    let none = unsigned op message place n old at r g may in
    record {
      standing = g.standing ++ r ∷ [];
      there = standing_more op message place n old at r end g here may;
      next = next_more op message place n old at r new.next g next;
      additionals = records ∙ ap (λ (rs : List Record). rs ++ r ∷ []) g.additionals ∙ sym (others_more g.standing r (λ i. (other i || is i)));
      edns = subst (λ (o : Option Record). IsEdnsFor o new.edns) (sym (find_more is_opt g.standing r other)) (subst (λ (o : Option Edns). IsEdnsFor (find is_opt g.standing) o) (sym options) g.edns);
      signature = subst (λ (o : Option Record). IsSignatureFor message end o (first_of new)) (sym (find_more is_tsig g.standing r is ∙ none))
          (subst (λ (s : Option TsigRecord). IsSignatureFor message end None s) (sym (first_same old new signature)) (no_signature message at end (find is_tsig g.standing) (first_of old) none g.signature));
    }

-- Nothing is kept of no records.
pub gathers_none : (op : OpCode) (message : List ℕ) (place : ℕ) (new : Additionals) → new.next ≡ in_additionals op → new.records.items ≡ [] → new.edns ≡ None → new.signature.items ≡ [] → Gathers op message place 0 new place
gathers_none op message place new next records options signature = record {
  standing = [];
  there = (refl, refl);
  next = next;
  additionals = records;
  edns = subst (λ (o : Option Edns). IsEdnsFor None o) (sym options) tt;
  signature = subst (λ (s : Option TsigRecord). IsSignatureFor message place None s) (sym (ap (λ (ts : List TsigRecord). slice_get ts 0) signature)) tt;
}

pub gathers_all : (op : OpCode) (message : List ℕ) (place n : ℕ) (found : Additionals) (at : ℕ) → Gathers op message place n found at → AdditionalsAt message op place n found.records.items found.edns (slice_get found.signature.items 0) at
gathers_all op message place n found at g = record {
  standing = g.standing;
  there = g.there;
  rest = g.additionals;
  options = g.edns;
  signs = g.signature;
}

-- The next record is refused, or its data as those of a signature.
pub placed_refused : (op : OpCode) (message : List ℕ) (place n count : ℕ) (found : Additionals) (at : ℕ) (e : DecodeError) → n < count → Gathers op message place n found at → RefusesPlaced found.next message at e → RefusesAdditionals op message place count e
placed_refused op message place n count found at e more g cause =
    inl (section_refused (in_additionals op) message place count g.standing at e g.there.0 (omega (arith, g.there.1)) (subst (λ (p : Placing). RefusesPlaced p message at e) g.next cause))

pub signature_refused : (op : OpCode) (message : List ℕ) (place n count : ℕ) (found : Additionals) (at : ℕ) (r : Record) (end : ℕ) (octets : List ℕ) (e : DecodeError) → n < count → Gathers op message place n found at → RecordAt message at r end → misplaced found.next r ≡ None → is_tsig r ≡ true → data_octets r.rdata ≡ Some octets → RefusesTsig message (end - length octets) (length octets) e → RefusesAdditionals op message place count e
signature_refused op message place n count found at r end octets e more g here may is whole cause = inr (
    record {
      before = g.standing;
      standing = r;
      end = end;
      there = (standing_more op message place n found at r end g here may).0;
      fewer = omega (arith, g.there.1);
      signed = is;
      octets = octets;
      whole = whole;
      cause = cause;
    }
    )

pub placed_none_of : (op : OpCode) (message : List ℕ) (place n count : ℕ) (found : Additionals) (at : ℕ) (e : DecodeError) → n < count → Gathers op message place n found at → IsWantOfMemory e ⊎ ((r : Record) (end : ℕ) → RecordAt message at r end → misplaced found.next r ≡ None → ⊥) → IsWantOfMemory e ⊎ ((rs : List Record) (o : Option Edns) (t : Option TsigRecord) (end : ℕ) → AdditionalsAt message op place count rs o t end → ⊥)
placed_none_of op message place n count found at e more g (inl memory) = inl memory
placed_none_of op message place n count found at e more g (inr none) =
    by (section_none (in_additionals op) message place count g.standing at e g.there.0 (omega (arith, g.there.1))
    (inr (λ r end here may. none r end here (subst (λ (p : Placing). misplaced p r ≡ None) (sym g.next) may)))) where
      by : IsWantOfMemory e ⊎ ((records : List Record) (end : ℕ) → SectionAt (in_additionals op) message place count records end → ⊥) → IsWantOfMemory e ⊎ ((rs : List Record) (o : Option Edns) (t : Option TsigRecord) (end : ℕ) → AdditionalsAt message op place count rs o t end → ⊥)
      by (inl memory) = inl memory
      by (inr none) = inr (λ rs o t end a. none a.standing end a.there)

same_octets : (a b : List ℕ) (o : Option (List ℕ)) → o ≡ Some a → o ≡ Some b → a ≡ b
same_octets a b o p q = by (sym p ∙ q) where
  by : Some a ≡ Some b → a ≡ b
  by same = cc same

-- Behind a signature nothing stands.
ends : (at : Placing) (message : List ℕ) (one : Record) (place : ℕ) (rest : List Record) (end : ℕ) → is_tsig one ≡ true → PlacedRecords (past at one) message place rest end → (rest ≡ []) × (end ≡ place)
ends at message one place [] end is there = (refl, there)
ends at message one place (y ∷ ys) end is there =
    let unsigned = (may_stand (past at one) y there.2).unsigned in
    let none = (neither (is_tsig one) (same_record_type (type_of one.rdata) kind.SIG) (neither at.is_signed (is_signature one) unsigned).1).0 in
    absurd (true≢false (sym is ∙ none))

-- A signature whose data can't be read is one of no message.
pub signature_none : (op : OpCode) (message : List ℕ) (place n count : ℕ) (found : Additionals) (at : ℕ) (r : Record) (end : ℕ) (octets : List ℕ) (e : DecodeError) → n < count → Gathers op message place n found at → RecordAt message at r end → misplaced found.next r ≡ None → is_tsig r ≡ true → data_octets r.rdata ≡ Some octets → IsWantOfMemory e ⊎ ((s : Record) (t : TsigRecord) → IsSigned message (end - length octets) (length octets) s t → ⊥) → IsWantOfMemory e ⊎ ((rs : List Record) (o : Option Edns) (t : Option TsigRecord) (end : ℕ) → AdditionalsAt message op place count rs o t end → ⊥)
signature_none op message place n count found at r end octets e more g here may is whole (inl memory) = inl memory
signature_none op message place n count found at r end octets e more g here may is whole (inr none) = inr (λ rs o t last a.
    let on = goes_on (in_additionals op) message place g.standing at a.standing last g.there.0 a.there.0 (omega (arith, g.there.1, a.there.1)) in
    let alike = are_alike message at on.one r on.after end on.here here in
    let signs : is_tsig on.one ≡ true = ap (λ (k : RecordType). same_record_type k kind.TSIG) alike.kind ∙ is in
    let closed = ends (past_all (in_additionals op) g.standing) message on.one on.after on.rest last signs on.there in
    let all : a.standing ≡ on.front ++ on.one ∷ [] = on.whole ∙ ap (λ (rest : List Record). on.front ++ on.one ∷ rest) closed.0 in
    let before : find is_tsig on.front ≡ None = no_tsig (in_additionals op) on.front
    (ap (λ (p : Placing). p.is_signed) on.same ∙ sym (ap (λ (p : Placing). p.is_signed) g.next) ∙ (may_stand found.next r may).unsigned) in
    let first : find is_tsig a.standing ≡ Some on.one = ap (find is_tsig) all ∙ find_last is_tsig on.front on.one before signs in
    let mine = tsig_holds message at end r here is ((may_stand found.next r may).some is) in
    let other = tsig_holds message at on.after on.one on.here signs ((may_stand (past_all (in_additionals op) g.standing) on.one on.may).some signs) in
    let ours : mine.0 ≡ octets = same_octets mine.0 octets (data_octets r.rdata) mine.1 whole in
    let long : length other.0 ≡ length octets = omega (arith, alike.len, other.2, mine.2, ap length ours) in
    let same : last ≡ end = closed.1 ∙ alike.end in
    by on.one t none
    (λ (theirs : List ℕ) (whole : data_octets on.one.rdata ≡ Some theirs). ap length (same_octets theirs other.0 (data_octets on.one.rdata) whole other.1) ∙ long) last same
    (subst (λ (f : Option Record). IsSignatureFor message last f t) first a.signs)) where
      by : (one : Record) (t : Option TsigRecord) → ((s : Record) (t : TsigRecord) → IsSigned message (end - length octets) (length octets) s t → ⊥) → ((theirs : List ℕ) → data_octets one.rdata ≡ Some theirs → length theirs ≡ length octets) → (last : ℕ) → last ≡ end → IsSignatureFor message last (Some one) t → ⊥
      by one None none count last same is = is
      by one (Some t) none count last same is =
          let len = count is.octets is.whole in
          none one t (subst (λ (n : ℕ). IsSigned message (end - n) n one t) len (subst (λ (p : ℕ). IsSigned message (p - length is.octets) (length is.octets) one t) same is.there))

-- Where no data of a signature stand, no signature does.
pub none_signed : (message : List ℕ) (place len : ℕ) (e : DecodeError) → IsWantOfMemory e ⊎ ((tsig : Tsig) → TsigAt message place len tsig → ⊥) → IsWantOfMemory e ⊎ ((r : Record) (t : TsigRecord) → IsSigned message place len r t → ⊥)
none_signed message place len e (inl memory) = inl memory
none_signed message place len e (inr none) = inr (λ r t is. none t.rdata is.rdata)

-- The data of a signature's record are octets, as many as were counted, and end where the record does.
pub record SignatureData (end : ℕ) (r : Record) (len : ℕ) : Type 0 where
  pub octets : List ℕ
  pub whole : data_octets r.rdata ≡ Some octets
  pub counted : len ≡ length octets
  pub inside : len ≤ end

pub signature_data : (at : Placing) (message : List ℕ) (place end : ℕ) (r : Record) (len : ℕ) → RecordAt message place r end → misplaced at r ≡ None → is_tsig r ≡ true → ((octets : List ℕ) → data_octets r.rdata ≡ Some octets → length octets < 2 ^ 16 → len ≡ length octets) → SignatureData end r len
signature_data at message place end r len here may is counts =
    let held = tsig_holds message place end r here is ((may_stand at r may).some is) in
    let count : len ≡ length held.0 = counts held.0 held.1 (omega (arith, held.2, here.small_len)) in
    record { octets = held.0; whole = held.1; counted = count; inside = omega (arith, count, held.2, here.filled) }

pub starts_additionals : (b : Bool) (op : OpCode) → b ≡ is_update op → record { is_update = b; is_additional = true; is_signed = false; has_options = false } ≡ in_additionals op
starts_additionals b op e = λ i. record { is_update = e i; is_additional = true; is_signed = false; has_options = false }
