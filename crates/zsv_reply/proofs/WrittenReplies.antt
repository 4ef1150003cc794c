-- A reply of a header, its questions, records that point to the first question's name, and options.
use Rattle.std.proofs.Common.{◌≡◌, ℕ, ◌+◌, ◌≤◌, ◌||◌, ◌∙◌, Bool, false, List, [], ◌∷◌, ◌++◌, length, length-append, append_assoc, drop, refl, sym, ap, subst, arith}
use Rattle.std.proofs.lemmas.Bool.{le-ltb}
use Rattle.std.proofs.lemmas.List.{append-nil, drop_all, drop_at}
use Rattle.std.specs.Prelude.{IfSome, MatchOption, Option, Some, None, option_to_list}
use Rattle.std.specs.List.{AllByRecursion}
use Rattle.zsv_request.specs.zsv_message.Messages.{OptAt}
use Rattle.zsv_request.specs.zsv_message.zst_edns.Writing.{EdnsReadsBack, FitsFields, opt_octets}
use Rattle.zsv_request.specs.zsv_message.zst_edns.declared.edns.Edns.{Edns}
use Rattle.zst_pointing.specs.Pointing.{ArePointing}
use Rattle.zsv_request.specs.zsv_message.zst_record.Records.{IsServable, plain}
use Rattle.zsv_request.specs.zsv_message.zst_record.declared.records.Record.{Record}
use Rattle.zsv_request.specs.zsv_message.zst_record.dnw_decoder.Octets.{Stands}
use Rattle.zsv_request.specs.zsv_message.zst_record.dnw_name.DomainName.{DomainName, name_octets}
use Rattle.zsv_request.proofs.zsv_message_lemmas.zst_record_lemmas.dnw_decoder_lemmas.Standing.{stands_split}
use Rattle.zsv_request.specs.zsv_message.zsv_parts.Headers.{FitsOpCode, header_of, header_octets, reserved_bit}
use Rattle.zsv_request.specs.zsv_message.zsv_parts.Questions.{Asked, HasWholeName}
use Rattle.zsv_request.specs.zsv_message.zsv_parts.declared.header.Header.{Header}
use Rattle.zsv_request.specs.zsv_message.zsv_parts.declared.header.Metadata.{Metadata}
use Rattle.zsv_request.proofs.zsv_message_lemmas.zsv_parts_lemmas.Flags.{reserved_zero}
use Rattle.zsv_reply.specs.Replies.{Front, Fronts, ReplyRecordAt, header_of_reply, is_cut, is_truncated, leaves_room, opt_plain}
use Rattle.zsv_reply.specs.Writing.{AllReadBack, AreWritten, IsEncoded, written_parts}
use Rattle.zsv_reply.specs.declared.written_reply.WrittenRecords.{WrittenRecords}
use Rattle.zsv_reply.proofs.OptRecords.{opt_at}

-- What stands behind a front stands up to the end.
stands_last : (front octets reply : List ℕ) (place : ℕ) → length front ≡ place → reply ≡ front ++ octets → Stands reply place octets (length reply)
stands_last front octets reply place long same =
    let none : drop (length reply) reply ≡ [] = drop_all (length reply) reply (omega arith) in
    record {
      there = ap (λ (o : List ℕ). drop place o) same ∙ drop_at front octets place long
          ∙ sym (ap (λ (rest : List ℕ). octets ++ rest) none ∙ append-nil octets);
      behind = omega (arith, ap length same, length-append front octets, long);
    }

-- The name with which the questions begin stands behind the header.
name_stands : (asked : Asked) (reply : List ℕ) (name : DomainName) (first : ℕ) → (b : HasWholeName asked name) → Stands reply 12 asked.octets first → Stands reply 12 (name_octets name) (12 + length (name_octets name))
name_stands asked reply name first b there =
    (stands_split reply 12 (name_octets name) b.rest first (subst (λ (o : List ℕ). Stands reply 12 o first) b.whole there)).0

-- It ends before what stands behind the questions.
name_before : (asked : Asked) (reply : List ℕ) (name : DomainName) (first : ℕ) → (b : HasWholeName asked name) → Stands reply 12 asked.octets first → 12 + length (name_octets name) ≤ first
name_before asked reply name first b there = omega (arith, there.behind, ap length b.whole, length-append (name_octets name) b.rest)

-- Records that point to it are a front of their list, all of them.
records_stand : (points : Bool) (limit first : ℕ) (asked : Asked) (reply : List ℕ) (name : DomainName) → HasWholeName asked name → Stands reply 12 asked.octets first → (place end : ℕ) (records : List Record) (octets : List ℕ) → first ≤ place → ArePointing name records octets → AllByRecursion IsServable records → Stands reply place octets end → Front (ReplyRecordAt points first) plain reply limit place records records end
records_stand points limit first asked reply name begins questions place end [] octets behind none alone there = omega (arith, there.behind, ap length none)
records_stand points limit first asked reply name begins questions place end (r ∷ rs) octets behind (one, rest, is, same, later) alone there =
    let both = stands_split reply place one rest end (subst (λ (o : List ℕ). Stands reply place o end) same there) in
    let before = name_before asked reply name first begins questions in (
      place + length one,
      refl,
      record {
        there = is.there alone.0.alone reply (12 + length (name_octets name)) place (place + length one) (name_stands asked reply name first begins questions) (omega (arith, before, behind)) both.0;
        owner = λ pointing later_place some owner_end owner_at. omega (arith, is.owner);
      },
      omega (arith, is.size),
      records_stand points limit first asked reply name begins questions (place + length one) end rs rest (omega (arith, behind)) later alone.1 both.1,
    )

-- Of two lists one stands behind the other.
pointing_split : (name : DomainName) (rs qs : List Record) (octets : List ℕ) → ArePointing name (rs ++ qs) octets → (front : List ℕ) × (rest : List ℕ) × (octets ≡ front ++ rest) × ArePointing name rs front × ArePointing name qs rest
pointing_split name [] qs octets are = ([], octets, refl, refl, are)
pointing_split name (r ∷ rs) qs octets (one, later, is, same, more) =
    let both = pointing_split name rs qs later more in (
      one ++ both.0,
      both.1,
      same ∙ ap (λ (o : List ℕ). one ++ o) both.2 ∙ sym (append_assoc one both.0 both.1),
      (one, both.0, is, refl, both.3),
      both.4,
    )

-- The octets of options, if there are any.
abbrev pub AreOptions : Option Edns → List ℕ → Type 0
AreOptions None octets = octets ≡ []
AreOptions (Some edns) octets = (octets ≡ opt_octets edns) × FitsFields edns

options_stand : (limit place end : ℕ) (reply octets : List ℕ) (edns : Option Edns) → AreOptions edns octets → AllByRecursion EdnsReadsBack (option_to_list edns) → Stands reply place octets end → Front OptAt opt_plain reply limit place (option_to_list edns) (option_to_list edns) end
options_stand limit place end reply octets None are back there = omega (arith, there.behind, ap length are)
options_stand limit place end reply octets (Some edns) are back there =
    let at = subst (λ (o : List ℕ). Stands reply place o end) are.0 there in
    (end, refl, opt_at edns reply place end are.1 back.0 at, omega (arith, at.behind), refl)

-- Nothing is cut of what is kept whole.
whole_uncut : {X : Type 0} (xs : List X) → is_cut xs xs ≡ false
whole_uncut xs = le-ltb (length xs) (length xs) (omega arith)

abbrev all_kept : List Record → List Record → Option Edns → Fronts
all_kept answers authorities edns = record { answers = answers; authorities = authorities; additionals = []; edns = option_to_list edns; signature = [] }

none_truncated : (m : Metadata) (answers authorities : List Record) (edns : Option Edns) → is_truncated (written_parts m answers authorities edns) (all_kept answers authorities edns) ≡ false
none_truncated m answers authorities None = ap (λ (b : Bool). b || is_cut authorities authorities || false) (whole_uncut answers) ∙ ap (λ (b : Bool). b || false) (whole_uncut authorities)
none_truncated m answers authorities (Some edns) = ap (λ (b : Bool). b || is_cut authorities authorities || false) (whole_uncut answers) ∙ ap (λ (b : Bool). b || false) (whole_uncut authorities)

written_encoded : (m : Metadata) (h : Header) (asked : Asked) (limit : ℕ) (reply : List ℕ) (name : DomainName) (answers authorities : List Record) (octets options : List ℕ) (edns : Option Edns) → h ≡ header_of_reply m false (length asked.questions) (length answers) (length authorities) (length (option_to_list edns)) → (FitsOpCode m → (rest : List ℕ) → header_of (header_octets h ++ rest) ≡ h) → reply ≡ header_octets h ++ (asked.octets ++ (octets ++ options)) → length reply ≤ limit → HasWholeName asked name → ArePointing name (answers ++ authorities) octets → AreOptions edns options → AllReadBack (written_parts m answers authorities edns) → IsEncoded h reply (written_parts m answers authorities edns) asked limit
written_encoded m h asked limit reply name answers authorities octets options edns is back same room begins pointing are alone =
    let behind = asked.octets ++ (octets ++ options) in
    let first = 12 + length asked.octets in
    let lists = pointing_split name answers authorities octets pointing in
    let middle = first + length lists.0 in
    let last = first + length octets in
    let read : FitsOpCode m → header_of reply ≡ h = λ fits. ap header_of same ∙ back fits behind in
    let clear : reserved_bit reply ≡ false = ap reserved_bit same ∙ reserved_zero h behind in
    let all = stands_split reply 12 asked.octets (octets ++ options) (length reply) (stands_last (header_octets h) behind reply 12 refl same) in
    let both = stands_split reply first octets options (length reply) all.1 in
    let each = stands_split reply first lists.0 lists.1 last (subst (λ (o : List ℕ). Stands reply first o last) lists.2 both.0) in
    let kept = all_kept answers authorities edns in
    let told : h ≡ header_of_reply m (is_truncated (written_parts m answers authorities edns) kept) (length asked.questions) (length answers) (length authorities) (0 + length (option_to_list edns) + 0) =
    is ∙ ap (λ (b : Bool). header_of_reply m b (length asked.questions) (length answers) (length authorities) (length (option_to_list edns))) (sym (none_truncated m answers authorities edns))
    ∙ ap (λ (n : ℕ). header_of_reply m (is_truncated (written_parts m answers authorities edns) kept) (length asked.questions) (length answers) (length authorities) n) (omega arith) in
    record {
      within = room;
      reserved = clear;
      whole = λ fits. record {
        written = record {
          kept = kept;
          asked = all.0;
          fronts = record {
            answers_end = middle;
            authorities_end = last;
            additionals_end = last;
            edns_end = length reply;
            answers = records_stand (leaves_room asked) limit first asked reply name begins all.0 first middle answers lists.0 (omega arith) lists.3 alone.answers each.0;
            authorities = records_stand (leaves_room asked) limit first asked reply name begins all.0 middle last authorities lists.1 (omega arith) lists.4 alone.authorities each.1;
            additionals = refl;
            edns = options_stand limit last (length reply) reply options edns are alone.edns both.1;
            signature = refl;
          };
          header = λ fits. read fits ∙ told;
          reserved = clear;
          within = room;
        };
        header = told;
      };
      bare = λ less. absurd (omega (arith, less, room, all.1.behind, length-append octets options));
    }

-- What was put together of so many records is encoded, whatever they are.
pub joined_encoded : (m : Metadata) (h : Header) (asked : Asked) (limit : ℕ) (written : WrittenRecords) (options : List ℕ) (edns : Option Edns) → h ≡ header_of_reply m false (length asked.questions) written.answers written.authorities (length (option_to_list edns)) → (FitsOpCode m → (rest : List ℕ) → header_of (header_octets h ++ rest) ≡ h) → AreOptions edns options → (info : Header) (reply : List ℕ) → (info ≡ h) × (reply ≡ header_octets h ++ (asked.octets ++ (written.octets.now ++ options))) × (length reply ≤ limit) → (name : DomainName) (answers authorities : List Record) → HasWholeName asked name → AreWritten name written answers authorities → AllReadBack (written_parts m answers authorities edns) → IsEncoded info reply (written_parts m answers authorities edns) asked limit
joined_encoded m h asked limit written options edns is back are info reply (told, same, room) name answers authorities begins records alone =
    subst (λ (i : Header). IsEncoded i reply (written_parts m answers authorities edns) asked limit) (sym told)
    (written_encoded m h asked limit reply name answers authorities written.octets.now options edns
    (is ∙ ap (λ (n : ℕ). header_of_reply m false (length asked.questions) n written.authorities (length (option_to_list edns))) (sym records.answered)
    ∙ ap (λ (n : ℕ). header_of_reply m false (length asked.questions) (length answers) n (length (option_to_list edns))) (sym records.authorized))
    back same room begins records.pointing are alone)

-- What an option holds either way says less.
pub match_weaker : {X : Type 0} {P Q : Type 0} {R S : X → Type 0} (o : Option X) → (P → Q) → ((x : X) → R x → S x) → MatchOption o P R → MatchOption o Q S
match_weaker None none some m = none m
match_weaker (Some x) none some m = some x m

-- What is put together is said of it alone.
pub some_weaker : {X : Type 0} (P : Type 0) {R S : X → Type 0} (o : Option X) → ((x : X) → R x → S x) → MatchOption o P R → IfSome o S
some_weaker P None some m = tt
some_weaker P (Some x) some m = some x m
