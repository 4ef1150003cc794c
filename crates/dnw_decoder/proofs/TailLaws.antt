-- What is kept of names, and reading along it.
use Rattle.std.proofs.Common.{◌≡◌, ℕ, ◌+◌, ◌-◌, ◌<◌, ◌≤◌, Bool, true, false, ◌==◌, inl, inr, List, [], ◌∷◌, ◌++◌, length, drop, get_or, set, Option, Some, None, unwrap_or, Box, Global, refl, sym, ap, subst, ◌∙◌, arith, Decides}
use Rattle.std.specs.Prelude.{MatchOption, IfOk, Result, Ok, Err}
use Rattle.std.specs.Result.{result_ok}
use Rattle.std.proofs.lemmas.Bool.Decides.{Decides-eqb, not_from_Decides}
use Rattle.std.proofs.lemmas.Grind.{get_or-set_at}
use Rattle.std.proofs.lemmas.List.{get_or-set_other, get_or_append_left, length-drop, drop-drop, length-append}
use Rattle.std.proofs.lemmas.List.Sums.{sum_by-cons}
use Rattle.dnw_name.specs.DomainName.{DomainName, domain_name, labels_len, IsDomainName}
use Rattle.dnw_decoder.specs.Chains.{PointsBack, Chain, Leads, ends, goes_on}
use Rattle.dnw_decoder.specs.Elements.{Run, begins, goes_on as run_on}
use Rattle.dnw_decoder.specs.Octets.{Stands}
use Rattle.dnw_decoder.specs.Spelling.{pointer_octets, Spelled, Spells, at_end, at_label, at_pointer, NameAt}
use Rattle.dnw_decoder.specs.Tails.{IsSegment, last, kept_name, tail_labels, IsTail, AreTails, AreKept, IsKept}
use Rattle.dnw_decoder.specs.declared.tails.Segment.{Segment}
use Rattle.dnw_decoder.specs.declared.tails.Tail.{Tail}
use Rattle.dnw_decoder.specs.declared.tails.Tails.{Tails}
use Rattle.dnw_decoder.proofs.Progress.{IsReading, IsWalking, reading_target, walked}
use Rattle.dnw_decoder.proofs.ChainLaws.{reading_led}
use Rattle.dnw_decoder.proofs.Reached.{reached_whole}
use Rattle.dnw_decoder.proofs.SpellingLaws.{label_first, pointer_first, end_first, spelled_within}
use Rattle.dnw_decoder.proofs.Standing.{stands_head}

-- What is spelled in a segment is spelled in a later one too, with a later bound.
pub spelled_later : (message : List ℕ) (segment bound later wider place : ℕ) (all : List (List ℕ)) (end : ℕ) → segment ≤ later → bound ≤ wider → Spelled message segment bound place all end → Spelled message later wider place all end
spelled_later message segment bound later wider place _ end s b (at_end inside there) = at_end (omega (arith, b, inside)) there
spelled_later message segment bound later wider place _ end s b (at_label {behind = behind} {rest = rest} inside is there more) =
    at_label (omega (arith, b, inside)) is there (spelled_later message segment bound later wider behind rest end s b more)
spelled_later message segment bound later wider place all end s b (at_pointer {target = target} {end = last} inside backward small there more) =
    at_pointer (omega (arith, b, inside)) (omega (arith, s, backward)) small there
    (spelled_later message target segment target later target all last (omega arith) s more)

-- The octets of what is spelled begin before they end: a bound may be there.
pub spelled_before : (message : List ℕ) (segment bound nearer place : ℕ) (all : List (List ℕ)) (end : ℕ) → end ≤ nearer → Spelled message segment bound place all end → Spelled message segment nearer place all end
spelled_before message segment bound nearer place _ end n (at_end inside there) = at_end (omega (arith, n, there.behind)) there
spelled_before message segment bound nearer place _ end n (at_label {behind = behind} {rest = rest} inside is there more) =
    at_label (omega (arith, n, there.behind, (spelled_within message segment bound behind rest end more).0)) is there
    (spelled_before message segment bound nearer behind rest end n more)
spelled_before message segment bound nearer place all end n (at_pointer inside backward small there more) =
    at_pointer (omega (arith, n, there.behind)) backward small there more

-- Behind a run the rest is spelled.
pub run_behind : (message : List ℕ) (segment bound other place : ℕ) (labels : List (List ℕ)) (behind : ℕ) (all : List (List ℕ)) (end : ℕ) → Run message other place labels behind → Spelled message segment bound place all end → (rest : List (List ℕ)) × Spelled message segment bound behind rest end
run_behind message segment bound other place _ _ all end begins s = (all, s)
run_behind message segment bound other place _ behind all end (run_on {labels = labels} {middle = middle} {next = next} before inside is there) s =
    let earlier = run_behind message segment bound other place labels middle all end before s in
    let first = label_first message segment bound middle behind next earlier.0 end is there earlier.1 in
    (first.0, first.2)

-- The label that begins with an octet.
pub record FirstLabel (message : List ℕ) (segment bound place : ℕ) (all : List (List ℕ)) (end : ℕ) : Type 0 where
  pub one : List ℕ
  pub rest : List (List ℕ)
  pub whole : all ≡ one ∷ rest
  pub more : Spelled message segment bound (place + 1 + get_or message place 0) rest end

pub first_label : (message : List ℕ) (segment bound place : ℕ) (all : List (List ℕ)) (end : ℕ) → 0 < get_or message place 0 → get_or message place 0 ≤ 63 → Spelled message segment bound place all end → FirstLabel message segment bound place all end
first_label message segment bound place _ end some few (at_end inside there) =
    absurd (omega (arith, some, stands_head message place _ _ _ there))
first_label message segment bound place _ end some few (at_label {behind = behind} {first = first} {rest = rest} inside is there more) =
    let head : get_or message place 0 ≡ length first = stands_head message place _ _ _ there in
    let next : behind ≡ place + 1 + get_or message place 0 = omega (arith, head, there.behind) in
    record { one = first; rest = rest; whole = refl; more = subst (λ (p : ℕ). Spelled message segment bound p rest end) next more }
first_label message segment bound place all end some few (at_pointer {target = target} inside backward small there more) =
    absurd (omega (arith, few, stands_head message place _ _ _ there))

drop_tail : (labels : List (List ℕ)) (k : ℕ) (one : List ℕ) (rest : List (List ℕ)) → drop k labels ≡ one ∷ rest → drop (k + 1) labels ≡ rest
drop_tail labels k one rest e = sym (drop-drop 1 k labels) ∙ ap (λ (ls : List (List ℕ)). drop 1 ls) e

-- Behind the first of the last labels, one less is last.
pub last_next : (labels : List (List ℕ)) (n : ℕ) (one : List ℕ) (rest : List (List ℕ)) → n ≤ length labels → last n labels ≡ one ∷ rest → (1 ≤ n) × (rest ≡ last (n - 1) labels)
last_next labels n one rest few e =
    let long = ap (λ (ls : List (List ℕ)). length ls) e in
    let some : 1 ≤ n = omega (arith, long, length-drop (length labels - n) labels, few) in
    let same : length labels - (n - 1) ≡ (length labels - n) + 1 = omega (arith, some, few) in
    (some, sym (ap (λ (k : ℕ). drop k labels) same ∙ drop_tail labels (length labels - n) one rest e))

-- Behind its first label a tail is a tail.
pub record NextTail (message : List ℕ) (names : List DomainName) (place : ℕ) (tail : Tail) : Type 0 where
  pub some : 1 ≤ tail.labels
  pub next : IsTail message names (place + 1 + get_or message place 0) (record tail { labels = tail.labels - 1 })

named_later : (message : List ℕ) (place later : ℕ) (labels : List (List ℕ)) (end : ℕ) → place ≤ later → Spelled message place (length message) later labels end → labels_len labels + 1 ≤ 255 → NameAt message later (domain_name true labels) end
named_later message place later labels end after s size =
    record { full = refl; spelled = spelled_later message place (length message) later (length message) later labels end after (omega arith) s; size = size }

pub next_tail : (message : List ℕ) (names : List DomainName) (place : ℕ) (tail : Tail) → IsTail message names place tail → 0 < get_or message place 0 → get_or message place 0 ≤ 63 → NextTail message names place tail
next_tail message names place tail is some few =
    let first = first_label message place (length message) place (tail_labels names tail) tail.end some few is.named.spelled in
    let labels = (kept_name names tail.number).labels in
    let behind = last_next labels tail.labels first.one first.rest is.few first.whole in
    let size : labels_len (tail_labels names tail) ≡ length first.one + 1 + labels_len first.rest = ap labels_len first.whole ∙ sum_by-cons (λ (label : List ℕ). length label + 1) first.one first.rest in
    record {
      some = behind.0;
      next = record {
        known = is.known;
        few = omega (arith, is.few);
        named =
            subst (λ (ls : List (List ℕ)). NameAt message (place + 1 + get_or message place 0) (domain_name true ls) tail.end) behind.1
            (named_later message place (place + 1 + get_or message place 0) first.rest tail.end (omega arith) first.more (omega (arith, size, is.named.size)));
      };
    }

tails_at : (message : List ℕ) (names : List DomainName) (places : List (Option Tail)) (place : ℕ) (tail : Tail) (other : ℕ) (found : Tail) (b : Bool) → Decides b (other ≡ place) → ((at : ℕ) (is : Tail) → get_or places at None ≡ Some is → IsTail message names at is) → place < length places → IsTail message names place tail → get_or (set places place (Some tail)) other None ≡ Some found → IsTail message names other found
tails_at message names places place tail other found true d are inside is kept =
    let same : other ≡ place = d.0 refl in
    let it : Some tail ≡ Some found = sym (get_or-set_at places place place (Some tail) None refl inside) ∙ rw same at kept in
    rw same (subst (λ (t : Tail). IsTail message names place t) (some_same it) is)
  where
    some_same : {a b : Tail} → Some a ≡ Some b → a ≡ b
    some_same {a} e = ap (λ (o : Option Tail). unwrap_or o a) e
tails_at message names places place tail other found false d are inside is kept =
    let stays = get_or-set_other places place other (Some tail) None (not_from_Decides false d refl) in
    are other found (sym stays ∙ kept)

-- A tail more is kept.
pub tails_more : (message : List ℕ) (names : List DomainName) (places : List (Option Tail)) (place : ℕ) (tail : Tail) → ((at : ℕ) (is : Tail) → get_or places at None ≡ Some is → IsTail message names at is) → place < length places → IsTail message names place tail → (at : ℕ) (is : Tail) → get_or (set places place (Some tail)) at None ≡ Some is → IsTail message names at is
tails_more message names places place tail are inside is = λ other found kept.
    tails_at message names places place tail other found (other == place) (Decides-eqb other place) are inside is kept

-- A name more is kept.
pub tail_stays : (message : List ℕ) (names : List DomainName) (name : DomainName) (place : ℕ) (tail : Tail) → IsTail message names place tail → IsTail message (names ++ name ∷ []) place tail
tail_stays message names name place tail is =
    let same : kept_name (names ++ name ∷ []) tail.number ≡ kept_name names tail.number = get_or_append_left names (name ∷ []) (domain_name true []) tail.number is.known in
    record {
      known = omega (arith, is.known, length-append names (name ∷ []));
      few = rw same is.few;
      named = rw same is.named;
    }

-- What a chain's first pointer names is spelled where the chain leads.
chain_spelled : (message : List ℕ) (segment bound place last target : ℕ) (all : List (List ℕ)) (end : ℕ) → segment ≤ place → place ≤ length message → Chain message place last → PointsBack message last target → Spelled message segment bound place all end → (later : ℕ) × Spells message target all later
chain_spelled message segment bound place _ target all end early inside (ends q) p s =
    let first = pointer_first message segment bound place target (place + 2) all end p.small p.there s in
    (first.0, spelled_later message target segment target (length message) target all first.0 (omega arith) (omega (arith, early, inside)) first.2)
chain_spelled message segment bound place last target all end early inside (goes_on {target = next} q rest) p s =
    let first = pointer_first message segment bound place next (place + 2) all end q.small q.there s in
    chain_spelled message next segment next last target all first.0 (omega arith) (omega (arith, inside, q.backward)) rest p first.2

-- What is spelled at a pointer is spelled where it leads.
pub led_named : (message : List ℕ) (place target bound later_bound later_target : ℕ) (labels : List (List ℕ)) (end : ℕ) → NameAt message place (domain_name true labels) end → target < 16384 → Stands message place (pointer_octets target) (place + 2) → target < place → Leads message bound target later_bound later_target → (later : ℕ) × NameAt message later_target (domain_name true labels) later
led_named message place target bound later_bound later_target labels end named small there backward leads =
    let first = pointer_first message place (length message) place target (place + 2) labels end small there named.spelled in
    let within = spelled_within message place (length message) place labels end named.spelled in
    elim leads [
      | inl stays ↦ (
        first.0,
        subst (λ (t : ℕ). NameAt message t (domain_name true labels) first.0) (sym stays.1) (record {
          full = refl;
          spelled = spelled_later message target place target (length message) target labels first.0 (omega arith) (omega (arith, within)) first.2;
          size = named.size;
        }),
      )
      | inr led ↦
          let more = chain_spelled message target place target later_bound later_target labels first.0 (omega arith) (omega (arith, within, backward)) led.0 led.1 first.2 in
          (more.0, record { full = refl; spelled = more.1; size = named.size })
    ]

-- What is kept of a place is spelled there, and its octets end before the bound.
pub kept_named : (message : List ℕ) (tails : Option (Box Tails Global)) (place bound : ℕ) (labels : List (List ℕ)) → AreKept message tails → IsKept tails place bound labels → (end : ℕ) × (end ≤ bound) × NameAt message place (domain_name true labels) end
kept_named message None place bound labels are kept = absurd kept
kept_named message (Some tails) place bound labels are kept =
    let is = are place kept.0 kept.1 in
    (kept.0.end, kept.2, subst (λ (ls : List (List ℕ)). NameAt message place (domain_name true ls) kept.0.end) (sym kept.3) is.named)

-- A name is whole with what is kept of the place that was come to.
pub kept_whole : (message : List ℕ) (start : ℕ) (name whole : DomainName) (segment bound resume : ℕ) (labels : List (List ℕ)) (end : ℕ) → IsReading message start name segment bound segment (Some resume) → end ≤ bound → NameAt message segment (domain_name true labels) end → whole ≡ domain_name name.fqdn (name.labels ++ labels) → IsDomainName whole → NameAt message start whole resume × ((start ≤ resume) × (resume ≤ length message))
kept_whole message start name whole segment bound resume labels end r near named e is = (
  record {
    full = ap (λ (n : DomainName). n.fqdn) e ∙ r.full;
    spelled =
        subst (λ (n : DomainName). Spells message start n.labels resume) (sym e)
        (reached_whole message start name.labels segment bound segment (Some resume) r.reached labels end (spelled_before message segment (length message) bound segment labels end near named.spelled));
    size = is.short;
  },
  r.ahead,
)

-- A segment's octets end where the name does that is spelled in it.
segment_end : (message : List ℕ) (place : ℕ) (target : Option ℕ) (run end : ℕ) (labels : List (List ℕ)) (other : ℕ) → MatchOption target (Stands message run (0 ∷ []) end) (λ t. (t < place) × (t < 16384) × Stands message run (pointer_octets t) end) → Spelled message place (length message) run labels other → other ≡ end
segment_end message place None run end labels other last s = (end_first message place (length message) run end labels other last s).1
segment_end message place (Some target) run end labels other last s = (pointer_first message place (length message) run target end labels other last.1 last.2 s).1

pub named_segment : (message : List ℕ) (place : ℕ) (segment : Segment) (labels : List (List ℕ)) (other : ℕ) → IsSegment message place segment → NameAt message place (domain_name true labels) other → NameAt message place (domain_name true labels) segment.end
named_segment message place segment labels other is named =
    let rest = run_behind message place (length message) (length message) place is.run.0 segment.run labels other is.run.1 named.spelled in
    subst (λ (e : ℕ). NameAt message place (domain_name true labels) e) (segment_end message place segment.target segment.run segment.end rest.0 other is.last rest.1) named

-- All labels of a name are its last ones.
pub all_named : (message : List ℕ) (place : ℕ) (name : DomainName) (end n : ℕ) → NameAt message place name end → n ≡ length name.labels → NameAt message place (domain_name true (last n name.labels)) end
all_named message place name end n named long =
    let none : length name.labels - n ≡ 0 = omega (arith, long) in
    let same : last n name.labels ≡ name.labels = ap (λ (k : ℕ). drop k name.labels) none in
    record {
      full = refl;
      spelled = subst (λ (ls : List (List ℕ)). Spells message place ls end) (sym same) named.spelled;
      size = subst (λ (ls : List (List ℕ)). labels_len ls + 1 ≤ 255) (sym same) named.size;
    }

-- Tails that were made are kept, or none are.
pub kept_ok : {E : Type 0} (message : List ℕ) (made : Result (Box Tails Global) E) → IfOk made (λ tails. AreTails message tails.value) → AreKept message (result_ok made)
kept_ok message (Ok tails) are = are
kept_ok message (Err e) are = tt

-- A pointer behind a run leads on.
pub led_reading : (message : List ℕ) (start : ℕ) (built whole : DomainName) (len segment bound place run : ℕ) (resume : Option ℕ) (target later_bound later_target : ℕ) (w : IsWalking message start built len segment bound place run resume) → whole ≡ domain_name built.fqdn (built.labels ++ w.pending) → (place < bound) × (target < segment) × (target < 16384) × Stands message place (pointer_octets target) (place + 2) → Leads message segment target later_bound later_target → IsReading message start whole later_target later_bound later_target (Some (unwrap_or resume (place + 2))) × (len ≡ labels_len whole.labels + 1)
led_reading message start built whole len segment bound place run resume target later_bound later_target w e here leads =
    let name = walked message start built whole len segment bound place run resume w e in
    let read = reading_target message start whole segment bound place target (place + 2) resume name.0 here.0 here.1 here.2 here.3 in
    (reading_led message start whole segment target (unwrap_or resume (place + 2)) later_bound later_target read here.1 leads, name.1)
