-- What is kept from one element of a name to the next.
use Rattle.std.proofs.Common.{◌≡◌, ℕ, ◌+◌, ◌≤◌, ◌<◌, List, [], ◌∷◌, ◌++◌, length, true, All, ◌-◌, drop, take, Option, Some, None, unwrap_or, refl, arith, ap, sym, ◌∙◌, subst, append-nil, append_assoc}
use Rattle.dnw_name.specs.DomainName.{DomainName, domain_name, labels_len}
use Rattle.std.proofs.lemmas.Grind.{flat_map-append}
use Rattle.std.proofs.lemmas.List.{length-append}
use Rattle.std.proofs.lemmas.List.Elements.{All-nil, All-push}
use Rattle.std.proofs.lemmas.List.Sums.{sum_by-append, sum_by_push}
use Rattle.dnw_name.specs.dnw_codes.declared.error.DecodeError.{DecodeError}
use Rattle.dnw_name.specs.dnw_codes.declared.error.DecodeError.TheVariants.{DomainNameTooLong}
use Rattle.dnw_name.specs.dnw_label.Label.{IsLabel}
use Rattle.dnw_name.specs.dnw_label.Labels.{label_octets}
use Rattle.dnw_name.proofs.dnw_label_lemmas.LabelsLemmas.{length-label_octets}
use Rattle.dnw_decoder.specs.Elements.{Run, begins, goes_on}
use Rattle.dnw_decoder.specs.Octets.{Stands}
use Rattle.dnw_decoder.specs.Spelling.{NameAt, Spells, pointer_octets, at_end}
use Rattle.dnw_decoder.specs.Refusals.{Reaches, at_start, behind_label, at_target, Refuses, IsCause}
use Rattle.dnw_decoder.proofs.Standing.{stands_head, stands_taken, stands_within}
use Rattle.dnw_decoder.proofs.Reached.{reached_whole}

-- Where the name ends if a pointer was followed.
abbrev pub Resumes : List ℕ → ℕ → ℕ → Option ℕ → Type 0
Resumes message start place None = start ≤ place
Resumes message start place (Some end) = (start ≤ end) × (end ≤ length message)

pub record IsReading (message : List ℕ) (start : ℕ) (name : DomainName) (segment bound place : ℕ) (resume : Option ℕ) : Type 0 where
  pub reached : Reaches message start name.labels segment bound place resume
  pub full : name.fqdn ≡ true
  pub size : labels_len name.labels + 1 ≤ 255
  pub early : segment ≤ length message
  pub within : bound ≤ length message
  pub ahead : Resumes message start place resume

pub reading_start : (message : List ℕ) (start : ℕ) → start ≤ length message → IsReading message start (domain_name true []) start (length message) start None
reading_start message start within = record {
  reached = at_start;
  full = refl;
  size = omega arith;
  early = within;
  within = omega arith;
  ahead = omega arith;
}

resumes_more : (message : List ℕ) (start place behind : ℕ) (resume : Option ℕ) → place ≤ behind → Resumes message start place resume → Resumes message start behind resume
resumes_more message start place behind None after h = omega (arith, h)
resumes_more message start place behind (Some end) after h = h

pub reading_label : (message : List ℕ) (start : ℕ) (name longer : DomainName) (segment bound place behind : ℕ) (resume : Option ℕ) (next : List ℕ) → IsReading message start name segment bound place resume → place < bound → IsLabel next → Stands message place (length next ∷ next) behind → longer ≡ domain_name name.fqdn (name.labels ++ next ∷ []) → labels_len longer.labels + 1 ≤ 255 → IsReading message start longer segment bound behind resume
reading_label message start name longer segment bound place behind resume next r inside is there e size = record {
  reached = rw e (behind_label r.reached inside is there);
  full = ap (λ (n : DomainName). n.fqdn) e ∙ r.full;
  size = size;
  early = r.early;
  within = r.within;
  ahead = resumes_more message start place behind resume (omega (arith, there.behind)) r.ahead;
}

resumes_behind : (message : List ℕ) (start place behind : ℕ) (resume : Option ℕ) → place ≤ behind → behind ≤ length message → Resumes message start place resume → (start ≤ unwrap_or resume behind) × (unwrap_or resume behind ≤ length message)
resumes_behind message start place behind None after within h = (omega (arith, h), within)
resumes_behind message start place behind (Some end) after within h = h

pub reading_target : (message : List ℕ) (start : ℕ) (name : DomainName) (segment bound place target behind : ℕ) (resume : Option ℕ) → IsReading message start name segment bound place resume → place < bound → target < segment → target < 16384 → Stands message place (pointer_octets target) behind → IsReading message start name target segment target (Some (unwrap_or resume behind))
reading_target message start name segment bound place target behind resume r inside backward small there = record {
  reached = at_target r.reached inside backward small there;
  full = r.full;
  size = r.size;
  early = omega (arith, r.early);
  within = r.early;
  ahead = resumes_behind message start place behind resume (omega (arith, there.behind)) (stands_within message place _ behind (omega arith) there) r.ahead;
}

pub reading_end : (message : List ℕ) (start : ℕ) (name : DomainName) (segment bound place behind : ℕ) (resume : Option ℕ) → IsReading message start name segment bound place resume → place < bound → Stands message place (0 ∷ []) behind → NameAt message start name (unwrap_or resume behind) × ((start ≤ unwrap_or resume behind) × (unwrap_or resume behind ≤ length message))
reading_end message start name segment bound place behind resume r inside there = (
  record {
    full = r.full;
    spelled = subst (λ (all : List (List ℕ)). Spells message start all (unwrap_or resume behind)) (append-nil name.labels) (reached_whole message start name.labels segment bound place resume r.reached [] behind (at_end inside there));
    size = r.size;
  },
  resumes_behind message start place behind resume (omega (arith, there.behind)) (stands_within message place _ behind (omega arith) there) r.ahead,
)

-- The labels of a run that aren't part of the name yet: they stand from the run's begin on.
pub record IsWalking (message : List ℕ) (start : ℕ) (built : DomainName) (len segment bound place run : ℕ) (resume : Option ℕ) : Type 0 where
  pub pending : List (List ℕ)
  pub each : All IsLabel pending
  pub reading : IsReading message start (domain_name built.fqdn (built.labels ++ pending)) segment bound place resume
  pub spelled : Stands message run (label_octets pending) place
  pub inside : place ≤ length message
  pub counted : len ≡ labels_len (built.labels ++ pending) + 1

stands_nothing : (message : List ℕ) (place : ℕ) → Stands message place [] place
stands_nothing message place = record { there = refl; behind = omega arith }

stands_more : (message : List ℕ) (place : ℕ) (xs : List ℕ) (between : ℕ) (ys : List ℕ) (end : ℕ) → Stands message place xs between → Stands message between ys end → Stands message place (xs ++ ys) end
stands_more message place xs between ys end s t = record {
  there = s.there ∙ ap (λ (octets : List ℕ). xs ++ octets) t.there ∙ sym (append_assoc xs ys (drop end message));
  behind = omega (arith, s.behind, t.behind, length-append xs ys);
}

-- A run begins.
pub walking_at : (message : List ℕ) (start : ℕ) (built : DomainName) (len segment bound place : ℕ) (resume : Option ℕ) → IsReading message start built segment bound place resume → place ≤ length message → len ≡ labels_len built.labels + 1 → IsWalking message start built len segment bound place place resume
walking_at message start built len segment bound place resume r inside counted = record {
  pending = [];
  each = All-nil IsLabel;
  reading = subst (λ (labels : List (List ℕ)). IsReading message start (domain_name built.fqdn labels) segment bound place resume) (sym (append-nil built.labels)) r;
  spelled = stands_nothing message place;
  inside = inside;
  counted = counted ∙ ap (λ (labels : List (List ℕ)). labels_len labels + 1) (sym (append-nil built.labels));
}

pub walking_start : (message : List ℕ) (start : ℕ) → start ≤ length message → IsWalking message start (domain_name true []) 1 start (length message) start start None
walking_start message start within = walking_at message start (domain_name true []) 1 start (length message) start None (reading_start message start within) within refl

-- A label more.
pub walking_label : (message : List ℕ) (start : ℕ) (built : DomainName) (len segment bound place run : ℕ) (resume : Option ℕ) (next : List ℕ) → IsWalking message start built len segment bound place run resume → place < bound → IsLabel next → Stands message place (length next ∷ next) (place + (1 + length next)) → len + (1 + length next) ≤ 255 → IsWalking message start built (len + (1 + length next)) segment bound (place + (1 + length next)) run resume
walking_label message start built len segment bound place run resume next w before is there few =
    let longer : built.labels ++ (w.pending ++ next ∷ []) ≡ (built.labels ++ w.pending) ++ next ∷ [] = sym (append_assoc built.labels w.pending (next ∷ [])) in
    let size : labels_len (built.labels ++ (w.pending ++ next ∷ [])) ≡ labels_len (built.labels ++ w.pending) + (length next + 1) = ap labels_len longer ∙ sum_by_push (λ label. length label + 1) (built.labels ++ w.pending) next in
    record {
      pending = w.pending ++ next ∷ [];
      each = All-push IsLabel w.pending next w.each is;
      reading =
          reading_label message start (domain_name built.fqdn (built.labels ++ w.pending)) (domain_name built.fqdn (built.labels ++ (w.pending ++ next ∷ []))) segment bound place (place + (1 + length next)) resume next w.reading before is there
          (ap (domain_name built.fqdn) longer) (omega (arith, size, w.counted, few));
      spelled =
          subst (λ (octets : List ℕ). Stands message run octets (place + (1 + length next)))
          (ap (λ (octets : List ℕ). label_octets w.pending ++ octets) (sym (append-nil (length next ∷ next))) ∙ sym (flat_map-append (λ (label : List ℕ). length label ∷ label) w.pending (next ∷ [])))
          (stands_more message run (label_octets w.pending) place (length next ∷ next) (place + (1 + length next)) w.spelled there);
      inside = stands_within message place (length next ∷ next) (place + (1 + length next)) (omega arith) there;
      counted = omega (arith, size, w.counted);
    }

pub run_ahead : (message : List ℕ) (bound place : ℕ) (labels : List (List ℕ)) (end : ℕ) → Run message bound place labels end → place ≤ end
run_ahead message bound place _ _ begins = omega arith
run_ahead message bound place _ end (goes_on {labels = labels} {middle = middle} {next = next} before inside is there) =
    omega (arith, run_ahead message bound place labels middle before, there.behind)

-- Labels more, one behind the other.
pub walking_run : (message : List ℕ) (start : ℕ) (built : DomainName) (len segment bound place run : ℕ) (resume : Option ℕ) (labels : List (List ℕ)) (end size : ℕ) → IsWalking message start built len segment bound place run resume → Run message bound place labels end → size ≡ len + (end - place) → size ≤ 255 → IsWalking message start built size segment bound end run resume
walking_run message start built len segment bound place run resume _ _ size w begins sum few =
    subst (λ (n : ℕ). IsWalking message start built n segment bound place run resume) (omega (arith, sum)) w
walking_run message start built len segment bound place run resume _ end size w (goes_on {labels = labels} {middle = middle} {next = next} before inside is there) sum few =
    let ahead : place ≤ middle = run_ahead message bound place labels middle before in
    let last : end ≡ middle + (1 + length next) = omega (arith, there.behind) in
    let one = walking_run message start built len segment bound place run resume labels middle (len + (middle - place)) w before refl (omega (arith, sum, few, ahead, last)) in
    let whole = walking_label message start built (len + (middle - place)) segment bound middle run resume next one inside is (subst (λ (e : ℕ). Stands message middle (length next ∷ next) e) last there) (omega (arith, sum, few, ahead, last)) in
    let total : size ≡ len + (middle - place) + (1 + length next) = omega (arith, sum, ahead, last) in
    rw (total, last) whole

-- As many labels more as there is room for.
pub walking_on : {message : List ℕ} {start : ℕ} {built : DomainName} {len segment bound place run : ℕ} {resume : Option ℕ} {end : ℕ} → IsWalking message start built len segment bound place run resume → ((labels : List (List ℕ)) × Run message bound place labels end) → place ≤ end → end ≤ place + (255 - len) → IsWalking message start built (len + (end - place)) segment bound end run resume
walking_on {message} {start} {built} {len} {segment} {bound} {place} {run} {resume} {end} w labels ahead room =
    walking_run message start built len segment bound place run resume labels.0 end (len + (end - place)) w labels.1 refl (omega (arith, ahead, room, w.counted, w.reading.size))

-- The run's octets are those of its labels.
pub record HasRun (message : List ℕ) (built : DomainName) (place run : ℕ) (pending : List (List ℕ)) : Type 0 where
  pub spelled : take (place - run) (drop run message) ≡ label_octets pending
  pub ordered : run ≤ place
  pub short : labels_len built.labels + length (take (place - run) (drop run message)) + 1 ≤ 255

pub has_run : (message : List ℕ) (start : ℕ) (built : DomainName) (len segment bound place run : ℕ) (resume : Option ℕ) (w : IsWalking message start built len segment bound place run resume) → HasRun message built place run w.pending
has_run message start built len segment bound place run resume w =
    let long : length (label_octets w.pending) ≡ place - run = omega (arith, w.spelled.behind) in
    let same : take (place - run) (drop run message) ≡ label_octets w.pending = sym (stands_taken message run (label_octets w.pending) place (place - run) long w.spelled) in
    record {
      spelled = same;
      ordered = omega (arith, w.spelled.behind);
      short = omega (arith, ap length same, length-label_octets w.pending, sum_by-append (λ (label : List ℕ). length label + 1) built.labels w.pending, w.reading.size);
    }

-- The run joins the name.
pub walked : (message : List ℕ) (start : ℕ) (built whole : DomainName) (len segment bound place run : ℕ) (resume : Option ℕ) (w : IsWalking message start built len segment bound place run resume) → whole ≡ domain_name built.fqdn (built.labels ++ w.pending) → IsReading message start whole segment bound place resume × (len ≡ labels_len whole.labels + 1)
walked message start built whole len segment bound place run resume w e = (
  subst (λ (n : DomainName). IsReading message start n segment bound place resume) (sym e) w.reading,
  w.counted ∙ ap (λ (n : DomainName). labels_len n.labels + 1) (sym e),
)

pub walk_refused : (message : List ℕ) (start : ℕ) (built : DomainName) (len segment bound place run : ℕ) (resume : Option ℕ) (e : DecodeError) (w : IsWalking message start built len segment bound place run resume) → IsCause message (built.labels ++ w.pending) segment bound place e → Refuses message start e
walk_refused message start built len segment bound place run resume e w cause = record {
  found = built.labels ++ w.pending;
  segment = segment;
  bound = bound;
  place = place;
  resume = resume;
  reached = w.reading.reached;
  cause = cause;
}

-- A label that makes the name too long.
pub walk_too_long : (message : List ℕ) (start : ℕ) (built : DomainName) (len segment bound place run : ℕ) (resume : Option ℕ) (next : List ℕ) → IsWalking message start built len segment bound place run resume → place < bound → IsLabel next → Stands message place (length next ∷ next) (place + (1 + length next)) → 255 < len + (1 + length next) → Refuses message start (DomainNameTooLong (len + (1 + length next)))
walk_too_long message start built len segment bound place run resume next w before is there many =
    let head = stands_head message place (length next) next (place + (1 + length next)) there in
    let inside = stands_within message place (length next ∷ next) (place + (1 + length next)) (omega arith) there in
    walk_refused message start built len segment bound place run resume (DomainNameTooLong (len + (1 + length next))) w (
      before,
      omega (arith, head, is.some),
      omega (arith, head, is.few),
      omega (arith, head, inside),
      omega (arith, head, w.counted),
      many,
    )
