-- A run of the server, one message more at a time.
use Rattle.std.proofs.Common.{◌≡◌, ℕ, ◌+◌, ◌<◌, List, [], ◌∷◌, ◌++◌, length, get_or, map, take, drop, Option, refl, sym, ap, subst, ◌∙◌, arith, append_assoc, append-nil, Vec, Global}
use Rattle.std.proofs.lemmas.List.{drop-map, drop_more, length-append, map-append, map_more, take-map}
use Rattle.authority_server.specs.declared.server.Arrival.{Arrival}
use Rattle.authority_server.specs.declared.server.ServeError.{ServeError}
use Rattle.authority_server.specs.Serving.{World, Received, Refuses, Serves, ServesAll}
use Rattle.authority_server.specs.Runs.{octets_of, received_of, refused, RefusesFirst, ServesNext, ServesFront, StopsServing}

-- A run goes on by one step.
pub serves_more : (old : World) (ms : List Received) (answers : List (Option (List ℕ))) (middle : World) (m : Received) (answer : Option (List ℕ)) (new : World) → ServesAll old ms answers middle → Serves middle m answer new → ServesAll old (ms ++ m ∷ []) (answers ++ answer ∷ []) new
serves_more old [] [] middle m answer new before step = (new, subst (λ (w : World). Serves w m answer new) before step, refl)
serves_more old [] (a ∷ as') middle m answer new before step = absurd before
serves_more old (r ∷ rs) [] middle m answer new before step = absurd before
serves_more old (r ∷ rs) (a ∷ as') middle m answer new (between, first, later) step = (between, first, serves_more between rs as' middle m answer new later step)

-- So many messages served: their answers stand behind those before.
pub record Served (old : World) (arrivals : List Arrival) (before after : List (Option (Vec ℕ Global))) (count : ℕ) (new : World) : Type 0 where
  pub answers : List (Option (List ℕ))
  pub behind : map octets_of after ≡ map octets_of before ++ answers
  pub counted : length answers ≡ count
  pub run : ServesAll old (map received_of (take count arrivals)) answers new

pub served_none : (old : World) (arrivals : List Arrival) (before : List (Option (Vec ℕ Global))) → Served old arrivals before before 0 old
served_none old arrivals before = record { answers = []; behind = sym (append-nil (map octets_of before)); counted = refl; run = refl }

pub served_more : (old : World) (arrivals : List Arrival) (before after : List (Option (Vec ℕ Global))) (count : ℕ) (middle : World) (d : Arrival) (later : List (Option (Vec ℕ Global))) (new : World) → count < length arrivals → Served old arrivals before after count middle → ServesNext middle (received_of (get_or arrivals count d)) after later new → Served old arrivals before later (count + 1) new
served_more old arrivals before after count middle d later new more s (answer, pushed, step) = record {
  answers = s.answers ++ octets_of answer ∷ [];
  behind = ap (λ (xs : List (Option (Vec ℕ Global))). map octets_of xs) pushed ∙ map-append octets_of after (answer ∷ []) ∙ ap (λ (xs : List (Option (List ℕ))). xs ++ octets_of answer ∷ []) s.behind ∙ append_assoc (map octets_of before) s.answers (octets_of answer ∷ []);
  counted = omega (arith, s.counted, length-append s.answers (octets_of answer ∷ []));
  run = subst (λ (ms : List Received). ServesAll old ms (s.answers ++ octets_of answer ∷ []) new) (sym (map_more received_of arrivals count d more)) (serves_more old (map received_of (take count arrivals)) s.answers middle (received_of (get_or arrivals count d)) (octets_of answer) new s.run step);
}

pub served_front : (old : World) (arrivals : List Arrival) (before after : List (Option (Vec ℕ Global))) (count : ℕ) (new : World) → Served old arrivals before after count new → ServesFront old (map received_of arrivals) (map octets_of before) (map octets_of after) new
served_front old arrivals before after count new s =
    (s.answers, s.behind, subst (λ (ms : List Received). ServesAll old ms s.answers new) (sym (take-map received_of count arrivals) ∙ ap (λ (n : ℕ). take n (map received_of arrivals)) (sym s.counted)) s.run)

-- The next message was refused.
pub served_until : (old : World) (arrivals : List Arrival) (before after : List (Option (Vec ℕ Global))) (count : ℕ) (middle : World) (d : Arrival) (e : ServeError) (new : World) → count < length arrivals → Served old arrivals before after count middle → Refuses middle (received_of (get_or arrivals count d)) e new
    → StopsServing old (map received_of arrivals) (map octets_of before) (map octets_of after) e new
served_until old arrivals before after count middle d e new more s fails =
    let from : drop (length s.answers) (map received_of arrivals) ≡ received_of (get_or arrivals count d) ∷ map received_of (drop (count + 1) arrivals) =
    ap (λ (n : ℕ). drop n (map received_of arrivals)) s.counted ∙ drop-map received_of count arrivals ∙ ap (map received_of) (drop_more arrivals count d more) in
    let run = subst (λ (ms : List Received). ServesAll old ms s.answers middle) (sym (take-map received_of count arrivals) ∙ ap (λ (n : ℕ). take n (map received_of arrivals)) (sym s.counted)) s.run in
    refused (s.answers, middle, s.behind, run, subst (λ (ms : List Received). RefusesFirst middle ms e new) (sym from) fails)
