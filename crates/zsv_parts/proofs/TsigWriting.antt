-- A signature that is written piece by piece.
use Rattle.std.proofs.Common.{◌≡◌, true, ℕ, ◌+◌, ◌^◌, ◌<◌, ◌≤◌, List, ◌++◌, length, take, drop, sym, ap, subst, ◌∙◌, arith, append_assoc}
use Rattle.std.specs.Prelude.{Result, Ok, Err, OnOk}
use Rattle.std.proofs.lemmas.List.{length-take, length-append, drop-drop, take_at, drop_at}
use Rattle.dnw_encoder.specs.dnw_name.DomainName.{IsDomainName, name_octets}
use Rattle.dnw_encoder.specs.dnw_decoder.Octets.{octets_16, Stands}
use Rattle.dnw_encoder.specs.Effects.{WritesOctets, written_at}
use Rattle.dnw_encoder.specs.State.{State}
use Rattle.dnw_encoder.proofs.Laws.{holds_map, modes_then, puts_stands}
use Rattle.dnw_encoder.proofs.NameLaws.{name_stands}
use Rattle.dnw_encoder.proofs.dnw_decoder_lemmas.Standing.{stands_split}
use Rattle.zsv_parts.specs.declared.tsig.Tsig.{Tsig}
use Rattle.zsv_parts.specs.Signatures.{octets_48, time_octets, code_octets, signed_of, signed_octets, tsig_octets, FitsTime, FitsCodes, TsigAt, EmitsTsig}

-- Octets written behind others that were written.
written_then : (o : List ℕ) (place : ℕ) (a b : List ℕ) → place ≤ length o → written_at (written_at o place a) (place + length a) b ≡ written_at o place (a ++ b)
written_then o place a b le =
    let front : length (take place o ++ a) ≡ place + length a = omega (arith, length-append (take place o) a, length-take place o) in
    let w = written_at o place a in
    let first : take (place + length a) w ≡ take place o ++ a = take_at (take place o ++ a) (drop (place + length a) o) (place + length a) front in
    let behind : drop (place + length a) w ≡ drop (place + length a) o = drop_at (take place o ++ a) (drop (place + length a) o) (place + length a) front in
    let last : drop ((place + length a) + length b) w ≡ drop (place + length (a ++ b)) o =
    sym (drop-drop (length b) (place + length a) w) ∙ ap (λ (t : List ℕ). drop (length b) t) behind ∙ drop-drop (length b) (place + length a) o ∙ ap (λ (n : ℕ). drop n o) (omega (arith, length-append a b)) in
    ap (λ (t : List ℕ). t ++ b ++ drop ((place + length a) + length b) w) first
    ∙ ap (λ (t : List ℕ). (take place o ++ a) ++ b ++ t) last
    ∙ ap (λ (t : List ℕ). t ++ drop (place + length (a ++ b)) o) (append_assoc (take place o) a b)

pub puts_then : (a b : List ℕ) (old mid new : State) → old.offset ≤ length old.octets → WritesOctets a old mid → WritesOctets b mid new → WritesOctets (a ++ b) old new
puts_then a b old mid new le p q = record {
  octets = q.octets ∙ ap (λ (o : List ℕ). written_at o mid.offset b) p.octets ∙ ap (λ (n : ℕ). written_at (written_at old.octets old.offset a) n b) p.offset ∙ written_then old.octets old.offset a b le;
  offset = omega (arith, p.offset, q.offset, length-append a b);
  candidates = q.candidates ∙ p.candidates;
  places = q.places ∙ p.places;
  modes = modes_then old mid new p.modes q.modes;
}

-- The fields behind the name, written in two steps.
pub signed_written : (tsig : Tsig) (front codes : List ℕ) (old mid new : State) → old.offset ≤ length old.octets → front ≡ octets_48 tsig.time ++ (octets_16 tsig.fudge ++ octets_16 (length tsig.mac.items)) → codes ≡ octets_16 tsig.oid ++ (octets_16 tsig.error ++ octets_16 (length tsig.other.items)) → WritesOctets (front ++ tsig.mac.items) old mid → WritesOctets (codes ++ tsig.other.items) mid new → WritesOctets (signed_octets (signed_of tsig)) old new
signed_written tsig front codes old mid new le is_front is_codes first later =
    let mac = tsig.mac.items in
    let other = tsig.other.items in
    let times : front ++ mac ≡ time_octets tsig.time tsig.fudge mac =
    ap (λ (o : List ℕ). o ++ mac) is_front ∙ append_assoc (octets_48 tsig.time) (octets_16 tsig.fudge ++ octets_16 (length mac)) mac in
    let last : codes ++ other ≡ code_octets tsig.oid tsig.error other = ap (λ (o : List ℕ). o ++ other) is_codes in
    puts_then (time_octets tsig.time tsig.fudge mac) (code_octets tsig.oid tsig.error other) old mid new le
    (subst (λ (o : List ℕ). WritesOctets o old mid) times first) (subst (λ (o : List ℕ). WritesOctets o mid new) last later)

-- What was written of a signature stands there.
pub tsig_stands : (tsig : Tsig) (message : List ℕ) (place end : ℕ) → tsig.algorithm.fqdn ≡ true → IsDomainName tsig.algorithm → FitsTime tsig.time tsig.fudge tsig.mac.items → FitsCodes tsig.oid tsig.error tsig.other.items → end ≡ place + length (tsig_octets tsig) → Stands message place (tsig_octets tsig) end → TsigAt message place (length (tsig_octets tsig)) tsig
tsig_stands tsig message place end full is time codes long there =
    let split = stands_split message place (name_octets tsig.algorithm) (signed_octets (signed_of tsig)) end there in
    record {
      behind = place + length (name_octets tsig.algorithm);
      algorithm = name_stands message place tsig.algorithm (place + length (name_octets tsig.algorithm)) full is split.0;
      signed = record {
        there = subst (λ (p : ℕ). Stands message (place + length (name_octets tsig.algorithm)) (signed_octets (signed_of tsig)) p) long split.1;
        time = time;
        codes = codes;
      };
    }

pub tsig_emitted : (tsig : Tsig) (old mid new : State) → old.offset ≤ length old.octets → IsDomainName tsig.algorithm → tsig.fudge < 2 ^ 16 → length tsig.mac.items < 2 ^ 16 → FitsCodes tsig.oid tsig.error tsig.other.items → new.offset ≤ old.maximum → WritesOctets (name_octets tsig.algorithm) old mid → WritesOctets (signed_octets (signed_of tsig)) mid new → EmitsTsig tsig old new
tsig_emitted tsig old mid new le is fudge mac codes fits front rest =
    let all = puts_then (name_octets tsig.algorithm) (signed_octets (signed_of tsig)) old mid new le front rest in
    record {
      exact = all;
      fits = fits;
      short_mac = mac;
      short_other = codes.2;
      stays = λ sound full small. holds_map new.offset new (λ message. Stands message old.offset (tsig_octets tsig) new.offset) (λ message. TsigAt message old.offset (length (tsig_octets tsig)) tsig)
          (λ message there. tsig_stands tsig message old.offset new.offset full is (small, fudge, mac) codes all.offset there)
          (puts_stands (tsig_octets tsig) old new sound all);
    }

pub on_ok : {T E P Q : Type 0} (r : Result T E) → (P → Q) → OnOk r P → OnOk r Q
on_ok (Ok v) f p = f p
on_ok (Err e) f p = tt

pub on_ok_both : {T E P Q R : Type 0} (r : Result T E) → (P → Q → R) → OnOk r P → OnOk r Q → OnOk r R
on_ok_both (Ok v) f p q = f p q
on_ok_both (Err e) f p q = tt
