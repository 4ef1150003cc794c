use Rattle.std.proofs.Common.{◌≡◌, ℕ, ◌+◌, ◌*◌, ◌/◌, ◌<◌, ◌∷◌, [], ◌++◌, List, length, get_or, Some, slice_get, ap, subst, sym, arith}
use Rattle.dnw_wire.specs.BitMaps.{AreOctets, IsTightMap, Rises, map_types}
use Rattle.dnw_wire.proofs.Windows.{Writing, writing_more, writing_end, first_some, first_none}
use Rattle.dnw_wire.proofs.write.map_octets.Goals as goal

step : (octets codes rest : List ℕ) (first : ℕ) (map behind next : List ℕ) (number : ℕ) → first < 65536 → Writing octets codes rest → Some first ≡ slice_get rest 0 → number ≡ first / 256 → IsTightMap map → rest ≡ map_types (256 * number) map ++ behind → Rises (256 * number + 256) behind 65536 → next ≡ ((octets ++ (first / 256) ∷ []) ++ length map ∷ []) ++ map → Writing next codes behind
step octets codes rest first map behind next number small w found is fine types rises e =
    let there = first_some rest first found in
    let t = subst (λ (n : ℕ). rest ≡ map_types (256 * n) map ++ behind) is types in
    let r = subst (λ (n : ℕ). Rises (256 * n + 256) behind 65536) is rises in
    let same : first / 256 ≡ get_or rest 0 0 / 256 = ap (λ (x : ℕ). x / 256) there.1 in
    subst (λ (o : List ℕ). Writing o codes behind) (sym e) (writing_more octets codes rest (first / 256) map behind w there.0 same (omega (arith, small)) fine t r)

pub windows-preserved : goal.windows-preserved
windows-preserved c =
    step c.windows.octets.items c.args.codes.now c.windows.rest.now c.in-Some.first.now c.in_ok-map.map.items c.in_ok-map.behind.now c.push_window.new.octets.items c.from.result (omega arith) c.windows.invariant c.in-Some.ensures.value c.from.ensures c.in_ok-map.ensures.tight c.in_ok-map.ensures.types c.in_ok-map.ensures.rises (rw c.as_slice.ensures at c.in_ok-push_window.ensures)

pub windows-preserved-in_ok-push_window : goal.windows-preserved-in_ok-push_window
windows-preserved-in_ok-push_window c =
    step c.windows.octets.items c.args.codes.now c.windows.rest.now c.in-Some.first.now c.in_ok-map.map.items c.in_ok-map.behind.now c.push_window.new.octets.items c.from.result (omega arith) c.windows.invariant c.in-Some.ensures.value c.from.ensures c.in_ok-map.ensures.tight c.in_ok-map.ensures.types c.in_ok-map.ensures.rises (rw c.as_slice.ensures at c.in_ok-push_window.ensures)

pub returns : goal.returns
returns c = record {
  maps = writing_end c.windows.octets.items c.args.codes.now c.windows.rest.now c.windows.invariant (first_none c.windows.rest.now (sym c.in_default.ensures.value));
  small = subst AreOctets c.as_slice-2.ensures c.are_octets.ensures;
}
