-- An empty server is made in memory of the caller.
use Rattle.std.proofs.Common.{◌≡◌, List, [], ◌∷◌, ◌++◌, refl, sym, ap, ◌∙◌}
use base.Fraction.{full_share}
use base.Logic.{SProp, sep, emp, ex, ex_i, id⊢}
use base.Fml.{ftrue}
use mir.Val.{Val, vunit, vptr}
use prog.Wp.{WpFn}
use contract.Monad.{fact, fact_i}
use contract.Running.{tables}
use types.Logic.{sem}
use types.Kit.{‵, raw, ◌⊛◌, some, later, prop, ◌$◌, ◌∵◌, !, qed, by, move, drop, use0, use1, use2, split, join, fsplit, fjoin, feq_i, rewrite, pick, await, regoal}
use types.Run.{enter, of_opd, init, stop, no_more, and_then, assigns, returns, unit_lit}
use types.ByLocal.{alloc_all, pass_all, free_all, look_at, get, through, sets, lands_as}
use borrow.Table.OneValue.{part_in}
use denote.Exit.{yes}
use denote.Laws.{Is, shows}
use denote.Memory.{part_at, lone}
use denote.RattleType.{RattleType, owns}
use denote.RawPtr.{Ptr, RawPtr, room_at, lies_at, in_a_block, rawptr_vals}
use denote.Signature.{plain}
use denote.Steps.{nothing, peeks, heard}
use denote.Triple.Call.{calls_at}
use denote.Triple.Clauses.{lasts, Lasts}
use denote.Triple.Spec.{triple_of}
use denote.Triple.Table.{framed}
use denote.Triple.Walked.{Stays, walk_of, stay_dropped, Goes-dropped}
use Rattle.authority_c.proofs.Border.{one}
use Rattle.std.proofs.raw_atomic.Walks.{proved_at, leaves}
use Rattle.std.specs.contracts.alloc.Global as heap
use Rattle.std.proofs.alloc.Global.TheLaws as heap_laws
use Rattle.authority_handle.specs.contracts.Server as server
use Rattle.authority_handle.proofs.Server.TheLaws as server_laws
use Rattle.authority_handle.specs.Worlds.{new_world, world_in}
use Rattle.authority_handle.specs.contracts.empty as g
use Rattle.authority_handle.proofs.empty.Met.{met}
use Rattle.authority_c.specs.contracts.soarnef_open as f
use Rattle.authority_c.proofs.soarnef_open.Statement.{statement}
use Rattle.authority_c.proofs.soarnef_open.Code as code

abbrev stayed : Stays f.ended.signature.params f.ended.kept
stayed = (stay_dropped _ yes, (stay_dropped _ yes, tt))

pub soarnef_open_spec : {M : Type 1} → statement M
soarnef_open_spec 𝓤 𝓛 𝓜 𝓡 wired =
    let H = 𝓛.H in let 𝓣 = tables 𝓤 H 𝓜 𝓡 𝓡.env in let c = f.clauses 𝓛 𝓜.mem 𝓡.returns in let W = walk_of 𝓛 f.ended stayed c in
    let S : RattleType = server.the_row in let G : RattleType = heap.the_row in let fn = code.function in
    proved_at 𝓛 f.ended stayed c 𝓜 𝓡 (Goes-dropped 𝓛 0 (plain (λ _. G)) yes (λ κs x w. refl), (Goes-dropped 𝓛 0 (plain (λ _. RawPtr)) yes (λ κs x w. refl), tt))
    f.Key.name fn (code.unfolded 𝓤 H 𝓜 𝓡 wired) (λ z are.
    let Post : Val → SProp 𝓤 = W.post z in let p : Ptr = z.0.3.1.0 in let a = z.0.3.0 in
    let Run : List Val → SProp 𝓤 = λ vs. WpFn 𝓤 H 𝓣.C 𝓣.Λ fn vs Post in
    let h = one (lone G.mir) z.0.4.0 ((heap_laws.the_row_laws.lawful 𝓛).typed a z.0.4.0 are.0) in let hv : Val = h.0 in
    qed 𝓛 ((‵ ftrue ⊛ ‵ (owns (G ∷ RawPtr ∷ []) z.0.3 z.0.4)) ∷ ‵ (room_at S p) ∷ []) ∵
    split ! $ drop ! $ fsplit ! $ rewrite ! 0 (λ (us : List Val). ‵ (G.own_val a us)) h.1 refl $ move ! (1 ∷ []) $ drop ! $ move ! (1 ∷ []) $
    in_a_block ! p (λ q. room_at S q) (id⊢ 𝓤 _) (λ b o e.
    regoal ! (λ (us : List Val). prop (Run us)) (λ i. h.1 i ++ ((are.1.0 ∙ ap rawptr_vals e) i ++ [])) refl $
    enter ! 𝓣.C 𝓣.Λ fn (hv ∷ vptr b o ∷ []) Post $ alloc_all ! (λ l. pass_all ! refl (h.2, ((tt, tt), tt)) $
    -- [the room; the allocator]
    -- let at = at as *mut Server;
    sets ! (of_opd ! (get ! refl)) refl (tt, tt) $
    -- empty(alloc)
    let E = triple_of 𝓛 g.signature (g.spec 𝓛 𝓜.mem 𝓡.returns) in
    let y : E.Ghost = ((tt, tt, tt, (a, tt), (hv ∷ [], tt)), tt) in
    move ! (1 ∷ []) $ nothing ! $ move ! (1 ∷ 0 ∷ []) $ fjoin ! $ nothing ! $ join ! $ nothing ! $ move ! (1 ∷ 0 ∷ []) $ join ! $
    use1 𝓛 (raw (E.pre y)) (id⊢ 𝓤 _) $
    calls_at ! (framed 𝓤 H 𝓜 𝓣) E (met 𝓤 𝓛 𝓜 𝓡 (code.calls-authority_handle::empty 𝓡.env wired)) y (and_then ! (get ! refl) (no_more !)) (λ v.
    use1 𝓛 (later (some (λ (r : S.Denot). (‵ ftrue ⊛ ‵ (S.own_val r (v ∷ []))) ⊛ some (λ (ws : Lasts g.ended tt (a, tt)). ‵ (lasts g.ended tt (a, tt) ws) ⊛ raw (fact 𝓤 (world_in r ≡ new_world)))))) (id⊢ 𝓤 _) $
    await ! tt $ pick ! (λ r. split ! $ move ! (1 ∷ []) $ pick ! (λ ws. split ! $ drop ! $
    heard ! (world_in r ≡ new_world) (λ is_new. split ! $ drop ! $
    -- [the server; the room]
    peeks ! S (Is S) (shows 𝓛 S) r (v ∷ []) (λ is. let good = ((server_laws.the_row_laws.lawful 𝓛).typed r (v ∷ []) is).0 in
    lands_as ! refl refl good $
    -- at.write(..)
    assigns ! (of_opd ! (get ! refl)) (through ! refl (stop !)) (init ! 1 refl good) $
    sets ! (of_opd ! (unit_lit !)) refl (tt, tt) $
    returns ! (look_at ! 0 refl) $ free_all ! refl $
    move ! (1 ∷ 0 ∷ []) $ use2 𝓛 (‵ (part_at S full_share r b o)) (part_in 𝓛 S refl full_share r b o v) $
    rewrite ! 0 (λ (q : Ptr). ‵ (lies_at S full_share q r)) (sym e) refl $
    let Opened : S.Denot → SProp 𝓤 = λ s. sep 𝓤 (sem 𝓛 (lies_at S full_share p s)) (fact 𝓤 (world_in s ≡ new_world)) in
    use0 𝓛 (raw (fact 𝓤 (world_in r ≡ new_world))) (fact_i 𝓤 (world_in r ≡ new_world) (emp 𝓤) is_new) $ move ! (1 ∷ 0 ∷ []) $ use2 𝓛 (raw (ex 𝓤 Opened)) (ex_i 𝓤 Opened r) $
    feq_i ! (List Val) (vunit ∷ []) (vunit ∷ []) refl $ nothing ! $ nothing ! $ fjoin ! $ nothing ! $ fjoin ! $ nothing ! $
    by ! (leaves 𝓛 f.ended stayed c z vunit tt (tt, (tt, tt)) (tt, (tt, tt)))))))))))
