-- The server of the caller is borrowed by `remove`, and returned as that left it.
use Rattle.std.proofs.Common.{ℕ, List, [], ◌∷◌, ◌++◌, length, refl, sym, ap, w64}
use base.Fraction.{full_share}
use base.Logic.{SProp, sep, emp, ex, ex_i, id⊢}
use types.Logic.{sem}
use base.Fml.{flft, flent}
use mir.Syntax.{named}
use mir.Val.{Val, vptr}
use prog.Wp.{WpFn}
use contract.Monad.{fact, fact_i}
use contract.Running.{tables}
use types.Kit.{‵, raw, ◌⊛◌, some, later, prop, ◌$◌, ◌∵◌, !, qed, by, move, drop, use0, use1, use2, use3, split, join, fsplit, fjoin, rewrite, pick, await, regoal}
use types.Tokens.{lft_new, lft_end}
use types.Run.{enter, of_opd, addr, stop, no_more, and_then, returns}
use types.ByLocal.{alloc_all, pass_all, free_all, look_at, get, through, sets, lands_as}
use types.SemTy.{Body}
use denote.Builtin.{u8, i64, SliceRefOf}
use denote.Exit.{yes}
use denote.Laws.{Is, shows}
use denote.Lend.{lends_ref, ref_back}
use denote.Memory.{mem, part_at}
use denote.RattleType.{RattleType, owns}
use denote.RawPtr.{Ptr, RawPtr, lies_at, in_a_block, rawptr_vals, rawptr_Tells}
use denote.Ref.{MutRef}
use denote.Signature.{plain, types_at}
use denote.Signed.{sint_Lawful}
use denote.Slice.{slice_val, shr_slice_vals, shr_slice_Tells}
use denote.Steps.{nothing, peeks, heard}
use denote.Triple.Call.{calls_at}
use denote.Triple.Clauses.{lasts, Lasts}
use denote.Triple.Entry.{alive}
use denote.Triple.Spec.{triple_of}
use denote.Triple.Table.{framed}
use denote.Triple.Walked.{Stays, walk_of, stay_dropped, Goes-dropped}
use Rattle.std.proofs.raw_atomic.Walks.{proved, leaves}
use Rattle.authority_handle.specs.Calls.{Removes}
use Rattle.authority_handle.specs.Worlds.{world_in}
use Rattle.authority_handle.specs.contracts.Server as server
use Rattle.authority_handle.specs.contracts.remove as g
use Rattle.authority_handle.proofs.remove.Met.{met}
use Rattle.authority_c.specs.contracts.soarnef_remove as f
use Rattle.authority_c.proofs.soarnef_remove.Statement.{statement}
use Rattle.authority_c.proofs.soarnef_remove.Code as code

abbrev stayed : Stays f.ended.signature.params f.ended.kept
stayed = (stay_dropped _ yes, (stay_dropped _ yes, tt))

-- The machine values of the parameters after the pointer.
abbrev One : Type 0
One = List Val × Unit {0}

pub soarnef_remove_spec : {M : Type 1} → statement M
soarnef_remove_spec 𝓤 𝓛 𝓜 𝓡 wired =
    let H = 𝓛.H in let 𝓣 = tables 𝓤 H 𝓜 𝓡 𝓡.env in let c = f.clauses 𝓛 𝓜.mem 𝓡.returns in let W = walk_of 𝓛 f.ended stayed c in
    let S : RattleType = server.the_row in let fn = code.function in
    proved 𝓛 f.ended stayed c 𝓜 𝓡
    (Goes-dropped 𝓛 1 (plain (λ _. RawPtr)) yes (λ κs x w. refl), (Goes-dropped 𝓛 1 (SliceRefOf (0 ∷ []) tt (plain (λ _. u8)) (λ _. tt)) yes (λ κs x w. refl), tt))
    f.Key.name fn (code.unfolded 𝓤 H 𝓜 𝓡 wired)
    (λ κs. (rawptr_vals, (shr_slice_vals, tt)))
    (λ κs. (rawptr_Tells, (shr_slice_Tells (named 0) κs.0 u8, tt)))
    (λ κs qs bounds a held are.
    let p : Ptr = a.0 in let name = a.1.0 in
    let rest : One = (shr_slice_vals name, tt) in
    let tail : List Val = slice_val name.ref_ptr (length name.now) ∷ [] in
    let z : W.Ghost = ((κs, qs, bounds, a, (rawptr_vals p, rest)), held) in
    let Post : Val → SProp 𝓤 = W.post z in
    let Run : List Val → SProp 𝓤 = λ vs. WpFn 𝓤 H 𝓣.C 𝓣.Λ fn vs Post in
    qed 𝓛 ((raw (alive 𝓛 f.ended.signature κs qs) ⊛ ‵ (owns (types_at f.ended.signature.params κs) a (rawptr_vals p, rest))) ∷ ‵ (lies_at S full_share p held) ∷ []) ∵
    split ! $ move ! (1 ∷ []) $ fsplit ! $ drop ! $ move ! (2 ∷ []) $
    -- [the server; what the other parameters own; the tokens]
    in_a_block ! p (λ q. lies_at S full_share q held) (id⊢ 𝓤 _) (λ b o e.
    regoal ! (λ (us : List Val). prop (Run us)) (λ i. ap rawptr_vals e i ++ tail) refl $
    enter ! 𝓣.C 𝓣.Λ fn (vptr b o ∷ tail) Post $
    alloc_all ! (λ l. pass_all ! refl ((tt, tt), ((tt, (tt, (record { fits = are.1.0.0.1.0 }, tt))), tt)) $
    -- let at = at as *mut Server;
    sets ! (of_opd ! (get ! refl)) refl (tt, tt) $
    -- &mut *at
    sets ! (addr ! (through ! refl (stop !))) refl (tt, tt) $
    -- the server is lent for α
    lft_new ! tt (λ α. move ! (1 ∷ []) $
    use1 𝓛 (later (some (λ (γ : ℕ). ‵ ((MutRef (named 0) (α ∷ []) S).own_val (record { ref_ptr = (b, o); ghost_name = γ; now = held }) (vptr b o ∷ [])) ⊛ ‵ (flent (α ∷ []) (Body (mem S) b o γ))))) (lends_ref 𝓛 S (named 0) (α ∷ []) held b o) $ await ! tt $ pick ! (λ γ. split ! $
    -- [the loan; what the lender keeps; the token of α; the other parameters; their tokens]
    move ! (0 ∷ 3 ∷ 2 ∷ 4 ∷ []) $ fjoin ! $ move ! (1 ∷ 2 ∷ []) $ join ! $ join ! $ nothing ! $ move ! (1 ∷ 0 ∷ []) $ join ! $
    let G = triple_of 𝓛 g.signature (g.spec 𝓛 𝓜.mem 𝓡.returns) in
    let y : G.Ghost = (((α ∷ [], κs), (full_share, qs), tt, (record { ref_ptr = (b, o); ghost_name = γ; now = held }, a.1), (vptr b o ∷ [], rest)), tt) in
    use1 𝓛 (raw (G.pre y)) (id⊢ 𝓤 _) $
    calls_at ! (framed 𝓤 H 𝓜 𝓣) G (met 𝓤 𝓛 𝓜 𝓡 (code.calls-authority_handle::remove 𝓡.env wired)) y
    (and_then ! (get ! refl) (and_then ! (get ! refl) (no_more !))) (λ v.
    use1 𝓛 (later (some (λ (r : i64.Denot). ((‵ (flft (α ∷ []) full_share) ⊛ raw (alive 𝓛 f.ended.signature κs qs)) ⊛ ‵ (i64.own_val r (v ∷ []))) ⊛
    some (λ (ws : Lasts g.ended y.0.0 y.0.3). ‵ (lasts g.ended y.0.0 y.0.3 ws) ⊛ raw (fact 𝓤 (Removes (world_in held) name.now r (world_in ws.0))))))) (id⊢ 𝓤 _) $
    await ! tt $ pick ! (λ r. split ! $ move ! (1 ∷ []) $ pick ! (λ ws. split ! $ move ! (1 ∷ []) $ heard ! _ (λ changed.
    fsplit ! $ fsplit ! $ move ! (3 ∷ []) $ split ! $ split ! $ lft_end ! tt $
    -- [α is over; the tokens; the result; the loan's last value; its borrow; what is said of the others; what the lender keeps]
    move ! (0 ∷ 6 ∷ 3 ∷ []) $
    use3 𝓛 (later (‵ (part_at S full_share ws.0 b o))) (ref_back 𝓛 S (α ∷ []) γ ws.0 b o) $ await ! tt $
    -- [the server; the tokens; the result; the loan's borrow; what is said of the others]
    move ! (3 ∷ []) $ drop ! $ move ! (3 ∷ []) $ fsplit ! $ drop ! $ nothing ! $ fjoin ! $ nothing ! $ fjoin ! $
    -- [what is left of the parameters; the server; the tokens; the result]
    move ! (3 ∷ []) $ peeks ! i64 (Is i64) (shows 𝓛 i64) r (v ∷ []) (λ is.
    lands_as ! refl refl ((sint_Lawful 𝓛 w64).typed r (v ∷ []) is).0 $
    returns ! (look_at ! 0 refl) $ free_all ! refl $
    move ! (2 ∷ []) $ rewrite ! 0 (λ (q : Ptr). ‵ (lies_at S full_share q ws.0)) (sym e) refl $
    let Told : S.Denot → Type 0 = λ server. Removes (world_in held) name.now r (world_in server) in
    let Left : S.Denot → SProp 𝓤 = λ server. sep 𝓤 (sem 𝓛 (lies_at S full_share p server)) (fact 𝓤 (Told server)) in
    use0 𝓛 (raw (fact 𝓤 (Told ws.0))) (fact_i 𝓤 (Told ws.0) (emp 𝓤) changed) $ move ! (1 ∷ 0 ∷ []) $ use2 𝓛 (raw (ex 𝓤 Left)) (ex_i 𝓤 Left ws.0) $
    -- [the ensures; the result; what is left of the parameters; the tokens]
    move ! (3 ∷ 2 ∷ 1 ∷ 0 ∷ []) $
    by ! (leaves 𝓛 f.ended stayed c z v r (tt, (tt, tt)) (tt, (tt, tt)))))))))))))
