-- `deallocate` makes bare room of the places, and hands it to the allocator with the leave to free it. Assumes `Logic`.
use Rattle.std.proofs.Common.{◌≡◌, ℕ, ◌*◌, ◌<◌, ◌^◌, List, [], ◌∷◌, ◌++◌, length, refl, sym, ap, subst, ◌∙◌, w64, arith}
use lib.Dec.{T as Holds}
use mir.Syntax.{Fn, ty_unit, ty_array}
use mir.MapTy.{inst_fn}
use mir.Val.{Val, vptr, vint, vunit, has_ty, WT}
use base.Logic.{SProp, never, id⊢}
use base.Fml.{Incl-trans, ftrue, froom, flft}
use prog.Memory.{align, capped}
use prog.Capped.{capped_fits}
use prog.Wp.{Env, WpFn}
use contract.BorrowLft.{◌⊑◌}
use contract.Monad.{fact}
use contract.Running.{tables}
use types.Kit.{‵, raw, ◌⊛◌, given, later, await, learn, prop, at_ret, ◌$◌, ◌∵◌, !, qed, by, move, keep, drop, use1, split, split3, join, group, rewrite, regoal, fsplit, fjoin, feq_i, feq_l, flt_l}
use types.Part.{whole, sub}
use types.Run.{stop, fld, bin, size_word, align_word, unit_lit, of_opd, and_then, no_more, first, blocks, exec, returns, enter}
use types.ByLocal.{alloc_all, pass_all, free_all, look_at, get, get_in, sets, lands_last, is, env}
use denote.Builtin.{usize, RefOf}
use denote.Exit.{yes, no}
use denote.RattleType.{RattleType, owns}
use denote.RawPtr.{Ptr, ptr_val, in_a_block}
use denote.Signature.{plain, types_at}
use denote.Steps.{nothing, heard}
use denote.Triple.Call.{calls_at_last}
use denote.Triple.Table.{framed}
use denote.Triple.Walked.{Stays, stay_dropped, walk_of, Goes-dropped}
use Rattle.core.proofs.alloc.Calls.{Al, token, Gives, at_gives, Gives-goes, Gives-Gives, Goes-blank}
use Rattle.core.proofs.mem.Param.{El, R, elτ}
use Rattle.core.proofs.slots.Leases.{uncapped, block_ty, block_size, block_align, args, P}
use Rattle.std_alloc.proofs.RawLayout.{as_raw}
use Rattle.std_alloc.proofs.RcSteps.{word, word-Good}
use Rattle.std_alloc.proofs.VecSteps.Shapes.{after}
use Rattle.std.proofs.raw_atomic.Walks.{proved_at, leaves}
use Rattle.gapcol.specs.Memory.{cells_owned, deed_owned}
use Rattle.gapcol.proofs.Memory.{sz, freed_places}
use Rattle.gapcol.proofs.Walks.{mark, base_is, mark_is}
use Rattle.gapcol.specs.contracts.cells.Base as Base
use Rattle.gapcol.specs.contracts.cells.Cells as Cells
use Rattle.gapcol.specs.contracts.cells.Deed as Deed
use Rattle.gapcol.specs.contracts.cells.deallocate.{ended, clauses}
use Rattle.gapcol.specs.contracts.cells.deallocate.Key.{name as key}
use Rattle.gapcol.proofs.cells.deallocate.Statement.{statement}
use Rattle.gapcol.proofs.cells.deallocate.Code as compiled

pub deallocate_spec : {M : Type 1} → statement M
deallocate_spec 𝓤 𝓛 𝓜 𝓡 wired T A laws freeing g d dd met md =
    let H = 𝓛.H in let 𝓣 = tables 𝓤 H 𝓜 𝓡 𝓡.env in
    let E : El = record { row = T; laws = laws } in
    let Z : Al = record { row = A; laws = freeing; g = g; d = d; drops = dd } in
    let fn : Fn = inst_fn (args E Z) compiled.function in
    let S = ended T A g d dd in let held = clauses T A g d dd 𝓛 𝓜.mem 𝓡.returns in
    let C : RattleType = Cells.the_row (R E) in let B : RattleType = Base.the_row (R E) in let D : RattleType = Deed.the_row (R E) (P E Z) g in
    let Handle = RefOf (0 ∷ []) tt (plain (λ _. P E Z)) (λ _. tt) in
    let stays : Stays S.signature.params S.kept = (stay_dropped Handle yes, (stay_dropped (plain (λ _. B)) no, (stay_dropped (plain (λ _. usize)) yes, (stay_dropped (plain (λ _. C)) no, (stay_dropped (plain (λ _. D)) no, tt))))) in
    proved_at 𝓛 S stays held 𝓜 𝓡
    (Goes-dropped 𝓛 3 Handle yes (λ κs x f. refl), (Goes-dropped 𝓛 3 (plain (λ _. B)) no (λ κs x f. refl), (Goes-dropped 𝓛 3 (plain (λ _. usize)) yes (λ κs x f. refl), (Goes-blank 𝓛 3 (plain (λ _. C)) no (λ κs x f. tt), (Goes-blank 𝓛 3 (plain (λ _. D)) no (λ κs x f. tt), tt)))))
    (key (args E Z)) fn (compiled.unfolded 𝓤 H 𝓜 𝓡 wired (T, (A, tt)) d dd) (λ z are.
    let κs = z.0.0 in let qs = z.0.1 in let a = z.0.3 in let vss = z.0.4 in let κ = κs.0 in let q = qs.0 in
    let Post : Val → SProp 𝓤 = (walk_of 𝓛 S stays held).post z in
    let rb = a.0.ref_ptr.0 in let ro = a.0.ref_ptr.1 in let alloc = a.0.now in let p = a.1.0.ptr in let len = a.1.1.0 in let cells = a.1.1.1.0 in let deed = a.1.1.1.1.0 in
    let fits = are.1.1.0.1 in
    let Inner : Type 0 = κs.1.1.0 ⊑ A.lives in
    let Asks : Type 0 = (cells.at ≡ p) × (length cells.slots ≡ len) × (deed.at ≡ p) × (deed.len ≡ len) × (deed.alloc ≡ alloc) in
    qed 𝓛 (((‵ (flft κ q) ⊛ ‵ (flft κs.1.0 qs.1.0) ⊛ ‵ (flft κs.1.1.0 qs.1.1.0) ⊛ ‵ ftrue) ⊛ ‵ (owns (types_at S.signature.params κs) a vss))
    ∷ (raw (fact 𝓤 (κs.1.0 ⊑ T.lives)) ⊛ raw (fact 𝓤 Inner) ⊛ raw (fact 𝓤 Asks)) ∷ []) ∵
    move ! (1 ∷ []) $ split3 ! $ drop ! $ heard ! Inner (λ inner. heard ! Asks (λ asked. split ! $ split ! $ move ! (2 ∷ []) $ fsplit ! $ fsplit ! $ feq_l ! (λ passed.
    move ! (1 ∷ []) $ fsplit ! $ drop ! $ fsplit ! $ drop ! $ fsplit ! $ fsplit ! $ drop ! $ move ! (1 ∷ []) $ fsplit ! $ fsplit ! $ drop ! $ keep ! (2 ∷ 0 ∷ 3 ∷ 4 ∷ 5 ∷ []) $
    regoal ! (λ (us : List Val). prop (WpFn 𝓤 H 𝓣.C 𝓣.Λ fn us Post))
    (λ i. passed i ++ (base_is p vss.1.0 are.1.0 i ++ (are.1.1.0.0 i ++ (mark_is vss.1.1.1.0 are.1.1.1.0.0 i ++ (mark_is vss.1.1.1.1.0 are.1.1.1.1.0.0 i ++ []))))) refl $
    enter ! 𝓣.C 𝓣.Λ fn (vptr rb ro ∷ word p ∷ vint w64 len ∷ mark ∷ mark ∷ []) Post $
    alloc_all ! (λ l. pass_all ! refl ((tt, tt), (word-Good [] p, ((tt, record { fits = fits }), ((tt, (tt, tt)), ((tt, (tt, tt)), tt))))) $
    let En : Env 𝓤 H = env fn.locals l in
    -- [the places; the leave to free them; the allocator, lent; the lifetime's token; the other tokens]
    rewrite ! 0 (λ (r : Ptr). ‵ (cells_owned (R E) r cells.slots)) asked.0 refl $
    in_a_block ! p (λ r. cells_owned (R E) r cells.slots) (id⊢ 𝓤 (never 𝓤)) (λ b o here. fsplit ! $ flt_l ! (λ near.
    let s = sz E in let al : ℕ = capped (align (elτ E)) in
    let small : len * s < 2 ^ 63 = subst (λ (k : ℕ). k * s < 2 ^ 63) asked.1 near in let bytes : len * s < 2 ^ 64 = omega arith in
    let y : (Gives Z 𝓛 𝓜.mem 𝓡.returns).Ghost = at_gives Z 𝓛 𝓜.mem 𝓡.returns κ q (rb, ro) alloc b o (len * s) al (block_ty E len) in
    rewrite ! 1 (λ (u : A.Denot × Ptr × ℕ). ‵ (deed_owned (R E) (token Z u.0) u.1 u.2)) (λ i. (asked.4 i, (asked.2 ∙ here) i, asked.3 i)) refl $
    use1 𝓛 (‵ (froom (ty_array (elτ E) (length cells.slots)) b o)) (freed_places E 𝓛 b cells.slots o) $
    rewrite ! 0 (λ (k : ℕ). ‵ (froom (ty_array (elτ E) k) b o)) asked.1 refl $ as_raw ! (ty_array (elτ E) len) b o $
    sets ! (is ! (of_opd ! (get_in ! (fld ! refl (stop !)) (sub ! 0 refl (whole !)))) (ap ptr_val here)) refl (tt, tt) $
    sets ! (is ! (bin ! (get ! refl) (size_word !) (record { fits = subst (λ (k : ℕ). k < 2 ^ 64) (sym (uncapped len s bytes)) bytes })) (ap (vint w64) (uncapped len s bytes))) refl (tt, record { fits = bytes }) $
    first ! $ blocks ! $ sets ! (of_opd ! (get ! refl)) refl (tt, tt) $
    group ! 4 $ use1 𝓛 (raw ((Gives Z 𝓛 𝓜.mem 𝓡.returns).pre y))
    (Gives-goes Z 𝓛 𝓜.mem 𝓡.returns κ q (rb, ro) alloc (Incl-trans z.0.2.0 inner) b o (len * s) al (block_ty E len) (block_size E len bytes) (block_align E len) bytes (capped_fits (align (elτ E)))) $
    calls_at_last ! (framed 𝓤 H 𝓜 𝓣) (Gives Z 𝓛 𝓜.mem 𝓡.returns) (met.deallocate dd) y (and_then ! (get ! refl) (and_then ! (get ! refl) (and_then ! (get ! refl) (and_then ! (align_word !) (no_more !))))) (λ v.
    use1 𝓛 (later (given (v ≡ vunit) (‵ (flft κ q)))) (Gives-Gives Z 𝓛 𝓜.mem 𝓡.returns κ q (rb, ro) alloc b o (len * s) al (block_ty E len) v) $ await ! tt $ learn ! (λ gone.
    lands_last ! refl (subst (λ (u : Val). Holds (has_ty ty_unit u) × WT u) (sym gone) (tt, tt)) $
    exec ! 𝓣.C 𝓣.Λ En (after 3 fn.body) (at_ret En Post) $ sets ! (of_opd ! (unit_lit !)) refl (tt, tt) $
    returns ! (look_at ! 0 refl) $ free_all ! refl $
    -- [the lifetime's token; the other tokens]
    join ! $ nothing ! $ feq_i ! (List Val) (vunit ∷ []) (vunit ∷ []) refl $
    nothing ! $ nothing ! $ fjoin ! $ nothing ! $ fjoin ! $ nothing ! $ fjoin ! $ nothing ! $ fjoin ! $ nothing ! $ fjoin ! $ move ! (3 ∷ 0 ∷ 1 ∷ 2 ∷ []) $
    by ! (leaves 𝓛 S stays held z vunit tt (tt, (tt, (tt, (tt, (tt, tt))))) (tt, (tt, (tt, (tt, (tt, tt)))))))))))))))
