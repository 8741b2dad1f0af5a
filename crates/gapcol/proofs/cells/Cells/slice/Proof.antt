-- `slice` lends a run of filled places. Assumes `Logic`.
use Rattle.std.proofs.Common.{◌≡◌, ℕ, ◌+◌, ◌*◌, ◌<◌, ◌^◌, List, [], ◌∷◌, ◌++◌, map, length, take, length-take, length-drop, Some, refl, sym, ap, subst, ◌∙◌, w64, arith}
use lib.ListN.{drop as drop_l}
use Rattle.std.proofs.lemmas.List.{length-map}
use mir.Syntax.{Fn}
use mir.MapTy.{inst_fn}
use mir.Val.{Val, vptr, vint}
use base.Fraction.{full_share}
use base.Logic.{SProp, emp, never, id⊢}
use base.Fml.{ftrue, fat, flft}
use prog.Wp.{Env, WpFn}
use contract.BorrowLft.{◌⊑◌}
use contract.Monad.{fact, fact_i}
use contract.Running.{tables}
use types.Kit.{‵, raw, ◌⊛◌, prop, at_ret, ◌$◌, ◌∵◌, !, qed, by, move, keep, drop, use0, use1, split, rewrite, regoal, fsplit, fjoin, feq_i, feq_l, flt_i, flt_l}
use types.Part.{whole, sub, agg}
use types.Run.{stop, fld, bin, size_word, of_opd, and_then, no_more, first, blocks, exec, returns, enter}
use types.ByLocal.{alloc_all, pass_all, free_all, look_at, get, get_in, take_at, give_at, sets, sets_last, is, env}
use denote.Builtin.{usize, RefOf}
use denote.Exit.{yes, no}
use denote.Opens.{hide, unhide}
use denote.Param.{layout}
use denote.RattleType.{RattleType, owns}
use denote.RawPtr.{Ptr, in_a_block}
use denote.Signature.{plain, types_at}
use denote.Slice.{slice_val, elements_shared}
use denote.Steps.{nothing, heard}
use denote.Triple.Walked.{Stays, stay_dropped, walk_of, Goes-dropped}
use Rattle.core.proofs.mem.Param.{El, R, args}
use Rattle.core.proofs.ptr.Rows.{times_below}
use Rattle.core.proofs.slots.Leases.{uncapped}
use Rattle.std_alloc.proofs.RcSteps.{word, word-Good}
use Rattle.std_alloc.proofs.VecSteps.Shapes.{after}
use Rattle.std.proofs.raw_atomic.Walks.{proved_at, leaves}
use Rattle.gapcol.specs.Places.{IsRun}
use Rattle.gapcol.specs.Memory.{cells_lent}
use Rattle.gapcol.proofs.Memory.{sz, run_lent}
use Rattle.gapcol.proofs.Walks.{base_is, reached}
use Rattle.gapcol.specs.contracts.cells.Base as Base
use Rattle.gapcol.specs.contracts.cells.Cells as Cells
use Rattle.gapcol.specs.contracts.cells.Cells.slice.{ended, clauses}
use Rattle.gapcol.specs.contracts.cells.Cells.slice.Key.{name as key}
use Rattle.gapcol.proofs.cells.Cells.slice.Statement.{statement}
use Rattle.gapcol.proofs.cells.Cells.slice.Code as compiled

pub slice_spec : {M : Type 1} → statement M
slice_spec 𝓤 𝓛 𝓜 𝓡 wired T laws =
    let H = 𝓛.H in let 𝓣 = tables 𝓤 H 𝓜 𝓡 𝓡.env in
    let E : El = record { row = T; laws = laws } in
    let fn : Fn = inst_fn (args E) compiled.function in
    let S = ended T in let held = clauses T 𝓛 𝓜.mem 𝓡.returns in
    let C : RattleType = Cells.the_row (R E) in let B : RattleType = Base.the_row (R E) in
    let Self = RefOf (0 ∷ []) tt (plain (λ _. C)) (λ _. tt) in
    let stays : Stays S.signature.params S.kept = (stay_dropped Self yes, (stay_dropped (plain (λ _. B)) no, (stay_dropped (plain (λ _. usize)) yes, (stay_dropped (plain (λ _. usize)) yes, tt)))) in
    proved_at 𝓛 S stays held 𝓜 𝓡
    (Goes-dropped 𝓛 2 Self yes (λ κs x f. refl), (Goes-dropped 𝓛 2 (plain (λ _. B)) no (λ κs x f. refl), (Goes-dropped 𝓛 2 (plain (λ _. usize)) yes (λ κs x f. refl), (Goes-dropped 𝓛 2 (plain (λ _. usize)) yes (λ κs x f. refl), tt))))
    (key (args E)) fn (compiled.unfolded 𝓤 H 𝓜 𝓡 wired (T, tt)) (λ z are.
    let κs = z.0.0 in let qs = z.0.1 in let a = z.0.3 in let vss = z.0.4 in let κ = κs.0 in
    let Post : Val → SProp 𝓤 = (walk_of 𝓛 S stays held).post z in
    let rb = a.0.ref_ptr.0 in let ro = a.0.ref_ptr.1 in let d = a.0.now in let p = a.1.0.ptr in let from = a.1.1.0 in let len = a.1.1.1.0 in
    let fits_from = are.1.1.0.1 in let fits_len = are.1.1.1.0.1 in
    let Asks : Type 0 = (p ≡ d.at) × IsRun d.slots from len in
    qed 𝓛 (((‵ (flft κ qs.0) ⊛ ‵ (flft κs.1.0 qs.1.0) ⊛ ‵ ftrue) ⊛ ‵ (owns (types_at S.signature.params κs) a vss)) ∷ (raw (fact 𝓤 (κs.1.0 ⊑ T.lives)) ⊛ raw (fact 𝓤 Asks)) ∷ []) ∵
    move ! (1 ∷ []) $ split ! $ drop ! $ heard ! Asks (λ asked. split ! $ move ! (1 ∷ []) $ fsplit ! $ fsplit ! $ feq_l ! (λ passed.
    keep ! (0 ∷ 2 ∷ []) $
    regoal ! (λ (us : List Val). prop (WpFn 𝓤 H 𝓣.C 𝓣.Λ fn us Post)) (λ i. passed i ++ (base_is p vss.1.0 are.1.0 i ++ (are.1.1.0.0 i ++ (are.1.1.1.0.0 i ++ [])))) refl $
    enter ! 𝓣.C 𝓣.Λ fn (vptr rb ro ∷ word p ∷ vint w64 from ∷ vint w64 len ∷ []) Post $
    alloc_all ! (λ l. pass_all ! refl ((tt, tt), (word-Good [] p, ((tt, record { fits = fits_from }), ((tt, record { fits = fits_len }), tt)))) $
    let En : Env 𝓤 H = env fn.locals l in
    let xs = asked.1.1.0 in let filled = asked.1.1.1 in let within = asked.1.0 in
    let long : length xs ≡ len = omega (arith, ap length filled, length-map xs Some, length-take len (drop_l from d.slots), length-drop from d.slots) in
    -- [what the places lend, hidden; the tokens]
    unhide ! $ fsplit ! $ drop ! $ in_a_block ! d.at (λ r. cells_lent (R E) r d.slots κ) (id⊢ 𝓤 (never 𝓤)) (λ b o here. fsplit ! $ flt_l ! (λ small.
    let s = sz E in let n = length d.slots in let at = from * s + o in
    let far = reached from n s (omega arith) small in
    take_at ! 2 $ rewrite ! 0 (λ (r : Ptr). ‵ (fat full_share (layout B) (l 2) 0 (word r))) (asked.0 ∙ here) refl $ give_at ! 2 $
    use1 𝓛 (‵ (elements_shared (R E) xs b at κ)) (run_lent E 𝓛 b κ d.slots from len xs o at refl filled) $ hide ! $
    first ! $ blocks ! $
    sets ! (is ! (bin ! (get ! refl) (size_word !) (record { fits = subst (λ (k : ℕ). k < 2 ^ 64) (sym (uncapped from s far)) far })) (ap (vint w64) (uncapped from s far))) refl (tt, record { fits = far }) $
    sets ! (bin ! (get_in ! (fld ! refl (stop !)) (sub ! 0 refl (whole !))) (get ! refl) tt) refl (tt, tt) $
    sets_last ! (agg ! (and_then ! (get ! refl) (and_then ! (get ! refl) (no_more !)))) refl (tt, (tt, (record { fits = fits_len }, tt))) $
    exec ! 𝓣.C 𝓣.Λ En (after 1 fn.body) (at_ret En Post) $ sets ! (of_opd ! (get ! refl)) refl (tt, (tt, (record { fits = fits_len }, tt))) $
    flt_i ! (length xs * s) (2 ^ 63) (times_below (length xs) n s (2 ^ 63) (omega arith) small) $ flt_i ! (length xs) (2 ^ 64) (omega arith) $ fjoin ! $
    feq_i ! (List Val) (slice_val (b, at) len ∷ []) (slice_val (b, at) (length xs) ∷ []) (ap (λ k. slice_val (b, at) k ∷ []) (sym long)) $ fjoin ! $ fjoin ! $
    -- [the slice; the tokens]
    returns ! (look_at ! 0 refl) $ free_all ! refl $
    let Values : Type 0 = take len (drop_l from d.slots) ≡ map Some xs in
    use0 𝓛 (raw (fact 𝓤 Values)) (fact_i 𝓤 Values (emp 𝓤) filled) $
    nothing ! $ nothing ! $ fjoin ! $ nothing ! $ fjoin ! $ nothing ! $ fjoin ! $ nothing ! $ fjoin ! $ move ! (3 ∷ 0 ∷ 2 ∷ 1 ∷ []) $
    by ! (leaves 𝓛 S stays held z (slice_val (b, at) len) (record { ref_ptr = (b, at); now = xs }) (tt, (tt, (tt, (tt, tt)))) (tt, (tt, (tt, (tt, tt)))))))))))
