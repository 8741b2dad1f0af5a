-- `read` takes the filled place out of the row, moves its value out, and puts it back empty. Assumes `Logic`.
use Rattle.std.proofs.Common.{◌≡◌, ℕ, ◌+◌, ◌*◌, ◌<◌, ◌^◌, List, [], ◌∷◌, ◌++◌, length, set, get_or, length-set, Some, None, refl, sym, subst, ◌∙◌, w64, arith}
use mir.Syntax.{Fn}
use mir.MapTy.{inst_fn}
use mir.Val.{Val, vptr, vint}
use base.Fraction.{full_share}
use base.Logic.{SProp, emp, never, id⊢, apply∗}
use base.Fml.{ftrue, fat, froom, flft}
use prog.Wp.{Env, WpFn}
use contract.BorrowLft.{◌⊑◌}
use contract.Monad.{fact, fact_i}
use contract.Running.{tables}
use types.Logic.{sem}
use types.Kit.{‵, raw, ◌⊛◌, some, prop, at_ret, ◌$◌, ◌∵◌, !, qed, by, move, drop, use0, use1, use2, split, join, pick, rewrite, regoal, fsplit, fsplit3, fjoin, fjoin3, feq_i, feq_l, flt_i, flt_l}
use types.Part.{whole, sub}
use types.Run.{look, load, stop, fld, bin, size_lit, of_opd, first, blocks, exec, returns, enter}
use types.ByLocal.{alloc_all, pass_all, free_all, look_at, get, get_in, through, take_at, give_at, sets, sets_last, env}
use denote.Builtin.{usize}
use denote.Exit.{yes, no}
use denote.Laws.{Is, shows}
use denote.Param.{layout}
use denote.Param.Laws.{param_laws}
use denote.RattleType.{RattleType, owns}
use denote.RawPtr.{Ptr, in_a_block}
use denote.Signature.{plain, types_at}
use denote.Steps.{nothing, heard, opens, closes, peeks}
use denote.Triple.Walked.{Stays, stay_dropped, stay_ref, walk_of, Goes-dropped, Goes-ref}
use borrow.Table.OneValue.{part_out}
use Rattle.core.proofs.mem.Param.{El, R, args, elτ}
use Rattle.std_alloc.proofs.RawLayout.{as_raw}
use Rattle.std_alloc.proofs.RcSteps.{word, word-Good}
use Rattle.std_alloc.proofs.VecSteps.Shapes.{after}
use Rattle.std.proofs.raw_atomic.Walks.{proved_at, leaves}
use Rattle.gapcol.specs.Places.{IsFilled}
use Rattle.gapcol.specs.Memory.{place_owned, places_owned, cells_owned}
use Rattle.gapcol.proofs.Memory.{sz, Place, Returns, taken_out, filled_within}
use Rattle.gapcol.proofs.Walks.{base_is, reached, one_sized}
use Rattle.gapcol.specs.contracts.cells.Base as Base
use Rattle.gapcol.specs.contracts.cells.Cells as Cells
use Rattle.gapcol.specs.contracts.cells.Cells.read.{ended, clauses}
use Rattle.gapcol.specs.contracts.cells.Cells.read.Key.{name as key}
use Rattle.gapcol.proofs.cells.Cells.read.Statement.{statement}
use Rattle.gapcol.proofs.cells.Cells.read.Code as compiled

pub read_spec : {M : Type 1} → statement M
read_spec 𝓤 𝓛 𝓜 𝓡 wired T laws =
    let H = 𝓛.H in let 𝓣 = tables 𝓤 H 𝓜 𝓡 𝓡.env in
    let E : El = record { row = T; laws = laws } in
    let fn : Fn = inst_fn (args E) compiled.function in
    let S = ended T in let held = clauses T 𝓛 𝓜.mem 𝓡.returns in
    let C : RattleType = Cells.the_row (R E) in let B : RattleType = Base.the_row (R E) in
    let stays : Stays S.signature.params S.kept = (stay_ref (0 ∷ []) tt (plain (λ _. C)), (stay_dropped (plain (λ _. B)) no, (stay_dropped (plain (λ _. usize)) yes, tt))) in
    proved_at 𝓛 S stays held 𝓜 𝓡
    (Goes-ref 𝓛 2 0 tt (plain (λ _. C)), (Goes-dropped 𝓛 2 (plain (λ _. B)) no (λ κs x f. refl), (Goes-dropped 𝓛 2 (plain (λ _. usize)) yes (λ κs x f. refl), tt)))
    (key (args E)) fn (compiled.unfolded 𝓤 H 𝓜 𝓡 wired (T, tt)) (λ z are.
    let κs = z.0.0 in let qs = z.0.1 in let a = z.0.3 in let vss = z.0.4 in
    let Post : Val → SProp 𝓤 = (walk_of 𝓛 S stays held).post z in
    let rb = a.0.ref_ptr.0 in let ro = a.0.ref_ptr.1 in let d = a.0.now in let p = a.1.0.ptr in let index = a.1.1.0 in
    let fits = are.1.1.0.1 in
    let Asks : Type 0 = (p ≡ d.at) × IsFilled d.slots index in
    let new : C.Denot = record d { slots = set d.slots index None } in
    qed 𝓛 (((‵ (flft κs.0 qs.0) ⊛ ‵ (flft κs.1.0 qs.1.0) ⊛ ‵ ftrue) ⊛ ‵ (owns (types_at S.signature.params κs) a vss)) ∷ (raw (fact 𝓤 (κs.1.0 ⊑ T.lives)) ⊛ raw (fact 𝓤 Asks)) ∷ []) ∵
    move ! (1 ∷ []) $ split ! $ drop ! $ heard ! Asks (λ asked. split ! $ split ! $ move ! (2 ∷ []) $ fsplit ! $ fsplit3 ! $ feq_l ! (λ passed.
    move ! (2 ∷ []) $ drop ! $ move ! (0 ∷ 1 ∷ 2 ∷ 3 ∷ []) $
    regoal ! (λ (us : List Val). prop (WpFn 𝓤 H 𝓣.C 𝓣.Λ fn us Post)) (λ i. passed i ++ (base_is p vss.1.0 are.1.0 i ++ (are.1.1.0.0 i ++ []))) refl $
    enter ! 𝓣.C 𝓣.Λ fn (vptr rb ro ∷ word p ∷ vint w64 index ∷ []) Post $
    alloc_all ! (λ l. pass_all ! refl ((tt, tt), (word-Good [] p, ((tt, record { fits = fits }), tt))) $
    let En : Env 𝓤 H = env fn.locals l in
    -- [two parts of self; the lifetime's token; the other tokens]
    opens ! tt C {h = d} rb ro (λ us. move ! (1 ∷ []) $ fsplit ! $ move ! (1 ∷ []) $
    in_a_block ! d.at (λ r. cells_owned (R E) r d.slots) (id⊢ 𝓤 (never 𝓤)) (λ b o here. fsplit ! $ flt_l ! (λ small.
    let s = sz E in let n = length d.slots in let at = index * s + o in
    let x = asked.1.0 in let within = filled_within d.slots index x asked.1.1 in
    let far = reached index n s (omega arith) small in let sized = one_sized index n s within small in
    take_at ! 2 $ rewrite ! 0 (λ (r : Ptr). ‵ (fat full_share (layout B) (l 2) 0 (word r))) (asked.0 ∙ here) refl $ give_at ! 2 $
    use1 𝓛 (‵ (place_owned (R E) b at (get_or d.slots index None)) ⊛ raw (Returns E 𝓛 b o at d.slots index None)) (taken_out E 𝓛 b d.slots index o at None within refl) $ split ! $
    rewrite ! 0 (λ (c : Place E). ‵ (place_owned (R E) b at c)) asked.1.1 refl $
    use1 𝓛 (some (λ (v : Val). ‵ (fat full_share (elτ E) b at v) ⊛ ‵ ((R E).own_val x (v ∷ [])))) (part_out 𝓛 (R E) refl full_share x b at) $ pick ! (λ v. split ! $
    move ! (1 ∷ []) $ peeks ! (R E) (Is (R E)) (shows 𝓛 (R E)) x (v ∷ []) (λ is.
    let good = (((param_laws 0 T laws).lawful 𝓛).typed x (v ∷ []) is).0 in
    move ! (1 ∷ []) $
    -- [the value in its place; what it owns; the way back; the fields; the cell of self; three parts of the open borrow; the tokens]
    first ! $ blocks ! $
    sets ! (bin ! (get ! refl) (size_lit ! (record { fits = sized })) (record { fits = far })) refl (tt, record { fits = far }) $
    sets ! (bin ! (get_in ! (fld ! refl (stop !)) (sub ! 0 refl (whole !))) (get ! refl) tt) refl (tt, tt) $
    sets_last ! (of_opd ! (load ! (through ! refl (stop !)) (look ! 0 refl))) refl good $
    exec ! 𝓣.C 𝓣.Λ En (after 1 fn.body) (at_ret En Post) $ sets ! (of_opd ! (get ! refl)) refl good $
    use1 𝓛 (‵ (froom (elτ E) b at)) (𝓛.laws.at_room (elτ E) b at v) $ as_raw ! (elτ E) b at $ move ! (0 ∷ 2 ∷ []) $
    use2 𝓛 (‵ (places_owned (R E) b o new.slots)) (apply∗ 𝓤 (sem 𝓛 (place_owned (R E) b at None)) (sem 𝓛 (places_owned (R E) b o new.slots))) $
    flt_i ! (length new.slots * s) (2 ^ 63) (subst (λ (k : ℕ). k * s < 2 ^ 63) (sym (length-set d.slots index None)) small) $ fjoin ! $
    rewrite ! 0 (λ (r : Ptr). ‵ (cells_owned (R E) r new.slots)) (sym here) refl $ move ! (2 ∷ 0 ∷ []) $ fjoin ! $ move ! (2 ∷ 0 ∷ 3 ∷ 4 ∷ 5 ∷ []) $ closes ! tt C new us rb ro $
    -- [two parts of self; the lifetime's token; what the value owns; the other tokens]
    returns ! (look_at ! 0 refl) $ free_all ! refl $
    move ! (2 ∷ 4 ∷ []) $ join ! $ move ! (1 ∷ 2 ∷ []) $ feq_i ! (List Val) vss.0 (vptr rb ro ∷ []) passed $ fjoin3 ! $
    let Value : Type 0 = get_or d.slots index None ≡ Some x in let Slots : Type 0 = (new.at ≡ d.at) × (new.slots ≡ set d.slots index None) in
    use0 𝓛 (raw (fact 𝓤 Slots)) (fact_i 𝓤 Slots (emp 𝓤) (refl, refl)) $ use0 𝓛 (raw (fact 𝓤 Value)) (fact_i 𝓤 Value (emp 𝓤) asked.1.1) $ join ! $
    nothing ! $ nothing ! $ fjoin ! $ nothing ! $ fjoin ! $ move ! (2 ∷ 0 ∷ []) $ fjoin ! $ move ! (2 ∷ 0 ∷ 3 ∷ 1 ∷ []) $
    by ! (leaves 𝓛 S stays held z v x (new, (tt, (tt, tt))) (tt, (tt, (tt, tt)))))))))))))
