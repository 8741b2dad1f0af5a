-- `nowhere` takes the address of a local, and places of no bytes there. Assumes `Logic`.
use Rattle.std.proofs.Common.{◌≡◌, ℕ, ◌*◌, ◌<◌, ◌^◌, List, [], ◌∷◌, ◌++◌, length, replicate, None, refl, sym, subst, w64, lit<, arith}
use Rattle.std.proofs.lemmas.List.{length-replicate}
use mir.Syntax.{Fn}
use mir.MapTy.{inst_fn}
use mir.Val.{Val, vint, vstruct, vcons, vnil}
use base.Logic.{SProp, emp}
use base.Fml.{ftrue, flft}
use prog.Wp.{WpFn}
use contract.BorrowLft.{◌⊑◌}
use contract.Monad.{fact, fact_i}
use contract.Running.{tables}
use types.Kit.{‵, raw, ◌⊛◌, prop, ◌$◌, ◌∵◌, !, qed, by, move, drop, use0, split, regoal, fjoin, flt_i}
use types.Part.{agg}
use types.Run.{stop, from, addr, lit, of_opd, and_then, no_more, returns, enter}
use types.ByLocal.{alloc_all, pass_all, free_all, look_at, get, sets}
use denote.Builtin.{usize}
use denote.Exit.{yes}
use denote.RattleType.{RattleType, owns}
use denote.RawPtr.{Ptr, block_ptr}
use denote.Signature.{plain, types_at}
use denote.Steps.{nothing, heard}
use denote.Struct.Declared.{shape}
use denote.Struct.Tuple.{tuple_type}
use denote.Triple.Walked.{Stays, stay_dropped, walk_of, Goes-dropped}
use Rattle.core.proofs.mem.Param.{El, R, args}
use Rattle.std_alloc.proofs.RcSteps.{word, word-Good}
use Rattle.std.proofs.raw_atomic.Walks.{proved_at, leaves}
use Rattle.gapcol.specs.Memory.{places_owned}
use Rattle.gapcol.proofs.Memory.{sz, placed_nowhere}
use Rattle.gapcol.proofs.Walks.{Mark, mark, mark_made, base_made, struct_made}
use Rattle.gapcol.specs.contracts.cells.Base as Base
use Rattle.gapcol.specs.contracts.cells.Cells as Cells
use Rattle.gapcol.specs.contracts.cells.nowhere.{ended, clauses}
use Rattle.gapcol.specs.contracts.cells.nowhere.Key.{name as key}
use Rattle.gapcol.proofs.cells.nowhere.Statement.{statement}
use Rattle.gapcol.proofs.cells.nowhere.Code as compiled

pub nowhere_spec : {M : Type 1} → statement M
nowhere_spec 𝓤 𝓛 𝓜 𝓡 wired T laws =
    let H = 𝓛.H in let 𝓣 = tables 𝓤 H 𝓜 𝓡 𝓡.env in
    let E : El = record { row = T; laws = laws } in
    let fn : Fn = inst_fn (args E) compiled.function in
    let S = ended T in let held = clauses T 𝓛 𝓜.mem 𝓡.returns in
    let C : RattleType = Cells.the_row (R E) in let B : RattleType = Base.the_row (R E) in
    let stays : Stays S.signature.params S.kept = (stay_dropped (plain (λ _. usize)) yes, tt) in
    proved_at 𝓛 S stays held 𝓜 𝓡 (Goes-dropped 𝓛 1 (plain (λ _. usize)) yes (λ κs x f. refl), tt)
    (key (args E)) fn (compiled.unfolded 𝓤 H 𝓜 𝓡 wired (T, tt)) (λ z are.
    let κs = z.0.0 in let qs = z.0.1 in let a = z.0.3 in let vss = z.0.4 in
    let Post : Val → SProp 𝓤 = (walk_of 𝓛 S stays held).post z in
    let len = a.0 in let s = sz E in
    let Asks : Type 0 = len * s ≡ 0 in
    qed 𝓛 (((‵ (flft κs.0 qs.0) ⊛ ‵ ftrue) ⊛ ‵ (owns (types_at S.signature.params κs) a vss)) ∷ (raw (fact 𝓤 (κs.0 ⊑ T.lives)) ⊛ raw (fact 𝓤 Asks)) ∷ []) ∵
    move ! (1 ∷ []) $ split ! $ drop ! $ heard ! Asks (λ none. split ! $ move ! (1 ∷ []) $ drop ! $
    regoal ! (λ (us : List Val). prop (WpFn 𝓤 H 𝓣.C 𝓣.Λ fn us Post)) (λ i. are.0.0 i ++ []) refl $
    enter ! 𝓣.C 𝓣.Λ fn (vint w64 len ∷ []) Post $
    alloc_all ! (λ l. pass_all ! refl ((tt, record { fits = are.0.1 }), tt) $
    let b = l 2 in let p : Ptr = block_ptr b 0 in
    let base : B.Denot = record { ptr = p } in
    let cells : C.Denot = record { kind = record {}; at = p; slots = replicate len None } in
    let both : Val = vstruct (vcons (word p) (vcons mark vnil)) in
    sets ! (of_opd ! (lit ! tt)) refl (tt, record { fits = lit< tt }) $
    sets ! (addr ! (from ! (stop !))) refl (tt, tt) $
    sets ! (agg ! (and_then ! (get ! refl) (no_more !))) refl (word-Good [] p) $
    sets ! (agg ! (no_more !)) refl (tt, tt) $
    sets ! (agg ! (and_then ! (get ! refl) (no_more !))) refl (tt, (tt, tt)) $
    sets ! (agg ! (and_then ! (get ! refl) (and_then ! (get ! refl) (no_more !)))) refl (tt, ((tt, tt), ((tt, tt), tt))) $
    returns ! (look_at ! 0 refl) $ free_all ! refl $
    -- [the tokens]
    let Made : Type 0 = (cells.at ≡ base.ptr) × (cells.slots ≡ replicate len None) in
    use0 𝓛 (raw (fact 𝓤 Made)) (fact_i 𝓤 Made (emp 𝓤) (refl, refl)) $
    use0 𝓛 (‵ (places_owned (R E) b 0 cells.slots)) (placed_nowhere E 𝓛 b len 0 none) $
    flt_i ! (length cells.slots * s) (2 ^ 63) (subst (λ (k : ℕ). k * s < 2 ^ 63) (sym (length-replicate len None)) (omega (arith, none))) $ fjoin ! $
    use0 𝓛 (‵ (Mark.own_val (tt, tt) (mark ∷ []))) (mark_made 𝓛) $ fjoin ! $
    nothing ! $ move ! (1 ∷ 0 ∷ []) $ fjoin ! $ use0 𝓛 (‵ (B.own_val base (word p ∷ []))) (base_made 𝓛 p) $ fjoin ! $
    struct_made ! (shape (tuple_type (B ∷ C ∷ []))) (base, (cells, tt)) (word p ∷ [], (mark ∷ [], tt)) $
    nothing ! $ nothing ! $ fjoin ! $ move ! (3 ∷ 0 ∷ 1 ∷ 2 ∷ []) $
    by ! (leaves 𝓛 S stays held z both (base, cells) (tt, tt) (tt, tt)))))
