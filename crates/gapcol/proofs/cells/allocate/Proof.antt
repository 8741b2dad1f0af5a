-- `allocate` makes empty places of the allocator's block, and keeps the leave to free it. Assumes `Logic`.
use Rattle.std.proofs.Common.{◌≡◌, ℕ, ◌*◌, ◌<◌, ◌^◌, List, [], ◌∷◌, ◌++◌, length, replicate, None, refl, sym, ap, subst, w64, lit<, arith}
use Rattle.std.proofs.lemmas.List.{length-replicate}
use Rattle.std.specs.Prelude.{IfOk, Ok, Err}
use Rattle.std.specs.Vec.Ownership.{FitsInBlock}
use mathlib.Core.Bool.{true, false}
use mir.Syntax.{Fn, Body, ty_array}
use mir.MapTy.{inst_fn}
use mir.Val.{Val, vptr, vint, vstruct, vcons, vnil}
use base.Logic.{SProp, emp}
use base.Fml.{Incl-trans, ftrue, flft}
use prog.Memory.{align, capped}
use prog.Capped.{capped_fits}
use prog.Wp.{Env, Wp, WpFn, after_seq, at_return}
use contract.BorrowLft.{◌⊑◌}
use contract.Monad.{fact, fact_i}
use contract.Running.{tables}
use types.Kit.{‵, raw, ◌⊛◌, later, await, any_q, Sq, Post as After, prop, at_ret, ◌$◌, ◌∵◌, !, qed, by, move, keep, drop, use0, use1, use2, split, split3, join, regoal, fsplit, fjoin, feq_l, flt_i}
use types.Match.{live, vrt, in_variant}
use types.Part.{whole, agg}
use types.Run.{stop, fld, lit, bin, size_word, align_word, of_opd, and_then, no_more, switches_on, first, exec, returns, enter}
use types.ByLocal.{alloc_all, pass_all, free_all, look_at, get, get_in, get_tag, lands_as, sets, sets_last, is, env}
use denote.Builtin.{usize, RefOf}
use denote.Exit.{yes}
use denote.Laws.{Is}
use denote.Param.{layout}
use denote.RattleType.{RattleType, owns}
use denote.RawPtr.{Ptr, block_ptr}
use denote.Signature.{plain, types_at}
use denote.Steps.{nothing, heard, owned}
use denote.Struct.Declared.{shape}
use denote.Struct.Struct.{Struct, Struct-Makes}
use denote.Struct.Tuple.{Tuple, tuple_type}
use denote.Triple.Call.{calls_at}
use denote.Triple.Table.{framed}
use denote.Triple.Walked.{Stays, stay_dropped, walk_of, Goes-dropped}
use Rattle.core.specs.contracts.result.Result as Results
use Rattle.core.specs.contracts.alloc.AllocError as Refusals
use Rattle.core.proofs.alloc.Calls.{Al, Answer-typed, Takes, at_takes, Answered, Takes-goes, Takes-gives, answers}
use Rattle.core.proofs.mem.Param.{El, R, elτ}
use Rattle.core.proofs.slots.Leases.{uncapped, block_ty, block_size, block_align, args, P}
use Rattle.std_alloc.proofs.RawLayout.{as_written}
use Rattle.std_alloc.proofs.RcSteps.{Good, word, word-Good, first_Good}
use Rattle.std_alloc.proofs.ResultValues.{ok_of, err_of}
use Rattle.std_alloc.proofs.VecSteps.Shapes.{head, after, arm_body}
use Rattle.std.proofs.raw_atomic.Walks.{proved_at, leaves}
use Rattle.gapcol.specs.Memory.{places_owned}
use Rattle.gapcol.proofs.Memory.{sz, empty_places}
use Rattle.gapcol.proofs.Walks.{Mark, mark, mark_made, base_made, struct_made}
use Rattle.gapcol.specs.contracts.cells.Base as Base
use Rattle.gapcol.specs.contracts.cells.Cells as Cells
use Rattle.gapcol.specs.contracts.cells.Deed as Deed
use Rattle.gapcol.specs.contracts.cells.allocate.{ended, clauses}
use Rattle.gapcol.specs.contracts.cells.allocate.Key.{name as key}
use Rattle.gapcol.proofs.cells.allocate.Statement.{statement}
use Rattle.gapcol.proofs.cells.allocate.Code as compiled

pub allocate_spec : {M : Type 1} → statement M
allocate_spec 𝓤 𝓛 𝓜 𝓡 wired T A laws freeing g d dd met md =
    let H = 𝓛.H in let 𝓣 = tables 𝓤 H 𝓜 𝓡 𝓡.env in
    let E : El = record { row = T; laws = laws } in
    let Z : Al = record { row = A; laws = freeing; g = g; d = d; drops = dd } in
    let fn : Fn = inst_fn (args E Z) compiled.function in
    let S = ended T A g d dd in let held = clauses T A g d dd 𝓛 𝓜.mem 𝓡.returns in
    let C : RattleType = Cells.the_row (R E) in let B : RattleType = Base.the_row (R E) in let D : RattleType = Deed.the_row (R E) (P E Z) g in
    let Three : RattleType = Tuple (B ∷ C ∷ D ∷ []) in let Out : RattleType = Results.the_row Three Refusals.the_row in
    let Handle = RefOf (0 ∷ []) tt (plain (λ _. P E Z)) (λ _. tt) in
    let stays : Stays S.signature.params S.kept = (stay_dropped Handle yes, (stay_dropped (plain (λ _. usize)) yes, tt)) in
    proved_at 𝓛 S stays held 𝓜 𝓡 (Goes-dropped 𝓛 3 Handle yes (λ κs x f. refl), (Goes-dropped 𝓛 3 (plain (λ _. usize)) yes (λ κs x f. refl), tt))
    (key (args E Z)) fn (compiled.unfolded 𝓤 H 𝓜 𝓡 wired (T, (A, tt)) d dd) (λ z are.
    let κs = z.0.0 in let qs = z.0.1 in let a = z.0.3 in let vss = z.0.4 in let κ = κs.0 in let q = qs.0 in
    let Post : Val → SProp 𝓤 = (walk_of 𝓛 S stays held).post z in
    let rb = a.0.ref_ptr.0 in let ro = a.0.ref_ptr.1 in let alloc = a.0.now in let len = a.1.0 in
    let others = ‵ (flft κs.1.0 qs.1.0) ⊛ ‵ (flft κs.1.1.0 qs.1.1.0) ⊛ ‵ ftrue in
    let Inner : Type 0 = κs.1.1.0 ⊑ A.lives in
    let Asks : Type 0 = FitsInBlock (R E) len × (0 < len * sz E) in
    let Made : Out.Denot → Type 0 = λ r. IfOk r (λ t. (t.1.at ≡ t.0.ptr) × (t.1.slots ≡ replicate len None) × (t.2.at ≡ t.0.ptr) × (t.2.len ≡ len) × (t.2.alloc ≡ alloc)) in
    -- what both answers end with
    let out : (r : Out.Denot) (v : Val) → Made r → Sq 𝓛 (‵ (Out.own_val r (v ∷ [])) ∷ ‵ (flft κ q) ∷ others ∷ []) (prop (Post v)) = λ r v made.
    move ! (1 ∷ 2 ∷ []) $ join ! $ move ! (1 ∷ []) $ use0 𝓛 (raw (fact 𝓤 (Made r))) (fact_i 𝓤 (Made r) (emp 𝓤) made) $
    nothing ! $ nothing ! $ fjoin ! $ nothing ! $ fjoin ! $ move ! (3 ∷ 0 ∷ 2 ∷ 1 ∷ []) $ by ! (leaves 𝓛 S stays held z v r (tt, (tt, tt)) (tt, (tt, tt))) in
    qed 𝓛 (((‵ (flft κ q) ⊛ others) ⊛ ‵ (owns (types_at S.signature.params κs) a vss)) ∷ (raw (fact 𝓤 (κs.1.0 ⊑ T.lives)) ⊛ raw (fact 𝓤 Inner) ⊛ raw (fact 𝓤 Asks)) ∷ []) ∵
    move ! (1 ∷ []) $ split3 ! $ drop ! $ heard ! Inner (λ inner. heard ! Asks (λ asked. split ! $ split ! $ move ! (2 ∷ []) $ fsplit ! $ fsplit ! $ feq_l ! (λ passed.
    keep ! (0 ∷ 2 ∷ 3 ∷ []) $
    regoal ! (λ (us : List Val). prop (WpFn 𝓤 H 𝓣.C 𝓣.Λ fn us Post)) (λ i. passed i ++ (are.1.0.0 i ++ [])) refl $
    enter ! 𝓣.C 𝓣.Λ fn (vptr rb ro ∷ vint w64 len ∷ []) Post $
    alloc_all ! (λ l. pass_all ! refl ((tt, tt), ((tt, record { fits = are.1.0.1 }), tt)) $
    let En : Env 𝓤 H = env fn.locals l in
    let both : Body = head (after 2 fn.body) in
    let Then : After 𝓤 H = any_q (after_seq 𝓤 H (Wp 𝓤 H 𝓣.C 𝓣.Λ En (after 3 fn.body) (at_return 𝓤 H En Post)) (at_return 𝓤 H En Post)) in
    let s = sz E in let small : len * s < 2 ^ 63 = asked.0.0 in let bytes : len * s < 2 ^ 64 = omega arith in
    let al : ℕ = capped (align (elτ E)) in
    let y : (Takes Z 𝓛 𝓜.mem 𝓡.returns).Ghost = at_takes Z 𝓛 𝓜.mem 𝓡.returns κ q (rb, ro) alloc (len * s) al (block_ty E len) in
    -- [the allocator, lent; the lifetime's token; the other tokens]
    sets ! (is ! (bin ! (get ! refl) (size_word !) (record { fits = subst (λ (k : ℕ). k < 2 ^ 64) (sym (uncapped len s bytes)) bytes })) (ap (vint w64) (uncapped len s bytes))) refl (tt, record { fits = bytes }) $
    use2 𝓛 (raw ((Takes Z 𝓛 𝓜.mem 𝓡.returns).pre y))
    (Takes-goes Z 𝓛 𝓜.mem 𝓡.returns κ q (rb, ro) alloc (Incl-trans z.0.2.0 inner) (len * s) al (block_ty E len) (block_size E len bytes) (block_align E len) bytes (capped_fits (align (elτ E)))) $
    calls_at ! (framed 𝓤 H 𝓜 𝓣) (Takes Z 𝓛 𝓜.mem 𝓡.returns) (met.allocate dd) y (and_then ! (get ! refl) (and_then ! (get ! refl) (and_then ! (align_word !) (no_more !)))) (λ v.
    use1 𝓛 (later (raw (Answered Z 𝓛 𝓜.mem 𝓡.returns alloc (block_ty E len) v) ⊛ ‵ (flft κ q))) (Takes-gives Z 𝓛 𝓜.mem 𝓡.returns κ q (rb, ro) alloc (len * s) al (block_ty E len) v) $ await ! tt $ split ! $
    answers Z ! 𝓜.mem 𝓡.returns alloc (block_ty E len) v
    (λ b o is_block.
    let p : Ptr = block_ptr b o in
    let base : B.Denot = record { ptr = p } in
    let cells : C.Denot = record { kind = record {}; at = p; slots = replicate len None } in
    let deed : D.Denot = record { kind = record {}; at = p; len = len; alloc = alloc } in
    let three : Val = vstruct (vcons (word p) (vcons mark (vcons mark vnil))) in
    let typed : Good (layout Three) three = (tt, ((tt, tt), ((tt, tt), ((tt, tt), tt)))) in
    let ok = first_Good (layout Three) three typed in
    -- [room in the block; the leave to free it; the lifetime's token; the other tokens]
    lands_as ! is_block refl (Answer-typed true b o) $ first ! $ switches_on ! (get_tag ! (vrt ! refl (fld ! refl (stop !))) (whole !)) $ exec ! 𝓣.C 𝓣.Λ En (arm_body 0 both) Then $
    sets ! (of_opd ! (get_in ! (vrt ! refl (fld ! refl (stop !))) (in_variant ! 0 0 refl refl (whole !)))) refl (tt, tt) $ sets ! (of_opd ! (get ! refl)) refl (tt, tt) $
    sets ! (agg ! (and_then ! (get ! refl) (no_more !))) refl (word-Good [] p) $
    sets ! (agg ! (no_more !)) refl (tt, tt) $ sets ! (agg ! (and_then ! (get ! refl) (no_more !))) refl (tt, (tt, tt)) $
    sets ! (agg ! (no_more !)) refl (tt, tt) $ sets ! (agg ! (and_then ! (get ! refl) (no_more !))) refl (tt, (tt, tt)) $ sets ! (of_opd ! (get ! refl)) refl (tt, (tt, tt)) $
    sets ! (agg ! (and_then ! (get ! refl) (and_then ! (get ! refl) (and_then ! (get ! refl) (no_more !))))) refl typed $
    sets_last ! (agg ! (and_then ! (lit ! tt) (and_then ! (get ! refl) (no_more !)))) refl ok $
    exec ! 𝓣.C 𝓣.Λ En (after 3 fn.body) (at_ret En Post) $ sets ! (of_opd ! (get ! refl)) refl ok $
    move ! (1 ∷ []) $ use0 𝓛 (‵ (Mark.own_val (tt, tt) (mark ∷ []))) (mark_made 𝓛) $ fjoin ! $ move ! (1 ∷ []) $
    as_written ! (ty_array (elτ E) len) b o $ use1 𝓛 (‵ (places_owned (R E) b o cells.slots)) (empty_places E 𝓛 b len o) $
    flt_i ! (length cells.slots * s) (2 ^ 63) (subst (λ (k : ℕ). k * s < 2 ^ 63) (sym (length-replicate len None)) small) $ fjoin ! $
    use0 𝓛 (‵ (Mark.own_val (tt, tt) (mark ∷ []))) (mark_made 𝓛) $ fjoin ! $
    -- [the places; the deed; the tokens]
    nothing ! $ move ! (2 ∷ 0 ∷ []) $ fjoin ! $ move ! (1 ∷ 0 ∷ []) $ fjoin ! $ use0 𝓛 (‵ (B.own_val base (word p ∷ []))) (base_made 𝓛 p) $ fjoin ! $
    struct_made ! (shape (tuple_type (B ∷ C ∷ D ∷ []))) (base, (cells, (deed, tt))) (word p ∷ [], (mark ∷ [], (mark ∷ [], tt))) $
    use1 𝓛 (‵ (Out.own_val (Ok (base, cells, deed)) (live 0 (vcons three vnil) ∷ []))) (ok_of 𝓛 Three Refusals.the_row (base, cells, deed) three) $
    returns ! (look_at ! 0 refl) $ free_all ! refl $ keep ! (0 ∷ 1 ∷ 2 ∷ []) $ out (Ok (base, cells, deed)) (live 0 (vcons three vnil)) (refl, refl, refl, refl, refl))
    (λ is_refused.
    let Refusal : RattleType = Struct (shape Refusals.the_type) in
    let none : Val = live 1 (vcons (vstruct vnil) vnil) in
    lands_as ! is_refused refl (Answer-typed false 0 0) $ first ! $ switches_on ! (get_tag ! (vrt ! refl (fld ! refl (stop !))) (whole !)) $ exec ! 𝓣.C 𝓣.Λ En (arm_body 1 both) Then $
    sets ! (of_opd ! (get_in ! (vrt ! refl (fld ! refl (stop !))) (in_variant ! 1 0 refl refl (whole !)))) refl (tt, tt) $
    sets_last ! (agg ! (and_then ! (lit ! tt) (and_then ! (get ! refl) (no_more !)))) refl (tt, (record { fits = lit< tt }, (tt, tt))) $
    exec ! 𝓣.C 𝓣.Λ En (after 3 fn.body) (at_ret En Post) $ sets ! (of_opd ! (get ! refl)) refl (tt, (record { fits = lit< tt }, (tt, tt))) $
    owned ! Refusal (Is Refusal) (Struct-Makes 𝓛 (shape Refusals.the_type) tt) tt (vstruct vnil ∷ []) (tt, (refl, tt)) $
    use1 𝓛 (‵ (Out.own_val (Err (record {})) (none ∷ []))) (err_of 𝓛 Three Refusals.the_row (record {}) (vstruct vnil)) $
    returns ! (look_at ! 0 refl) $ free_all ! refl $ keep ! (0 ∷ 1 ∷ 2 ∷ []) $ out (Err (record {})) none tt)))))))
