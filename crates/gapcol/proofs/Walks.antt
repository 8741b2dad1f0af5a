-- What the walks of the raw calls have in common: the machine values of a base and of what takes no space, bounds on the
-- bytes before a place, and a body's parts. Assumes `Logic`.
use Rattle.std.proofs.Common.{◌≡◌, ℕ, ◌*◌, ◌^◌, ◌<◌, ◌≤◌, List, [], ◌∷◌, ◌++◌, refl, ◌∙◌, arith}
use seplogic.Ra.Ura.{Ura}
use mir.Val.{Val, vstruct, vcons, vnil, of_list}
use base.Logic.{ent, emp}
use types.Logic.{Logic, sem}
use types.Kit.{Item, Goal, Step, step, ‵, ◌$◌, fjoin, feq_i, fpack}
use denote.RattleType.{RattleType, Denots, Valss, flat, owns}
use denote.RawPtr.{Ptr, RawPtr, ptr_val}
use denote.Shadow.{shadow, makes_shadow}
use denote.Struct.Struct.{Shape, Struct, within}
use Rattle.std_alloc.proofs.RcSteps.{word}
use Rattle.core.proofs.ptr.Rows.{times_below, one_below}

-- a struct of these fields: what one owns doesn't hang on its name
abbrev pub of_fields : List RattleType → RattleType
of_fields rows = Struct (record { name = []; args = []; types = []; fields = rows })

-- a base is one word
pub base_is : (p : Ptr) (vs : List Val) → shadow ((of_fields (RawPtr ∷ [])).own_val (p, tt) vs) → vs ≡ word p ∷ []
base_is p vs s = s.1.0 ∙ (λ i. vstruct (of_list (s.1.1.0 i ++ [])) ∷ [])

pub base_made : {M : Type 1} {𝓤 : Ura M} (𝓛 : Logic 𝓤) (p : Ptr) → ent 𝓤 (emp 𝓤) (sem 𝓛 ((of_fields (RawPtr ∷ [])).own_val (p, tt) (word p ∷ [])))
base_made 𝓛 p = makes_shadow 𝓛 ((of_fields (RawPtr ∷ [])).own_val (p, tt) (word p ∷ [])) (λ _. (tt, (tt, tt))) ((ptr_val p ∷ [], tt), (refl, (refl, tt)))

-- the fields of places and of a deed take no space
abbrev pub mark : Val
mark = vstruct (vcons (vstruct vnil) vnil)

abbrev pub Mark : RattleType
Mark = of_fields (of_fields [] ∷ [])

pub mark_is : (vs : List Val) → shadow (Mark.own_val (tt, tt) vs) → vs ≡ mark ∷ []
mark_is vs s = s.1.0 ∙ (λ i. vstruct (of_list (s.1.1.0.1.0 i ++ [])) ∷ [])

pub mark_made : {M : Type 1} {𝓤 : Ura M} (𝓛 : Logic 𝓤) → ent 𝓤 (emp 𝓤) (sem 𝓛 (Mark.own_val (tt, tt) (mark ∷ [])))
mark_made 𝓛 = makes_shadow 𝓛 (Mark.own_val (tt, tt) (mark ∷ [])) (λ _. (tt, ((λ _. (tt, tt)), tt))) ((vstruct vnil ∷ [], tt), (refl, ((tt, (refl, tt)), tt)))

-- a place among n, of s bytes each, lies fewer than 2 ^ 64 bytes from the first
pub reached : (i n s : ℕ) → i ≤ n → n * s < 2 ^ 63 → i * s < 2 ^ 64
reached i n s le small = times_below i n s (2 ^ 64) le (omega arith)

pub one_sized : (i n s : ℕ) → i < n → n * s < 2 ^ 63 → s < 2 ^ 64
one_sized i n s lt small = one_below n s (2 ^ 64) (omega arith) (omega arith)

-- what the fields own makes a struct, or a tuple
pub struct_made : {M : Type 1} {𝓤 : Ura M} {𝓛 : Logic 𝓤} {K : Type 0} {Γ : List (Item 𝓤)} {G : Goal 𝓤 𝓛.H} → K → (S : Shape) (a : Denots S.fields) (vss : Valss S.fields)
    → let vs = vstruct (of_list (flat S.fields vss)) ∷ [] in Step K 𝓛 (‵ ((Struct S).own_val a vs) ∷ Γ) G (‵ (owns S.fields a vss) ∷ Γ) G
struct_made t S a vss = let vs = vstruct (of_list (flat S.fields vss)) ∷ [] in step (λ s. feq_i t (List Val) vs vs refl $ fjoin t $ fpack t (Valss S.fields) (within S a vs) vss $ s)
