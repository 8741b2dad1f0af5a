-- The places of a block as the walks use them: one place is taken out and comes back with something else in it, a run is lent,
-- bare room is a row of empty places, and any row of places is bare room. Assumes `Logic`.
use Rattle.std.proofs.Common.{◌≡◌, ℕ, zero, suc, ◌+◌, ◌*◌, ◌<◌, List, [], ◌∷◌, map, length, take, drop, set, get_or, replicate, Option, Some, None, refl, sym, subst, ◌∙◌, arith}
use native.Mathlib.Nat.{zero-mul, suc-mul}
use Rattle.std.specs.Mem.{type_size}
use seplogic.Ra.Ura.{Ura}
use base.Fraction.{full_share}
use base.Logic.{SProp, ent, sep, wand, emp, via, fst∗, snd∗, mono_r, apply∗}
use base.Fml.{Fml, Lft, ftrue, fat, froom}
use mir.Syntax.{Ty, ty_array}
use mir.Val.{Val}
use prog.Memory.{align}
use prog.Align.{dv_self}
use types.Logic.{Logic, sem}
use types.Kit.{‵, raw, ◌⊛◌, some, ◌$◌, ◌∵◌, !, qed, by, move, keep, use1, use2, split, assume, frame, pick, rewrite, fsplit, fjoin, done}
use denote.Memory.{part_at}
use denote.Slice.{elements_shared}
use borrow.Table.OneValue.{part_out}
use Rattle.core.proofs.mem.Param.{El, R, el_x, elτ}
use Rattle.gapcol.specs.Memory.{place_owned, places_owned, place_lent, places_lent}

pub filled_within : {X : Type 0} (cs : List (Option X)) (i : ℕ) (x : X) → get_or cs i None ≡ Some x → i < length cs
filled_within [] i x e = cc
filled_within (c ∷ cs) zero x e = omega arith
filled_within (c ∷ cs) (suc i) x e = omega (arith, filled_within cs i x e)

module _ (E : El) where
  abbrev pub sz : ℕ
  sz = type_size (R E)

  abbrev pub Place : Type 0
  Place = Option (el_x E)

  -- the i-th place from o on begins there
  next_place : (i o at : ℕ) → at ≡ suc i * sz + o → at ≡ i * sz + (o + sz)
  next_place i o at e = omega (arith, suc-mul i sz)

  first_place : (o at : ℕ) → at ≡ zero * sz + o → at ≡ o
  first_place o at e = omega (arith, zero-mul sz)

  module _ {M : Type 1} {𝓤 : Ura M} (𝓛 : Logic 𝓤) (b : ℕ) where
    open 𝓛 use {H}

    abbrev Row : ℕ → List Place → Fml
    Row = places_owned (R E) b

    -- the row with c in its i-th place, for whoever brings that place
    abbrev pub Returns : ℕ → ℕ → List Place → ℕ → Place → SProp 𝓤
    Returns o at cs i c = wand 𝓤 (sem 𝓛 (place_owned (R E) b at c)) (sem 𝓛 (Row o (set cs i c)))

    pub taken_out : (cs : List Place) (i o at : ℕ) (c : Place) → i < length cs → at ≡ i * sz + o
        → ent 𝓤 (sem 𝓛 (Row o cs)) (sep 𝓤 (sem 𝓛 (place_owned (R E) b at (get_or cs i None))) (Returns o at cs i c))
    taken_out [] i o at c lt e = absurd (omega arith)
    taken_out (d ∷ cs) zero o at c lt e = let here = first_place o at e in
        qed 𝓛 (‵ (Row o (d ∷ cs)) ∷ []) ∵ fsplit ! $ rewrite ! 0 (λ (k : ℕ). ‵ (place_owned (R E) b k d)) (sym here) refl $ frame ! $
        assume ! (‵ (place_owned (R E) b at c)) $ rewrite ! 0 (λ (k : ℕ). ‵ (place_owned (R E) b k c)) here refl $ fjoin ! $ done !
    taken_out (d ∷ cs) (suc i) o at c lt e =
        qed 𝓛 (‵ (Row o (d ∷ cs)) ∷ []) ∵ fsplit ! $ move ! (1 ∷ []) $
        use1 𝓛 (‵ (place_owned (R E) b at (get_or cs i None)) ⊛ raw (Returns (o + sz) at cs i c)) (taken_out cs i (o + sz) at c (omega arith) (next_place i o at e)) $ split ! $ frame ! $
        assume ! (‵ (place_owned (R E) b at c)) $ use2 𝓛 (‵ (Row (o + sz) (set cs i c))) (apply∗ 𝓤 (sem 𝓛 (place_owned (R E) b at c)) (sem 𝓛 (Row (o + sz) (set cs i c)))) $ move ! (1 ∷ 0 ∷ []) $ fjoin ! $ done !

    pub empty_places : (n o : ℕ) → ent 𝓤 (H.room (ty_array (elτ E) n) b o) (sem 𝓛 (Row o (replicate n None)))
    empty_places zero o = qed 𝓛 (‵ (froom (ty_array (elτ E) 0) b o) ∷ []) ∵ keep ! [] $ done !
    empty_places (suc n) o = qed 𝓛 (‵ (froom (ty_array (elτ E) (suc n)) b o) ∷ []) ∵
        use1 𝓛 (‵ (froom (elτ E) b o) ⊛ ‵ (froom (ty_array (elτ E) n) b (o + sz))) (𝓛.laws.room_uncons (elτ E) n b o) $ split ! $
        use1 𝓛 (‵ (place_owned (R E) b o None)) (𝓛.laws.room-raw (elτ E) b o) $ frame ! $ by ! (empty_places n (o + sz))

    -- places that take no bytes are made of nothing
    pub placed_nowhere : (n o : ℕ) → n * sz ≡ 0 → ent 𝓤 (emp 𝓤) (sem 𝓛 (Row o (replicate n None)))
    placed_nowhere n o none =
        let Bare : ℕ → Ty = ty_array (elτ E) in let Back : SProp 𝓤 = wand 𝓤 (H.room (Bare n) b o) (H.room (Bare 0) b o) in
        via 𝓤 (H.room (Bare 0) b o) (𝓛.laws.room_nil (elτ E) b o) (via 𝓤 (H.room (Bare n) b o) (
        via 𝓤 (sep 𝓤 (H.room (Bare n) b o) Back) (𝓛.laws.room_as (Bare 0) (Bare n) b o (none ∙ sym (zero-mul sz)) (dv_self (align (elτ E)))) (fst∗ 𝓤 (H.room (Bare n) b o) Back)
        ) (empty_places n o))

    -- a value is forgotten, and its place is room again
    forgotten : (c : Place) (o : ℕ) → ent 𝓤 (sem 𝓛 (place_owned (R E) b o c)) (H.room (elτ E) b o)
    forgotten None o = 𝓛.laws.raw-room (elτ E) b o
    forgotten (Some x) o = qed 𝓛 (‵ (part_at (R E) full_share x b o) ∷ []) ∵
        use1 𝓛 (some (λ (v : Val). ‵ (fat full_share (elτ E) b o v) ⊛ ‵ ((R E).own_val x (v ∷ [])))) (part_out 𝓛 (R E) refl full_share x b o) $ pick ! (λ v. split ! $ keep ! (0 ∷ []) $
        by ! (𝓛.laws.at_room (elτ E) b o v))

    pub freed_places : (cs : List Place) (o : ℕ) → ent 𝓤 (sem 𝓛 (Row o cs)) (H.room (ty_array (elτ E) (length cs)) b o)
    freed_places [] o = 𝓛.laws.room_nil (elτ E) b o
    freed_places (c ∷ cs) o = qed 𝓛 (‵ (Row o (c ∷ cs)) ∷ []) ∵ fsplit ! $ use1 𝓛 (‵ (froom (elτ E) b o)) (forgotten c o) $ move ! (1 ∷ []) $
        use1 𝓛 (‵ (froom (ty_array (elτ E) (length cs)) b (o + sz))) (freed_places cs (o + sz)) $ move ! (1 ∷ []) $ by ! (𝓛.laws.room_cons (elτ E) (length cs) b o)

    module _ (κ : Lft) where
      abbrev Seen : ℕ → List Place → Fml
      Seen o cs = places_lent (R E) b o cs κ

      abbrev Values : ℕ → List (el_x E) → Fml
      Values o xs = elements_shared (R E) xs b o κ

      none_lent : (F : Fml) (o : ℕ) → ent 𝓤 (sem 𝓛 F) (sem 𝓛 (Values o []))
      none_lent F o = qed 𝓛 (‵ F ∷ []) ∵ keep ! [] $ done !

      front_lent : (n : ℕ) (cs : List Place) (xs : List (el_x E)) (o : ℕ) → take n cs ≡ map Some xs → ent 𝓤 (sem 𝓛 (Seen o cs)) (sem 𝓛 (Values o xs))
      front_lent n cs [] o e = none_lent (Seen o cs) o
      front_lent zero cs (x ∷ xs) o e = absurd (cc)
      front_lent (suc n) [] (x ∷ xs) o e = absurd (cc)
      front_lent (suc n) (c ∷ cs) (x ∷ xs) o e = let head : c ≡ Some x = cc in let tail : take n cs ≡ map Some xs = cc in
          qed 𝓛 (‵ (Seen o (c ∷ cs)) ∷ []) ∵ rewrite ! 0 (λ (d : Place). ‵ (Seen o (d ∷ cs))) head refl $
          by ! (mono_r 𝓤 (sem 𝓛 (place_lent (R E) b o (Some x) κ)) (front_lent n cs xs (o + sz) tail))

      -- the n places from the i-th on lend their values
      pub run_lent : (cs : List Place) (i n : ℕ) (xs : List (el_x E)) (o at : ℕ) → at ≡ i * sz + o → take n (drop i cs) ≡ map Some xs → ent 𝓤 (sem 𝓛 (Seen o cs)) (sem 𝓛 (Values at xs))
      run_lent cs zero n xs o at e is = subst (λ (k : ℕ). ent 𝓤 (sem 𝓛 (Seen o cs)) (sem 𝓛 (Values k xs))) (sym (first_place o at e)) (front_lent n cs xs o is)
      run_lent [] (suc i) n [] o at e is = none_lent ftrue at
      run_lent [] (suc i) zero (x ∷ xs) o at e is = absurd (cc)
      run_lent [] (suc i) (suc n) (x ∷ xs) o at e is = absurd (cc)
      run_lent (c ∷ cs) (suc i) n xs o at e is = via 𝓤 (sem 𝓛 (Seen (o + sz) cs)) (snd∗ 𝓤 (sem 𝓛 (place_lent (R E) b o c κ)) (sem 𝓛 (Seen (o + sz) cs)))
          (run_lent cs i n xs (o + sz) at (next_place i o at e) is)
