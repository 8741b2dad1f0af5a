-- What a reference to the places lends, is kept as long as it lives and lent on for less. Assumes `Logic`.
use Rattle.std.specs.Prelude.{ℕ, ◌+◌, List, [], ◌∷◌, Option, Some, None}
use Rattle.std.specs.Mem.{type_size}
use seplogic.Ra.Ura.{Ura}
use base.Fml.{Lft, Incl, ftrue, ffalse}
use types.Logic.{Logic}
use denote.RattleType.{RattleType}
use denote.Param.Laws.{Laws}
use denote.RawPtr.{Ptr, block_ptr, null_ptr}
use denote.Sharing.{ShrLaws, said}
use denote.SharingLaws.{beside_shr_laws, nothing_shr_laws, said_shr_laws}
use denote.Shares.{Shares-less}
use denote.Struct.Lending.{Lends, Lends-both, Lends-nothing, Lends-said, Lends-false}
use Rattle.gapcol.specs.Memory.{place_owned, places_owned, place_lent, places_lent, near, cells_owned, cells_lent}

module _ (R : RattleType) (laws : Laws R) where
  abbrev step : ℕ
  step = type_size R

  place_kept : (b o : ℕ) (c : Option R.Denot) → ShrLaws (place_lent R b o c)
  place_kept b o None = nothing_shr_laws
  place_kept b o (Some x) = laws.shr_laws x b o

  places_kept : (b o : ℕ) (cs : List (Option R.Denot)) → ShrLaws (places_lent R b o cs)
  places_kept b o [] = nothing_shr_laws
  places_kept b o (c ∷ cs) = beside_shr_laws _ _ (place_kept b o c) (places_kept b (o + step) cs)

  pub cells_kept : (p : Ptr) (cs : List (Option R.Denot)) → ShrLaws (cells_lent R p cs)
  cells_kept null_ptr cs = said_shr_laws ffalse tt
  cells_kept (block_ptr b o) cs = beside_shr_laws _ _ (said_shr_laws (near R cs) tt) (places_kept b o cs)

  module _ {M : Type 1} {𝓤 : Ura M} (𝓛 : Logic 𝓤) (l : Lft) (inner : Incl l R.lives) where
    place_lends : (b o : ℕ) (c : Option R.Denot) → Lends 𝓛 (place_owned R b o c) (place_lent R b o c) l
    place_lends b o None = Lends-nothing 𝓛 (place_owned R b o None) l
    place_lends b o (Some x) = λ κ ts. Shares-less 𝓛 R R.lives l inner (laws.shares 𝓛) x κ ts b o

    places_lend : (b o : ℕ) (cs : List (Option R.Denot)) → Lends 𝓛 (places_owned R b o cs) (places_lent R b o cs) l
    places_lend b o [] = Lends-nothing 𝓛 ftrue l
    places_lend b o (c ∷ cs) = Lends-both 𝓛 (place_owned R b o c) (places_owned R b (o + step) cs) (place_lent R b o c) (places_lent R b (o + step) cs) l (place_lends b o c) (places_lend b (o + step) cs)

    pub cells_lend : (p : Ptr) (cs : List (Option R.Denot)) → Lends 𝓛 (cells_owned R p cs) (cells_lent R p cs) l
    cells_lend null_ptr cs = Lends-false 𝓛 (said ffalse) l
    cells_lend (block_ptr b o) cs = Lends-both 𝓛 (near R cs) (places_owned R b o cs) (said (near R cs)) (places_lent R b o cs) l (Lends-said 𝓛 (near R cs) tt l) (places_lend b o cs)
