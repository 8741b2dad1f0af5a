-- A `&` to the places lends each value in them. Assumes `Logic`.
use mathlib.Core.List.{[], ◌++◌}
use base.Fml.{Incl-trans}
use contract.BorrowLft.{meet_⊑_left}
use denote.RattleType.{RattleType}
use denote.RawPtr.{RawPtr}
use denote.Param.Laws.{Laws}
use denote.Param.Shared.{copy_shared}
use denote.Struct.Laws.{field_copy}
use denote.Struct.Lending.{of_Lends}
use Rattle.core.specs.contracts.marker.PhantomData as kind
use Rattle.gapcol.specs.contracts.cells.Cells as type
use Rattle.gapcol.proofs.cells.Cells.TheLaw.Statement.{statement}
use Rattle.gapcol.proofs.Lending.{cells_kept, cells_lend}

pub shares : (R : RattleType) (laws : Laws R) → statement R laws
shares R laws =
    let codes = type.the_codes R.Denot R.coded (kind.the_row RawPtr).coded in
    let inner = Incl-trans (meet_⊑_left (R.lives ++ []) _) (meet_⊑_left R.lives []) in
    of_Lends (type.struct R) codes (type.the_heap R) (type.the_lent R)
    (λ c p. cells_kept R laws c.at c.slots)
    (copy_shared (kind.the_field RawPtr) (field_copy (kind.the_type RawPtr) tt), tt)
    (λ M 𝓤 𝓛 c p. cells_lend R laws 𝓛 (type.the_row R).lives inner c.at c.slots)
