-- A `&` to a deed lends nothing. Assumes `Logic`.
use denote.RattleType.{RattleType}
use denote.RawPtr.{RawPtr}
use denote.Param.Laws.{Laws}
use denote.Param.Shared.{copy_shared}
use denote.SharingLaws.{nothing_shr_laws}
use denote.Struct.Laws.{field_copy}
use denote.Struct.Lending.{of_Lends, Lends-nothing}
use Rattle.core.specs.declared.alloc.Allocator.{Ghosts}
use Rattle.core.specs.contracts.marker.PhantomData as kind
use Rattle.gapcol.specs.contracts.cells.Deed as type
use Rattle.gapcol.proofs.cells.Deed.TheLaw.Statement.{statement}

pub shares : (R A : RattleType) (g : Ghosts A.Denot) (laws : Laws R) (freeing : Laws A) → statement R A g laws freeing
shares R A g laws freeing =
    let codes = type.the_codes R.Denot A.Denot R.coded A.coded (kind.the_row RawPtr).coded in
    of_Lends (type.struct R A g) codes (type.the_heap R A g) (type.the_lent R A g)
    (λ d p. nothing_shr_laws)
    (copy_shared (kind.the_field RawPtr) (field_copy (kind.the_type RawPtr) tt), tt)
    (λ M 𝓤 𝓛 d p. Lends-nothing 𝓛 (type.the_heap R A g d) (type.the_row R A g).lives)
