-- Places cross threads where their values do, and a deed where its allocator does.
use Rattle.std.specs.Prelude.{ℕ, ◌+◌, List, [], ◌∷◌, Option, Some, None}
use Rattle.std.specs.Mem.{type_size}
use base.Fraction.{full_share}
use base.Shift.{Keyless}
use denote.RattleType.{RattleType}
use denote.RawPtr.{Ptr, block_ptr, null_ptr}
use denote.Struct.Struct.{exits_of}
use denote.Struct.Owning.{shape, fields, to}
use denote.Param.Send.{IsSend, IsSync, Common, AllSend, part_keyless, owning_send, struct_send, struct_sync, sendable}
use Rattle.core.specs.declared.alloc.Allocator.{Ghosts}
use Rattle.std_alloc.proofs.SendSync.{FreesAnywhere, quiet}
use Rattle.gapcol.specs.Memory.{places_owned, places_lent, cells_owned, cells_lent}
use Rattle.gapcol.specs.contracts.cells.Cells as Cells
use Rattle.gapcol.specs.contracts.cells.Deed as Deed

module _ (R : RattleType) where
  abbrev step : ℕ
  step = type_size R

  -- what is owned is tied to no thread
  module _ (sends : IsSend R) where
    places_go : (b o : ℕ) (cs : List (Option R.Denot)) → Keyless (places_owned R b o cs)
    places_go b o [] = tt
    places_go b o (None ∷ cs) = (tt, places_go b (o + step) cs)
    places_go b o (Some x ∷ cs) = (part_keyless R sends full_share x b o, places_go b (o + step) cs)

    cells_go : (p : Ptr) (cs : List (Option R.Denot)) → Keyless (cells_owned R p cs)
    cells_go null_ptr cs = tt
    cells_go (block_ptr b o) cs = (tt, places_go b o cs)

    pub cells_send : IsSend (Cells.the_row R)
    cells_send =
        let T = Cells.the_type R in let kind : AllSend (fields T) = (search sendable, tt) in
        owning_send T kind (λ c. cells_go c.at c.slots) (λ k. quiet (to T) (exits_of k (fields T)) ((struct_send (shape T) kind).leaving k))

  -- what is lent may be read by any thread
  module _ (shares : IsSync R) where
    places_read : (b o : ℕ) (cs : List (Option R.Denot)) → Common (places_lent R b o cs)
    places_read b o [] κ = tt
    places_read b o (None ∷ cs) κ = (tt, places_read b (o + step) cs κ)
    places_read b o (Some x ∷ cs) κ = (shares.shared x b o κ, places_read b (o + step) cs κ)

    cells_read : (p : Ptr) (cs : List (Option R.Denot)) → Common (cells_lent R p cs)
    cells_read null_ptr cs κ = tt
    cells_read (block_ptr b o) cs κ = (tt, places_read b o cs κ)

    pub cells_sync : IsSync (Cells.the_row R)
    cells_sync =
        let T = Cells.the_type R in record { shared = λ c b o κ. ((struct_sync (shape T) (search sendable, tt)).shared (to T c) b o κ, cells_read c.at c.slots κ) }

  module _ (A : RattleType) (g : Ghosts A.Denot) where
    pub deed_send : FreesAnywhere A.Denot g → IsSend (Deed.the_row R A g)
    deed_send anywhere =
        let T = Deed.the_type R A g in let kind : AllSend (fields T) = (search sendable, tt) in
        owning_send T kind (λ d. anywhere.frees d.alloc _ d.at) (λ k. quiet (to T) (exits_of k (fields T)) ((struct_send (shape T) kind).leaving k))

    pub deed_sync : IsSync (Deed.the_row R A g)
    deed_sync = let T = Deed.the_type R A g in record { shared = λ d b o κ. ((struct_sync (shape T) (search sendable, tt)).shared (to T d) b o κ, tt) }
