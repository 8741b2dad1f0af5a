-- Connections that are taken in.
use Rattle.std.specs.Prelude.{◌≡◌, ℕ, ◌+◌, List, [], ◌∷◌, ◌++◌, length, Option, IsSomeAnd, ⊤}
use mathlib.Core.List.{IsPrefix}
use Rattle.desk.specs.Serving.{Served}
use Rattle.devices.specs.Doors.{Connections, Ends, IsBack}
use Rattle.devices.specs.declared.disks.Disk.{Ghosts}
use Rattle.shared_office.specs.Passing.{PassTo}
use Rattle.shared_office.specs.declared.entries.Entry.{Entry}
use Rattle.shared_office.specs.declared.entries.Fixed.{Fixed}
use Rattle.turnstile.specs.Passes.{seen, share, tally}

-- a task for each connection that was given
abbrev pub AreTasked : {T : Type 0} → (Ends → T → Type 0) → List Ends → List T → Type 0
AreTasked IsTasked [] [] = ⊤
AreTasked IsTasked [] (t ∷ ts) = ⊥
AreTasked IsTasked (came ∷ given) [] = ⊥
AreTasked IsTasked (came ∷ given) (t ∷ ts) = IsTasked came t × AreTasked IsTasked given ts

-- each connection from a number on was taken back and is served in a list, with its places
abbrev pub AreServed : Fixed → ℕ → List Entry → (ℕ → Option Ends) → ℕ → List Ends → List (List ℕ) → Type 0
AreServed fixed start list back number [] [] = ⊤
AreServed fixed start list back number [] (places ∷ more) = ⊥
AreServed fixed start list back number (came ∷ given) [] = ⊥
AreServed fixed start list back number (came ∷ given) (places ∷ more) =
    IsSomeAnd (back number) (λ went. Served fixed came went start list places) × AreServed fixed start list back (number + 1) given more

-- a connection was taken in: its pass is joined, what is left of it is with the doors, and it is served
pub record IsTaken {D : Type 0} {g : Ghosts D} (fixed : Fixed) (start : List Entry) (came : Ends) (number : ℕ) (old new : PassTo D g)
    (before after : Connections) : Type 0 where
  pub went : Ends
  pub places : List ℕ
  pub share_is : share new ≡ share old + 1
  pub begins : IsPrefix (seen old) (seen new)
  pub tally_is : tally new ≡ tally old ++ places
  pub back : IsBack number went before after
  pub served : Served fixed came went (length start) (seen new) places
