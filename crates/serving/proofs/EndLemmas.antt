-- How serving ended.
use Rattle.std.proofs.Common.{◌≡◌, ℕ, ◌<◌, Bool, true, false, List, length, refl, subst, sym}
use Rattle.std.specs.Prelude.{if◌then◌else◌}
use Rattle.devices.specs.Doors.{Ends}
use Rattle.devices.specs.Faults.{Rose}
use Rattle.serving.specs.Serving.{IsServeEnd}
use Rattle.serving.specs.declared.whole.ServeEnd.{ServeEnd}
use Rattle.serving.specs.declared.whole.ServeEnd.TheVariants.{End, DoorFault}

-- the end, by whether all connections were given
pub end_told : (all : Bool) (end : ServeEnd) (connections : ℕ) (given : List Ends) (before now : ℕ) → end ≡ (if all then End else DoorFault)
    → (all ≡ true → (length given ≡ connections) × (now ≡ before)) → (all ≡ false → (length given < connections) × Rose before now)
    → IsServeEnd end connections given before now
end_told true end connections given before now e whole failed = subst (λ (s : ServeEnd). IsServeEnd s connections given before now) (sym e) (whole refl)
end_told false end connections given before now e whole failed = subst (λ (s : ServeEnd). IsServeEnd s connections given before now) (sym e) (failed refl)
