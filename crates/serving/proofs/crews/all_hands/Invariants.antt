use Rattle.std.specs.Prelude.{◌≡◌, All, vec_len}
use Rattle.serving.proofs.crews.all_hands.Given as goal

-- so many were made
abbrev pub invariant-loop-made : goal.invariant-loop-made
invariant-loop-made g l = (vec_len l.all ≡ l._made) × All (λ h. h.lock.value ≡ l.lock.value) l.all.items
