use Rattle.std.specs.Prelude.{◌≡◌, All, vec_len}
use Rattle.serving.proofs.whole.copies.Given as goal

-- so many hands were made
abbrev pub invariant-loop-made : goal.invariant-loop-made
invariant-loop-made g l = (vec_len l.all ≡ l._made) × All (λ k. k.value ≡ l.lock.value) l.all.items
