-- Published values: how great they are, and what of a text is kept where theirs is half written.
use Rattle.std.proofs.Common.{◌≡◌, sym, ◌∙◌, ap, ℕ, ◌≤◌, List, ◌++◌, length, take, arith, length-append}
use Rattle.std.proofs.lemmas.List.{take-take}
use Rattle.std.proofs.Math.Seq.{take-append_seam}

-- what was kept of a longer text keeps its front
pub front-kept : (old mid new more : List ℕ) → mid ≡ old ++ more → take (length mid) new ≡ mid → take (length old) new ≡ old
front-kept old mid new more grew kept =
    let within : length old ≤ length mid = omega (arith, ap (λ (xs : List ℕ). length xs) grew, length-append old more) in
    let back : take (length old) (take (length mid) new) ≡ take (length old) (old ++ more) = cc (kept, grew) in
    sym (take-take (length old) (length mid) new within) ∙ back ∙ take-append_seam old more
