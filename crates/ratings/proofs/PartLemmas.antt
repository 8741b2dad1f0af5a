-- The parts of periods: they rise, and the one in force is the last that has begun, if it has not ended.
use Rattle.std.specs.Prelude.{◌≡◌, Bool, true, false, cond, ◌&&◌, List, [], ◌∷◌, ℤ, ◌<ℤ◌, ◌≤ℤ◌, int_lt, int_le, Option, None, Some, filter, find, All, AllPairs}
use Rattle.std.proofs.Common.{arith, refl, subst, get_or}
use Rattle.std.proofs.lemmas.Int.{ints}
use Rattle.std.proofs.lemmas.List.Elements.{All-head, All-filter, filter_passes}
use Rattle.rising.specs.Ends.{last}
use Rattle.rising.specs.Lists.{IsRising}
use Rattle.rising.proofs.Ends.{last-cons}
use Rattle.rising.proofs.Parting.{lt_no}
use Rattle.rising.proofs.Selecting.{AllPairs-head, AllPairs-tail}
use Rattle.ratings.specs.Parts.{Part, AreParts, holds, part_at}

abbrev IsOrdered : Part → Type 0
IsOrdered p = p.from <ℤ p.until

abbrev EndsBefore : Part → Part → Type 0
EndsBefore p q = p.until ≤ℤ q.from

-- each part begins before the next one
pub parts_rise : (parts : List Part) → AreParts parts → IsRising (λ (p : Part). p.from) parts
parts_rise parts h i j d l m =
    let ordered : (get_or parts i d).from <ℤ (get_or parts i d).until = h.ordered i d (omega arith) in
    let apart : (get_or parts i d).until ≤ℤ (get_or parts j d).from = h.apart i j d l m in
    omega (arith, ints)

abbrev has_begun : ℤ → Part → Bool
has_begun at p = int_le p.from at

-- what the last part that has begun says
abbrev pub held : ℤ → Option Part → Option Part
held at None = None
held at (Some p) = cond (int_lt at p.until) (Some p) None

-- a part has ended where a later one has begun
ended : (at : ℤ) (p : Part) (parts qs : List Part) (q : Part) → AllPairs EndsBefore (p ∷ parts) → filter (has_begun at) parts ≡ q ∷ qs → int_lt at p.until ≡ false
ended at p parts qs q h e =
    let begun = All-head (λ (r : Part). has_begun at r ≡ true) q qs (subst (All (λ (r : Part). has_begun at r ≡ true)) e (filter_passes (has_begun at) parts)) in
    let later = All-head (EndsBefore p) q qs (subst (All (EndsBefore p)) e (All-filter (has_begun at) (EndsBefore p) parts (AllPairs-head EndsBefore p parts h))) in
    lt_no at p.until (omega (arith, ints))

begun_step : (at : ℤ) (p : Part) (parts ys : List Part) → filter (has_begun at) parts ≡ ys → AllPairs EndsBefore (p ∷ parts)
    → find (holds at) parts ≡ held at (last ys) → cond (int_lt at p.until) (Some p) (find (holds at) parts) ≡ held at (last (p ∷ ys))
begun_step at p parts [] e h k = rw k refl
begun_step at p parts (q ∷ qs) e h k =
    let over = ended at p parts qs q h e in
    let behind = last-cons p q qs in
    rw (over, behind) k

in_force_step : (at : ℤ) (p : Part) (parts : List Part) (b : Bool) → int_le p.from at ≡ b → AllPairs EndsBefore (p ∷ parts)
    → find (holds at) parts ≡ held at (last (filter (has_begun at) parts))
    → cond (b && int_lt at p.until) (Some p) (find (holds at) parts) ≡ held at (last (cond b (p ∷ filter (has_begun at) parts) (filter (has_begun at) parts)))
in_force_step at p parts false e h k = k
in_force_step at p parts true e h k = begun_step at p parts (filter (has_begun at) parts) refl h k

pub part_last : (at : ℤ) (parts : List Part) → AllPairs EndsBefore parts → part_at at parts ≡ held at (last (filter (has_begun at) parts))
part_last at [] h = refl
part_last at (p ∷ parts) h = in_force_step at p parts (int_le p.from at) refl h (part_last at parts (AllPairs-tail EndsBefore p parts h))

pub held_in : (at : ℤ) (p : Part) → int_lt at p.until ≡ true → Some p ≡ held at (Some p)
held_in at p h = rw h refl

pub held_out : (at : ℤ) (p : Part) → int_lt at p.until ≡ false → None ≡ held at (Some p)
held_out at p h = rw h refl
