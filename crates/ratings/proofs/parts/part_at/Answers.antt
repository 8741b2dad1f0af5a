-- The part in force is the last that has begun, if it has not ended.
use Rattle.std.proofs.Common.{◌≡◌, ◌∙◌, ap, sym, List, Option, Some, None, ℤ, AllPairs}
use Rattle.std.specs.Prelude.{filter, int_le, ◌≤ℤ◌}
use Rattle.rising.specs.Ends.{last}
use Rattle.ratings.specs.Parts.{Part, part_at}
use Rattle.ratings.proofs.PartLemmas.{parts_rise, part_last, held, held_in, held_out}
use Rattle.ratings.proofs.parts.part_at.Goals as goal

-- what is in force, by the parts that have begun
by_front : (at : ℤ) (parts front : List Part) (o : Option Part) → AllPairs (λ (p : Part) (q : Part). p.until ≤ℤ q.from) parts
    → front ≡ filter (λ (p : Part). int_le p.from at) parts → o ≡ last front → held at o ≡ part_at at parts
by_front at parts front o apart e h = ap (held at) (h ∙ ap last e) ∙ sym (part_last at parts apart)

pub count_to-requires : goal.count_to-requires
count_to-requires c = parts_rise c.args.parts.now c.requires

pub returns-in_err-last : goal.returns-in_err-last
returns-in_err-last c =
    rw c.from_residual.ensures
    (by_front c.args.at c.args.parts.now c.split_at.result.0.now None c.requires.apart (c.split_at.ensures.front ∙ c.count_to.ensures.front) c.in_err-last.ensures.value)

pub returns-then-lasts : goal.returns-then-lasts
returns-then-lasts c =
    held_in c.args.at c.in_ok-last.last.now (sym c.lasts.ensures ∙ c.if-lasts.true)
    ∙ by_front c.args.at c.args.parts.now c.split_at.result.0.now (Some c.in_ok-last.last.now) c.requires.apart (c.split_at.ensures.front ∙ c.count_to.ensures.front) c.in_ok-last.ensures.value

pub returns-else-lasts : goal.returns-else-lasts
returns-else-lasts c =
    held_out c.args.at c.in_ok-last.last.now (sym c.lasts.ensures ∙ c.if-lasts.false)
    ∙ by_front c.args.at c.args.parts.now c.split_at.result.0.now (Some c.in_ok-last.last.now) c.requires.apart (c.split_at.ensures.front ∙ c.count_to.ensures.front) c.in_ok-last.ensures.value
