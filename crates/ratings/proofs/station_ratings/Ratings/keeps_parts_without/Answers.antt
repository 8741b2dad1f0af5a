-- The parts stay where the period that is taken out has none.
use Rattle.std.specs.Prelude.{not}
use Rattle.std.proofs.Common.{ap, refl, sym, ◌∙◌}
use Rattle.ratings.proofs.PeriodChangeLemmas.{taken_found, none_taken}
use Rattle.ratings.proofs.station_ratings.Ratings.keeps_parts_without.Goals as goal

pub returns-in-Some : goal.returns-in-Some
returns-in-Some c =
    taken_found c.args.lo c.args.hi _ c.args.self.now c.self.view_is c.self.invariant _ c.args.from c.in-Some.kept
    (sym c.in-Some.is ∙ c.starting_at.ensures) (ap not c.meets.ensures)

pub returns-in-None : goal.returns-in-None
returns-in-None c =
    none_taken c.args.lo c.args.hi _ c.args.self.now c.self.view_is c.self.invariant _ c.args.from
    (sym c.in-None.is ∙ c.starting_at.ensures) refl
