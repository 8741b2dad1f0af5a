-- The parts stay where those of the two periods of one start are equal, or where the one that is put has none.
use Rattle.std.specs.Prelude.{not}
use Rattle.std.proofs.Common.{ap, sym, ◌∙◌}
use Rattle.ratings.specs.Numbered.{period_from}
use Rattle.ratings.specs.Spans.{Span}
use Rattle.ratings.proofs.PeriodChangeLemmas.{found_begins, put_found, put_alone}
use Rattle.ratings.proofs.station_ratings.Ratings.keeps_parts_with.Goals as goal

pub stays_in_place-requires : goal.stays_in_place-requires
stays_in_place-requires c =
    found_begins c.period.inside.from c.self.inside.periods.list c.in-Some.kept (sym c.in-Some.is ∙ c.starting_at.ensures) ∙ ap (λ (s : Span). s.from) c.period.view_is

pub returns-in-Some : goal.returns-in-Some
returns-in-Some c =
    put_found c.args.lo c.args.hi _ c.args.self.now c.self.view_is c.self.invariant c.stays_in_place.result c.args.period.now c.in-Some.kept
    (sym c.in-Some.is ∙ (c.starting_at.ensures ∙ ap (λ (s : Span). period_from s.from c.self.inside.periods.list) c.period.view_is)) c.stays_in_place.ensures

pub returns-in-None : goal.returns-in-None
returns-in-None c =
    put_alone c.args.lo c.args.hi _ c.args.self.now c.self.view_is c.self.invariant _ c.args.period.now
    (sym c.in-None.is ∙ (c.starting_at.ensures ∙ ap (λ (s : Span). period_from s.from c.self.inside.periods.list) c.period.view_is)) (ap not c.meets.ensures)
