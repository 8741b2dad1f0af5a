-- The end is searched among the readings from the start on.
use Rattle.std.specs.Prelude.{int_lt, int_le}
use Rattle.std.proofs.Common.{◌∙◌, ap, sym, subst}
use Rattle.rising.proofs.Placing.{filter_rises}
use Rattle.readings.specs.Halves.{joined}
use Rattle.readings.specs.Readings.{IsRising, instant_of, before_instant, from_instant}
use Rattle.readings.proofs.NearLemmas.{before_from, from_from}
use Rattle.readings.proofs.halves.Halves.parts.Goals as goal

pub split_few_at_key-requires : goal.split_few_at_key-requires
split_few_at_key-requires c =
    subst IsRising (sym c.split_at_key.ensures.from) (filter_rises instant_of (λ r. int_le c.args.a r.at) (joined c.args.self.now) c.requires)

pub returns-clause-day : goal.returns-clause-day
returns-clause-day c =
    c.split_few_at_key.ensures.before ∙ ap (before_instant c.args.b) c.split_at_key.ensures.from ∙ before_from c.args.b c.args.a (joined c.args.self.now)

pub returns-clause-behind : goal.returns-clause-behind
returns-clause-behind c = λ l.
    c.split_few_at_key.ensures.from ∙ ap (from_instant c.args.b) c.split_at_key.ensures.from ∙ from_from c.args.a c.args.b (joined c.args.self.now) l

pub returns-clause-rising : goal.returns-clause-rising
returns-clause-rising c =
    let rest : IsRising (joined c.split_at_key.result.1) =
    subst IsRising (sym c.split_at_key.ensures.from) (filter_rises instant_of (λ r. int_le c.args.a r.at) (joined c.args.self.now) c.requires) in (
      subst IsRising (sym c.split_at_key.ensures.before) (filter_rises instant_of (λ r. int_lt r.at c.args.a) (joined c.args.self.now) c.requires),
      (
        subst IsRising (sym c.split_few_at_key.ensures.before) (filter_rises instant_of (λ r. int_lt r.at c.args.b) (joined c.split_at_key.result.1) rest),
        subst IsRising (sym c.split_few_at_key.ensures.from) (filter_rises instant_of (λ r. int_le c.args.b r.at) (joined c.split_at_key.result.1) rest),
      ),
    )
