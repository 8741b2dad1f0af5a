use Rattle.std.proofs.Common.{◌∙◌, ap, sym, rules}
use Rattle.register.specs.Asked.{answer_told}
use Rattle.trial.proofs.SettledLemmas.{mean_answered, mean_told}
use Rattle.trial.proofs.counts.mean_on.Goals as goal

pub returns-in-Computed-clause-mean : goal.returns-in-Computed-clause-mean
returns-in-Computed-clause-mean g c =
    c.mean_of_value.ensures.mean
    ∙ mean_answered c.args.office.now.register.history.events c.requires.settled c.args.site c.args.day _ c.requires.day c.in-Computed.ensures.told

pub returns-in-NoStation : goal.returns-in-NoStation
returns-in-NoStation g c = record {
  mean = sym (ap (λ r. mean_told (answer_told r)) c.in-NoStation.is)
      ∙ mean_answered c.args.office.now.register.history.events c.requires.settled c.args.site c.args.day (answer_told c.answer.result) c.requires.day c.answer.ensures.told;
  few = search rules;
}

pub returns-in-Pending : goal.returns-in-Pending
returns-in-Pending g c = record {
  mean = sym (ap (λ r. mean_told (answer_told r)) c.in-Pending.is)
      ∙ mean_answered c.args.office.now.register.history.events c.requires.settled c.args.site c.args.day (answer_told c.answer.result) c.requires.day c.answer.ensures.told;
  few = search rules;
}
