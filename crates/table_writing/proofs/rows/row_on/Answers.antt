use Rattle.std.proofs.Common.{ap, sym, ◌∙◌}
use Rattle.register.specs.Asked.{answer_told}
use Rattle.table_writing.proofs.CountedLemmas.{array_answered, value_counted}
use Rattle.table_writing.proofs.rows.row_on.Goals as goal

pub returns-in-Computed-clause-counted : goal.returns-in-Computed-clause-counted
returns-in-Computed-clause-counted g c = λ has.
    let told = sym (ap answer_told c.in-Computed.is) ∙ c.answer.ensures.told in
    value_counted c.in-Computed.value.now c.state_of.result c.state_of.ensures.state c.state_of.ensures.counted
    (array_answered c.args.office.now.register.history.events c.args.site _ c.in-Computed.value.now told has)
