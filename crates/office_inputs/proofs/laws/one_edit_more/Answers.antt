-- A fold over one element more.
use Rattle.office_inputs.proofs.LawLemmas.{edit_more}
use Rattle.office_inputs.proofs.laws.one_edit_more.Goals as goal

pub returns : goal.returns
returns c = edit_more
