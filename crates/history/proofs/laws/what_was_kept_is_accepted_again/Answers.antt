use Rattle.std.specs.Prelude.{[]}
use Rattle.std.proofs.Common.{sym}
use Rattle.std.proofs.lemmas.List.{append-nil}
use Rattle.history.proofs.LegalLemmas.{doubt_may_be_kept, legal_front, legal_with}
use Rattle.history.proofs.laws.what_was_kept_is_accepted_again.Goals as goal

pub returns-clause-accepted : goal.returns-clause-accepted
returns-clause-accepted c h events behind legal is = legal_front h events behind legal is

pub returns-clause-in_doubt : goal.returns-clause-in_doubt
returns-clause-in_doubt c h piece legal left =
    legal_with h h.events [] piece legal (sym (append-nil h.events)) (doubt_may_be_kept h piece left legal)
