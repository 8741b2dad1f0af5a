-- The text has the bytes of the input.
use Rattle.std.proofs.Common.{ℕ, List, subst}
use Rattle.std.specs.Prelude.{IfOk, IfErr}
use Rattle.draw.specs.Runs.{IsPictureOf, IsUndrawn}
use Rattle.draw.proofs.runs.picture_of.Goals as goal

pub returns-in-Ok-clause-drawn : goal.returns-in-Ok-clause-drawn
returns-in-Ok-clause-drawn c =
    subst (λ (text : List ℕ). IfOk c.picture_of_text.result (IsPictureOf text)) c.in-Ok.ensures.cases.0 c.picture_of_text.ensures.drawn

pub returns-in-Ok-clause-undrawn : goal.returns-in-Ok-clause-undrawn
returns-in-Ok-clause-undrawn c =
    subst (λ (text : List ℕ). IfErr c.picture_of_text.result (IsUndrawn text)) c.in-Ok.ensures.cases.0 c.picture_of_text.ensures.undrawn

pub returns-in-Err-clause-undrawn : goal.returns-in-Err-clause-undrawn
returns-in-Err-clause-undrawn c = c.in-Err.ensures.cases.0
