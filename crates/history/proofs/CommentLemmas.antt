-- The format of the journal holds the comment of each accepted edit.
use Rattle.std.specs.Prelude.{◌≡◌, ℕ, slice_get, Some}
use Rattle.std.proofs.Common.{subst}
use Rattle.edits.specs.declared.content.Edit.{Edit}
use Rattle.history.specs.Accepted.{edits_of}
use Rattle.history.specs.Events.{History}
use Rattle.history.specs.Legal.{IsLegal}
use Rattle.history.proofs.RepeatLemmas.{was_accepted}
use Rattle.records.specs.Payloads.{Holds}

pub comment_held : (h : History) (place : ℕ) (edit : Edit) → IsLegal h → slice_get (edits_of h.events) place ≡ Some edit → Holds h.format edit.comment
comment_held h place edit legal is =
    let was = was_accepted h.events place edit is in
    subst (λ (e : Edit). Holds h.format e.comment) was.edit_is (legal.orderly.accepted was.older was.newer was.piece was.events_are).holds
