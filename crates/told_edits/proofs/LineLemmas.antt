-- The lines of edits, one behind another.
use Rattle.std.proofs.Common.{refl, subst, ℕ, List, [], ◌∷◌, ◌++◌}
use Rattle.edits.specs.declared.content.Edit.{Edit}
use Rattle.history.specs.Events.{History}
use Rattle.told_edits.specs.Lines.{AreSent, IsSent}

-- one more edit is sent behind these
pub sent_more : (end : Edit → List ℕ) (h now next : History) (edits : List Edit) (lines : List (List ℕ)) (edit : Edit) (line : List ℕ)
    → AreSent end h edits lines now → IsSent (end edit) now edit line next → AreSent end h (edits ++ edit ∷ []) (lines ++ line ∷ []) next
sent_more end h now next [] [] edit line sent one = (next, subst (λ (x : History). IsSent (end edit) x edit line next) sent one, refl)
sent_more end h now next [] (l ∷ lines) edit line sent one = absurd sent
sent_more end h now next (e ∷ edits) [] edit line sent one = absurd sent
sent_more end h now next (e ∷ edits) (l ∷ lines) edit line sent one =
    (sent.0, sent.1, sent_more end sent.0 now next edits lines edit line sent.2 one)
