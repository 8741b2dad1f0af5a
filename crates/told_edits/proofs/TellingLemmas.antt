-- What is told of edits that are sent one behind another.
use Rattle.std.proofs.Common.{◌≡◌, ◌≢◌, refl, sym, ◌∙◌, subst, ℕ, List, [], ◌∷◌, ◌++◌, Option, Some, None, IfSome, Result, Ok, Err, true, false}
use Rattle.std.specs.List.{concat}
use Rattle.desk.proofs.EndLemmas.{wrote_part}
use Rattle.desk.specs.Endings.{StopsWithin}
use Rattle.devices.specs.Sinks.{AreWritten}
use Rattle.edits.specs.declared.content.Edit.{Edit}
use Rattle.history.specs.Events.{History}
use Rattle.office.specs.declared.offices.Accepted.{Accepted}
use Rattle.office_inputs.specs.declared.refusals.Refusal.{Refusal}
use Rattle.told_edits.proofs.LineLemmas.{sent_more}
use Rattle.told_edits.specs.Lines.{AreSent, IsSent, told_line}
use Rattle.told_edits.specs.Telling.{AreTold}

-- what a sink has at its end, where it tells what it has
pub written_whole : (w0 w : Option (List ℕ)) (bytes : List ℕ) → IfSome w0 (λ before. w ≡ Some (before ++ bytes)) → AreWritten w0 bytes w true
written_whole None w bytes wrote = tt
written_whole (Some before) None bytes wrote = absurd (cc wrote)
written_whole (Some before) (Some now) bytes wrote = cc wrote

-- all were sent, and told
pub told_all : (end : Edit → List ℕ) (h now : History) (all sent : List Edit) (lines : List (List ℕ)) (w0 w : Option (List ℕ))
    → AreSent end h sent lines now → all ≡ sent → IfSome w0 (λ before. w ≡ Some (before ++ concat lines))
    → (written : List ℕ) × AreTold end true h all now written × AreWritten w0 written w true
told_all end h now all sent lines w0 w added is wrote = (
  concat lines,
  (lines, subst (λ (edits : List Edit). AreSent end h edits lines now) (sym is) added, refl),
  written_whole w0 w (concat lines) wrote,
)

-- a line has bytes
some_line : (end : List ℕ) (told : Result Accepted Refusal) → told_line end told ≢ []
some_line end (Ok told) none = absurd (cc none)
some_line end (Err refusal) none = absurd (cc none)

-- what was written of a line that was not written whole; of a sink that does not tell it, as if it were nothing
part_of : (end : List ℕ) (h next : History) (edit : Edit) (lines : List (List ℕ)) (line : List ℕ) (w0 w w' : Option (List ℕ))
    → IsSent end h edit line next → IfSome w0 (λ before. w ≡ Some (before ++ concat lines)) → AreWritten w line w' false
    → (written : List ℕ) × StopsWithin (concat lines) line written × AreWritten w0 written w' true
part_of end h next edit lines line None w w' one wrote put =
    (concat lines ++ [], ([], refl, (line, λ none. some_line end one.told (sym one.line_is ∙ none), refl)), tt)
part_of end h next edit lines line (Some before) w w' one wrote put =
    let part = wrote_part (Some before) w w' (concat lines) line wrote put in
    (concat lines ++ part.0, (part.0, refl, part.2), written_whole (Some before) w' (concat lines ++ part.0) part.1)

-- one was sent whose line was not written whole
pub told_short : (end : Edit → List ℕ) (h now next : History) (all sent rest : List Edit) (edit : Edit) (lines : List (List ℕ)) (line : List ℕ)
    (w0 w w' : Option (List ℕ)) → AreSent end h sent lines now → IsSent (end edit) now edit line next → all ≡ (sent ++ edit ∷ []) ++ rest
    → IfSome w0 (λ before. w ≡ Some (before ++ concat lines)) → AreWritten w line w' false
    → (written : List ℕ) × AreTold end false h all next written × AreWritten w0 written w' true
told_short end h now next all sent rest edit lines line w0 w w' added one is wrote put =
    let part = part_of (end edit) now next edit lines line w0 w w' one wrote put in (
      part.0,
      (sent ++ edit ∷ [], rest, is, (lines, line, sent_more end h now next sent lines edit line added one, part.1)),
      part.2,
    )
