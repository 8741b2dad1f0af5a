-- What is told of a measurement on a sink, in two parts.
use Rattle.std.proofs.Common.{◌≡◌, ◌≢◌, refl, sym, ◌∙◌, ap, ℕ, ◌<◌, List, [], ◌∷◌, ◌++◌, length, Bool, true, false, Option, Some, None, Result, Ok, Err, ℤ, inl, inr, append_assoc, append-nil, arith}
use Rattle.std.specs.Prelude.{codes}
use Rattle.devices.specs.Sinks.{AreWritten, IsCutShort}
use Rattle.edits.specs.declared.content.Edit.{Edit}
use Rattle.history.specs.Events.{History}
use Rattle.office.specs.declared.offices.Accepted.{Accepted}
use Rattle.office_inputs.specs.declared.refusals.Refusal.{Refusal}
use Rattle.note_loading.specs.Loading.{AreTold, IsAsked, Tells}
use Rattle.note_loading.specs.Visits.{IsEditOf}
use Rattle.note_loading.specs.declared.loading.Figures.{Figures}
use Rattle.note_loading.specs.declared.visits.Visit.{Visit}
use Rattle.told_edits.specs.Lines.{IsSent, told_line}

-- a sink that kept one text and then another kept both
both : (w0 m w : Option (List ℕ)) (text line : List ℕ) → AreWritten w0 text m true → AreWritten m line w true → AreWritten w0 (text ++ line) w true
both None m w text line first second = tt
both (Some b) None w text line first second = absurd first
both (Some b) (Some a) None text line first second = absurd second
both (Some b) (Some a) (Some now) text line first second = second ∙ ap (λ (l : List ℕ). l ++ line) first ∙ append_assoc b text line

-- what was written of a text that was not written whole; of a sink that does not tell it, as if it were nothing
record Cut (w0 w : Option (List ℕ)) (text : List ℕ) : Type 0 where
  part : List ℕ
  short : IsCutShort part text
  wrote : AreWritten w0 part w true

cut : (w0 w : Option (List ℕ)) (text : List ℕ) → text ≢ [] → AreWritten w0 text w false → Cut w0 w text
cut None w text some put = record { part = []; short = (text, some, refl); wrote = tt }
cut (Some b) None text some put = absurd put
cut (Some b) (Some now) text some put = record { part = put.0; short = put.2; wrote = put.1 }

some_line : (end : List ℕ) (told : Result Accepted Refusal) → told_line end told ≢ []
some_line end (Ok told) none = absurd (cc none)
some_line end (Err refusal) none = absurd (cc none)

some_text : (text : List ℕ) → 0 < length text → text ≢ []
some_text [] l none = absurd (omega arith)
some_text (b ∷ text) l none = absurd (cc none)

-- the sink failed within the figures
pub told_cut : (v : Visit) (figures : Figures) (h : History) (w0 w : Option (List ℕ)) → 0 < length figures.text → AreWritten w0 figures.text w false
    → AreTold v figures h false h w0 w
told_cut v figures h w0 w some put =
    let c = cut w0 w figures.text (some_text figures.text some) put in
    (c.part, inl (refl, c.short), c.wrote)

-- the office was asked, and its answer was told, or cut
pub told_asked : (v : Visit) (figures : Figures) (h after : History) (edit : Edit) (done : Bool) (w0 m w : Option (List ℕ)) → AreWritten w0 figures.text m true
    → IsEditOf v figures.total edit → (line : List ℕ) × IsSent (codes "\n") h edit line after × AreWritten m line w done
    → AreTold v figures h done after w0 w
told_asked v figures h after edit true w0 m w wrote is told =
    (figures.text ++ told.0, (told.0, record { edit = edit; edit_is = is; sent = told.1 }, refl), both w0 m w figures.text told.0 wrote told.2)
told_asked v figures h after edit false w0 m w wrote is told =
    let c = cut m w told.0 (λ none. some_line (codes "\n") told.1.told (sym told.1.line_is ∙ none)) told.2 in
    (figures.text ++ c.part, inr (told.0, record { edit = edit; edit_is = is; sent = told.1 }, (c.part, refl, c.short)), both w0 m w figures.text c.part wrote c.wrote)
