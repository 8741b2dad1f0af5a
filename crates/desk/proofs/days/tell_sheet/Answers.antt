use Rattle.std.proofs.Common.{sym, ◌∙◌, ap, List, ℕ}
use Rattle.desk.specs.Replies.{sheet_reply}
use Rattle.history.specs.Sheets.{Text}
use Rattle.register.specs.Asked.{sheet_told}
use Rattle.desk.proofs.AnswerLemmas.{on_ok}
use Rattle.desk.proofs.DailyLemmas.{sheet_made}
use Rattle.desk.proofs.days.tell_sheet.Goals as goal

pub returns-in-Kept : goal.returns-in-Kept
returns-in-Kept g c =
    on_ok c.make-in-Kept.result _ _
    (λ is. is ∙ sheet_made c.in-Kept.text ∙ ap sheet_reply (ap sheet_told (sym c.in-Kept.is) ∙ c.in_ok-sheet.ensures))
    c.make-in-Kept.ensures

pub returns-in-Computed : goal.returns-in-Computed
returns-in-Computed g c =
    on_ok c.make-in-Computed.result _ _
    (λ is.
    is ∙ sheet_made c.as_slice.result ∙ ap (λ (text : List ℕ). sheet_reply (Text text)) c.as_slice.ensures
    ∙ ap sheet_reply (ap sheet_told (sym c.in-Computed.is) ∙ c.in_ok-sheet.ensures))
    c.make-in-Computed.ensures
