-- Asks that are answered in one holding.
use Rattle.std.proofs.Common.{◌≡◌, ℕ, zero, suc, List, [], ◌∷◌, Result, OnOk, OnErr, refl, sym, ◌∙◌, ap, subst, append-nil, arith}
use Rattle.std.proofs.lemmas.List.{append_cancel_left}
use Rattle.desk.specs.Answering.{told_bytes}
use Rattle.desk.specs.Behind as behind
use Rattle.desk.specs.Asked.{IsReading}
use Rattle.desk.specs.Behind.{IsAnsweredAtOnce}
use Rattle.desk.specs.Replies.{IsAnswered, reply_to}
use Rattle.desk.specs.Replying.{memory_reply}
use Rattle.desk.specs.declared.answers.Told.{Told}
use Rattle.desk.specs.declared.answers.Told.TheVariants as tells
use Rattle.desk.proofs.AnswerLemmas.{by_reading, forgone, memory_leaves}
use Rattle.shared_office.proofs.PassageLemmas.{go_on_none}
use Rattle.edits.specs.declared.content.Edit.{Edit}
use Rattle.history.specs.After.{go_on}
use Rattle.history.specs.Events.{Event, History}
use Rattle.http_api.specs.declared.asks.Ask.{Ask}
use Rattle.http_api.specs.declared.asks.Ask.TheVariants as asks
use Rattle.shared_office.specs.Entries.{history_of}
use Rattle.shared_office.specs.Holdings.{Holding}
use Rattle.shared_office.specs.Passing.{adding}
use Rattle.shared_office.specs.declared.entries.Entry.{Entry}
use Rattle.shared_office.specs.declared.entries.Fixed.{Fixed}

module _ (fixed : Fixed) (from : List Entry) where
  -- an ask that only reads is answered in one holding
  in_one : (ask : Ask) (reply : List ℕ) → IsReading ask → IsAnsweredAtOnce fixed ask reply (adding from [] ∷ [])
      → behind.IsAnswered fixed ask reply (adding from [] ∷ [])
  in_one (asks.Edit edit) reply reads is = is
  in_one (asks.Station site) reply reads is = is
  in_one (asks.DayOf site day) reply reads is = is
  in_one (asks.SheetOf site day) reply reads is = is
  in_one (asks.Daily site from' to) reply reads is = is
  in_one (asks.Measurement site number) reply reads is = is
  in_one (asks.EditOf number) reply reads is = is
  in_one (asks.Turns zero) reply reads is = is
  in_one (asks.Turns (suc n)) reply reads is = absurd (omega (arith, reads))
  in_one asks.Settle reply reads is = absurd reads
  in_one asks.Counts reply reads is = is

  pub read_in_one : {X E : Type 0} (h : History) (ask : Ask) (made : Result X E) (told : Told) (reply : List ℕ) → history_of fixed from ≡ h → IsReading ask
      → OnOk made (reply ≡ reply_to h ask) → OnOk made (told ≡ tells.Made) → OnErr made (told ≡ tells.NoMemory)
      → behind.IsAnswered fixed ask (told_bytes told reply) (adding from [] ∷ [])
  read_in_one h ask made told reply is reads due ok err =
      in_one ask (told_bytes told reply) reads (
        from,
        [],
        refl,
        subst (λ (k : History). IsAnswered k ask (told_bytes told reply) (go_on k [])) (sym is)
            (subst (λ (k : History). IsAnswered h ask (told_bytes told reply) k) (sym (go_on_none h)) (by_reading made told h ask reply reads due ok err)),
      )

  -- an edit that there was no memory for
  pub edit_forgone : (edit : Edit) → behind.IsAnswered fixed (asks.Edit edit) memory_reply (adding from [] ∷ [])
  edit_forgone edit = (from, [], refl, forgone (history_of fixed from) edit memory_reply (go_on (history_of fixed from) []) refl (go_on_none (history_of fixed from)))

  -- an edit that was taken
  pub edit_in_one : (h next : History) (added : List Event) (edit : Edit) (reply : List ℕ) → history_of fixed from ≡ h → next ≡ go_on h added
      → IsAnswered h (asks.Edit edit) reply next → behind.IsAnswered fixed (asks.Edit edit) reply (adding from added ∷ [])
  edit_in_one h next added edit reply is on answered = (
    from,
    added,
    refl,
    subst (λ (k : History). IsAnswered k (asks.Edit edit) reply (go_on k added)) (sym is)
        (subst (λ (k : History). IsAnswered h (asks.Edit edit) reply k) on answered),
  )

-- an edit that is told want of memory adds nothing
nothing_added : (h : History) (added : List Event) → go_on h added ≡ h → added ≡ []
nothing_added h added same = append_cancel_left h.events added [] (ap (λ (x : History). x.events) same ∙ sym (append-nil h.events))

pub forgone_adds_nothing : (fixed : Fixed) (edit : Edit) (holdings : List (Holding (List Entry))) → behind.IsAnswered fixed (asks.Edit edit) memory_reply holdings
    → (from : List Entry) × (holdings ≡ adding from [] ∷ [])
forgone_adds_nothing fixed edit holdings is =
    let none = nothing_added (history_of fixed is.0) is.1 (memory_leaves (history_of fixed is.0) edit (go_on (history_of fixed is.0) is.1) is.3) in
    (is.0, is.2 ∙ ap (λ (added : List Event). adding is.0 added ∷ []) none)
