-- How a trial goes on by what its office tells of an edit.
use Rattle.std.proofs.Common.{◌≡◌, ℕ, ◌+◌, Some, Result, Ok, Err, true, false, ap, sym, ◌∙◌, arith}
use Rattle.edits.specs.declared.content.Edit.{Edit}
use Rattle.history.specs.After.{after_edit}
use Rattle.history.specs.Events.{History}
use Rattle.history.specs.Verdicts.{Verdict, Accepts, Refuses, Repeats, verdict}
use Rattle.office.specs.Edits.{Edits, IsRefused, IsTaken}
use Rattle.office.specs.declared.offices.Accepted.{Accepted}
use Rattle.office_inputs.specs.declared.refusals.Refusal.{Refusal}
use Rattle.office_inputs.specs.declared.refusals.Refusal.TheVariants.{NoMemory, JournalFault}
use Rattle.trial.specs.Refusals.{locks}
use Rattle.trial.specs.Told.{locks_told}
use Rattle.trial.specs.Trials.{Trial, after_asking, after_verdict}

-- one edit more was asked, and so many of it were locked
abbrev pub asked_one : Trial → History → ℕ → Trial
asked_one t new count = record { history = new; asked = t.asked + 1; locked = t.locked + count }

by_verdict : (t : Trial) (edit : Edit) (new : History) (count : ℕ) (v : Verdict) → verdict t.history edit ≡ v → asked_one t new count ≡ after_verdict v t edit
    → asked_one t new count ≡ after_asking t edit
unfolding after_asking
by_verdict t edit new count v is e = e ∙ ap (λ (w : Verdict). after_verdict w t edit) (sym is)

none_locked : (t : Trial) (new old : History) → new ≡ old → asked_one t new 0 ≡ record { history = old; asked = t.asked + 1; locked = t.locked }
none_locked t new old e =
    let count : t.locked + 0 ≡ t.locked = omega arith in
    ap (λ (h : History). asked_one t h 0) e ∙ ap (λ (n : ℕ). record { history = old; asked = t.asked + 1; locked = n }) count

taken : (t : Trial) (edit : Edit) (new : History) (number count : ℕ) (repeated : _) → IsTaken t.history edit new number repeated → 0 ≡ count
    → asked_one t new count ≡ after_asking t edit
taken t edit new number count true h e =
    ap (asked_one t new) (sym e) ∙ by_verdict t edit new 0 (Repeats number) h.0 (none_locked t new t.history h.1)
taken t edit new number count false h e =
    ap (asked_one t new) (sym e) ∙ by_verdict t edit new 0 Accepts h.0 (none_locked t new (after_edit t.history edit) h.2)

refused : (t : Trial) (edit : Edit) (new : History) (refusal : Refusal) (count : ℕ) → IsRefused t.history edit new refusal → locks refusal ≡ count
    → asked_one t new count ≡ after_asking t edit
refused t edit new refusal count h e =
    ap (asked_one t new) (sym e) ∙ by_verdict t edit new (locks refusal) (Refuses refusal) h.0 (ap (λ (n : History). asked_one t n (locks refusal)) h.1)

some_is : (a b : ℕ) → Some a ≡ Some b → a ≡ b
some_is a b e = cc e

-- an edit was asked, and the office said what counts
pub told_asked : (t : Trial) (edit : Edit) (new : History) (told : Result Accepted Refusal) (count : ℕ) → Edits t.history edit new told
    → locks_told told ≡ Some count → asked_one t new count ≡ after_asking t edit
told_asked t edit new (Ok told) count h e = taken t edit new told.number count told.repeated h (some_is 0 count e)
told_asked t edit new (Err NoMemory) count h e = absurd (cc e)
told_asked t edit new (Err (JournalFault in_doubt)) count h e = absurd (cc e)
told_asked t edit new (Err refusal) count h e = refused t edit new refusal count h (some_is (locks refusal) count e)
