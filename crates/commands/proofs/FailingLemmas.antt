-- No more replies of a run, and no more lines, tell that the journal failed than the disk has counted faults.
use Rattle.std.proofs.Common.{◌≡◌, ℕ, ◌+◌, ◌-◌, ◌≤◌, Bool, true, false, List, [], ◌∷◌, ◌++◌, length, refl, sym, ◌∙◌, ap, subst, arith}
use Rattle.std.specs.List.{concat}
use Rattle.std.specs.Prelude.{cond, count_by}
use Rattle.std.proofs.lemmas.List.{length-map}
use mathlib.Core.List.{IsPrefix}
use Rattle.desk.proofs.FaultLemmas.{all_opened}
use Rattle.desk.proofs.SharedFaultLemmas.{few_replies}
use Rattle.desk.specs.Replies.{AreReplies, tells_fault}
use Rattle.desk.specs.declared.sessions.SessionEnd.{SessionEnd}
use Rattle.devices.specs.Doors.{Connections, Ends}
use Rattle.devices.specs.declared.disks.Disk.{Ghosts}
use Rattle.edits.specs.declared.content.Edit.{Edit}
use Rattle.history.specs.After.{reopen}
use Rattle.history.specs.Events.{History}
use Rattle.office.specs.Counting.{fault_count}
use Rattle.office_inputs.specs.Usual.{usual}
use Rattle.records.specs.Sheets.{Record}
use Rattle.records.specs.declared.formats.Format.{Format}
use Rattle.serving.proofs.BesideLemmas.{connections_at}
use Rattle.serving.proofs.CrewLemmas.{follow_out}
use Rattle.serving.proofs.DrainLemmas.{none_behind_all}
use Rattle.serving.proofs.EventLemmas.{open_before}
use Rattle.serving.proofs.FailingLemmas.{few_fail, front_begins}
use Rattle.serving.proofs.WorkedLemmas.{IsAny}
use Rattle.serving.specs.Failing.{failed_in}
use Rattle.shared_office.specs.Entries.{before_ending, events_in}
use Rattle.shared_office.specs.Passages.{RoseBy}
use Rattle.shared_office.specs.Passing.{fixed_in}
use Rattle.shared_office.specs.declared.entries.Entry.{Entry}
use Rattle.shared_office.specs.declared.entries.Entry.TheVariants.{Happened}
use Rattle.told_edits.proofs.FaultLemmas.{all_told}
use Rattle.told_edits.specs.Lines.{AreSent, IsSent, tells_fault_line}
use Rattle.turnstile.proofs.ListLemmas.{times-append}
use Rattle.turnstile.specs.Places.{places, times}
use Rattle.wire.specs.declared.messages.Message.{Message}
use Rattle.commands.proofs.SharingLemmas.{not_ended, same_history}
use Rattle.commands.specs.Answered.{TellsNoFault}
use Rattle.commands.specs.Beside.{WorksBeside}
use Rattle.commands.specs.Opening.{Carries, LeadsTo}
use Rattle.commands.specs.Serving.{AreServedBeside, failed_beside}
use Rattle.commands.specs.Sharing.{begun}

-- the faults of a history are those of its list
faults_begun : (h : History) → fault_count (events_in (begun h)) ≡ fault_count h.events
faults_begun h = ap (λ (k : History). fault_count k.events) (same_history h)

-- of `serve`
pub serve_fails : {D : Type 0} (g : Ghosts D) (workers : ℕ) (told : Connections) (h last : History) (served : AreServedBeside g workers told h last)
    → fault_count h.events + failed_beside served ≤ fault_count last.events
serve_fails g workers told h last a =
    let b = a.beside in
    let list : List Entry = a.list in
    let front : List Entry = before_ending list in
    let rest : List Entry = before_ending b.grows.0 in
    let whole : begun h ++ rest ≡ front =
    sym (ap (λ (l : List Entry). before_ending l) (sym b.grows.1) ∙ open_before (begun h) b.grows.0 (not_ended h.events)) in
    let few = few_fail (fixed_in a.lock) (begun h) rest list told.back told.given b.connections b.each whole
    (λ place behind. none_behind_all IsAny front place b.connections behind
    (connections_at (fixed_in a.lock) (length (begun h)) front told.back 1 told.given b.connections b.each))
    (λ place.
    let t = b.tally place in
    let x = times-append place (concat b.connections) (concat b.workers ++ length front ∷ []) in
    let o = subst (λ (n : ℕ). times place a.places ≡ times place (places n (length list - n))) (sym (length-map h.events Happened)) (a.each_once place) in
    omega (arith, t, x, o)) in
    let first = faults_begun h in
    let is = ap (λ (k : History). fault_count k.events) a.last_is in
    omega (arith, few, first, is)

-- of `batch`
pub batch_fails : {D : Type 0} (g : Ghosts D) (workers : ℕ) (came went : Ends) (end : SessionEnd) (h last : History)
    (worked : WorksBeside g workers came went end h last) → fault_count h.events + failed_in worked.beside.ends_in ≤ fault_count last.events
batch_fails g workers came went end h last a =
    let b = a.beside in
    let list : List Entry = a.list in
    let on : IsPrefix b.told_at list = subst (λ (l : List Entry). IsPrefix l list) a.front (front_begins list) in
    let few = few_replies (fixed_in a.lock) (begun h) b.holdings list b.ends_in.messages b.ends_in.replies
    (follow_out (begun h) b.holdings b.told_at list b.follow on) b.ends_in.answers in
    let first = faults_begun h in
    let is = ap (λ (k : History). fault_count k.events) a.last_is in
    omega (arith, few, first, is)

-- one text counts for one, or for none
count_of_one : (tells : List ℕ → Bool) (text : List ℕ) → count_by tells (text ∷ []) ≡ 0 + cond {A = ℕ} (tells text) 1 0
count_of_one tells text = refl

tells_none : (told : Bool) → cond {A = ℕ} told 1 0 ≡ 0 → told ≡ false
tells_none true none = absurd (cc none)
tells_none false none = refl

-- one edit is one of a list
sent_alone : (end : List ℕ) (h : History) (edit : Edit) (line : List ℕ) (last : History) → IsSent end h edit line last
    → AreSent (λ edit. end) h (edit ∷ []) (line ∷ []) last
sent_alone end h edit line last sent = (last, sent, refl)

-- where no fault joined the history, no line tells one
pub no_line_fails : (h last : History) → fault_count last.events ≡ 0 → TellsNoFault h last
no_line_fails h last none = record {
  many = λ end edits lines sent.
      let told = all_told end h edits lines last sent in
      omega (arith, told, none);
  one = λ end edit line sent.
      let told = all_told (λ edit. end) h (edit ∷ []) (line ∷ []) last (sent_alone end h edit line last sent) in
      let is = count_of_one tells_fault_line line in
      tells_none (tells_fault_line line) (omega (arith, told, none, is));
}

-- a disk that has counted some faults has counted fewer
fewer : (n m faults : ℕ) → n ≤ m → RoseBy m 0 faults → RoseBy n 0 faults
fewer n m faults few rose = omega (arith, few, rose)

-- and each of them the disk that is left has counted
module _ {D : Type 0} (g : Ghosts D) (format : Format) (pieces : List Record) (last : History) (found left : D) where
  pub alone_counted : (messages : List Message) (replies : List (List ℕ)) → AreReplies (reopen usual format pieces) messages replies last
      → Carries g pieces last found left → RoseBy (count_by tells_fault replies) 0 (g.faults left)
  alone_counted messages replies answers carries =
      subst (λ (n : ℕ). RoseBy n 0 (g.faults left)) (all_opened usual format pieces messages replies last answers) carries.causes

  counted : (failed : ℕ) → fault_count (reopen usual format pieces).events + failed ≤ fault_count last.events → LeadsTo g pieces last found left
      → RoseBy failed 0 (g.faults left)
  counted failed few leads = fewer failed (fault_count last.events) (g.faults left) (omega (arith, few)) leads.causes

  pub beside_counted : (workers : ℕ) (came went : Ends) (end : SessionEnd)
      (worked : WorksBeside g workers came went end (reopen usual format pieces) last) → LeadsTo g pieces last found left
      → RoseBy (failed_in worked.beside.ends_in) 0 (g.faults left)
  beside_counted workers came went end worked leads =
      counted (failed_in worked.beside.ends_in) (batch_fails g workers came went end (reopen usual format pieces) last worked) leads

  pub serve_counted : (workers : ℕ) (told : Connections) (served : AreServedBeside g workers told (reopen usual format pieces) last)
      → LeadsTo g pieces last found left → RoseBy (failed_beside served) 0 (g.faults left)
  serve_counted workers told served leads =
      counted (failed_beside served) (serve_fails g workers told (reopen usual format pieces) last served) leads

  pub lines_counted : (end : Edit → List ℕ) (edits : List Edit) (lines : List (List ℕ)) → AreSent end (reopen usual format pieces) edits lines last
      → Carries g pieces last found left → RoseBy (count_by tells_fault_line lines) 0 (g.faults left)
  lines_counted end edits lines sent carries =
      let told = all_told end (reopen usual format pieces) edits lines last sent in
      fewer (count_by tells_fault_line lines) (fault_count last.events) (g.faults left) (omega (arith, told)) carries.causes

  pub line_counted : (end : List ℕ) (edit : Edit) (line : List ℕ) → IsSent end (reopen usual format pieces) edit line last
      → Carries g pieces last found left → tells_fault_line line ≡ true → RoseBy 1 0 (g.faults left)
  line_counted end edit line sent carries tells =
      subst (λ (n : ℕ). RoseBy n 0 (g.faults left)) (count_of_one tells_fault_line line ∙ ap (λ (told : Bool). 0 + cond {A = ℕ} told 1 0) tells)
      (lines_counted (λ edit. end) (edit ∷ []) (line ∷ []) (sent_alone end (reopen usual format pieces) edit line last sent) carries)
