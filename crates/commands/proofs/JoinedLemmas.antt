-- What is left of runs of `batch`, one behind another.
use Rattle.std.proofs.Common.{◌≡◌, ◌⊎◌, ℕ, ◌≤◌, List, [], ◌∷◌, ◌++◌, length, Option, Some, None, IfSome, IsSome, IsSomeAnd, Result, Ok, Err, refl, sym, ◌∙◌, ap, subst, inl, inr, ⊎_elim, append-nil, append_assoc, arith}
use Rattle.std.specs.Prelude.{⊤}
use mathlib.Core.List.{IsPrefix}
use Rattle.command_words.specs.Words.{Batch}
use Rattle.desk.proofs.CourseLemmas.{at_history, course_of, course_over}
use Rattle.desk.specs.declared.sessions.SessionEnd.{SessionEnd}
use Rattle.devices.specs.Cabinets.{Place, Free, Kept, Out}
use Rattle.devices.specs.declared.disks.Disk.{Ghosts}
use Rattle.history.proofs.EventLemmas.{accepted-append, accepted_all}
use Rattle.history.specs.Accepted.{accepted}
use Rattle.history.specs.After.{doubt, go_on, reopen}
use Rattle.history.specs.Events.{Event, History}
use Rattle.journal.proofs.Moments.{widened}
use Rattle.journal.proofs.Walks.{one_list}
use Rattle.journal.specs.JournalBytes.{IsJournalOf, StandsFor}
use Rattle.journal.specs.Moments.{SyncsFirst}
use Rattle.journal.specs.declared.opening.OpenFault.{OpenFault}
use Rattle.office.proofs.CourseLemmas.{adds_steps}
use Rattle.office.proofs.StopLemmas.{left_in}
use Rattle.office.specs.Stops.{IsLeft, IsLeftBefore, in_flight}
use Rattle.office_inputs.specs.Usual.{usual}
use Rattle.office_inputs.specs.declared.staged.StagedEdit.TheVariants.{Part}
use Rattle.records.specs.Sheets.{Record}
use Rattle.records.specs.declared.formats.Format.{Format}
use Rattle.records.specs.declared.formats.Format.TheVariants.{Second}
use Rattle.register.specs.Registered.{NoneOut, Registered}
use Rattle.station_inputs.specs.declared.staged.Staged.TheVariants.{Nothing}
use Rattle.commands.specs.Batch.{ServesInput}
use Rattle.commands.specs.Joined.{AreOneBehindAnother, BehindTheEnd, Has, HasOrLeaves, IsFoundBy, IsFrontOf, IsTold, IsUnplayed, LeavesFor, MayLeave, Plays, Run, Stop, StopsWithin, Stretch, Within}
use Rattle.commands.specs.Opening.{Carries, GoesOnAt, GoesOnUnder, IsLeftOn, StoodUnopened}
use Rattle.commands.specs.Places.{HasKept, StaysWith}
use Rattle.commands.specs.Runs.{Runs}
use Rattle.commands.specs.Worlds.{Told, World}

-- the front of a front
begins_further : {A : Type 0} (xs ys zs : List A) → IsPrefix xs ys → IsPrefix ys zs → IsPrefix xs zs
begins_further {A} xs ys zs first second = (
  first.0 ++ second.0,
  sym (append_assoc xs first.0 second.0) ∙ ap (λ (l : List A). l ++ second.0) first.1 ∙ second.1,
)

-- a list, and at most one more
pub record AndMore (records next : List Record) : Type 0 where
  pub more : List Record
  pub few : length more ≤ 1
  pub is : next ≡ records ++ more

-- what stands for some records, or for these and one more, is the journal of these or of these and one more
pub stands_more : (format : Format) (records : List Record) (o : Option Record) (image : List ℕ) (next : List Record)
    → IsJournalOf format next image → StandsFor format records o image → AndMore records next
stands_more format records None image next journal stands =
    record { more = []; few = omega arith; is = one_list format next records image journal stands ∙ sym (append-nil records) }
stands_more format records (Some last) image next journal stands = elim stands [
  | inl without ↦
      record { more = []; few = omega arith; is = one_list format next records image journal without ∙ sym (append-nil records) }
  | inr with_last ↦
      record { more = last ∷ []; few = omega arith; is = one_list format next (records ++ last ∷ []) image journal with_last }
]

before_more : (h : History) (behind : List Event) (image : List ℕ) (next : List Record) → IsJournalOf h.format next image
    → IsLeftBefore h behind image → AndMore (accepted h.events) next
before_more h [] image next journal left = stands_more h.format (accepted h.events) (doubt h) image next journal left
before_more h (event ∷ behind) image next journal left = elim left [
  | inl here ↦ stands_more h.format (accepted h.events) (doubt h) image next journal here
  | inr flight ↦ stands_more h.format (accepted h.events) (in_flight event) image next journal flight
]

-- of whatever records it is a journal, it is one in the format of the run
format_left : (stop : Stop) (run : Run) (other : Format) (image : List ℕ) (next : List Record) → MayLeave stop run image
    → IsJournalOf other next image → other ≡ run.last.format
format_left BehindTheEnd run other image next left journal =
    left_in run.last [] other next image left journal
format_left Within run other image next left journal =
    left_in (go_on (reopen usual run.last.format run.found) left.since) left.behind other next image left.left journal

-- so what another run finds on it is found in that format
found_as : (stop : Stop) (first second : Run) (image : List ℕ) → MayLeave stop first image → IsJournalOf second.last.format second.found image
    → IsFoundBy stop first second
found_as stop first second image left journal =
    let same = format_left stop first second.last.format image second.found left journal in
    ((image, left, subst (λ (f : Format). IsJournalOf f second.found image) same journal), same)

-- of a run that is stopped within
pub front_of : (run : Run) (next : List Record) → LeavesFor Within run next → IsFrontOf run next
front_of run next leaves =
    let left = leaves.1 in
    let h = reopen usual run.last.format run.found in
    let all = before_more (go_on h left.since) left.behind leaves.0 next leaves.2 left.left in
    record {
      front = accepted (h.events ++ left.since);
      more = all.more;
      begins = (
        accepted left.since,
        ap (λ (l : List Record). l ++ accepted left.since) (sym (accepted_all run.found)) ∙ sym (accepted-append h.events left.since),
      );
      within = (
        accepted left.behind,
        sym (accepted-append (h.events ++ left.since) left.behind) ∙ ap accepted (sym left.after_is),
      );
      few = all.few;
      next_is = all.is;
    }

-- the edits that were accepted, and at most one more
ended_more : (run : Run) (next : List Record) → LeavesFor BehindTheEnd run next → AndMore (accepted run.last.events) next
ended_more run next leaves = stands_more run.last.format (accepted run.last.events) (doubt run.last) leaves.0 next leaves.2 leaves.1

-- some office with no claim out
abbrev blank : Registered
blank = record {
  history = reopen usual Second [];
  inputs = record { limits = usual; kept = []; spare = 0; staged = Part Nothing };
  cells = [];
  references = [];
  statuses = [];
  spare = 0;
}

none_out : NoneOut blank
none_out site day = refl

-- a run begins with the records found
run_begins : (run : Run) → IsPrefix run.found (accepted run.last.events)
run_begins run =
    let old = at_history blank (reopen usual run.last.format run.found) in
    let course = course_of old none_out run.messages run.replies run.last run.answers in
    let goes = course_over old course.0 run.messages run.replies (at_history old run.last) course.1 in
    let adds = adds_steps old course.0 (at_history old run.last) goes.0 in
    (adds.records, sym (adds.accepted_are ∙ ap (λ (l : List Record). l ++ adds.records) (accepted_all run.found)))

stays_for : (stop : Stop) (run : Run) (next : List Record) → LeavesFor stop run next → IsPrefix run.found next
stays_for BehindTheEnd run next leaves =
    let all = ended_more run next leaves in
    begins_further run.found (accepted run.last.events) next (run_begins run) (all.more, sym all.is)
stays_for Within run next leaves =
    let all = front_of run next leaves in
    begins_further run.found all.front next all.begins (all.more, sym all.next_is)

-- over all runs
pub found_stays : (format : Format) (found next : List Record) (runs : List Stretch) → AreOneBehindAnother format found runs next
    → IsPrefix found next
found_stays format found next [] is = ([], append-nil found ∙ sym is)
found_stays format found next (one ∷ others) is =
    let own = subst (λ (l : List Record). IsPrefix l is.2) is.0 (stays_for one.stop one.run is.2 is.3) in
    begins_further found is.2 next own (found_stays format is.2 next others is.4)

pub ended_stays : (format : Format) (found next : List Record) (first others : List Stretch) (run : Run)
    → AreOneBehindAnother format found (first ++ record { run = run; stop = BehindTheEnd } ∷ others) next
    → IsPrefix (accepted run.last.events) next
ended_stays format found next [] others run is =
    let all = ended_more run is.2 is.3 in
    begins_further (accepted run.last.events) is.2 next (all.more, sym all.is) (found_stays format is.2 next others is.4)
ended_stays format found next (one ∷ first) others run is = ended_stays format is.2 next first others run is.4

pub within_stays : (format : Format) (found next : List Record) (first others : List Stretch) (run : Run)
    → AreOneBehindAnother format found (first ++ record { run = run; stop = Within } ∷ others) next
    → (mid : List Record) × IsFrontOf run mid × IsPrefix mid next
within_stays format found next [] others run is = (is.2, front_of run is.2 is.3, found_stays format is.2 next others is.4)
within_stays format found next (one ∷ first) others run is = within_stays format is.2 next first others run is.4

-- what is known of a disk's bytes
known : (P : List ℕ → Type 0) (o : Option (List ℕ)) → IfSome o P → IsSome o → (bytes : List ℕ) × P bytes
known P None is some = absurd (cc some)
known P (Some bytes) is some = (bytes, is)

holds_of : (P : List ℕ → Type 0) (o : Option (List ℕ)) (bytes : List ℕ) → IsSomeAnd o P → o ≡ Some bytes → P bytes
holds_of P None bytes is told = absurd is
holds_of P (Some other) bytes is told = let same : other ≡ bytes = cc in subst P same is

module _ {D : Type 0} (g : Ghosts D) (pieces : List Record) (last : History) where
  -- a disk that is left with the journal, and what is left of it
  carried : (found left : D) → Carries g pieces last found left → IsSome (g.content found) → IsLeftOn g last left
  carried found left carries told =
      (known (λ bytes. IsJournalOf last.format pieces bytes × IsLeftOn g last left) (g.content found) carries.journal told).1.1

  found_on : (found left : D) (image : List ℕ) → Carries g pieces last found left → g.content found ≡ Some image
      → IsJournalOf last.format pieces image
  found_on found left image carries told =
      (subst (λ (o : Option (List ℕ)). IfSome o (λ bytes. IsJournalOf last.format pieces bytes × IsLeftOn g last left)) told carries.journal).0

  left_of : (left : D) (image : List ℕ) → IsLeftOn g last left → (g.content left ≡ Some image) ⊎ g.may_leave left image → IsLeft last image
  left_of left image on (inl has) = holds_of (IsLeft last) (g.content left) image on.now has
  left_of left image on (inr may) = on.images image may

  -- places of a cabinet
  left_at : (was now : Place D) (image : List ℕ) → GoesOnAt g (Carries g pieces last) was now → HasKept (λ disk. IsSome (g.content disk)) was
      → HasKept (λ disk. (g.content disk ≡ Some image) ⊎ g.may_leave disk image) now → IsLeft last image
  left_at Free now image goes told has = absurd goes
  left_at Out now image goes told has = absurd goes
  left_at (Kept found) Free image goes told has = absurd goes
  left_at (Kept found) Out image goes told has = absurd goes
  left_at (Kept found) (Kept left) image goes told has = left_of left image (carried found left goes told) has

  found_at : (was now : Place D) (image : List ℕ) → GoesOnAt g (Carries g pieces last) was now → HasKept (λ disk. g.content disk ≡ Some image) was
      → IsJournalOf last.format pieces image
  found_at Free now image goes has = absurd goes
  found_at Out now image goes has = absurd goes
  found_at (Kept found) Free image goes has = absurd goes
  found_at (Kept found) Out image goes has = absurd goes
  found_at (Kept found) (Kept left) image goes has = found_on found left image goes has

  carried_at : (was now : Place D) (found left : D) → GoesOnAt g (Carries g pieces last) was now → HasKept (λ disk. disk ≡ found) was
      → HasKept (λ disk. disk ≡ left) now → Carries g pieces last found left
  carried_at Free now found left goes was_found is_left = absurd goes
  carried_at Out now found left goes was_found is_left = absurd goes
  carried_at (Kept f) Free found left goes was_found is_left = absurd goes
  carried_at (Kept f) Out found left goes was_found is_left = absurd goes
  carried_at (Kept f) (Kept l) found left goes was_found is_left =
      subst (λ (d : D). Carries g pieces last d left) was_found (subst (Carries g pieces last f) is_left goes)

  -- cabinets
  module _ (name : List ℕ) where
    carried_under : (b a : Option (List ℕ → Place D)) (found left : D) → GoesOnUnder g name (Carries g pieces last) b a
        → IsSomeAnd b (λ places. HasKept (λ disk. disk ≡ found) (places name)) → IsSomeAnd a (λ places. HasKept (λ disk. disk ≡ left) (places name))
        → Carries g pieces last found left
    carried_under None a found left goes was_found is_left = absurd was_found
    carried_under (Some b) None found left goes was_found is_left = absurd is_left
    carried_under (Some b) (Some a) found left goes was_found is_left = carried_at (b name) (a name) found left goes.0 was_found is_left

    pub left_under : (b a : Option (List ℕ → Place D)) (image : List ℕ) → GoesOnUnder g name (Carries g pieces last) b a
        → IsSomeAnd b (λ places. HasKept (λ disk. IsSome (g.content disk)) (places name))
        → IsSomeAnd a (λ places. HasKept (λ disk. (g.content disk ≡ Some image) ⊎ g.may_leave disk image) (places name))
        → IsLeft last image
    left_under None a image goes told has = absurd told
    left_under (Some b) None image goes told has = absurd has
    left_under (Some b) (Some a) image goes told has = left_at (b name) (a name) image goes.0 told has

    pub found_under : (b a : Option (List ℕ → Place D)) (image : List ℕ) → GoesOnUnder g name (Carries g pieces last) b a
        → IsSomeAnd b (λ places. HasKept (λ disk. g.content disk ≡ Some image) (places name))
        → IsJournalOf last.format pieces image
    found_under None a image goes has = absurd has
    found_under (Some b) None image goes has = absurd goes
    found_under (Some b) (Some a) image goes has = found_at (b name) (a name) image goes.0 has

-- what stays with something stays
stays_anyhow : {D : Type 0} (g : Ghosts D) (name : List ℕ) (P : Place D → Type 0) (before after : Option (List ℕ → Place D))
    → StaysWith g name P before after → StaysWith g name (λ place. ⊤) before after
stays_anyhow g name P None after stays = tt
stays_anyhow g name P (Some before) None stays = absurd stays
stays_anyhow g name P (Some before) (Some after) stays = (tt, stays.1)

module _ {S K E C L P D : Type 0} (g : Ghosts D) (tell : World S K E C L P → Told D) (name : List ℕ) where
  -- a run of `batch` is such a run, or read and wrote nothing
  played : (end : Result SessionEnd OpenFault) (before after : World S K E C L P) → ServesInput g tell name 0 end before after
      → ((run : Run) × Plays g name tell run before after) ⊎ IsUnplayed g name tell before after
  played (Ok end) before after did =
      let w = did.over in inl (
        record { found = w.pieces; messages = w.worked.messages; replies = w.worked.replies; last = w.last; answers = w.worked.answers },
        record { end = end; heard = w.worked.heard; goes_on = w.goes_on },
      )
  played (Err why) before after did =
      let stays = stays_anyhow g name (StoodUnopened g why) (tell before).cabinet.places (tell after).cabinet.places did.over.stays in
      inr (record { streams = did.unserved tt; journal = inr stays })

  pub batch_is_a_run : (status : ℕ) (before after : World S K E C L P) → Runs g tell (Batch name 0) status before after
      → ((run : Run) × Plays g name tell run before after) ⊎ IsUnplayed g name tell before after
  batch_is_a_run status before after run =
      ⊎_elim
      (λ idle. inr (record { streams = idle.1.streams; journal = inl idle.1.cabinet }))
      (λ did. played did.0 before after did.2)
      run.did

  -- what the next one finds is what was left
  pub next_finds : (first second : Run) (before after again done : World S K E C L P) (image : List ℕ) → Plays g name tell first before after
      → Plays g name tell second again done → IsTold g name (tell before).cabinet → HasOrLeaves g name image (tell after).cabinet
      → Has g name image (tell again).cabinet → IsFoundBy BehindTheEnd first second
  next_finds first second before after again done image plays next told leaves has =
      found_as BehindTheEnd first second image
      (left_under g first.found first.last name (tell before).cabinet.places (tell after).cabinet.places image plays.goes_on told leaves)
      (found_under g second.found second.last name (tell again).cabinet.places (tell done).cabinet.places image next.goes_on has)

  pub next_finds_more : (first second : Run) (before after again done : World S K E C L P) (image : List ℕ) → Plays g name tell first before after
      → Plays g name tell second again done → IsTold g name (tell before).cabinet → HasOrLeaves g name image (tell after).cabinet
      → Has g name image (tell again).cabinet
      → (more : List Record) × (length more ≤ 1) × (second.found ≡ accepted first.last.events ++ more)
  next_finds_more first second before after again done image plays next told leaves has =
      let all = ended_more first second.found (next_finds first second before after again done image plays next told leaves has).0 in
      (all.more, all.few, all.is)

  -- and at any moment of the first one
  next_finds_within : (first second : Run) (before after again done : World S K E C L P) (image : List ℕ) → Plays g name tell first before after
      → Plays g name tell second again done → MayLeave Within first image → Has g name image (tell again).cabinet
      → IsFoundBy Within first second × IsFrontOf first second.found
  next_finds_within first second before after again done image plays next left has =
      let found = found_as Within first second image left
      (found_under g second.found second.last name (tell again).cabinet.places (tell done).cabinet.places image next.goes_on has) in
      (found, front_of first second.found found.0)

  pub next_finds_stopped : (first second : Run) (before after again done : World S K E C L P) → Plays g name tell first before after
      → Plays g name tell second again done
      → StopsWithin g name first second (tell before).cabinet (tell after).cabinet (tell again).cabinet
  next_finds_stopped first second before after again done plays next = λ found left was told is.
      let carries =
      carried_under g first.found first.last name (tell before).cabinet.places (tell after).cabinet.places found left plays.goes_on was is in
      let moments =
      (known (λ bytes. SyncsFirst g found left (MayLeave Within first)) (g.content found) carries.any_moment told).1 in
      record {
        synced = moments.synced;
        first = moments.first;
        before = moments.before;
        since =
            widened g moments.synced left (MayLeave Within first)
            (λ image. Has g name image (tell again).cabinet → IsFoundBy Within first second × IsFrontOf first second.found)
            moments.since
            (λ image between has. next_finds_within first second before after again done image plays next between has);
      }
