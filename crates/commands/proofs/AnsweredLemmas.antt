-- Where no fault is counted each request of a run that is done was answered, and each edit of one that loads an input.
use Rattle.std.proofs.Common.{◌≡◌, ◌⊎◌, ℕ, zero, suc, List, Result, Ok, Err, IsSome, IsSomeAnd, sym, ◌∙◌, ap, subst, inl, inr, ⊎_elim, refl, arith}
use Rattle.command_words.specs.Words.{Batch, Import, ImportAsked, Notes, NotesAsked, Serve, Stations}
use Rattle.desk.proofs.FaultLemmas.{all_opened}
use Rattle.desk.specs.Serving.{Served}
use Rattle.desk.specs.declared.sessions.SessionEnd.{SessionEnd}
use Rattle.desk.specs.declared.sessions.SessionEnd.TheVariants as sessions
use Rattle.devices.specs.Doors.{Ends}
use Rattle.devices.specs.Faults.{Rose}
use Rattle.devices.specs.declared.disks.Disk.{Ghosts}
use Rattle.history.specs.After.{reopen}
use Rattle.history.specs.Events.{History}
use Rattle.journal.specs.declared.opening.OpenFault.{OpenFault}
use Rattle.journal.specs.declared.opening.OpenFault.TheVariants as opening
use Rattle.office.specs.Counting.{fault_count}
use Rattle.office_inputs.specs.Usual.{usual}
use Rattle.records.specs.Sheets.{Record}
use Rattle.serving.specs.declared.whole.ServeEnd.{ServeEnd}
use Rattle.serving.specs.declared.whole.ServeEnd.TheVariants as ends
use Rattle.shared_office.specs.declared.entries.Entry.{Entry}
use Rattle.shared_office.specs.declared.entries.Fixed.{Fixed}
use Rattle.commands.proofs.BatchLemmas.{ends_well}
use Rattle.commands.proofs.FailingLemmas.{batch_fails, no_line_fails, serve_fails}
use Rattle.commands.specs.Answered.{AreAnswered, AreServedWell, IsLoadedWell}
use Rattle.commands.specs.Batch.{RepliesOver, ServedBetween, session_ending}
use Rattle.commands.specs.Beside.{ServedBesideWorkers, WorksBeside, ends_told}
use Rattle.commands.specs.Loading.{Loaded, LoadsNotes, LoadsReadings, LoadsStations, NotesLoaded, ReadingsLoaded, StationsLoaded, loading_ending, notes_ending, readings_ending}
use Rattle.commands.specs.Opening.{Carries, LeadsTo, RunsOver, WorksUnder, ending_over, opening_ending}
use Rattle.commands.specs.Ready.{CabinetIsWell, IsWellFormed}
use Rattle.commands.specs.Runs.{EndsBy, Runs}
use Rattle.commands.specs.Serving.{AreServedBeside, IsUnserved, ServesBetween, serving_ending}
use Rattle.commands.specs.Statuses.{status_of}
use Rattle.commands.specs.Worlds.{IsIdle, Shelf, Told, World}
use Rattle.commands.specs.declared.endings.Ending.{Ending}
use Rattle.commands.specs.declared.endings.Ending.TheVariants.{NoMemory}

-- a run that is done ended by itself
batch_done : (end : Result SessionEnd OpenFault) → status_of (ending_over session_ending end) ≡ 0 → end ≡ Ok sessions.End
batch_done (Ok sessions.End) is = refl
batch_done (Ok sessions.InputFault) is = absurd (cc is)
batch_done (Ok sessions.OutputFault) is = absurd (cc is)
batch_done (Ok (sessions.Malformed at)) is = absurd (cc is)
batch_done (Ok sessions.Long) is = absurd (cc is)
batch_done (Ok sessions.NoMemory) is = absurd (cc is)
batch_done (Err opening.Fault) is = absurd (cc is)
batch_done (Err opening.NotAJournal) is = absurd (cc is)
batch_done (Err (opening.Damaged at)) is = absurd (cc is)
batch_done (Err opening.NoMemory) is = absurd (cc is)

serve_done : (end : Result ServeEnd OpenFault) → status_of (ending_over serving_ending end) ≡ 0 → end ≡ Ok ends.End
serve_done (Ok ends.End) is = refl
serve_done (Ok ends.DoorFault) is = absurd (cc is)
serve_done (Ok ends.NoMemory) is = absurd (cc is)
serve_done (Err opening.Fault) is = absurd (cc is)
serve_done (Err opening.NotAJournal) is = absurd (cc is)
serve_done (Err (opening.Damaged at)) is = absurd (cc is)
serve_done (Err opening.NoMemory) is = absurd (cc is)

doors_failed : (end : Result ServeEnd OpenFault) → status_of (ending_over serving_ending end) ≡ 7 → end ≡ Ok ends.DoorFault
doors_failed (Ok ends.End) is = absurd (cc is)
doors_failed (Ok ends.DoorFault) is = refl
doors_failed (Ok ends.NoMemory) is = absurd (cc is)
doors_failed (Err opening.Fault) is = absurd (cc is)
doors_failed (Err opening.NotAJournal) is = absurd (cc is)
doors_failed (Err (opening.Damaged at)) is = absurd (cc is)
doors_failed (Err opening.NoMemory) is = absurd (cc is)

-- the journal of a run of such a status was opened
not_unopened : (why : OpenFault) → (status_of (opening_ending why) ≡ 0) ⊎ (status_of (opening_ending why) ≡ 3) → ⊥
not_unopened opening.Fault is = ⊎_elim (λ e. cc e) (λ e. cc e) is
not_unopened opening.NotAJournal is = ⊎_elim (λ e. cc e) (λ e. cc e) is
not_unopened (opening.Damaged at) is = ⊎_elim (λ e. cc e) (λ e. cc e) is
not_unopened opening.NoMemory is = ⊎_elim (λ e. cc e) (λ e. cc e) is

module _ {S K E C L P D : Type 0} (g : Ghosts D) (tell : World S K E C L P → Told D) where
  -- what came of a run, from some records to some history
  abbrev IsOver : (History → History → Type 0) → Type 0
  IsOver Worked = (pieces : List Record) × (last : History) × Worked (reopen usual last.format pieces) last

  -- no fault joined the history
  no_fault : (name : List ℕ) (GoesOn : List Record → History → D → D → Type 0) (Worked : History → History → Type 0) (before after : Shelf D)
      → ¬ (Rose before.faults after.faults) → (w : WorksUnder g name GoesOn Worked before after) → fault_count w.last.events ≡ 0
  no_fault name GoesOn Worked before after well w = ⊎_elim (λ none. none) (λ rose. absurd (well rose)) w.causes

  all_answered : (name : List ℕ) (workers : ℕ) (before after : Told D) → CabinetIsWell before after
      → RepliesOver g name workers (Ok sessions.End) before after
      → IsOver (AreAnswered g workers (ends_told before.input before.output) (ends_told after.input after.output))
  all_answered name zero before after well w =
      let none = no_fault name (Carries g) (ServedBetween before.input after.input before.output after.output sessions.End)
      before.cabinet after.cabinet well w in
      let told = all_opened usual w.last.format w.pieces w.worked.messages w.worked.replies w.last w.worked.answers in
      (w.pieces, w.last, (w.worked, sym told ∙ none))
  all_answered name (suc n) before after well w =
      let came = ends_told before.input before.output in
      let went = ends_told after.input after.output in
      let none = no_fault name (LeadsTo g) (ServedBesideWorkers g (suc n) came went sessions.End) before.cabinet after.cabinet well w in
      ⊎_elim
      (λ (b : WorksBeside g (suc n) came went sessions.End (reopen usual w.last.format w.pieces) w.last).
      let few = batch_fails g (suc n) came went sessions.End (reopen usual w.last.format w.pieces) w.last b in
      (w.pieces, w.last, (b, omega (arith, few, none))))
      (λ unbegun. absurd (cc (unbegun.0)))
      w.worked.worked

  pub batch_answers : (name : List ℕ) (workers : ℕ) (before after : World S K E C L P) → Runs g tell (Batch name workers) 0 before after
      → CabinetIsWell (tell before) (tell after)
      → IsOver (AreAnswered g workers (ends_told (tell before).input (tell before).output) (ends_told (tell after).input (tell after).output))
  batch_answers name workers before after run well =
      ⊎_elim
      (λ none. absurd (cc (run.told.status_is ∙ ap status_of none.0)))
      (λ did.
      let is = batch_done did.0 (sym (run.told.status_is ∙ ap status_of did.1)) in
      all_answered name workers (tell before) (tell after) well
      (subst (λ (e : Result SessionEnd OpenFault). RepliesOver g name workers e (tell before) (tell after)) is did.2.over))
      run.did

  -- all that was let in was served well, or nobody was let in
  abbrev IsServedOver : ServeEnd → ℕ → Told D → Told D → Type 0
  IsServedOver end workers before after =
      IsOver (λ h last. AreServedWell g workers after.doors.told h last ⊎ IsUnserved end before.doors after.doors h last)

  all_served : (name : List ℕ) (workers connections : ℕ) (end : ServeEnd) (before after : Told D) → CabinetIsWell before after
      → RunsOver g name (LeadsTo g) (ServesBetween g workers connections before.doors after.doors) (Ok end) before.cabinet after.cabinet
      → IsServedOver end workers before after
  all_served name workers connections end before after well w =
      let none = no_fault name (LeadsTo g) (ServesBetween g workers connections before.doors after.doors end) before.cabinet after.cabinet well w in
      ⊎_elim
      (λ (s : AreServedBeside g workers after.doors.told (reopen usual w.last.format w.pieces) w.last).
      let few = serve_fails g workers after.doors.told (reopen usual w.last.format w.pieces) w.last s in
      (w.pieces, w.last, inl (s, omega (arith, few, none))))
      (λ nobody. (w.pieces, w.last, inr nobody))
      w.worked.served

  -- the end of a run whose status is known
  served_by : (name : List ℕ) (port workers connections status : ℕ) (end : ServeEnd) (before after : World S K E C L P)
      → ((found : Result ServeEnd OpenFault) → status_of (ending_over serving_ending found) ≡ status → found ≡ Ok end)
      → ¬ (status ≡ 6) → Runs g tell (Serve name port workers connections) status before after → CabinetIsWell (tell before) (tell after)
      → IsServedOver end workers (tell before) (tell after)
  served_by name port workers connections status end before after ends_so asked run well =
      ⊎_elim
      (λ none. absurd (asked (run.told.status_is ∙ ap status_of none.0)))
      (λ did.
      let is = ends_so did.0 (sym (run.told.status_is ∙ ap status_of did.1)) in
      all_served name workers connections end (tell before) (tell after) well
      (subst (λ (e : Result ServeEnd OpenFault). RunsOver g name (LeadsTo g) (ServesBetween g workers connections (tell before).doors (tell after).doors) e
      (tell before).cabinet (tell after).cabinet) is did.2.over))
      run.did

  pub serve_answers : (name : List ℕ) (port workers connections : ℕ) (before after : World S K E C L P)
      → Runs g tell (Serve name port workers connections) 0 before after → CabinetIsWell (tell before) (tell after)
      → IsOver (AreServedWell g workers (tell after).doors.told)
  serve_answers name port workers connections before after run well =
      let over = served_by name port workers connections 0 ends.End before after serve_done (λ e. cc e) run well in
      (over.0, over.1, ⊎_elim (λ served. served) (λ nobody. absurd nobody) over.2)

  pub serve_answers_before : (name : List ℕ) (port workers connections : ℕ) (before after : World S K E C L P)
      → Runs g tell (Serve name port workers connections) 7 before after → CabinetIsWell (tell before) (tell after)
      → IsServedOver ends.DoorFault workers (tell before) (tell after)
  serve_answers_before name port workers connections before after run well =
      served_by name port workers connections 7 ends.DoorFault before after doors_failed (λ e. cc e) run well

  -- what was done over the journal where an input was loaded
  abbrev LoadsOver : {End : Type 0} → List ℕ → Loaded End → Result End OpenFault → Told D → Told D → Type 0
  LoadsOver name Loads end before after =
      RunsOver g name (Carries g) (Loads before.input after.input before.output after.output) end before.cabinet after.cabinet

  loaded_well : {End : Type 0} (name : List ℕ) (ending_of : End → Ending) (Loads : Loaded End) (status : ℕ) (before after : World S K E C L P)
      (ending : Ending) (Did : Result End OpenFault → Type 0) → ((end : Result End OpenFault) → Did end → LoadsOver name Loads end (tell before) (tell after))
      → status ≡ status_of ending → ((ending ≡ NoMemory) × IsIdle before after) ⊎ EndsBy (ending_over ending_of) Did ending
      → (status ≡ 0) ⊎ (status ≡ 3) → CabinetIsWell (tell before) (tell after) → IsLoadedWell ending_of Loads status (tell before) (tell after)
  loaded_well {End} name ending_of Loads status before after ending Did over told did asked well =
      ⊎_elim
      (λ none. absurd (⊎_elim (λ e. cc e) (λ e. cc e)
      (subst (λ (n : ℕ). (n ≡ 0) ⊎ (n ≡ 3)) (told ∙ ap status_of none.0) asked)))
      (λ found. by found.0 (told ∙ ap status_of found.1) (over found.0 found.2))
      did
    where
      by : (end : Result End OpenFault) → status ≡ status_of (ending_over ending_of end) → LoadsOver name Loads end (tell before) (tell after)
          → IsLoadedWell ending_of Loads status (tell before) (tell after)
      by (Ok end) is w =
          let none = no_fault name (Carries g) (Loads (tell before).input (tell after).input (tell before).output (tell after).output end)
          (tell before).cabinet (tell after).cabinet well w in
          (end, is, w.pieces, w.last, w.worked, no_line_fails (reopen usual w.last.format w.pieces) w.last none)
      by (Err why) is w = absurd (not_unopened why (subst (λ (n : ℕ). (n ≡ 0) ⊎ (n ≡ 3)) is asked))

  pub stations_told : (name : List ℕ) (status : ℕ) (before after : World S K E C L P) → Runs g tell (Stations name) status before after
      → (status ≡ 0) ⊎ (status ≡ 3) → CabinetIsWell (tell before) (tell after)
      → IsLoadedWell loading_ending StationsLoaded status (tell before) (tell after)
  stations_told name status before after run =
      loaded_well name loading_ending StationsLoaded status before after run.ending (λ end. LoadsStations g tell name end before after)
      (λ end did. did.over) run.told.status_is run.did

  pub readings_told : (what : ImportAsked) (status : ℕ) (before after : World S K E C L P) → Runs g tell (Import what) status before after
      → (status ≡ 0) ⊎ (status ≡ 3) → CabinetIsWell (tell before) (tell after)
      → IsLoadedWell readings_ending (ReadingsLoaded what) status (tell before) (tell after)
  readings_told what status before after run =
      loaded_well what.journal readings_ending (ReadingsLoaded what) status before after run.ending (λ end. LoadsReadings g tell what end before after)
      (λ end did. did.over) run.told.status_is run.did

  pub notes_told : (what : NotesAsked) (status : ℕ) (before after : World S K E C L P) → Runs g tell (Notes what) status before after
      → (status ≡ 0) ⊎ (status ≡ 3) → CabinetIsWell (tell before) (tell after)
      → IsLoadedWell notes_ending (NotesLoaded what) status (tell before) (tell after)
  notes_told what status before after run =
      loaded_well what.journal notes_ending (NotesLoaded what) status before after run.ending (λ end. LoadsNotes g tell what end before after)
      (λ end did. did.over) run.told.status_is run.did

-- a connection that fails nowhere, of an input that is well formed, is served to its end, unless there was no memory to begin
pub connection_ends : (fixed : Fixed) (came went : Ends) (start : ℕ) (list : List Entry) (places : List ℕ) (served : Served fixed came went start list places)
    → IsSomeAnd came.left IsWellFormed → IsSome came.written → ¬ (Rose came.input_faults went.input_faults)
    → ¬ (Rose came.output_faults went.output_faults) → (served.end ≡ sessions.End) ⊎ (served.end ≡ sessions.NoMemory)
connection_ends fixed came went start list places served formed told calm still =
    let e = served.ends_in in
    ends_well served.end e.messages e.replies came.left went.left came.written went.written came.input_faults went.input_faults
    came.output_faults went.output_faults e.heard e.cause formed told calm still
