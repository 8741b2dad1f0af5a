-- What holds of all runs: a row a command, and what follows for a run.
use Rattle.std.proofs.Common.{◌≡◌, ◌⊎◌, ℕ, List, refl, sym, ◌∙◌, ap, subst, inr, ⊎_elim}
use Rattle.command_words.specs.Words.{Asked, Init, Batch, Serve, Stations, Trial, Import, Daily, Water, Notes, Migrate, ImportAsked, DailyAsked, WaterAsked, NotesAsked}
use Rattle.devices.specs.declared.disks.Disk.{Ghosts}
use Rattle.commands.proofs.Lawful.{HasCause, IsEarly, IsLawful, by_ending, innocent}
use Rattle.commands.proofs.MakingLemmas.{making_lawful}
use Rattle.commands.proofs.MigrationLemmas.{IsUnfailed, migrated_well, migration_lawful, not_unfailed}
use Rattle.commands.proofs.BatchLemmas.{batch_lawful, unserved}
use Rattle.commands.proofs.NotesLemmas.{notes_lawful, unwritten_at_notes}
use Rattle.commands.proofs.ReadingsLemmas.{readings_lawful, unwritten_at_units}
use Rattle.commands.proofs.ServingLemmas.{serving_lawful}
use Rattle.commands.proofs.StationsLemmas.{stations_lawful, unwritten_at_document}
use Rattle.commands.proofs.TablesLemmas.{table_lawful}
use Rattle.commands.proofs.TryingLemmas.{trial_lawful}
use Rattle.commands.specs.Loading.{LoadsNotes, LoadsReadings, LoadsStations, loading_ending, notes_ending, readings_ending}
use Rattle.commands.specs.Making.{Makes, making_ending}
use Rattle.commands.specs.Migrating.{Migrates, migration_ending}
use Rattle.commands.specs.Opening.{ending_over}
use Rattle.commands.specs.Ready.{IsDone, IsReady, IsWell}
use Rattle.commands.specs.Runs.{Does, Runs}
use Rattle.commands.specs.Batch.{ServesInput, session_ending}
use Rattle.commands.specs.Serving.{ServesConnections, serving_ending}
use Rattle.commands.specs.Statuses.{status_of}
use Rattle.commands.specs.Tables.{WritesDaily, WritesWater, daily_written, table_ending, water_written}
use Rattle.commands.specs.Trying.{Tries, trial_ending}
use Rattle.commands.specs.Worlds.{DoorsStay, StreamsStay, Told, World}
use Rattle.commands.specs.declared.endings.Ending.TheVariants.{NoMemory}

module _ {S K E C L P D : Type 0} (g : Ghosts D) (tell : World S K E C L P → Told D) where
  lawful : (asked : Asked)
      → IsLawful tell (λ ending. ending) (IsReady g asked) (λ before after. IsWell before after asked)
      (λ ending before after. Does g tell asked before after ending)
  lawful (Init name) =
      by_ending tell making_ending (IsReady g (Init name)) (λ before after. IsWell before after (Init name))
      (λ made before after. Makes g tell name made before after) (making_lawful g tell name)
  lawful (Batch name workers) =
      by_ending tell (ending_over session_ending) (IsReady g (Batch name workers)) (λ before after. IsWell before after (Batch name workers))
      (λ end before after. ServesInput g tell name workers end before after) (batch_lawful g tell name workers)
  lawful (Serve name port workers connections) =
      by_ending tell (ending_over serving_ending) (IsReady g (Serve name port workers connections))
      (λ before after. IsWell before after (Serve name port workers connections))
      (λ end before after. ServesConnections g tell name workers connections end before after) (serving_lawful g tell name workers connections)
  lawful (Stations name) =
      by_ending tell (ending_over loading_ending) (IsReady g (Stations name)) (λ before after. IsWell before after (Stations name))
      (λ end before after. LoadsStations g tell name end before after) (stations_lawful g tell name)
  lawful (Trial number) =
      by_ending tell trial_ending (IsReady g (Trial number)) (λ before after. IsWell before after (Trial number))
      (λ end before after. Tries tell number end before after) (trial_lawful tell number)
  lawful (Import asked) =
      by_ending tell (ending_over readings_ending) (IsReady g (Import asked)) (λ before after. IsWell before after (Import asked))
      (λ end before after. LoadsReadings g tell asked end before after) (readings_lawful g tell asked)
  lawful (Daily asked) =
      by_ending tell (ending_over table_ending) (IsReady g (Daily asked)) (λ before after. IsWell before after (Daily asked))
      (λ end before after. WritesDaily g tell asked end before after) (table_lawful g tell asked.journal asked.turns (daily_written asked))
  lawful (Water asked) =
      by_ending tell (ending_over table_ending) (IsReady g (Water asked)) (λ before after. IsWell before after (Water asked))
      (λ end before after. WritesWater g tell asked end before after) (table_lawful g tell asked.journal asked.turns (water_written asked))
  lawful (Notes asked) =
      by_ending tell (ending_over notes_ending) (IsReady g (Notes asked)) (λ before after. IsWell before after (Notes asked))
      (λ end before after. LoadsNotes g tell asked end before after) (notes_lawful g tell asked)
  lawful (Migrate from to) =
      by_ending tell migration_ending (IsReady g (Migrate from to)) (λ before after. IsWell before after (Migrate from to))
      (λ migrated before after. Migrates g tell from to migrated before after) (migration_lawful g tell from to)

  -- there was no memory for the words
  memory_status : (asked : Asked) (status : ℕ) (before after : World S K E C L P) (run : Runs g tell asked status before after)
      → run.ending ≡ NoMemory → status ≡ 6
  memory_status asked status before after run is = run.told.status_is ∙ ap status_of is

  pub cause : (asked : Asked) (status : ℕ) (before after : World S K E C L P) → Runs g tell asked status before after
      → HasCause status (tell before) (tell after)
  cause asked status before after run =
      ⊎_elim
      (λ none. subst (λ (n : ℕ). HasCause n (tell before) (tell after)) (sym (memory_status asked status before after run none.0))
      (innocent 6 (tell before) (tell after) refl))
      (λ did. subst (λ (n : ℕ). HasCause n (tell before) (tell after)) (sym run.told.status_is)
      ((lawful asked).cause run.ending before after did))
      run.did

  pub early : (asked : Asked) (status : ℕ) (before after : World S K E C L P) → Runs g tell asked status before after
      → IsEarly status → StreamsStay before after
  early asked status before after run is =
      ⊎_elim
      (λ none. none.1.streams)
      (λ did. (lawful asked).early run.ending before after did (subst (λ (n : ℕ). IsEarly n) run.told.status_is is))
      run.did

  pub unwritten : (asked : Asked) (status : ℕ) (before after : World S K E C L P) → Runs g tell asked status before after
      → status ≡ 6 → after.output ≡ before.output
  unwritten asked status before after run is =
      ⊎_elim
      (λ none. none.1.streams.1)
      (λ did. (lawful asked).unwritten run.ending before after did (sym run.told.status_is ∙ is))
      run.did

  pub complete : (asked : Asked) (status : ℕ) (before after : World S K E C L P) → Runs g tell asked status before after
      → IsReady g asked (tell before) → IsWell (tell before) (tell after) asked → IsDone status
  complete asked status before after run ready well =
      ⊎_elim
      (λ none. inr (memory_status asked status before after run none.0))
      (λ did. subst (λ (n : ℕ). IsDone n) (sym run.told.status_is) ((lawful asked).complete run.ending before after did ready well))
      run.did

  -- what holds of one command alone
  pub unserved_batch : (name : List ℕ) (workers status : ℕ) (before after : World S K E C L P) → Runs g tell (Batch name workers) status before after
      → status ≡ 6 → StreamsStay before after
  unserved_batch name workers status before after run is =
      ⊎_elim
      (λ none. none.1.streams)
      (λ did. unserved g tell name workers did.0 before after did.2 (sym (ap status_of did.1) ∙ sym run.told.status_is ∙ is))
      run.did

  pub unwritten_stations : (name : List ℕ) (status : ℕ) (before after : World S K E C L P)
      → Runs g tell (Stations name) status before after → (status ≡ 2) ⊎ (status ≡ 9) → after.output ≡ before.output
  unwritten_stations name status before after run is =
      ⊎_elim
      (λ none. none.1.streams.1)
      (λ did. unwritten_at_document g tell name did.0 before after did.2
      (subst (λ (n : ℕ). (n ≡ 2) ⊎ (n ≡ 9)) (run.told.status_is ∙ ap status_of did.1) is))
      run.did

  pub unwritten_import : (what : ImportAsked) (status : ℕ) (before after : World S K E C L P)
      → Runs g tell (Import what) status before after → (status ≡ 2) ⊎ (status ≡ 13) → after.output ≡ before.output
  unwritten_import what status before after run is =
      ⊎_elim
      (λ none. none.1.streams.1)
      (λ did. unwritten_at_units g tell what did.0 before after did.2
      (subst (λ (n : ℕ). (n ≡ 2) ⊎ (n ≡ 13)) (run.told.status_is ∙ ap status_of did.1) is))
      run.did

  pub unwritten_notes : (what : NotesAsked) (status : ℕ) (before after : World S K E C L P)
      → Runs g tell (Notes what) status before after → (status ≡ 2) ⊎ (status ≡ 14) → after.output ≡ before.output
  unwritten_notes what status before after run is =
      ⊎_elim
      (λ none. none.1.streams.1)
      (λ did. unwritten_at_notes g tell what did.0 before after did.2
      (subst (λ (n : ℕ). (n ≡ 2) ⊎ (n ≡ 14)) (run.told.status_is ∙ ap status_of did.1) is))
      run.did

  pub init_alone : (name : List ℕ) (status : ℕ) (before after : World S K E C L P) → Runs g tell (Init name) status before after
      → StreamsStay before after × DoorsStay before after
  init_alone name status before after run =
      ⊎_elim
      (λ none. (none.1.streams, none.1.doors))
      (λ did. (did.2.streams, did.2.doors))
      run.did

  pub migrate_alone : (from to : List ℕ) (status : ℕ) (before after : World S K E C L P) → Runs g tell (Migrate from to) status before after
      → StreamsStay before after × DoorsStay before after
  migrate_alone from to status before after run =
      ⊎_elim
      (λ none. (none.1.streams, none.1.doors))
      (λ did. (did.2.streams, did.2.doors))
      run.did

  pub migrate_unfailed : (from to : List ℕ) (status : ℕ) (before after : World S K E C L P) → Runs g tell (Migrate from to) status before after
      → (status ≡ 0) ⊎ ((status ≡ 11) ⊎ (status ≡ 12)) → (tell after).cabinet.faults ≡ (tell before).cabinet.faults
  migrate_unfailed from to status before after run is =
      ⊎_elim
      (λ none. absurd (not_unfailed 6 refl (subst IsUnfailed (memory_status (Migrate from to) status before after run none.0) is)))
      (λ did. migrated_well g from to did.0 (tell before).cabinet (tell after).cabinet did.2.migrated_under
      (subst IsUnfailed (run.told.status_is ∙ ap status_of did.1) is))
      run.did

  pub trial_alone : (number status : ℕ) (before after : World S K E C L P) → Runs g tell (Trial number) status before after
      → ((after.input ≡ before.input) × (after.cabinet ≡ before.cabinet)) × DoorsStay before after
  trial_alone number status before after run =
      ⊎_elim
      (λ none. ((none.1.streams.0, none.1.cabinet), none.1.doors))
      (λ did. ((did.2.input, did.2.cabinet), did.2.doors))
      run.did

  pub daily_alone : (what : DailyAsked) (status : ℕ) (before after : World S K E C L P) → Runs g tell (Daily what) status before after
      → (after.input ≡ before.input) × DoorsStay before after
  daily_alone what status before after run =
      ⊎_elim
      (λ none. (none.1.streams.0, none.1.doors))
      (λ did. (did.2.input, did.2.doors))
      run.did

  pub water_alone : (what : WaterAsked) (status : ℕ) (before after : World S K E C L P) → Runs g tell (Water what) status before after
      → (after.input ≡ before.input) × DoorsStay before after
  water_alone what status before after run =
      ⊎_elim
      (λ none. (none.1.streams.0, none.1.doors))
      (λ did. (did.2.input, did.2.doors))
      run.did
