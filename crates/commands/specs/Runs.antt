-- What a run comes to, by what is asked: a row a command.
use Rattle.std.specs.Prelude.{◌≡◌, ◌⊎◌, ℕ, List}
use Rattle.command_words.specs.Words.{Asked, Init, Batch, Serve, Stations, Trial, Import, Daily, Water, Notes, Migrate, IsAsked}
use Rattle.devices.specs.declared.disks.Disk.{Ghosts}
use Rattle.commands.specs.Loading.{LoadsNotes, LoadsReadings, LoadsStations, loading_ending, notes_ending, readings_ending}
use Rattle.commands.specs.Making.{Makes, making_ending}
use Rattle.commands.specs.Migrating.{Migrates, migration_ending}
use Rattle.commands.specs.Opening.{ending_over}
use Rattle.commands.specs.Batch.{ServesInput, session_ending}
use Rattle.commands.specs.Serving.{ServesConnections, serving_ending}
use Rattle.commands.specs.Statuses.{IsReported, line_of, status_of}
use Rattle.commands.specs.Tables.{WritesDaily, WritesWater, table_ending}
use Rattle.commands.specs.Trying.{Tries, trial_ending}
use Rattle.commands.specs.Worlds.{IsIdle, Told, World}
use Rattle.commands.specs.declared.endings.Ending.{Ending}
use Rattle.commands.specs.declared.endings.Ending.TheVariants.{NoMemory, Usage}

-- these words ask something
abbrev pub AskSomething : List (List ℕ) → Type 0
AskSomething words = (asked : Asked) × IsAsked words asked

-- these words ask nothing
abbrev pub AskNothing : List (List ℕ) → Type 0
AskNothing words = (asked : Asked) → ¬ (IsAsked words asked)

-- a command came to an end of its own, which is told by this ending
abbrev pub EndsBy : {End : Type 0} → (End → Ending) → (End → Type 0) → Ending → Type 0
EndsBy {End} ending_of Did ending = (end : End) × (ending ≡ ending_of end) × Did end

module _ {S K E C L P D : Type 0} (tell : World S K E C L P → Told D) where
  -- the status and the line of an ending
  pub record IsToldBy (ending : Ending) (status : ℕ) (before after : World S K E C L P) : Type 0 where
    pub status_is : status ≡ status_of ending
    pub line_is : IsReported (line_of ending) (tell before).faults (tell after).faults

  -- a run whose words ask nothing
  pub record IsRefused (status : ℕ) (before after : World S K E C L P) : Type 0 where
    pub told : IsToldBy Usage status before after
    pub idle : IsIdle before after

  -- words ask nothing, and are refused, or they ask something
  abbrev pub AreTold : List (List ℕ) → ℕ → World S K E C L P → World S K E C L P → Type 0
  AreTold words status before after = (AskNothing words × IsRefused status before after) ⊎ AskSomething words

module _ {S K E C L P D : Type 0} (g : Ghosts D) (tell : World S K E C L P → Told D) where
  -- what each command does
  abbrev pub Does : Asked → World S K E C L P → World S K E C L P → Ending → Type 0
  Does (Init name) before after = EndsBy making_ending (λ made. Makes g tell name made before after)
  Does (Batch name workers) before after = EndsBy (ending_over session_ending) (λ end. ServesInput g tell name workers end before after)
  Does (Serve name port workers connections) before after =
      EndsBy (ending_over serving_ending) (λ end. ServesConnections g tell name workers connections end before after)
  Does (Stations name) before after = EndsBy (ending_over loading_ending) (λ end. LoadsStations g tell name end before after)
  Does (Trial number) before after = EndsBy trial_ending (λ end. Tries tell number end before after)
  Does (Import asked) before after = EndsBy (ending_over readings_ending) (λ end. LoadsReadings g tell asked end before after)
  Does (Daily asked) before after = EndsBy (ending_over table_ending) (λ end. WritesDaily g tell asked end before after)
  Does (Water asked) before after = EndsBy (ending_over table_ending) (λ end. WritesWater g tell asked end before after)
  Does (Notes asked) before after = EndsBy (ending_over notes_ending) (λ end. LoadsNotes g tell asked end before after)
  Does (Migrate from to) before after = EndsBy migration_ending (λ migrated. Migrates g tell from to migrated before after)

  -- A run of what is asked: how it ended, its status, its line, and what it did. Where there was no memory for the words it did nothing.
  pub record Runs (asked : Asked) (status : ℕ) (before after : World S K E C L P) : Type 0 where
    pub ending : Ending
    pub told : IsToldBy tell ending status before after
    pub did : ((ending ≡ NoMemory) × IsIdle before after) ⊎ Does asked before after ending
