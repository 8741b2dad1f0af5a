-- The six objects of a run, and what they tell.
use Rattle.std.specs.Prelude.{◌≡◌, ℕ, Bool, List, Option}
use Rattle.devices.specs.Cabinets.{Place}
use Rattle.devices.specs.Doors.{Connections}
use Rattle.devices.specs.declared.cabinets.Cabinet.{Ghosts as CabinetGhosts}
use Rattle.devices.specs.declared.doors.Doors.{Ghosts as DoorsGhosts}
use Rattle.devices.specs.declared.sinks.Sink.{Ghosts as SinkGhosts}
use Rattle.devices.specs.declared.sources.Source.{Ghosts as SourceGhosts}
use Rattle.devices.specs.declared.spawners.Spawner.{Ghosts as SpawnerGhosts}

-- what a stream tells: the bytes that a source has left, or that were put into a sink, and its count of faults
pub record Stream : Type 0 where
  pub bytes : Option (List ℕ)
  pub faults : ℕ

-- what a cabinet tells: what is under each name, and its count of faults
pub record Shelf (D : Type 0) : Type 0 where
  pub places : Option (List ℕ → Place D)
  pub faults : ℕ

-- what doors tell: whether they listen, the connections that were given and taken back, and their count of faults
pub record Doorway : Type 0 where
  pub listens : Bool
  pub told : Connections
  pub faults : ℕ

abbrev pub source_told : {S : Type 0} → SourceGhosts S → S → Stream
source_told ghosts source = record { bytes = ghosts.left source; faults = ghosts.faults source }

abbrev pub sink_told : {K : Type 0} → SinkGhosts K → K → Stream
sink_told ghosts sink = record { bytes = ghosts.written sink; faults = ghosts.faults sink }

abbrev pub shelf : {C D : Type 0} → CabinetGhosts C D → C → Shelf D
shelf ghosts cabinet = record { places = ghosts.places cabinet; faults = ghosts.faults cabinet }

abbrev pub doorway : {L I O B : Type 0} → DoorsGhosts L I O B → L → Doorway
doorway ghosts doors = record { listens = ghosts.listens doors; told = ghosts.told doors; faults = ghosts.faults doors }

-- the objects: where requests come from, where replies go, where a failing run is told, where the journals are, where connections come
-- in, and what starts threads
pub record World (S K E C L P : Type 0) : Type 0 where
  pub input : S
  pub output : K
  pub faults : E
  pub cabinet : C
  pub doors : L
  pub spawner : P

abbrev pub world : {S K E C L P : Type 0} → S → K → E → C → L → P → World S K E C L P
world input output faults cabinet doors spawner =
    record { input = input; output = output; faults = faults; cabinet = cabinet; doors = doors; spawner = spawner }

-- what they tell
pub record Told (D : Type 0) : Type 0 where
  pub input : Stream
  pub output : Stream
  pub faults : Stream
  pub cabinet : Shelf D
  pub doors : Doorway
  pub spawner_faults : ℕ

-- as these members of their traits say
abbrev pub told_by : {S K E C D L I O B P : Type 0} → SourceGhosts S → SinkGhosts K → SinkGhosts E → CabinetGhosts C D → DoorsGhosts L I O B
    → SpawnerGhosts P → World S K E C L P → Told D
told_by source sink faults cabinet doors spawner objects = record {
  input = source_told source objects.input;
  output = sink_told sink objects.output;
  faults = sink_told faults objects.faults;
  cabinet = shelf cabinet objects.cabinet;
  doors = doorway doors objects.doors;
  spawner_faults = spawner.faults objects.spawner;
}

module _ {S K E C L P : Type 0} (before after : World S K E C L P) where
  -- nothing was read, and nothing written
  abbrev pub StreamsStay : Type 0
  StreamsStay = (after.input ≡ before.input) × (after.output ≡ before.output)

  -- nobody was let in, and no thread was started
  abbrev pub DoorsStay : Type 0
  DoorsStay = (after.doors ≡ before.doors) × (after.spawner ≡ before.spawner)

  -- nothing was done, but that something may have been told on the sink of faults
  pub record IsIdle : Type 0 where
    pub streams : StreamsStay
    pub cabinet : after.cabinet ≡ before.cabinet
    pub doors : DoorsStay
