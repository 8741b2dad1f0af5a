-- What a worker goes through.
use Rattle.std.specs.Prelude.{◌≡◌, ℕ, ◌+◌, ◌-◌, List, length, All, Some, Err}
use Rattle.devices.specs.declared.disks.Disk.{Ghosts}
use Rattle.fixed_units.specs.declared.texts.NoMemory as texts
use Rattle.shared_office.specs.Finding.{FindsBy}
use Rattle.shared_office.specs.Holdings.{Holding, last_of, places_of}
use Rattle.shared_office.specs.Passing.{Goes, GoesOnce, Lock, PassTo, fixed_in}
use Rattle.shared_office.specs.Working.{AddsADay, IsDrained, IsTask}
use Rattle.shared_office.specs.declared.entries.Entry.{Entry}
use Rattle.workers.specs.declared.workers.WorkerEnd.{WorkerEnd}
use Rattle.workers.specs.declared.workers.WorkerEnd.TheVariants.{Drained, NoMemory}

-- how many days a worker says that it published
abbrev pub count_told : WorkerEnd → ℕ
count_told (Drained count) = count
count_told (NoMemory count) = count

module _ {D : Type 0} {g : Ghosts D} where
  -- a pass went through claims, looks and publications, which added so many events
  pub record IsAtWork (lock : Lock D g) (given back : PassTo D g) (holdings : List (Holding (List Entry))) (count : ℕ) : Type 0 where
    pub goes : Goes given back holdings
    pub tasks : All (IsTask lock) holdings
    pub count_is : count ≡ length (places_of length holdings)

  -- and through one such holding more, and as many events more are counted as it added
  pub record IsMore (lock : Lock D g) (given : PassTo D g) (before : ℕ) (back : PassTo D g) (now : ℕ) : Type 0 where
    pub holding : Holding (List Entry)
    pub goes : GoesOnce given back holding
    pub task : IsTask lock holding
    pub count_is : now ≡ before + (length holding.to - length holding.from)

  -- why a worker ended, by its last holding: the end was told in what it found there, and no day was pending; or it was a claim or a look
  -- that had no memory for a job
  abbrev pub EndsBy : Lock D g → WorkerEnd → Holding (List Entry) → Type 0
  EndsBy lock (Drained count) last = IsDrained (fixed_in lock) last.from
  EndsBy lock (NoMemory count) last = (task : IsTask lock last) × (failed : texts.NoMemory) × FindsBy task.step (Err failed)

  -- a worker's holdings, up to the one by which it ended, and each of them added nothing or the publication of one day
  pub record IsWork (lock : Lock D g) (given back : PassTo D g) (end : WorkerEnd) : Type 0 where
    pub holdings : List (Holding (List Entry))
    pub last : Holding (List Entry)
    pub work : IsAtWork lock given back holdings (count_told end)
    pub adds : All AddsADay holdings
    pub last_is : last_of holdings ≡ Some last
    pub ends : EndsBy lock end last
