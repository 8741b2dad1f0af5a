-- A mend of the journal, where one is due, and an append behind it.
use Rattle.std.specs.Prelude.{◌≡◌, ◌⊎◌, ℕ, ◌-◌, ◌^◌, ◌≤◌, Bool, true, false, List, ◌++◌, Option, Some, None, is_some, IsSome, is_err, Result, Ok, Err}
use Rattle.std.proofs.Common.{arith, refl, ap, sym, subst, inl, inr, ◌∙◌, append_assoc}
use Rattle.devices.specs.declared.disks.Disk.{Ghosts}
use Rattle.devices.specs.declared.disks.DiskFailed.{DiskFailed}
use Rattle.journal.specs.JournalBytes.{StandsFor}
use Rattle.journal.specs.Keeping.{Appends, Holds, IsNext, AppendCalls, ShowsCalls, doubt_of, in_flight, leaves_doubt}
use Rattle.journal.specs.Moments.{LeavesOnly}
use Rattle.journal.specs.Writing.{Lists}
use Rattle.journal.specs.declared.keeping.AppendFault.{AppendFault}
use Rattle.journal.specs.declared.keeping.AppendFault.TheVariants.{Full, Fault}
use Rattle.journal.specs.declared.keeping.Journal.{Journal}
use Rattle.journal.proofs.Moments.{joined}
use Rattle.office.specs.Edits.{FailsToAppend, mended}
use Rattle.office.specs.Keeping.{IsLeftKeeping, Settles, SettleCalls}
use Rattle.records.specs.Sheets.{Record}
use Rattle.records.specs.declared.formats.Format.{Format}

-- the mend was done, or none was due
pub settled_holds : {D T : Type 0} {g : Ghosts D} (pieces : List Record) (left : Option Record) (journal : Journal D g) (result : Result T DiskFailed)
    → is_err result ≡ false → Settles pieces left journal result → Holds pieces None journal
settled_holds pieces left journal (Ok done) e h = h
settled_holds pieces left journal (Err failed) e h = absurd (cc)

settled_calls : {T : Type 0} (doubtful : Bool) (result : Result T DiskFailed) (calls : List Bool) → is_err result ≡ false → SettleCalls doubtful result calls
    → calls ≡ mended doubtful
settled_calls doubtful (Ok done) calls e h = h
settled_calls doubtful (Err failed) calls e h = absurd (cc)

-- an append that failed
failed_append : (T : Type 0) (in_doubt : Bool) (fault : AppendFault) (calls : List Bool) → (fault ≡ Full → ⊥) → leaves_doubt {T = T} (Err fault) ≡ in_doubt
    → AppendCalls {T = T} (Err fault) calls → AppendCalls {T = ℕ} (Err (Fault in_doubt)) calls
failed_append T in_doubt Full calls not is h = absurd (not refl)
failed_append T in_doubt (Fault true) calls not is h = subst (λ (b : Bool). AppendCalls {T = ℕ} (Err (Fault b)) calls) is h
failed_append T in_doubt (Fault false) calls not is h = subst (λ (b : Bool). AppendCalls {T = ℕ} (Err (Fault b)) calls) is h

pub fault_calls : (T : Type 0) (doubtful in_doubt : Bool) (fault : AppendFault) (calls : List Bool) → (fault ≡ Full → ⊥) → leaves_doubt {T = T} (Err fault) ≡ in_doubt
    → AppendCalls {T = T} (Err fault) calls → FailsToAppend doubtful in_doubt (mended doubtful ++ calls)
fault_calls T doubtful in_doubt fault calls not is h = (calls, refl, failed_append T in_doubt fault calls not is h)

-- the record that an append may have left where it failed
pub flown_failed : (T : Type 0) (piece : Record) (fault : AppendFault) (in_doubt : Bool) → leaves_doubt {T = T} (Err fault) ≡ in_doubt
    → in_flight {T = T} piece (Err fault) ≡ doubt_of in_doubt piece
flown_failed T piece Full in_doubt is = ap (λ (b : Bool). doubt_of b piece) is
flown_failed T piece (Fault told) in_doubt is = ap (λ (b : Bool). doubt_of b piece) is

-- and what the journal holds then
pub failed_holds : {D : Type 0} {g : Ghosts D} (T : Type 0) (pieces : List Record) (piece : Record) (journal : Journal D g) (fault : AppendFault) (in_doubt : Bool)
    → leaves_doubt {T = T} (Err fault) ≡ in_doubt → Appends {T = T} pieces piece journal (Err fault) → Holds pieces (doubt_of in_doubt piece) journal
failed_holds T pieces piece journal Full in_doubt is h = subst (λ (b : Bool). Holds pieces (doubt_of b piece) journal) is h
failed_holds T pieces piece journal (Fault told) in_doubt is h = subst (λ (b : Bool). Holds pieces (doubt_of b piece) journal) is h

-- the calls of one run behind those of another
both_listed : (a b c : List Bool) (first second : ℕ) (P Q R : List Bool → Type 0) → first ≤ second
    → ((calls : List Bool) × (b ≡ a ++ calls) × P calls) ⊎ (2 ^ 64 - 1 ≤ first) → ((calls : List Bool) × (c ≡ b ++ calls) × Q calls) ⊎ (2 ^ 64 - 1 ≤ second)
    → ((x y : List Bool) → P x → Q y → R (x ++ y))
    → ((calls : List Bool) × (c ≡ a ++ calls) × R calls) ⊎ (2 ^ 64 - 1 ≤ second)
both_listed a b c first second P Q R le (inl x) (inl y) both =
    inl (x.0 ++ y.0, y.1 ∙ ap (λ (l : List Bool). l ++ y.0) x.1 ∙ append_assoc a x.0 y.0, both x.0 y.0 x.2 y.2)
both_listed a b c first second P Q R le (inl x) (inr full) both = inr full
both_listed a b c first second P Q R le (inr full) y both = inr (omega (arith, full, le))

pub lists_joined : (old mid : Option (List ℕ)) (a b c : List Bool) (first second : ℕ) (P Q R : List Bool → Type 0) → IsSome mid → first ≤ second
    → Lists old a b first P → Lists mid b c second Q → ((x y : List Bool) → P x → Q y → R (x ++ y)) → Lists old a c second R
lists_joined None mid a b c first second P Q R told le x y both = tt
lists_joined (Some bytes) None a b c first second P Q R told le x y both = absurd (cc)
lists_joined (Some bytes) (Some more) a b c first second P Q R told le x y both = both_listed a b c first second P Q R le x y both

-- a run with these calls behind the mend
module _ {D : Type 0} {g : Ghosts D} (pieces : List Record) (left : Option Record) (old mid : Journal D g) (result : Result (Unit {0}) DiskFailed)
    (done : is_err result ≡ false) (holds : Holds pieces left old)
    (settled : (pieces : List Record) (left : Option Record) → Holds pieces left old → Settles pieces left mid result) where
  pub keep_moments : (T : Type 0) (piece : Record) (bytes : List ℕ) (new : D) (appended : Result T AppendFault) (flown : Option Record)
      → mid.format ≡ old.format → in_flight piece appended ≡ flown → IsNext old.format piece bytes
      → ((pieces : List Record) (left : Option Record) → Holds pieces left old → LeavesOnly g old.disk mid.disk (StandsFor old.format pieces left))
      → ((pieces : List Record) (piece : Record) → Holds pieces None mid → IsNext mid.format piece bytes
      → LeavesOnly g mid.disk new (StandsFor mid.format pieces (in_flight piece appended)))
      → LeavesOnly g old.disk new (IsLeftKeeping old.format pieces left flown)
  keep_moments T piece bytes new appended flown same is next first second =
      joined g old.disk mid.disk new (StandsFor old.format pieces left) (StandsFor mid.format pieces (in_flight piece appended))
      (IsLeftKeeping old.format pieces left flown) (first pieces left holds)
      (second pieces piece (settled_holds pieces left mid result done (settled pieces left holds))
      (subst (λ (f : Format). IsNext f piece bytes) (sym same) next)) (λ image s. inl s)
      (λ image s. inr (subst (λ (f : Format). StandsFor f pieces flown image) same (subst (λ (o : Option Record). StandsFor mid.format pieces o image) is s)))

  -- what the journal holds behind an append
  pub keep_appended : (T : Type 0) (piece : Record) (bytes : List ℕ) (new : Journal D g) (appended : Result T AppendFault) → mid.format ≡ old.format
      → IsNext old.format piece bytes
      → ((pieces : List Record) (piece : Record) → Holds pieces None mid → IsNext mid.format piece bytes → Appends pieces piece new appended)
      → Appends pieces piece new appended
  keep_appended T piece bytes new appended same next each =
      each pieces piece (settled_holds pieces left mid result done (settled pieces left holds))
      (subst (λ (f : Format). IsNext f piece bytes) (sym same) next)

  -- where each list of an append's calls, behind those of the mend, has P
  pub keep_calls : (T : Type 0) (new : D) (appended : Result T AppendFault) (P : List Bool → Type 0)
      → Lists (g.content old.disk) (g.calls old.disk) (g.calls mid.disk) (g.faults mid.disk) (SettleCalls old.in_doubt result)
      → ShowsCalls (g.content mid.disk) (g.calls mid.disk) (g.calls new) (g.faults new) appended → g.faults mid.disk ≤ g.faults new
      → ((calls : List Bool) → AppendCalls appended calls → P (mended (is_some left) ++ calls))
      → Lists (g.content old.disk) (g.calls old.disk) (g.calls new) (g.faults new) P
  keep_calls T new appended P first second counted each =
      lists_joined (g.content old.disk) (g.content mid.disk) (g.calls old.disk) (g.calls mid.disk) (g.calls new) (g.faults mid.disk) (g.faults new)
      (SettleCalls old.in_doubt result) (AppendCalls appended) P
      (settled_holds pieces left mid result done (settled pieces left holds)).told counted first second
      (λ x y p q.
      let is : x ≡ mended (is_some left) = settled_calls old.in_doubt result x done p ∙ ap mended holds.in_doubt_is in
      subst (λ (l : List Bool). P (l ++ y)) (sym is) (each y q))
