-- How a journal is opened, carried on and closed, or not opened.
use Rattle.std.proofs.Math.Logic.{∥∥₁_map}
use Rattle.std.proofs.Common.{◌≡◌, ◌⊎◌, ℕ, zero, suc, ◌≤◌, true, false, List, Option, Some, None, is_some, IfSome, IsSome, IsSomeAnd, refl, sym, ◌∙◌, ap, subst, inl, inr, arith}
use Rattle.devices.specs.declared.cabinets.Opened.TheVariants as opens
use Rattle.devices.specs.declared.disks.Disk.{Ghosts}
use Rattle.devices.specs.Cabinets.{Place, Free, Kept, Out, IsCounted, IsKept, IsOpened, IsSameDisk, OthersStay, is_kept}
use Rattle.devices.specs.Disks.{IsUnchanged}
use Rattle.devices.specs.Faults.{Rose}
use Rattle.desk.proofs.FaultLemmas.{count_reopened}
use Rattle.shared_office.specs.Passages.{Passes, RoseBy}
use Rattle.history.specs.After.{go_on, reopen}
use Rattle.history.specs.Events.{Event, History}
use Rattle.history.specs.Legal.{IsLegal}
use Rattle.journal.proofs.Moments.{joined, started}
use Rattle.journal.specs.JournalBytes.{HasAnyHeader, IsJournalOf}
use Rattle.journal.specs.Moments.{IsContent, LeavesOnly, SyncsFirst}
use Rattle.journal.specs.declared.opening.OpenFault.{OpenFault}
use Rattle.journal.specs.declared.opening.OpenFault.TheVariants as opening
use Rattle.office.proofs.CountLemmas.{none_accepted}
use Rattle.office.specs.Counting.{HasCounted, fault_count}
use Rattle.office.specs.Openings.{IsDamagedFor, IsNotOpened}
use Rattle.office.specs.Stops.{IsLeft, IsLeftBetween}
use Rattle.office_inputs.specs.Usual.{usual}
use Rattle.records.specs.Sheets.{Record}
use Rattle.records.specs.declared.formats.Format.{Format}
use Rattle.register.specs.Registered.{Registered}
use Rattle.commands.proofs.Lawful.{HasCause, innocent}
use Rattle.commands.proofs.PlaceLemmas.{counts_absent, counts_failed, counts_kept, leaves_kept, opened_and_kept, rose_kept, was_kept}
use Rattle.commands.proofs.ReopenLemmas.{found_left}
use Rattle.commands.specs.Opening.{Carries, GoesOnAt, IsClosedUnder, IsLeftOn, IsNotOpenedUnder, IsOpenedUnder, LeadsTo, StoodUnopened, WorksUnder, opening_ending}
use Rattle.commands.specs.Places.{HasKept, HasTheSame, IsLeftAlone, StaysWith}
use Rattle.commands.specs.Ready.{HasSound, IsSound}
use Rattle.commands.specs.Statuses.{status_of}
use Rattle.commands.specs.Worlds.{Shelf, Told}

-- a disk that tells its bytes has these
both_told : (o : Option (List ℕ)) (P : List ℕ → Type 0) → IsSome o → IfSome o P → IsSomeAnd o P
both_told None P told h = absurd (cc told)
both_told (Some bytes) P told h = h

carries_journal : {D : Type 0} (g : Ghosts D) (pieces : List Record) (after : History) (o : Option (List ℕ)) (left : D)
    → (is_some o ≡ true → IsSome (g.content left)) → IfSome o (IsJournalOf after.format pieces) → IfSome (g.content left) (IsLeft after)
    → (IsSome (g.content left) → (image : List ℕ) → g.may_leave left image → IsLeft after image)
    → IfSome o (λ bytes. IsJournalOf after.format pieces bytes × IsLeftOn g after left)
carries_journal g pieces after None left told found now images = tt
carries_journal g pieces after (Some bytes) left told found now images =
    (found, record { now = both_told (g.content left) (IsLeft after) (told refl) now; images = images (told refl) })

-- the causes of all faults of a run
all_causes : (pieces : List Record) (after : History) (since : List Event) (f f' : ℕ)
    → after ≡ go_on (reopen usual after.format pieces) since
    → RoseBy (fault_count since) f f' → RoseBy (fault_count after.events) 0 f'
all_causes pieces after since f f' goes_on causes =
    let none : fault_count after.events ≡ fault_count since =
    ap (λ (h : History). fault_count h.events) goes_on ∙ count_reopened pieces since in
    omega (arith, causes, none)

-- what a stop left from the opening on
carries_moments : {D : Type 0} (g : Ghosts D) (pieces : List Record) (after : History) (since : List Event)
    (o : Option (List ℕ)) (found opened left : D)
    → SyncsFirst g found opened (IsContent o) → IfSome o (IsJournalOf after.format pieces) → after ≡ go_on (reopen usual after.format pieces) since
    → (is_some o ≡ true → LeavesOnly g opened left (IsLeftBetween (reopen usual after.format pieces) after))
    → IfSome o (λ bytes. SyncsFirst g found left (IsLeftBetween (reopen usual after.format pieces) after))
carries_moments g pieces after since None found opened left first journal goes_on second = tt
carries_moments g pieces after since (Some bytes) found opened left first journal goes_on second =
    let between = IsLeftBetween (reopen usual after.format pieces) after in
    record {
      synced = first.synced;
      first = first.first;
      before = first.before;
      since =
          joined g first.synced opened left (IsContent (Some bytes)) between between first.since (second refl)
          (λ image is. found_left after.format pieces after since bytes image goes_on journal is) (λ image h. h);
    }

-- what was done over the journal that was found, on the disk as it was opened, up to the one that is given back
carries : {D : Type 0} (g : Ghosts D) (pieces : List Record) (after : History) (found opened left : D)
    → IfSome (g.content found) (IsJournalOf after.format pieces) → IsUnchanged (g.content found) (g.content opened)
    → SyncsFirst g found opened (IsContent (g.content found)) → Passes g (reopen usual after.format pieces) after opened left
    → IfSome (g.content left) (IsLeft after)
    → (IsSome (g.content left) → (image : List ℕ) → g.may_leave left image → IsLeft after image) → IsLegal after
    → Carries g pieces after found left
carries g pieces after found opened left journal same first passed now images legal =
    let opens : is_some (g.content opened) ≡ is_some (g.content found) = ap is_some same in
    record {
      journal = carries_journal g pieces after (g.content found) left (λ told. passed.told ∙ opens ∙ told) journal now images;
      any_moment = carries_moments g pieces after passed.since (g.content found) found opened left first journal passed.goes_on
          (λ told. passed.leaves (opens ∙ told));
      causes = all_causes pieces after passed.since (g.faults opened) (g.faults left) passed.goes_on passed.causes;
      legal = legal;
    }

-- a disk that was given has the same as the one that was kept, and goes on from it
moments_kept : {D : Type 0} (g : Ghosts D) (P : List ℕ → Type 0) (o : Option (List ℕ)) (held disk left : D) → IsSameDisk g held disk
    → IfSome o (λ bytes. SyncsFirst g disk left P) → IfSome o (λ bytes. SyncsFirst g held left P)
moments_kept g P None held disk left given h = tt
moments_kept g P (Some bytes) held disk left given h = record {
  synced = h.synced;
  first = rw (sym given.same, sym given.listed) h.first;
  before = leaves_kept g held disk h.synced (g.may_leave disk) (g.may_leave held) given h.before given.images;
  since = h.since;
}

carried : {D : Type 0} (g : Ghosts D) (pieces : List Record) (after : History) (held disk left : D) → IsSameDisk g held disk
    → Carries g pieces after disk left → Carries g pieces after held left
carried g pieces after held disk left given h = record {
  journal = subst (λ (o : Option (List ℕ)). IfSome o (λ bytes. IsJournalOf after.format pieces bytes × IsLeftOn g after left)) given.same h.journal;
  any_moment = subst (λ (o : Option (List ℕ)). IfSome o (λ bytes. SyncsFirst g held left (IsLeftBetween (reopen usual after.format pieces) after)))
      given.same
      (moments_kept g (IsLeftBetween (reopen usual after.format pieces) after) (g.content disk) held disk left given h.any_moment);
  causes = h.causes;
  legal = h.legal;
}

-- no fault, or the cabinet's count rose
no_fault : (n f' c0 c1 c2 : ℕ) → RoseBy n 0 f' → c0 ≤ c1 → IsCounted f' c1 c2 → (n ≡ 0) ⊎ Rose c0 c2
no_fault zero f' c0 c1 c2 rose later is = inl refl
no_fault (suc n) f' c0 c1 c2 rose later is = inr (rose_kept 0 f' c0 c1 c2 refl (omega (arith, rose)) later is)

-- an office that was opened under a name, and whose history went on in the format in which the journal was found
module _ {D : Type 0} (g : Ghosts D) (name : List ℕ) (register : Registered) (opened : D) (before now : Shelf D)
    (o : IsOpenedUnder g name register opened before now) (format : Format) (same : format ≡ register.history.format) where
  journal_found : IfSome (g.content o.found) (IsJournalOf format o.pieces)
  journal_found = subst (λ (f : Format). IfSome (g.content o.found) (IsJournalOf f o.pieces)) (sym same) o.journal

  reopened_from : register.history ≡ reopen usual format o.pieces
  reopened_from = o.reopened ∙ ap (λ (f : Format). reopen usual f o.pieces) (sym same)

-- an office that was opened under a name, on which something was done, and that was closed under it
module _ {D : Type 0} (g : Ghosts D) (name : List ℕ) (GoesOn : List Record → History → D → D → Type 0) (Worked : History → History → Type 0)
    (register : Registered) (opened left : D) (last : History) (before now after : Shelf D)
    (o : IsOpenedUnder g name register opened before now) (same : last.format ≡ register.history.format)
    (closed : IsClosedUnder g name last left now after) where
  under : ((held : D) → IsSameDisk g held o.found → GoesOn o.pieces last held left) → RoseBy (fault_count last.events) 0 (g.faults left)
      → Worked register.history last → WorksUnder g name GoesOn Worked before after
  under goes_on causes worked = record {
    pieces = o.pieces;
    last = last;
    worked = subst (λ (h : History). Worked h last) (reopened_from g name register opened before now o last.format same) worked;
    goes_on =
        opened_and_kept g name false before.places now.places after.places o.found left
        (λ b a. GoesOnAt g (GoesOn o.pieces last) b a) o.given closed.kept
        (λ place given. was_kept g place o.found left (λ b a. GoesOnAt g (GoesOn o.pieces last) b a) given (λ held is. goes_on held is));
    causes =
        no_fault (fault_count last.events) (g.faults left) before.faults now.faults after.faults causes (omega (arith, o.counted))
        closed.counted;
    counted =
        counts_kept g ⊥ name false before.places now.places after.places o.found left before.faults now.faults after.faults
        o.given closed.kept o.counted closed.counted;
  }

-- by one thread
pub works_under : {D : Type 0} (g : Ghosts D) (name : List ℕ) (Worked : History → History → Type 0) (register : Registered) (opened left : D)
    (last : History) (before now after : Shelf D)
    → IsOpenedUnder g name register opened before now → Passes g register.history last opened left → Worked register.history last
    → IsClosedUnder g name last left now after → WorksUnder g name (Carries g) Worked before after
works_under g name Worked register opened left last before now after o passed worked closed =
    let same : last.format ≡ register.history.format = ap (λ (h : History). h.format) passed.goes_on in
    let through = carries g o.pieces last o.found opened left (journal_found g name register opened before now o last.format same) o.same o.synced
    (subst (λ (h : History). Passes g h last opened left) (reopened_from g name register opened before now o last.format same) passed)
    closed.stands closed.images closed.legal in
    under g name (Carries g) Worked register opened left last before now after o same closed
    (λ held is. carried g o.pieces last held o.found left is through) through.causes worked

-- by several, behind a lock
pub shared_under : {D : Type 0} (g : Ghosts D) (name : List ℕ) (Worked : History → History → Type 0) (register : Registered) (opened left : D)
    (last : History) (before now after : Shelf D)
    → IsOpenedUnder g name register opened before now → HasCounted last (g.faults left) → ∥ Passes g register.history last opened left ∥₁
    → last.format ≡ register.history.format → Worked register.history last → IsClosedUnder g name last left now after
    → WorksUnder g name (LeadsTo g) Worked before after
shared_under g name Worked register opened left last before now after o counted passed same worked closed =
    let causes : RoseBy (fault_count last.events) 0 (g.faults left) = omega (arith, counted) in
    let journal = journal_found g name register opened before now o last.format same in
    under g name (LeadsTo g) Worked register opened left last before now after o same closed
    (λ held is. record {
      journal = subst (λ (c : Option (List ℕ)). IfSome c (IsJournalOf last.format o.pieces)) is.same journal;
      now = closed.stands;
      images = closed.images;
      causes = causes;
      legal = closed.legal;
      any_moment =
          ∥∥₁_map passed (λ p.
          carried g o.pieces last held o.found left is
          (carries g o.pieces last o.found opened left journal o.same o.synced
          (subst (λ (h : History). Passes g h last opened left) (reopened_from g name register opened before now o last.format same) p)
          closed.stands closed.images closed.legal));
    })
    causes worked

-- an office that was opened has no fault in its history
pub opened_counts : {D : Type 0} (g : Ghosts D) (name : List ℕ) (register : Registered) (opened : D) (before now : Shelf D) (count : ℕ)
    → IsOpenedUnder g name register opened before now → HasCounted register.history count
opened_counts g name register opened before now count o =
    let none : fault_count register.history.events ≡ 0 = ap (λ (h : History). fault_count h.events) o.reopened ∙ none_accepted o.pieces in
    omega (arith, none)

-- a disk with nothing written on it, as it was under the name
stayed : {D : Type 0} (g : Ghosts D) (held disk left : D) → IsSameDisk g held disk → IsLeftAlone g disk left → IsLeftAlone g held left
stayed g held disk left given h = record {
  same = h.same ∙ given.same;
  images = λ image m. given.images image (h.images image m);
  any_moment = leaves_kept g held disk left (g.may_leave disk) (g.may_leave held) given h.any_moment given.images;
}

-- what stays at the place of a disk that was given and is kept again
stays_kept : {D : Type 0} (g : Ghosts D) (name : List ℕ)
    (p0 p1 p2 : Option (List ℕ → Place D)) (disk left : D) (P : Place D → Type 0)
    → IsOpened g name false p0 p1 (opens.Disk disk) → IsKept name left p1 p2
    → IsLeftAlone g disk left
    → ((held : D) → g.content disk ≡ g.content held → P (Kept held))
    → StaysWith g name P p0 p2
stays_kept {D} g name p0 p1 p2 disk left P opened kept same follows =
    regroup p0 p2 (opened_and_kept g name false p0 p1 p2 disk left
    (λ before after. P before × HasTheSame g before after) opened kept
    (λ place given. was_kept g place disk left (λ before after. P before × HasTheSame g before after) given
    (λ held is. (follows held is.same, stayed g held disk left is same))))
  where
    regroup : (p0 p2 : Option (List ℕ → Place D))
        → IfSome p0 (λ b. IsSomeAnd p2 (λ a. (P (b name) × HasTheSame g (b name) (a name)) × OthersStay name b a))
        → StaysWith g name P p0 p2
    regroup None p2 h = tt
    regroup (Some b) None h = absurd h
    regroup (Some b) (Some a) h = (h.0.0, (h.0.1, h.1))

-- why the journal of a disk is not opened, as it is under its name
stood : {D : Type 0} (g : Ghosts D) (why : OpenFault) (disk held : D) (f f' : ℕ) → g.content disk ≡ g.content held
    → IsNotOpened (g.content disk) usual why f f' → StoodUnopened g why (Kept held)
stood g opening.Fault disk held f f' same refused = tt
stood g opening.NotAJournal disk held f f' same refused =
    subst (λ (o : Option (List ℕ)). IfSome o (λ bytes. ¬ HasAnyHeader bytes)) same refused
stood g (opening.Damaged at) disk held f f' same refused = subst (λ (o : Option (List ℕ)). IfSome o (IsDamagedFor usual at)) same refused
stood g opening.NoMemory disk held f f' same refused = tt

-- the disk that was given is under its name again, since its journal was not opened
pub refused_under : {D : Type 0} (g : Ghosts D) (name : List ℕ) (why : OpenFault) (p0 p1 p2 : Option (List ℕ → Place D)) (c0 c1 c2 : ℕ)
    (disk left : D) → ((disk : D) (from : ℕ) (image : List ℕ) → from ≤ g.moment disk → g.may_leave disk image → g.left_since disk from image)
    → IsOpened g name false p0 p1 (opens.Disk disk) → IsKept name left p1 p2 → g.faults disk ≡ 0 → c1 ≡ c0 → IsCounted (g.faults left) c1 c2
    → IsNotOpened (g.content disk) usual why (g.faults disk) (g.faults left)
    → IsUnchanged (g.content disk) (g.content left) → LeavesOnly g disk left (g.may_leave disk)
    → IsNotOpenedUnder g name why (record { places = p0; faults = c0 }) (record { places = p2; faults = c2 })
refused_under {D} g name why p0 p1 p2 c0 c1 c2 disk left counts opened kept fresh same count refused unchanged leaves = record {
  stays = stays_kept g name p0 p1 p2 disk left (StoodUnopened g why) opened kept alone
      (λ held is. stood g why disk held (g.faults disk) (g.faults left) is refused);
  cause = λ fault. rose_kept (g.faults disk) (g.faults left) c0 c1 c2 fresh
      (subst (λ (w : OpenFault). IsNotOpened (g.content disk) usual w (g.faults disk) (g.faults left)) fault refused)
      (omega (arith, same)) count;
  counted = counts_kept g (why ≡ opening.Fault) name false p0 p1 p2 disk left c0 c1 c2 opened kept same count;
}
  where
    alone : IsLeftAlone g disk left
    alone = record {
      same = unchanged;
      images = λ image m. leaves.each image (counts left (g.moment disk) image leaves.later m);
      any_moment = leaves;
    }

-- a place has what it had
has_the_same : {D : Type 0} (g : Ghosts D) (place : Place D)
    → ((disk : D) (image : List ℕ) → g.left_since disk (g.moment disk) image → g.may_leave disk image)
    → HasTheSame g place place
has_the_same g Free only = refl
has_the_same g (Kept held) only = record {
  same = refl;
  images = λ image m. m;
  any_moment = started g held (g.may_leave held) (only held);
}
has_the_same g Out only = refl

same_after : {D : Type 0} (g : Ghosts D) (before after : Place D)
    → ((disk : D) (image : List ℕ) → g.left_since disk (g.moment disk) image → g.may_leave disk image)
    → after ≡ before → HasTheSame g before after
same_after {D} g before after only same = subst (λ (p : Place D). HasTheSame g before p) (sym same) (has_the_same g before only)

-- no disk is under the name
no_header : {D : Type 0} (g : Ghosts D) (place : Place D) → is_kept place ≡ false → StoodUnopened g opening.NotAJournal place
no_header g Free none = tt
no_header g (Kept disk) none = absurd (cc none)
no_header g Out none = tt

absent_stays : {D : Type 0} (g : Ghosts D) (name : List ℕ) (p0 p2 : Option (List ℕ → Place D))
    → ((disk : D) (image : List ℕ) → g.left_since disk (g.moment disk) image → g.may_leave disk image)
    → IsOpened g name false p0 p2 opens.Absent → StaysWith g name (StoodUnopened g opening.NotAJournal) p0 p2
absent_stays g name None p2 only opened = tt
absent_stays g name (Some b) None only opened = absurd opened
absent_stays g name (Some b) (Some a) only opened =
    (no_header g (b name) opened.1, (same_after g (b name) (a name) only (opened.2 name), λ other apart. opened.2 other))

pub absent_under : {D : Type 0} (g : Ghosts D) (name : List ℕ) (p0 p2 : Option (List ℕ → Place D)) (c0 c2 : ℕ)
    → ((disk : D) (image : List ℕ) → g.left_since disk (g.moment disk) image → g.may_leave disk image)
    → IsOpened g name false p0 p2 opens.Absent → c2 ≡ c0
    → IsNotOpenedUnder g name opening.NotAJournal (record { places = p0; faults = c0 }) (record { places = p2; faults = c2 })
absent_under g name p0 p2 c0 c2 only opened same = record {
  stays = absent_stays g name p0 p2 only opened;
  cause = λ is. absurd (cc is);
  counted = counts_absent g (opening.NotAJournal ≡ opening.Fault) name false p0 p2 c0 c2 opened same;
}

failed_stays : {D : Type 0} (g : Ghosts D) (name : List ℕ) (p0 p2 : Option (List ℕ → Place D))
    → ((disk : D) (image : List ℕ) → g.left_since disk (g.moment disk) image → g.may_leave disk image)
    → IsOpened g name false p0 p2 opens.Failed → StaysWith g name (StoodUnopened g opening.Fault) p0 p2
failed_stays g name None p2 only opened = tt
failed_stays g name (Some b) None only opened = absurd opened
failed_stays g name (Some b) (Some a) only opened =
    (tt, (same_after g (b name) (a name) only (opened name), λ other apart. opened other))

pub failed_under : {D : Type 0} (g : Ghosts D) (name : List ℕ) (p0 p2 : Option (List ℕ → Place D)) (c0 c2 : ℕ)
    → ((disk : D) (image : List ℕ) → g.left_since disk (g.moment disk) image → g.may_leave disk image)
    → IsOpened g name false p0 p2 opens.Failed → Rose c0 c2
    → IsNotOpenedUnder g name opening.Fault (record { places = p0; faults = c0 }) (record { places = p2; faults = c2 })
failed_under g name p0 p2 c0 c2 only opened rose = record {
  stays = failed_stays g name p0 p2 only opened;
  cause = λ is. rose;
  counted = counts_failed g (opening.Fault ≡ opening.Fault) name false p0 p2 c0 c2 opened refl;
}

-- what it comes to that a journal was not opened: the cause of a fault is the cabinet's count
pub unopened_cause : {D : Type 0} (why : OpenFault) (before after : Told D)
    → (why ≡ opening.Fault → Rose before.cabinet.faults after.cabinet.faults) → HasCause (status_of (opening_ending why)) before after
unopened_cause opening.Fault before after cause = record {
  asked = λ is. cc is;
  input = λ is. absurd (cc is);
  output = λ is. absurd (cc is);
  cabinet = λ is. cause refl;
  doors = λ is. absurd (cc is);
}
unopened_cause opening.NotAJournal before after cause = innocent 5 before after refl
unopened_cause (opening.Damaged at) before after cause = innocent 5 before after refl
unopened_cause opening.NoMemory before after cause = innocent 6 before after refl

-- two facts of what is there
both : (o : Option (List ℕ)) (P Q : List ℕ → Type 0) → IfSome o P → IsSomeAnd o Q → (bytes : List ℕ) × P bytes × Q bytes
both None P Q p q = absurd q
both (Some bytes) P Q p q = (bytes, p, q)

-- a place with a journal that is not damaged has a header and no damage
sound_header : {D : Type 0} (g : Ghosts D) (place : Place D)
    → HasKept (λ disk. IsSomeAnd (g.content disk) IsSound) place → StoodUnopened g opening.NotAJournal place → ⊥
sound_header g Free sound none = sound
sound_header g Out sound none = sound
sound_header g (Kept disk) sound none =
    let found = both (g.content disk) (λ bytes. ¬ HasAnyHeader bytes) IsSound none sound in found.1 found.2.header

sound_whole : {D : Type 0} (g : Ghosts D) (place : Place D) (at : ℕ)
    → HasKept (λ disk. IsSomeAnd (g.content disk) IsSound) place → StoodUnopened g (opening.Damaged at) place → ⊥
sound_whole g Free at sound damaged = sound
sound_whole g Out at sound damaged = sound
sound_whole g (Kept disk) at sound damaged =
    let found = both (g.content disk) (IsDamagedFor usual at) IsSound damaged sound in found.2.whole at found.1

not_stays : {D : Type 0} (g : Ghosts D) (name : List ℕ) (P : Place D → Type 0)
    (p0 p2 : Option (List ℕ → Place D)) → HasSound g name p0 → StaysWith g name P p0 p2
    → ((place : Place D) → HasKept (λ disk. IsSomeAnd (g.content disk) IsSound) place → P place → ⊥) → ⊥
not_stays g name P None p2 sound stays never = sound
not_stays g name P (Some b) None sound stays never = stays
not_stays g name P (Some b) (Some a) sound stays never = never (b name) sound stays.0

-- a sound journal is opened, where the cabinet's count did not rise, but for want of memory
pub sound_opens : {D : Type 0} (g : Ghosts D) (name : List ℕ) (why : OpenFault) (before after : Shelf D)
    → IsNotOpenedUnder g name why before after → HasSound g name before.places → ¬ (Rose before.faults after.faults)
    → status_of (opening_ending why) ≡ 6
sound_opens g name opening.Fault before after h sound well = absurd (well (h.cause refl))
sound_opens g name opening.NotAJournal before after h sound well =
    absurd (not_stays g name (StoodUnopened g opening.NotAJournal) before.places after.places sound h.stays (sound_header g))
sound_opens g name (opening.Damaged at) before after h sound well =
    absurd (not_stays g name (StoodUnopened g (opening.Damaged at)) before.places after.places sound h.stays
    (λ place. sound_whole g place at))
sound_opens g name opening.NoMemory before after h sound well = refl
