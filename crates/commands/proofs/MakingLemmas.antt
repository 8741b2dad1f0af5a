-- How the making of a journal ends.
use Rattle.std.proofs.Common.{◌≡◌, ◌⊎◌, ℕ, true, List, [], Option, Some, None, IfSome, IsSomeAnd, Ok, Err, refl, subst, inl, inr, ⊎_elim, arith}
use Rattle.devices.specs.declared.cabinets.Opened.{Opened}
use Rattle.devices.specs.declared.cabinets.Opened.TheVariants as opens
use Rattle.devices.specs.declared.disks.Disk.{Ghosts}
use Rattle.devices.specs.Cabinets.{Place, Free, Kept, Out, HasCause as CabinetCause, IsAsked, IsCounted, IsEmptyDisk, IsGiven, IsKept, IsOpened}
use Rattle.devices.specs.Disks.{NothingNew}
use Rattle.devices.specs.Faults.{Rose}
use Rattle.journal.proofs.Stops.{whole}
use Rattle.journal.specs.Init.{InitAnswers, InitLeaves, IsLeftByInit}
use Rattle.journal.specs.JournalBytes.{IsForeign, IsTaken}
use Rattle.journal.specs.Moments.{LeavesOnly}
use Rattle.journal.specs.declared.making.InitFault.TheVariants as making
use Rattle.records.specs.declared.formats.Format.TheVariants.{Second}
use Rattle.commands.proofs.Lawful.{HasCause, IsLawful, innocent}
use Rattle.commands.proofs.PlaceLemmas.{counts_failed, counts_kept, leaves_kept, opened_and_kept, rose_kept}
use Rattle.commands.specs.Making.{HasFailed, IsMadeUnder, Made, Makes, MakesAt, MakesOn, MakesUnder, making_ending}
use Rattle.commands.specs.Places.{bytes_found, images_found}
use Rattle.commands.specs.Ready.{CabinetIsWell, HasRoom}
use Rattle.commands.specs.Statuses.{status_of}
use Rattle.commands.specs.Worlds.{Told, World}

pub makes_on : {D : Type 0} (g : Ghosts D) (o : Option (List ℕ)) (images : List ℕ → Type 0) (made : Made) (disk : D)
    → IfSome o (λ bytes. InitAnswers bytes made)
    → IfSome o (λ bytes. InitLeaves Second bytes (g.content disk) images (g.may_leave disk) made)
    → IfSome o (λ bytes. MakesOn g bytes images made disk)
makes_on g None images made disk answer left = tt
makes_on g (Some bytes) images made disk answer left = (answer, left)

-- no more images may be left than these
more_images : {D : Type 0} (g : Ghosts D) (bytes : List ℕ) (few many : List ℕ → Type 0) (made : Made) (disk : D) → NothingNew many few
    → MakesOn g bytes few made disk → MakesOn g bytes many made disk
more_images g bytes few many (Ok done) disk wider h = h
more_images g bytes few many (Err making.Exists) disk wider h = (h.0, (h.1.0, λ image left. wider image (h.1.1 image left)))
more_images g bytes few many (Err making.NotAJournal) disk wider h = (h.0, (h.1.0, λ image left. wider image (h.1.1 image left)))
more_images g bytes few many (Err making.Fault) disk wider h =
    (h.0, (h.1.0, λ occupied. let kept = h.1.1 occupied in (kept.0, λ image left. wider image (kept.1 image left))))

more_images_if : {D : Type 0} (g : Ghosts D) (o : Option (List ℕ)) (few many : List ℕ → Type 0) (made : Made) (disk : D)
    → NothingNew many few
    → IfSome o (λ bytes. MakesOn g bytes few made disk) → IfSome o (λ bytes. MakesOn g bytes many made disk)
more_images_if g None few many made disk wider h = tt
more_images_if g (Some bytes) few many made disk wider h = more_images g bytes few many made disk wider h

-- of more images a stop may leave more
left_more : (content : Option (List ℕ)) (few many : List ℕ → Type 0) (made : Made) (image : List ℕ) → NothingNew many few
    → IsLeftByInit content few made image → IsLeftByInit content many made image
left_more content few many (Ok done) image wider h = (h.0, wider h.0 h.1, h.2)
left_more content few many (Err making.Exists) image wider h = wider image h
left_more content few many (Err making.NotAJournal) image wider h = wider image h
left_more content few many (Err making.Fault) image wider h =
    ((h.0.0, wider h.0.0 h.0.1, h.0.2), λ occupied. wider image (h.1 occupied))

-- what might have been left before may be left by each answer
left_before : (content : Option (List ℕ)) (all : List ℕ → Type 0) (made : Made) (image : List ℕ) → all image
    → IsLeftByInit content all made image
left_before content all (Ok done) image h = (image, h, whole 0 17 image)
left_before content all (Err making.Exists) image h = h
left_before content all (Err making.NotAJournal) image h = h
left_before content all (Err making.Fault) image h = ((image, h, whole 0 17 image), λ occupied. h)

-- a disk that was made left no bytes before
leaves_made : {D : Type 0} (g : Ghosts D) (made : Made) (disk left : D) → IsEmptyDisk g disk
    → LeavesOnly g disk left (IsLeftByInit (g.content disk) (g.may_leave disk) made)
    → (image : List ℕ) → g.left_since left 0 image → IsLeftByInit (Some []) (λ image. image ≡ []) made image
leaves_made g made disk left empty leaves image k =
    ⊎_elim
    (λ was. left_before (Some []) (λ image. image ≡ []) made image (empty.since 0 image was))
    (λ now. left_more (Some []) (g.may_leave disk) (λ image. image ≡ []) made image empty.images
    (subst (λ (o : Option (List ℕ)). IsLeftByInit o (g.may_leave disk) made image) empty.none now))
    (leaves.before 0 image (omega arith) k)

-- what was made on the disk that was given is made at its place
module _ {D : Type 0} (g : Ghosts D) (made : Made) (disk left : D)
    (makes : IfSome (g.content disk) (λ bytes. MakesOn g bytes (g.may_leave disk) made left))
    (leaves : LeavesOnly g disk left (IsLeftByInit (g.content disk) (g.may_leave disk) made)) where
  on_made : IsEmptyDisk g disk → MakesOn g [] (λ image. image ≡ []) made left
  on_made empty =
      more_images g [] (g.may_leave disk) (λ image. image ≡ []) made left empty.images
      (subst (λ (o : Option (List ℕ)). IfSome o (λ bytes. MakesOn g bytes (g.may_leave disk) made left)) empty.none makes)

  made_at : (place : Place D) → IsGiven g true place disk → MakesAt g made place (Kept left)
  made_at Free given = inr (on_made given.1, leaves_made g made disk left given.1 leaves)
  made_at (Kept held) given =
      inr (
        more_images_if g (g.content held) (g.may_leave disk) (g.may_leave held) made left given.images
            (subst (λ (o : Option (List ℕ)). IfSome o (λ bytes. MakesOn g bytes (g.may_leave disk) made left)) given.same makes),
        leaves_kept g held disk left (IsLeftByInit (g.content disk) (g.may_leave disk) made)
            (IsLeftByInit (g.content held) (g.may_leave held) made) given leaves
            (λ image h. left_more (g.content held) (g.may_leave disk) (g.may_leave held) made image given.images
            (subst (λ (o : Option (List ℕ)). IsLeftByInit o (g.may_leave disk) made image) given.same h)),
      )
  made_at Out given = inr (on_made given.1, leaves_made g made disk left given.1 leaves)

-- a journal was made on the disk that was given, which is under the name again
pub made_kept : {D : Type 0} (g : Ghosts D) (made : Made) (name : List ℕ)
    (p0 p1 p2 : Option (List ℕ → Place D)) (c0 c1 c2 : ℕ) (disk left : D)
    → IsOpened g name true p0 p1 (opens.Disk disk) → IsKept name left p1 p2
    → g.faults disk ≡ 0 → c1 ≡ c0 → IsCounted (g.faults left) c1 c2
    → IfSome (g.content disk) (λ bytes. MakesOn g bytes (g.may_leave disk) made left)
    → LeavesOnly g disk left (IsLeftByInit (g.content disk) (g.may_leave disk) made)
    → (HasFailed made → Rose (g.faults disk) (g.faults left))
    → IsMadeUnder g name made (record { places = p0; faults = c0 }) (record { places = p2; faults = c2 })
made_kept g made name p0 p1 p2 c0 c1 c2 disk left opened kept fresh same count makes leaves cause = record {
  makes = opened_and_kept g name true p0 p1 p2 disk left (λ before after. MakesAt g made before after) opened kept
      (made_at g made disk left makes leaves);
  cause = λ failed. rose_kept (g.faults disk) (g.faults left) c0 c1 c2 fresh (cause failed) (omega (arith, same)) count;
  counted = counts_kept g (HasFailed made) name true p0 p1 p2 disk left c0 c1 c2 opened kept same count;
}

-- the cabinet failed
makes_failed : {D : Type 0} (g : Ghosts D) (name : List ℕ) (p0 p2 : Option (List ℕ → Place D))
    → IsOpened g name true p0 p2 opens.Failed → MakesUnder g name (Err making.Fault) p0 p2
makes_failed g name None p2 opened = tt
makes_failed g name (Some b) None opened = absurd opened
makes_failed g name (Some b) (Some a) opened = (inl (refl, opened name), λ other apart. opened other)

failed : {D : Type 0} (g : Ghosts D) (name : List ℕ) (p0 p2 : Option (List ℕ → Place D)) (c0 c2 : ℕ) (o : Opened D) → o ≡ opens.Failed
    → IsOpened g name true p0 p2 o → CabinetCause c0 c2 o
    → IsMadeUnder g name (Err making.Fault) (record { places = p0; faults = c0 }) (record { places = p2; faults = c2 })
failed {D} g name p0 p2 c0 c2 o is opened cause =
    let none : IsOpened g name true p0 p2 opens.Failed = subst (λ (o : Opened D). IsOpened g name true p0 p2 o) is opened in
    let rose : Rose c0 c2 = subst (λ (o : Opened D). CabinetCause c0 c2 o) is cause in
    record {
      makes = makes_failed g name p0 p2 none;
      cause = λ fault. rose;
      counted = counts_failed g (HasFailed (Err making.Fault)) name true p0 p2 c0 c2 none refl;
    }

-- no disk is absent that was to be made
pub not_made : {D : Type 0} (g : Ghosts D) (name : List ℕ) (p0 p2 : Option (List ℕ → Place D)) (c0 c2 : ℕ) (o : Opened D)
    → (o ≡ opens.Absent) ⊎ (o ≡ opens.Failed) → IsOpened g name true p0 p2 o → IsAsked true o → CabinetCause c0 c2 o
    → IsMadeUnder g name (Err making.Fault) (record { places = p0; faults = c0 }) (record { places = p2; faults = c2 })
not_made {D} g name p0 p2 c0 c2 o which opened asked cause =
    ⊎_elim
    (λ is. absurd (cc (subst (λ (o : Opened D). IsAsked true o) is asked)))
    (λ is. failed g name p0 p2 c0 c2 o is opened cause)
    which

-- a fault is the cabinet's
making_cause : {D : Type 0} (made : Made) (before after : Told D) → (HasFailed made → Rose before.cabinet.faults after.cabinet.faults)
    → HasCause (status_of (making_ending made)) before after
making_cause (Ok done) before after cause = innocent 0 before after refl
making_cause (Err making.Exists) before after cause = innocent 8 before after refl
making_cause (Err making.NotAJournal) before after cause = innocent 5 before after refl
making_cause (Err making.Fault) before after cause = record {
  asked = λ is. cc is;
  input = λ is. absurd (cc is);
  output = λ is. absurd (cc is);
  cabinet = λ is. cause refl;
  doors = λ is. absurd (cc is);
}

-- two facts of what is there
both : (o : Option (List ℕ)) (P Q : List ℕ → Type 0) → IfSome o P → IsSomeAnd o Q → (bytes : List ℕ) × P bytes × Q bytes
both None P Q p q = absurd q
both (Some bytes) P Q p q = (bytes, p, q)

-- where a journal may be made, none stands there already, and nothing that is none
made_there : {D : Type 0} (g : Ghosts D) (bytes : List ℕ) (images : List ℕ → Type 0) (made : Made) (disk : D)
    → MakesOn g bytes images made disk → (¬ IsTaken bytes) × (¬ IsForeign bytes) → ¬ (HasFailed made)
    → status_of (making_ending made) ≡ 0
made_there g bytes images (Ok done) disk h room well = refl
made_there g bytes images (Err making.Exists) disk h room well = absurd (room.0 h.0)
made_there g bytes images (Err making.NotAJournal) disk h room well = absurd (room.1 h.0)
made_there g bytes images (Err making.Fault) disk h room well = absurd (well refl)

made_at_place : {D : Type 0} (g : Ghosts D) (made : Made) (before after : Place D) → MakesAt g made before after
    → IsSomeAnd (bytes_found g before) (λ bytes. (¬ IsTaken bytes) × (¬ IsForeign bytes)) → ¬ (HasFailed made)
    → status_of (making_ending made) ≡ 0
made_at_place g made before after (inl h) room well = absurd (well h.0)
made_at_place g made before Free (inr h) room well = absurd h
made_at_place g made before Out (inr h) room well = absurd h
made_at_place g made before (Kept disk) (inr h) room well =
    let found = both (bytes_found g before) (λ bytes. MakesOn g bytes (images_found g before) made disk)
    (λ bytes. (¬ IsTaken bytes) × (¬ IsForeign bytes)) h.0 room in
    made_there g found.0 (images_found g before) made disk found.1 found.2 well

made_under : {D : Type 0} (g : Ghosts D) (name : List ℕ) (made : Made) (p0 p2 : Option (List ℕ → Place D)) → MakesUnder g name made p0 p2
    → HasRoom g name p0 → ¬ (HasFailed made) → status_of (making_ending made) ≡ 0
made_under g name made None p2 makes room well = absurd room
made_under g name made (Some b) None makes room well = absurd makes
made_under g name made (Some b) (Some a) makes room well = made_at_place g made (b name) (a name) makes.0 room well

module _ {S K E C L P D : Type 0} (g : Ghosts D) (tell : World S K E C L P → Told D) (name : List ℕ) where
  pub making_lawful : IsLawful tell making_ending (λ found. HasRoom g name found.cabinet.places) CabinetIsWell
      (λ made before after. Makes g tell name made before after)
  making_lawful = record {
    cause = λ made before after did. making_cause made (tell before) (tell after) did.made_under.cause;
    early = λ made before after did is. did.streams;
    unwritten = λ made before after did is. did.streams.1;
    complete = λ made before after did room well.
        inl (made_under g name made (tell before).cabinet.places (tell after).cabinet.places did.made_under.makes room
        (λ failed. well (did.made_under.cause failed)));
  }
