-- What holds of every command, whatever it does.
use Rattle.std.proofs.Common.{◌≡◌, ◌≢◌, ◌⊎◌, ℕ, Bool, true, false, sym, ◌∙◌, subst, ap, inl, inr}
use Rattle.std.specs.Prelude.{nat_eq, ◌||◌}
use Rattle.devices.specs.Faults.{Rose}
use Rattle.commands.specs.Ready.{IsDone}
use Rattle.commands.specs.Runs.{EndsBy}
use Rattle.commands.specs.Statuses.{status_of}
use Rattle.commands.specs.Worlds.{StreamsStay, Told, World}
use Rattle.commands.specs.declared.endings.Ending.{Ending}

-- a status that tells a fault comes only where the count of that object rose, and the one of words that ask nothing does not come
pub record HasCause {D : Type 0} (status : ℕ) (before after : Told D) : Type 0 where
  pub asked : status ≢ 1
  pub input : status ≡ 2 → Rose before.input.faults after.input.faults
  pub output : status ≡ 3 → Rose before.output.faults after.output.faults
  pub cabinet : status ≡ 4 → Rose before.cabinet.faults after.cabinet.faults
  pub doors : status ≡ 7 → Rose before.doors.faults after.doors.faults

-- a status that asks for a cause, or can have none
abbrev pub wants_cause : ℕ → Bool
wants_cause status = nat_eq status 1 || nat_eq status 2 || nat_eq status 3 || nat_eq status 4 || nat_eq status 7

-- any other needs none
pub innocent : {D : Type 0} (status : ℕ) (before after : Told D) → wants_cause status ≡ false → HasCause status before after
innocent status before after none = record {
  asked = λ is. let never : true ≡ false = subst (λ (n : ℕ). wants_cause n ≡ false) is none in cc never;
  input = λ is. let never : true ≡ false = subst (λ (n : ℕ). wants_cause n ≡ false) is none in absurd (cc never);
  output = λ is. let never : true ≡ false = subst (λ (n : ℕ). wants_cause n ≡ false) is none in absurd (cc never);
  cabinet = λ is. let never : true ≡ false = subst (λ (n : ℕ). wants_cause n ≡ false) is none in absurd (cc never);
  doors = λ is. let never : true ≡ false = subst (λ (n : ℕ). wants_cause n ≡ false) is none in absurd (cc never);
}

-- these statuses come before the input is read
abbrev pub IsEarly : ℕ → Type 0
IsEarly status = (status ≡ 4) ⊎ ((status ≡ 5) ⊎ (status ≡ 8))

abbrev pub is_early : ℕ → Bool
is_early status = nat_eq status 4 || nat_eq status 5 || nat_eq status 8

early_is : (status : ℕ) → IsEarly status → is_early status ≡ true
early_is status early =
    elim early [
      | inl e ↦ ap is_early e
      | inr rest ↦ elim rest [ inl e ↦ ap is_early e | inr e ↦ ap is_early e ]
    ]

-- any other does not
pub not_early : (status : ℕ) → is_early status ≡ false → IsEarly status → ⊥
not_early status not early = let never : true ≡ false = sym (early_is status early) ∙ not in cc never

-- What holds of a command with this end: a fault has its cause; at an early end nothing was read or written; without memory nothing was
-- written; and what found all that it needs, and met no fault, is done, or there was no memory.
pub record IsLawful {S K E C L P D End : Type 0} (tell : World S K E C L P → Told D) (ending_of : End → Ending)
    (IsReady : Told D → Type 0) (IsWell : Told D → Told D → Type 0)
    (Did : End → World S K E C L P → World S K E C L P → Type 0) : Type 0 where
  pub cause : (end : End) (before after : World S K E C L P) → Did end before after
      → HasCause (status_of (ending_of end)) (tell before) (tell after)
  pub early : (end : End) (before after : World S K E C L P) → Did end before after
      → IsEarly (status_of (ending_of end)) → StreamsStay before after
  pub unwritten : (end : End) (before after : World S K E C L P) → Did end before after
      → status_of (ending_of end) ≡ 6 → after.output ≡ before.output
  pub complete : (end : End) (before after : World S K E C L P) → Did end before after
      → IsReady (tell before) → IsWell (tell before) (tell after) → IsDone (status_of (ending_of end))

-- it holds by the ending that the end is told by
pub by_ending : {S K E C L P D End : Type 0} (tell : World S K E C L P → Told D) (ending_of : End → Ending)
    (IsReady : Told D → Type 0) (IsWell : Told D → Told D → Type 0) (Did : End → World S K E C L P → World S K E C L P → Type 0)
    → IsLawful tell ending_of IsReady IsWell Did
    → IsLawful tell (λ ending. ending) IsReady IsWell (λ ending before after. EndsBy ending_of (λ end. Did end before after) ending)
by_ending tell ending_of IsReady IsWell Did lawful = record {
  cause = λ ending before after did.
      subst (λ (e : Ending). HasCause (status_of e) (tell before) (tell after)) (sym did.1) (lawful.cause did.0 before after did.2);
  early = λ ending before after did is.
      lawful.early did.0 before after did.2 (subst (λ (e : Ending). IsEarly (status_of e)) did.1 is);
  unwritten = λ ending before after did is.
      lawful.unwritten did.0 before after did.2 (subst (λ (e : Ending). status_of e ≡ 6) did.1 is);
  complete = λ ending before after did ready well.
      subst (λ (e : Ending). IsDone (status_of e)) (sym did.1) (lawful.complete did.0 before after did.2 ready well);
}
