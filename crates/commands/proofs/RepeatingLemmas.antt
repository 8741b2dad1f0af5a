-- A text of readings that is imported again.
use Rattle.std.proofs.Common.{◌≡◌, ◌⊎◌, ℕ, List, [], ◌++◌, map, Option, Some, None, IfSome, IsSome, IsSomeAnd, Result, Ok, Err, true, refl, sym, ◌∙◌, ap, subst, ⊎_elim}
use Rattle.std.proofs.lemmas.List.{map-append}
use Rattle.command_words.specs.Words.{Import, ImportAsked}
use Rattle.devices.specs.Cabinets.{Place, Free, Kept, Out}
use Rattle.devices.specs.Sinks.{AreWritten}
use Rattle.devices.specs.declared.disks.Disk.{Ghosts}
use Rattle.edits.specs.declared.content.Edit.{Edit}
use Rattle.history.proofs.EventLemmas.{accepted_all}
use Rattle.history.proofs.LegalLemmas.{legal_front}
use Rattle.history.specs.Accepted.{accepted, edit_of, edits_of}
use Rattle.history.specs.After.{doubt, go_on, reopen}
use Rattle.history.specs.Events.{Accepted, Event, History}
use Rattle.history.specs.Legal.{IsLegal}
use Rattle.journal.specs.JournalBytes.{IsJournalOf}
use Rattle.journal.specs.declared.opening.OpenFault.{OpenFault}
use Rattle.journal.specs.declared.opening.OpenFault.TheVariants as opening
use Rattle.office.proofs.StopLemmas.{left_in}
use Rattle.office_inputs.specs.Usual.{usual}
use Rattle.reading_loading.proofs.AgainLemmas.{each_again, loading_goes_on}
use Rattle.reading_loading.specs.Loading.{Loads}
use Rattle.reading_loading.specs.Puts.{Order}
use Rattle.reading_loading.specs.declared.loading.ReadingsEnd.{ReadingsEnd}
use Rattle.reading_loading.specs.declared.loading.ReadingsEnd.TheVariants as ends
use Rattle.records.specs.Sheets.{Record}
use Rattle.records.specs.declared.formats.Format.{Format}
use Rattle.commands.proofs.JoinedLemmas.{AndMore, found_under, left_under, stands_more}
use Rattle.commands.specs.Joined.{Has, HasOrLeaves, HasUnder, IsTold}
use Rattle.commands.specs.Loading.{LoadsReadings, order_of, readings_ending}
use Rattle.commands.specs.Opening.{Carries, GoesOnAt, GoesOnUnder, IsLeftOn, ending_over}
use Rattle.commands.specs.Places.{HasKept}
use Rattle.commands.specs.Repeating.{ImportsAgain}
use Rattle.commands.specs.Runs.{Runs}
use Rattle.commands.specs.Statuses.{status_of}
use Rattle.commands.specs.Worlds.{Told, World}

-- a history that goes on to a legal one, from the records that were found, is legal
legal_begun : (pieces : List Record) (last : History) (added : List Event) → last ≡ go_on (reopen usual last.format pieces) added → IsLegal last
    → IsLegal (reopen usual last.format pieces)
legal_begun pieces last added is legal =
    let front = legal_front last (map Accepted pieces) added legal (ap (λ (h : History). h.events) is) in
    subst (λ (l : List Record). IsLegal (reopen usual last.format l)) (accepted_all pieces)
    (subst (λ (h : History). IsLegal (reopen h.limits last.format (accepted (map Accepted pieces)))) is front)

-- the edits of the records that are found: those that were accepted, and what may stand behind them
edits_found : (format : Format) (pieces more : List Record) (last : History) → pieces ≡ accepted last.events ++ more
    → edits_of (reopen usual format pieces).events ≡ edits_of last.events ++ map edit_of more
edits_found format pieces more last is =
    ap (map edit_of) (accepted_all pieces ∙ is) ∙ map-append edit_of (accepted last.events) more

-- what was loaded of an input that is told
record HasLoaded (order : Order) (h last : History) (input : List ℕ) (w0 w : Option (List ℕ)) : Type 0 where
  rest : List ℕ
  told : List ℕ
  loads : Loads order h last ends.Done input rest told
  wrote : AreWritten w0 told w true

has_loaded : (order : Order) (h last : History) (input : List ℕ) (l0 l w0 w : Option (List ℕ)) → l0 ≡ Some input
    → IfSome l0 (λ (bytes : List ℕ). IsSomeAnd l (λ (left : List ℕ). (written : List ℕ) × Loads order h last ends.Done bytes left written × AreWritten w0 written w true))
    → HasLoaded order h last input w0 w
has_loaded order h last input None l w0 w told loaded = absurd (cc told)
has_loaded order h last input (Some bytes) None w0 w told loaded = absurd loaded
has_loaded order h last input (Some bytes) (Some left) w0 w told loaded =
    let same : bytes ≡ input = cc in
    record { rest = left; told = loaded.0; loads = subst (λ (i : List ℕ). Loads order h last ends.Done i left loaded.0) same loaded.1; wrote = loaded.2 }

module _ {D : Type 0} (g : Ghosts D) (name : List ℕ) (pieces : List Record) (last : History) where
  -- a disk that goes on is left with a legal history
  legal_at : (P : D → Type 0) (was now : Place D) → GoesOnAt g (Carries g pieces last) was now → HasKept P was → IsLegal last
  legal_at P Free now goes has = absurd goes
  legal_at P Out now goes has = absurd goes
  legal_at P (Kept found) Free goes has = absurd goes
  legal_at P (Kept found) Out goes has = absurd goes
  legal_at P (Kept found) (Kept left) goes has = goes.legal

  legal_under : (P : D → Type 0) (b a : Option (List ℕ → Place D)) → GoesOnUnder g name (Carries g pieces last) b a
      → IsSomeAnd b (λ places. HasKept P (places name)) → IsLegal last
  legal_under P None a goes has = absurd has
  legal_under P (Some b) None goes has = absurd goes
  legal_under P (Some b) (Some a) goes has = legal_at P (b name) (a name) goes.0 has

  -- and with its journal
  left_with : (found left : D) (image : List ℕ) → Carries g pieces last found left → g.content found ≡ Some image → IsLeftOn g last left
  left_with found left image carries told =
      (subst (λ (o : Option (List ℕ)). IfSome o (λ bytes. IsJournalOf last.format pieces bytes × IsLeftOn g last left)) told carries.journal).1

  on_at : (was now : Place D) (image : List ℕ) → GoesOnAt g (Carries g pieces last) was now → HasKept (λ disk. g.content disk ≡ Some image) was
      → HasKept (IsLeftOn g last) now
  on_at Free now image goes has = absurd goes
  on_at Out now image goes has = absurd goes
  on_at (Kept found) Free image goes has = absurd goes
  on_at (Kept found) Out image goes has = absurd goes
  on_at (Kept found) (Kept left) image goes has = left_with found left image goes has

  on_under : (b a : Option (List ℕ → Place D)) (image : List ℕ) → GoesOnUnder g name (Carries g pieces last) b a
      → IsSomeAnd b (λ places. HasKept (λ disk. g.content disk ≡ Some image) (places name))
      → IsSomeAnd a (λ places. HasKept (IsLeftOn g last) (places name))
  on_under None a image goes has = absurd has
  on_under (Some b) None image goes has = absurd goes
  on_under (Some b) (Some a) image goes has = on_at (b name) (a name) image goes.0 has

module _ {S K E C L P D : Type 0} (g : Ghosts D) (tell : World S K E C L P → Told D) (asked : ImportAsked) where
  -- a run that is done
  record IsImported (input : List ℕ) (before after : World S K E C L P) : Type 0 where
    pieces : List Record
    last : History
    loaded : HasLoaded (order_of asked) (reopen usual last.format pieces) last input (tell before).output.bytes (tell after).output.bytes
    goes_on : GoesOnUnder g asked.journal (Carries g pieces last) (tell before).cabinet.places (tell after).cabinet.places

  imported_by : (end : Result ReadingsEnd OpenFault) (input : List ℕ) (before after : World S K E C L P) → 0 ≡ status_of (ending_over readings_ending end)
      → LoadsReadings g tell asked end before after → (tell before).input.bytes ≡ Some input → IsImported input before after
  imported_by (Ok ends.Done) input before after is did told =
      let w = did.over in record {
        pieces = w.pieces;
        last = w.last;
        loaded = has_loaded (order_of asked) (reopen usual w.last.format w.pieces) w.last input (tell before).input.bytes (tell after).input.bytes
            (tell before).output.bytes (tell after).output.bytes told w.worked.loads;
        goes_on = w.goes_on;
      }
  imported_by (Ok ends.InputFault) input before after is did told = absurd (cc is)
  imported_by (Ok ends.OutputFault) input before after is did told = absurd (cc is)
  imported_by (Ok ends.TooLong) input before after is did told = absurd (cc is)
  imported_by (Ok (ends.Refused fault)) input before after is did told = absurd (cc is)
  imported_by (Ok ends.NoMemory) input before after is did told = absurd (cc is)
  imported_by (Err opening.Fault) input before after is did told = absurd (cc is)
  imported_by (Err opening.NotAJournal) input before after is did told = absurd (cc is)
  imported_by (Err (opening.Damaged at)) input before after is did told = absurd (cc is)
  imported_by (Err opening.NoMemory) input before after is did told = absurd (cc is)

  imported : (input : List ℕ) (before after : World S K E C L P) → Runs g tell (Import asked) 0 before after
      → (tell before).input.bytes ≡ Some input → IsImported input before after
  imported input before after run told =
      ⊎_elim
      (λ none. let no : 0 ≡ 6 = run.told.status_is ∙ ap status_of none.0 in absurd (cc no))
      (λ did. imported_by did.0 input before after (run.told.status_is ∙ ap status_of did.1) did.2 told)
      run.did

  begun_legal : (input : List ℕ) (before after : World S K E C L P) (is : IsImported input before after) → IsLegal is.last
      → IsLegal (reopen usual is.last.format is.pieces)
  begun_legal input before after is legal =
      let on = loading_goes_on (order_of asked) (reopen usual is.last.format is.pieces) is.last input is.loaded.rest is.loaded.told is.loaded.loads in
      legal_begun is.pieces is.last on.0 on.1 legal

  -- the second one finds the edits that the first one left, and at most one more
  more_found : (input : List ℕ) (before after again done : World S K E C L P) (image : List ℕ) (one : IsImported input before after)
      (other : IsImported input again done) → IsTold g asked.journal (tell before).cabinet → HasOrLeaves g asked.journal image (tell after).cabinet
      → Has g asked.journal image (tell again).cabinet → AndMore (accepted one.last.events) other.pieces
  more_found input before after again done image one other told leaves has =
      let left = left_under g one.pieces one.last asked.journal (tell before).cabinet.places (tell after).cabinet.places image one.goes_on told leaves in
      let journal = found_under g other.pieces other.last asked.journal (tell again).cabinet.places (tell done).cabinet.places image other.goes_on has in
      let same = left_in one.last [] other.last.format other.pieces image left journal in
      stands_more one.last.format (accepted one.last.events) (doubt one.last) image other.pieces
      (subst (λ (f : Format). IsJournalOf f other.pieces image) same journal) left

  both : (input : List ℕ) (before after again done : World S K E C L P) (image : List ℕ) → IsImported input before after
      → IsImported input again done → IsTold g asked.journal (tell before).cabinet → HasOrLeaves g asked.journal image (tell after).cabinet
      → Has g asked.journal image (tell again).cabinet
      → ImportsAgain g asked input image (tell before).output (tell after).output (tell again).output (tell done).output (tell done).cabinet
  both input before after again done image one other told leaves has =
      let units = one.loaded.loads.ends.0 in
      let stated = one.loaded.loads.ends.1.0 in
      let found = more_found input before after again done image one other told leaves has in
      let legal = legal_under g asked.journal one.pieces one.last (λ disk. IsSome (g.content disk)) (tell before).cabinet.places (tell after).cabinet.places
      one.goes_on told in
      let legal_again =
      legal_under g asked.journal other.pieces other.last (λ disk. g.content disk ≡ Some image) (tell again).cabinet.places (tell done).cabinet.places
      other.goes_on has in
      let loaded =
      each_again (order_of asked) units (reopen usual one.last.format one.pieces) one.last (reopen usual other.last.format other.pieces) other.last
      (map edit_of found.more) input one.loaded.rest one.loaded.told other.loaded.rest other.loaded.told (begun_legal input before after one legal) stated
      one.loaded.loads (begun_legal input again done other legal_again) (edits_found other.last.format other.pieces found.more one.last found.is)
      other.loaded.loads in record {
        found = other.pieces;
        last = other.last;
        journal =
            found_under g other.pieces other.last asked.journal (tell again).cabinet.places (tell done).cabinet.places image other.goes_on has;
        on = on_under g asked.journal other.pieces other.last (tell again).cabinet.places (tell done).cabinet.places image other.goes_on has;
        units = units;
        stated = stated;
        edits = loaded.0;
        puts = loaded.1;
        begun = reopen usual one.last.format one.pieces;
        left_first = one.last;
        told = one.loaded.told;
        told_again = other.loaded.told;
        first = one.loaded.wrote;
        second = other.loaded.wrote;
        again = loaded.2;
      }

  pub imports_again : (before after again done : World S K E C L P) (input image : List ℕ) → Runs g tell (Import asked) 0 before after
      → Runs g tell (Import asked) 0 again done → (tell before).input.bytes ≡ Some input → (tell again).input.bytes ≡ Some input
      → IsTold g asked.journal (tell before).cabinet → HasOrLeaves g asked.journal image (tell after).cabinet
      → Has g asked.journal image (tell again).cabinet
      → ImportsAgain g asked input image (tell before).output (tell after).output (tell again).output (tell done).output (tell done).cabinet
  imports_again before after again done input image run next told_first told_second told leaves has =
      both input before after again done image (imported input before after run told_first) (imported input again done next told_second) told leaves has
