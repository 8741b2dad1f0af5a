-- What the disk of an office has, and that publications leave it so.
use Rattle.std.specs.Prelude.{◌≡◌, ℕ, ◌<◌, List, [], ◌∷◌, ◌++◌, length, map, reverse, take, Option, Some, None, is_some, IsSome, IfSome, Result, Ok, Err, IfOk, OnErr}
use Rattle.std.proofs.Common.{refl, ap, sym, subst, ◌∙◌, append_assoc}
use Rattle.std.proofs.lemmas.List.{append-nil, reverse-append}
use Rattle.devices.specs.declared.disks.Disk.{Ghosts}
use Rattle.history.specs.Accepted.{accepted, journal_size}
use Rattle.history.specs.After.{publication, after_publication, after_publications, after_settlement, doubt_back, doubt}
use Rattle.history.specs.Awaited.{SiteDay, pending_days}
use Rattle.history.specs.Events.{Event, History}
use Rattle.history.proofs.EventLemmas.{accepted-append}
use Rattle.journal.specs.JournalBytes.{HasRecords, IsJournalOf, StandsFor}
use Rattle.journal.specs.declared.keeping.Journal.{Journal}
use Rattle.journal.proofs.Stages.{records_stand}
use Rattle.office.specs.Standing.{Stands}
use Rattle.office.specs.Stops.{IsLeft}
use Rattle.recompute.specs.declared.jobs.Publish.{Publish}
use Rattle.recompute.specs.declared.jobs.Publish.TheVariants.{Settled, Superseded, Foreign, Published}
use Rattle.records.specs.Sheets.{Record}
use Rattle.records.specs.declared.formats.Format.{Format}
use Rattle.register.specs.Registered.{Registered, IsSettledTo}

-- publications are no edits
none_accepted : (days : List SiteDay) → accepted (map publication days) ≡ []
none_accepted [] = refl
none_accepted (d ∷ days) = none_accepted days

pub accepted_publications : (events : List Event) (days : List SiteDay) → accepted (events ++ map publication days) ≡ accepted events
accepted_publications events days =
    accepted-append events (map publication days) ∙ ap (λ l. accepted events ++ l) (none_accepted days) ∙ append-nil (accepted events)

-- and leave the record in doubt
pub doubt_publications : (events : List Event) (days : List SiteDay) → doubt_back (reverse (events ++ map publication days)) ≡ doubt_back (reverse events)
unfolding doubt_back
doubt_publications events [] = ap (λ l. doubt_back (reverse l)) (append-nil events)
doubt_publications events (d ∷ days) =
    ap (λ l. doubt_back (reverse l)) (sym (append_assoc events (publication d ∷ []) (map publication days)))
    ∙ doubt_publications (events ++ publication d ∷ []) days
    ∙ ap doubt_back (reverse-append events (publication d ∷ []))

if_told : (P Q : List ℕ → Type 0) (content : Option (List ℕ)) → (IsSome content → IfSome content P) → ((bytes : List ℕ) → P bytes → Q bytes) → IfSome content Q
if_told P Q None h k = tt
if_told P Q (Some bytes) h k = k bytes (h refl)

module _ {D : Type 0} {g : Ghosts D} (h : History) (left : Option Record) (journal : Journal D g) (s : Stands h left journal) where
  -- what the disk has now, and after a stop
  records_left : (bytes : List ℕ) → HasRecords journal.format (accepted h.events) (doubt h) bytes → IsLeft h bytes
  records_left bytes has =
      subst (λ (f : Format). StandsFor f (accepted h.events) (doubt h) bytes) s.format (records_stand journal.format (accepted h.events) (doubt h) bytes has)

  pub left_now : IfSome (g.content journal.disk) (IsLeft h)
  left_now =
      if_told (HasRecords journal.format (accepted h.events) (doubt h)) (IsLeft h) (g.content journal.disk) (λ told. (s.holds told).now)
      (λ bytes has. records_left bytes has)

  pub left_images : IsSome (g.content journal.disk) → (image : List ℕ) → g.may_leave journal.disk image → IsLeft h image
  left_images told image left = records_left image ((s.holds told).images image left)

  -- exactly the accepted edits, where none is in doubt
  pub exactly_now : doubt h ≡ None → IfSome (g.content journal.disk) (IsJournalOf h.format (accepted h.events))
  exactly_now d =
      subst (λ (o : Option Record). IfSome (g.content journal.disk) (λ (bytes : List ℕ). StandsFor h.format (accepted h.events) o bytes)) d left_now

  pub exactly_images : doubt h ≡ None → IsSome (g.content journal.disk) → (image : List ℕ) → g.may_leave journal.disk image → IsJournalOf h.format (accepted h.events) image
  exactly_images d told image left = subst (λ (o : Option Record). StandsFor h.format (accepted h.events) o image) d (left_images told image left)

  -- a publication writes nothing
  pub stands_published : (days : List SiteDay) → Stands (after_publications h days) left journal
  stands_published days =
      let edits = accepted_publications h.events days in
      let same : doubt (after_publications h days) ≡ doubt h = doubt_publications h.events days in
      record {
        format = s.format;
        size = s.size ∙ ap (journal_size h.format) (sym edits);
        limit = s.limit;
        left_is = s.left_is ∙ sym same;
        in_doubt_is = s.in_doubt_is ∙ ap is_some (sym same);
        holds = λ told. rw (edits, same) (s.holds told);
      }

  pub stands_after : (day : Option SiteDay) → Stands (after_publication h day) left journal
  stands_after None = s
  stands_after (Some day) = stands_published (day ∷ [])

  pub stands_same : (new : History) → new ≡ h → Stands new left journal
  stands_same new e = subst (λ (x : History). Stands x left journal) (sym e) s

module _ {D : Type 0} {g : Ghosts D} (old new : Registered) (left : Option Record) (journal : Journal D g) (s : Stands old.history left journal) where
  same_stands : (h : History) → new.history ≡ h → Stands h left journal → Stands new.history left journal
  same_stands h e k = subst (λ (x : History). Stands x left journal) (sym e) k

  pub publish_stands : (told : Publish) (days : List SiteDay) → (told ≡ Published → new.history ≡ after_publications old.history days)
      → ((told ≡ Published → ⊥) → new ≡ old) → Stands new.history left journal
  publish_stands Published days done other = same_stands _ (done refl) (stands_published old.history left journal s days)
  publish_stands Settled days done other = same_stands _ (ap (λ (r : Registered). r.history) (other (λ e. cc))) s
  publish_stands (Superseded edit) days done other = same_stands _ (ap (λ (r : Registered). r.history) (other (λ e. cc))) s
  publish_stands Foreign days done other = same_stands _ (ap (λ (r : Registered). r.history) (other (λ e. cc))) s

  pub turn_stands : {T E : Type 0} (result : Result T E) (day : Option SiteDay) → IfOk result (λ _. new.history ≡ after_publication old.history day)
      → OnErr result (new ≡ old) → Stands new.history left journal
  turn_stands (Ok told) day done other = same_stands _ done (stands_after old.history left journal s day)
  turn_stands (Err failed) day done other = same_stands _ (ap (λ (r : Registered). r.history) other) s

  pub settle_stands : {T E : Type 0} (result : Result T E) → IfOk result (λ _. new.history ≡ after_settlement old.history)
      → OnErr result ((count : ℕ) × (count < length (pending_days old.history.events)) × IsSettledTo old new count) → Stands new.history left journal
  settle_stands (Ok told) done other = same_stands _ done (stands_published old.history left journal s (pending_days old.history.events))
  settle_stands (Err failed) done other =
      same_stands _ other.2.settled (stands_published old.history left journal s (take other.0 (pending_days old.history.events)))
