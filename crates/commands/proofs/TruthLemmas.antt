-- What a run of `batch` replies for a day is true.
use Rattle.std.specs.Prelude.{◌≡◌, ℕ, List, ◌∷◌, ◌++◌, length, map, ℤ}
use Rattle.std.proofs.Common.{refl, ap, sym, subst, ◌∙◌}
use Rattle.desk.proofs.CourseLemmas.{at_history, course_of}
use Rattle.desk.proofs.TruthLemmas.{day_is_true, days_are_true}
use Rattle.desk.specs.Courses.{Asks, IsCourse, TellsDay, TellsDays}
use Rattle.desk.specs.Replies.{AreReplies}
use Rattle.edits.specs.declared.content.Edit.{Edit}
use Rattle.fixed_units.specs.Quantities.{SiteNumber}
use Rattle.history.proofs.EventLemmas.{accepted_all}
use Rattle.history.specs.Accepted.{edit_of, edits_of}
use Rattle.history.specs.After.{reopen}
use Rattle.history.specs.Events.{History}
use Rattle.http_api.specs.declared.asks.Ask.TheVariants as asks
use Rattle.office.specs.Steps.{Step, added}
use Rattle.office_inputs.specs.Usual.{usual}
use Rattle.register.specs.Registered.{NoneOut, Registered}
use Rattle.wire.specs.declared.messages.Message.{Message}
use Rattle.commands.specs.Joined.{Run}

module _ (run : Run) (old : Registered) (before behind : List Message) (message : Message) (told more : List (List ℕ)) (reply : List ℕ)
    (same : old.history ≡ reopen usual run.last.format run.found) (none : NoneOut old) (messages : run.messages ≡ before ++ message ∷ behind)
    (replies : run.replies ≡ told ++ reply ∷ more) (long : length told ≡ length before) where
  own_replies : AreReplies old.history run.messages run.replies run.last
  own_replies = subst (λ (h : History). AreReplies h run.messages run.replies run.last) (sym same) run.answers

  -- the edits that the office was opened with
  found_edits : edits_of old.history.events ≡ map edit_of run.found
  found_edits = ap (λ (h : History). edits_of h.events) same ∙ ap (map edit_of) (accepted_all run.found)

  parted_course : (steps : List Step) → IsCourse old steps run.messages run.replies (at_history old run.last)
      → IsCourse old steps (before ++ message ∷ behind) (told ++ reply ∷ more) (at_history old run.last)
  parted_course steps course =
      subst (λ (ms : List Message). IsCourse old steps ms (told ++ reply ∷ more) (at_history old run.last)) messages
      (subst (λ (rs : List (List ℕ)). IsCourse old steps run.messages rs (at_history old run.last)) replies course)

  pub run_tells_day : (site : SiteNumber) (day : ℤ) → Asks message (asks.DayOf site day)
      → (mid after : Registered) × (first rest : List Step) × IsCourse old (first ++ rest) run.messages run.replies after
      × (after.history ≡ run.last) × IsCourse old first before told mid × TellsDay (map edit_of run.found ++ added first) site day reply
  run_tells_day site day asked =
      let course = course_of old none run.messages run.replies run.last own_replies in
      let tells =
      day_is_true old (at_history old run.last) course.0 before behind message told more reply long (parted_course course.0 course.1) site day asked in (
        tells.0,
        at_history old run.last,
        tells.1,
        tells.2,
        subst (λ (l : List Step). IsCourse old l run.messages run.replies (at_history old run.last)) tells.3 course.1,
        refl,
        tells.4,
        subst (λ (l : List Edit). TellsDay (l ++ added tells.1) site day reply) found_edits tells.5,
      )

  pub run_tells_days : (site : SiteNumber) (from to : ℤ) → Asks message (asks.Daily site from to)
      → (mid after : Registered) × (first rest : List Step) × IsCourse old (first ++ rest) run.messages run.replies after
      × (after.history ≡ run.last) × IsCourse old first before told mid × TellsDays (map edit_of run.found ++ added first) site from to reply
  run_tells_days site from to asked =
      let course = course_of old none run.messages run.replies run.last own_replies in
      let tells =
      days_are_true old (at_history old run.last) course.0 before behind message told more reply long (parted_course course.0 course.1) site from to
      asked in (
        tells.0,
        at_history old run.last,
        tells.1,
        tells.2,
        subst (λ (l : List Step). IsCourse old l run.messages run.replies (at_history old run.last)) tells.3 course.1,
        refl,
        tells.4,
        subst (λ (l : List Edit). TellsDays (l ++ added tells.1) site from to reply) found_edits tells.5,
      )
