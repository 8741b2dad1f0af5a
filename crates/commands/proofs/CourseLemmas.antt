-- Runs of `batch`, one behind another, are of one course of steps.
use Rattle.std.proofs.Common.{◌≡◌, List, [], ◌∷◌, ◌++◌, Some, None, refl, sym, ◌∙◌, ap, subst, append-nil}
use Rattle.desk.proofs.CourseLemmas.{at_history, course_of, course_over}
use Rattle.desk.proofs.StopLemmas.{steps_go_on, stop_inside}
use Rattle.desk.specs.Courses.{IsCourse, cut_before}
use Rattle.desk.specs.Replies.{AreReplies}
use Rattle.history.specs.Accepted.{accepted}
use Rattle.history.specs.After.{reopen}
use Rattle.history.specs.Events.{History}
use Rattle.history.specs.Legal.{IsLegal}
use Rattle.journal.proofs.Walks.{one_list}
use Rattle.journal.specs.JournalBytes.{IsJournalOf}
use Rattle.office.proofs.CourseLemmas.{joined, legal_steps}
use Rattle.office.proofs.LeftLemmas.{may_open}
use Rattle.office.proofs.StopLemmas.{stopped_between}
use Rattle.office.specs.Openings.{IsOpened}
use Rattle.office.specs.Steps.{AStop, GoesOver, Step}
use Rattle.office.specs.Stops.{IsLeftBetween}
use Rattle.office_inputs.specs.Usual.{usual}
use Rattle.records.specs.Sheets.{Record}
use Rattle.records.specs.declared.formats.Format.{Format}
use Rattle.register.specs.Registered.{NoneOut, Registered}
use Rattle.commands.specs.Joined.{AreOneBehindAnother, AreOneCourse, BehindTheEnd, IsStretchOf, LeavesFor, Run, Stop, Stretch, Within, steps_of}

-- one run, its stop, and the opening behind it
module _ (run : Run) (next : List Record) (old : Registered) (same : old.history ≡ reopen usual run.last.format run.found) (none : NoneOut old)
    (legal : IsLegal old.history) where
  own_replies : AreReplies old.history run.messages run.replies run.last
  own_replies = subst (λ (h : History). AreReplies h run.messages run.replies run.last) (sym same) run.answers

  abbrev opened : Registered
  opened = at_history old (reopen old.history.limits old.history.format next)

  within : (steps : List Step) → IsCourse old steps run.messages run.replies (at_history old run.last) → LeavesFor Within run next
      → IsStretchOf old Within run next opened
  within steps course leaves =
      let new = at_history old run.last in
      let over = course_over old steps run.messages run.replies new course in
      let left = subst (λ (h : History). IsLeftBetween h run.last leaves.0) (sym same) leaves.1 in
      let journal = subst (λ (f : Format). IsJournalOf f next leaves.0) (sym (ap (λ (h : History). h.format) same)) leaves.2 in
      let s = stop_inside old steps new leaves.0 next none legal over.1 over.0 left journal in
      record {
        new = new;
        steps = steps;
        before = s.at.before;
        behind = s.at.behind;
        found = s.at.found;
        begins = same;
        course = course;
        last = refl;
        parts = s.at.parts;
        cut = tt;
        over = s.at.over;
        history = ap (λ (h : History). reopen h.limits h.format next) same;
        claims = none;
        legal = s.legal;
      }

  behind_the_end : (steps : List Step) → IsCourse old steps run.messages run.replies (at_history old run.last) → LeavesFor BehindTheEnd run next
      → IsStretchOf old BehindTheEnd run next opened
  behind_the_end steps course leaves =
      let new = at_history old run.last in
      let over = course_over old steps run.messages run.replies new course in
      let on = (steps_go_on old steps new over.1 over.0).is in
      let begins : (pieces : List Record) → reopen run.last.limits run.last.format pieces ≡ reopen old.history.limits old.history.format pieces =
      (λ pieces. ap (λ (h : History). reopen h.limits h.format pieces) on) in
      let o = may_open run.last leaves.0 (legal_steps old steps new over.0 legal) leaves.1 in
      let are = one_list run.last.format next (accepted run.last.events ++ o.more) leaves.0 leaves.2 o.found in
      let found_legal : IsLegal (reopen run.last.limits run.last.format next) =
      subst (λ (l : List Record). IsLegal (reopen run.last.limits run.last.format l)) (sym are) o.legal in
      let opened_legal : IsLegal (reopen old.history.limits old.history.format next) = subst IsLegal (begins next) found_legal in
      let same_format : run.last.format ≡ old.history.format = ap (λ (h : History). h.format) on in
      let is : IsOpened (Some leaves.0) run.last.limits opened =
      record {
        pieces = next;
        found = subst (λ (f : Format). IsJournalOf f next leaves.0) same_format leaves.2;
        reopened = ap (λ (h : History). reopen h.limits old.history.format next) (sym on);
        legal = opened_legal;
        claims = none;
      } in
      let stop = stopped_between new opened leaves.0 leaves.1 is in
      record {
        new = new;
        steps = steps;
        before = steps;
        behind = [];
        found = stop.0;
        begins = same;
        course = course;
        last = refl;
        parts = sym (append-nil steps);
        cut = refl;
        over = joined old steps (AStop None stop.0 ∷ []) new opened over.0 (opened, stop.1, refl);
        history = ap (λ (h : History). reopen h.limits h.format next) same;
        claims = none;
        legal = opened_legal;
      }

  stretch : (stop : Stop) → LeavesFor stop run next → IsStretchOf old stop run next opened
  stretch BehindTheEnd leaves =
      let course = course_of old none run.messages run.replies run.last own_replies in behind_the_end course.0 course.1 leaves
  stretch Within leaves =
      let course = course_of old none run.messages run.replies run.last own_replies in within course.0 course.1 leaves

-- and all of them
pub one_course : (format : Format) (found next : List Record) (runs : List Stretch) (old : Registered) → AreOneBehindAnother format found runs next
    → old.history ≡ reopen usual format found → NoneOut old → IsLegal old.history → AreOneCourse old runs next
one_course format found next [] old is same none legal =
    same ∙ ap (reopen usual format) (sym is) ∙ ap (λ (h : History). reopen usual h.format next) (sym same)
one_course format found next (one ∷ others) old is same none legal =
    let begins : old.history ≡ reopen usual one.run.last.format one.run.found =
    same ∙ ap (reopen usual format) (sym is.0) ∙ ap (λ (f : Format). reopen usual f one.run.found) (sym is.1) in
    let first = stretch one.run is.2 old begins none legal one.stop is.3 in
    let opened = at_history old (reopen old.history.limits old.history.format is.2) in
    let goes_on : opened.history ≡ reopen usual format is.2 = first.history ∙ ap (λ (f : Format). reopen usual f is.2) is.1 in
    (opened, is.2, first, one_course format is.2 next others opened is.4 goes_on first.claims first.legal)

-- and these steps lead over all of them
pub over_all : (next : List Record) (runs : List Stretch) (old : Registered) (are : AreOneCourse old runs next)
    → (new : Registered) × GoesOver old (steps_of old runs next are) new × (new.history ≡ reopen usual old.history.format next)
over_all next [] old are = (old, refl, are)
over_all next (one ∷ others) old are =
    let rest = over_all next others are.0 are.3 in
    let own = are.2.before ++ AStop (cut_before are.2.behind) are.2.found ∷ [] in
    let kept : are.0.history.format ≡ old.history.format =
    ap (λ (h : History). h.format) are.2.history ∙ sym (ap (λ (h : History). h.format) are.2.begins) in (
      rest.0,
      joined old own (steps_of are.0 others next are.3) are.0 rest.0 are.2.over rest.1,
      rest.2 ∙ ap (λ (f : Format). reopen usual f next) kept,
    )
