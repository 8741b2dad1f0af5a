-- What is asked of the statuses hangs on those of the days of the calendar alone.
use Rattle.std.specs.Prelude.{◌≡◌, ℕ, Bool, not, ◌&&◌, cond, List, [], ◌∷◌, length, find, All, Option, Some, option_map, ℤ}
use Rattle.std.proofs.Common.{refl, ap, sym, subst, ◌∙◌}
use Rattle.std.proofs.lemmas.List.Elements.{All-head, All-tail, All-filter, All-weaker}
use Rattle.std.proofs.lemmas.List.Sums.{length-filter}
use Rattle.approval.specs.Kept.{KeptSite, standing_in}
use Rattle.approval.specs.Statuses.{Standing, approved_days, first_approved, first_day_of, is_approved, is_in_review, is_reviewed_by, objection_of, or_else, spans}
use Rattle.approval.specs.declared.objections.Objection.{Objection}
use Rattle.approval.specs.declared.objections.Objection.TheVariants.{NotInReview, SamePerson, NotApproved, AlreadyApproved}
use Rattle.approval.specs.declared.status.Status.{Status}
use Rattle.edits.specs.declared.content.Edit.{Edit}
use Rattle.edits.specs.declared.content.What.{What}
use Rattle.edits.specs.declared.content.What.TheVariants.{Review, Decide}
use Rattle.edits.specs.declared.decisions.Decision.{Decision}
use Rattle.edits.specs.declared.decisions.Decision.TheVariants.{Approve, Rescind}
use Rattle.fixed_units.specs.Calendar.{calendar}
use Rattle.fixed_units.specs.Quantities.{IsDay, SiteNumber}
use Rattle.history.specs.Accepted.{stations_at}
use Rattle.history.specs.Events.{Event}
use Rattle.history.specs.Statuses.{locked_at, objection_at, status_at}
use Rattle.history.proofs.CountLemmas.{filter_same}
use Rattle.history.proofs.PendingLemmas.{calendar_days}
use Rattle.office_inputs.specs.Changes.{changed_days, keeps_day}
use Rattle.register.specs.Keeping.{TellsStatuses}
use Rattle.register.specs.Registered.{Registered}

find_step : (b c : Bool) (x : ℤ) (o p : Option ℤ) → b ≡ c → o ≡ p → cond b (Some x) o ≡ cond c (Some x) p
find_step b c x o p e f = rw (e, f) refl

find_same : (p q : ℤ → Bool) → ((d : ℤ) → IsDay d → p d ≡ q d) → (days : List ℤ) → All IsDay days → find p days ≡ find q days
find_same p q same [] h = refl
find_same p q same (d ∷ days) h =
    find_step (p d) (q d) d (find p days) (find q days) (same d (All-head IsDay d days h)) (find_same p q same days (All-tail IsDay d days h))

module _ (a b : ℤ → Status) (same : (d : ℤ) → IsDay d → a d ≡ b d) where
  first_same : (test : Status → Bool) (from to : ℤ) → first_day_of (λ d. test (a d)) from to ≡ first_day_of (λ d. test (b d)) from to
  first_same test from to =
      find_same (λ d. spans from to d && test (a d)) (λ d. spans from to d && test (b d)) (λ d is. ap (λ s. spans from to d && test s) (same d is)) calendar calendar_days

  decision_same : (by : List ℕ) (from to : ℤ) (decision : Decision) → objection_of a by (Decide from to decision) ≡ objection_of b by (Decide from to decision)
  decision_same by from to Approve =
      ap (λ (o : Option ℤ). or_else (option_map NotInReview o) (option_map SamePerson (first_day_of (λ d. is_reviewed_by by (a d)) from to)))
      (first_same (λ s. not (is_in_review s)) from to)
      ∙ ap (λ (o : Option ℤ). or_else (option_map NotInReview (first_day_of (λ d. not (is_in_review (b d))) from to)) (option_map SamePerson o))
      (first_same (is_reviewed_by by) from to)
  decision_same by from to Rescind = ap (option_map NotApproved) (first_same (λ s. not (is_approved s)) from to)

  objection_same : (by : List ℕ) (what : What) → objection_of a by what ≡ objection_of b by what
  objection_same by (Review from to) = ap (option_map AlreadyApproved) (first_same is_approved from to)
  objection_same by (Decide from to decision) = decision_same by from to decision
  objection_same by _ = refl

  approved_same : (days : List ℤ) → All IsDay days → first_approved a days ≡ first_approved b days
  approved_same days h = find_same (λ d. is_approved (a d)) (λ d. is_approved (b d)) (λ d is. ap is_approved (same d is)) days h

  counted_same : approved_days a ≡ approved_days b
  counted_same =
      let p : ℤ → Bool = λ d. is_approved (a d) in
      let q : ℤ → Bool = λ d. is_approved (b d) in
      sym (length-filter p calendar)
      ∙ ap length (filter_same p q calendar (All-weaker IsDay (λ d. p d ≡ q d) (λ d is. ap is_approved (same d is)) calendar calendar_days))
      ∙ length-filter q calendar

pub approved_days_told : (events : List Event) (kept : List KeptSite) → TellsStatuses events kept → (site : SiteNumber)
    → approved_days (λ day. (standing_in kept site day).status) ≡ approved_days (status_at events site)
approved_days_told events kept told site =
    counted_same (λ d. (standing_in kept site d).status) (status_at events site) (λ d is. ap (λ (s : Standing). s.status) (told site d is))

module _ (events : List Event) (kept : List KeptSite) (told : TellsStatuses events kept) (edit : Edit) where
  told_status : (d : ℤ) → IsDay d → (standing_in kept edit.site d).status ≡ status_at events edit.site d
  told_status d is = ap (λ (s : Standing). s.status) (told edit.site d is)

  pub objection_told : objection_of (λ day. (standing_in kept edit.site day).status) edit.by edit.what ≡ objection_at events edit
  objection_told = objection_same (λ d. (standing_in kept edit.site d).status) (λ d. status_at events edit.site d) told_status edit.by edit.what

  pub locked_told : (days : List ℤ) → days ≡ changed_days (stations_at events) edit → first_approved (λ day. (standing_in kept edit.site day).status) days ≡ locked_at events edit
  locked_told days e =
      ap (first_approved (λ day. (standing_in kept edit.site day).status)) e
      ∙ approved_same (λ d. (standing_in kept edit.site d).status) (λ d. status_at events edit.site d) told_status (changed_days (stations_at events) edit)
      (All-filter (λ day. not (keeps_day (stations_at events) edit day)) IsDay calendar calendar_days)

-- the statuses within a register, seen from outside
pub statuses_seen : (view seen : Registered) → view ≡ seen → TellsStatuses view.history.events view.statuses → TellsStatuses seen.history.events seen.statuses
statuses_seen view seen is tell = subst (λ (r : Registered). TellsStatuses r.history.events r.statuses) is tell

-- what they have against an edit, and the approved day that it would change
pub objection_seen : (view seen : Registered) → view ≡ seen → TellsStatuses view.history.events view.statuses → (own edit : Edit) → own ≡ edit → (told : Option Objection)
    → told ≡ objection_of (λ day. (standing_in view.statuses own.site day).status) own.by own.what → told ≡ objection_at seen.history.events edit
objection_seen view seen is tell own edit same told e =
    e
    ∙ ap (λ (x : Edit). objection_of (λ day. (standing_in view.statuses x.site day).status) x.by x.what) same
    ∙ ap (λ (r : Registered). objection_of (λ day. (standing_in r.statuses edit.site day).status) edit.by edit.what) is
    ∙ objection_told seen.history.events seen.statuses (statuses_seen view seen is tell) edit

pub locked_seen : (view seen : Registered) → view ≡ seen → TellsStatuses view.history.events view.statuses → (own edit : Edit) → own ≡ edit → (days : List ℤ)
    → days ≡ changed_days (stations_at seen.history.events) edit → (locked : Option ℤ)
    → locked ≡ first_approved (λ day. (standing_in view.statuses own.site day).status) days → locked ≡ locked_at seen.history.events edit
locked_seen view seen is tell own edit same days changed locked e =
    e
    ∙ ap (λ (x : Edit). first_approved (λ day. (standing_in view.statuses x.site day).status) days) same
    ∙ ap (λ (r : Registered). first_approved (λ day. (standing_in r.statuses edit.site day).status) days) is
    ∙ locked_told seen.history.events seen.statuses (statuses_seen view seen is tell) edit days changed
