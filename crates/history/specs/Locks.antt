-- Which edits are locked out: those that would change the inputs of an approved day.
use Rattle.std.specs.Prelude.{◌≡◌, ◌≢◌, true, List, None, ℤ, ◌<ℤ◌}
use Rattle.approval.specs.Statuses.{is_approved}
use Rattle.edits.specs.declared.content.Edit.{Edit}
use Rattle.fixed_units.specs.Quantities.{IsDay}
use Rattle.history.specs.Accepted.{edits_of, named, stations_at}
use Rattle.history.specs.Awaited.{inputs_at}
use Rattle.history.specs.Events.{Event, History}
use Rattle.history.specs.Statuses.{objection_at, status_at}
use Rattle.history.specs.Verdicts.{refused_as_awaiting, refused_by_stations}
use Rattle.office_inputs.specs.Stations.{inputs_of_day, stations_after}

-- the day is approved, and its inputs with the edit would be others than those in force
pub record ChangesApproved (events : List Event) (edit : Edit) (day : ℤ) : Type 0 where
  pub is_day : IsDay day
  pub approved : is_approved (status_at events edit.site day) ≡ true
  pub changed : inputs_of_day (stations_after (stations_at events) edit) edit.site day ≢ inputs_at events edit.site day

-- it is the first such day
pub record IsFirstChanged (events : List Event) (edit : Edit) (day : ℤ) : Type 0 where
  pub changed : ChangesApproved events edit day
  pub first : (earlier : ℤ) → earlier <ℤ day → ¬ ChangesApproved events edit earlier

-- Nothing refuses the edit that is asked before the locks are: its reference names no accepted edit, neither the stations in force nor
-- the statuses of its days refuse it, and it approves no day that awaits an edit.
pub record ReachesTheLocks (h : History) (edit : Edit) : Type 0 where
  pub new : named (edits_of h.events) edit.reference ≡ None
  pub stations : refused_by_stations h edit ≡ None
  pub statuses : objection_at h.events edit ≡ None
  pub awaits_none : refused_as_awaiting h edit ≡ None
