use Rattle.std.proofs.Common.{ap}
use Rattle.approval.specs.Statuses.{Standing}
use Rattle.history.proofs.OpeningLemmas.{opened_day, opened_with}
use Rattle.history.proofs.laws.an_opening_keeps_what_was_accepted.Goals as goal

pub returns-clause-standing : goal.returns-clause-standing
returns-clause-standing c limits format events site day = (opened_day events site day).standing

pub returns-clause-status : goal.returns-clause-status
returns-clause-status c limits format events site day = ap (λ (s : Standing). s.status) (opened_day events site day).standing

pub returns-clause-inputs : goal.returns-clause-inputs
returns-clause-inputs c limits format events site day = (opened_day events site day).inputs

pub returns-clause-sheet : goal.returns-clause-sheet
returns-clause-sheet c limits format events site day = (opened_day events site day).sheet

pub returns-clause-standing_with : goal.returns-clause-standing_with
returns-clause-standing_with c h piece site day = (opened_with h piece site day).standing

pub returns-clause-status_with : goal.returns-clause-status_with
returns-clause-status_with c h piece site day = ap (λ (s : Standing). s.status) (opened_with h piece site day).standing

pub returns-clause-inputs_with : goal.returns-clause-inputs_with
returns-clause-inputs_with c h piece site day = (opened_with h piece site day).inputs

pub returns-clause-sheet_with : goal.returns-clause-sheet_with
returns-clause-sheet_with c h piece site day = (opened_with h piece site day).sheet
