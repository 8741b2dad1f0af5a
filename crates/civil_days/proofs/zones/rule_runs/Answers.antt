use Rattle.std.proofs.Common.{refl}
use Rattle.jiff_tz.specs.PosixText.{tz_view}
use Rattle.civil_days.proofs.RunLemmas.{kept_starts}
use Rattle.civil_days.proofs.zones.rule_runs.Goals as goal

pub returns-clause-starts : goal.returns-clause-starts
returns-clause-starts c =
    kept_starts c.args.text.now c.args.text.now (tz_view c.in-Some.rule) c.in_ok-runs_of.field-0.items refl
    c.in-Some.ensures.value c.in_ok-runs_of.ensures
