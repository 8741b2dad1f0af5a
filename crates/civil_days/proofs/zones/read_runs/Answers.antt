use Rattle.std.proofs.Common.{◌≡◌, ◌∙◌, ap, sym, refl, rules, [], Some, None, arith, FitsSigned, w32}
use Rattle.std.proofs.lemmas.Int.{to_z-of_z}
use Rattle.jiff.proofs.SpanFacts.{signed_arith}
use Rattle.jiff_tz.specs.PosixReader.{tz_text}
use Rattle.civil_days.proofs.RuleLemmas.{zone_rule-offset}
use Rattle.civil_days.proofs.RunLemmas.{kept_starts, offset_zone}
use Rattle.civil_days.specs.Runs.{Covers}
use Rattle.civil_days.specs.Starts.{offset_seconds, calendar_end, start_on, IsZone}
use Rattle.civil_days.proofs.zones.read_runs.Goals as goal

pub returns-in_err-one_run-in-Some-clause-bad : goal.returns-in_err-one_run-in-Some-clause-bad
returns-in_err-one_run-in-Some-clause-bad c =
    let is : offset_seconds c.args.text.now ≡ Some c.in-Some.offset =
    sym (c.in-Some.ensures.value ∙ ap offset_seconds c.as_bytes.ensures.value) in
    let zone : IsZone c.args.text.now = offset_zone c.args.text.now c.in-Some.offset (zone_rule-offset c.args.text.now c.in-Some.offset is) in
    search rules

pub returns-in_ok-one_run-in-Some-clause-good : goal.returns-in_ok-one_run-in-Some-clause-good
returns-in_ok-one_run-in-Some-clause-good c =
    let is : offset_seconds c.args.text.now ≡ Some c.in-Some.offset =
    sym (c.in-Some.ensures.value ∙ ap offset_seconds c.as_bytes.ensures.value) in
    offset_zone c.args.text.now c.in-Some.offset (zone_rule-offset c.args.text.now c.in-Some.offset is)

pub returns-in_ok-one_run-in-Some-clause-starts : goal.returns-in_ok-one_run-in-Some-clause-starts
returns-in_ok-one_run-in-Some-clause-starts c =
    let is : offset_seconds c.args.text.now ≡ Some c.in-Some.offset =
    sym (c.in-Some.ensures.value ∙ ap offset_seconds c.as_bytes.ensures.value) in
    let low = c.in-Some.ensures.bound.0 in
    let high = c.in-Some.ensures.bound.1 in
    let fits : FitsSigned w32 c.in-Some.offset = omega (arith, signed_arith) in
    let covers : Covers (start_on (tz_text [] c.in-Some.offset None)) calendar_end c.in_ok-one_run-in-Some.field-0.items =
    rw (to_z-of_z w32 c.in-Some.offset fits) at c.in_ok-one_run-in-Some.ensures in
    kept_starts c.args.text.now c.args.text.now (tz_text [] c.in-Some.offset None) c.in_ok-one_run-in-Some.field-0.items refl
    (zone_rule-offset c.args.text.now c.in-Some.offset is) covers
