-- The inputs that are made of a window of rising readings of stages keep to what they must.
use Rattle.std.proofs.Common.{◌∙◌, ◌*◌, sym, subst, List, All, pos}
use Rattle.fixed_units.specs.declared.readings.Reading.{Reading}
use Rattle.fixed_units.specs.Quantities.{IsStage, IsStamp}
use Rattle.readings.specs.Readings.{IsRising}
use Rattle.readings.proofs.WindowLemmas.{window_keeps, window_rises}
use Rattle.curves.specs.Corrections.{entries_of}
use Rattle.day_inputs.specs.DayInputs.{AreInputs}
use Rattle.day_inputs.proofs.WindowEnds.{inputs_kept}
use Rattle.daily_values.proofs.from_scratch.day_value.Goals as goal

pub value_of_parts-requires : goal.value_of_parts-requires
value_of_parts-requires c =
    subst AreInputs (sym c.in_ok-inputs.ensures ∙ c.in-Day.is)
    (inputs_kept c.args.settings.gap c.args.settings.stage_array c.args.settings.discharge_array c.args.from c.args.until (entries_of c.args.corrections.now)
    c.args.shifts.now.series.entries c.args.ratings.now.ratings c.args.estimate c.args.least c.requires.gap_low c.requires.gap_high c.requires.shortest c.requires.longest c.requires.corrections
    c.requires.shifts c.requires.ratings c.requires.estimate c.requires.least c.in_ok-window.window.items
    (subst IsRising (sym c.in_ok-window.ensures) (window_rises c.args.from c.args.until (pos (60 * c.args.settings.gap)) c.args.readings.now c.requires.rising))
    (subst (λ (rs : List Reading). All (λ r. IsStage r.raw) rs) (sym c.in_ok-window.ensures)
    (window_keeps (λ r. IsStage r.raw) c.args.from c.args.until (pos (60 * c.args.settings.gap)) c.args.readings.now c.requires.stages)))

pub with_window-requires : goal.with_window-requires
with_window-requires c =
    subst (λ (rs : List Reading). All (λ r. IsStamp r.at) rs) (sym c.in_ok-window.ensures)
    (window_keeps (λ r. IsStamp r.at) c.args.from c.args.until (pos (60 * c.args.settings.gap)) c.args.readings.now c.requires.stamps)
