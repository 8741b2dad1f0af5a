-- A hydrograph: discharges above, stages below, over one axis of time.
use Rattle.std.specs.Prelude.{◌≡◌, ℕ, Bool, true, false, List, ◌++◌, codes, None}
use Rattle.drawings.specs.Escapes.{escaped}
use Rattle.drawings.specs.declared.axes.Axis.{Axis}
use Rattle.site_texts.specs.SiteText.{site_text}
use Rattle.draw.specs.Curves.{curve_text, gaps_text, samples_of}
use Rattle.draw.specs.Dates.{dates_text}
use Rattle.draw.specs.Elements.{label}
use Rattle.draw.specs.Frames.{IsFrame, IsNoSpan, IsTimeAxis, frame_text}
use Rattle.draw.specs.Marks.{marks_text}
use Rattle.draw.specs.Spreads.{spread_of, time_span}
use Rattle.draw.specs.declared.frames.Frame.{Frame}
use Rattle.draw.specs.declared.marks.Mark.{Mark}
use Rattle.draw.specs.declared.marks.Mark.TheVariants as mark
use Rattle.draw.specs.declared.spreads.Quantity.TheVariants as quantity
use Rattle.draw.specs.declared.style.TheConstants.{HEAD, TAIL}
use Rattle.draw.specs.declared.tables.Station.{Station}
use Rattle.draw.specs.declared.tables.Table.{Table}

-- the title: the site and its name, and the zone
unfoldable pub title_text : Station → List ℕ
title_text station = label (codes "title") 100 34 (site_text station.site ++ (codes " " ++ escaped station.name))

unfoldable pub zone_text : Station → List ℕ
zone_text station = label (codes "left") 1_140 74 (codes "days of the zone " ++ escaped station.zone)

-- the marks of a kind of a table's rows
abbrev pub marks_of : Mark → Table → Axis → Frame → List ℕ
marks_of kind table times frame = marks_text kind table.station.zone times frame table.rows.items

-- days in review and approved ones are shaded over both frames
abbrev pub both_frames : Frame
both_frames = record { top = 84; bottom = 680; numbers = None }

unfoldable pub areas_text : Table → Axis → List ℕ
areas_text table times = marks_of mark.Review table times both_frames ++ marks_of mark.Approved table times both_frames

-- what lies below all lines
unfoldable pub under_text : Table → Axis → Frame → List ℕ
under_text table times stages =
    HEAD.now ++ ((title_text table.station ++ zone_text table.station) ++ (areas_text table times
    ++ (gaps_text table.station.gap times stages (samples_of table.rows.items) ++ dates_text table.station.zone times)))

-- discharges: the computed means of days, the estimates and the measurements
unfoldable pub flows_text : Table → Axis → Frame → List ℕ
flows_text table times flows =
    frame_text flows (codes "Discharge, cubic feet per second") ++ (marks_of mark.Computed table times flows
    ++ (marks_of mark.Estimated table times flows ++ marks_of mark.MeasuredDischarge table times flows))

-- stages: the curve of readings, ticks where they are affected or erroneous, the means of days and the measurements
unfoldable pub stages_text : Table → Axis → Frame → List ℕ
stages_text table times stages =
    marks_of mark.Affected table times stages ++ (marks_of mark.Erroneous table times stages
    ++ (marks_of mark.MeanStage table times stages ++ marks_of mark.MeasuredStage table times stages))

unfoldable pub over_text : Table → Axis → Frame → Frame → List ℕ
over_text table times flows stages =
    flows_text table times flows ++ (frame_text stages (codes "Stage, feet")
    ++ (curve_text times stages table.station.gap (samples_of table.rows.items) ++ (stages_text table times stages ++ TAIL.now)))

-- a hydrograph over an axis of time was added, each of its frames with the round range around the numbers of the rows
pub record IsDrawnOver (table : Table) (times : Axis) (old new : List ℕ) : Type 0 where
  pub flows : Frame
  pub stages : Frame
  pub above : IsFrame (spread_of quantity.Discharge table.rows.items) 84 364 flows
  pub below : IsFrame (spread_of quantity.Stage table.rows.items) 400 680 stages
  pub whole : new ≡ old ++ (under_text table times stages ++ over_text table times flows stages)

-- the axis goes from the first instant of the rows to the last one
abbrev pub IsDrawn : Table → List ℕ → List ℕ → Type 0
IsDrawn table old new =
    (times : Axis) × IsTimeAxis (time_span table.station.zone table.rows.items) times × IsDrawnOver table times old new

-- a hydrograph was added, or nothing was, since the rows have no two instants
abbrev pub IsOutcome : Table → List ℕ → List ℕ → Bool → Type 0
IsOutcome table old new true = IsDrawn table old new
IsOutcome table old new false = IsNoSpan (time_span table.station.zone table.rows.items) × (new ≡ old)
