use Rattle.std.proofs.Common.{◌≡◌, IfOk, None, Some, true, ℕ, List, ap, is_some, map, rules, subst, ◌∙◌}
use Rattle.std.proofs.lemmas.List.Elements.{All-same}
use Rattle.history.specs.Accepted.{stations_at}
use Rattle.depend.specs.Compared.{days_within}
use Rattle.fixed_units.specs.RoundingArray.{IsRoundingArray}
use Rattle.office_inputs.specs.Stations.{station_of}
use Rattle.table_writing.specs.Answers.{rows_at}
use Rattle.table_writing.specs.Counted.{IsCountedOrNone}
use Rattle.table_writing.specs.Texts.{year_by}
use Rattle.table_writing.proofs.RowLemmas.{rows_days, year_days}
use Rattle.table_writing.proofs.TextLemmas.{no_year, year_written}
use Rattle.table_writing.proofs.YearLemmas.{begins_first}
use Rattle.water_year.specs.Rows.{first_of, last_of}
use Rattle.water_year.specs.declared.rows.DailyRow.{DailyRow}
use Rattle.table_writing.proofs.texts.water_text.Goals as goal

pub returns-in_default : goal.returns-in_default
returns-in_default g c =
    let none : station_of (stations_at c.args.office.now.register.history.events) c.args.site ≡ None = search rules in
    subst (λ (t : List ℕ). IfOk c.no_station.result (λ text. text ≡ t)) (no_year c.args.office.now.register.history.events c.args.site c.args.year none)
    c.no_station.ensures

pub year_text-requires-clause-days : goal.year_text-requires-clause-days
year_text-requires-clause-days g c =
    let events = c.args.office.now.register.history.events in
    let kept : is_some (station_of (stations_at c.args.office.now.register.history.events) c.args.site) ≡ true = search rules in
    let rows : c.as_slice.result.now ≡ rows_at c.args.office.now.register.history.events c.args.site (first_of c.args.year) (last_of c.args.year) =
    rw (c.first_day.ensures, c.last_day.ensures) at (c.as_slice.ensures.value ∙ c.in_ok-rows.ensures.rows) in
    ap (λ (rows : List DailyRow). map (λ (row : DailyRow). row.day) rows) rows
    ∙ rows_days events c.args.site (days_within (first_of c.args.year) (last_of c.args.year)) kept
    ∙ year_days c.args.year (begins_first c.args.year c.requires)

pub year_text-requires-clause-counted : goal.year_text-requires-clause-counted
year_text-requires-clause-counted g c =
    let kept : station_of (stations_at c.args.office.now.register.history.events) c.args.site ≡ Some c.in-Some.station.now.station = search rules in
    All-same IsCountedOrNone c.as_slice.result.now c.in_ok-rows.rows.items c.as_slice.ensures.value
    (c.in_ok-rows.ensures.counted (c.in-Some.station.now.station, kept, subst IsRoundingArray c.discharge_array-array.ensures c.digits-digits.ensures.range))

pub returns : goal.returns
returns g c =
    let kept : station_of (stations_at c.args.office.now.register.history.events) c.args.site ≡ Some c.in-Some.station.now.station = search rules in
    let rows : c.as_slice.result.now ≡ rows_at c.args.office.now.register.history.events c.args.site (first_of c.args.year) (last_of c.args.year) =
    rw (c.first_day.ensures, c.last_day.ensures) at (c.as_slice.ensures.value ∙ c.in_ok-rows.ensures.rows) in
    let same =
    ap (λ (array : List ℕ). year_by c.args.year c.args.site array c.as_slice.result.now) c.discharge_array-array.ensures
    ∙ ap (λ (rows : List DailyRow). year_by c.args.year c.args.site c.in-Some.station.now.station.discharge_array rows) rows
    ∙ year_written c.args.office.now.register.history.events c.args.site c.args.year c.in-Some.station.now.station kept in
    subst (λ (t : List ℕ). IfOk c.year_text.result (λ text. text ≡ t)) same c.year_text.ensures
