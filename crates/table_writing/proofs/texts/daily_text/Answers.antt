use Rattle.std.proofs.Common.{◌≡◌, IfOk, true, false, ℕ, List, ap, is_some, rules, subst, ◌∙◌}
use Rattle.history.specs.Accepted.{stations_at}
use Rattle.office_inputs.specs.Stations.{station_of}
use Rattle.table_writing.proofs.TextLemmas.{no_values, values_written}
use Rattle.water_year.specs.DailyText.{daily_text}
use Rattle.water_year.specs.declared.rows.DailyRow.{DailyRow}
use Rattle.table_writing.proofs.texts.daily_text.Goals as goal

pub returns-then-is_none : goal.returns-then-is_none
returns-then-is_none g c =
    let none : is_some (station_of (stations_at c.args.office.now.register.history.events) c.args.site) ≡ false = search rules in
    subst (λ (t : List ℕ). IfOk c.no_station.result (λ text. text ≡ t))
    (no_values c.args.office.now.register.history.events c.args.site c.args.from c.args.to none) c.no_station.ensures

pub returns : goal.returns
returns g c =
    let kept : is_some (station_of (stations_at c.args.office.now.register.history.events) c.args.site) ≡ true = search rules in
    let rows = c.as_slice.ensures.value ∙ c.in_ok-rows.ensures.rows in
    let wrote : c.write_daily.new.out ≡ daily_text c.args.site c.as_slice.result.now = search rules in
    wrote
    ∙ ap (λ (rows : List DailyRow). daily_text c.args.site rows) rows
    ∙ values_written c.args.office.now.register.history.events c.args.site c.args.from c.args.to kept
