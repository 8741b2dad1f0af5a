-- Whether the site is kept is asked first.
use Rattle.std.proofs.Common.{◌≡◌, ◌∙◌, ap, map, sym, is_some, true, false}
use Rattle.std.specs.List.{flat_map}
use Rattle.depend.specs.Compared.{days_within}
use Rattle.desk.specs.Replies.{row_at}
use Rattle.history.specs.Accepted.{stations_at}
use Rattle.http_api.specs.Tables.{row_of}
use Rattle.office_inputs.specs.Stations.{station_of}
use Rattle.desk.proofs.AnswerLemmas.{on_ok}
use Rattle.desk.proofs.DailyLemmas.{no_table, table_told}
use Rattle.desk.proofs.days.tell_daily.Goals as goal

pub returns-then-keeps : goal.returns-then-keeps
returns-then-keeps g c =
    let events = c.args.office.now.register.history.events in
    let kept : is_some (station_of (stations_at events) c.args.site) ≡ true = sym c.keeps.ensures ∙ c.if-keeps.true in
    on_ok c.make.result _ _
    (λ is. is ∙ table_told _ _ (flat_map (row_at events c.args.site) (days_within c.args.from c.args.to)) kept (ap (map row_of) c.as_slice.ensures.value ∙ c.in_ok-days.ensures))
    c.make.ensures

pub returns : goal.returns
returns g c =
    let events = c.args.office.now.register.history.events in
    let kept : is_some (station_of (stations_at events) c.args.site) ≡ false = sym c.keeps.ensures ∙ c.if-keeps.false in
    on_ok c.make-2.result _ _ (λ is. is ∙ no_table _ (flat_map (row_at events c.args.site) (days_within c.args.from c.args.to)) kept) c.make-2.ensures
