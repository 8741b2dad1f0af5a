-- The fields that say whose day it is, and those behind them.
use Rattle.std.proofs.Common.{codes, ◌++◌}
use Rattle.std.proofs.lemmas.Result.{on_err_weaker, on_ok_weaker}
use Rattle.civil_days.specs.Texts.{day_text}
use Rattle.site_texts.specs.SiteText.{site_text}
use Rattle.water_year.specs.DailyText.{code_text, discharge_text}
use Rattle.fixed_units.proofs.PublishedLemmas.{front-kept}
use Rattle.water_year.proofs.TextLemmas.{row_joined}
use Rattle.water_year.proofs.daily.write_row.Goals as goal

pub returns-clause-ok : goal.returns-clause-ok
returns-clause-ok c =
    let row = c.args.row.now in
    on_ok_weaker c.write_back.result
    (row_joined c.args.out.now (site_text c.args.site) (day_text row.day) (discharge_text row.state) (code_text row.state row.approved row.estimated)
    c.write_front.new.out c.write_back.new.out c.in_ok-write_front.ensures.ok)
    c.write_back.ensures.ok

pub returns-clause-err : goal.returns-clause-err
returns-clause-err c =
    on_err_weaker c.write_back.result
    (front-kept c.args.out.now c.write_front.new.out c.write_back.new.out _ c.in_ok-write_front.ensures.ok)
    c.write_back.ensures.err
