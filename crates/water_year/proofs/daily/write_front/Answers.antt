use Rattle.std.proofs.Common.{codes}
use Rattle.std.proofs.lemmas.Result.{on_err_weaker, on_ok_weaker}
use Rattle.civil_days.specs.Texts.{day_text}
use Rattle.site_texts.specs.SiteText.{site_text}
use Rattle.water_year.proofs.TextLemmas.{five_joined, four_joined, unchanged}
use Rattle.water_year.proofs.daily.write_front.Goals as goal

pub returns-clause-ok : goal.returns-clause-ok
returns-clause-ok c =
    on_ok_weaker c.push-2.result
    (five_joined c.args.out.now (codes "LOCAL\t") (site_text c.args.site) (codes "\t") (day_text c.args.day) (codes "\t")
    c.push_slice.new.self c.write_site.new.out c.push.new.self c.write_day.new.out c.push-2.new.self c.in_ok-push_slice.ensures.ok
    c.in_ok-write_site.ensures.ok c.in_ok-push.ensures.ok c.in_ok-write_day.ensures.text)
    c.push-2.ensures.ok

pub returns-clause-err : goal.returns-clause-err
returns-clause-err c =
    let so_far =
    four_joined c.args.out.now (codes "LOCAL\t") (site_text c.args.site) (codes "\t") (day_text c.args.day)
    c.push_slice.new.self c.write_site.new.out c.push.new.self c.write_day.new.out c.in_ok-push_slice.ensures.ok
    c.in_ok-write_site.ensures.ok c.in_ok-push.ensures.ok c.in_ok-write_day.ensures.text in
    on_err_weaker c.push-2.result (unchanged c.args.out.now c.write_day.new.out c.push-2.new.self _ so_far) c.push-2.ensures.err
