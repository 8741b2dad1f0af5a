use Rattle.std.proofs.Common.{codes}
use Rattle.std.proofs.lemmas.Result.{on_ok_weaker}
use Rattle.civil_days.specs.Texts.{day_text}
use Rattle.site_texts.specs.SiteText.{site_text}
use Rattle.sheets.specs.Sheets.{title_line}
use Rattle.sheets.proofs.JoinLemmas.{five_joined}
use Rattle.sheets.proofs.SizeLemmas.{title-few}
use Rattle.sheets.proofs.sheets.write_title.Goals as goal

pub returns-clause-ok : goal.returns-clause-ok
unfolding title_line
returns-clause-ok c =
    on_ok_weaker c.push-2.result
    (five_joined c.args.out.now (codes "PRIMARY COMPUTATION ") (site_text c.args.site) (codes " ") (day_text c.args.day) (codes "\n")
    c.push_slice.new.self c.write_site.new.out c.push.new.self c.write_day.new.out c.push-2.new.self c.in_ok-push_slice.ensures.ok
    c.in_ok-write_site.ensures.ok c.in_ok-push.ensures.ok c.in_ok-write_day.ensures.text)
    c.push-2.ensures.ok

pub returns-clause-size : goal.returns-clause-size
returns-clause-size c = on_ok_weaker c.push-2.result (λ told. title-few c.args.site c.args.day c.digits-digits.ensures.range) c.push-2.ensures.ok
