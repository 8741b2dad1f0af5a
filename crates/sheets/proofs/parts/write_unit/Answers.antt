use Rattle.std.proofs.Common.{codes}
use Rattle.std.proofs.lemmas.Result.{on_ok_weaker}
use Rattle.civil_days.specs.Texts.{instant_text}
use Rattle.daily_values.specs.DayValue.{discharge_of}
use Rattle.fixed_units.specs.PublishedText.{micro_text}
use Rattle.sheets.specs.Sheets.{amount_or_dash, unit_text}
use Rattle.sheets.proofs.JoinLemmas.{amounts_joined}
use Rattle.sheets.proofs.SizeLemmas.{unit-few}
use Rattle.sheets.proofs.parts.write_unit.Goals as goal

pub returns-clause-ok : goal.returns-clause-ok
unfolding unit_text
returns-clause-ok c =
    let u = c.args.unit.now in
    on_ok_weaker c.write_amount_or_dash.result
    (λ told. amounts_joined c.args.out.now (instant_text u.at) (codes " RAW ") (micro_text u.raw) (codes " CORR ") (micro_text u.correction)
    (codes " STAGE ") (micro_text u.stage) (codes " SHIFT ") (micro_text u.shift) (codes " DISCHARGE ") (amount_or_dash (discharge_of u))
    c.write_instant.new.out c.write_amount.new.out c.write_amount-2.new.out c.write_amount-3.new.out c.write_amount-4.new.out
    c.push_slice.new.self c.write_amount_or_dash.new.out c.in_ok-write_instant.ensures.text c.in_ok-write_amount.ensures.ok
    c.in_ok-write_amount-2.ensures.ok c.in_ok-write_amount-3.ensures.ok c.in_ok-write_amount-4.ensures.ok c.in_ok-push_slice.ensures.ok
    (rw c.ok.ensures.value at told))
    c.write_amount_or_dash.ensures.ok

pub returns-clause-size : goal.returns-clause-size
returns-clause-size c =
    on_ok_weaker c.write_amount_or_dash.result
    (λ told. unit-few c.args.unit.now c.in_ok-write_amount.ensures.size c.in_ok-write_amount-2.ensures.size c.in_ok-write_amount-3.ensures.size
    c.in_ok-write_amount-4.ensures.size (rw c.ok.ensures.value at told))
    c.write_amount_or_dash.ensures.size
