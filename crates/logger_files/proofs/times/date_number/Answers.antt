use Rattle.std.proofs.Common.{◌≡◌, ◌∙◌, pos, arith, w8, w32, FitsSigned}
use mir.Syntax.{w16}
use Rattle.std.proofs.lemmas.Int.{to_z-of_z, to_z_pos}
use Rattle.jiff.proofs.SpanFacts.{signed_arith}
use Rattle.civil_days.proofs.SpellingLemmas.{number_of}
use Rattle.logger_files.proofs.times.date_number.Goals as goal

pub returns-in-Ok-clause-value : goal.returns-in-Ok-clause-value
returns-in-Ok-clause-value c =
    let low = c.to_unix_epoch_day.ensures.bound.0 in
    let high = c.to_unix_epoch_day.ensures.bound.1 in
    let fits : FitsSigned w32 c.to_unix_epoch_day.result = omega (arith, signed_arith) in
    let year : c.in-Ok.date.year ≡ pos c.args.year = c.in-Ok.ensures.value.0 ∙ to_z_pos w16 c.args.year (omega arith) in
    let month : pos c.in-Ok.date.month ≡ pos c.args.month = c.in-Ok.ensures.value.1 ∙ to_z_pos w8 c.args.month (omega arith) in
    let day : pos c.in-Ok.date.day ≡ pos c.args.day = c.in-Ok.ensures.value.2 ∙ to_z_pos w8 c.args.day (omega arith) in
    let same_month : c.in-Ok.date.month ≡ c.args.month = cc in
    let same_day : c.in-Ok.date.day ≡ c.args.day = cc in
    rw (to_z-of_z w32 c.to_unix_epoch_day.result fits, c.to_unix_epoch_day.ensures.value)
    (number_of c.in-Ok.date c.args.year c.args.month c.args.day year same_month same_day)
