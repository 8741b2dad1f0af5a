use Rattle.std.proofs.Common.{◌≡◌, ◌∙◌, refl, subst, ℤ, IfSome, FitsSigned, w64, int_div, pos}
use Rattle.std.proofs.lemmas.Int.{to_z-of_z}
use Rattle.std.proofs.lemmas.Result.{IfOk-at_ok}
use Rattle.fixed_units.specs.Quantities.{IsSecond}
use Rattle.jiff_core.specs.declared.Timestamp.{Timestamp}
use Rattle.civil_days.specs.Starts.{day_start_of}
use Rattle.jiff_days.proofs.StartLemmas.{answered, no_error}
use Rattle.jiff_days.proofs.conversion.day_start_by_jiff.Goals as goal

pub unreachable-requires : goal.unreachable-requires
unreachable-requires c =
    let is = answered c.args.text.now c.in-Ok.zone.inner c.midnight.result c.args.day c.converted.result c.requires c.in-Ok.ensures.value c.midnight.ensures.day
    c.midnight.ensures.midnight c.converted.ensures in
    no_error c.converted.result c.in-Err.field-0 c.in-Err.is is.given

pub returns-clause-read : goal.returns-clause-read
returns-clause-read c =
    let is = answered c.args.text.now c.in-Ok.zone.inner c.midnight.result c.args.day c.converted.result c.requires c.in-Ok.ensures.value c.midnight.ensures.day
    c.midnight.ensures.midnight c.converted.ensures in
    let fits : FitsSigned w64 c.as_second.result = record { sfits = c.as_second.type_inv } in
    let value : int_div c.in-Ok-converted.instant.nanosecond (pos 1_000_000_000) ≡ day_start_of c.args.text.now c.args.day =
    IfOk-at_ok (λ (t : Timestamp). int_div t.nanosecond (pos 1_000_000_000) ≡ day_start_of c.args.text.now c.args.day) c.in-Ok-converted.is is.start in
    let second : IsSecond c.as_second.result = rw (c.as_second.ensures, value) is.second in
    let range = rw (to_z-of_z w64 c.as_second.result fits) at c.new.ensures.range in
    (λ _. c.in-Ok.ensures.succeeds.0 refl, λ _. range.1 second)

pub returns-clause-start : goal.returns-clause-start
returns-clause-start c =
    let is = answered c.args.text.now c.in-Ok.zone.inner c.midnight.result c.args.day c.converted.result c.requires c.in-Ok.ensures.value c.midnight.ensures.day
    c.midnight.ensures.midnight c.converted.ensures in
    let fits : FitsSigned w64 c.as_second.result = record { sfits = c.as_second.type_inv } in
    let value : int_div c.in-Ok-converted.instant.nanosecond (pos 1_000_000_000) ≡ day_start_of c.args.text.now c.args.day =
    IfOk-at_ok (λ (t : Timestamp). int_div t.nanosecond (pos 1_000_000_000) ≡ day_start_of c.args.text.now c.args.day) c.in-Ok-converted.is is.start in
    let new = rw (to_z-of_z w64 c.as_second.result fits) at c.new.ensures.value in
    subst (λ (n : ℤ). IfSome c.new.result (λ s. s ≡ n)) (c.as_second.ensures ∙ value) new
