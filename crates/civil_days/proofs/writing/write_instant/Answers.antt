use Rattle.std.proofs.Common.{◌≡◌, ◌++◌, List, ℕ, ap, ◌∙◌, w32, w64, FitsSigned, arith}
use Rattle.std.proofs.lemmas.Int.{to_z-of_z}
use Rattle.std.proofs.lemmas.Result.{on_ok_weaker}
use Rattle.jiff.proofs.SpanFacts.{signed_arith}
use Rattle.civil_days.proofs.writing.write_instant.Goals as goal
use Rattle.civil_days.specs.Texts.{clock_text, instant_text}

pub returns-clause-text : goal.returns-clause-text
returns-clause-text c =
    let low = c.parts-number.ensures.low in
    let high = c.parts-number.ensures.high in
    let number_fits : FitsSigned w32 c.parts-number.result.0 = omega (arith, signed_arith, low, high) in
    let at_fits : FitsSigned w64 c.get.result = record { sfits = c.get.type_inv } in
    let date = rw (to_z-of_z w32 c.parts-number.result.0 number_fits) at c.date_of-year.ensures.text in
    let parts = rw (to_z-of_z w64 c.get.result at_fits, c.get.ensures.value) at c.parts-number.ensures.text in
    let text : c.spell_instant-bytes.result ≡ instant_text c.args.at =
    c.spell_instant-bytes.ensures.text ∙ ap (λ (d : List ℕ). d ++ clock_text c.parts-number.result.1) date ∙ parts in
    on_ok_weaker c.push_slice.result (λ told. told ∙ ap (λ (bytes : List ℕ). c.args.out.now ++ bytes) text) c.push_slice.ensures.ok
