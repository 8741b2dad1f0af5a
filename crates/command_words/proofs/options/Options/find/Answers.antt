use Rattle.std.proofs.Common.{List, get_or, sym, ◌∙◌, ap, arith}
use Rattle.std.proofs.lemmas.Slice.Eq.{bytes_eq-Decides}
use Rattle.command_words.specs.declared.options.CommandOption.{CommandOption}
use Rattle.command_words.proofs.FindLemmas.{found_here}
use Rattle.command_words.proofs.options.Options.find.Goals as goal

pub returns-then-eq : goal.returns-then-eq
returns-then-eq c =
    let here = c.option-item.is
    ∙ ap (λ (l : List CommandOption). get_or l c.loop-option.option-index c.option-item.result) c.as_slice-given.ensures.value in (
      found_here c.args.self.now.given.items c.loop-option.option-index c.option-item.result
          (omega (arith, c.loop-option-test.true, c.loop-option.invariant.0)) (sym here),
      sym c.word.ensures ∙ (bytes_eq-Decides _ _).0 (sym c.eq.ensures ∙ c.if-eq.true),
    )
