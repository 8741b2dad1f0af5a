use Rattle.std.proofs.Common.{ℕ, List, ◌∷◌, map, string_bytes, sym, ◌∙◌, ap}
use Rattle.command_words.specs.Reading.{given_in}
use Rattle.command_words.proofs.WordLemmas.{none_asked, words_ask}
use Rattle.command_words.proofs.reading.command_in.Goals as goal

pub returns-in_err-options : goal.returns-in_err-options
returns-in_err-options c =
    rw c.from_residual-in_err-options.ensures
    (none_asked (map string_bytes c.args.words.now) (map string_bytes c.in_ok-word.behind.now) (string_bytes c.in_ok-word.word.now)
    (ap (map string_bytes) c.in_ok-word.ensures.cases.0) c.in_err-options.ensures)

pub returns : goal.returns
returns c =
    words_ask c.command_of.result (map string_bytes c.args.words.now) (map string_bytes c.in_ok-word.behind.now) c.as_str.result.now
    (given_in c.in_ok-options.options)
    (ap (map string_bytes) c.in_ok-word.ensures.cases.0
    ∙ ap (λ (w : List ℕ). w ∷ map string_bytes c.in_ok-word.behind.now) (sym c.as_str.ensures.value))
    c.in_ok-options.ensures c.command_of.ensures
