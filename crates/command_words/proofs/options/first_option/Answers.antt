use Rattle.std.proofs.Common.{List, [], ◌∷◌, map, string_bytes, ℕ, sym, ◌∙◌, ap}
use Rattle.command_words.proofs.OptionLemmas.{none_begins, no_more, same_next}
use Rattle.command_words.proofs.options.first_option.Goals as goal

pub returns-in-Some-clause-first : goal.returns-in-Some-clause-first
returns-in-Some-clause-first c =
    let words = ap (map string_bytes) c.in_ok-word.ensures.cases.0
    ∙ ap (λ (w : List ℕ). w ∷ map string_bytes c.in_ok-word.behind.now) (sym c.as_str.ensures.value) in
    (c.as_str.result.now ∷ [], words, c.in-Some.ensures)

pub returns-in_err-value-clause-first : goal.returns-in_err-value-clause-first
returns-in_err-value-clause-first c =
    let words = ap (map string_bytes) c.in_ok-word.ensures.cases.0
    ∙ ap (λ (w : List ℕ). w ∷ map string_bytes c.in_ok-word.behind.now) (sym c.as_str.ensures.value) in
    rw c.from_residual-in_err-value.ensures
    (none_begins (map string_bytes c.args.words.now) (map string_bytes c.in_ok-word.behind.now) c.as_str.result.now words c.in_default.ensures
    (λ value after is option h. no_more string_bytes c.in_ok-word.behind.now value after c.in_err-value.ensures.cases is))

pub returns-in-None-clause-first : goal.returns-in-None-clause-first
returns-in-None-clause-first c =
    let words = ap (map string_bytes) c.in_ok-word.ensures.cases.0
    ∙ ap (λ (w : List ℕ). w ∷ map string_bytes c.in_ok-word.behind.now) (sym c.as_str.ensures.value) in
    let next = ap (map string_bytes) c.in_ok-value.ensures.cases.0
    ∙ ap (λ (w : List ℕ). w ∷ map string_bytes c.in_ok-value.behind.now) (sym c.as_str-3.ensures.value) in
    let word = c.as_str-2.ensures.value ∙ sym c.as_str.ensures.value in
    none_begins (map string_bytes c.args.words.now) (map string_bytes c.in_ok-word.behind.now) c.as_str.result.now words c.in_default.ensures
    (λ value after is option h.
    c.in-None.ensures option (same_next option c.as_str.result.now c.as_str-2.result.now value c.as_str-3.result.now after
    (map string_bytes c.in_ok-value.behind.now) word (sym is ∙ next) h))

pub returns-in-Some-separate_option-clause-first : goal.returns-in-Some-separate_option-clause-first
returns-in-Some-separate_option-clause-first c =
    let words = ap (map string_bytes) c.in_ok-word.ensures.cases.0
    ∙ ap (λ (w : List ℕ). w ∷ map string_bytes c.in_ok-word.behind.now) (sym c.as_str-2.ensures.value) in
    let next = ap (map string_bytes) c.in_ok-value.ensures.cases.0
    ∙ ap (λ (w : List ℕ). w ∷ map string_bytes c.in_ok-value.behind.now) (sym c.as_str-3.ensures.value) in
    (c.as_str-2.result.now ∷ c.as_str-3.result.now ∷ [], words ∙ ap (λ (w : List (List ℕ)). c.as_str-2.result.now ∷ w) next, c.in-Some-separate_option.ensures)
