use Rattle.std.proofs.Common.{◌≢◌, get_or, sym, ◌∙◌, lit<, arith}
use Rattle.std.proofs.lemmas.Str.Pattern.{starts_char}
use Rattle.command_words.proofs.OptionLemmas.{number_parsed, true_is_not_false}
use Rattle.command_words.proofs.numbers.number_of.Goals as goal

pub returns : goal.returns
returns c =
    let sign = starts_char 43 c.args.value.now c.starts_with.result c.starts_with.ensures.cases (lit< tt) (lit< tt) in
    let unsigned : get_or c.args.value.now 0 0 ≢ 43 = λ is. true_is_not_false (sym (sign.1 is) ∙ c.if-starts_with.false) in
    rw c.ok.ensures.value (number_parsed c.args.value.now c.parse.result c.parse.ensures.value.0 (omega arith) unsigned)
