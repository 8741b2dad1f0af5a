use Rattle.command_words.proofs.OptionLemmas.{joined_told, split_told}
use Rattle.command_words.proofs.options.joined_option.Goals as goal

pub returns : goal.returns
returns c =
    let parts = split_told c.args.word.now c.in_ok-name.name c.in_ok-name.value c.split_once.result c.in_ok-name.was c.split_once.ensures.cases in
    joined_told c.args.word.now c.in_ok-name.name.now c.in_ok-name.value.now c.option_of.result parts.0 parts.1 parts.2 c.option_of.ensures
