-- Options as they are read and found.
use Rattle.std.specs.Prelude.{◌≡◌, ℕ, List, Bool, bytes_eq, Option, map, MatchOption, Contains}
use Rattle.std.specs.List.{count_by}
use Rattle.command_words.specs.Words.{Asked, Given, Journal, Numeric, Station, Column, Sender, Reference, From, To, At, Gage, Graded, AreOptions, AreOptionsOf, IsValueOf, StandsFirst, Takes, command_word, option_word}
use Rattle.command_words.specs.Laws.{CanBeAsked}
use Rattle.command_words.specs.Commands.{asked_by}
use Rattle.command_words.specs.declared.reading.Command.{Command}
use Rattle.command_words.specs.declared.options.CommandOption.{CommandOption}
use Rattle.command_words.specs.declared.options.CommandOption.TheVariants as options
use Rattle.command_words.specs.declared.options.Options.{Options}

-- what it says
abbrev pub given_by : CommandOption → Given
given_by (options.Journal name) = Journal name.now
given_by (options.Numeric option number) = Numeric option number
given_by (options.Station site) = Station site
given_by (options.Column name) = Column name.now
given_by (options.Sender letters) = Sender letters.now
given_by (options.Reference text) = Reference text.now
given_by (options.From text) = From text.now
given_by (options.To day) = To day
given_by (options.At instant) = At instant
given_by (options.Gage stage) = Gage stage
given_by (options.Graded grade) = Graded grade

-- what is given
abbrev pub given_in : Options → List Given
given_in options = map given_by options.given.items

-- the first words are no option
abbrev pub NoneStandsFirst : List (List ℕ) → Type 0
NoneStandsFirst words = (option : Given) (behind : List (List ℕ)) → ¬ (StandsFirst option words behind)

-- a word and a value are this option, or none
abbrev pub IsOptionOf : List ℕ → List ℕ → Option CommandOption → Type 0
IsOptionOf word value read =
    MatchOption read ((option : Given) → ¬ ((word ≡ option_word option) × IsValueOf option value))
    (λ option. (word ≡ option_word (given_by option)) × IsValueOf (given_by option) value)

-- whatever options the words have, no command has them
abbrev pub AreNoCommands : List (List ℕ) → Type 0
AreNoCommands words =
    (options : List Given) (asked : Asked) → AreOptions options words → ¬ (AreOptionsOf asked options)

-- the option's word is this one
abbrev pub is_worded : List ℕ → Given → Bool
is_worded word option = bytes_eq (option_word option) word

-- an option of this word is there that says this, or none is there
abbrev pub IsFound : {A : Type 0} → List ℕ → (A → Given) → List Given → Option A → Type 0
IsFound word says given found =
    MatchOption found (count_by (is_worded word) given ≡ 0) (λ value. Contains given (says value))

-- what a word and these options ask is this command, or nothing that can be asked
abbrev pub IsReadOf : List ℕ → List Given → Option Command → Type 0
IsReadOf word options read =
    MatchOption read ((asked : Asked) → CanBeAsked asked → word ≡ command_word asked → ¬ (AreOptionsOf asked options))
    (λ command. (word ≡ command_word (asked_by command)) × Takes (asked_by command) × AreOptionsOf (asked_by command) options)
