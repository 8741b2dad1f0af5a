-- What can be asked.
use Rattle.std.proofs.Common.{◌<◌, ◌≤◌, ◌^◌, ℕ, unsigned_abs, List, [], ◌∷◌, ◌++◌, All, Contains, IsPermutation, codes, decimal, refl, sym, ◌∙◌, subst, arith}
use Rattle.std.proofs.lemmas.Fmt.{decimal_is_IsNumeral, length-decimal-le}
use Rattle.std.proofs.lemmas.List.{append-nil}
use Rattle.std.proofs.lemmas.List.Elements.{All-append, All-cons, All-contains, All-from_recursion, All-head, All-nil, All-tail, All-weaker}
use Rattle.std.proofs.lemmas.List.Sorted.{IsPermutation-refl, All-permutation}
use Rattle.edits.specs.Texts.{AreInitials, IsReference}
use Rattle.fixed_units.proofs.TextLemmas.{micro-read}
use Rattle.fixed_units.specs.PublishedText.{micro_text}
use Rattle.site_texts.specs.SiteText.{site_text}
use Rattle.command_words.proofs.DayLemmas.{day_written, stamp_written}
use Rattle.command_words.proofs.ValueLemmas.{day_read, site_again, site_read, stage_small, stamp_read}
use Rattle.command_words.specs.Words.{Asked, Batch, Given, Journal, Numeric, Station, Column, Sender, Reference, From, To, At, Gage, Graded, grade_word, IsInRange, IsNumber, IsOption, IsValueOf, AreOptions, command_word, defaults_of, option_word, options_of}
use Rattle.command_words.specs.Laws.{CanBeGiven, EachIsAsked, NothingElseIsAsked}
use Rattle.command_words.specs.declared.numbers.NumericOption.{NumericOption}
use Rattle.command_words.specs.declared.numbers.NumericOption.TheVariants.{Number, Port, Workers, Connections, Turns, Year}

-- an option has a value that says it
value_said : (option : Given) (first : List (List ℕ)) → IsOption option first → (value : List ℕ) × IsValueOf option value
value_said option [] h = absurd h
value_said option (word ∷ []) h = (h.0, h.2)
value_said option (word ∷ value ∷ []) h = (value, h.1)
value_said option (word ∷ value ∷ more ∷ words) h = absurd h

what_says : (option : Given) (value : List ℕ) → IsValueOf option value → CanBeGiven option
what_says (Journal name) value h = λ e. h.1 (sym h.0 ∙ e)
what_says (Numeric option number) value h = h.1
what_says (Station site) value h = site_read value site h
what_says (Column name) value h = λ e. h.1 (sym h.0 ∙ e)
what_says (Sender letters) value h = subst AreInitials (sym h.0) h.1
what_says (Reference text) value h = subst IsReference (sym h.0) h.1
what_says (From text) value h = λ e. h.1 (sym h.0 ∙ e)
what_says (To day) value h = day_read value day h
what_says (At instant) value h = stamp_read value instant h
what_says (Gage stage) value h = h.1
what_says (Graded grade) value h = tt

all_can : (options : List Given) (words : List (List ℕ)) → AreOptions options words → All CanBeGiven options
all_can [] words h = All-nil CanBeGiven
all_can (option ∷ options) words h =
    let said = value_said option h.1.0 h.1.2 in
    All-cons CanBeGiven option options (what_says option said.0 said.1) (all_can options h.0 h.2)

-- what holds of the defaults holds of those that are left out
pub left_out_too : (P : Given → Type 0) (defaults left : List Given) → All P defaults → All (Contains defaults) left → All P left
left_out_too P defaults left all are = All-weaker (Contains defaults) P (λ option at. All-contains P defaults option all at) left are

defaults_can : (asked : Asked) → All CanBeGiven (defaults_of asked)
defaults_can (Batch name workers) = All-from_recursion CanBeGiven (defaults_of (Batch name workers)) ((omega arith, omega arith), tt)
defaults_can asked = All-nil CanBeGiven

pub nothing_else : NothingElseIsAsked
nothing_else [] asked h = absurd h
nothing_else (word ∷ words) asked h = (
  All-permutation CanBeGiven (h.2 ++ h.3.0) (options_of asked) h.3.2
      (All-append CanBeGiven h.2 h.3.0 (all_can h.2 words h.4) (left_out_too CanBeGiven (defaults_of asked) h.3.0 (defaults_can asked) h.3.1)),
  h.1,
)

-- a number that an option takes has nine digits at most
small : (option : NumericOption) (number : ℕ) → IsInRange option number → number < 10 ^ 9
small Number number h = omega (arith, h.1)
small Port number h = omega (arith, h.1)
small Workers number h = omega (arith, h.1)
small Connections number h = omega (arith, h.1)
small Turns number h = omega (arith, h.1)
small Year number h = omega (arith, h.1)

number_written : (number : ℕ) → number < 10 ^ 9 → IsNumber (decimal number) number
number_written number small =
    let numeral = decimal_is_IsNumeral number (omega arith) in
    (numeral.0, length-decimal-le 9 number (omega arith) small (omega arith), sym numeral.1)

-- what can be given has a value that says it
one_said : (option : Given) → CanBeGiven option → (value : List ℕ) × IsValueOf option value
one_said (Journal name) some = (name, (refl, some))
one_said (Numeric option number) range = (decimal number, (number_written number (small option number range), range))
one_said (Station site) is = (site_text site, site_again site is)
one_said (Column name) some = (name, (refl, some))
one_said (Sender letters) are = (letters, (refl, are))
one_said (Reference text) is = (text, (refl, is))
one_said (From text) some = (text, (refl, some))
one_said (To day) is = day_written day is
one_said (At instant) is = stamp_written instant is
one_said (Gage stage) is =
    let few : unsigned_abs stage ≤ 10 ^ 13 = stage_small stage is.low is.high in
    (micro_text stage, (micro-read stage few, is))
one_said (Graded grade) can = (grade_word grade, refl)

all_said : (options : List Given) → All CanBeGiven options → (words : List (List ℕ)) × AreOptions options words
all_said [] can = ([], refl)
all_said (option ∷ options) can =
    let one = one_said option (All-head CanBeGiven option options can) in
    let rest = all_said options (All-tail CanBeGiven option options can) in
    let word : List ℕ = option_word option ++ (codes "=" ++ one.0) in
    (word ∷ rest.0, (rest.0, (word ∷ [], refl, (one.0, refl, one.1)), rest.1))

pub each_is_asked : EachIsAsked
each_is_asked asked can =
    let options : List Given = options_of asked in
    let said = all_said options can.0 in
    let order : IsPermutation (options ++ []) options = subst (λ (l : List Given). IsPermutation l options) (sym (append-nil options)) (IsPermutation-refl options) in
    (command_word asked ∷ said.0, (refl, can.1, options, ([], All-nil (Contains (defaults_of asked)), order), said.1))
