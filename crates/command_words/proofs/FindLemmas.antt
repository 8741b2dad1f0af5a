-- Options as they are found, and when those that were found are all.
use Rattle.std.proofs.Common.{◌≡◌, ◌≢◌, ℕ, ◌<◌, Bool, cond, List, [], ◌∷◌, ◌++◌, length, map, get_or, All, Contains, IsPermutation, refl, sym, ◌∙◌, ap, arith, ◌⊎◌, inl, inr}
use Rattle.std.specs.Bool.{⊤}
use Rattle.std.specs.List.{count_by, swap_remove}
use Rattle.std.proofs.lemmas.List.{get_or-map, length-map}
use Rattle.std.proofs.lemmas.List.Elements.{Contains-append_cases, Contains-append_right, All-head, All-tail, All-cons, All-nil}
use Rattle.std.proofs.lemmas.List.Sorted.{IsPermutation-refl, IsPermutation-trans, IsPermutation-cons, IsPermutation-swap_remove, Contains-permutation, length_permutation}
use Rattle.std.proofs.lemmas.List.Sums.{get_or-le-sum_by}
use Rattle.std.proofs.lemmas.Slice.Eq.{bytes_eq-Decides}
use Rattle.command_words.specs.Words.{Given, option_word}
use Rattle.command_words.specs.Reading.{given_by, is_worded}
use Rattle.command_words.specs.declared.options.CommandOption.{CommandOption}

-- an option counts where it passes
abbrev pub passing : (Given → Bool) → Given → ℕ
passing p option = cond (p option) 1 0

abbrev pub read_passing : (Given → Bool) → CommandOption → ℕ
read_passing p option = passing p (given_by option)

-- the option at a place is there
pub found_here : (items : List CommandOption) (at : ℕ) (option : CommandOption) → at < length items → get_or items at option ≡ option
    → Contains (map given_by items) (given_by option)
found_here items at option below is =
    let long : length (map given_by items) ≡ length items = length-map items given_by in
    (at, omega (arith, long, below), get_or-map given_by items at option (given_by option) below ∙ ap given_by is)

-- each is of another word than those behind it
abbrev pub AreApart : List Given → Type 0
AreApart [] = ⊤
AreApart (option ∷ options) = (count_by (is_worded (option_word option)) options ≡ 0) × AreApart options

pub one_of_one : (one option : Given) → Contains (one ∷ []) option → option ≡ one
one_of_one one option at =
    let first : at.0 ≡ 0 = omega (arith, at.1) in
    sym at.2 ∙ ap (λ (n : ℕ). get_or (one ∷ []) n option) first

-- where none of a word is there, no option of that word is
worded_not : (word : List ℕ) (options : List Given) (option : Given) → word ≡ option_word option → count_by (is_worded word) options ≡ 0 → ¬ (Contains options option)
worded_not word options option same none there =
    let small = get_or-le-sum_by (passing (is_worded word)) options there.0 option there.1 in
    let here = ap (passing (is_worded word)) there.2 in
    let one : passing (is_worded word) option ≡ 1 = ap {B = ℕ} (λ (b : Bool). cond b 1 0) ((bytes_eq-Decides (option_word option) word).1 (sym same)) in
    omega (arith, small, here, one, none)

-- what is there behind another than this
left_there : (one : Given) (rest : List Given) (option : Given) → one ≢ option → Contains ((one ∷ []) ++ rest) option → Contains rest option
left_there one rest option other there = by (Contains-append_cases (one ∷ []) rest option there)
  where
    by : Contains (one ∷ []) option ⊎ Contains rest option → Contains rest option
    by (inl here) = absurd (other (sym (one_of_one one option here)))
    by (inr further) = further

all_left : (one : Given) (given rest wanted : List Given) → IsPermutation given (one ∷ rest) → ¬ (Contains wanted one)
    → All (Contains given) wanted → All (Contains rest) wanted
all_left one given rest [] order none all = All-nil (Contains rest)
all_left one given rest (option ∷ wanted) order none all =
    let there = Contains-permutation given (one ∷ rest) option order (All-head (Contains given) option wanted all) in
    let other : one ≢ option = λ is. none (0, omega arith, sym is) in
    let further : ¬ (Contains wanted one) = λ at. none (Contains-append_right (option ∷ []) wanted one at) in
    All-cons (Contains rest) option wanted (left_there one rest option other there)
    (all_left one given rest wanted order further (All-tail (Contains given) option wanted all))

-- where as many are given as are wanted, and each that is wanted is there, they are those in some order
pub all_found : (wanted given : List Given) → AreApart wanted → All (Contains given) wanted → length given ≡ length wanted → IsPermutation given wanted
all_found [] [] apart all many = IsPermutation-refl []
all_found [] (option ∷ given) apart all many = absurd (omega (arith, many))
all_found (one ∷ wanted) given apart all many =
    let there = All-head (Contains given) one wanted all in
    let rest : List Given = swap_remove given there.0 one in
    let order : IsPermutation given (one ∷ rest) = IsPermutation-swap_remove given there.0 one there.1 (sym there.2) in
    let none = worded_not (option_word one) wanted one refl apart.0 in
    let others = all_left one given rest wanted order none (All-tail (Contains given) one wanted all) in
    let fewer : length rest ≡ length wanted = omega (arith, many, length_permutation given (one ∷ rest) order) in
    IsPermutation-trans given (one ∷ rest) (one ∷ wanted) order
    (IsPermutation-cons one rest wanted (all_found wanted rest apart.1 others fewer))

-- options that are apart, and of which each is among others of the same words, are those
pub lists_alike : (wanted others : List Given) → map option_word wanted ≡ map option_word others → All (Contains others) wanted
    → AreApart wanted → AreApart others → wanted ≡ others
lists_alike [] [] words all apart far = refl
lists_alike [] (other ∷ others) words all apart far = cc
lists_alike (one ∷ wanted) [] words all apart far = cc
lists_alike (one ∷ wanted) (other ∷ others) words all apart far =
    let word : option_word one ≡ option_word other = cc in
    let further : map option_word wanted ≡ map option_word others = cc in
    let same = by word (Contains-append_cases (other ∷ []) others one (All-head (Contains (other ∷ others)) one wanted all)) in
    let none = worded_not (option_word one) wanted other word apart.0 in
    let left = all_left other (other ∷ others) others wanted (IsPermutation-refl (other ∷ others)) none (All-tail (Contains (other ∷ others)) one wanted all) in
    let rest = lists_alike wanted others further left apart.1 far.1 in
    cc
  where
    by : option_word one ≡ option_word other → Contains (other ∷ []) one ⊎ Contains others one → one ≡ other
    by word (inl here) = one_of_one other one here
    by word (inr behind) = absurd (worded_not (option_word other) others one (sym word) far.0 behind)

-- of options that are apart only one has a word
pub only_one : (options : List Given) (one other : Given) → AreApart options → Contains options one → Contains options other
    → option_word one ≡ option_word other → one ≡ other
only_one [] one other apart here there same = absurd (omega (arith, here.1))
only_one (option ∷ options) one other apart here there same =
    by (only_one options one other apart.1) (Contains-append_cases (option ∷ []) options one here) (Contains-append_cases (option ∷ []) options other there)
  where
    by : (Contains options one → Contains options other → option_word one ≡ option_word other → one ≡ other)
        → Contains (option ∷ []) one ⊎ Contains options one → Contains (option ∷ []) other ⊎ Contains options other → one ≡ other
    by behind (inl first) (inl second) = one_of_one option one first ∙ sym (one_of_one option other second)
    by behind (inl first) (inr further) =
        absurd (worded_not (option_word option) options other (sym (ap option_word (one_of_one option one first)) ∙ same) apart.0 further)
    by behind (inr further) (inl second) =
        absurd (worded_not (option_word option) options one (sym (ap option_word (one_of_one option other second)) ∙ sym same) apart.0 further)
    by behind (inr further) (inr more) = behind further more same
