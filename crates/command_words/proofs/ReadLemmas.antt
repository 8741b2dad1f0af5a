-- What is read while options are taken one after another, and where they are refused.
use Rattle.std.proofs.Common.{◌≡◌, ◌≢◌, ℕ, ◌≤◌, Bool, true, false, length, map, ◌==◌, List, [], ◌∷◌, ◌++◌, refl, sym, ◌∙◌, ap, subst, append_assoc, rules, arith}
use Rattle.std.proofs.lemmas.Bool.Decides.{nat_tests}
use Rattle.std.proofs.lemmas.List.{length-append, length-map, map-append}
use Rattle.std.proofs.lemmas.List.Sorted.{length_permutation}
use Rattle.command_words.specs.Words.{Asked, Init, Batch, Serve, Stations, Trial, Import, Daily, Water, Notes, Migrate, Given, AreOptions, StandsFirst, options_of}
use Rattle.command_words.specs.Reading.{AreNoCommands, NoneStandsFirst, given_by}
use Rattle.command_words.specs.declared.options.CommandOption.{CommandOption}
use Rattle.command_words.proofs.OptionLemmas.{one_option, no_empty_option}

-- these options were read of the words, and these words are left
pub record IsReadTo (words : List (List ℕ)) (read : List Given) (rest : List (List ℕ)) : Type 0 where
  pub joins : (after : List Given) → AreOptions after rest → AreOptions (read ++ after) words
  pub splits : (all : List Given) → AreOptions all words → (after : List Given) × (all ≡ read ++ after) × AreOptions after rest

-- what is left of the options behind one that stands first
behind_one : (option : Given) (rest behind : List (List ℕ)) (after : List Given) → StandsFirst option rest behind
    → AreOptions after rest → (more : List Given) × (after ≡ option ∷ more) × AreOptions more behind
behind_one option rest behind [] h k = absurd (no_empty_option option h.0 behind (sym k ∙ h.1) h.2)
behind_one option rest behind (other ∷ more) h k =
    let one = one_option other option k.1.0 h.0 k.0 behind (sym k.1.1 ∙ h.1) k.1.2 h.2 in
    (more, ap (λ (o : Given). o ∷ more) one.0, subst (AreOptions more) one.1 k.2)

-- one option is read
pub one_read : (words : List (List ℕ)) (read : List Given) (rest : List (List ℕ)) (option : Given) (behind : List (List ℕ))
    → IsReadTo words read rest → StandsFirst option rest behind → IsReadTo words (read ++ (option ∷ [])) behind
one_read words read rest option behind so_far first = record {
  joins = λ after k.
      subst (λ (all : List Given). AreOptions all words) (sym (append_assoc read (option ∷ []) after))
      (so_far.joins (option ∷ after) (behind, first, k));
  splits = λ all k.
      let parts = so_far.splits all k in
      let left = behind_one option rest behind parts.0 first parts.2 in
      let whole : all ≡ read ++ (option ∷ left.0) = parts.1 ∙ ap (λ (l : List Given). read ++ l) left.1 in
      (left.0, whole ∙ sym (append_assoc read (option ∷ []) left.0), left.2);
}

-- all is read
pub all_read : (words : List (List ℕ)) (read : List Given) (rest : List (List ℕ)) → IsReadTo words read rest → rest ≡ []
    → AreOptions read words
all_read words read rest so_far e =
    let same : read ++ [] ≡ read = search rules in
    subst (λ (l : List Given). AreOptions l words) same (so_far.joins [] e)

no_first : (rest : List (List ℕ)) (after : List Given) → rest ≢ [] → NoneStandsFirst rest → AreOptions after rest → ⊥
no_first rest [] some none h = some h
no_first rest (option ∷ more) some none h = none option h.0 h.1

-- where no option stands first, the words are no command's
pub none_first : (words : List (List ℕ)) (read : List Given) (rest : List (List ℕ)) → IsReadTo words read rest → rest ≢ []
    → NoneStandsFirst rest → AreNoCommands words
none_first words read rest so_far some none = λ options asked are its.
    let parts = so_far.splits options are in
    no_first rest parts.0 some none parts.2

-- a command has eight options at most
few : (asked : Asked) → length (options_of asked) ≤ 8
few (Init name) = omega arith
few (Batch name workers) = omega arith
few (Serve name port workers connections) = omega arith
few (Stations name) = omega arith
few (Trial number) = omega arith
few (Import order) = omega arith
few (Daily order) = omega arith
few (Water order) = omega arith
few (Notes order) = omega arith
few (Migrate from to) = omega arith

-- so where one more follows eight, the words are no command's
pub one_more : (words : List (List ℕ)) (read : List Given) (rest : List (List ℕ)) (option : Given) (behind : List (List ℕ))
    → IsReadTo words read rest → StandsFirst option rest behind → length read ≡ 8 → AreNoCommands words
one_more words read rest option behind so_far first eight = λ options asked are its.
    let parts = so_far.splits options are in
    let left = behind_one option rest behind parts.0 first parts.2 in
    let whole : options ≡ read ++ (option ∷ left.0) = parts.1 ∙ ap (λ (l : List Given). read ++ l) left.1 in
    omega (
      arith,
      few asked,
      length_permutation (options ++ its.0) (options_of asked) its.2,
      length-append options its.0,
      ap (length {A = Given}) whole,
      length-append read (option ∷ left.0),
      eight,
    )

-- one is pushed behind those that were read
pub one_pushed : (words : List (List ℕ)) (read : List CommandOption) (rest : List (List ℕ)) (option : CommandOption) (behind : List (List ℕ)) (now : List CommandOption)
    → now ≡ read ++ (option ∷ []) → IsReadTo words (map given_by read) rest → StandsFirst (given_by option) rest behind
    → IsReadTo words (map given_by now) behind
one_pushed words read rest option behind now is so_far first =
    subst (λ (l : List Given). IsReadTo words l behind) (sym (ap (map given_by) is ∙ map-append given_by read (option ∷ [])))
    (one_read words (map given_by read) rest (given_by option) behind so_far first)

-- eight are read
pub full : (read : List CommandOption) (tested : Bool) → tested ≡ (length read == 8) → tested ≡ true → length (map given_by read) ≡ 8
full read tested is holds =
    let eight : length read ≡ 8 = grind (arith, nat_tests) in
    length-map read given_by ∙ eight

-- whether words are left
pub words_left : {X Y : Type 0} (f : X → Y) (rest : List X) (empty : Bool) → empty ≡ (length rest == 0) → empty ≡ false → map f rest ≢ []
words_left f [] empty is some e = cc
words_left f (word ∷ words) empty is some e = cc

tested_zero : (n : ℕ) (tested : Bool) → tested ≡ (n == 0) → tested ≡ true → n ≡ 0
tested_zero n tested is holds = grind (arith, nat_tests)

pub no_words_left : {X Y : Type 0} (f : X → Y) (rest : List X) (empty : Bool) → empty ≡ (length rest == 0) → empty ≡ true → map f rest ≡ []
no_words_left f [] empty is none = refl
no_words_left f (word ∷ words) empty is none =
    let zero : length (word ∷ words) ≡ 0 = tested_zero (length (word ∷ words)) empty is none in
    absurd (omega arith)
