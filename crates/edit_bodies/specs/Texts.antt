-- The texts of an edit's members, as tests: of what `edits` and `fixed_units` say they are.
use Rattle.std.specs.Prelude.{ℕ, Bool, ◌&&◌, ◌||◌, ◌==◌, nat_le, List, length}
use Rattle.std.specs.List.{list_all}
use Rattle.std.specs.Char.{is_ascii_digit}
use Rattle.edits.specs.Texts.{is_letter, is_digit, is_printed}
use Rattle.fixed_units.specs.RoundingArray.{most_decimals}

-- a text of so many characters at least and at most, each of a kind
abbrev pub is_text_of : ℕ → ℕ → (ℕ → Bool) → List ℕ → Bool
is_text_of fewest most kind text = nat_le fewest (length text) && nat_le (length text) most && list_all kind text

-- the initials of a person, a reference, a name, a comment
abbrev pub are_initials : List ℕ → Bool
are_initials text = is_text_of 1 8 is_letter text

abbrev pub is_reference : List ℕ → Bool
is_reference text = is_text_of 1 40 (λ code. is_letter code || (is_digit code || (code == 45))) text

abbrev pub is_name : List ℕ → Bool
is_name text = is_text_of 1 60 is_printed text

abbrev pub is_comment : List ℕ → Bool
is_comment text = is_text_of 0 200 is_printed text

-- a rounding array
abbrev pub is_array : List ℕ → Bool
is_array text = is_text_of 10 10 is_ascii_digit text && nat_le (most_decimals text) 6
