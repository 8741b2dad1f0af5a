-- The texts of an edit, as lists of ASCII codes.
use Rattle.std.specs.Prelude.{◌≡◌, ℕ, ◌≤◌, Bool, true, ◌||◌, ◌&&◌, nat_le, ◌==◌, List, length, All}

-- an ASCII letter, a digit, and a character from space to tilde
abbrev pub is_letter : ℕ → Bool
is_letter code = (nat_le 65 code && nat_le code 90) || (nat_le 97 code && nat_le code 122)

abbrev pub is_digit : ℕ → Bool
is_digit code = nat_le 48 code && nat_le code 57

abbrev pub is_printed : ℕ → Bool
is_printed code = nat_le 32 code && nat_le code 126

-- initials are 1 to 8 letters
pub record AreInitials (text : List ℕ) : Type 0 where
  pub shortest : 1 ≤ length text
  pub longest : length text ≤ 8
  pub letters : All (λ code. is_letter code ≡ true) text

-- a reference is 1 to 40 letters, digits and hyphens
pub record IsReference (text : List ℕ) : Type 0 where
  pub shortest : 1 ≤ length text
  pub longest : length text ≤ 40
  pub codes : All (λ code. (is_letter code || (is_digit code || (code == 45))) ≡ true) text

-- a comment is at most 200 characters from space to tilde
pub record IsComment (text : List ℕ) : Type 0 where
  pub longest : length text ≤ 200
  pub codes : All (λ code. is_printed code ≡ true) text

-- a name is 1 to 60 characters from space to tilde
pub record IsName (text : List ℕ) : Type 0 where
  pub shortest : 1 ≤ length text
  pub longest : length text ≤ 60
  pub codes : All (λ code. is_printed code ≡ true) text
