-- A name is a text in ASCII.
use Rattle.std.proofs.Common.{◌≡◌, ℕ, ◌<◌, true, List, arith}
use Rattle.std.specs.Str.{IsUtf8}
use Rattle.std.proofs.lemmas.Bool.Decides.{nat_tests}
use Rattle.std.proofs.lemmas.Str.{IsUtf8-from_ascii}
use Rattle.std.proofs.lemmas.Str.Ascii.{IsAscii-from_all}
use Rattle.edits.specs.Texts.{IsName, is_printed}

printed_below : (code : ℕ) → is_printed code ≡ true → code < 128
printed_below code e = grind (arith, nat_tests)

pub name_utf8 : (text : List ℕ) → IsName text → IsUtf8 text
name_utf8 text name =
    IsUtf8-from_ascii text (IsAscii-from_all text (λ k d below. printed_below _ (name.codes k d below)))
