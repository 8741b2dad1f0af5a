-- Members that are taken out of an object, and strings that are read of them.
use Rattle.std.proofs.Common.{◌≡◌, ℕ, List, Option, Some, None, option_and_then, option_map, Bor, Result, Ok, Err, refl, sym, ap, ◌∙◌}
use Rattle.std.specs.Option.{ok_or}
use Rattle.edit_bodies.specs.Answers.{IsFound, IsRead, text_of}
use Rattle.edit_bodies.specs.Grammars.{string_of}
use Rattle.edit_bodies.specs.Members.{without, found_or, optional, read_or, required, member_text}
use Rattle.edit_bodies.specs.declared.faults.BodyFault.{BodyFault}
use Rattle.edit_bodies.specs.declared.faults.BodyFault.TheVariants.{Json, Body, NoMemory}
use Rattle.edit_bodies.specs.declared.members.Member.{Member}
use Rattle.serde_json.specs.Data.{Data, Members}
use Rattle.serde_json.specs.Find.{as_str, get_member}

-- what a grammar finds of a member is what is read of it
module _ {A : Type 0} (which : Member) (grammar : Data → Option A) (before after : Members) (rest : after ≡ without (member_text which) before) where
  abbrev there : Option A
  there = option_and_then grammar (get_member (member_text which) before)

  pub taken : (found : Option A) → found ≡ there → IsRead (required which grammar) before (ok_or found (Body which)) after
  taken None is = ap (λ (o : Option A). found_or which o (without (member_text which) before)) (sym is)
  taken (Some x) is = ap (λ (o : Option A). found_or which o (without (member_text which) before)) (sym is) ∙ ap (λ (ms : Members). Ok (x, ms)) (sym rest)

-- and one that may be missing is read as it is found
pub optional_taken : {A : Type 0} (which : Member) (missing : A) (grammar : Data → Option A) (before after : Members) → after ≡ without (member_text which) before
    → (result : Result A BodyFault) → IsFound which (read_or missing grammar (get_member (member_text which) before)) result → IsRead (optional which missing grammar) before result after
optional_taken which missing grammar before after rest (Ok x) is =
    ap (λ o. found_or which o (without (member_text which) before)) is ∙ ap (λ (ms : Members). Ok (x, ms)) (sym rest)
optional_taken which missing grammar before after rest (Err (Body other)) is =
    ap (λ o. found_or which o (without (member_text which) before)) is.0 ∙ ap Err (sym is.1)
optional_taken which missing grammar before after rest (Err Json) is = is
optional_taken which missing grammar before after rest (Err NoMemory) is = tt

-- a string likewise
pub text_taken : (which : Member) (before after : Members) → after ≡ without (member_text which) before → (found : Option (Bor (List ℕ)))
    → option_map (λ (text : Bor (List ℕ)). text.now) found ≡ option_and_then as_str (get_member (member_text which) before)
    → IsRead (required which as_str) before (text_of (ok_or found (Body which))) after
text_taken which before after rest None is = taken which as_str before after rest None is
text_taken which before after rest (Some text) is = taken which as_str before after rest (Some text.now) is

module _ {A : Type 0} (which : Member) (read : List ℕ → Option A) where
  string_found : (p : Option (List ℕ)) (rest : Members) (text : List ℕ) (after : Members) → found_or which p rest ≡ Ok (text, after) → found_or which (option_and_then read p) rest ≡ found_or which (read text) after
  string_found None rest text after e = absurd cc
  string_found (Some s) rest text after e =
      let same : (s, rest) ≡ (text, after) = cc in
      ap (λ (q : List ℕ × Members). found_or which (read q.0) q.1) same

  string_missing : (p : Option (List ℕ)) (rest : Members) (other : Member) → found_or which p rest ≡ Err other → found_or which (option_and_then read p) rest ≡ Err other
  string_missing None rest other e = let same : which ≡ other = cc in ap Err same
  string_missing (Some s) rest other e = absurd cc

  of_value : (o : Option Data) → option_and_then (string_of read) o ≡ option_and_then read (option_and_then as_str o)
  of_value None = refl
  of_value (Some d) = refl

  abbrev value_at : Members → Option Data
  value_at before = get_member (member_text which) before

  -- a string that is there is read
  read_there : (before after : Members) (text : List ℕ) → required which as_str before ≡ Ok (text, after) → required which (string_of read) before ≡ found_or which (read text) after
  read_there before after text there =
      ap (λ o. found_or which o (without (member_text which) before)) (of_value (value_at before)) ∙ string_found (option_and_then as_str (value_at before)) (without (member_text which) before) text after there

  pub string_read : (before after : Members) (text : List ℕ) (found : Option A) → required which as_str before ≡ Ok (text, after) → found ≡ read text
      → IsRead (required which (string_of read)) before (ok_or found (Body which)) after
  string_read before after text None there is = read_there before after text there ∙ ap (λ o. found_or which o after) (sym is)
  string_read before after text (Some x) there is = read_there before after text there ∙ ap (λ o. found_or which o after) (sym is)

  -- as it is found, where that may want memory
  pub string_found_so : (before after : Members) (text : List ℕ) (result : Result A BodyFault) → required which as_str before ≡ Ok (text, after) → IsFound which (read text) result
      → IsRead (required which (string_of read)) before result after
  string_found_so before after text (Ok x) stated is = read_there before after text stated ∙ ap (λ o. found_or which o after) is
  string_found_so before after text (Err (Body other)) stated is = read_there before after text stated ∙ ap (λ o. found_or which o after) is.0 ∙ ap Err (sym is.1)
  string_found_so before after text (Err Json) stated is = is
  string_found_so before after text (Err NoMemory) stated is = tt

  -- and one that is missing is not
  pub string_not_read : (before after : Members) (fault : BodyFault) → IsRead (required which as_str) before (Err fault) after
      → IsRead (required which (string_of read)) before (Err fault) after
  string_not_read before after Json e = e
  string_not_read before after NoMemory e = e
  string_not_read before after (Body other) e =
      ap (λ o. found_or which o (without (member_text which) before)) (of_value (value_at before)) ∙ string_missing (option_and_then as_str (value_at before)) (without (member_text which) before) other e
