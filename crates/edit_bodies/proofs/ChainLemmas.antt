-- Members that are read one after another.
use Rattle.std.proofs.Common.{◌≡◌, Bool, true, false, Some, Result, Ok, Err, if◌then◌else◌, sym, ap, ◌∙◌, subst}
use Rattle.edit_bodies.specs.Answers.{IsRead, IsMade}
use Rattle.edit_bodies.specs.Bodies.{Parts, edit_row, edit_in}
use Rattle.edit_bodies.specs.Members.{Reader, and_then, ◌>>=◌, closed, is_none_left}
use Rattle.edit_bodies.specs.declared.faults.BodyFault.{BodyFault}
use Rattle.edit_bodies.specs.declared.faults.BodyFault.TheVariants.{Json, Body, NoMemory}
use Rattle.edit_bodies.specs.declared.members.Member.TheVariants.{Further}
use Rattle.edits.specs.declared.content.Edit.{Edit}
use Rattle.serde_json.specs.Data.{Members}

module _ {A B : Type 0} (first : Reader A) (next : A → Reader B) (before middle after : Members) where
  -- what is read of the rest is read of the whole
  pub read_on : (value : A) (result : Result B BodyFault) → IsRead first before (Ok value) middle → IsRead (next value) middle result after
      → IsRead (first >>= next) before result after
  read_on value (Ok more) e rest = ap (λ r. and_then r next) e ∙ rest
  read_on value (Err (Body which)) e rest = ap (λ r. and_then r next) e ∙ rest
  read_on value (Err Json) e rest = rest
  read_on value (Err NoMemory) e rest = rest

  -- and what stops the first stops the whole
  pub stopped : (fault : BodyFault) → IsRead first before (Err fault) middle → IsRead (first >>= next) before (Err fault) after
  stopped (Body which) e = ap (λ r. and_then r next) e
  stopped Json e = e
  stopped NoMemory e = e

module _ (before after : Members) where
  -- what is read of a whole object
  pub made : (edit : Parts) → edit_row before ≡ Ok (edit, after) → is_none_left after ≡ true → edit_in (Some before) ≡ Ok edit
  made edit e none = ap closed e ∙ ap (λ (b : Bool). if b then Ok edit else Err Further) none

  pub further : (edit : Parts) → edit_row before ≡ Ok (edit, after) → is_none_left after ≡ false → edit_in (Some before) ≡ Err Further
  further edit e some = ap closed e ∙ ap (λ (b : Bool). if b then Ok edit else Err Further) some

  pub not_made : (fault : BodyFault) (result : Result Edit BodyFault) → result ≡ Err fault → IsRead edit_row before (Err fault) after → IsMade (edit_in (Some before)) result
  not_made fault result is e = subst (λ r. IsMade (edit_in (Some before)) r) (sym is) (by fault e)
    where
      by : (fault : BodyFault) → IsRead edit_row before (Err fault) after → IsMade (edit_in (Some before)) (Err fault)
      by (Body which) e = ap closed e
      by Json e = e
      by NoMemory e = e

-- the same answer in other words
pub same_answer : {A : Type 0} (read : Reader A) (before after : Members) (fault : BodyFault) (result : Result A BodyFault) → result ≡ Err fault → IsRead read before (Err fault) after → IsRead read before result after
same_answer read before after fault result is e = subst (λ r. IsRead read before r after) (sym is) e
