-- What is answered for members that are read. Want of memory may come in place of any answer.
use Rattle.std.specs.Prelude.{◌≡◌, ℕ, List, Option, Some, None, Result, Ok, Err}
use Rattle.std.specs.Borrow.{Bor}
use Rattle.edit_bodies.specs.Bodies.{Parts, parts}
use Rattle.edit_bodies.specs.Members.{Reader, required}
use Rattle.edit_bodies.specs.Trees.{Fields, left}
use Rattle.edit_bodies.specs.declared.faults.BodyFault.{BodyFault}
use Rattle.edit_bodies.specs.declared.faults.BodyFault.TheVariants.{Json, Body, NoMemory}
use Rattle.edit_bodies.specs.declared.members.Member.{Member}
use Rattle.edits.specs.declared.content.Edit.{Edit}
use Rattle.serde_json.specs.Data.{Members}
use Rattle.serde_json.specs.Find.{as_str}

-- what was read of the members, and which are left
abbrev pub IsRead : {A : Type 0} → Reader A → Members → Result A BodyFault → Members → Type 0
IsRead read before (Ok value) after = read before ≡ Ok (value, after)
IsRead read before (Err (Body name)) after = read before ≡ Err name
IsRead read before (Err Json) after = ⊥
IsRead read before (Err NoMemory) after = Unit {0}

-- what was found of a member, or that there is nothing, for which that member is named
abbrev pub IsFound : {A : Type 0} → Member → Option A → Result A BodyFault → Type 0
IsFound which found (Ok value) = found ≡ Some value
IsFound which found (Err (Body name)) = (found ≡ None) × (name ≡ which)
IsFound which found (Err Json) = ⊥
IsFound which found (Err NoMemory) = Unit {0}

-- it was taken out of the members
abbrev pub IsTaken : {A : Type 0} → Reader A → Fields → Result A BodyFault → Fields → Type 0
IsTaken read before result after = IsRead read (left before) result (left after)

-- a string, as a text
abbrev pub text_of : Result (Bor (List ℕ)) BodyFault → Result (List ℕ) BodyFault
text_of (Ok text) = Ok text.now
text_of (Err fault) = Err fault

abbrev pub IsTextTaken : Member → Fields → Result (Bor (List ℕ)) BodyFault → Fields → Type 0
IsTextTaken name before result after = IsTaken (required name as_str) before (text_of result) after

-- the edit was made, or the member was found that refuses it
abbrev pub IsMade : Result Parts Member → Result Edit BodyFault → Type 0
IsMade made (Ok edit) = made ≡ Ok (parts edit)
IsMade made (Err (Body name)) = made ≡ Err name
IsMade made (Err Json) = ⊥
IsMade made (Err NoMemory) = Unit {0}
