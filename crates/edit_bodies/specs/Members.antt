-- The members of an object, taken out one after another: the first that is missing or ill formed is the one that is named.
use Rattle.std.specs.Prelude.{ℕ, List, codes, bytes_eq, Bool, true, false, Option, Some, None, option_and_then, Result, Ok, Err, if◌then◌else◌}
use Rattle.serde_json.specs.Data.{Data, Members, no_members, member}
use Rattle.serde_json.specs.Find.{get_member}
use Rattle.edit_bodies.specs.declared.members.Member.{Member}
use Rattle.edit_bodies.specs.declared.members.Member.TheVariants as named

-- the name of a member as a body and a refusal have it
abbrev pub member_text : Member → List ℕ
member_text named.Kind = codes "kind"
member_text named.By = codes "by"
member_text named.Ref = codes "ref"
member_text named.Site = codes "site"
member_text named.Name = codes "name"
member_text named.Zone = codes "zone"
member_text named.Gap = codes "gap"
member_text named.StageArray = codes "stage_array"
member_text named.DischargeArray = codes "discharge_array"
member_text named.Readings = codes "readings"
member_text named.To = codes "to"
member_text named.Flag = codes "flag"
member_text named.Set = codes "set"
member_text named.At = codes "at"
member_text named.Points = codes "points"
member_text named.Prorate = codes "prorate"
member_text named.Rating = codes "rating"
member_text named.Rows = codes "rows"
member_text named.From = codes "from"
member_text named.Until = codes "until"
member_text named.Day = codes "day"
member_text named.Number = codes "number"
member_text named.Gage = codes "gage"
member_text named.Discharge = codes "discharge"
member_text named.Grade = codes "grade"
member_text named.Decision = codes "decision"
member_text named.Least = codes "least"
member_text named.Comment = codes "comment"
member_text named.Further = codes "?"

-- the members but the one of that name
abbrev pub without : List ℕ → Members → Members
without name no_members = no_members
without name (member key value others) = if bytes_eq name key then others else member key value (without name others)

-- what is read of an object's members: a value and the members that are left, or the first that is missing or ill formed
abbrev pub Reader : Type 0 → Type 0
Reader A = Members → Result (A × Members) Member

-- what is read goes into what is read of the members that are left
abbrev pub and_then : {A B : Type 0} → Result (A × Members) Member → (A → Reader B) → Result (B × Members) Member
and_then (Ok found) next = next found.0 found.1
and_then (Err name) next = Err name

infixl 10 ◌>>=◌
abbrev pub ◌>>=◌ : {A B : Type 0} → Reader A → (A → Reader B) → Reader B
(first >>= next) members = and_then (first members) next

-- nothing more is read
abbrev pub done : {A : Type 0} → A → Reader A
done value members = Ok (value, members)

-- a value that is there, with the members that are left, or else the member that is named
abbrev pub found_or : {A : Type 0} → Member → Option A → Members → Result (A × Members) Member
found_or which None rest = Err which
found_or which (Some value) rest = Ok (value, rest)

-- the member of a name, which has to be there and of its grammar
abbrev pub required : {A : Type 0} → Member → (Data → Option A) → Reader A
required name grammar members =
    found_or name (option_and_then grammar (get_member (member_text name) members)) (without (member_text name) members)

-- what is read of a value, or what stands for a missing one
abbrev pub read_or : {A : Type 0} → A → (Data → Option A) → Option Data → Option A
read_or missing grammar None = Some missing
read_or missing grammar (Some value) = grammar value

-- the member of a name, which has to be of its grammar where it is there
abbrev pub optional : {A : Type 0} → Member → A → (Data → Option A) → Reader A
optional name missing grammar members =
    found_or name (read_or missing grammar (get_member (member_text name) members)) (without (member_text name) members)

-- no member is left
abbrev pub is_none_left : Members → Bool
is_none_left no_members = true
is_none_left (member key value others) = false

-- a value behind which no member is left
abbrev pub closed : {A : Type 0} → Result (A × Members) Member → Result A Member
closed (Ok found) = if is_none_left found.1 then Ok found.0 else Err named.Further
closed (Err name) = Err name

-- what is read of an object that has no further member
abbrev pub whole : {A : Type 0} → Reader A → Members → Result A Member
whole read members = closed (read members)
