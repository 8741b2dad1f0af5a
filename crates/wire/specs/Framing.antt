-- How a request's fields frame its body (RFC 9112, section 6): by its length alone, and never in pieces.
use Rattle.std.specs.Prelude.{ℕ, Bool, true, false, ◌&&◌, nat_le, nat_lt, List, [], ◌∷◌, length, map, filter, codes, bytes_eq, if◌then◌else◌}
use Rattle.std.specs.List.{list_all, list_any}
use Rattle.std.specs.Char.{is_ascii_digit}
use Rattle.std.specs.Str.{str_eq_ignore_ascii_case}
use Rattle.std.specs.Str.Parse.{digits_value}
use Rattle.httparse.specs.Grammar.{RequestHead}
use Rattle.httparse.specs.Spans.{name_and_value}
use Rattle.wire.specs.declared.limits.TheConstants.{BODY_BYTES, LENGTH_DIGITS}
use Rattle.wire.specs.declared.framing.Length.{Length}
use Rattle.wire.specs.declared.framing.Length.TheVariants as lengths
use Rattle.wire.specs.declared.framing.Frame.{Frame}
use Rattle.wire.specs.declared.framing.Frame.TheVariants as frames
use Rattle.wire.specs.declared.messages.Verb.{Verb}
use Rattle.wire.specs.declared.messages.Verb.TheVariants.{Get, Post, Other}

-- the verb that a method's bytes name
abbrev pub verb_of : List ℕ → Verb
verb_of method = if bytes_eq method (codes "GET") then Get else (if bytes_eq method (codes "POST") then Post else Other)

-- the field, which is a name and a value, has this name, in capitals or not
abbrev pub is_named : List ℕ → List ℕ × List ℕ → Bool
is_named name field = str_eq_ignore_ascii_case field.0 name

-- the values of the fields of this name, in order
abbrev pub values_of : List ℕ → List (List ℕ × List ℕ) → List (List ℕ)
values_of name fields = map (λ (field : List ℕ × List ℕ). field.1) (filter (is_named name) fields)

-- there is a digit, not too many of them, and nothing else
abbrev pub is_length : List ℕ → Bool
is_length value = nat_le 1 (length value) && nat_le (length value) LENGTH_DIGITS && list_all is_ascii_digit value

-- the length that a value states
abbrev pub value_length : List ℕ → Length
value_length value = if is_length value then lengths.Given (digits_value 10 value) else lengths.Ill

-- the body's length that these values state: one value states it, none or several don't
abbrev pub stated_length : List (List ℕ) → Length
stated_length [] = lengths.Absent
stated_length (value ∷ []) = value_length value
stated_length (value ∷ other ∷ values) = lengths.Ill

-- A body of the stated length, which may be too long to be taken. Where none is stated there is no body, but a POST has
-- to state one.
abbrev pub frame_by : Verb → Length → Frame
frame_by verb (lengths.Given len) = if nat_lt BODY_BYTES len then frames.TooLarge len else frames.Body len
frame_by verb lengths.Ill = frames.Ill
frame_by Post lengths.Absent = frames.NoLength
frame_by Get lengths.Absent = frames.Body 0
frame_by Other lengths.Absent = frames.Body 0

-- what the fields of a request of this verb frame
abbrev pub framing : Verb → List (List ℕ × List ℕ) → Frame
framing verb fields =
    if list_any (is_named (codes "transfer-encoding")) fields then frames.Ill
    else frame_by verb (stated_length (values_of (codes "content-length") fields))

-- what the head's fields frame
abbrev pub frame_of : RequestHead → Frame
frame_of head = framing (verb_of head.method) (map name_and_value head.fields)

-- whether it is told where the body ends
abbrev pub is_good : Frame → Bool
is_good (frames.Body len) = true
is_good frames.NoLength = true
is_good (frames.TooLarge len) = true
is_good frames.Ill = false

-- how many bytes the body has
abbrev pub body_length : Frame → ℕ
body_length (frames.Body len) = len
body_length frames.NoLength = 0
body_length (frames.TooLarge len) = len
body_length frames.Ill = 0
