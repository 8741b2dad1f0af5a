-- The messages of a stream of bytes, one behind another: each is a head by the grammar that `httparse` states, and then
-- the body that it frames.
use Rattle.std.specs.Prelude.{◌≡◌, ◌⊎◌, ℕ, ◌+◌, ◌<◌, ◌≤◌, Bool, true, false, ◌||◌, ◌==◌, List, [], ◌∷◌, ◌++◌, length, take, ⊤}
use Rattle.std.specs.List.{list_all}
use Rattle.httparse.specs.Grammar.{RequestHead, ReadsRequest, print_request}
use Rattle.wire.specs.declared.limits.TheConstants.{HEAD_BYTES, HEAD_FIELDS}
use Rattle.wire.specs.declared.framing.Frame.{Frame}
use Rattle.wire.specs.declared.framing.Frame.TheVariants as frames
use Rattle.wire.specs.declared.messages.Verb.{Verb}
use Rattle.wire.specs.declared.messages.Message.{Message}
use Rattle.wire.specs.declared.messages.Message.TheVariants as messages
use Rattle.wire.specs.Framing.{verb_of, frame_of, is_good, body_length}

-- as many bytes of the rest as a head may have begin with this head, which has no more fields than it may have
abbrev pub HasHead : List ℕ → RequestHead → Type 0
HasHead rest head = (behind : List ℕ) × ReadsRequest (take HEAD_BYTES rest) head behind × (length head.fields ≤ HEAD_FIELDS)

-- no head stands in these bytes as far as they go
abbrev pub HasNoHead : List ℕ → Type 0
HasNoHead bytes = (head : RequestHead) → ¬ (HasHead bytes head)

-- only CR and LF
abbrev pub is_blank : List ℕ → Bool
is_blank bytes = list_all (λ b. b == 13 || b == 10) bytes

-- how many bytes a head has with its body
abbrev pub whole_length : RequestHead → ℕ
whole_length head = length (print_request head) + body_length (frame_of head)

-- the rest is this head, which frames a body, then this body, whole, and then the bytes after it
pub record IsWhole (rest : List ℕ) (head : RequestHead) (body after : List ℕ) : Type 0 where
  pub begins : HasHead rest head
  pub framed : is_good (frame_of head) ≡ true
  pub counted : length body ≡ body_length (frame_of head)
  pub splits : rest ≡ print_request head ++ (body ++ after)

-- What is told of a head with this frame and of its body: the request, but for want of memory, or that no length is given
-- where one is needed, or that the body was too long to be taken.
abbrev pub IsToldAs : Frame → RequestHead → List ℕ → Message → Type 0
IsToldAs (frames.Body len) head body message =
    (message ≡ messages.Request (verb_of head.method) head.target body) ⊎ (message ≡ messages.NoMemory)
IsToldAs frames.NoLength head body message = message ≡ messages.NoLength
IsToldAs (frames.TooLarge len) head body message = message ≡ messages.TooLarge
IsToldAs frames.Ill head body message = ⊥

-- the rest is this message and then the bytes after it
abbrev pub IsMessage : List ℕ → Message → List ℕ → Type 0
IsMessage rest message after =
    (head : RequestHead) × (body : List ℕ) × IsWhole rest head body after × IsToldAs (frame_of head) head body message

-- The rest is neither blank nor begins with a message: no head stands at its front, or one that is ill framed, or the
-- rest ends within the body.
pub record IsMalformed (rest : List ℕ) : Type 0 where
  pub visible : is_blank rest ≡ false
  pub cut : (head : RequestHead) → HasHead rest head → is_good (frame_of head) ≡ true → length rest < whole_length head

-- the bytes are these messages, one behind another, and then the rest
abbrev pub AreMessages : List ℕ → List Message → List ℕ → Type 0
AreMessages bytes [] rest = bytes ≡ rest
AreMessages bytes (message ∷ messages) rest = (after : List ℕ) × IsMessage bytes message after × AreMessages after messages rest

-- nothing that can be read follows: the rest is blank or malformed
abbrev pub IsLast : List ℕ → Type 0
IsLast rest = (is_blank rest ≡ true) ⊎ IsMalformed rest

-- there was no memory for a request
abbrev pub IsInPlaceOf : Message → Message → Type 0
IsInPlaceOf message other =
    (message ≡ messages.NoMemory) × (verb : Verb) × (target : List ℕ) × (body : List ℕ) × (other ≡ messages.Request verb target body)

-- the same message, but for want of memory
abbrev pub IsLike : Message → Message → Type 0
IsLike message other = (message ≡ other) ⊎ (IsInPlaceOf message other ⊎ IsInPlaceOf other message)

-- the same messages, but for want of memory
abbrev pub AreLike : List Message → List Message → Type 0
AreLike [] [] = ⊤
AreLike [] (other ∷ others) = ⊥
AreLike (message ∷ messages) [] = ⊥
AreLike (message ∷ messages) (other ∷ others) = IsLike message other × AreLike messages others

-- a rest begins with at most one head and body
abbrev pub WholesAreUnique : Type 0
WholesAreUnique =
    (rest : List ℕ) (head other : RequestHead) (body another after behind : List ℕ)
    → IsWhole rest head body after → IsWhole rest other another behind → (head ≡ other) × (body ≡ another) × (after ≡ behind)

-- and so with at most one message, but for want of memory
abbrev pub MessagesAreUnique : Type 0
MessagesAreUnique =
    (rest : List ℕ) (message other : Message) (after behind : List ℕ)
    → IsMessage rest message after → IsMessage rest other behind → IsLike message other × (after ≡ behind)

-- a list of bytes is messages and a last rest in one way only
abbrev pub ReadingIsUnique : Type 0
ReadingIsUnique =
    (input : List ℕ) (messages others : List Message) (rest other : List ℕ)
    → AreMessages input messages rest → IsLast rest → AreMessages input others other → IsLast other
    → AreLike messages others × (rest ≡ other)

-- a rest that begins with a message is neither blank nor malformed, and one that is malformed is not blank
pub record KindsAreApart (rest : List ℕ) : Type 0 where
  pub message_not_blank : (message : Message) (after : List ℕ) → IsMessage rest message after → ¬ (is_blank rest ≡ true)
  pub message_not_malformed : (message : Message) (after : List ℕ) → IsMessage rest message after → ¬ (IsMalformed rest)
  pub malformed_not_blank : IsMalformed rest → ¬ (is_blank rest ≡ true)
