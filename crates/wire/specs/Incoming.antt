-- What a reader of messages holds, and what it answers for the rest of a stream.
use Rattle.std.specs.Prelude.{◌≡◌, ◌≢◌, ◌⊎◌, ℕ, ◌+◌, ◌-◌, ◌<◌, ◌≤◌, true, false, List, [], ◌++◌, length, All, Option, IfSome, IsSomeAnd, ⊤}
use Rattle.httparse.specs.Grammar.{RequestHead, MayBecomeRequest}
use Rattle.devices.specs.Faults.{Rose}
use Rattle.wire.specs.Framing.{frame_of, is_good}
use Rattle.wire.specs.Messages.{is_blank, whole_length, HasHead, HasNoHead, IsMessage, IsMalformed}
use Rattle.wire.specs.declared.limits.TheConstants.{HEAD_BYTES, STREAM_BYTES, BLOCK_BYTES}
use Rattle.wire.specs.declared.messages.Message.{Message}
use Rattle.wire.specs.declared.messages.Message.TheVariants as messages

-- the bytes that were taken and not given yet, and how many bytes of the stream stand before them
pub record Held : Type 0 where
  pub ahead : List ℕ
  pub offset : ℕ

-- how many bytes were taken
abbrev pub taken : Held → ℕ
taken held = held.offset + length held.ahead

-- the message at the front of the rest is passed, and the offset with it
abbrev pub Passes : List ℕ → ℕ → Message → List ℕ → ℕ → Type 0
Passes rest offset message after offset' = IsMessage rest message after × (offset + length rest ≡ offset' + length after)

-- No line that is ended rules a head out: but for bytes behind the last line feed there is CR and LF alone, or what a
-- head may begin with.
abbrev pub MayBegin : List ℕ → Type 0
MayBegin bytes =
    (front : List ℕ) × (behind : List ℕ) × (bytes ≡ front ++ behind) × All (λ b. b ≢ 10) behind
    × ((is_blank front ≡ true) ⊎ MayBecomeRequest front)

-- No head stands in these bytes, one may come, and they are not as many as a head may have unless they are CR and LF.
pub record AwaitsHead (seen : List ℕ) : Type 0 where
  pub none : HasNoHead seen
  pub short : is_blank seen ≡ false → length seen < HEAD_BYTES
  pub begins : MayBegin seen

-- a head stands in these bytes, and its body is not whole
abbrev pub AwaitsBody : List ℕ → Type 0
AwaitsBody seen =
    (head : RequestHead) × HasHead seen head × (is_good (frame_of head) ≡ true) × (length seen < whole_length head)

-- these bytes don't settle which message comes
abbrev pub IsUnsettled : List ℕ → Type 0
IsUnsettled seen = AwaitsHead seen ⊎ AwaitsBody seen

-- of the rest these bytes were taken, which settle nothing
abbrev pub IsUnread : List ℕ → List ℕ → List ℕ → Type 0
IsUnread rest seen left = (rest ≡ seen ++ left) × IsUnsettled seen

-- What was taken of the rest was needed: as the source was asked last nothing was settled, and it was asked for no more
-- than a block.
abbrev pub IsNeeded : List ℕ → List ℕ → Type 0
IsNeeded rest left =
    (seen : List ℕ) × (piece : List ℕ) × IsUnread rest seen (piece ++ left) × (length piece ≤ BLOCK_BYTES)

-- the rest stays for the next call, but for CR and LF at its front
abbrev pub Stays : List ℕ → ℕ → List ℕ → ℕ → Type 0
Stays rest offset after offset' =
    (blank : List ℕ) × (is_blank blank ≡ true) × (rest ≡ blank ++ after) × (offset' ≡ offset + length blank)

-- these bytes of the rest were taken and settle nothing; where no head stands in them the rest stays
pub record IsStopped (rest : List ℕ) (offset : ℕ) (seen after left : List ℕ) (offset' : ℕ) : Type 0 where
  pub unread : IsUnread rest seen left
  pub stays : HasNoHead seen → Stays rest offset after offset'

-- The message for the rest of a stream that begins at the offset; then what is left of the rest, what of
-- it the source still has, and the new offset. A source that fails and the limit on a stream leave bytes
-- that settle nothing.
abbrev pub IsNext : List ℕ → ℕ → Message → List ℕ → List ℕ → ℕ → Type 0
IsNext rest offset (messages.Request verb target body) after left offset' =
    Passes rest offset (messages.Request verb target body) after offset'
IsNext rest offset messages.NoLength after left offset' = Passes rest offset messages.NoLength after offset'
IsNext rest offset messages.TooLarge after left offset' = Passes rest offset messages.TooLarge after offset'
IsNext rest offset messages.NoMemory after left offset' = Passes rest offset messages.NoMemory after offset'
IsNext rest offset messages.End after left offset' = (is_blank rest ≡ true) × (left ≡ [])
IsNext rest offset (messages.Malformed at) after left offset' = IsMalformed rest × (at ≡ offset)
IsNext rest offset messages.Long after left offset' =
    (seen : List ℕ) × IsStopped rest offset seen after left offset' × (offset + length seen ≡ STREAM_BYTES)
IsNext rest offset messages.Failed after left offset' =
    (seen : List ℕ) × IsStopped rest offset seen after left offset'

-- what a reader answers where the source tells the bytes that are left
abbrev pub Answers : Held → Option (List ℕ) → Message → Held → Option (List ℕ) → Type 0
Answers old before message new after =
    IfSome before (λ b. IsSomeAnd after (λ a.
    IsNext (old.ahead ++ b) old.offset message (new.ahead ++ a) a new.offset))

-- what a reader takes of the rest where the source tells the bytes that are left
abbrev pub IsTakenAsNeeded : Held → Option (List ℕ) → Option (List ℕ) → Type 0
IsTakenAsNeeded old before after = IfSome before (λ b. IsSomeAnd after (λ a. IsNeeded (old.ahead ++ b) a))

-- A source that tells what is left is found at its end only where all of it, with the bytes at hand, settles nothing. So
-- nobody who sends bytes that settle a message, and then waits for what is made of it, is waited for.
abbrev pub IsEndedAsNeeded : Held → Option (List ℕ) → ℕ → ℕ → Type 0
IsEndedAsNeeded old left before now = IfSome left (λ b. (now ≡ before) ⊎ IsUnsettled (old.ahead ++ b))

-- no more of a stream is ever taken than may be: where the source tells what is left, the stream from its start is no
-- longer than that and what is left
abbrev pub IsWithinLimit : Held → Option (List ℕ) → Option (List ℕ) → Type 0
IsWithinLimit old before after =
    IfSome before (λ b. IsSomeAnd after (λ a. old.offset + length (old.ahead ++ b) ≤ STREAM_BYTES + length a))

-- no more is held than a block, no more of a stream is taken than may be, and a count of faults does not fall
pub record KeepsBounds (new : Held) (before now : ℕ) : Type 0 where
  pub block : length new.ahead ≤ BLOCK_BYTES
  pub limit : taken new ≤ STREAM_BYTES
  pub counted : before ≤ now

-- a message that another can follow moves the offset on
abbrev pub Proceeds : Held → Message → Held → Type 0
Proceeds old (messages.Request verb target body) new = old.offset < new.offset
Proceeds old messages.NoLength new = old.offset < new.offset
Proceeds old messages.TooLarge new = old.offset < new.offset
Proceeds old messages.NoMemory new = old.offset < new.offset
Proceeds old messages.End new = ⊤
Proceeds old (messages.Malformed at) new = ⊤
Proceeds old messages.Long new = ⊤
Proceeds old messages.Failed new = ⊤

-- the source failed only where its count of faults rose
abbrev pub HasCause : ℕ → ℕ → Message → Type 0
HasCause before now (messages.Request verb target body) = ⊤
HasCause before now messages.NoLength = ⊤
HasCause before now messages.TooLarge = ⊤
HasCause before now messages.NoMemory = ⊤
HasCause before now messages.End = ⊤
HasCause before now (messages.Malformed at) = ⊤
HasCause before now messages.Long = ⊤
HasCause before now messages.Failed = Rose before now

-- a block is so long that a head has room behind what is held; what is held lies in it, and no more of a stream is ever
-- taken than may be
pub record IsBlock (len start end offset : ℕ) : Type 0 where
  pub full : len ≡ BLOCK_BYTES
  pub ordered : start ≤ end
  pub within : end ≤ len
  pub limit : offset + (end - start) ≤ STREAM_BYTES
