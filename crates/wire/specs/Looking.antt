-- What a look at the bytes at hand tells, what asking the source for more does to them, and what passing a message does.
use Rattle.std.specs.Prelude.{◌≡◌, ◌⊎◌, ℕ, ◌+◌, ◌<◌, ◌≤◌, Bool, true, false, List, [], ◌++◌, length, take, drop, Option, IfSome, IsSomeAnd, ⊤}
use Rattle.httparse.specs.Grammar.{RequestHead, print_request}
use Rattle.httparse.specs.Spans.{span_bytes, IsWithin}
use Rattle.devices.specs.Faults.{Rose}
use Rattle.wire.specs.Framing.{verb_of, frame_of, is_good}
use Rattle.wire.specs.Messages.{is_blank, HasHead, IsWhole, IsMalformed}
use Rattle.wire.specs.Incoming.{Held, taken, AwaitsHead, AwaitsBody, IsNeeded}
use Rattle.wire.specs.declared.limits.TheConstants.{HEAD_BYTES, STREAM_BYTES, BLOCK_BYTES}
use Rattle.wire.specs.declared.framing.Head.{Head}
use Rattle.wire.specs.declared.messages.Message.{Message}
use Rattle.wire.specs.declared.messages.Message.TheVariants as messages
use Rattle.wire.specs.declared.looking.Front.{Front}
use Rattle.wire.specs.declared.looking.Front.TheVariants as fronts
use Rattle.wire.specs.declared.framing.Frame.{Frame}
use Rattle.wire.specs.declared.framing.Frame.TheVariants as frames
use Rattle.wire.specs.declared.messages.Verb.{Verb}
use Rattle.wire.specs.declared.passing.Texts.{Texts}
use Rattle.wire.specs.declared.incoming.Filled.{Filled}
use Rattle.wire.specs.declared.incoming.Filled.TheVariants as fills
use Rattle.wire.specs.declared.passing.Passed.{Passed}
use Rattle.wire.specs.declared.passing.Passed.TheVariants as passes

-- the bytes at hand begin with this head, which frames a body, and what was found are its parts
pub record IsFramedAt (ahead : List ℕ) (found : Head) (head : RequestHead) : Type 0 where
  pub positive : 0 < found.len
  pub within : found.len ≤ length ahead
  pub len : found.len ≡ length (print_request head)
  pub target_within : IsWithin found.len found.target
  pub target : span_bytes ahead found.target ≡ head.target
  pub verb : found.verb ≡ verb_of head.method
  pub frame : found.frame ≡ frame_of head
  pub good : is_good (frame_of head) ≡ true
  pub stands : (more : List ℕ) → HasHead (ahead ++ more) head
  pub splits : ahead ≡ print_request head ++ drop found.len ahead

-- as many bytes as a head may have are there, and they are CR and LF
abbrev pub IsBlankWindow : List ℕ → Type 0
IsBlankWindow ahead = (HEAD_BYTES ≤ length ahead) × (is_blank (take HEAD_BYTES ahead) ≡ true)

-- a head that frames a body; none, whatever follows; a window of CR and LF; or fewer bytes than a head may have,
-- which settle nothing
abbrev pub Looks : List ℕ → Front → Type 0
Looks ahead (fronts.Framed found) = (head : RequestHead) × IsFramedAt ahead found head
Looks ahead fronts.Malformed = (more : List ℕ) → IsMalformed (ahead ++ more)
Looks ahead fronts.Blank = IsBlankWindow ahead
Looks ahead fronts.Unfinished = (length ahead < HEAD_BYTES) × AwaitsHead ahead

-- more bytes stand behind those at hand
pub record HasGrown (old new : Held) : Type 0 where
  pub offset : new.offset ≡ old.offset
  pub front : take (length old.ahead) new.ahead ≡ old.ahead
  pub more : length old.ahead < length new.ahead

-- more bytes are at hand, or the same
abbrev pub IsFilled : Held → Filled → Held → Type 0
IsFilled old fills.More new = HasGrown old new
IsFilled old fills.End new = new ≡ old
IsFilled old fills.Long new = (new ≡ old) × (taken old ≡ STREAM_BYTES)
IsFilled old fills.Failed new = new ≡ old

-- the rest of the stream stays the same; at its end the source has nothing
abbrev pub KeepsRest : Held → List ℕ → Filled → Held → List ℕ → Type 0
KeepsRest old before fills.More new after = old.ahead ++ before ≡ new.ahead ++ after
KeepsRest old before fills.End new after = (before ≡ []) × (after ≡ [])
KeepsRest old before fills.Long new after = after ≡ before
KeepsRest old before fills.Failed new after = after ≡ before

-- the same where the source tells the bytes that are left
abbrev pub Keeps : Held → Option (List ℕ) → Filled → Held → Option (List ℕ) → Type 0
Keeps old before filled new after = IfSome before (λ b. IsSomeAnd after (λ a. KeepsRest old b filled new a))

-- the source failed only where its count of faults rose
abbrev pub HasFault : ℕ → ℕ → Filled → Type 0
HasFault before now fills.More = ⊤
HasFault before now fills.End = ⊤
HasFault before now fills.Long = ⊤
HasFault before now fills.Failed = Rose before now

-- the source was found at its end only where that is told
abbrev pub KeepsEnds : ℕ → ℕ → Filled → Type 0
KeepsEnds before now fills.More = now ≡ before
KeepsEnds before now fills.End = ⊤
KeepsEnds before now fills.Long = now ≡ before
KeepsEnds before now fills.Failed = now ≡ before

-- Of a rest so many bytes are passed, and they are added to the text or dropped; or the rest is shorter, and at its end,
-- or cut where as many bytes were taken as may be, or where the source failed.
abbrev pub PassesBytes : ℕ → List ℕ → ℕ → List ℕ → Passed → List ℕ → List ℕ → List ℕ → Type 0
PassesBytes count rest offset before passes.Kept text after left =
    (bytes : List ℕ) × (length bytes ≡ count) × (rest ≡ bytes ++ after) × (text ≡ before ++ bytes)
PassesBytes count rest offset before passes.Dropped text after left =
    (bytes : List ℕ) × (length bytes ≡ count) × (rest ≡ bytes ++ after)
PassesBytes count rest offset before passes.End text after left = (length rest < count) × (left ≡ [])
PassesBytes count rest offset before passes.Long text after left =
    (seen : List ℕ) × (rest ≡ seen ++ left) × (length seen < count) × (offset + length seen ≡ STREAM_BYTES)
PassesBytes count rest offset before passes.Failed text after left =
    (seen : List ℕ) × (rest ≡ seen ++ left) × (length seen < count)

-- the same where the source tells the bytes that are left
abbrev pub PassesBytesOf : ℕ → Held → Option (List ℕ) → List ℕ → Passed → List ℕ → Held → Option (List ℕ) → Type 0
PassesBytesOf count old left before passed text new left' =
    IfSome left (λ b. IsSomeAnd left' (λ a.
    PassesBytes count (old.ahead ++ b) old.offset before passed text (new.ahead ++ a) a))

-- the offset is behind the bytes that were passed
abbrev pub MovesBy : ℕ → Held → Passed → Held → Type 0
MovesBy count old passes.Kept new = new.offset ≡ old.offset + count
MovesBy count old passes.Dropped new = new.offset ≡ old.offset + count
MovesBy count old passes.End new = ⊤
MovesBy count old passes.Long new = ⊤
MovesBy count old passes.Failed new = ⊤

-- what was taken of the rest was needed to pass so many bytes: nothing was, or fewer had been taken when the source was
-- asked last, for no more than a block
abbrev pub IsTakenToPass : ℕ → Held → Option (List ℕ) → Option (List ℕ) → Type 0
IsTakenToPass count old left left' =
    IfSome left (λ b. IsSomeAnd left' (λ a. (b ≡ a)
    ⊎ ((seen : List ℕ) × (piece : List ℕ) × (old.ahead ++ b ≡ seen ++ (piece ++ a)) × (length seen < count)
    × (length piece ≤ BLOCK_BYTES))))

-- the source was found at its end only where all of the rest is shorter
abbrev pub IsEndedToPass : ℕ → Held → Option (List ℕ) → ℕ → ℕ → Type 0
IsEndedToPass count old left before now = IfSome left (λ b. (now ≡ before) ⊎ (length (old.ahead ++ b) < count))

-- A head and its body are passed, and the body is added to the text or dropped; or the rest ends within the body, or is
-- cut there where as many bytes were taken as may be, or where the source failed.
abbrev pub PassesWhole : RequestHead → List ℕ → ℕ → List ℕ → Passed → List ℕ → List ℕ → List ℕ → ℕ → Type 0
PassesWhole head rest offset before passes.Kept text after left offset' =
    (body : List ℕ) × IsWhole rest head body after × (text ≡ before ++ body) × (offset + length rest ≡ offset' + length after)
PassesWhole head rest offset before passes.Dropped text after left offset' =
    (body : List ℕ) × IsWhole rest head body after × (offset + length rest ≡ offset' + length after)
PassesWhole head rest offset before passes.End text after left offset' = IsMalformed rest
PassesWhole head rest offset before passes.Long text after left offset' =
    (seen : List ℕ) × (rest ≡ seen ++ left) × AwaitsBody seen × (offset + length seen ≡ STREAM_BYTES)
PassesWhole head rest offset before passes.Failed text after left offset' =
    (seen : List ℕ) × (rest ≡ seen ++ left) × AwaitsBody seen

-- the same where the source tells the bytes that are left
abbrev pub PassesWholeOf : RequestHead → Held → Option (List ℕ) → List ℕ → Passed → List ℕ → Held → Option (List ℕ) → Type 0
PassesWholeOf head old left before passed text new left' =
    IfSome left (λ b. IsSomeAnd left' (λ a.
    PassesWhole head (old.ahead ++ b) old.offset before passed text (new.ahead ++ a) a new.offset))

-- whether all was passed, and added to the text
abbrev pub is_kept : Passed → Bool
is_kept passes.Kept = true
is_kept passes.Dropped = false
is_kept passes.End = false
is_kept passes.Long = false
is_kept passes.Failed = false

-- what is told of a frame whose body was dropped
abbrev pub told_dropped : Frame → Message
told_dropped (frames.Body count) = messages.NoMemory
told_dropped frames.NoLength = messages.NoLength
told_dropped (frames.TooLarge count) = messages.TooLarge
told_dropped frames.Ill = messages.NoLength

-- what is told of one whose body was kept
abbrev pub told_kept : Frame → Verb → List ℕ → List ℕ → Message
told_kept (frames.Body count) verb target body = messages.Request verb target body
told_kept frames.NoLength verb target body = messages.NoLength
told_kept (frames.TooLarge count) verb target body = messages.TooLarge
told_kept frames.Ill verb target body = messages.NoLength

-- what is told of a head that stands at an offset, as far as it was passed
abbrev pub told_as : Passed → Head → Texts → ℕ → Message
told_as passes.Kept head texts begun = told_kept head.frame head.verb texts.target texts.body
told_as passes.Dropped head texts begun = told_dropped head.frame
told_as passes.End head texts begun = messages.Malformed begun
told_as passes.Long head texts begun = messages.Long
told_as passes.Failed head texts begun = messages.Failed

-- the source failed only where its count of faults rose
abbrev pub IsCaused : ℕ → ℕ → Passed → Type 0
IsCaused before now passes.Kept = ⊤
IsCaused before now passes.Dropped = ⊤
IsCaused before now passes.End = ⊤
IsCaused before now passes.Long = ⊤
IsCaused before now passes.Failed = Rose before now

-- what was taken beyond what the source had told before was needed: nothing was, or it was asked where nothing was settled
abbrev pub IsTakenOrNeeded : Held → Option (List ℕ) → Option (List ℕ) → Type 0
IsTakenOrNeeded old left left' =
    IfSome left (λ b. IsSomeAnd left' (λ a. (b ≡ a) ⊎ IsNeeded (old.ahead ++ b) a))
