-- What a session has read and written when it ends.
use Rattle.std.specs.Prelude.{◌≡◌, ◌⊎◌, ℕ, ◌+◌, ◌≤◌, Bool, true, false, List, [], ◌∷◌, ◌++◌, length}
use Rattle.std.specs.List.{concat}
use Rattle.desk.specs.declared.sessions.SessionEnd.{SessionEnd}
use Rattle.desk.specs.declared.sessions.SessionEnd.TheVariants.{End, InputFault, OutputFault, Malformed, Long, NoMemory}
use Rattle.devices.specs.Sinks.{IsCutShort}
use Rattle.wire.specs.Incoming.{IsNeeded, IsUnread}
use Rattle.wire.specs.Messages.{AreMessages, IsMalformed, is_blank}
use Rattle.wire.specs.declared.limits.TheConstants.{BLOCK_BYTES, STREAM_BYTES}
use Rattle.wire.specs.declared.messages.Message.{Message}
use Rattle.wire.specs.declared.replies.TheConstants.{MALFORMED_REPLY}

-- after what was written so far came a front of a reply, and not all of it
abbrev pub StopsWithin : List ℕ → List ℕ → List ℕ → Type 0
StopsWithin so_far reply written = (part : List ℕ) × (written ≡ so_far ++ part) × IsCutShort part reply

-- whether the end was told by the reply to bytes that are no message
abbrev pub is_malformed : SessionEnd → Bool
is_malformed End = false
is_malformed InputFault = false
is_malformed OutputFault = false
is_malformed (Malformed at) = true
is_malformed Long = false
is_malformed NoMemory = false

-- of the rest no more than a block was read ahead
abbrev pub IsReadAhead : List ℕ → List ℕ → Type 0
IsReadAhead rest left = (ahead : List ℕ) × (rest ≡ ahead ++ left) × (length ahead ≤ BLOCK_BYTES)

-- How a session over an input ends: `rest` is what no request that was replied to took of the input, of which the
-- source still has `left`, and `written` is all that the session wrote. The source was read no further than was needed to
-- tell the end.
abbrev pub EndsBy : SessionEnd → List ℕ → List (List ℕ) → List ℕ → List ℕ → List ℕ → Type 0
EndsBy End input replies rest left written = (is_blank rest ≡ true) × (left ≡ []) × (written ≡ concat replies)
EndsBy (Malformed at) input replies rest left written =
    IsMalformed rest × IsNeeded rest left × (length input ≡ at + length rest)
    × (written ≡ concat replies ++ MALFORMED_REPLY.now)
EndsBy Long input replies rest left written =
    ((seen : List ℕ) × IsUnread rest seen left) × (length input ≡ STREAM_BYTES + length left) × (written ≡ concat replies)
EndsBy InputFault input replies rest left written =
    ((seen : List ℕ) × IsUnread rest seen left) × (written ≡ concat replies)
EndsBy OutputFault input replies rest left written =
    ((front : List (List ℕ)) × (last : List ℕ) × (replies ≡ front ++ last ∷ []) × StopsWithin (concat front) last written
    × IsReadAhead rest left)
    ⊎ (IsMalformed rest × IsNeeded rest left × StopsWithin (concat replies) MALFORMED_REPLY.now written)
EndsBy NoMemory input replies rest left written = (left ≡ input) × (replies ≡ []) × (written ≡ [])

-- A session over this input ended so, behind these messages, one behind another, and the replies to them. No more was taken than may be
-- of a stream.
pub record IsHeard (messages : List Message) (replies : List (List ℕ)) (end : SessionEnd) (input left written : List ℕ) : Type 0 where
  pub rest : List ℕ
  pub reads : AreMessages input messages rest
  pub ends : EndsBy end input replies rest left written
  pub taken : length input ≤ STREAM_BYTES + length left
