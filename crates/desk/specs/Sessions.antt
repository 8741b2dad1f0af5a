-- What the end of a session says of the source, the sink and the office.
use Rattle.std.specs.Prelude.{◌≡◌, ◌⊎◌, ℕ, true, false, ◌+◌, List, ◌++◌, length, Option, Some, None, IfSome, IsSomeAnd, ⊤}
use Rattle.std.specs.List.{concat}
use Rattle.desk.specs.Endings.{IsHeard}
use Rattle.desk.specs.Replies.{IsAnswered}
use Rattle.desk.specs.Replying.{AreReplies}
use Rattle.desk.specs.declared.sessions.SessionEnd.{SessionEnd}
use Rattle.desk.specs.declared.sessions.SessionEnd.TheVariants.{End, InputFault, OutputFault, Malformed, Long, NoMemory}
use Rattle.devices.specs.Faults.{Rose}
use Rattle.devices.specs.Sinks.{AreWritten}
use Rattle.history.specs.Events.{History}
use Rattle.wire.specs.Incoming.{Held}
use Rattle.wire.specs.Messages.{AreMessages}
use Rattle.wire.specs.declared.messages.Message.{Message}
use Rattle.wire.specs.declared.messages.Message.TheVariants as messages
use Rattle.http_api.specs.declared.asks.Ask.{Ask}
use Rattle.wire.specs.declared.replies.TheConstants.{MALFORMED_REPLY}

-- a fault of the source or of the sink is told only where the count of that object rose
abbrev pub HasCause : SessionEnd → ℕ → ℕ → ℕ → ℕ → Type 0
HasCause End source_before source_now sink_before sink_now = ⊤
HasCause (Malformed at) source_before source_now sink_before sink_now = ⊤
HasCause Long source_before source_now sink_before sink_now = ⊤
HasCause InputFault source_before source_now sink_before sink_now = Rose source_before source_now
HasCause OutputFault source_before source_now sink_before sink_now = Rose sink_before sink_now
HasCause NoMemory source_before source_now sink_before sink_now = ⊤

-- the messages so far are the front of the input, whose rest begins at the offset
pub record IsReadTo (input : List ℕ) (messages : List Message) (rest : List ℕ) (at : ℕ) : Type 0 where
  pub reads : AreMessages input messages rest
  pub offset : length input ≡ at + length rest

-- Where a source and a sink tell their bytes, a session ended so behind these messages and replies.
abbrev pub IsHeardBetween : List Message → List (List ℕ) → SessionEnd → Option (List ℕ) → Option (List ℕ) → Option (List ℕ) → Option (List ℕ) → Type 0
IsHeardBetween messages replies end left_before left_after written_before written_after =
    IfSome left_before (λ input. IsSomeAnd left_after (λ left. IfSome written_before (λ before.
    (written : List ℕ) × (written_after ≡ Some (before ++ written)) × IsHeard messages replies end input left written)))

-- X is what is asked, and `Answers` says what is replied to an ask and what has become of it then
module _ {X : Type 0} (Answers : X → Ask → List ℕ → X → Type 0) where
  -- A session of what is asked has ended so.
  pub record IsServedBy (x y : X) (end : SessionEnd) (left_before left_after written_before written_after : Option (List ℕ)) : Type 0 where
    pub messages : List Message
    pub replies : List (List ℕ)
    pub answers : AreReplies Answers x messages replies y
    pub heard : IsHeardBetween messages replies end left_before left_after written_before written_after

  -- A session is under way that began with one and has come to another: each message so far was replied to.
  pub record IsUnderWay (x now : X) (held : Held) (left_before left_now written_before written_now : Option (List ℕ)) : Type 0 where
    pub messages : List Message
    pub replies : List (List ℕ)
    pub answers : AreReplies Answers x messages replies now
    pub reads : IfSome left_before (λ input. IsSomeAnd left_now (λ left. IsReadTo input messages (held.ahead ++ left) held.offset))
    pub wrote : IfSome written_before (λ before. written_now ≡ Some (before ++ concat replies))

  -- after a message the session is under way, or has ended
  abbrev pub GoesOn : X → X → Option SessionEnd → Held
      → Option (List ℕ) → Option (List ℕ) → Option (List ℕ) → Option (List ℕ) → Type 0
  GoesOn x now None held left_before left_now written_before written_now =
      IsUnderWay x now held left_before left_now written_before written_now
  GoesOn x now (Some end) held left_before left_now written_before written_now =
      IsServedBy x now end left_before left_now written_before written_now

-- A session of an office that nobody else asks went from one history to another and ended. Where the source and the sink tell their bytes, it
-- wrote what the office replies to what it read.
abbrev pub IsServed : History → History → SessionEnd → Option (List ℕ) → Option (List ℕ) → Option (List ℕ) → Option (List ℕ) → Type 0
IsServed h after end left_before left_after written_before written_after =
    IsServedBy IsAnswered h after end left_before left_after written_before written_after

-- how a session ends at a message that is not replied to
abbrev pub IsEndOf : Message → SessionEnd → Type 0
IsEndOf (messages.Request verb target body) end = ⊥
IsEndOf messages.NoLength end = ⊥
IsEndOf messages.TooLarge end = ⊥
IsEndOf messages.NoMemory end = ⊥
IsEndOf messages.End end = end ≡ End
IsEndOf (messages.Malformed at) end = end ≡ Malformed at
IsEndOf messages.Long end = end ≡ Long
IsEndOf messages.Failed end = end ≡ InputFault

-- Bytes that are no message were replied to, or the sink failed at that. At any other end nothing was written.
abbrev pub IsFinished : SessionEnd → SessionEnd → Option (List ℕ) → Option (List ℕ) → Type 0
IsFinished End result before now = (result ≡ End) × (now ≡ before)
IsFinished InputFault result before now = (result ≡ InputFault) × (now ≡ before)
IsFinished OutputFault result before now = (result ≡ OutputFault) × (now ≡ before)
IsFinished (Malformed at) result before now =
    ((result ≡ Malformed at) × AreWritten before MALFORMED_REPLY.now now true)
    ⊎ ((result ≡ OutputFault) × AreWritten before MALFORMED_REPLY.now now false)
IsFinished Long result before now = (result ≡ Long) × (now ≡ before)
IsFinished NoMemory result before now = (result ≡ NoMemory) × (now ≡ before)
