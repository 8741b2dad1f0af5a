-- How a session goes on, message by message.
use Rattle.std.proofs.Common.{◌≡◌, ℕ, ◌+◌, ◌^◌, ◌≤◌, Bool, if◌then◌else◌, true, false, List, [], ◌∷◌, ◌++◌, length, Option, Some, None, IfSome, IsSomeAnd, refl, sym, ◌∙◌, ap, subst, inl, append-nil, length-append, arith}
use Rattle.wire.specs.declared.limits.TheConstants.{BLOCK_BYTES}
use Rattle.desk.proofs.EndLemmas.{wrote_whole, wrote_part}
use Rattle.desk.proofs.RepliesLemmas.{messages_more, replies_more, concat-more}
use Rattle.desk.specs.Replying.{IsReplied}
use Rattle.desk.specs.Sessions.{GoesOn, IsHeardBetween, IsReadTo, IsServedBy, IsUnderWay}
use Rattle.desk.specs.declared.sessions.SessionEnd.{SessionEnd}
use Rattle.desk.specs.declared.sessions.SessionEnd.TheVariants as ends
use Rattle.devices.specs.Sinks.{AreWritten}
use Rattle.std.specs.List.{concat}
use Rattle.http_api.specs.declared.asks.Ask.{Ask}
use Rattle.wire.specs.Incoming.{Held, taken, IsNext}
use Rattle.wire.specs.Incoming as incoming
use Rattle.wire.specs.declared.messages.Message.{Message}
use Rattle.wire.specs.declared.messages.Message.TheVariants as messages

-- what was read moves on by a message
read_more : (input : List ℕ) (messages : List Message) (rest : List ℕ) (offset : ℕ) (message : Message) (after : List ℕ) (offset' : ℕ)
    → IsReadTo input messages rest offset → incoming.Passes rest offset message after offset'
    → IsReadTo input (messages ++ message ∷ []) after offset'
read_more input messages rest offset message after offset' read passes =
    let whole : length input ≡ offset + length rest = read.offset in
    record {
      reads = messages_more input messages rest message after read.reads passes.0;
      offset = whole ∙ passes.1;
    }

-- a whole reply more
pub wrote_reply : (w0 w w' : Option (List ℕ)) (replies : List (List ℕ)) (reply : List ℕ)
    → IfSome w0 (λ before. w ≡ Some (before ++ concat replies)) → AreWritten w reply w' true
    → IfSome w0 (λ before. w' ≡ Some (before ++ concat (replies ++ reply ∷ [])))
wrote_reply None w w' replies reply wrote put = tt
wrote_reply (Some before) w w' replies reply wrote put =
    wrote_whole (Some before) w w' (concat replies) reply wrote put
    ∙ ap (λ (l : List ℕ). Some (before ++ l)) (sym (concat-more replies reply))

-- of an input so much was taken as stands before the bytes at hand and in them
taken_behind : (input : List ℕ) (held : Held) (left : List ℕ) → length input ≡ held.offset + length (held.ahead ++ left)
    → taken held ≤ 2 ^ 36 → length input ≤ 2 ^ 36 + length left
taken_behind input held left e few =
    let f : length (held.ahead ++ left) ≡ length held.ahead + length left = length-append held.ahead left in
    omega (arith, few)

module _ {X : Type 0} (Answers : X → Ask → List ℕ → X → Type 0) where
  -- a message that is replied to is passed
  passes_replied : (x : X) (message : Message) (reply : List ℕ) (y : X) (rest : List ℕ) (offset : ℕ) (after left : List ℕ) (offset' : ℕ)
      → IsReplied Answers x message reply y → IsNext rest offset message after left offset' → incoming.Passes rest offset message after offset'
  passes_replied x (messages.Request verb target body) reply y rest offset after left offset' is passed = passed
  passes_replied x messages.NoLength reply y rest offset after left offset' is passed = passed
  passes_replied x messages.TooLarge reply y rest offset after left offset' is passed = passed
  passes_replied x messages.NoMemory reply y rest offset after left offset' is passed = passed
  passes_replied x messages.End reply y rest offset after left offset' is passed = absurd is
  passes_replied x (messages.Malformed at) reply y rest offset after left offset' is passed = absurd is
  passes_replied x messages.Long reply y rest offset after left offset' is passed = absurd is
  passes_replied x messages.Failed reply y rest offset after left offset' is passed = absurd is

  module _ (x now next : X) (held held' : Held) (message : Message) (reply : List ℕ) (is : IsReplied Answers now message reply next) where
    -- after a message that is replied to
    reads_message : (messages : List Message) (l0 l l' : Option (List ℕ))
        → IfSome l0 (λ input. IsSomeAnd l (λ b. IsReadTo input messages (held.ahead ++ b) held.offset))
        → incoming.Answers held l message held' l'
        → IfSome l0 (λ input. IsSomeAnd l' (λ a. IsReadTo input (messages ++ message ∷ []) (held'.ahead ++ a) held'.offset))
    reads_message messages None l l' reads answers = tt
    reads_message messages (Some input) None l' reads answers = absurd reads
    reads_message messages (Some input) (Some b) None reads answers = absurd answers
    reads_message messages (Some input) (Some b) (Some a) reads answers =
        read_more input messages (held.ahead ++ b) held.offset message (held'.ahead ++ a) held'.offset reads
        (passes_replied now message reply next (held.ahead ++ b) held.offset (held'.ahead ++ a) a held'.offset is answers)

    -- the message was replied to
    goes_on : (l0 l l' w0 w w' : Option (List ℕ)) → IsUnderWay Answers x now held l0 l w0 w → incoming.Answers held l message held' l'
        → AreWritten w reply w' true → IsUnderWay Answers x next held' l0 l' w0 w'
    goes_on l0 l l' w0 w w' u answers put = record {
      messages = u.messages ++ message ∷ [];
      replies = u.replies ++ reply ∷ [];
      answers = replies_more Answers x u.messages u.replies now message reply next u.answers is;
      reads = reads_message u.messages l0 l l' u.reads answers;
      wrote = wrote_reply w0 w w' u.replies reply u.wrote put;
    }

    -- the sink failed within the reply
    tells_failed : (messages : List Message) (replies : List (List ℕ)) (l0 l' w0 w w' : Option (List ℕ))
        → IfSome l0 (λ input. IsSomeAnd l' (λ a. IsReadTo input (messages ++ message ∷ []) (held'.ahead ++ a) held'.offset))
        → taken held' ≤ 2 ^ 36 → length held'.ahead ≤ BLOCK_BYTES → IfSome w0 (λ before. w ≡ Some (before ++ concat replies)) → AreWritten w reply w' false
        → IsHeardBetween (messages ++ message ∷ []) (replies ++ reply ∷ []) ends.OutputFault l0 l' w0 w'
    tells_failed messages replies None l' w0 w w' reads few block wrote put = tt
    tells_failed messages replies (Some input) None w0 w w' reads few block wrote put = absurd reads
    tells_failed messages replies (Some input) (Some a) None w w' reads few block wrote put = tt
    tells_failed messages replies (Some input) (Some a) (Some before) w w' reads few block wrote put =
        let p = wrote_part (Some before) w w' (concat replies) reply wrote put in (
          concat replies ++ p.0,
          p.1,
          record {
            rest = held'.ahead ++ a;
            reads = reads.reads;
            ends = inl (replies, reply, refl, (p.0, refl, p.2), (held'.ahead, refl, block));
            taken = taken_behind input held' a reads.offset few;
          },
        )

    -- what a session does after the reply to a message
    pub after_reply : (done : Bool) (end : Option SessionEnd) (l0 l l' w0 w w' : Option (List ℕ))
        → end ≡ (if done then None else Some ends.OutputFault)
        → IsUnderWay Answers x now held l0 l w0 w → incoming.Answers held l message held' l'
        → taken held' ≤ 2 ^ 36 → length held'.ahead ≤ BLOCK_BYTES → AreWritten w reply w' done
        → GoesOn Answers x next end held' l0 l' w0 w'
    after_reply true end l0 l l' w0 w w' due u answers few block put =
        subst (λ (e : Option SessionEnd). GoesOn Answers x next e held' l0 l' w0 w') (sym due) (goes_on l0 l l' w0 w w' u answers put)
    after_reply false end l0 l l' w0 w w' due u answers few block put =
        subst (λ (e : Option SessionEnd). GoesOn Answers x next e held' l0 l' w0 w') (sym due) (record {
          messages = u.messages ++ message ∷ [];
          replies = u.replies ++ reply ∷ [];
          answers = replies_more Answers x u.messages u.replies now message reply next u.answers is;
          heard = tells_failed u.messages u.replies l0 l' w0 w w' (reads_message u.messages l0 l l' u.reads answers) few block u.wrote put;
        })

  -- a session that begins is under way
  pub begins : (x : X) (l0 w0 : Option (List ℕ)) → IsUnderWay Answers x x (record { ahead = []; offset = 0 }) l0 l0 w0 w0
  begins x l0 w0 = record {
    messages = [];
    replies = [];
    answers = refl;
    reads = nothing_read l0;
    wrote = nothing_written w0;
  }
    where
      nothing_read : (l : Option (List ℕ)) → IfSome l (λ input. IsSomeAnd l (λ left. IsReadTo input [] left 0))
      nothing_read None = tt
      nothing_read (Some input) = record { reads = refl; offset = omega arith }

      nothing_written : (w : Option (List ℕ)) → IfSome w (λ before. w ≡ Some (before ++ []))
      nothing_written None = tt
      nothing_written (Some before) = ap Some (sym (append-nil before))

  -- one that could not begin has ended
  pub none_begun : (x : X) (l w : Option (List ℕ)) → IsServedBy Answers x x ends.NoMemory l l w w
  none_begun x l w = record { messages = []; replies = []; answers = refl; heard = nothing_heard l w }
    where
      nothing_heard : (l w : Option (List ℕ)) → IsHeardBetween [] [] ends.NoMemory l l w w
      nothing_heard None w = tt
      nothing_heard (Some input) None = tt
      nothing_heard (Some input) (Some before) =
          ([], ap Some (sym (append-nil before)), record { rest = input; reads = refl; ends = (refl, refl, refl); taken = omega arith })
