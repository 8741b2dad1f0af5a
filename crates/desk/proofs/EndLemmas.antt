-- How a session ends.
use Rattle.std.proofs.Common.{◌≡◌, ℕ, ◌+◌, ◌^◌, ◌≤◌, true, false, List, ◌++◌, length, Option, Some, None, IfSome, IsSomeAnd, ⊎_elim, refl, sym, ◌∙◌, ap, subst, inr, append_assoc, length-append, arith}
use Rattle.desk.specs.Endings.{EndsBy, IsHeard, StopsWithin}
use Rattle.desk.specs.Sessions.{IsEndOf, IsFinished, IsHeardBetween, IsReadTo, IsServedBy, IsUnderWay}
use Rattle.desk.specs.declared.sessions.SessionEnd.{SessionEnd}
use Rattle.desk.specs.declared.sessions.SessionEnd.TheVariants as ends
use Rattle.devices.specs.Sinks.{IsCutShort, AreWritten}
use Rattle.http_api.specs.declared.asks.Ask.{Ask}
use Rattle.std.specs.List.{concat}
use Rattle.wire.specs.Incoming.{Held, IsNext, IsNeeded, IsTakenAsNeeded, IsWithinLimit}
use Rattle.wire.specs.Incoming as incoming
use Rattle.wire.specs.declared.messages.Message.{Message}
use Rattle.wire.specs.declared.messages.Message.TheVariants as messages
use Rattle.wire.specs.declared.replies.TheConstants.{MALFORMED_REPLY}

-- what was written so far, and then a whole reply
pub wrote_whole : (w0 w w' : Option (List ℕ)) (so_far reply : List ℕ)
    → IfSome w0 (λ before. w ≡ Some (before ++ so_far)) → AreWritten w reply w' true
    → IfSome w0 (λ before. w' ≡ Some (before ++ (so_far ++ reply)))
wrote_whole None w w' so_far reply wrote put = tt
wrote_whole (Some before) None w' so_far reply wrote put = absurd (cc)
wrote_whole (Some before) (Some b) None so_far reply wrote put = absurd put
wrote_whole (Some before) (Some b) (Some a) so_far reply wrote put =
    let e : b ≡ before ++ so_far = cc in
    ap Some (put ∙ ap (λ (l : List ℕ). l ++ reply) e ∙ append_assoc before so_far reply)

-- what was written so far, and then a front of a reply
pub wrote_part : (w0 w w' : Option (List ℕ)) (so_far reply : List ℕ)
    → IfSome w0 (λ before. w ≡ Some (before ++ so_far)) → AreWritten w reply w' false
    → IfSome w0 (λ before. (part : List ℕ) × (w' ≡ Some (before ++ (so_far ++ part))) × IsCutShort part reply)
wrote_part None w w' so_far reply wrote put = tt
wrote_part (Some before) None w' so_far reply wrote put = absurd (cc)
wrote_part (Some before) (Some b) None so_far reply wrote put = absurd put
wrote_part (Some before) (Some b) (Some a) so_far reply wrote put =
    let e : b ≡ before ++ so_far = cc in
    (put.0, ap Some (put.1 ∙ ap (λ (l : List ℕ). l ++ put.0) e ∙ append_assoc before so_far put.0), put.2)

tell : (N R : List ℕ → List ℕ → Type 0) (W : List ℕ → Type 0) (messages : List Message) (replies : List (List ℕ)) (end : SessionEnd)
    (l0 l l' w0 w' : Option (List ℕ))
    → IfSome l0 (λ input. IsSomeAnd l (λ b. R input b))
    → IfSome l (λ b. IsSomeAnd l' (λ a. N b a))
    → IfSome w0 (λ before. (written : List ℕ) × (w' ≡ Some (before ++ written)) × W written)
    → ((input b a written : List ℕ) → R input b → N b a → W written → IsHeard messages replies end input a written)
    → IsHeardBetween messages replies end l0 l' w0 w'
tell N R W messages replies end None l l' w0 w' reads next wrote heard = tt
tell N R W messages replies end (Some input) None l' w0 w' reads next wrote heard = absurd reads
tell N R W messages replies end (Some input) (Some b) None w0 w' reads next wrote heard = absurd next
tell N R W messages replies end (Some input) (Some b) (Some a) None w' reads next wrote heard = tt
tell N R W messages replies end (Some input) (Some b) (Some a) (Some before) w' reads next wrote heard =
    (wrote.0, wrote.1, heard input b a wrote.0 reads next wrote.2)

-- two facts of what a source had and has
both : (P Q : List ℕ → List ℕ → Type 0) (l l' : Option (List ℕ))
    → IfSome l (λ b. IsSomeAnd l' (λ a. P b a)) → IfSome l (λ b. IsSomeAnd l' (λ a. Q b a))
    → IfSome l (λ b. IsSomeAnd l' (λ a. P b a × Q b a))
both P Q None l' p q = tt
both P Q (Some b) None p q = p
both P Q (Some b) (Some a) p q = (p, q)

-- an input of which so much was taken
taken_of : (input : List ℕ) (whole left : ℕ) → length input ≡ whole → whole ≤ 2 ^ 36 + left → length input ≤ 2 ^ 36 + left
taken_of input whole left e h = omega arith

-- nothing more was written
wrote_nothing : (w0 w : Option (List ℕ)) (so_far : List ℕ)
    → IfSome w0 (λ before. w ≡ Some (before ++ so_far))
    → IfSome w0 (λ before. (written : List ℕ) × (w ≡ Some (before ++ written)) × (written ≡ so_far))
wrote_nothing None w so_far wrote = tt
wrote_nothing (Some before) w so_far wrote = (so_far, wrote, refl)

-- so many bytes were taken as a stream may have
longest : (input rest seen left : List ℕ) (offset : ℕ) → length input ≡ offset + length rest → rest ≡ seen ++ left
    → offset + length seen ≡ 2 ^ 36 → length input ≡ 2 ^ 36 + length left
longest input rest seen left offset whole splits limit =
    let e : length rest ≡ length seen + length left = ap length splits ∙ length-append seen left in omega arith

-- the reply to what is malformed was written whole
whole_malformed : (w0 w w' : Option (List ℕ)) (so_far : List ℕ)
    → IfSome w0 (λ before. w ≡ Some (before ++ so_far)) → AreWritten w MALFORMED_REPLY.now w' true
    → IfSome w0 (λ before. (written : List ℕ) × (w' ≡ Some (before ++ written)) × (written ≡ so_far ++ MALFORMED_REPLY.now))
whole_malformed w0 w w' so_far wrote put =
    wrote_nothing w0 w' (so_far ++ MALFORMED_REPLY.now) (wrote_whole w0 w w' so_far MALFORMED_REPLY.now wrote put)

-- and here only in part
part_malformed : (w0 w w' : Option (List ℕ)) (so_far : List ℕ)
    → IfSome w0 (λ before. w ≡ Some (before ++ so_far)) → AreWritten w MALFORMED_REPLY.now w' false
    → IfSome w0 (λ before. (written : List ℕ) × (w' ≡ Some (before ++ written)) × StopsWithin so_far MALFORMED_REPLY.now written)
part_malformed None w w' so_far wrote put = tt
part_malformed (Some before) w w' so_far wrote put =
    let p = wrote_part (Some before) w w' so_far MALFORMED_REPLY.now wrote put in
    (so_far ++ p.0, p.1, (p.0, refl, p.2))

module _ {X : Type 0} (Answers : X → Ask → List ℕ → X → Type 0) (x now : X) (held held' : Held) (l0 l l' w0 w : Option (List ℕ)) where
  -- a session that ends at a message, by what came of it, what else the source tells and what was written
  served : (message : Message) (end : SessionEnd) (w' : Option (List ℕ)) (N : List ℕ → List ℕ → Type 0) (W : List ℕ → Type 0)
      (u : IsUnderWay Answers x now held l0 l w0 w)
      → incoming.Answers held l message held' l' → IsWithinLimit held l l' → IfSome l (λ b. IsSomeAnd l' (λ a. N b a))
      → IfSome w0 (λ before. (written : List ℕ) × (w' ≡ Some (before ++ written)) × W written)
      → ((input b a written : List ℕ) → IsReadTo input u.messages (held.ahead ++ b) held.offset
      → IsNext (held.ahead ++ b) held.offset message (held'.ahead ++ a) a held'.offset → N b a → W written
      → EndsBy end input u.replies (held.ahead ++ b) a written)
      → IsServedBy Answers x now end l0 l' w0 w'
  served message end w' N W u answers within more wrote ends =
      let Next = λ (b a : List ℕ). IsNext (held.ahead ++ b) held.offset message (held'.ahead ++ a) a held'.offset in
      let Within = λ (b a : List ℕ). held.offset + length (held.ahead ++ b) ≤ 2 ^ 36 + length a in
      record {
        messages = u.messages;
        replies = u.replies;
        answers = u.answers;
        heard =
            tell (λ b a. (Next b a × Within b a) × N b a) (λ input b. IsReadTo input u.messages (held.ahead ++ b) held.offset) W
            u.messages u.replies end l0 l l' w0 w' u.reads
            (both (λ b a. Next b a × Within b a) N l l' (both Next Within l l' answers within) more) wrote
            (λ input b a written reads next told. record {
              rest = held.ahead ++ b;
              reads = reads.reads;
              ends = ends input b a written reads next.0.0 next.1 told;
              taken = taken_of input (held.offset + length (held.ahead ++ b)) (length a) reads.offset next.0.1;
            });
      }

  -- the end of the input
  ends_at_end : IsUnderWay Answers x now held l0 l w0 w → incoming.Answers held l messages.End held' l' → IsWithinLimit held l l'
      → IsServedBy Answers x now ends.End l0 l' w0 w
  ends_at_end u answers within =
      served messages.End ends.End w (λ b a. held.offset + length (held.ahead ++ b) ≤ 2 ^ 36 + length a) (λ written. written ≡ concat u.replies)
      u answers within within (wrote_nothing w0 w (concat u.replies) u.wrote)
      (λ input b a written reads next _ told. (next.0, next.1, told))

  -- the source failed
  ends_at_fault : IsUnderWay Answers x now held l0 l w0 w → incoming.Answers held l messages.Failed held' l' → IsWithinLimit held l l'
      → IsServedBy Answers x now ends.InputFault l0 l' w0 w
  ends_at_fault u answers within =
      served messages.Failed ends.InputFault w (λ b a. held.offset + length (held.ahead ++ b) ≤ 2 ^ 36 + length a) (λ written. written ≡ concat u.replies)
      u answers within within (wrote_nothing w0 w (concat u.replies) u.wrote)
      (λ input b a written reads next _ told. ((next.0, next.1.unread), told))

  -- the stream is too long
  ends_at_limit : IsUnderWay Answers x now held l0 l w0 w → incoming.Answers held l messages.Long held' l' → IsWithinLimit held l l'
      → IsServedBy Answers x now ends.Long l0 l' w0 w
  ends_at_limit u answers within =
      served messages.Long ends.Long w (λ b a. held.offset + length (held.ahead ++ b) ≤ 2 ^ 36 + length a) (λ written. written ≡ concat u.replies)
      u answers within within (wrote_nothing w0 w (concat u.replies) u.wrote)
      (λ input b a written reads next _ told.
      ((next.0, next.1.unread), longest input (held.ahead ++ b) next.0 a held.offset reads.offset next.1.unread.0 next.2, told))

  -- the rest is malformed, and the reply to it was written
  ends_malformed : (at : ℕ) (w' : Option (List ℕ)) → IsUnderWay Answers x now held l0 l w0 w → incoming.Answers held l (messages.Malformed at) held' l'
      → IsWithinLimit held l l' → IsTakenAsNeeded held l l' → AreWritten w MALFORMED_REPLY.now w' true
      → IsServedBy Answers x now (ends.Malformed at) l0 l' w0 w'
  ends_malformed at w' u answers within needed put =
      served (messages.Malformed at) (ends.Malformed at) w' (λ b a. IsNeeded (held.ahead ++ b) a)
      (λ written. written ≡ concat u.replies ++ MALFORMED_REPLY.now)
      u answers within needed (whole_malformed w0 w w' (concat u.replies) u.wrote put)
      (λ input b a written reads next few told.
      (next.0, few, reads.offset ∙ ap (λ (n : ℕ). n + length (held.ahead ++ b)) (sym next.1), told))

  -- and here the sink failed
  fails_malformed : (at : ℕ) (w' : Option (List ℕ)) → IsUnderWay Answers x now held l0 l w0 w → incoming.Answers held l (messages.Malformed at) held' l'
      → IsWithinLimit held l l' → IsTakenAsNeeded held l l' → AreWritten w MALFORMED_REPLY.now w' false
      → IsServedBy Answers x now ends.OutputFault l0 l' w0 w'
  fails_malformed at w' u answers within needed put =
      served (messages.Malformed at) ends.OutputFault w' (λ b a. IsNeeded (held.ahead ++ b) a)
      (λ written. StopsWithin (concat u.replies) MALFORMED_REPLY.now written)
      u answers within needed (part_malformed w0 w w' (concat u.replies) u.wrote put)
      (λ input b a written reads next few told. inr (next.0, few, told))

  -- what was served, where the end and what was written are these
  by_end : (end result : SessionEnd) (w' : Option (List ℕ)) → result ≡ end → w' ≡ w → IsServedBy Answers x now end l0 l' w0 w → IsServedBy Answers x now result l0 l' w0 w'
  by_end end result w' same wrote served_so =
      subst (λ (e : SessionEnd). IsServedBy Answers x now e l0 l' w0 w') (sym same)
      (subst (λ (o : Option (List ℕ)). IsServedBy Answers x now end l0 l' w0 o) (sym wrote) served_so)

  finished : (end result : SessionEnd) (w' : Option (List ℕ)) (known : SessionEnd) → end ≡ known → IsFinished end result w w' → IsFinished known result w w'
  finished end result w' known is told = subst (λ (e : SessionEnd). IsFinished e result w w') is told

  -- a session that ended at a message that is not replied to
  pub ends_at : (message : Message) (end result : SessionEnd) (w' : Option (List ℕ)) → IsEndOf message end → IsFinished end result w w'
      → IsUnderWay Answers x now held l0 l w0 w → incoming.Answers held l message held' l' → IsWithinLimit held l l' → IsTakenAsNeeded held l l'
      → IsServedBy Answers x now result l0 l' w0 w'
  ends_at (messages.Request verb target body) end result w' is told u answers within needed = absurd is
  ends_at messages.NoLength end result w' is told u answers within needed = absurd is
  ends_at messages.TooLarge end result w' is told u answers within needed = absurd is
  ends_at messages.NoMemory end result w' is told u answers within needed = absurd is
  ends_at messages.End end result w' is told u answers within needed =
      let f = finished end result w' ends.End is told in by_end ends.End result w' f.0 f.1 (ends_at_end u answers within)
  ends_at messages.Long end result w' is told u answers within needed =
      let f = finished end result w' ends.Long is told in by_end ends.Long result w' f.0 f.1 (ends_at_limit u answers within)
  ends_at messages.Failed end result w' is told u answers within needed =
      let f = finished end result w' ends.InputFault is told in by_end ends.InputFault result w' f.0 f.1 (ends_at_fault u answers within)
  ends_at (messages.Malformed at) end result w' is told u answers within needed =
      ⊎_elim
      (λ whole. subst (λ (e : SessionEnd). IsServedBy Answers x now e l0 l' w0 w') (sym whole.0) (ends_malformed at w' u answers within needed whole.1))
      (λ part. subst (λ (e : SessionEnd). IsServedBy Answers x now e l0 l' w0 w') (sym part.0) (fails_malformed at w' u answers within needed part.1))
      (finished end result w' (ends.Malformed at) is told)
