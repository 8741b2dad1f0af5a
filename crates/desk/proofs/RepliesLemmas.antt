-- Messages and replies, one more at their ends.
use Rattle.std.proofs.Common.{◌≡◌, ◌⊎◌, ℕ, List, [], ◌∷◌, ◌++◌, Result, Ok, Err, inl, inr, refl, sym, ◌∙◌, ap, subst, append_assoc, append-nil}
use Rattle.desk.specs.Answering.{IsMade}
use Rattle.desk.specs.Replying.{AreReplies, IsAnsweredBy, IsReplied, memory_reply}
use Rattle.http_api.specs.Asks.{IsDenial, Question, ask_of}
use Rattle.http_api.specs.Replies.{bytes_of}
use Rattle.http_api.specs.declared.asks.Ask.{Ask}
use Rattle.http_api.specs.declared.asks.Denied.{Denied}
use Rattle.http_api.specs.declared.asks.Denied.TheVariants as denials
use Rattle.http_api.specs.declared.replies.Reply.TheVariants as replies
use Rattle.std.specs.List.{concat}
use Rattle.wire.specs.Messages.{AreMessages, IsMessage}
use Rattle.wire.specs.declared.messages.Message.{Message}
use Rattle.wire.specs.declared.messages.Message.TheVariants as messages
use Rattle.wire.specs.declared.messages.Verb.{Verb}

-- a message behind messages
pub messages_more : (bytes : List ℕ) (messages : List Message) (rest : List ℕ) (message : Message) (after : List ℕ)
    → AreMessages bytes messages rest → IsMessage rest message after → AreMessages bytes (messages ++ message ∷ []) after
messages_more bytes [] rest message after e h = (after, subst (λ (r : List ℕ). IsMessage r message after) (sym e) h, refl)
messages_more bytes (m ∷ ms) rest message after reads h = (reads.0, reads.1, messages_more reads.0 ms rest message after reads.2 h)

-- the bytes of one more reply
pub concat-more : (replies : List (List ℕ)) (reply : List ℕ) → concat (replies ++ reply ∷ []) ≡ concat replies ++ reply
concat-more [] reply = append-nil reply
concat-more (r ∷ rs) reply = ap (λ b. r ++ b) (concat-more rs reply) ∙ sym (append_assoc r (concat rs) reply)

-- no memory to read a request and no memory for its reply are told alike
denied_memory : bytes_of (replies.Denied denials.NoMemory) ≡ bytes_of replies.NoMemory
unfolding bytes_of
denied_memory = refl

module _ {X : Type 0} (Answers : X → Ask → List ℕ → X → Type 0) where
  -- a reply behind replies
  pub replies_more : (x : X) (messages : List Message) (replies : List (List ℕ)) (mid : X) (message : Message) (reply : List ℕ) (next : X)
      → AreReplies Answers x messages replies mid → IsReplied Answers mid message reply next
      → AreReplies Answers x (messages ++ message ∷ []) (replies ++ reply ∷ []) next
  replies_more x [] [] mid message reply next e is = (next, subst (λ (from : X). IsReplied Answers from message reply next) e is, refl)
  replies_more x [] (r ∷ rs) mid message reply next e is = absurd e
  replies_more x (m ∷ ms) [] mid message reply next e is = absurd e
  replies_more x (m ∷ ms) (r ∷ rs) mid message reply next told is =
      (told.0, told.1, replies_more told.0 ms rs mid message reply next told.2 is)

  -- a request that asks nothing is told why
  replied_why : (x : X) (verb : Verb) (target body reply : List ℕ) (denied : Denied) → ask_of verb target body ≡ Err denied
      → IsMade (replies.Denied denied) reply → IsReplied Answers x (messages.Request verb target body) reply x
  replied_why x verb target body reply denied is (inl made) =
      inl (subst (λ (asked : Result Question Denied). IsAnsweredBy Answers x asked reply x) (sym is) (made, refl))
  replied_why x verb target body reply denied is (inr none) = inr (none, refl)

  pub replied_denied : (x : X) (verb : Verb) (target body reply : List ℕ) (denied : Denied) → IsDenial verb target body denied
      → IsMade (replies.Denied denied) reply → IsReplied Answers x (messages.Request verb target body) reply x
  replied_denied x verb target body reply denials.NoMemory is (inl made) = inr (made ∙ denied_memory, refl)
  replied_denied x verb target body reply denials.NoMemory is (inr none) = inr (none, refl)
  replied_denied x verb target body reply denials.NoRoute is made = replied_why x verb target body reply denials.NoRoute is made
  replied_denied x verb target body reply (denials.NotAllowed due) is made = replied_why x verb target body reply (denials.NotAllowed due) is made
  replied_denied x verb target body reply denials.Json is made = replied_why x verb target body reply denials.Json is made
  replied_denied x verb target body reply (denials.Body name) is made = replied_why x verb target body reply (denials.Body name) is made
  replied_denied x verb target body reply (denials.Rdb fault) is made = replied_why x verb target body reply (denials.Rdb fault) is made

-- What is asked has a part, and what is answered is answered by the part.
module _ {X Y : Type 0} (part : X → Y) (Answers : X → Ask → List ℕ → X → Type 0) (Others : Y → Ask → List ℕ → Y → Type 0)
    (by_part : (x y : X) (ask : Ask) (reply : List ℕ) → Answers x ask reply y → Others (part x) ask reply (part y)) where
  answered_by_part : (x y : X) (asked : Result Question Denied) (reply : List ℕ) → IsAnsweredBy Answers x asked reply y
      → IsAnsweredBy Others (part x) asked reply (part y)
  answered_by_part x y (Ok asked) reply is = (is.0, is.1, by_part x y is.0 reply is.2)
  answered_by_part x y (Err denied) reply is = (is.0, ap part is.1)

  requested_by_part : (x y : X) (asked : Result Question Denied) (reply : List ℕ) → IsAnsweredBy Answers x asked reply y ⊎ ((reply ≡ memory_reply) × (y ≡ x))
      → IsAnsweredBy Others (part x) asked reply (part y) ⊎ ((reply ≡ memory_reply) × (part y ≡ part x))
  requested_by_part x y asked reply (inl is) = inl (answered_by_part x y asked reply is)
  requested_by_part x y asked reply (inr none) = inr (none.0, ap part none.1)

  replied_by_part : (x y : X) (message : Message) (reply : List ℕ) → IsReplied Answers x message reply y → IsReplied Others (part x) message reply (part y)
  replied_by_part x y (messages.Request verb target body) reply is = requested_by_part x y (ask_of verb target body) reply is
  replied_by_part x y messages.NoLength reply is = (is.0, ap part is.1)
  replied_by_part x y messages.TooLarge reply is = (is.0, ap part is.1)
  replied_by_part x y messages.NoMemory reply is = (is.0, ap part is.1)
  replied_by_part x y messages.End reply is = is
  replied_by_part x y (messages.Malformed at) reply is = is
  replied_by_part x y messages.Long reply is = is
  replied_by_part x y messages.Failed reply is = is

  pub replies_by_part : (x y : X) (messages : List Message) (replies : List (List ℕ)) → AreReplies Answers x messages replies y
      → AreReplies Others (part x) messages replies (part y)
  replies_by_part x y [] [] is = ap part is
  replies_by_part x y [] (r ∷ rs) is = is
  replies_by_part x y (m ∷ ms) [] is = is
  replies_by_part x y (m ∷ ms) (r ∷ rs) is =
      (part is.0, replied_by_part x is.0 m r is.1, replies_by_part is.0 y ms rs is.2)

-- What each answer keeps is kept behind all replies.
module _ {X : Type 0} (Answers : X → Ask → List ℕ → X → Type 0) (Kept : X → Type 0)
    (kept_by : (x y : X) (ask : Ask) (reply : List ℕ) → Answers x ask reply y → Kept x → Kept y) where
  kept_so : (x y : X) → y ≡ x → Kept x → Kept y
  kept_so x y same kept = subst Kept (sym same) kept

  kept_answered : (x y : X) (asked : Result Question Denied) (reply : List ℕ) → IsAnsweredBy Answers x asked reply y → Kept x → Kept y
  kept_answered x y (Ok asked) reply is kept = kept_by x y is.0 reply is.2 kept
  kept_answered x y (Err denied) reply is kept = kept_so x y is.1 kept

  kept_requested : (x y : X) (asked : Result Question Denied) (reply : List ℕ)
      → IsAnsweredBy Answers x asked reply y ⊎ ((reply ≡ memory_reply) × (y ≡ x)) → Kept x → Kept y
  kept_requested x y asked reply (inl is) kept = kept_answered x y asked reply is kept
  kept_requested x y asked reply (inr none) kept = kept_so x y none.1 kept

  kept_replied : (x y : X) (message : Message) (reply : List ℕ) → IsReplied Answers x message reply y → Kept x → Kept y
  kept_replied x y (messages.Request verb target body) reply is kept = kept_requested x y (ask_of verb target body) reply is kept
  kept_replied x y messages.NoLength reply is kept = kept_so x y is.1 kept
  kept_replied x y messages.TooLarge reply is kept = kept_so x y is.1 kept
  kept_replied x y messages.NoMemory reply is kept = kept_so x y is.1 kept
  kept_replied x y messages.End reply is kept = absurd is
  kept_replied x y (messages.Malformed at) reply is kept = absurd is
  kept_replied x y messages.Long reply is kept = absurd is
  kept_replied x y messages.Failed reply is kept = absurd is

  pub kept_behind : (x y : X) (messages : List Message) (replies : List (List ℕ)) → AreReplies Answers x messages replies y → Kept x → Kept y
  kept_behind x y [] [] is kept = kept_so x y is kept
  kept_behind x y [] (r ∷ rs) is kept = absurd is
  kept_behind x y (m ∷ ms) [] is kept = absurd is
  kept_behind x y (m ∷ ms) (r ∷ rs) is kept = kept_behind is.0 y ms rs is.2 (kept_replied x is.0 m r is.1 kept)
