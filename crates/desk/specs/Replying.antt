-- What is replied to messages, one behind another, by whatever can be asked.
use Rattle.std.specs.Prelude.{◌≡◌, ◌⊎◌, ℕ, List, [], ◌∷◌, Result, Ok, Err}
use Rattle.http_api.specs.Asks.{Question, ask_of, question}
use Rattle.http_api.specs.Replies.{bytes_of}
use Rattle.http_api.specs.declared.asks.Ask.{Ask}
use Rattle.http_api.specs.declared.asks.Denied.{Denied}
use Rattle.http_api.specs.declared.replies.Reply.TheVariants as replies
use Rattle.wire.specs.declared.messages.Message.{Message}
use Rattle.wire.specs.declared.messages.Message.TheVariants as messages

-- the reply of want of memory
abbrev pub memory_reply : List ℕ
memory_reply = bytes_of replies.NoMemory

-- X is what is asked, and `Answers` says what is replied to an ask and what has become of it then
module _ {X : Type 0} (Answers : X → Ask → List ℕ → X → Type 0) where
  -- by what a request asks
  abbrev pub IsAnsweredBy : X → Result Question Denied → List ℕ → X → Type 0
  IsAnsweredBy x (Ok asked) reply y = (ask : Ask) × (question ask ≡ asked) × Answers x ask reply y
  IsAnsweredBy x (Err denied) reply y = (reply ≡ bytes_of (replies.Denied denied)) × (y ≡ x)

  -- nothing is asked, and the reply is this one, or that of want of memory
  abbrev pub IsTold : X → List ℕ → List ℕ → X → Type 0
  IsTold x due reply y = ((reply ≡ due) ⊎ (reply ≡ memory_reply)) × (y ≡ x)

  -- The reply to a message, and what has become of what is asked then. Behind a message without a reply nothing is read.
  abbrev pub IsReplied : X → Message → List ℕ → X → Type 0
  IsReplied x (messages.Request verb target body) reply y =
      IsAnsweredBy x (ask_of verb target body) reply y ⊎ ((reply ≡ memory_reply) × (y ≡ x))
  IsReplied x messages.NoLength reply y = IsTold x (bytes_of replies.NoLength) reply y
  IsReplied x messages.TooLarge reply y = IsTold x (bytes_of replies.TooLarge) reply y
  IsReplied x messages.NoMemory reply y = (reply ≡ memory_reply) × (y ≡ x)
  IsReplied x messages.End reply y = ⊥
  IsReplied x (messages.Malformed at) reply y = ⊥
  IsReplied x messages.Long reply y = ⊥
  IsReplied x messages.Failed reply y = ⊥

  -- the replies to messages, one to each in order, and what has become of what is asked behind them
  abbrev pub AreReplies : X → List Message → List (List ℕ) → X → Type 0
  AreReplies x [] [] y = y ≡ x
  AreReplies x [] (reply ∷ replies) y = ⊥
  AreReplies x (message ∷ messages) [] y = ⊥
  AreReplies x (message ∷ messages) (reply ∷ replies) y =
      (next : X) × IsReplied x message reply next × AreReplies next messages replies y
