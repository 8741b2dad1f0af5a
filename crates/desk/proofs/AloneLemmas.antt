-- What is replied by an office that nobody else asks, and what passes in it meanwhile.
use Rattle.std.proofs.Common.{ℕ, ◌≤◌, List, Option, arith}
use Rattle.desk.proofs.RepliesLemmas.{kept_behind, replies_by_part}
use Rattle.shared_office.proofs.StretchLemmas.{passes_more}
use Rattle.desk.specs.Asked.{AnswersAlone}
use Rattle.shared_office.specs.Passages.{Passes}
use Rattle.desk.specs.Replies.{IsAnswered}
use Rattle.desk.specs.Replying.{AreReplies}
use Rattle.desk.specs.Sessions.{IsServed, IsServedBy}
use Rattle.desk.specs.declared.sessions.SessionEnd.{SessionEnd}
use Rattle.devices.specs.declared.disks.Disk.{Ghosts}
use Rattle.http_api.specs.declared.asks.Ask.{Ask}
use Rattle.office.specs.Offices.{Officed}
use Rattle.wire.specs.declared.messages.Message.{Message}

module _ {D : Type 0} (g : Ghosts D) where
  -- what has passed since the office was another one
  pub record Since (first now : Officed D) : Type 0 where
    pub passed : Passes g first.register.history now.register.history first.disk now.disk
    pub counted : g.faults first.disk ≤ g.faults now.disk

  answer_more : (first x y : Officed D) (ask : Ask) (reply : List ℕ) → AnswersAlone g x ask reply y → Since first x → Since first y
  answer_more first x y ask reply is since = record {
    passed =
        passes_more g first.register.history x.register.history y.register.history first.disk x.disk y.disk since.passed is.passed;
    counted = omega (arith, since.counted, is.counted);
  }

  pub since_replies : (first now : Officed D) (messages : List Message) (replies : List (List ℕ))
      → AreReplies (AnswersAlone g) first messages replies now → Since first first → Since first now
  since_replies first now messages replies is start =
      kept_behind (AnswersAlone g) (Since first) (answer_more first) first now messages replies is start

  -- what a session is of the office it is of its history
  pub served_alone : (x y : Officed D) (end : SessionEnd) (l l' w w' : Option (List ℕ)) → IsServedBy (AnswersAlone g) x y end l l' w w'
      → IsServed x.register.history y.register.history end l l' w w'
  served_alone x y end l l' w w' served = record {
    messages = served.messages;
    replies = served.replies;
    answers =
        replies_by_part (λ office. office.register.history) (AnswersAlone g) IsAnswered (λ from to ask reply is. is.answered)
        x y served.messages served.replies served.answers;
    heard = served.heard;
  }
