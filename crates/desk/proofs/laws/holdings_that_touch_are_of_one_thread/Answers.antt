use Rattle.desk.proofs.TouchLemmas.{of_one_thread}
use Rattle.desk.proofs.laws.holdings_that_touch_are_of_one_thread.Goals as goal

pub returns-clause-replies : goal.returns-clause-replies
returns-clause-replies c = λ fixed from to holdings messages replies touch is. of_one_thread fixed from holdings to messages replies touch is

pub returns-clause-served : goal.returns-clause-served
returns-clause-served c = λ fixed from to holdings before after end touch is.
    record {
      messages = is.messages;
      replies = is.replies;
      answers = of_one_thread fixed from holdings to is.messages is.replies touch is.answers;
      heard = is.heard;
    }
