use Rattle.std.proofs.Common.{sym, ◌∙◌}
use Rattle.std.proofs.lemmas.Bool.{true≢false}
use Rattle.wire.proofs.MessageLemmas.{whole_unique, message_unique, reading_unique, message_not_blank, message_not_malformed}
use Rattle.wire.proofs.messages.messages_are_unique.Goals as goal

pub returns : goal.returns
returns c = record {
  wholes = whole_unique;
  unique = message_unique;
  reading = reading_unique;
  apart = λ rest. record {
    message_not_blank = message_not_blank rest;
    message_not_malformed = message_not_malformed rest;
    malformed_not_blank = λ malformed blank. true≢false (sym blank ∙ malformed.visible);
  };
}
