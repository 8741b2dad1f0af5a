-- The reader is set up as the builder says.
use Rattle.std.proofs.Common.{◌∙◌}
use Rattle.midsection.proofs.reading.reader.Goals as goal

pub returns : goal.returns
returns c =
    let reader = c.from_reader.ensures in
    let unnamed = c.has_headers.ensures in
    let flexible = c.flexible.ensures in
    record {
      plain = rw (flexible, unnamed) at reader.trim ∙ c.new.ensures.trim;
      unnamed = rw (flexible, unnamed) at reader.has_headers;
      none = reader.headers;
      config = rw (flexible, unnamed) at reader.config ∙ c.new.ensures.config;
      state = reader.state;
      source = reader.source;
    }
