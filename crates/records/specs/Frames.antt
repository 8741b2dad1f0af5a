-- The frame that a journal has round the payloads of its records, in either format.
use Rattle.std.specs.Prelude.{ℕ}

-- a journal begins with a header of so many bytes
abbrev pub header_length : ℕ
header_length = 16

-- before a payload stand so many: an open gate, and the length in four
abbrev pub before_payload : ℕ
before_payload = 5
