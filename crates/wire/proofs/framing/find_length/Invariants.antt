use Rattle.std.proofs.Common.{◌≡◌, take, map, codes}
use Rattle.httparse.specs.Spans.{header_bytes}
use Rattle.wire.specs.Framing.{stated_length, values_of}
use Rattle.wire.proofs.framing.find_length.Given as goal

-- the length that the headers so far state
abbrev pub invariant-loop-header : goal.invariant-loop-header
invariant-loop-header l =
    l.length ≡ stated_length (values_of (codes "content-length") (map (header_bytes l.window) (take l.header-index l.headers)))
