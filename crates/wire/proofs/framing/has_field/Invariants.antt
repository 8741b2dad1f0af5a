use Rattle.std.proofs.Common.{◌≡◌, take, map, false}
use Rattle.std.specs.List.{list_any}
use Rattle.httparse.specs.Spans.{header_bytes}
use Rattle.wire.specs.Framing.{is_named}
use Rattle.wire.proofs.framing.has_field.Given as goal

-- no header so far has the name
abbrev pub invariant-loop-header : goal.invariant-loop-header
invariant-loop-header l = list_any (is_named l.name) (map (header_bytes l.window) (take l.header-index l.headers)) ≡ false
