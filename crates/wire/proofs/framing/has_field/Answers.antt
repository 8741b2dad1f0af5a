-- A header that has the name settles the answer.
use Rattle.std.proofs.Common.{◌≡◌, ℕ, ◌<◌, Bool, true, List, length, get_or, map, sym, ap, ◌∙◌}
use Rattle.std.specs.List.{list_any, slice_range}
use Rattle.std.specs.Str.{str_eq_ignore_ascii_case}
use Rattle.std.proofs.lemmas.List.Folds.{list_any_at}
use Rattle.httparse.specs.declared.spans.HeaderSpan.{HeaderSpan}
use Rattle.httparse.specs.Spans.{header_bytes}
use Rattle.wire.specs.Framing.{is_named}
use Rattle.wire.proofs.FramingLemmas.{any_header}
use Rattle.wire.proofs.framing.has_field.Goals as goal

settled : (window name found : List ℕ) (headers : List HeaderSpan) (i : ℕ) (d : HeaderSpan) (r : Bool)
    → i < length headers → r ≡ str_eq_ignore_ascii_case found name → r ≡ true
    → found ≡ slice_range window (get_or headers i d).name.start (get_or headers i d).name.end
    → true ≡ list_any (is_named name) (map (header_bytes window) headers)
settled window name found headers i d r inside answer is_true bytes =
    let passes : is_named name (header_bytes window (get_or headers i d)) ≡ true =
    sym (ap (λ (b : List ℕ). str_eq_ignore_ascii_case b name) bytes) ∙ sym answer ∙ is_true in
    sym
    (any_header (is_named name) window headers
    ∙ list_any_at (λ (header : HeaderSpan). is_named name (header_bytes window header)) headers i d inside passes)

pub returns-then-is_name : goal.returns-then-is_name
returns-then-is_name c =
    settled c.args.window.now c.args.name.now c.of.result.now c.args.headers.now c.loop-header.header-index _ c.is_name.result
    c.loop-header-test.true c.is_name.ensures c.if-is_name.true c.of.ensures
