-- A field that states a length adds its value, and another adds none.
use Rattle.std.proofs.Common.{◌≡◌, ℕ, Bool, true, false, List, [], ◌∷◌, ◌++◌, get_or, take, map, codes, sym, ap, ◌∙◌}
use Rattle.std.specs.Str.{str_eq_ignore_ascii_case}
use Rattle.httparse.specs.declared.spans.HeaderSpan.{HeaderSpan}
use Rattle.httparse.specs.Spans.{header_bytes}
use Rattle.wire.specs.Framing.{is_named, stated_length, values_of}
use Rattle.wire.proofs.FramingLemmas.{values_of_more, values_of_same}
use Rattle.wire.proofs.framing.find_length.Goals as goal
use Rattle.wire.proofs.framing.find_length.Goals.{then-is_name, else-is_name}

named : (window found : List ℕ) (header : HeaderSpan) (r b : Bool)
    → r ≡ str_eq_ignore_ascii_case found (codes "content-length") → r ≡ b → found ≡ (header_bytes window header).0
    → is_named (codes "content-length") (header_bytes window header) ≡ b
named window found header r b answer is bytes =
    sym (ap (λ (name : List ℕ). str_eq_ignore_ascii_case name (codes "content-length")) bytes) ∙ sym answer ∙ is

pub loop-header-preserved : goal.loop-header-preserved
loop-header-preserved c =
    let window = c.args.window.now in
    let headers = c.args.headers.now in
    let i = c.loop-header.header-index in
    let past : HeaderSpan = record { name = record { start = 0; end = 0 }; value = record { start = 0; end = 0 } } in
    let header : HeaderSpan = get_or headers i past in
    let before = map (header_bytes window) (take i headers) in
    elim c.if-is_name.branch [
      | then-is_name w ↦
          w.length-is
          ∙ w.with_value-length.ensures (values_of (codes "content-length") before) c.loop-header.invariant
          ∙ ap (λ (value : List ℕ). stated_length (values_of (codes "content-length") before ++ value ∷ [])) w.of-then-is_name.ensures
          ∙ sym (ap stated_length
          (values_of_more (codes "content-length") window headers i past c.loop-header-test.true
          (named window c.of.result.now header c.is_name.result true c.is_name.ensures w.if-is_name.true c.of.ensures)))
      | else-is_name w ↦
          w.length-is ∙ c.loop-header.invariant
          ∙ sym (ap stated_length
          (values_of_same (codes "content-length") window headers i past c.loop-header-test.true
          (named window c.of.result.now header c.is_name.result false c.is_name.ensures w.if-is_name.false c.of.ensures)))
    ]
