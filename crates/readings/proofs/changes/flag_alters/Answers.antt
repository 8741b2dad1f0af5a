-- One of the span, in the one half or in the other, has another flag.
use Rattle.std.specs.Prelude.{◌≡◌, true, false, ◌||◌}
use Rattle.std.specs.List.{list_any}
use Rattle.std.proofs.Common.{ap, sym, ◌∙◌}
use Rattle.readings.specs.Halves.{joined}
use Rattle.readings.proofs.Altering.{flag_told, any_append, other_flag}
use Rattle.readings.proofs.changes.flag_alters.Goals as goal

pub returns-then-has_other_flag : goal.returns-then-has_other_flag
returns-then-has_other_flag c =
    let p = other_flag c.args.flag in
    let left = c.span-span.result.left.now in
    let right = c.span-span.result.right.now in
    let yes : list_any p left ≡ true = sym c.has_other_flag.ensures ∙ c.if-has_other_flag.true in
    flag_told c.args.from c.args.to c.args.flag (joined c.args.kept.now) (joined c.span-span.result) _ c.requires
    (c.if-has_other_flag.true ∙ sym (any_append p left right ∙ ap (λ b. b || list_any p right) yes)) c.span-span.ensures

pub returns-else-has_other_flag : goal.returns-else-has_other_flag
returns-else-has_other_flag c =
    let p = other_flag c.args.flag in
    let left = c.span-span.result.left.now in
    let right = c.span-span.result.right.now in
    let no : list_any p left ≡ false = sym c.has_other_flag.ensures ∙ c.if-has_other_flag.false in
    flag_told c.args.from c.args.to c.args.flag (joined c.args.kept.now) (joined c.span-span.result) _ c.requires
    (c.has_other_flag-else-has_other_flag.ensures ∙ sym (any_append p left right ∙ ap (λ b. b || list_any p right) no)) c.span-span.ensures
