use Rattle.std.proofs.Common.{◌≡◌, ◌≤◌, ◌++◌, length, take, drop, ◌-◌, None, sym, subst, arith, refl, length-drop}
use Rattle.memchr.specs.Find.{IsFirstByte, is_byte}
use Rattle.std.proofs.lemmas.List.{take_all}
use Rattle.httparse.specs.Spans.{RequestOverflows}
use Rattle.wire.specs.Found.{IsHeadAt}
use Rattle.wire.specs.Framing.{is_good}
use Rattle.wire.specs.Looking.{Looks}
use Rattle.wire.proofs.HeadLemmas.{never_head, malformed_no_head, not_blank_more}
use Rattle.wire.proofs.IncomingLemmas.{front_of_head, found_none, blank_unsettled, part_unsettled, unsettled_without_line_feed}
use Rattle.wire.proofs.looking.look_at_part.Goals as goal
use Rattle.wire.proofs.looking.look_at_part.Goals.{then-is_none-via-then-is_none, then-is_none-via-else-is_none+then-is_blank}

pub returns-then-is_none : goal.returns-then-is_none
returns-then-is_none c =
    let held = c.args.held.now in
    let looked = c.args.looked in
    let behind : take (length held - looked) (drop looked held) ≡ drop looked held =
    take_all (length held - looked) (drop looked held) (omega (arith, length-drop looked held)) in (
      c.requires.short,
      elim c.then-is_none.branch [
        | then-is_none-via-then-is_none w ↦
            unsettled_without_line_feed looked held c.requires.looked c.requires.short c.requires.unsettled
            (subst (λ xs. IsFirstByte (is_byte 10) xs None) behind (found_none _ c.memchr.result w.if-is_none.ensures c.memchr.ensures))
        | then-is_none-via-else-is_none+then-is_blank w ↦ blank_unsettled held (sym w.if-is_blank.ensures)
      ],
    )

pub returns-in-Whole : goal.returns-in-Whole
returns-in-Whole c =
    let held = c.args.held.now in
    let head = c.in-Whole.head in
    let found = c.in-Whole.ensures.0 in
    let small : length held ≤ 8192 = omega arith in
    let at = subst (λ w. IsHeadAt w head found) (sym (take_all 8192 held small)) c.in-Whole.ensures.1 in
    subst (Looks held) (sym c.front_of.ensures) (front_of_head held head found at (is_good head.frame) refl)

pub returns-in-NotYet : goal.returns-in-NotYet
returns-in-NotYet c = (c.requires.short, part_unsettled c.args.held.now c.requires.short c.in-NotYet.ensures)

pub returns-in-Never : goal.returns-in-Never
returns-in-Never c = λ more.
    let held = c.args.held.now in
    let small : length held ≤ 8192 = omega arith in
    let over = subst (RequestOverflows 64) (sym (take_all 8192 held small)) c.in-Never.ensures in
    malformed_no_head (held ++ more) (not_blank_more held more (sym c.if-is_blank.ensures)) (never_head held more over)
