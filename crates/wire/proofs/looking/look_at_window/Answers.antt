use Rattle.std.proofs.Common.{◌++◌, sym, subst, refl}
use Rattle.wire.specs.Framing.{is_good}
use Rattle.wire.specs.Looking.{Looks}
use Rattle.wire.proofs.HeadLemmas.{no_head_full, never_head, malformed_no_head}
use Rattle.wire.proofs.IncomingLemmas.{front_of_head, not_blank_window}
use Rattle.wire.proofs.looking.look_at_window.Goals as goal

pub returns-in-Whole : goal.returns-in-Whole
returns-in-Whole c =
    let held = c.args.held.now in
    let head = c.in-Whole.head in
    subst (Looks held) (sym c.front_of.ensures)
    (front_of_head held head c.in-Whole.ensures.0 c.in-Whole.ensures.1 (is_good head.frame) refl)

pub returns-in-NotYet : goal.returns-in-NotYet
returns-in-NotYet c = λ more.
    let held = c.args.held.now in
    malformed_no_head (held ++ more) (not_blank_window held more (sym c.if-is_blank.ensures))
    (no_head_full held more c.in-NotYet.ensures.0 c.requires)

pub returns-in-Never : goal.returns-in-Never
returns-in-Never c = λ more.
    let held = c.args.held.now in
    malformed_no_head (held ++ more) (not_blank_window held more (sym c.if-is_blank.ensures))
    (never_head held more c.in-Never.ensures)
