-- A turn passes one byte of both.
use Rattle.std.proofs.Common.{◌∙◌, sym, arith}
use Rattle.logger_files.proofs.TimeLemmas.{formed_end, formed_short, formed_step, formed_stop}
use Rattle.logger_files.proofs.times.is_formed.Goals as goal

pub returns-in_default-bytes : goal.returns-in_default-bytes
returns-in_default-bytes c =
    sym (c.loop-letters.invariant ∙ formed_short c.loop-letters.letters.now c.loop-letters.bytes.now c.in-len1-up.len_at_least (omega (arith, c.in_default-bytes.len_below)))

pub returns-then-not-stands_for : goal.returns-then-not-stands_for
returns-then-not-stands_for c =
    sym (c.loop-letters.invariant ∙ formed_stop c.loop-letters.letters.now c.loop-letters.bytes.now c.in-len1-up.len_at_least c.in-len1-up-bytes.len_at_least (sym c.stands_for.ensures ∙ c.if-not-stands_for.true))

pub loop-letters-preserved : goal.loop-letters-preserved
loop-letters-preserved c =
    c.loop-letters.invariant ∙ formed_step c.loop-letters.letters.now c.loop-letters.bytes.now c.in-len1-up.len_at_least c.in-len1-up-bytes.len_at_least (sym c.stands_for.ensures ∙ c.if-not-stands_for.false)

pub returns : goal.returns
returns c =
    sym (c.loop-letters.invariant ∙ formed_end c.loop-letters.letters.now c.loop-letters.bytes.now c.is_empty.result (omega (arith, c.in_default.len_below)) (sym c.is_empty.ensures))
