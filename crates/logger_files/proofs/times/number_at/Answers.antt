-- A turn passes one byte of both.
use Rattle.std.proofs.Common.{◌∙◌, sym, arith, inl, inr}
use Rattle.logger_files.proofs.TimeLemmas.{number_end, number_step, number_stop}
use Rattle.logger_files.proofs.times.number_at.Goals as goal

pub returns-in_default-bytes-clause-value : goal.returns-in_default-bytes-clause-value
returns-in_default-bytes-clause-value c =
    sym (c.loop-letters.invariant.left ∙ number_end c.loop-letters.number c.args.letter c.loop-letters.letters.now c.loop-letters.bytes.now (inr (omega (arith, c.in_default-bytes.len_below))))

pub returns-in_err-number-clause-value : goal.returns-in_err-number-clause-value
returns-in_err-number-clause-value c =
    c.from_residual.ensures ∙ sym (c.loop-letters.invariant.left ∙ number_stop c.loop-letters.number c.args.letter c.loop-letters.letters.now c.loop-letters.bytes.now c.in-len1-up.len_at_least c.in-len1-up-bytes.len_at_least (sym c.in_err-number.ensures.value))

pub loop-letters-preserved : goal.loop-letters-preserved
loop-letters-preserved c =
    record {
      left = c.loop-letters.invariant.left ∙ number_step c.loop-letters.number c.args.letter c.in_ok-number.number c.loop-letters.letters.now c.loop-letters.bytes.now c.in-len1-up.len_at_least c.in-len1-up-bytes.len_at_least (sym c.in_ok-number.ensures.value);
      bound = c.in_ok-number.ensures.bound;
    }

pub returns-clause-value : goal.returns-clause-value
returns-clause-value c =
    sym (c.loop-letters.invariant.left ∙ number_end c.loop-letters.number c.args.letter c.loop-letters.letters.now c.loop-letters.bytes.now (inl (omega (arith, c.in_default.len_below))))
