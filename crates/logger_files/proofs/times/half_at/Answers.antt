-- A turn passes one byte.
use Rattle.std.proofs.Common.{◌≡◌, ◌∙◌, sym, true, false, ◌==◌, arith, inl, inr}
use Rattle.std.proofs.lemmas.Bool.Decides.{nat_tests}
use Rattle.logger_files.proofs.TimeLemmas.{first_of, half_end, half_step, half_stop}
use Rattle.logger_files.proofs.times.half_at.Goals as goal

pub returns-in_default-bytes : goal.returns-in_default-bytes
returns-in_default-bytes c =
    sym (c.loop-letters.invariant ∙ half_end c.loop-letters.letters.now c.loop-letters.bytes.now (inr (omega (arith, c.in_default-bytes.len_below))))

pub returns-then-it-eq97 : goal.returns-then-it-eq97
returns-then-it-eq97 c =
    let test : (first_of c.loop-letters.letters.now == 97) ≡ true = grind (arith, nat_tests) in
    sym (c.loop-letters.invariant ∙ half_stop c.loop-letters.letters.now c.loop-letters.bytes.now c.in-len1-up.len_at_least c.in-len1-up-bytes.len_at_least test)

pub loop-letters-preserved : goal.loop-letters-preserved
loop-letters-preserved c =
    let test : (first_of c.loop-letters.letters.now == 97) ≡ false = grind (arith, nat_tests) in
    c.loop-letters.invariant ∙ half_step c.loop-letters.letters.now c.loop-letters.bytes.now c.in-len1-up.len_at_least c.in-len1-up-bytes.len_at_least test

pub returns : goal.returns
returns c = sym (c.loop-letters.invariant ∙ half_end c.loop-letters.letters.now c.loop-letters.bytes.now (inl (omega (arith, c.in_default.len_below))))
