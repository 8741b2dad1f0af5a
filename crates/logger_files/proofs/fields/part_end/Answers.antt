-- A turn passes one byte.
use Rattle.std.proofs.Common.{◌<◌, ◌≤◌, ◌∙◌, sym, length, arith}
use Rattle.std.proofs.lemmas.Bool.Decides.{nat_tests}
use Rattle.logger_files.proofs.PartLemmas.{parts_at_end, parts_here, parts_more, parts_start}
use Rattle.logger_files.proofs.fields.part_end.Goals as goal

pub loop-end-init : goal.loop-end-init
loop-end-init c = record { within = omega arith; parted = parts_start c.args.separator c.args.text.now }

pub returns-then-is_end-clause-parts : goal.returns-then-is_end-clause-parts
returns-then-is_end-clause-parts c =
    let within : c.loop-end.end < length c.args.text.now = grind (arith, nat_tests) in
    parts_here c.args.separator c.args.text.now c.loop-end.end c.loop-end.quoted within (sym c.is_end.ensures ∙ c.if-is_end.true) c.loop-end.invariant.parted

pub loop-end-preserved : goal.loop-end-preserved
loop-end-preserved c =
    let within : c.loop-end.end < length c.args.text.now = grind (arith, nat_tests) in
    record {
      within = omega arith;
      parted = rw c.quoted_behind-quoted.ensures (parts_more c.args.separator c.args.text.now c.loop-end.end c.loop-end.quoted within (sym c.is_end.ensures ∙ c.if-is_end.false) c.loop-end.invariant.parted);
    }

pub returns-clause-parts : goal.returns-clause-parts
returns-clause-parts c =
    let end : length c.args.text.now ≤ c.loop-end.end = grind (arith, nat_tests) in
    parts_at_end c.args.separator c.args.text.now c.loop-end.end c.loop-end.quoted end c.loop-end.invariant.parted
