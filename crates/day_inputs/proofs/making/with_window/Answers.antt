-- By the ends of the window.
use Rattle.std.specs.Prelude.{◌≡◌, Bool, List, false, not, ◌&&◌, Option, is_none, is_some, ℤ}
use Rattle.std.proofs.Common.{refl, ap, sym, ◌∙◌}
use Rattle.curves.specs.declared.entries.Entry.{Entry}
use Rattle.curves.specs.Series.{Contents}
use Rattle.curves.specs.Corrections.{entries_of}
use Rattle.day_inputs.specs.DayInputs.{bearing_on, least_on, parts_on, window_ends}
use Rattle.day_inputs.proofs.WindowEnds.{and_false, end_stamp, made}
use Rattle.day_inputs.proofs.making.with_window.Goals.{else-is_none-via-then-is_none+else-is_none-2, else-is_none-via-else-is_none}
use Rattle.day_inputs.proofs.making.with_window.Goals as goal

on_set : {s t : Contents} (span : Option (ℤ × ℤ)) → s ≡ t → bearing_on span s.entries ≡ bearing_on span t.entries
on_set span e = ap (λ (s : Contents). bearing_on span s.entries) e

is_told : {A : Type 0} (o : Option A) (r : Bool) → is_some o ≡ not r → r ≡ false → is_none o ≡ false
is_told o r e f = ap not e ∙ ap (λ (b : Bool). not (not b)) f

pub cut_parts-requires : goal.cut_parts-requires
cut_parts-requires c =
    let w : c.as_slice.result.now ≡ c.args.window.items = c.as_slice.ensures.value in
    rw (c.ends-span.ensures, w) (end_stamp c.args.window.items c.requires)

pub returns : goal.returns
returns c =
    let w : c.as_slice.result.now ≡ c.args.window.items = c.as_slice.ensures.value in
    let some : (is_none c.ends-span.result && is_none c.args.estimate) ≡ false =
    elim c.else-is_none.branch [
      | else-is_none-via-then-is_none+else-is_none-2 w ↦ ap (λ (b : Bool). is_none c.ends-span.result && b) (is_told c.args.estimate w.is_none-then-is_none.result w.is_none-then-is_none.ensures w.if-is_none-2.false) ∙ and_false (is_none c.ends-span.result)
      | else-is_none-via-else-is_none w ↦ ap (λ (b : Bool). b && is_none c.args.estimate) (is_told c.ends-span.result c.is_none.result c.is_none.ensures w.if-is_none.false)
    ] in
    let span = c.ends-span.result in
    let found : span ≡ window_ends c.args.window.items = c.ends-span.ensures ∙ ap window_ends w in
    let corrections = entries_of c.args.corrections.now in
    let shifts = c.args.shifts.now.series.entries in
    let ratings = c.args.ratings.now.ratings in
    let count = λ (e : List Entry). ap (λ (o : Option (ℤ × ℤ)). bearing_on o e) found in
    made c.args.settings.gap c.args.settings.stage_array c.args.settings.discharge_array c.args.from c.args.until corrections shifts ratings c.args.estimate c.args.least
    c.args.window.items _ (ap (λ (o : Option (ℤ × ℤ)). is_none o && is_none c.args.estimate) (sym found) ∙ some) (
      refl,
      (
        refl,
        (
          refl,
          (
            refl,
            (
              refl,
              (
                c.from_vec.ensures,
                (
                  c.in_ok-bearing_list.ensures ∙ on_set span c.set.ensures ∙ count corrections.first,
                  (
                    c.in_ok-bearing_list-2.ensures ∙ on_set span c.set-2.ensures ∙ count corrections.second,
                    (
                      c.in_ok-bearing_list-3.ensures ∙ on_set span c.set-3.ensures ∙ count corrections.third,
                      (
                        c.in_ok-bearing_list-4.ensures ∙ on_set span c.series.ensures ∙ count shifts,
                        (c.in_ok-cut_parts.ensures ∙ ap (λ (o : Option (ℤ × ℤ)). parts_on o ratings) found, (refl, c.least_of.ensures ∙ ap (λ (o : Option (ℤ × ℤ)). least_on o c.args.least) found)),
                      ),
                    ),
                  ),
                ),
              ),
            ),
          ),
        ),
      ),
    )
