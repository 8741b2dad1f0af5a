use Rattle.std.proofs.Common.{◌∙◌, pos, ◌*ℤ◌, ◌≤ℤ◌, ◌<ℤ◌, arith, w32, w64}
use Rattle.std.proofs.lemmas.Int.{to_z-of_z}
use Rattle.jiff_core.proofs.SignedLemmas.{signed_arith}
use Rattle.civil_days.proofs.SeasonLemmas.{behind_is, ahead_is, neither_is, midnight_bits, window_fits}
use Rattle.civil_days.proofs.seasons.offset_by.Goals as goal

pub returns-then-season : goal.returns-then-season
returns-then-season c =
    let s = c.args.season in
    let fits = window_fits s.std s.dst s.start s.start_after s.end s.end_after s.window in
    let midnight = midnight_bits c.args.day c.from-at.result c.ranges.day c.requires.low c.requires.high c.from-at.ensures in
    let at = c.args.day *ℤ pos 86_400_000_000_000 in
    let std_is = to_z-of_z w32 s.std fits.std_fits in
    let dst_is = to_z-of_z w32 s.dst fits.dst_fits in
    let start_is = to_z-of_z w64 s.start fits.start_fits in
    let end_is = to_z-of_z w64 s.end fits.end_fits in
    let start_after_is = to_z-of_z w64 s.start_after fits.start_after_fits in
    let end_after_is = to_z-of_z w64 s.end_after fits.end_after_fits in
    let inside = rw (start_is, end_is, midnight) at c.in_window-in_window.ensures in
    let repeated = rw (start_after_is, start_is, midnight) at c.in_span-repeated.ensures in
    let skipped = rw (end_is, end_after_is, midnight) at c.in_span-skipped.ensures in
    let less : s.dst <ℤ s.std = omega (arith, signed_arith, rw (dst_is, std_is) at c.if-season.true) in
    let value = rw (dst_is, std_is) at c.behind.ensures in
    rw (to_z-of_z w32 c.behind.result (record { sfits = c.behind.type_inv }))
    (value ∙ behind_is s.std s.dst s.start s.start_after s.end s.end_after at c.in_window-in_window.result c.in_span-repeated.result c.in_span-skipped.result
    less s.window.start_moved s.window.end_moved inside repeated skipped)

pub returns-then-season-2 : goal.returns-then-season-2
returns-then-season-2 c =
    let s = c.args.season in
    let fits = window_fits s.std s.dst s.start s.start_after s.end s.end_after s.window in
    let midnight = midnight_bits c.args.day c.from-at.result c.ranges.day c.requires.low c.requires.high c.from-at.ensures in
    let at = c.args.day *ℤ pos 86_400_000_000_000 in
    let std_is = to_z-of_z w32 s.std fits.std_fits in
    let dst_is = to_z-of_z w32 s.dst fits.dst_fits in
    let start_is = to_z-of_z w64 s.start fits.start_fits in
    let end_is = to_z-of_z w64 s.end fits.end_fits in
    let start_after_is = to_z-of_z w64 s.start_after fits.start_after_fits in
    let inside = rw (start_is, end_is, midnight) at c.in_window-in_window.ensures in
    let skipped = rw (start_is, start_after_is, midnight) at c.in_span-skipped-then-season-2.ensures in
    let less : s.std <ℤ s.dst = omega (arith, signed_arith, rw (dst_is, std_is) at c.if-season-2.true) in
    let value = rw (dst_is, std_is) at c.ahead.ensures in
    rw (to_z-of_z w32 c.ahead.result (record { sfits = c.ahead.type_inv }))
    (value ∙ ahead_is s.std s.dst s.start s.start_after s.end at c.in_window-in_window.result c.in_span-skipped-then-season-2.result
    less s.window.start_moved inside skipped)

pub returns-else-season-2 : goal.returns-else-season-2
returns-else-season-2 c =
    let s = c.args.season in
    let fits = window_fits s.std s.dst s.start s.start_after s.end s.end_after s.window in
    let std_is = to_z-of_z w32 s.std fits.std_fits in
    let dst_is = to_z-of_z w32 s.dst fits.dst_fits in
    let low : s.std ≤ℤ s.dst = omega (arith, signed_arith, rw (dst_is, std_is) at c.if-season.false) in
    let high : s.dst ≤ℤ s.std = omega (arith, signed_arith, rw (dst_is, std_is) at c.if-season-2.false) in
    rw std_is (neither_is s.std s.dst (s.start, s.end) (c.args.day *ℤ pos 86_400_000_000_000) low high)
