use Rattle.std.proofs.Common.{◌≡◌, ◌∙◌, sym, subst, ℤ, pos, ◌*ℤ◌, ◌≤ℤ◌, ◌<ℤ◌, arith, FitsSigned, w32, w64}
use Rattle.std.proofs.lemmas.Int.{to_z-of_z}
use Rattle.jiff_core.proofs.SignedLemmas.{signed_arith}
use Rattle.jiff_tz.specs.PosixText.{TzText, tz_view}
use Rattle.civil_days.proofs.SeasonLemmas.{one_side, seconds_in, window_fits}
use Rattle.civil_days.specs.Rule.{seconds_by}
use Rattle.civil_days.specs.Seasons.{IsSeason, IsStretch}
use Rattle.civil_days.specs.Years.{IsOneSide}
use Rattle.civil_days.specs.declared.seasons.Season.{Season}
use Rattle.civil_days.proofs.stretches.stretch_from.Goals as goal

-- the midnights from a day up to the next one lie on the same side of a change
abbrev IsSame : ℤ → ℤ → ℤ → Type 0
IsSame change day next = (later : ℤ) → day ≤ℤ later → later <ℤ next → IsOneSide change (day *ℤ pos 86_400_000_000_000) (later *ℤ pos 86_400_000_000_000)

of_changes : (rule : TzText) (s : Season) (day a b e n offset : ℤ) → IsSeason rule s → s.first ≤ℤ day → s.next ≤ℤ pos 48_000 → day <ℤ n → n ≤ℤ e → e ≤ℤ b
    → b ≤ℤ a → a ≤ℤ s.next → IsSame s.start day a → IsSame s.start_after day b → IsSame s.end day e → IsSame s.end_after day n
    → offset ≡ seconds_by s.std s.dst (s.start, s.end) (day *ℤ pos 86_400_000_000_000)
    → IsStretch rule (record { first = day; next = n; offset = offset })
of_changes rule s day a b e n offset season first most some n_e e_b b_a a_next start start_after end end_after is = record {
  some = some;
  most = omega (arith, signed_arith);
  offset_in = rw is (seconds_in s.std s.dst (s.start, s.end) (day *ℤ pos 86_400_000_000_000) s.window.std_in s.window.dst_in);
  offsets = λ d low high.
      let at : ℤ = day *ℤ pos 86_400_000_000_000 in
      let later : ℤ = d *ℤ pos 86_400_000_000_000 in
      let from : s.first ≤ℤ d = omega (arith, signed_arith) in
      let until : d <ℤ s.next = omega (arith, signed_arith) in
      let to_a : d <ℤ a = omega (arith, signed_arith) in
      let to_b : d <ℤ b = omega (arith, signed_arith) in
      let to_e : d <ℤ e = omega (arith, signed_arith) in
      season.offsets d from until
      ∙ one_side s.std s.dst s.start s.end at later (start d low to_a)
      (subst (λ (change : ℤ). IsOneSide change at later) s.window.start_moved (start_after d low to_b))
      (end d low to_e)
      (subst (λ (change : ℤ). IsOneSide change at later) s.window.end_moved (end_after d low high))
      ∙ sym is;
}

pub returns-clause-stretch : goal.returns-clause-stretch
returns-clause-stretch c =
    let s = c.season_of-season.result in
    let day = c.args.day in
    let fits = window_fits s.std s.dst s.start s.start_after s.end s.end_after s.window in
    let day_is = to_z-of_z w32 day c.ranges.day in
    let a_is = to_z-of_z w32 c.next_at-start.result (record { sfits = c.next_at-start.type_inv }) in
    let b_is = to_z-of_z w32 c.next_at-start_after.result (record { sfits = c.next_at-start_after.type_inv }) in
    let e_is = to_z-of_z w32 c.next_at-end.result (record { sfits = c.next_at-end.type_inv }) in
    let n_is = to_z-of_z w32 c.next_at-end_after.result (record { sfits = c.next_at-end_after.type_inv }) in
    let first = rw day_is at c.season_of-season.ensures.from in
    let low = c.requires.low in
    let until = rw day_is at c.season_of-season.ensures.until in
    let most = c.season_of-season.ensures.most in
    let next_fits : FitsSigned w32 s.next = omega (arith, signed_arith) in
    let some = rw day_is at c.next_at-end_after.ensures.some in
    let n_e = rw e_is at c.next_at-end_after.ensures.most in
    let e_b = rw b_is at c.next_at-end.ensures.most in
    let b_a = rw a_is at c.next_at-start_after.ensures.most in
    let a_next = rw (to_z-of_z w32 s.next next_fits) at c.next_at-start.ensures.most in
    let start = rw (day_is, to_z-of_z w64 s.start fits.start_fits) at c.next_at-start.ensures.same in
    let start_after = rw (day_is, to_z-of_z w64 s.start_after fits.start_after_fits) at c.next_at-start_after.ensures.same in
    let end = rw (day_is, to_z-of_z w64 s.end fits.end_fits) at c.next_at-end.ensures.same in
    let end_after = rw (day_is, to_z-of_z w64 s.end_after fits.end_after_fits) at c.next_at-end_after.ensures.same in
    let offset_is = rw day_is at c.offset_by.ensures in
    rw (day_is, n_is, to_z-of_z w32 c.offset_by.result (record { sfits = c.offset_by.type_inv }))
    (of_changes (tz_view c.args.rule.now) s day c.next_at-start.result c.next_at-start_after.result c.next_at-end.result c.next_at-end_after.result c.offset_by.result
    c.season_of-season.ensures.season first most some n_e e_b b_a a_next start start_after end end_after offset_is)
