use Rattle.std.proofs.Common.{◌≡◌, refl, arith, ℤ, pos, ◌+ℤ◌, ◌-ℤ◌, ◌*ℤ◌, FitsSigned, to_z, of_z, w32, w64}
use Rattle.std.proofs.lemmas.Int.{to_z-of_z}
use Rattle.jiff_core.proofs.SignedLemmas.{signed_arith}
use Rattle.jiff_core.specs.Timestamp.{IsOffsetSeconds}
use Rattle.civil_days.proofs.SeasonLemmas.{window_by}
use Rattle.civil_days.specs.Years.{IsYearNanos}
use Rattle.civil_days.proofs.seasons.season_by.Goals as goal

-- how far the clock is moved, without its bits
by_bits : (std dst f g : ℤ) → f ≡ to_z w32 (of_z w32 dst) → g ≡ to_z w32 (of_z w32 std) → FitsSigned w32 std → FitsSigned w32 dst → IsOffsetSeconds std
    → IsOffsetSeconds dst
    → to_z w64 (of_z w64 (to_z w64 (of_z w64 (to_z w64 (of_z w64 f) -ℤ to_z w64 (of_z w64 g))) *ℤ pos 1000000000)) ≡ (dst -ℤ std) *ℤ pos 1_000_000_000
by_bits std dst f g e h std_fits dst_fits p q =
    let dst_wide : FitsSigned w64 dst = omega (arith, signed_arith) in
    let std_wide : FitsSigned w64 std = omega (arith, signed_arith) in
    let less : FitsSigned w64 (dst -ℤ std) = omega (arith, signed_arith) in
    let all : FitsSigned w64 ((dst -ℤ std) *ℤ pos 1_000_000_000) = omega (arith, signed_arith) in
    rw (
      e,
      h,
      to_z-of_z w32 dst dst_fits,
      to_z-of_z w32 std std_fits,
      to_z-of_z w64 dst dst_wide,
      to_z-of_z w64 std std_wide,
      to_z-of_z w64 (dst -ℤ std) less,
      to_z-of_z w64 ((dst -ℤ std) *ℤ pos 1_000_000_000) all,
    )
    refl

sum_fits : (std dst n : ℤ) → IsOffsetSeconds std → IsOffsetSeconds dst → IsYearNanos n → FitsSigned w64 (n +ℤ (dst -ℤ std) *ℤ pos 1_000_000_000)
sum_fits std dst n p q h = omega (arith, signed_arith)

less_fits : (std dst n : ℤ) → IsOffsetSeconds std → IsOffsetSeconds dst → IsYearNanos n → FitsSigned w64 (n -ℤ (dst -ℤ std) *ℤ pos 1_000_000_000)
less_fits std dst n p q h = omega (arith, signed_arith)

pub overflow_add-result : goal.overflow_add-result
overflow_add-result c =
    let by = by_bits c.args.std c.args.dst c.from.result c.from-2.result c.from.ensures c.from-2.ensures c.ranges.std c.ranges.dst c.requires.std_in c.requires.dst_in in
    rw (by, to_z-of_z w64 c.args.start c.ranges.start) (sum_fits c.args.std c.args.dst c.args.start c.requires.std_in c.requires.dst_in c.requires.start_in)

pub overflow_sub-result : goal.overflow_sub-result
overflow_sub-result c =
    let by = by_bits c.args.std c.args.dst c.from.result c.from-2.result c.from.ensures c.from-2.ensures c.ranges.std c.ranges.dst c.requires.std_in c.requires.dst_in in
    rw (by, to_z-of_z w64 c.args.end c.ranges.end) (less_fits c.args.std c.args.dst c.args.end c.requires.std_in c.requires.dst_in c.requires.end_in)

pub invariant_of-result : goal.invariant_of-result
invariant_of-result c =
    let by = by_bits c.args.std c.args.dst c.from.result c.from-2.result c.from.ensures c.from-2.ensures c.ranges.std c.ranges.dst c.requires.std_in c.requires.dst_in in
    let start_fits = sum_fits c.args.std c.args.dst c.args.start c.requires.std_in c.requires.dst_in c.requires.start_in in
    let end_fits = less_fits c.args.std c.args.dst c.args.end c.requires.std_in c.requires.dst_in c.requires.end_in in
    record {
      window =
          rw (
            by,
            to_z-of_z w32 c.args.std c.ranges.std,
            to_z-of_z w32 c.args.dst c.ranges.dst,
            to_z-of_z w64 c.args.start c.ranges.start,
            to_z-of_z w64 c.args.end c.ranges.end,
            to_z-of_z w64 (c.args.start +ℤ (c.args.dst -ℤ c.args.std) *ℤ pos 1_000_000_000) start_fits,
            to_z-of_z w64 (c.args.end -ℤ (c.args.dst -ℤ c.args.std) *ℤ pos 1_000_000_000) end_fits,
          )
          (window_by c.args.std c.args.dst c.args.start c.args.end ((c.args.dst -ℤ c.args.std) *ℤ pos 1_000_000_000) c.requires.std_in c.requires.dst_in c.requires.start_in c.requires.end_in refl);
    }
