use Rattle.std.proofs.Common.{◌≡◌, ◌∙◌, ℤ, pos, ◌*ℤ◌, ◌≤ℤ◌, ◌<ℤ◌, arith, FitsSigned, w32, w64}
use Rattle.std.proofs.lemmas.Int.{to_z-of_z}
use Rattle.jiff_core.proofs.SignedLemmas.{signed_arith}
use Rattle.jiff_tz.specs.PosixText.{TzText, tz_view, dst_view}
use Rattle.civil_days.proofs.SeasonLemmas.{with_dst, with_none}
use Rattle.civil_days.specs.Rule.{moment, seconds_by}
use Rattle.civil_days.specs.Seasons.{IsSeason}
use Rattle.civil_days.specs.Starts.{offset_on}
use Rattle.civil_days.specs.declared.seasons.Season.{Season}
use Rattle.civil_days.proofs.stretches.season_of.Goals as goal

of_parts : (rule : TzText) (s : Season) (first next std dst start end : ℤ) → s.first ≡ first → s.next ≡ next → s.std ≡ std → s.dst ≡ dst → s.start ≡ start
    → s.end ≡ end
    → ((day : ℤ) → first ≤ℤ day → day <ℤ next → offset_on rule day ≡ seconds_by std dst (start, end) (day *ℤ pos 86_400_000_000_000))
    → IsSeason rule s
of_parts rule s first next std dst start end a b c d e f offsets = record {
  offsets = λ day low high.
      let from : first ≤ℤ day = rw a at low in
      let until : day <ℤ next = rw b at high in
      rw (c, d, e, f) (offsets day from until);
}

pub returns-in-Some-clause-season : goal.returns-in-Some-clause-season
returns-in-Some-clause-season c =
    let year = c.year_of-year.result in
    let dst = c.in-Some.dst in
    let rule = c.args.rule.now in
    let std_in = rule.std_offset.in_range in
    let dst_in = dst.offset.in_range in
    let std_fits : FitsSigned w32 rule.std_offset.seconds = omega (arith, signed_arith) in
    let dst_fits : FitsSigned w32 dst.offset.seconds = omega (arith, signed_arith) in
    let std_is = rw (to_z-of_z w32 rule.std_offset.seconds std_fits) at c.season_by.ensures.std in
    let dst_is = rw (to_z-of_z w32 dst.offset.seconds dst_fits) at c.season_by.ensures.dst in
    let start_is = rw (to_z-of_z w64 c.moment.result (record { sfits = c.moment.type_inv })) at c.season_by.ensures.start in
    let end_is = rw (to_z-of_z w64 c.moment-in-Some.result (record { sfits = c.moment-in-Some.type_inv })) at c.season_by.ensures.end in
    of_parts (tz_view rule) c.season_by.result year.first year.next rule.std_offset.seconds dst.offset.seconds
    (moment year.number (dst_view dst).start) (moment year.number (dst_view dst).finish)
    c.season_by.ensures.first c.season_by.ensures.next std_is dst_is (start_is ∙ c.moment.ensures.value) (end_is ∙ c.moment-in-Some.ensures.value)
    (λ day low high. with_dst rule dst year.number year.first year.next day c.in-Some.is year.is low high)

pub returns-in-None-clause-season : goal.returns-in-None-clause-season
returns-in-None-clause-season c =
    let year = c.year_of-year.result in
    let rule = c.args.rule.now in
    let std_in = rule.std_offset.in_range in
    let std_fits : FitsSigned w32 rule.std_offset.seconds = omega (arith, signed_arith) in
    let std_is = rw (to_z-of_z w32 rule.std_offset.seconds std_fits) at c.season_by-in-None.ensures.std in
    let dst_is = rw (to_z-of_z w32 rule.std_offset.seconds std_fits) at c.season_by-in-None.ensures.dst in
    of_parts (tz_view rule) c.season_by-in-None.result year.first year.next rule.std_offset.seconds rule.std_offset.seconds (pos 0) (pos 0)
    c.season_by-in-None.ensures.first c.season_by-in-None.ensures.next std_is dst_is c.season_by-in-None.ensures.start c.season_by-in-None.ensures.end
    (λ day low high. with_none rule (pos 0, pos 0) day c.in-None.is)
