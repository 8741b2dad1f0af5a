use Rattle.std.proofs.Common.{rules, ◌≡◌, ◌∙◌, ◌+◌, ◌<◌, ◌≤ℤ◌, ◌<ℤ◌, ap, length, FitsSigned, w32}
use Rattle.civil_days.proofs.RunLemmas.{kept_second, kept_near}
use Rattle.std.proofs.lemmas.Int.{to_z-of_z}
use Rattle.civil_days.specs.Runs.{first_at}
use Rattle.civil_days.specs.Starts.{day_start_of}
use Rattle.civil_days.proofs.zones.StationZone.start_at.Goals as goal

pub returns : goal.returns
returns c =
    let fits : FitsSigned w32 c.args.day = c.ranges.day in
    let offset_fits : FitsSigned w32 c.index-run.result.now.offset = search rules in
    let from : c.from.result ≡ c.args.day = rw (to_z-of_z w32 c.args.day fits) at c.from.ensures in
    let offset : c.from-2.result ≡ c.index-run.result.now.offset = rw (to_z-of_z w32 c.index-run.result.now.offset offset_fits) at c.from-2.ensures in
    let place : c.run_at.result < length c.self.inside.runs.items = rw c.as_slice.ensures.value at c.run_at.ensures.place in
    let first : first_at c.self.inside.runs.items c.run_at.result ≤ℤ c.args.day =
    rw (c.as_slice.ensures.value, to_z-of_z w32 c.args.day fits) at c.run_at.ensures.from in
    let until : c.run_at.result + 1 < length c.self.inside.runs.items → c.args.day <ℤ first_at c.self.inside.runs.items (c.run_at.result + 1) =
    rw (c.as_slice.ensures.value, to_z-of_z w32 c.args.day fits) at c.run_at.ensures.until in
    let kept = kept_second c.self.inside.text c.self.inside.runs.items c.args.day c.run_at.result c.index-run.result.now
    c.self.invariant.starts c.requires.low c.requires.high place first until c.index-run.ensures in
    let text : c.self.inside.text ≡ c.args.self.now = c.self.view_is in
    let near = kept_near c.self.inside.text c.self.inside.runs.items c.args.day c.self.invariant.starts c.requires.low c.requires.high in
    record {
      start = rw (from, offset) kept.0 ∙ ap (λ t. day_start_of t c.args.day) text;
      near = rw text at near;
      second = rw (from, offset) kept.1;
    }
