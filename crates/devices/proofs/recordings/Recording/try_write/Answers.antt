use Rattle.std.proofs.Common.{◌≡◌, ℕ, List, [], ◌∷◌, ◌++◌, sym, ◌∙◌, ap, rules}
use Rattle.devices.specs.Disks.{overwritten}
use Rattle.devices.specs.declared.recordings.Change.TheVariants.{Wrote}
use Rattle.devices.specs.declared.recordings.Step.{Step}
use Rattle.devices.proofs.Replays.{replayed-push}
use Rattle.devices.proofs.StopLemmas.{within-push}
use Rattle.devices.proofs.recordings.Recording.try_write.Goals as goal

pub invariant_of-self-2 : goal.invariant_of-self-2
invariant_of-self-2 c =
    let step : Step = record { failed = c.args.failed; change = Wrote (record { at = c.args.at; count = c.args.count; left = c.args.left.now }) } in
    let steps : c.push_reserved.new.self.items ≡ c.self.inside.steps.items ++ step ∷ [] = search rules in
    let written : c.overwrite.new.content.items ≡ overwritten c.self.inside.bytes.items c.args.at c.args.left.now = search rules in
    let first = c.self.inside.first.items in
    let before = c.self.inside.steps.items in
    rw steps (record {
      content = written ∙ ap (λ (l : List ℕ). overwritten l c.args.at c.args.left.now) c.self.invariant.content ∙ sym (replayed-push first before step);
      within = within-push first before step c.self.invariant.within
          (record { begins = search rules; ends = c.requires.ends; front = c.requires.front });
    })
