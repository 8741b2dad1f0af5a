use Rattle.std.proofs.Common.{◌≡◌, rules}
use Rattle.devices.specs.MemoryDisks.{with_step}
use Rattle.devices.specs.Writes.{Written}
use Rattle.devices.specs.declared.recordings.Change.TheVariants.{Wrote}
use Rattle.devices.specs.declared.recordings.Step.{Step}
use Rattle.devices.proofs.Replays.{replayed-push, wrote_images, step_time}
use Rattle.devices.proofs.recordings.Recording.write.Goals as goal

pub returns-then-is_ok-clause-written : goal.returns-then-is_ok-clause-written
returns-then-is_ok-clause-written c _ =
    let step : Step = record { failed = c.args.failed; change = Wrote (record { at = c.args.at; count = c.args.count; left = c.args.left.now }) } in
    let is : c.try_write.new.self ≡ with_step step c.args.self.now = search rules in
    rw is (replayed-push c.args.self.now.first c.args.self.now.steps step)

pub returns-then-is_ok-clause-images : goal.returns-then-is_ok-clause-images
returns-then-is_ok-clause-images c =
    let write : Written = record { at = c.args.at; count = c.args.count; left = c.args.left.now } in
    let step : Step = record { failed = c.args.failed; change = Wrote write } in
    let is : c.try_write.new.self ≡ with_step step c.args.self.now = search rules in
    rw is (wrote_images c.args.self.now c.args.failed write c.requires.begins c.requires.front)

pub returns-then-is_ok-clause-time : goal.returns-then-is_ok-clause-time
returns-then-is_ok-clause-time c =
    let step : Step = record { failed = c.args.failed; change = Wrote (record { at = c.args.at; count = c.args.count; left = c.args.left.now }) } in
    let is : c.try_write.new.self ≡ with_step step c.args.self.now = search rules in
    rw is (step_time c.args.self.now step)
