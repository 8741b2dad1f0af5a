use Rattle.std.proofs.Common.{◌≡◌, inl, inr, Bool, true, false, sym, ◌∙◌, ap, subst, rules}
use Rattle.devices.specs.Disks.{Only}
use Rattle.devices.specs.MemoryDisks.{Recorded, content_of, images_of, with_step, IsNoted, DidNothing}
use Rattle.devices.specs.declared.recordings.Change.{Change}
use Rattle.devices.specs.declared.recordings.Change.TheVariants.{Nothing}
use Rattle.devices.proofs.Insides.{was, leaves_content}
use Rattle.devices.proofs.Replays.{synced_only}
use Rattle.devices.proofs.memory_disk.MemoryDisk.call.Goals as goal

did_nothing : (listed : Bool) (old was new : Recorded) → was ≡ old → IsNoted listed (record { failed = true; change = Nothing }) was new → DidNothing old new
did_nothing listed old was new same noted = kept listed (subst (λ (r : Recorded). IsNoted listed (record { failed = true; change = Nothing }) r new) same noted) where
  kept : (b : Bool) → IsNoted b (record { failed = true; change = Nothing }) old new → DidNothing old new
  kept true h = inl h
  kept false h = inr h

pub returns-then-fails_next-clause-nothing : goal.returns-then-fails_next-clause-nothing
returns-then-fails_next-clause-nothing c = did_nothing c.list.result c.args.self.now.recorded c.self.inside.recording c.list.new.self (was c.self.view_is) c.list.ensures.noted

pub returns-then-fails_next-clause-left : goal.returns-then-fails_next-clause-left
returns-then-fails_next-clause-left c =
    leaves_content c.args.self.now.recorded c.self.inside.recording c.list.new.self (was c.self.view_is)
    c.list.ensures.same c.list.ensures.images c.list.ensures.time

pub returns-then-not-list-clause-left : goal.returns-then-not-list-clause-left
returns-then-not-list-clause-left c =
    leaves_content c.args.self.now.recorded c.self.inside.recording c.list-2.new.self (was c.self.view_is)
    c.list-2.ensures.same c.list-2.ensures.images c.list-2.ensures.time

pub returns-clause-left : goal.returns-clause-left
returns-clause-left c =
    leaves_content c.args.self.now.recorded c.self.inside.recording c.list-2.new.self (was c.self.view_is)
    c.list-2.ensures.same c.list-2.ensures.images c.list-2.ensures.time

pub returns-clause-durable : goal.returns-clause-durable
returns-clause-durable c synced =
    let old : Recorded = c.args.self.now.recorded in
    let is : c.list-2.new.self ≡ with_step (record { failed = false; change = c.args.change }) old = search rules in
    let sync = is ∙ ap (λ (change : Change). with_step (record { failed = false; change = change }) old) synced in
    subst (λ (new : Recorded). Only (content_of old) (images_of new)) (sym sync) (synced_only old false)
