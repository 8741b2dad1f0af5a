use Rattle.std.proofs.Common.{◌≡◌, drop}
use Rattle.devices.specs.Stops.{AreWithin, Suits, left_after}
use Rattle.devices.proofs.recordings.Recording.stopped.Given as goal

abbrev pub invariant-loop-step : goal.invariant-loop-step
invariant-loop-step l = record {
  left : left_after l.fn.unsynced l.image.items l.content.items (drop l.step-index l.step-items) ≡ left_after l.fn.unsynced l.fn.self.first l.fn.self.first l.step-items;
  within : AreWithin l.content.items (drop l.step-index l.step-items);
  suits : Suits l.fn.unsynced l.image.items l.content.items;
}
