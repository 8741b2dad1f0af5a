-- The event that is recorded.
use Rattle.history.specs.Events.{Event, Accepted, Published, Faulted}
use Rattle.history.specs.declared.recorded.Kind.{Kind}
use Rattle.history.specs.declared.recorded.Kind.TheVariants.{WasAccepted, WasPublished, WasFaulted}

abbrev pub event_of : Kind → Event
event_of (WasAccepted piece) = Accepted piece.value
event_of (WasPublished site day) = Published site day
event_of (WasFaulted doubt) = Faulted doubt.value
