use Rattle.std.specs.Prelude.{None, option_map}
use Rattle.std.proofs.Common.{refl, sym}
use Rattle.devices.specs.Loopback.{counts_told, untold}
use Rattle.devices.proofs.Connections.{is_given}
use Rattle.devices.proofs.loopback.LoopbackDoorsDoors.next.Goals as goal

pub returns-in-Some-clause-given : goal.returns-in-Some-clause-given
returns-in-Some-clause-given c =
    let given = c.in-Some.ensures.given in
    is_given (λ _. untold) (λ place. option_map counts_told place) c.args.self.now.places.items c.open.new.self.places.items None _ given.0 (sym given.1) refl
