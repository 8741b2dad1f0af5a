use Rattle.std.specs.Prelude.{◌-◌, Some, option_map}
use Rattle.std.proofs.Common.{arith, refl}
use Rattle.devices.specs.Loopback.{counts_told, untold}
use Rattle.devices.proofs.Connections.{is_back}
use Rattle.devices.proofs.loopback.LoopbackDoorsDoors.take_back.Goals as goal

pub returns-clause-back : goal.returns-clause-back
returns-clause-back c =
    let first = c.requires.first in
    is_back (λ _. untold) (λ place. option_map counts_told place) c.args.self.now.places.items c.args.number (c.args.number - 1)
    (Some c.args.back) (counts_told c.args.back) (omega (arith, first)) c.requires.given (λ p at. refl) refl
