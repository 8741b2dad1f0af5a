-- What was read is the edit, or nothing was read.
use Rattle.std.proofs.Common.{Err, ap}
use Rattle.edit_bodies.specs.declared.faults.BodyFault.{BodyFault}
use Rattle.edit_bodies.specs.declared.faults.BodyFault.TheVariants.{Json, Body}
use Rattle.ledger.proofs.ReadLemmas.{found_back, not_back}
use Rattle.ledger.proofs.requests.is_read_back.Goals as goal

pub returns-in-Ok : goal.returns-in-Ok
returns-in-Ok c = found_back c.args.body.now c.in-Ok.found c.args.edit.now c.is_same.result c.in-Ok.ensures.edit c.is_same.ensures.equal

pub returns-in-Err-Json : goal.returns-in-Err-Json
returns-in-Err-Json c = not_back c.args.body.now c.args.edit.now Json (c.in-Err-Json.ensures.json (ap (λ (f : BodyFault). Err f) c.in-Err-Json.field-0-is))

pub returns-in-Err-Body : goal.returns-in-Err-Body
returns-in-Err-Body c = not_back c.args.body.now c.args.edit.now (Body _) (c.in-Err-Body.ensures.member _ (ap (λ (f : BodyFault). Err f) c.in-Err-Body.field-0-is))
