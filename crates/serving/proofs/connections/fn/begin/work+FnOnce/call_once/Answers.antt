use Rattle.std.proofs.Common.{rules}
use Rattle.serving.proofs.connections.fn.begin.work+FnOnce.call_once.Goals as goal

pub work-requires : goal.work-requires
work-requires g c = (search rules, (search rules, (search rules, (search rules, (search rules, (search rules, (search rules, (search rules, (search rules, (search rules, (search rules, (search rules, search rules))))))))))))
