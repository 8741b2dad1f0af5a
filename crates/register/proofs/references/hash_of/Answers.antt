use Rattle.std.proofs.Common.{refl}
use Rattle.register.specs.References.{hash_of}
use Rattle.register.proofs.references.hash_of.Goals as goal

pub returns : goal.returns
unfolding hash_of
returns c = rw (c.finish.ensures, c.write.ensures, c.default-hasher.ensures) refl
