use Rattle.desk.proofs.CountedLemmas.{rose_by_told}
use Rattle.desk.proofs.laws.no_more_503s_than_faults.Goals as goal

pub returns : goal.returns
returns g c = λ h after messages replies old new told passes. rose_by_told g.D.Disk h after messages replies old new told passes
