use Rattle.std.specs.Prelude.{count_by}
use Rattle.desk.proofs.CountedLemmas.{rose_by}
use Rattle.told_edits.proofs.FaultLemmas.{all_told}
use Rattle.told_edits.proofs.laws.no_more_failed_lines_than_faults.Goals as goal
use Rattle.told_edits.specs.Lines.{tells_fault_line}

pub returns : goal.returns
returns g c = λ end h after edits lines old new sent passes.
    rose_by g.D.Disk h after (count_by tells_fault_line lines) old new (all_told end h edits lines after sent) passes
