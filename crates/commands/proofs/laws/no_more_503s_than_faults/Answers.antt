use Rattle.commands.proofs.FailingLemmas.{alone_counted, beside_counted, line_counted, lines_counted, serve_counted}
use Rattle.commands.proofs.laws.no_more_503s_than_faults.Goals as goal

pub returns-clause-alone : goal.returns-clause-alone
returns-clause-alone g c = alone_counted g.D.Disk

pub returns-clause-beside : goal.returns-clause-beside
returns-clause-beside g c = beside_counted g.D.Disk

pub returns-clause-serve : goal.returns-clause-serve
returns-clause-serve g c = serve_counted g.D.Disk

pub returns-clause-lines : goal.returns-clause-lines
returns-clause-lines g c = lines_counted g.D.Disk

pub returns-clause-line : goal.returns-clause-line
returns-clause-line g c = line_counted g.D.Disk
