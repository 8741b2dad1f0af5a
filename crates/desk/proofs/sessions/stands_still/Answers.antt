use Rattle.shared_office.proofs.StretchLemmas.{passes_none}
use Rattle.desk.proofs.sessions.stands_still.Goals as goal

pub returns : goal.returns
returns g c =
    let only = g.met.D.Disk.only_now in
    passes_none g.D.Disk c.args.office.now.register.history c.args.office.now.disk (only c.args.office.now.disk)
    c.an_office_stands_on_its_disk.ensures.images
