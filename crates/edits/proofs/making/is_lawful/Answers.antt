use Rattle.edits.proofs.making.is_lawful.Goals as goal

pub returns-in-AddStation-clause-told : goal.returns-in-AddStation-clause-told
returns-in-AddStation-clause-told c = rw c.in-AddStation.is c.is_added_station.ensures.told
