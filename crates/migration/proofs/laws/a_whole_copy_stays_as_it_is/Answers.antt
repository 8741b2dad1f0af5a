use Rattle.migration.proofs.WrittenLemmas.{whole_stays}
use Rattle.migration.proofs.laws.a_whole_copy_stays_as_it_is.Goals as goal

pub returns : goal.returns
returns c records bytes copy taken stood copied = whole_stays records bytes copy taken stood copied
