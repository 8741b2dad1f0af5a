use Rattle.reading_loading.proofs.AgainLemmas.{loaded_again, put_again}
use Rattle.reading_loading.proofs.laws.readings_in_force_are_put_again.Goals as goal

pub returns-clause-put : goal.returns-clause-put
returns-clause-put c order readings edits again h after numbers lines puts legal stand others sent =
    put_again order h after edits numbers legal stand readings again lines puts others sent

pub returns-clause-loaded : goal.returns-clause-loaded
returns-clause-loaded c order units edits h after numbers input left written legal stated puts stand loads =
    loaded_again order h after edits numbers legal stand input left written units stated puts loads
