use Rattle.curves.proofs.ChangeLemmas.{says_led, says_alone, says_until}
use Rattle.curves.proofs.laws.entries_bear_where_they_have_a_say.Goals as goal

pub returns-clause-led : goal.returns-clause-led
returns-clause-led c = says_led

pub returns-clause-alone : goal.returns-clause-alone
returns-clause-alone c = says_alone

pub returns-clause-until : goal.returns-clause-until
returns-clause-until c = says_until
