use Rattle.office.proofs.LeftLemmas.{has_header, may_open, may_open_between, told_again, undamaged}
use Rattle.office.proofs.laws.whatever_is_left_opens.Goals as goal

pub returns-clause-opens : goal.returns-clause-opens
returns-clause-opens c h image legal left = may_open h image legal left

pub returns-clause-any_moment : goal.returns-clause-any_moment
returns-clause-any_moment c h after image legal limits format left = may_open_between h after image legal limits format left

pub returns-clause-header : goal.returns-clause-header
returns-clause-header c h behind image o = has_header h behind image o

pub returns-clause-undamaged : goal.returns-clause-undamaged
returns-clause-undamaged c h behind image at o = undamaged h behind image at o

pub returns-clause-repeated : goal.returns-clause-repeated
returns-clause-repeated c h behind pieces image place edit o found is = told_again h behind pieces image place edit o found is
