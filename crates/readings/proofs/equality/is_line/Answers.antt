-- The list is taken apart from the front.
use Rattle.std.proofs.Common.{◌∙◌}
use Rattle.readings.proofs.EqualityLemmas.{front_missing, front_behind, last_missing, last_behind, none_left}
use Rattle.readings.proofs.equality.is_line.Goals as goal

pub returns-in_default : goal.returns-in_default
returns-in_default c = front_missing _ _ c.args.list.now c.in_default.ensures.other

pub returns-in_default-behind_used : goal.returns-in_default-behind_used
returns-in_default-behind_used c =
    front_behind _ _ c.args.list.now c.in-Some.list.now _ c.in-Some.ensures.rest
    (front_missing _ _ c.in-Some.list.now c.in_default-behind_used.ensures.other)

pub returns-in_default-behind_used-2 : goal.returns-in_default-behind_used-2
returns-in_default-behind_used-2 c =
    front_behind _ _ c.args.list.now c.in-Some.list.now _ c.in-Some.ensures.rest
    (front_behind _ _ c.in-Some.list.now c.in-Some-behind_used.list.now _ c.in-Some-behind_used.ensures.rest
    (front_missing _ _ c.in-Some-behind_used.list.now c.in_default-behind_used-2.ensures.other))

pub returns-in_default-behind : goal.returns-in_default-behind
returns-in_default-behind c =
    front_behind _ _ c.args.list.now c.in-Some.list.now _ c.in-Some.ensures.rest
    (front_behind _ _ c.in-Some.list.now c.in-Some-behind_used.list.now _ c.in-Some-behind_used.ensures.rest
    (front_behind _ _ c.in-Some-behind_used.list.now c.in-Some-behind_used-2.list.now _ c.in-Some-behind_used-2.ensures.rest
    (last_missing _ c.in-Some-behind_used-2.list.now c.in_default-behind.ensures.other)))

pub returns : goal.returns
returns c =
    front_behind _ _ c.args.list.now c.in-Some.list.now _ c.in-Some.ensures.rest
    (front_behind _ _ c.in-Some.list.now c.in-Some-behind_used.list.now _ c.in-Some-behind_used.ensures.rest
    (front_behind _ _ c.in-Some-behind_used.list.now c.in-Some-behind_used-2.list.now _ c.in-Some-behind_used-2.ensures.rest
    (last_behind _ c.in-Some-behind_used-2.list.now c.in-Some-behind.list.now _ c.in-Some-behind.ensures.rest
    (c.is_empty.ensures ∙ none_left c.in-Some-behind.list.now))))
