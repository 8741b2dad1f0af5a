-- Each point may be put, as all of them may.
use Rattle.std.proofs.Common.{arith}
use Rattle.records.proofs.entry_drafts.curve_of.Goals as goal

pub place-requires : goal.place-requires
place-requires c = c.are_places.ensures.0 c.if-not-are_places.false 0 _ (omega arith)

pub place-requires-in-len2 : goal.place-requires-in-len2
place-requires-in-len2 c = c.are_places.ensures.0 c.if-not-are_places.false 0 _ (omega arith)

pub place-requires-in-len2-2 : goal.place-requires-in-len2-2
place-requires-in-len2-2 c = c.are_places.ensures.0 c.if-not-are_places.false 1 _ (omega arith)

pub place-requires-in-len3 : goal.place-requires-in-len3
place-requires-in-len3 c = c.are_places.ensures.0 c.if-not-are_places.false 0 _ (omega arith)

pub place-requires-in-len3-2 : goal.place-requires-in-len3-2
place-requires-in-len3-2 c = c.are_places.ensures.0 c.if-not-are_places.false 1 _ (omega arith)

pub place-requires-in-len3-3 : goal.place-requires-in-len3-3
place-requires-in-len3-3 c =
    let least = c.in-len3.len_at_least in
    c.are_places.ensures.0 c.if-not-are_places.false 2 _ (omega (arith, least))
