use Rattle.std.proofs.Common.{refl, inl, inr}
use Rattle.draw.proofs.tables.add_row.Goals as goal

pub returns-in-Err-clause-refused : goal.returns-in-Err-clause-refused
returns-in-Err-clause-refused c = elim c.in-Err.ensures.refused [ inl e ↦ inl e | inr h ↦ inr (record { states = h; there = refl }) ]
