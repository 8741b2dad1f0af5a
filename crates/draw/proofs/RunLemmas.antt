-- How a run ends, by what was read and by what was written.
use Rattle.std.specs.Prelude.{◌≡◌, ◌⊎◌, ◌<◌, ℕ, Bool, true, false, List, [], length, Option, None, Some, IfSome}
use Rattle.std.proofs.Common.{refl, sym, subst, inl, inr}
use Rattle.std.specs.Str.Lines.{lines}
use Rattle.whole_inputs.specs.Inputs.{IsWhole}
use Rattle.whole_inputs.specs.declared.inputs.NotRead.{NotRead}
use Rattle.whole_inputs.specs.declared.inputs.NotRead.TheVariants as unread
use Rattle.draw.specs.Frames.{IsNoSpan}
use Rattle.draw.specs.Hydrographs.{IsOutcome}
use Rattle.draw.specs.Spreads.{time_span}
use Rattle.draw.specs.Runs.{Ends, EndsBy, IsEndUnread, IsNoPicture, IsPicture, IsPictureOf, IsSilent, IsUndrawn, IsWrittenAs, UnreadBy, end_of, end_unread}
use Rattle.draw.specs.Tables.{IsFaultOf, IsTableOf}
use Rattle.draw.specs.declared.tables.Table.{Table}
use Rattle.draw.specs.declared.rows.Why.{Why}
use Rattle.draw.specs.declared.rows.Why.TheVariants as whys
use Rattle.draw.specs.declared.runs.RunEnd.{RunEnd}
use Rattle.draw.specs.declared.runs.RunEnd.TheVariants.{Drawn, InputFault, OutputFault, TooLong, NoText, Refused, Empty, NoMemory}
use Rattle.draw.specs.declared.runs.TheConstants.{MOST_BYTES}
use Rattle.draw.specs.declared.tables.RowFault.{RowFault}

drawn_ends : (end : RunEnd) (input picture : List ℕ) (s s2 : Option (List ℕ)) → IsPictureOf input picture → IsWrittenAs end picture s s2 → EndsBy end input s s2
drawn_ends Drawn input picture s s2 made h = (picture, made, h)
drawn_ends OutputFault input picture s s2 made h = (picture, made, h)
drawn_ends InputFault input picture s s2 made h = absurd h
drawn_ends TooLong input picture s s2 made h = absurd h
drawn_ends NoText input picture s s2 made h = absurd h
drawn_ends (Refused fault) input picture s s2 made h = absurd h
drawn_ends Empty input picture s s2 made h = absurd h
drawn_ends NoMemory input picture s s2 made h = absurd h

pub drawn_run : (end : RunEnd) (source : Option (List ℕ)) (picture : List ℕ) (s s2 : Option (List ℕ)) → IfSome source (λ input. IsPictureOf input picture) → IsWrittenAs end picture s s2 → Ends end source s s2
drawn_run end None picture s s2 made h = made
drawn_run end (Some input) picture s s2 made h = drawn_ends end input picture s s2 made h

unread_ends : (end : RunEnd) (input : List ℕ) (s s2 : Option (List ℕ)) → UnreadBy end input → EndsBy end input s s2
unread_ends Drawn input s s2 h = absurd h
unread_ends OutputFault input s s2 h = absurd h
unread_ends InputFault input s s2 h = h
unread_ends TooLong input s s2 h = h
unread_ends NoText input s s2 h = h
unread_ends (Refused fault) input s s2 h = h
unread_ends Empty input s s2 h = h
unread_ends NoMemory input s s2 h = h

pub unread_run : (end : RunEnd) (source s s2 : Option (List ℕ)) → IsEndUnread end source → Ends end source s s2
unread_run end None s s2 h = h
unread_run end (Some input) s s2 h = unread_ends end input s s2 h

-- what is written is no silence
pub not_silent : (end : RunEnd) (picture : List ℕ) (s s2 : Option (List ℕ)) → IsWrittenAs end picture s s2 → IsSilent end → ⊥
not_silent Drawn picture s s2 h silent = silent
not_silent OutputFault picture s s2 h silent = silent
not_silent InputFault picture s s2 h silent = h
not_silent TooLong picture s s2 h silent = h
not_silent NoText picture s s2 h silent = h
not_silent (Refused fault) picture s s2 h silent = h
not_silent Empty picture s s2 h silent = h
not_silent NoMemory picture s s2 h silent = h

pub fault_is_silent : (end : RunEnd) → end ≡ InputFault → IsSilent end
fault_is_silent end e = subst IsSilent (sym e) tt

-- what was read is the input
pub picture_of_input : (source after : Option (List ℕ)) (text picture : List ℕ) → IsWhole source text after → IsPictureOf text picture → IfSome source (λ input. IsPictureOf input picture)
picture_of_input None after text picture h made = h
picture_of_input (Some input) None text picture h made = absurd h
picture_of_input (Some input) (Some left) text picture h made = subst (λ (t : List ℕ). IsPictureOf t picture) (sym h.0) made

undrawn_unread : (end : RunEnd) (input : List ℕ) → IsUndrawn input end → UnreadBy end input
undrawn_unread Drawn input h = h
undrawn_unread OutputFault input h = h
undrawn_unread InputFault input h = absurd h
undrawn_unread TooLong input h = absurd h
undrawn_unread NoText input h = h
undrawn_unread (Refused fault) input h = h
undrawn_unread Empty input h = h
undrawn_unread NoMemory input h = h

pub undrawn_of_input : (source after : Option (List ℕ)) (text : List ℕ) (end : RunEnd) → IsWhole source text after → IsUndrawn text end → IsEndUnread end source
undrawn_of_input None after text end h made = h
undrawn_of_input (Some input) None text end h made = absurd h
undrawn_of_input (Some input) (Some left) text end h made = undrawn_unread end input (subst (λ (t : List ℕ). IsUndrawn t end) (sym h.0) made)

-- an input that has a fault makes a silent end that no failed reading is
pub undrawn_is_silent : (input : List ℕ) (end : RunEnd) → IsUndrawn input end → IsSilent end
undrawn_is_silent input Drawn h = h
undrawn_is_silent input OutputFault h = h
undrawn_is_silent input InputFault h = tt
undrawn_is_silent input TooLong h = tt
undrawn_is_silent input NoText h = tt
undrawn_is_silent input (Refused fault) h = tt
undrawn_is_silent input Empty h = tt
undrawn_is_silent input NoMemory h = tt

pub undrawn_is_read : (input : List ℕ) (end : RunEnd) → IsUndrawn input end → end ≡ InputFault → ⊥
undrawn_is_read input end h e = subst (IsUndrawn input) e h

-- an input that was not read
pub not_read : (source : Option (List ℕ)) (error : NotRead) → (error ≡ unread.TooLong → IfSome source (λ input. MOST_BYTES < length input)) → IsEndUnread (end_unread error) source
not_read None error h = tt
not_read (Some input) unread.Failed h = tt
not_read (Some input) unread.TooLong h = h refl
not_read (Some input) unread.NoMemory h = tt

pub not_read_is_silent : (error : NotRead) → IsSilent (end_unread error)
not_read_is_silent unread.Failed = tt
not_read_is_silent unread.TooLong = tt
not_read_is_silent unread.NoMemory = tt

pub failed_alone : (error : NotRead) → end_unread error ≡ InputFault → error ≡ unread.Failed
failed_alone unread.Failed e = refl
failed_alone unread.TooLong e = absurd (cc)
failed_alone unread.NoMemory e = absurd (cc)

-- an input that has a fault, or for which there was no memory
pub refused_undrawn : (input : List ℕ) (why : Why) (fault : RowFault) → (why ≡ whys.NoMemory) ⊎ IsFaultOf (lines input) fault → IsUndrawn input (end_of why fault)
refused_undrawn input whys.NoMemory fault h = tt
refused_undrawn input why fault (inl e) = absurd (cc)
refused_undrawn input why fault (inr h) = h

-- any cause but want of memory is told
pub end_told : (why : Why) (fault : RowFault) → (why ≡ whys.NoMemory → ⊥) → end_of why fault ≡ Refused fault
end_told whys.NoMemory fault other = absurd (other refl)
end_told why fault other = refl

-- a table of which there is no picture
pub no_picture_undrawn : (input : List ℕ) (table : Table) (end : RunEnd) → IsTableOf (lines input) table → IsNoPicture table end → IsUndrawn input end
no_picture_undrawn input table end read (inl e) = subst (IsUndrawn input) (sym e) tt
no_picture_undrawn input table end read (inr none) = subst (IsUndrawn input) (sym none.0) (table, read, none.1)

-- what was written on a text that was empty
pub drawn_outcome : (table : Table) (old new : List ℕ) (drawn : Bool) → old ≡ [] → drawn ≡ true → IsOutcome table old new drawn → IsPicture table new
drawn_outcome table old new true empty is h = subst (λ (t : List ℕ). IsOutcome table t new true) empty h
drawn_outcome table old new false empty is h = absurd (cc)

pub empty_outcome : (table : Table) (old new : List ℕ) (drawn : Bool) → drawn ≡ false → IsOutcome table old new drawn
    → IsNoSpan (time_span table.station.zone table.rows.items)
empty_outcome table old new true is h = absurd (cc)
empty_outcome table old new false is h = h.0
