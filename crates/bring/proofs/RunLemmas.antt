-- How a run ends, by what was read and by what was written.
use Rattle.std.specs.Prelude.{◌≡◌, ◌⊎◌, ◌<◌, ℕ, List, length, Option, None, Some, IfSome}
use Rattle.std.proofs.Common.{refl, sym, subst, inl, inr}
use Rattle.logger_files.specs.Bringing.{IsBrought, IsUnread}
use Rattle.logger_files.specs.declared.bringing.Brought.{Brought}
use Rattle.logger_files.specs.declared.profiles.Profile.{Profile}
use Rattle.logger_files.specs.declared.reasons.FileFault.{FileFault}
use Rattle.logger_files.specs.declared.reasons.FileFault.TheVariants as refused
use Rattle.whole_inputs.specs.Inputs.{IsWhole}
use Rattle.whole_inputs.specs.declared.inputs.NotRead.{NotRead}
use Rattle.whole_inputs.specs.declared.inputs.NotRead.TheVariants as unread
use Rattle.bring.specs.Runs.{Ends, EndsBy, IsEndUnread, IsSilent, IsWrittenAs, UnreadBy, end_refused, end_unread}
use Rattle.bring.specs.declared.runs.RunEnd.{RunEnd}
use Rattle.bring.specs.declared.runs.RunEnd.TheVariants.{AllTaken, SomeLeft, InputFault, OutputFault, TooLong, Refused, NoMemory}
use Rattle.bring.specs.declared.runs.TheConstants.{MOST_BYTES}

written_ends : (end : RunEnd) (p : Profile) (input : List ℕ) (b : Brought) (s s2 l l2 : Option (List ℕ)) → IsBrought p input b → IsWrittenAs end b s s2 l l2 → EndsBy end p input s s2 l l2
written_ends AllTaken p input b s s2 l l2 made (none, requests, lines) = (b, none, record { made = made; requests = requests; listed = lines })
written_ends SomeLeft p input b s s2 l l2 made (some, requests, lines) = (b, some, record { made = made; requests = requests; listed = lines })
written_ends InputFault p input b s s2 l l2 made h = absurd h
written_ends OutputFault p input b s s2 l l2 made h = (b, made, h)
written_ends TooLong p input b s s2 l l2 made h = absurd h
written_ends (Refused fault) p input b s s2 l l2 made h = absurd h
written_ends NoMemory p input b s s2 l l2 made h = absurd h

pub written_run : (end : RunEnd) (p : Profile) (source : Option (List ℕ)) (b : Brought) (s s2 l l2 : Option (List ℕ)) → IfSome source (λ input. IsBrought p input b) → IsWrittenAs end b s s2 l l2 → Ends end p source s s2 l l2
written_run end p None b s s2 l l2 made h = made
written_run end p (Some input) b s s2 l l2 made h = written_ends end p input b s s2 l l2 made h

unread_ends : (end : RunEnd) (p : Profile) (input : List ℕ) (s s2 l l2 : Option (List ℕ)) → UnreadBy end p input → EndsBy end p input s s2 l l2
unread_ends AllTaken p input s s2 l l2 h = absurd h
unread_ends SomeLeft p input s s2 l l2 h = absurd h
unread_ends InputFault p input s s2 l l2 h = h
unread_ends OutputFault p input s s2 l l2 h = absurd h
unread_ends TooLong p input s s2 l l2 h = h
unread_ends (Refused fault) p input s s2 l l2 h = h
unread_ends NoMemory p input s s2 l l2 h = h

pub unread_run : (end : RunEnd) (p : Profile) (source s s2 l l2 : Option (List ℕ)) → IsEndUnread p end source → Ends end p source s s2 l l2
unread_run end p None s s2 l l2 h = h
unread_run end p (Some input) s s2 l l2 h = unread_ends end p input s s2 l l2 h

-- what is written is no silence
pub not_silent : (end : RunEnd) (b : Brought) (s s2 l l2 : Option (List ℕ)) → IsWrittenAs end b s s2 l l2 → IsSilent end → ⊥
not_silent AllTaken b s s2 l l2 h silent = silent
not_silent SomeLeft b s s2 l l2 h silent = silent
not_silent InputFault b s s2 l l2 h silent = h
not_silent OutputFault b s s2 l l2 h silent = silent
not_silent TooLong b s s2 l l2 h silent = h
not_silent (Refused fault) b s s2 l l2 h silent = h
not_silent NoMemory b s s2 l l2 h silent = h

pub fault_is_silent : (end : RunEnd) → end ≡ InputFault → IsSilent end
fault_is_silent end e = subst IsSilent (sym e) tt

-- what is made of what was read is made of the input
pub brought_of_input : (p : Profile) (source after : Option (List ℕ)) (text : List ℕ) (b : Brought) → IsWhole source text after → IsBrought p text b → IfSome source (λ input. IsBrought p input b)
brought_of_input p None after text b h made = h
brought_of_input p (Some input) None text b h made = absurd h
brought_of_input p (Some input) (Some left) text b h made = subst (λ (t : List ℕ). IsBrought p t b) (sym h.0) made

-- an input that was not read
pub not_read : (p : Profile) (source : Option (List ℕ)) (error : NotRead) → (error ≡ unread.TooLong → IfSome source (λ input. MOST_BYTES < length input)) → IsEndUnread p (end_unread error) source
not_read p None error h = tt
not_read p (Some input) unread.Failed h = tt
not_read p (Some input) unread.TooLong h = h refl
not_read p (Some input) unread.NoMemory h = tt

pub not_read_is_silent : (error : NotRead) → IsSilent (end_unread error)
not_read_is_silent unread.Failed = tt
not_read_is_silent unread.TooLong = tt
not_read_is_silent unread.NoMemory = tt

pub failed_alone : (error : NotRead) → end_unread error ≡ InputFault → error ≡ unread.Failed
failed_alone unread.Failed e = refl
failed_alone unread.TooLong e = absurd (cc)
failed_alone unread.NoMemory e = absurd (cc)

-- an input of which nothing is made
refused_ends : (p : Profile) (input : List ℕ) (fault : FileFault) → (fault ≡ refused.NoMemory) ⊎ IsUnread p input fault → UnreadBy (end_refused fault) p input
refused_ends p input refused.NoNames (inl e) = absurd (cc)
refused_ends p input refused.NoNames (inr h) = h
refused_ends p input refused.NoTimes (inl e) = absurd (cc)
refused_ends p input refused.NoTimes (inr h) = h
refused_ends p input refused.NoValues (inl e) = absurd (cc)
refused_ends p input refused.NoValues (inr h) = h
refused_ends p input refused.NoMemory h = tt

pub not_made : (p : Profile) (source after : Option (List ℕ)) (text : List ℕ) (fault : FileFault) → IsWhole source text after → (fault ≡ refused.NoMemory) ⊎ IsUnread p text fault → IsEndUnread p (end_refused fault) source
not_made p None after text fault whole h = whole
not_made p (Some input) None text fault whole h = absurd whole
not_made p (Some input) (Some left) text fault whole h = subst (UnreadBy (end_refused fault) p) (sym whole.0) (refused_ends p text fault h)

pub refused_is_silent : (fault : FileFault) → IsSilent (end_refused fault)
refused_is_silent refused.NoNames = tt
refused_is_silent refused.NoTimes = tt
refused_is_silent refused.NoValues = tt
refused_is_silent refused.NoMemory = tt

pub refused_no_fault : (fault : FileFault) → end_refused fault ≡ InputFault → ⊥
refused_no_fault refused.NoNames e = absurd (cc)
refused_no_fault refused.NoTimes e = absurd (cc)
refused_no_fault refused.NoValues e = absurd (cc)
refused_no_fault refused.NoMemory e = absurd (cc)
