-- What a look at a window of bytes finds.
use Rattle.std.specs.Prelude.{◌≡◌, ℕ, ◌≤◌, List, length, drop}
use Rattle.httparse.specs.Grammar.{RequestHead, ReadsRequest, HasNoRequest, MayBecomeRequest, print_request}
use Rattle.httparse.specs.Spans.{span_bytes, IsWithin, RequestOverflows}
use Rattle.wire.specs.declared.limits.TheConstants.{HEAD_FIELDS}
use Rattle.wire.specs.declared.framing.Head.{Head}
use Rattle.wire.specs.declared.framing.Found.{Found}
use Rattle.wire.specs.declared.framing.Found.TheVariants.{Whole, NotYet, Never}
use Rattle.wire.specs.Framing.{verb_of, frame_of}

-- the window begins with this head, and what was found are its parts
pub record IsHeadAt (window : List ℕ) (found : Head) (head : RequestHead) : Type 0 where
  pub reads : ReadsRequest window head (drop found.len window)
  pub room : length head.fields ≤ HEAD_FIELDS
  pub len : found.len ≡ length (print_request head)
  pub within : found.len ≤ length window
  pub target_within : IsWithin found.len found.target
  pub target : span_bytes window found.target ≡ head.target
  pub verb : found.verb ≡ verb_of head.method
  pub frame : found.frame ≡ frame_of head

-- a head with few enough fields; none yet, but one may come; or none, whatever follows
abbrev pub IsFound : List ℕ → Found → Type 0
IsFound window (Whole found) = (head : RequestHead) × IsHeadAt window found head
IsFound window NotYet = HasNoRequest window × MayBecomeRequest window
IsFound window Never = RequestOverflows HEAD_FIELDS window
