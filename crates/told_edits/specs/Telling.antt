-- What is told of edits on a sink.
use Rattle.std.specs.Prelude.{◌≡◌, ℕ, Bool, true, false, List, [], ◌∷◌, ◌++◌}
use Rattle.std.specs.List.{concat}
use Rattle.desk.specs.Endings.{StopsWithin}
use Rattle.edits.specs.declared.content.Edit.{Edit}
use Rattle.history.specs.Events.{History}
use Rattle.told_edits.specs.Lines.{AreSent}

-- The office was asked these edits, and the line of each was written; or the sink failed within the line of one, and the office was
-- asked none of those behind it.
abbrev pub AreTold : (Edit → List ℕ) → Bool → History → List Edit → History → List ℕ → Type 0
AreTold end true h edits after written = (lines : List (List ℕ)) × AreSent end h edits lines after × (written ≡ concat lines)
AreTold end false h edits after written =
    (sent behind : List Edit) × (edits ≡ sent ++ behind) × ((front : List (List ℕ)) × (last : List ℕ)
    × AreSent end h sent (front ++ last ∷ []) after × StopsWithin (concat front) last written)
