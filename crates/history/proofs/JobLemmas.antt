-- As long as a day awaits an edit its inputs stay as they are.
use Rattle.std.specs.Prelude.{◌≡◌, ℕ, ◌+◌, ◌≤◌, Bool, true, false, cond, List, [], ◌∷◌, ◌++◌, length, map, reverse, Option, Some, None, ℤ}
use Rattle.std.proofs.Common.{arith, refl, ap, sym, ◌∙◌, length-append}
use Rattle.std.proofs.lemmas.List.{reverse-append, reverse-reverse}
use Rattle.day_inputs.specs.declared.day_inputs.DayInputs.{DayInputs}
use Rattle.fixed_units.specs.Quantities.{SiteNumber}
use Rattle.history.specs.Accepted.{accepted, edit_of, stations_at, changes}
use Rattle.history.specs.Awaited.{awaited_back, awaited, is_day_of, inputs_at}
use Rattle.history.specs.Events.{Event, Accepted, Published, Faulted}
use Rattle.history.proofs.EventLemmas.{accepted-append, stations_accepted, accepted_published, accepted_faulted}
use Rattle.history.proofs.StationLemmas.{unchanged_day}
use Rattle.office_inputs.specs.Stations.{stations_of, inputs_of_day}
use Rattle.station_inputs.specs.Stations.{StationState}
use Rattle.records.specs.Sheets.{Record}

module _ (site : SiteNumber) (day : ℤ) where
  -- an awaited edit is one of those that were accepted
  within_step : (b : Bool) (n edit : ℕ) (rest : Option ℕ) → cond b (Some (n + 1)) rest ≡ Some edit → (rest ≡ Some edit → edit ≤ n) → edit ≤ n + 1
  within_step true n edit rest h rec = let e : n + 1 ≡ edit = cc in omega arith
  within_step false n edit rest h rec = let l = rec h in omega (arith, l)

  published_step : (b : Bool) (rest : Option ℕ) (edit : ℕ) → cond b None rest ≡ Some edit → rest ≡ Some edit
  published_step true rest edit h = absurd (cc)
  published_step false rest edit h = h

  within : (back : List Event) (edit : ℕ) → awaited_back back site day ≡ Some edit → edit ≤ length (accepted back)
  unfolding awaited_back
  within [] edit h = absurd (cc)
  within (Accepted piece ∷ back) edit h =
      let l = within_step (changes (stations_at (reverse back)) piece.edit site day) (length (accepted back)) edit (awaited_back back site day) h (within back edit) in
      omega (arith, l)
  within (Published own its ∷ back) edit h = within back edit (published_step (is_day_of own its site day) (awaited_back back site day) edit h)
  within (Faulted doubt ∷ back) edit h = within back edit h

  -- the inputs, where the events are read from the newest back
  abbrev inputs_back : List Event → DayInputs
  inputs_back back = inputs_of_day (stations_at (reverse back)) site day

  accepted_step : (b : Bool) (back older : List Event) (piece : Record) (edit : ℕ) → changes (stations_at (reverse back)) piece.edit site day ≡ b
      → cond b (Some (length (accepted back) + 1)) (awaited_back back site day) ≡ Some edit → edit ≤ length (accepted back)
      → (awaited_back back site day ≡ Some edit → inputs_back back ≡ inputs_back older)
      → inputs_of_day (stations_at (reverse back ++ Accepted piece ∷ [])) site day ≡ inputs_back older
  accepted_step true back older piece edit e h l rec = let k : length (accepted back) + 1 ≡ edit = cc in absurd (omega arith)
  accepted_step false back older piece edit e h l rec =
      ap (λ (s : List StationState). inputs_of_day s site day) (stations_accepted (reverse back) piece)
      ∙ unchanged_day (stations_at (reverse back)) piece.edit site day e ∙ rec h

  stay : (newer older : List Event) (edit : ℕ) → edit ≤ length (accepted older) → awaited_back (newer ++ older) site day ≡ Some edit
      → inputs_back (newer ++ older) ≡ inputs_back older
  unfolding awaited_back
  stay [] older edit l h = refl
  stay (Accepted piece ∷ newer) older edit l h =
      let most : edit ≤ length (accepted (newer ++ older)) =
      omega (arith, ap length (accepted-append newer older), length-append (accepted newer) (accepted older)) in
      ap (λ es. inputs_of_day (stations_at es) site day) (reverse-append (Accepted piece ∷ []) (newer ++ older))
      ∙ accepted_step (changes (stations_at (reverse (newer ++ older))) piece.edit site day) (newer ++ older) older piece edit refl h most (stay newer older edit l)
  stay (Published own its ∷ newer) older edit l h =
      ap (λ es. inputs_of_day (stations_at es) site day) (reverse-append (Published own its ∷ []) (newer ++ older))
      ∙ ap (λ (ps : List Record). inputs_of_day (stations_of (map edit_of ps)) site day) (accepted_published (reverse (newer ++ older)) own its)
      ∙ stay newer older edit l (published_step (is_day_of own its site day) (awaited_back (newer ++ older) site day) edit h)
  stay (Faulted doubt ∷ newer) older edit l h =
      ap (λ es. inputs_of_day (stations_at es) site day) (reverse-append (Faulted doubt ∷ []) (newer ++ older))
      ∙ ap (λ (ps : List Record). inputs_of_day (stations_of (map edit_of ps)) site day) (accepted_faulted (reverse (newer ++ older)) doubt)
      ∙ stay newer older edit l h

  pub inputs_stay : (events since : List Event) (edit : ℕ) → awaited events site day ≡ Some edit → awaited (events ++ since) site day ≡ Some edit
      → inputs_at (events ++ since) site day ≡ inputs_at events site day
  inputs_stay events since edit h k =
      let turned = reverse-append events since in
      ap (λ es. inputs_of_day (stations_at es) site day) (sym (reverse-reverse (events ++ since)) ∙ ap reverse turned)
      ∙ stay (reverse since) (reverse events) edit (within (reverse events) edit h) (ap (λ l. awaited_back l site day) (sym turned) ∙ k)
      ∙ ap (λ es. inputs_of_day (stations_at es) site day) (reverse-reverse events)
