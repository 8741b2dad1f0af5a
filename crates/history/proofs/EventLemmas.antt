-- What one event more makes of the accepted edits, the stations in force and the edits that days await.
use Rattle.std.specs.Prelude.{◌≡◌, ◌+◌, cond, List, [], ◌∷◌, ◌++◌, length, reverse, map, Option, Some, None, ℤ}
use Rattle.std.proofs.Common.{arith, refl, ap, sym, ◌∙◌, length-append}
use Rattle.std.proofs.lemmas.List.{append-nil, map-append, reverse-append, reverse-reverse}
use Rattle.std.proofs.lemmas.Grind.{fold-append}
use Rattle.fixed_units.specs.Quantities.{SiteNumber}
use Rattle.history.specs.Accepted.{accepted, edit_of, edits_of, stations_at, changes}
use Rattle.history.specs.Awaited.{awaited_back, awaited, is_day_of}
use Rattle.history.specs.Events.{Event, Accepted, Published, Faulted}
use Rattle.office_inputs.specs.Stations.{stations_of, stations_after}
use Rattle.records.specs.Sheets.{Record}

pub accepted-append : (xs ys : List Event) → accepted (xs ++ ys) ≡ accepted xs ++ accepted ys
accepted-append [] ys = refl
accepted-append (Accepted piece ∷ xs) ys = ap (λ (l : List Record). piece ∷ l) (accepted-append xs ys)
accepted-append (Published site day ∷ xs) ys = accepted-append xs ys
accepted-append (Faulted doubt ∷ xs) ys = accepted-append xs ys

-- as many events are accepted, in whatever order they are read
one_more : (e : Event) (es : List Event) → length (accepted (e ∷ es)) ≡ length (accepted es) + length (accepted (e ∷ []))
one_more (Accepted piece) es = omega arith
one_more (Published site day) es = omega arith
one_more (Faulted doubt) es = omega arith

pub length-accepted-reverse : (es : List Event) → length (accepted (reverse es)) ≡ length (accepted es)
length-accepted-reverse [] = refl
length-accepted-reverse (e ∷ es) =
    let turned : length (accepted (reverse (e ∷ es))) ≡ length (accepted (reverse es)) + length (accepted (e ∷ [])) =
    ap (λ l. length (accepted l)) (reverse-append (e ∷ []) es) ∙ ap length (accepted-append (reverse es) (e ∷ []))
    ∙ length-append (accepted (reverse es)) (accepted (e ∷ [])) in
    let rest = length-accepted-reverse es in
    turned ∙ ap (λ n. n + length (accepted (e ∷ []))) rest ∙ sym (one_more e es)

-- the events of records
pub accepted_all : (pieces : List Record) → accepted (map Accepted pieces) ≡ pieces
accepted_all [] = refl
accepted_all (piece ∷ pieces) = ap (λ (l : List Record). piece ∷ l) (accepted_all pieces)

module _ (events : List Event) where
  -- read from the newest event back
  newest : (e : Event) → reverse (events ++ e ∷ []) ≡ e ∷ reverse events
  newest e = reverse-append events (e ∷ [])

  pub accepted_accepted : (piece : Record) → accepted (events ++ Accepted piece ∷ []) ≡ accepted events ++ piece ∷ []
  accepted_accepted piece = accepted-append events (Accepted piece ∷ [])

  pub accepted_published : (site : SiteNumber) (day : ℤ) → accepted (events ++ Published site day ∷ []) ≡ accepted events
  accepted_published site day = accepted-append events (Published site day ∷ []) ∙ append-nil (accepted events)

  pub accepted_faulted : (doubt : Option Record) → accepted (events ++ Faulted doubt ∷ []) ≡ accepted events
  accepted_faulted doubt = accepted-append events (Faulted doubt ∷ []) ∙ append-nil (accepted events)

  pub edits_accepted : (piece : Record) → edits_of (events ++ Accepted piece ∷ []) ≡ edits_of events ++ piece.edit ∷ []
  edits_accepted piece = ap (map edit_of) (accepted_accepted piece) ∙ map-append edit_of (accepted events) (piece ∷ [])

  pub stations_accepted : (piece : Record) → stations_at (events ++ Accepted piece ∷ []) ≡ stations_after (stations_at events) piece.edit
  stations_accepted piece = ap stations_of (edits_accepted piece) ∙ fold-append stations_after [] (edits_of events) (piece.edit ∷ [])

  pub awaited_accepted : (piece : Record) (site : SiteNumber) (day : ℤ) → awaited (events ++ Accepted piece ∷ []) site day
      ≡ cond (changes (stations_at events) piece.edit site day) (Some (length (accepted events) + 1)) (awaited events site day)
  unfolding awaited_back
  awaited_accepted piece site day =
      ap (λ l. awaited_back l site day) (newest (Accepted piece))
      ∙ ap (λ l. cond (changes (stations_at l) piece.edit site day) (Some (length (accepted (reverse events)) + 1)) (awaited events site day)) (reverse-reverse events)
      ∙ ap (λ n. cond (changes (stations_at events) piece.edit site day) (Some (n + 1)) (awaited events site day)) (length-accepted-reverse events)

  pub awaited_published : (own : SiteNumber) (its : ℤ) (site : SiteNumber) (day : ℤ) → awaited (events ++ Published own its ∷ []) site day
      ≡ cond (is_day_of own its site day) None (awaited events site day)
  unfolding awaited_back
  awaited_published own its site day = ap (λ l. awaited_back l site day) (newest (Published own its))

  pub awaited_faulted : (doubt : Option Record) (site : SiteNumber) (day : ℤ) → awaited (events ++ Faulted doubt ∷ []) site day ≡ awaited events site day
  unfolding awaited_back
  awaited_faulted doubt site day = ap (λ l. awaited_back l site day) (newest (Faulted doubt))
