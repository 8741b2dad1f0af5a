-- A legal history was legal at each point since its opening.
use Rattle.std.specs.Prelude.{◌≡◌, ◌≤◌, List, [], ◌∷◌, ◌++◌, length, map, Some}
use Rattle.std.proofs.Common.{arith, refl, ap, sym, ◌∙◌}
use Rattle.std.proofs.lemmas.List.{append_assoc, length-map}
use Rattle.history.specs.After.{go_on, reopen}
use Rattle.history.specs.Events.{Event, Accepted, Published, Faulted, History}
use Rattle.history.specs.Legal.{IsLegal, IsOrderly}
use Rattle.office_inputs.specs.declared.limits.Limits.{Limits}
use Rattle.records.specs.Sheets.{Record}
use Rattle.records.specs.declared.formats.Format.{Format}

-- of two beginnings of one list the longer goes on from the shorter
record GoesOn (short long more all : List Event) : Type 0 where
  between : List Event
  long_is : long ≡ short ++ between
  all_is : all ≡ between ++ more

longer_on : (short long more all : List Event) → long ++ more ≡ short ++ all → length short ≤ length long → GoesOn short long more all
longer_on [] long more all h l = record { between = long; long_is = refl; all_is = sym h }
longer_on (x ∷ short) [] more all h l = absurd (omega (arith, l))
longer_on (x ∷ short) (y ∷ long) more all h l =
    let first : y ≡ x = cc in
    let later : long ++ more ≡ short ++ all = cc in
    let rest = longer_on short long more all later (omega (arith, l)) in
    record {
      between = rest.between;
      long_is = ap (λ (z : Event). z ∷ long) first ∙ ap (λ (z : List Event). x ∷ z) rest.long_is;
      all_is = rest.all_is;
    }

orderly_front : (limits : Limits) (format : Format) (events behind : List Event) → IsOrderly limits format (events ++ behind) → IsOrderly limits format events
orderly_front limits format events behind k = record {
  accepted = λ before after piece s.
      k.accepted before (after ++ behind) piece (ap (λ (l : List Event). l ++ behind) s ∙ append_assoc before (Accepted piece ∷ after) behind);
  doubts = λ before after piece s.
      k.doubts before (after ++ behind) piece (ap (λ (l : List Event). l ++ behind) s ∙ append_assoc before (Faulted (Some piece) ∷ after) behind);
  publications = λ before after site day s.
      k.publications before (after ++ behind) site day (ap (λ (l : List Event). l ++ behind) s ∙ append_assoc before (Published site day ∷ after) behind);
}

front_is : (front : History) (first : List Record) (between : List Event) → front.opened ≡ length first → front.events ≡ map Accepted first ++ between
    → front ≡ go_on (reopen front.limits front.format first) between
front_is front first between opened events =
    ap (λ n. record { opened = n; limits = front.limits; format = front.format; events = front.events }) opened
    ∙ ap (λ (l : List Event). record { opened = length first; limits = front.limits; format = front.format; events = l }) events

pub legal_at : (front : History) (behind : List Event) → IsLegal (go_on front behind) → front.opened ≤ length front.events → IsLegal front
legal_at front behind k l =
    let opened : front.opened ≡ length k.first = ap (λ (x : History). x.opened) k.opened in
    let events : front.events ++ behind ≡ map Accepted k.first ++ k.since = ap (λ (x : History). x.events) k.opened in
    let long : length (map Accepted k.first) ≡ length k.first = length-map k.first Accepted in
    let on = longer_on (map Accepted k.first) front.events behind k.since events (omega (arith, l, opened, long)) in
    record {
      first = k.first;
      since = on.between;
      opened = front_is front k.first on.between opened on.long_is;
      orderly = orderly_front front.limits front.format front.events behind k.orderly;
      made = λ before after piece s.
          k.made before (after ++ behind) piece
          (on.all_is ∙ ap (λ (z : List Event). z ++ behind) s ∙ append_assoc before (Accepted piece ∷ after) behind);
    }
