-- The row of a target is that of the route that it fits, and the texts that its parameters have are ASCII.
use Rattle.std.proofs.Common.{◌≡◌, refl, ap, ℕ, ◌-◌, ◌<◌, inl, inr, Bool, true, false, cond, List, [], ◌∷◌, All, codes, take, drop, Option, Some, None, IfSome, IsSome, option_map, subst}
use Rattle.std.specs.List.{list_all}
use Rattle.std.specs.Char.{is_ascii}
use Rattle.std.specs.Str.{IsAscii, IsUtf8}
use Rattle.std.proofs.lemmas.Str.{IsUtf8-from_ascii, IsAscii-take, IsAscii-drop}
use Rattle.std.proofs.lemmas.Bool.{ltb-true}
use Rattle.std.proofs.lemmas.List.Sums.{AllPass-from_list_all}
use Rattle.std.proofs.lemmas.Str.Ascii.{IsAscii-nil, IsAscii-from_all}
use Rattle.matchit.specs.Route.{scan}
use Rattle.matchit.specs.Router.{RouteOf}
use Rattle.matchit.specs.Seek.{first}
use Rattle.matchit.specs.Params.{walk, part_of, AllText}
use Rattle.http_api.proofs.ApartLemmas.{are_apart}
use Rattle.http_api.proofs.FindingLemmas.{AllEnded, HasSpelled, seek_found}
use Rattle.http_api.proofs.FittingLemmas.{AllSpelled, seek_spelled}
use Rattle.http_api.specs.Routes.{spelling, target_at, target_by, target_of, with_route, route_rows, tokens_of, Fits, RowsAreThoseThatFit}
use Rattle.http_api.specs.declared.routes.Route.{Route}
use Rattle.http_api.specs.declared.routes.Target.TheVariants as named
use Rattle.http_api.specs.declared.routes.Route.TheVariants.{Edits, Rating, Turns, Settle, Status, Station, DayOf, SheetOf, Daily, Measurement, EditOf}

-- ---- the rows of the routes

rows_spelled : (target : List ℕ) → AllSpelled (λ (row : RouteOf Route). Fits row.value target) route_rows target
unfolding route_rows with_route tokens_of scan
rows_spelled target =
    (refl, λ h. h, (refl, λ h. h, (refl, λ h. h, (refl, λ h. h, (refl, λ h. h, (refl, λ h. h, (refl, λ h. h, (refl, λ h. h, (refl, λ h. h, (refl, λ h. h, (refl, λ h. h, tt)))))))))))

row_fits : (target : List ℕ) → IfSome (first route_rows target) (λ row. Fits row.value target)
row_fits target = seek_spelled (λ (row : RouteOf Route). Fits row.value target) 0 route_rows target (rows_spelled target)

rows_ended : AllEnded route_rows
unfolding route_rows with_route scan
rows_ended = (refl, (refl, (refl, (refl, (refl, (refl, (refl, (refl, (refl, (refl, (refl, tt)))))))))))

has_spelled : (route : Route) (target : List ℕ) → Fits route target → HasSpelled route_rows target
unfolding route_rows with_route tokens_of scan
has_spelled EditOf target h = inl h
has_spelled Edits target h = inr (inl h)
has_spelled Rating target h = inr (inr (inl h))
has_spelled Settle target h = inr (inr (inr (inl h)))
has_spelled Daily target h = inr (inr (inr (inr (inl h))))
has_spelled SheetOf target h = inr (inr (inr (inr (inr (inl h)))))
has_spelled DayOf target h = inr (inr (inr (inr (inr (inr (inl h))))))
has_spelled Measurement target h = inr (inr (inr (inr (inr (inr (inr (inl h)))))))
has_spelled Station target h = inr (inr (inr (inr (inr (inr (inr (inr (inl h))))))))
has_spelled Status target h = inr (inr (inr (inr (inr (inr (inr (inr (inr (inl h)))))))))
has_spelled Turns target h = inr (inr (inr (inr (inr (inr (inr (inr (inr (inr (inl h))))))))))

row_there : (route : Route) (target : List ℕ) → Fits route target → IsSome (first route_rows target)
row_there route target h = seek_found 0 route_rows target rows_ended (has_spelled route target h)

pub rows_fit : RowsAreThoseThatFit
rows_fit target route =
    (named_fits (first route_rows target) (row_fits target), λ h. named (first route_rows target) (row_fits target) h (row_there route target h))
  where
    named_fits : (found : Option (RouteOf Route)) → IfSome found (λ row. Fits row.value target)
        → option_map (λ (row : RouteOf Route). row.value) found ≡ Some route → Fits route target
    named_fits None h e = absurd (cc)
    named_fits (Some row) h e = let same : row.value ≡ route = cc in subst (λ (r : Route). Fits r target) same h

    named : (found : Option (RouteOf Route)) → IfSome found (λ row. Fits row.value target) → Fits route target → IsSome found
        → option_map (λ (row : RouteOf Route). row.value) found ≡ Some route
    named None h fits some = absurd (cc)
    named (Some row) h fits some = ap Some (are_apart row.value route target h fits)

-- ---- the target of the edits, which is spelled in one way

edits_by : (found : Option (RouteOf Route)) → option_map (λ (row : RouteOf Route). row.value) found ≡ Some Edits → target_at found (spelling Edits) ≡ Some named.Edits
edits_by None e = absurd (cc)
edits_by (Some row) e =
    let same : row.value ≡ Edits = cc in
    ap (λ (route : Route). target_by route (walk row.pattern row.text (spelling Edits) row.names 0 0)) same

edits_fit : Fits Edits (spelling Edits)
unfolding tokens_of scan
edits_fit = (codes "edits", refl, (codes "dits", refl, (codes "its", refl, (codes "ts", refl, (codes "s", refl, ([], refl, refl))))))

pub edits_named : target_of (spelling Edits) ≡ Some named.Edits
edits_named = edits_by (first route_rows (spelling Edits)) ((rows_fit (spelling Edits) Edits).1 edits_fit)

-- ---- the texts of the rows

texts_plain : (path : List ℕ) → AllSpelled (λ (row : RouteOf Route). list_all is_ascii row.text ≡ true) route_rows path
unfolding route_rows with_route scan
texts_plain path =
    (refl, λ _. refl, (refl, λ _. refl, (refl, λ _. refl, (refl, λ _. refl, (refl, λ _. refl, (refl, λ _. refl, (refl, λ _. refl, (refl, λ _. refl, (refl, λ _. refl, (refl, λ _. refl, (refl, λ _. refl, tt)))))))))))

pub row_plain : (path : List ℕ) (row : RouteOf Route) → first route_rows path ≡ Some row → list_all is_ascii row.text ≡ true
row_plain path row e =
    subst (λ (found : Option (RouteOf Route)). IfSome found (λ r. list_all is_ascii r.text ≡ true)) e
    (seek_spelled (λ (r : RouteOf Route). list_all is_ascii r.text ≡ true) 0 route_rows path (texts_plain path))

-- ---- the texts of parameters

cut_text : (b : Bool) (bytes : List ℕ) (start n : ℕ) → IsAscii bytes → IsUtf8 (cond b (take n (drop start bytes)) [])
cut_text true bytes start n h = IsUtf8-from_ascii _ (IsAscii-take (drop start bytes) n (IsAscii-drop bytes start h))
cut_text false bytes start n h = IsUtf8-from_ascii _ IsAscii-nil

part_text : (bytes : List ℕ) (start end : ℕ) → IsAscii bytes → IsUtf8 (part_of bytes start end)
part_text bytes start end h = cut_text _ bytes start (end - start) h

pub walk_text : (pattern text path : List ℕ) (names : List (ℕ × ℕ)) (token at : ℕ) → IsAscii text → IsAscii path
    → AllText (walk pattern text path names token at)
walk_text pattern text path [] token at t p = tt
walk_text pattern text path (name ∷ rest) token at t p =
    (part_text text name.0 name.1 t, part_text path _ _ p, walk_text pattern text path rest _ _ t p)

-- ---- ASCII by the test

all_below : (bytes : List ℕ) → list_all is_ascii bytes ≡ true → All (λ b. b < 128) bytes
all_below bytes h = λ k d within. ltb-true _ 128 (AllPass-from_list_all is_ascii bytes h k d within)

pub ascii_by_test : (bytes : List ℕ) → list_all is_ascii bytes ≡ true → IsAscii bytes
ascii_by_test bytes h = IsAscii-from_all bytes (all_below bytes h)
