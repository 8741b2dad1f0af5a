-- The lines of a text: the first one and those behind it, and what is left without a byte order mark.
use Rattle.std.specs.Prelude.{◌≡◌, ◌≢◌, Bool, true, false, cond, ◌&&◌, ◌==◌, List, [], ◌∷◌, ◌++◌, ℕ, suc, ◌+◌, ◌-◌, ◌<◌, ◌≤◌, None, Some, take, drop, length, filter, All}
use Rattle.std.proofs.Common.{arith, refl, ap, sym, ◌∙◌, get_or, get_or-take, drop-cons}
use Rattle.std.proofs.lemmas.List.{take-append-drop, length-take-le, length-drop, take_all, get_or_default, drop_all}
use Rattle.std.proofs.lemmas.Slice.Eq.{bytes_eq-Decides}
use Rattle.std.specs.Str.{bytes_eq}
use Rattle.std.proofs.lemmas.List.Elements.{All-head, All-tail, All-cons, All-nil}
use Rattle.std.proofs.lemmas.Bool.Decides.{nat_tests}
use Rattle.memchr.specs.Find.{IsFirstByte, is_byte}
use Rattle.csv.specs.Reading.{strip_bom, is_bom}
use Rattle.rating_tables.specs.Lines.{begins_with_feed, in_front, lines_of, without_return, numbered, is_kept, kept_lines}

pub no_byte : (b c : ℕ) → b ≢ c → (b == c) ≡ false
no_byte b c h = by (b == c) refl
  where
    by : (d : Bool) → (b == c) ≡ d → (b == c) ≡ false
    by true e = absurd (h (grind (arith, nat_tests)))
    by false e = e

-- a step at a byte that ends no line
lines_return : (b : ℕ) (text : List ℕ) (d : Bool) → b ≢ 10 → (b == 13) ≡ d → begins_with_feed text ≡ false → lines_of (b ∷ text) ≡ in_front b (lines_of text)
unfolding lines_of
lines_return b text true h e f = let g = no_byte b 10 h in rw (g, e, f) refl
lines_return b text false h e f = let g = no_byte b 10 h in rw (g, e) refl

feed_line : (post : List ℕ) → lines_of (10 ∷ post) ≡ [] ∷ lines_of post
unfolding lines_of
feed_line post = refl

last_byte : (b : ℕ) (post : List ℕ) (d : Bool) → b ≢ 10 → (b == 13) ≡ d → lines_of (b ∷ 10 ∷ post) ≡ cond d [] (b ∷ []) ∷ lines_of post
unfolding lines_of
last_byte b post true h e = let g = no_byte b 10 h in rw (g, e) refl
last_byte b post false h e = let g = no_byte b 10 h in rw (g, e) refl

no_lines : lines_of [] ≡ []
unfolding lines_of
no_lines = refl

-- what stands before LF is the first line
pub line_cut : (front post : List ℕ) → All (λ b. b ≢ 10) front → lines_of (front ++ 10 ∷ post) ≡ without_return front ∷ lines_of post
line_cut [] post h = feed_line post
line_cut (b ∷ []) post h = last_byte b post (b == 13) (All-head (λ b. b ≢ 10) b [] h) refl
line_cut (b ∷ c ∷ front) post h =
    let rest = line_cut (c ∷ front) post (All-tail (λ b. b ≢ 10) b (c ∷ front) h) in
    let next = no_byte c 10 (All-head (λ b. b ≢ 10) c front (All-tail (λ b. b ≢ 10) b (c ∷ front) h)) in
    lines_return b (c ∷ front ++ 10 ∷ post) (b == 13) (All-head (λ b. b ≢ 10) b (c ∷ front) h) refl next ∙ ap (in_front b) rest

-- a text without LF is one line
pub line_alone : (b : ℕ) (text : List ℕ) → All (λ b. b ≢ 10) (b ∷ text) → lines_of (b ∷ text) ≡ (b ∷ text) ∷ []
line_alone b [] h = lines_return b [] (b == 13) (All-head (λ b. b ≢ 10) b [] h) refl refl ∙ ap (in_front b) no_lines
line_alone b (c ∷ text) h =
    let rest = line_alone c text (All-tail (λ b. b ≢ 10) b (c ∷ text) h) in
    let next = no_byte c 10 (All-head (λ b. b ≢ 10) c text (All-tail (λ b. b ≢ 10) b (c ∷ text) h)) in
    lines_return b (c ∷ text) (b == 13) (All-head (λ b. b ≢ 10) b (c ∷ text) h) refl next ∙ ap (in_front b) rest

-- a line without its CR has no LF either
return_step : (b : ℕ) (d : Bool) → b ≢ 10 → All (λ b. b ≢ 10) (cond d [] (b ∷ []))
return_step b true h = All-nil (λ b. b ≢ 10)
return_step b false h = All-cons (λ b. b ≢ 10) b [] h (All-nil (λ b. b ≢ 10))

pub return_feeds : (line : List ℕ) → All (λ b. b ≢ 10) line → All (λ b. b ≢ 10) (without_return line)
return_feeds [] h = h
return_feeds (b ∷ []) h = return_step b (b == 13) (All-head (λ b. b ≢ 10) b [] h)
return_feeds (b ∷ c ∷ line) h =
    All-cons (λ b. b ≢ 10) b (without_return (c ∷ line)) (All-head (λ b. b ≢ 10) b (c ∷ line) h) (return_feeds (c ∷ line) (All-tail (λ b. b ≢ 10) b (c ∷ line) h))

-- the CR at the end of a line
pub return_at_end : (line : List ℕ) → 0 < length line → get_or line (length line - 1) 0 ≡ 13 → without_return line ≡ take (length line - 1) line
return_at_end [] h k = absurd (omega arith)
return_at_end (b ∷ []) h k = let e : (b == 13) ≡ true = grind (arith, nat_tests) in rw e refl
return_at_end (b ∷ c ∷ line) h k =
    let same : length (b ∷ c ∷ line) - 1 ≡ suc (length (c ∷ line) - 1) = omega arith in
    let rest = return_at_end (c ∷ line) (omega arith) (rw same at k) in
    rw (same, rest) refl

pub no_return_at_end : (line : List ℕ) → (0 < length line → get_or line (length line - 1) 0 ≢ 13) → without_return line ≡ line
no_return_at_end [] h = refl
no_return_at_end (b ∷ []) h = by (b == 13) refl
  where
    by : (d : Bool) → (b == 13) ≡ d → cond (b == 13) [] (b ∷ []) ≡ b ∷ []
    by true e = absurd (h (omega arith) (grind (arith, nat_tests)))
    by false e = rw e refl
no_return_at_end (b ∷ c ∷ line) h =
    let same : length (b ∷ c ∷ line) - 1 ≡ suc (length (c ∷ line) - 1) = omega arith in
    ap (λ l. b ∷ l) (no_return_at_end (c ∷ line) (λ k e. h (omega arith) (rw same e)))

-- where a search found a byte, and where it found none
front_bytes : (c : ℕ) (text : List ℕ) (k : ℕ) → k ≤ length text → ((j : ℕ) → j < k → get_or text j 0 ≢ c) → All (λ b. b ≢ c) (take k text)
front_bytes c text k h other = λ j d l e.
    let n = length-take-le k text h in
    let m : j < k = omega arith in
    let within : j < length (take k text) = l in
    other j m (sym (get_or-take k text j 0 m) ∙ get_or_default (take k text) j 0 d within ∙ e)

pub found_byte : (c : ℕ) (text : List ℕ) (k : ℕ) → IsFirstByte (is_byte c) text (Some k)
    → (text ≡ take k text ++ c ∷ drop (k + 1) text) × All (λ b. b ≢ c) (take k text)
found_byte c text k found =
    let within : k < length text = found.0.high in
    let here : get_or text k 0 ≡ c = (let at = found.1 in grind (arith, nat_tests)) in
    let next : suc k ≡ k + 1 = omega arith in (
      sym (take-append-drop k text) ∙ ap (λ l. take k text ++ l) (drop-cons text k 0 within ∙ ap (λ b. b ∷ drop (suc k) text) here ∙ ap (λ n. c ∷ drop n text) next),
      front_bytes c text k (omega arith) (λ j h e. found.0.before j (omega arith) h (grind (arith, nat_tests))),
    )

pub found_no_byte : (c : ℕ) (text : List ℕ) → IsFirstByte (is_byte c) text None → All (λ b. b ≢ c) text
found_no_byte c text found = λ j d l e.
    found j (omega arith) l (let f : get_or text j 0 ≡ c = get_or_default text j 0 d l ∙ e in grind (arith, nat_tests))

-- what stands from a place on
pub rest_whole : (k : ℕ) (text : List ℕ) → take (length text - k) (drop k text) ≡ drop k text
rest_whole k text = take_all (length text - k) (drop k text) (omega (arith, length-drop k text))

-- LF ends the first line
pub found_feed : (text : List ℕ) (k : ℕ) → IsFirstByte (is_byte 10) text (Some k)
    → (lines_of text ≡ without_return (take k text) ∷ lines_of (drop (k + 1) text)) × All (λ b. b ≢ 10) (take k text)
found_feed text k found =
    let cut = found_byte 10 text k found in
    (ap lines_of cut.0 ∙ line_cut (take k text) (drop (k + 1) text) cut.1, cut.1)

pub found_no_feed : (text : List ℕ) → 0 < length text → IsFirstByte (is_byte 10) text None
    → (lines_of text ≡ text ∷ lines_of []) × All (λ b. b ≢ 10) text
found_no_feed [] some found = absurd (omega arith)
found_no_feed (b ∷ text) some found =
    let feeds = found_no_byte 10 (b ∷ text) found in
    (line_alone b text feeds ∙ ap (λ ls. (b ∷ text) ∷ ls) (sym no_lines), feeds)

-- the byte order mark
and_three : (x y z : Bool) → x && (y && (z && true)) ≡ x && y && z
and_three false y z = refl
and_three true false z = refl
and_three true true false = refl
and_three true true true = refl

mark_step : (a b c : ℕ) (rest : List ℕ) (d : Bool) → is_bom a b c ≡ d → strip_bom (a ∷ b ∷ c ∷ rest) ≡ cond d rest (a ∷ b ∷ c ∷ rest)
unfolding strip_bom
mark_step a b c rest d e = rw e refl

pub mark_there : (text : List ℕ) → bytes_eq (take 3 text) (239 ∷ 187 ∷ 191 ∷ []) ≡ true → drop 3 text ≡ strip_bom text
mark_there [] h = absurd (cc)
mark_there (a ∷ []) h = absurd (and_no (a == 239) h)
  where
    and_no : (x : Bool) → x && false ≡ true → ⊥
    and_no true h = absurd (cc)
    and_no false h = absurd (cc)
mark_there (a ∷ b ∷ []) h = absurd (and_no (a == 239) (b == 187) h)
  where
    and_no : (x y : Bool) → x && (y && false) ≡ true → ⊥
    and_no true true h = absurd (cc)
    and_no true false h = absurd (cc)
    and_no false y h = absurd (cc)
mark_there (a ∷ b ∷ c ∷ rest) h = sym (mark_step a b c rest true (sym (and_three (a == 239) (b == 187) (c == 191)) ∙ h))

pub no_mark_there : (text : List ℕ) → bytes_eq (take 3 text) (239 ∷ 187 ∷ 191 ∷ []) ≡ false → text ≡ strip_bom text
unfolding strip_bom
no_mark_there [] h = refl
no_mark_there (a ∷ []) h = refl
no_mark_there (a ∷ b ∷ []) h = refl
no_mark_there (a ∷ b ∷ c ∷ rest) h = sym (mark_step a b c rest false (sym (and_three (a == 239) (b == 187) (c == 191)) ∙ h))

-- the CR that a line ends in, if it does
pub return_there : (line : List ℕ) → bytes_eq (drop (length line - 1) line) (13 ∷ []) ≡ true → take (length line - 1) line ≡ without_return line
return_there line h =
    let same : drop (length line - 1) line ≡ 13 ∷ [] = (bytes_eq-Decides (drop (length line - 1) line) (13 ∷ [])).0 h in
    let some : 0 < length line = omega (arith, length-drop (length line - 1) line, ap length same) in
    let last : get_or line (length line - 1) 0 ≡ 13 = (let cut = drop-cons line (length line - 1) 0 (omega arith) in cc) in
    sym (return_at_end line some last)

pub no_return_there : (line : List ℕ) → bytes_eq (drop (length line - 1) line) (13 ∷ []) ≡ false → line ≡ without_return line
no_return_there line h =
    sym (no_return_at_end line (λ some e.
    let cut = drop-cons line (length line - 1) 0 (omega arith) in
    let behind : drop (suc (length line - 1)) line ≡ [] = drop_all (suc (length line - 1)) line (omega arith) in
    let same : drop (length line - 1) line ≡ 13 ∷ [] = cc in
    let yes = (bytes_eq-Decides (drop (length line - 1) line) (13 ∷ [])).1 same in
    absurd (cc)))

-- the first line passed
kept_step : (passed : ℕ) (line : List ℕ) (lines : List (List ℕ)) (b : Bool) → is_kept line ≡ b
    → filter (λ (l : ℕ × List ℕ). is_kept l.1) (numbered passed (line ∷ lines)) ≡ cond b ((suc passed, line) ∷ filter (λ (l : ℕ × List ℕ). is_kept l.1) (numbered (suc passed) lines)) (filter (λ (l : ℕ × List ℕ). is_kept l.1) (numbered (suc passed) lines))
unfolding numbered
kept_step passed line lines b e = rw e refl

pub kept_first : (passed : ℕ) (text line rest : List ℕ) → lines_of text ≡ line ∷ lines_of rest → is_kept line ≡ true
    → kept_lines passed text ≡ (suc passed, line) ∷ kept_lines (suc passed) rest
kept_first passed text line rest e h = ap (λ ls. filter (λ (l : ℕ × List ℕ). is_kept l.1) (numbered passed ls)) e ∙ kept_step passed line (lines_of rest) true h

pub kept_passed : (passed : ℕ) (text line rest : List ℕ) → lines_of text ≡ line ∷ lines_of rest → is_kept line ≡ false
    → kept_lines passed text ≡ kept_lines (suc passed) rest
kept_passed passed text line rest e h = ap (λ ls. filter (λ (l : ℕ × List ℕ). is_kept l.1) (numbered passed ls)) e ∙ kept_step passed line (lines_of rest) false h

pub kept_none : (passed : ℕ) → kept_lines passed [] ≡ []
unfolding lines_of numbered
kept_none passed = refl

pub kept_empty : (passed : ℕ) (text : List ℕ) → length text ≡ 0 → kept_lines passed text ≡ []
kept_empty passed [] h = kept_none passed
kept_empty passed (b ∷ text) h = absurd (omega arith)
