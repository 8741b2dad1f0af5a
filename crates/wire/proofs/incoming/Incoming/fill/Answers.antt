use Rattle.std.proofs.Common.{rules, ◌≡◌, ℕ, ◌+◌, ◌-◌, ◌≤◌, ◌<◌, List, ◌++◌, length, take, drop, slice_range, sym, ap, ◌∙◌, arith, append_assoc, length-drop}
use Rattle.std.specs.Vec.{with_items}
use Rattle.std.proofs.lemmas.List.{with_items_is, places, length-take}
use Rattle.wire.specs.Incoming.{Held}
use Rattle.wire.proofs.IncomingLemmas.{held_grows, held_stays, grown, told_maps}
use Rattle.wire.proofs.incoming.Incoming.fill.Goals as goal

-- the bytes at hand stand in a block: where none are read behind them, the same are at hand
same_at_hand : {items before moved read held : List ℕ} {start end : ℕ} (offset : ℕ) → items ≡ read → take end read ≡ take end before
    → before ≡ moved → start ≤ end → slice_range moved start end ≡ held
    → ◌≡◌ {A = Held} (record { ahead = slice_range items start end; offset = offset }) (record { ahead = held; offset = offset })
same_at_hand offset whole front same le kept =
    let at_hand : List ℕ → Held = λ ahead. record { ahead = ahead; offset = offset } in
    ap at_hand (held_stays _ _ _ _ _ _ _ whole front same le kept)

pub returns-in-Bytes-clause-filled : goal.returns-in-Bytes-clause-filled
returns-in-Bytes-clause-filled g c =
    let read = c.take_behind.new.block in
    let block = with_items c.self.inside.block c.make_room-self-inside.new.block in
    let end : ℕ = c.make_room-self-inside.result + (c.self.inside.end - c.self.inside.start) in
    let count = c.in-Bytes.count in
    let room : end + count ≤ length read =
    omega (arith, c.in-Bytes.ensures.within.1, c.min-room.ensures, c.take_behind.auto.block, c.deref_mut-2.ensures.len, c.self.invariant.full, c.make_room-self-inside.ensures.room) in
    let some : 0 < length (take count (drop end read)) =
    omega (arith, c.in-Bytes.ensures.within.0, room, length-take count (drop end read), length-drop end read) in
    let ahead =
    held_grows _ _ _ _ c.args.self.now.ahead _ end count (with_items_is block read (search (rules, places)))
    c.take_behind.ensures.front (c.deref_mut-2.ensures.value ∙ with_items_is c.self.inside.block _ (search (rules, places))) (omega arith)
    (c.make_room-self-inside.ensures.held ∙ ap (λ (xs : List ℕ). slice_range xs c.self.inside.start c.self.inside.end) c.deref_mut.ensures.value
    ∙ ap (λ (h : Held). h.ahead) c.self.view_is) in
    grown c.args.self.now _ (take count (drop end read)) (ap (λ (h : Held). h.offset) c.self.view_is) ahead some

pub returns-in-Bytes-clause-kept : goal.returns-in-Bytes-clause-kept
returns-in-Bytes-clause-kept g c =
    let read = c.take_behind.new.block in
    let block = with_items c.self.inside.block c.make_room-self-inside.new.block in
    let end : ℕ = c.make_room-self-inside.result + (c.self.inside.end - c.self.inside.start) in
    let more = take c.in-Bytes.count (drop end read) in
    let old = c.args.self.now.ahead in
    let ahead =
    held_grows _ _ _ _ c.args.self.now.ahead _ end c.in-Bytes.count (with_items_is block read (search (rules, places)))
    c.take_behind.ensures.front (c.deref_mut-2.ensures.value ∙ with_items_is c.self.inside.block _ (search (rules, places))) (omega arith)
    (c.make_room-self-inside.ensures.held ∙ ap (λ (xs : List ℕ). slice_range xs c.self.inside.start c.self.inside.end) c.deref_mut.ensures.value
    ∙ ap (λ (h : Held). h.ahead) c.self.view_is) in
    told_maps (g.S.Source.left c.args.source.now) (g.S.Source.left c.take_behind.new.source)
    (λ b a. b ≡ more ++ a) _
    (λ b a h. ap (λ (xs : List ℕ). old ++ xs) h ∙ sym (append_assoc old more a) ∙ ap (λ (xs : List ℕ). xs ++ a) (sym ahead))
    c.in-Bytes.ensures.taken

pub returns-in-End-clause-filled : goal.returns-in-End-clause-filled
returns-in-End-clause-filled g c =
    let block = with_items c.self.inside.block c.make_room-self-inside.new.block in
    same_at_hand c.self.inside.offset (with_items_is block _ (search (rules, places))) c.take_behind.ensures.front
    (c.deref_mut-2.ensures.value ∙ with_items_is c.self.inside.block _ (search (rules, places))) (omega arith)
    (c.make_room-self-inside.ensures.held ∙ ap (λ (xs : List ℕ). slice_range xs c.self.inside.start c.self.inside.end) c.deref_mut.ensures.value)
    ∙ c.self.view_is

pub returns-in-Failed-clause-filled : goal.returns-in-Failed-clause-filled
returns-in-Failed-clause-filled g c =
    let block = with_items c.self.inside.block c.make_room-self-inside.new.block in
    same_at_hand c.self.inside.offset (with_items_is block _ (search (rules, places))) c.take_behind.ensures.front
    (c.deref_mut-2.ensures.value ∙ with_items_is c.self.inside.block _ (search (rules, places))) (omega arith)
    (c.make_room-self-inside.ensures.held ∙ ap (λ (xs : List ℕ). slice_range xs c.self.inside.start c.self.inside.end) c.deref_mut.ensures.value)
    ∙ c.self.view_is
