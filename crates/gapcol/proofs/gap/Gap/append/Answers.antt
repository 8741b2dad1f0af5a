-- Each value is put at the start of the gap, which then begins behind it.
use Rattle.std.proofs.Common.{◌≡◌, ◌+◌, [], ◌∷◌, ◌++◌, take, sym, ap, arith, ◌∙◌}
use Rattle.std.proofs.lemmas.List.{append_assoc, take_more}
use Rattle.gapcol.specs.Gaps.{gap_list}
use Rattle.gapcol.proofs.Gaps.{places}
use Rattle.gapcol.proofs.Steps.{first_is_empty, put_before}
use Rattle.gapcol.proofs.gap.Gap.append.Goals as goal

pub write-requires : goal.write-requires
write-requires g c = let h = record c.loop-item.self { len = c.loop-item.place; front = c.loop-item.place } in let i = c.loop-item.invariant in
    (sym i.0.block.0, omega (arith, places h i.0, i.0.back), first_is_empty h i.0 (omega arith))

pub loop-item-preserved : goal.loop-item-preserved
loop-item-preserved g c = let h = record c.loop-item.self { len = c.loop-item.place; front = c.loop-item.place } in let i = c.loop-item.invariant in let w = c.write.ensures in
    let x = c.item-item.result in let put = take c.loop-item.item-index c.args.items.now in
    let made = put_before h i.0 c.write.new.self w.0 x (omega arith) w.1 in
    let more : take (c.loop-item.item-index + 1) c.args.items.now ≡ put ++ x ∷ [] = take_more c.args.items.now c.loop-item.item-index x (omega arith) ∙ ap (λ y. put ++ y ∷ []) (sym c.item-item.is) in
    (made.0, i.1, made.1 ∙ ap (λ l. l ++ x ∷ []) i.2 ∙ append_assoc (gap_list c.args.self.now) put (x ∷ []) ∙ ap (λ l. gap_list c.args.self.now ++ l) (sym more), made.2 ∙ i.3, omega arith)
