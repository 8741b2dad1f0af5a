use Rattle.std.proofs.Common.{◌≡◌, ◌∙◌, ◌≤◌, ℕ, List, arith, length, rules, subst, sym}
use Rattle.arrayvec.specs.ArrayVec.{array_vec_len}
use Rattle.edits.specs.Texts.{IsReference}
use Rattle.reading_loading.proofs.ReferenceLemmas.{is_reference, short_number}
use Rattle.reading_loading.specs.Puts.{reference_of}
use Rattle.reading_loading.proofs.prefixes.Prefix.reference.Goals as goal

pub add-requires-3 : goal.add-requires-3
add-requires-3 c =
    let front : length c.as_slice.result.now ≤ 30 = subst (λ (l : List ℕ). length l ≤ 30) (sym c.as_slice.ensures.codes) c.as_slice.ensures.kept.longest in
    let digits : length c.as_bytes.result.now ≤ 9 =
    subst (λ (l : List ℕ). length l ≤ 9) (sym (c.as_bytes.ensures.value ∙ c.format.ensures.text)) (short_number c.args.number c.requires)
    in
    let none : array_vec_len c.new-codes.result ≡ 0 = search rules in
    omega (arith, front, digits, none, c.add.ensures.len, c.add-2.ensures.len)

pub unwrap-requires : goal.unwrap-requires
unwrap-requires c =
    let is : c.as_slice-2.result.now ≡ reference_of c.args.self.now c.args.number = search rules in
    c.new.ensures.range.1
    (subst (λ (l : List ℕ). IsReference l) (sym is) (is_reference c.args.self.now c.args.number c.as_slice.ensures.kept c.requires))
