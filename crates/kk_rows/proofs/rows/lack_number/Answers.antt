use Rattle.std.proofs.Common.{◌≡◌, ◌+◌, false, IsTrue, ℤ, to_z, of_z, w32, ◌∷◌, map, drop, refl, sym, ap, ◌∙◌, subst}
use Rattle.std.proofs.lemmas.Bool.{both_ways}
use Rattle.std.proofs.lemmas.Int.{to_z-of_z}
use Rattle.std.proofs.lemmas.List.{drop_all, drop_more}
use Rattle.kk_syntax.specs.Covered.{Each}
use Rattle.kk_slots.specs.Problems.{row_view, LacksNumber}
use Rattle.kk_rows.proofs.rows.lack_number.Goals as goal

pub returns-then-not-lacks_number : goal.returns-then-not-lacks_number
returns-then-not-lacks_number c = (
  λ wrong. absurd (both_ways false refl wrong),
  λ each.
      let n : ℤ = to_z w32 (of_z w32 c.args.number) in
      let same : n ≡ c.args.number = to_z-of_z w32 c.args.number c.ranges.number in
      let i = c.loop-row.row-index in
      let left = c.loop-row.invariant.to (subst (λ k. Each (LacksNumber k) (map (λ row. row_view row.items) c.args.rows.now)) (sym same) each) in
      let here = subst (λ xs. Each (LacksNumber n) (map (λ row. row_view row.items) xs)) (drop_more c.args.rows.now i c.row-item.result c.loop-row-test.true ∙ ap (λ row. row ∷ drop (i + 1) c.args.rows.now) (sym c.row-item.is)) left in
      subst IsTrue c.if-not-lacks_number.true (c.lacks_number.ensures.1 (subst (λ slots. LacksNumber n (row_view slots)) (sym c.deref.ensures.value) here.0)),
)

pub returns : goal.returns
returns c = (
  λ yes.
      let n : ℤ = to_z w32 (of_z w32 c.args.number) in
      let same : n ≡ c.args.number = to_z-of_z w32 c.args.number c.ranges.number in
      let all = c.loop-row.invariant.from (subst (λ xs. Each (LacksNumber n) (map (λ row. row_view row.items) xs)) (sym (drop_all c.loop-row.row-index c.args.rows.now c.loop-row-test.false)) tt) in
      subst (λ k. Each (LacksNumber k) (map (λ row. row_view row.items) c.args.rows.now)) same all,
  λ each. refl,
)
