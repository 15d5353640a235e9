use Rattle.std.proofs.Common.{◌≤◌, ◌<◌, ◌+◌, ◌^◌, ℕ, pos, false, IsTrue, w32, List, map, length, refl, sym, subst, arith}
use Rattle.std.proofs.lemmas.Bool.{both_ways}
use Rattle.std.proofs.lemmas.Int.{to_z_pos}
use Rattle.std.proofs.lemmas.List.{length-map}
use Rattle.kk_syntax.specs.Covered.{Each}
use Rattle.kk_syntax.specs.Outlines.{Outlines}
use Rattle.kk_slots.specs.Problems.{row_view, LacksNumber}
use Rattle.kk_rows.proofs.Pigeonhole.{all_asked, one_more_asked}
use Rattle.kk_rows.proofs.rows.least_number.Goals as goal

-- each number up to this one is asked for
more_asked : (c : goal.In-loop-count) (less : ℕ) → less < c.loop-count.count + 1 → Each (LacksNumber (pos less)) (map (λ row. row_view row.items) c.args.rows.now) → ⊥
more_asked c =
    let n = c.loop-count.count in
    let rows : List Outlines = map (λ row. row_view row.items) c.args.rows.now in
    let small : n < 2 ^ 31 = omega (arith, c.loop-count.invariant.within, c.requires) in
    let this : Each (LacksNumber (pos n)) rows → ⊥ = λ each.
    let wrong = subst IsTrue c.loop-count-test.true (c.lack_number.ensures.1 (subst (λ k. Each (LacksNumber k) rows) (sym (to_z_pos w32 n small)) each)) in
    both_ways false refl wrong in
    one_more_asked n rows c.loop-count.invariant.asked this

within_more : (c : goal.In-loop-count) → c.loop-count.count + 1 ≤ length c.args.rows.now
within_more c =
    let most = all_asked (c.loop-count.count + 1) (map (λ row. row_view row.items) c.args.rows.now) (more_asked c) in
    let long = length-map c.args.rows.now (λ row. row_view row.items) in
    omega (arith, most, long)

pub loop-count-smaller : goal.loop-count-smaller
loop-count-smaller c = let within = within_more c in omega (arith, within)

pub loop-count-preserved : goal.loop-count-preserved
loop-count-preserved c = record { within = within_more c; asked = more_asked c }
