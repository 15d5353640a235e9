use Rattle.std.proofs.Common.{◌≡◌, ◌+◌, ◌-◌, ◌<◌, length, map, arith, subst, sym, ap, ◌∙◌}
use Rattle.std.proofs.lemmas.List.{length-map}
use Rattle.kk_source.specs.Live.{fields_at}
use Rattle.kk_meaning.specs.View.{value_view, cell_view}
use Rattle.kk_meaning.specs.Marks.{Marked}
use Rattle.kk_meaning.proofs.Marks.{Passed, passed_marked, marked_live, fields_kept}
use Rattle.kk_meaning.proofs.cell.mark_live.Goals as goal

pub loop-left-preserved-then-marks-left : goal.loop-left-preserved-then-marks-left
loop-left-preserved-then-marks-left c =
    let store = map cell_view c.args.store.now in
    let k = c.loop-left.left - 1 in
    let inv = c.loop-left.invariant in
    let cell = c.index-store-left.result in
    let there : k < length c.args.store.now = omega (arith, inv.within) in
    let fields : map value_view c.deref.result.now ≡ fields_at store k =
    ap (map value_view) c.deref.ensures.value
    ∙ (ap (λ x. map value_view x.fields.items) (sym c.index-store-left.is)
    ∙ sym (fields_kept c.args.store.now k cell there c.index-store-left.is)) in
    let m : Marked c.loop-left.marks c.mark_each-then-marks-left.new.marks (fields_at store k) =
    subst (Marked c.loop-left.marks c.mark_each-then-marks-left.new.marks) fields c.mark_each-then-marks-left.ensures in
    let next : k + 1 ≡ c.loop-left.left = omega arith in
    let p : Passed store (map value_view c.args.held.now) c.loop-left.marks (k + 1) =
    subst (λ n. Passed store (map value_view c.args.held.now) c.loop-left.marks n) (sym next) inv.passed in
    record {
      passed = passed_marked store c.requires.older (map value_view c.args.held.now) c.loop-left.marks c.mark_each-then-marks-left.new.marks k c.if-marks-left.true c.mark_each-then-marks-left.auto.marks m p;
      within = omega (arith, inv.within);
    }

pub returns : goal.returns
returns c = λ at lt.
    let store = map cell_view c.args.store.now in
    let vs = map value_view c.args.held.now in
    let none : c.loop-left.left ≡ 0 = omega arith in
    let passed : Passed store vs c.loop-left.marks 0 = subst (λ n. Passed store vs c.loop-left.marks n) none c.loop-left.invariant.passed in
    marked_live store c.requires.older vs c.loop-left.marks passed at (omega (arith, length-map c.args.store.now cell_view))
