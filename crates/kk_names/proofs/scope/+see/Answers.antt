use Rattle.std.proofs.Common.{◌+◌, map, drop, sym, ap, ◌∙◌}
use Rattle.std.proofs.lemmas.List.{drop_all}
use Rattle.kk_syntax.specs.Surface.{written_type, types_of}
use Rattle.kk_names.specs.TypeNames.{with_all_variables}
use Rattle.kk_names.proofs.WrittenForms.{next_type}
use Rattle.kk_names.proofs.scope.+see.Goals as goal

pub see_all-loop-written-preserved : goal.see_all-loop-written-preserved
see_all-loop-written-preserved t c =
    let left = types_of (map written_type (drop (c.loop-written.written-index + 1) c.args.types.now)) in
    ap (with_all_variables left) c.in_ok-see.ensures
    ∙ (sym (ap (λ ws. with_all_variables ws c.loop-written.variables.items)
    (next_type c.args.types.now c.loop-written.written-index c.written-item.result c.written-item.is c.loop-written-test.true)) ∙ c.loop-written.invariant)

pub see_all-returns : goal.see_all-returns
see_all-returns t c =
    sym (ap (λ ws. with_all_variables (types_of (map written_type ws)) c.loop-written.variables.items)
    (drop_all c.loop-written.written-index c.args.types.now c.loop-written-test.false)) ∙ c.loop-written.invariant
