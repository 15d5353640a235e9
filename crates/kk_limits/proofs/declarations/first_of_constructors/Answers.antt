use Rattle.std.proofs.Common.{ap, ◌∙◌}
use Rattle.std.specs.Prelude.{◌==◌, count_by, slice_get}
use Rattle.kk_base.specs.declared.limit.LimitKind.TheVariants.{Constructors}
use Rattle.kk_syntax.specs.declared.program.Constructor.{Constructor}
use Rattle.kk_syntax.specs.Programs.{program_tree}
use Rattle.kk_syntax.specs.Declarations.{place_of_type, if_over, sooner}
use Rattle.kk_syntax.proofs.Quantities.{quantities_are, constructor_more}
use Rattle.kk_limits.proofs.declarations.first_of_constructors.Goals as goal

pub loop-constructor-preserved : goal.loop-constructor-preserved
loop-constructor-preserved c =
    let program = c.args.program.now in
    let item = c.constructor-item.result in
    let own = c.sooner.ensures
    ∙ (ap (λ q. sooner q c.if_over-in-loop-constructor.result) c.if_over.ensures
    ∙ (ap (sooner (if_over (record { at = c.place_of_type.result; kind = Constructors; count = c.count_of_type.result }))) c.if_over-in-loop-constructor.ensures
    ∙ quantities_are program item c.place_of_type.result c.count_of_type.result c.len.result
    (c.place_of_type.ensures ∙ ap (λ ts. place_of_type (slice_get ts item.of_type)) c.deref.ensures.value)
    (c.count_of_type.ensures ∙ ap (count_by (λ (k : Constructor). k.of_type == item.of_type)) c.deref-in-loop-constructor.ensures.value)
    (c.len.ensures ∙ item.fields.ok.0))) in
    c.loop-constructor.invariant
    ∙ constructor_more (program_tree program) program.constructors.items c.deref-constructor-items.result.now c.loop-constructor.constructor-index item
    c.loop-constructor.first c.sooner.result c.sooner-first.result c.deref-constructor-items.ensures.value c.loop-constructor-test.true
    c.constructor-item.is own c.sooner-first.ensures
