use Rattle.std.proofs.Common.{◌<◌, [], ◌∷◌, slice_index_or, refl, sym, subst}
use Rattle.std.proofs.lemmas.List.Elements.{All-append, All-cons, All-nil}
use Rattle.kk_walk.specs.declared.walk.Bound.{Bound}
use Rattle.kk_walk.specs.Walks.{AreBoundBelow}
use Rattle.kk_types.proofs.Functions.{parameter_bound}
use Rattle.kk_types.proofs.program.parameters.Goals as goal

pub loop-index-preserved : goal.loop-index-preserved
loop-index-preserved c =
    let one : Bound = record { variable = c.in_ok-variable.variable; node = slice_index_or c.args.nodes.now c.loop-index.index 0 } in
    record {
      bound = parameter_bound c.args.nodes.now c.loop-index.scope.items c.push.new.self.items c.loop-index.index c.in_ok-variable.variable one.node c.loop-index-test.true refl c.in_ok-variable.ensures c.in_ok-push.ensures.items c.loop-index.invariant.bound;
      inside = λ size h.
          let P : Bound → Type 0 = λ b. b.node < size in
          subst (AreBoundBelow size) (sym c.in_ok-push.ensures.items) (All-append P c.loop-index.scope.items (one ∷ []) (c.loop-index.invariant.inside size h) (All-cons P one [] (h c.loop-index.index 0 c.loop-index-test.true) (All-nil P)));
    }
