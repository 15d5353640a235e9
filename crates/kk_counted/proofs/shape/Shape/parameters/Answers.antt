use Rattle.std.proofs.Common.{◌≡◌, ℕ, zero, suc, ◌<◌, List, [], ◌∷◌, length, map, get_or, arith, sym, ap, ◌∙◌}
use Rattle.std.specs.Prelude.{slice_index_or}
use Rattle.kk_counted.specs.declared.shape.Parameter.{Parameter}
use Rattle.kk_counted.specs.declared.shape.InstanceShape.{InstanceShape}
use Rattle.kk_counted.specs.InstancePositions.{passed_to, positions_in}
use Rattle.kk_counted.proofs.shape.Shape.parameters.Goals as goal

-- what an instance is passed
passed_at : (instances : List InstanceShape) (i : ℕ) (one : InstanceShape) → i < length instances → one ≡ get_or instances i one → slice_index_or (positions_in instances) i [] ≡ passed_to one
passed_at [] i one less is = absurd (omega (arith, less))
passed_at (first ∷ instances) zero one less is = ap passed_to (sym is)
passed_at (first ∷ instances) (suc i) one less is = passed_at instances i one (omega (arith, less)) is

pub returns : goal.returns
returns c =
    let one = c.index-instances-instance.result in
    ap (λ (all : List Parameter). map (λ parameter. parameter.ownership) all) (c.deref.ensures.value ∙ ap (λ o. o.parameters.items) (sym c.index-instances-instance.is))
    ∙ sym (passed_at c.args.self.now.instances.items c.args.instance one c.requires (c.index-instances-instance.is ∙ ap (λ xs. get_or xs c.args.instance one) c.instances.ensures))
