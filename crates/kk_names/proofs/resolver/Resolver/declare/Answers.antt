use Rattle.std.proofs.Common.{map, ap, ◌∙◌}
use Rattle.std.proofs.lemmas.Result.{IfOk-weaker}
use Rattle.kk_syntax.specs.Surface.{written_declaration}
use Rattle.kk_names.specs.Methods.{behind_constructors, behind_functions}
use Rattle.kk_names.proofs.resolver.Resolver.declare.Goals as goal

pub returns : goal.returns
returns c =
    let ds = map written_declaration c.args.declarations.now in
    IfOk-weaker c.declare_functions.result _ _
    (λ _ made. made ∙ ap (behind_functions 0 ds) (c.in_ok-declare_constructors.ensures ∙ ap (behind_constructors 2 ds) c.in_ok-declare_types.ensures))
    c.declare_functions.ensures
