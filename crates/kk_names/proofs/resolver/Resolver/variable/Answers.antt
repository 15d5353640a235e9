use Rattle.std.proofs.Common.{◌∙◌, ap}
use Rattle.kk_names.specs.Methods.{newest_first}
use Rattle.kk_names.specs.Scopes.{number_in}
use Rattle.kk_names.proofs.Arguments.{variable_found, variable_unknown}
use Rattle.kk_syntax.proofs.Views.{variable_tree}
use Rattle.kk_names.proofs.resolver.Resolver.variable.Goals as goal

pub returns-in-Some-clause-resolves : goal.returns-in-Some-clause-resolves
returns-in-Some-clause-resolves c =
    variable_found c.args.name.now c.in-Some.number c.args.self.now _
    (c.in-Some.ensures ∙ ap (λ all. number_in (newest_first all) c.args.name.now.name) c.as_slice.ensures.value) (variable_tree c.in-Some.number)

pub returns-in_ok-note-in-None-clause-resolves : goal.returns-in_ok-note-in-None-clause-resolves
returns-in_ok-note-in-None-clause-resolves c =
    variable_unknown c.args.name.now c.args.self.now c.note.new.self _
    (c.in-None.ensures ∙ ap (λ all. number_in (newest_first all) c.args.name.now.name) c.as_slice.ensures.value) c.alone.ensures.tree c.in_ok-note-in-None.ensures
