use Rattle.std.proofs.Common.{ap, ◌∙◌, [], sym}
use Rattle.kk_syntax.specs.Shapes.{variable_of}
use Rattle.kk_norm.specs.Names.{named}
use Rattle.kk_norm.specs.Written.{names_of}
use Rattle.kk_norm.proofs.WriterSteps.{names_one_more}
use Rattle.kk_norm.proofs.writer.Writer.bind.Goals as goal

pub returns-in_ok-push-in-Variable-clause-names : goal.returns-in_ok-push-in-Variable-clause-names
returns-in_ok-push-in-Variable-clause-names c =
    let names = c.args.self.now.names.items in
    ap names_of c.in_ok-push-in-Variable.ensures.items
    ∙ (names_one_more [] names (record { variable = c.in-Variable.variable; name = c.args.name })
    ∙ ap (λ binder. named (variable_of binder) c.args.name (names_of names)) (sym c.in-Variable.is))
