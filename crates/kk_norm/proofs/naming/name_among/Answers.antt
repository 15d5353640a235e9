use Rattle.std.proofs.Common.{take, get_or, ap, sym, ◌∙◌}
use Rattle.std.proofs.lemmas.List.{take_more}
use Rattle.kk_norm.specs.declared.naming.Named.{Named}
use Rattle.kk_norm.specs.Names.{name_of}
use Rattle.kk_norm.specs.Written.{names_of}
use Rattle.kk_norm.proofs.WriterSteps.{name_here, name_elsewhere}
use Rattle.kk_norm.proofs.naming.name_among.Goals as goal
use Rattle.kk_norm.proofs.naming.name_among.Goals.{then-named-variable, else-named-variable}

pub loop-named-preserved : goal.loop-named-preserved
loop-named-preserved c =
    let names = c.args.names.now in
    let x = c.args.variable in
    let i = c.loop-named.named-index in
    let d : Named = record { variable = 0; name = 0 } in
    let taken = ap (λ all. name_of (names_of all) x) (sym (take_more names i d c.loop-named-test.true)) in
    elim c.if-named-variable.branch [
      | then-named-variable w ↦ w.name-is ∙ (name_here (take i names) (get_or names i d) x w.if-named-variable.true ∙ taken)
      | else-named-variable w ↦ w.name-is ∙ (c.loop-named.invariant
          ∙ (name_elsewhere (take i names) (get_or names i d) x w.if-named-variable.false ∙ taken))
    ]
