use Rattle.std.proofs.Common.{List, [], ◌∷◌, ◌+◌, take, map, arith, sym, subst, ap, ◌∙◌}
use Rattle.std.proofs.lemmas.List.{map-append}
use Rattle.rv_isa.specs.AsmCode.{Line}
use Rattle.rv_lower.specs.Written.{short_line}
use Rattle.rv_cells.specs.CellLines.{AllLoads}
use Rattle.rv_tokens.proofs.WrittenLines.{loads_more}
use Rattle.rv_tokens.proofs.cells.loads.Goals as goal
use Rattle.rv_cells.specs.Layout.{first_field}

pub loop-field-preserved : goal.loop-field-preserved
loop-field-preserved c = record {
  index = omega (arith, c.in_ok-index.ensures, c.loop-field.invariant.index);
  lines =
      subst (λ (lines : List Line). AllLoads c.args.cell first_field (take (c.loop-field.field-index + 1) c.args.fields.now) lines)
      (sym (ap (map short_line) c.in_ok-push.ensures.items ∙ map-append short_line c.loop-field.lines.items
      (c.in_ok-line.line ∷ [])))
      (loads_more c.args.cell c.loop-field.field-index c.loop-field.index c.args.fields.now
      (map short_line c.loop-field.lines.items)
      (short_line c.in_ok-line.line) c.loop-field-test.true c.loop-field.invariant.index c.loop-field.invariant.lines
      c.in_ok-line.ensures);
}
