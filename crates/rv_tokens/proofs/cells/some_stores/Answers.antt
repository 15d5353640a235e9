use Rattle.std.proofs.Common.{Bool, List, ◌+◌, take, map, get_or, arith, sym, subst}
use Rattle.rv_isa.specs.AsmCode.{Line}
use Rattle.rv_lower.specs.Written.{short_line}
use Rattle.rv_cells.specs.CellLines.{StoresIf, SomeStores, is_kept}
use Rattle.rv_tokens.proofs.WrittenLines.{some_more}
use Rattle.rv_tokens.proofs.cells.some_stores.Goals as goal
use Rattle.rv_cells.specs.Layout.{first_field}

pub loop-field-preserved : goal.loop-field-preserved
loop-field-preserved c = record {
  index = omega (arith, c.in_ok-index.ensures, c.loop-field.invariant.index);
  position = omega (arith, c.in_ok-position.ensures, c.loop-field.invariant.position);
  lines =
      let pushed = c.in_ok-push_store.ensures in
      subst (λ (lines : List Line). SomeStores (is_kept c.args.left c.args.kept.now) c.args.cell first_field 0
      (take (c.loop-field.field-index + 1) c.args.fields.now) lines) (sym pushed.2)
      (some_more (is_kept c.args.left c.args.kept.now) c.args.cell c.loop-field.field-index c.loop-field.index
      c.loop-field.position c.args.fields.now (map short_line c.loop-field.lines.items) pushed.0 c.loop-field-test.true
      c.loop-field.invariant.index c.loop-field.invariant.position c.loop-field.invariant.lines
      (subst (λ (b : Bool). StoresIf b c.args.cell c.loop-field.index (get_or c.args.fields.now c.loop-field.field-index 0)
      pushed.0) c.is_taken.ensures pushed.1));
}
