use Rattle.std.proofs.Common.{ℕ, Bool, not, map, sym, subst}
use Rattle.std.proofs.lemmas.Result.{on_ok_weaker}
use Rattle.rv_lower.specs.Written.{short_line, WroteLines}
use Rattle.rv_cells.specs.Layout.{first_field}
use Rattle.rv_cells.specs.CellLines.{AllLoads}
use Rattle.rv_tokens.specs.Written.{holds_known, WayLines, WroteOpening}
use Rattle.rv_tokens.proofs.WrittenLines.{opening_written}
use Rattle.rv_tokens.proofs.cells.write_opening.Goals as goal

pub returns : goal.returns
returns c =
    on_ok_weaker c.write_label-2.result
    (λ last. subst (λ (token : ℕ). WroteOpening (holds_known c.args.known.now) c.args.cell c.args.fields.now c.args.used.now token
    c.args.into c.args.lowering.now c.write_label-2.new.lowering) c.in_ok-token.ensures
    (opening_written (map short_line c.deref.result.now) c.in_ok-second.ensures c.in_ok-behind.ensures
    (subst (λ lines. AllLoads c.args.cell first_field c.args.fields.now (map short_line lines)) (sym c.deref.ensures.value)
    c.in_ok-loads.ensures)
    c.in_ok-write_count_test.ensures
    (subst (λ (alone : Bool). WroteLines (WayLines alone c.write_count_test.new.lowering.base (holds_known c.args.known.now)
    c.args.cell c.args.fields.now c.args.used.now c.in_ok-token.token (map short_line c.deref.result.now))
    c.write_count_test.new.lowering c.write_way.new.lowering) c.is_some-enters.ensures c.in_ok-write_way.ensures)
    c.in_ok-write_leaving.ensures c.in_ok-write_label.ensures
    (subst (λ (alone : Bool). WroteLines (WayLines (not alone) c.write_label.new.lowering.base (holds_known c.args.known.now)
    c.args.cell c.args.fields.now c.args.used.now c.in_ok-token.token (map short_line c.deref.result.now))
    c.write_label.new.lowering c.write_way-2.new.lowering) c.is_some-enters.ensures c.in_ok-write_way-2.ensures)
    last))
    c.write_label-2.ensures
