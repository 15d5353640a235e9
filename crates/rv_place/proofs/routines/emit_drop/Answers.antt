use Rattle.std.proofs.Common.{◌≡◌, ◌+◌, ◌*◌, sym, ap, ◌∙◌, subst, arith}
use Rattle.rv_place.specs.Instructions.{CallsTo}
use Rattle.rv_place.specs.Emitted.{JumpReaches}
use Rattle.rv_place.proofs.Emissions.{grew_so, grew_then}
use Rattle.rv_place.proofs.routines.emit_drop.Goals as goal

pub returns : goal.returns
returns c =
    grew_so (omega arith)
    (λ code at row is reaches.
    let behind : at + 4 * 3 + 4 * 3 ≡ at + 24 = omega arith in
    record {
      over = c.over_drop-over.result;
      over_is = c.over_drop-over.ensures;
      loads = row.0;
      over_call = c.over_jump-over_call.result;
      over_call_is = c.over_jump-over_call.ensures;
      lowers = row.1.0;
      calls = subst (λ p. CallsTo c.args.jumps code p c.args.target) behind
          (row.1.1 (behind ∙ ap (λ p. p + 24) is) (subst (λ p. JumpReaches c.args.jumps p c.args.target) (sym behind) reaches));
    })
    (grew_then c.in_ok-emit_count.ensures (grew_then c.in_ok-emit_lowered.ensures c.in_ok-emit_call.ensures))
