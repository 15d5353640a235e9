use Rattle.std.proofs.Common.{map, arith, sym}
use Rattle.std.proofs.lemmas.List.{length-map}
use Rattle.kk_meaning.specs.View.{cell_view}
use Rattle.kk_meaning.proofs.ValueTurns.{has_room}
use Rattle.kk_meaning.proofs.machine.Machine.heap_is_full.Goals as goal

pub returns-then-len-self : goal.returns-then-len-self
returns-then-len-self c =
    let all = c.args.self.now.store.ok.0 in
    sym (has_room (map cell_view c.args.self.now.store.items) _ c.args.self.now.cells (omega (arith, length-map c.args.self.now.store.items cell_view)))
