use Rattle.std.proofs.Common.{◌≡◌, length}
use Rattle.kk_layout.specs.Layouts.{laid_behind, laid_out_items}
use Rattle.kk_layout.specs.Views.{state_of}
use Rattle.kk_layout.proofs.state.laid_out.Given as goal

abbrev pub invariant-loop-token : goal.invariant-loop-token
invariant-loop-token l = (laid_behind l.end l.previous l.rest (state_of l.layout)).laid ≡ laid_out_items l.tokens.end l.tokens.items

abbrev pub decreases-loop-token : goal.decreases-loop-token
decreases-loop-token l = length l.rest
