use Rattle.std.proofs.Common.{◌≡◌, ◌≤◌, ◌++◌, map, take, reverse, length}
use Rattle.kk_source.specs.Live.{held_by_all}
use Rattle.kk_meaning.specs.View.{value_view}
use Rattle.kk_meaning.specs.Frames.{frame_view}
use Rattle.kk_meaning.proofs.held.hold_frames.Given as goal

abbrev pub invariant-loop-left : goal.invariant-loop-left
invariant-loop-left l = record {
  within : l.left ≤ length l.frames;
  held : map value_view l.values.items ++ held_by_all (map (frame_view l.bindings.links.items) (reverse (take l.left l.frames))) ≡ map value_view l.fn.values.items ++ held_by_all (map (frame_view l.bindings.links.items) (reverse l.frames));
}

abbrev pub decreases-loop-left : goal.decreases-loop-left
decreases-loop-left l = l.left
