use Rattle.std.proofs.Common.{◌+◌, ◌-◌, ◌≤◌, length}
use Rattle.kk_lexer.proofs.CommentLemmas.{Nests}
use Rattle.kk_lexer.proofs.comments.comment_length.Given as goal

abbrev pub invariant-loop-depth : goal.invariant-loop-depth
invariant-loop-depth l = record { in_range : l.length ≤ length l.text; few : l.depth ≤ l.length + 1; nests : Nests l.text l.length l.depth }

abbrev pub decreases-loop-depth : goal.decreases-loop-depth
decreases-loop-depth l = length l.text - l.length
