-- Fusion of steps of a block.
use Rattle.std.specs.Prelude.{◌==◌, ℕ, Bool, false, not, ◌&&◌, ◌||◌, List, [], ◌∷◌, map, reverse, Option, Some, None, option_map, if◌then◌else◌}
use Rattle.kk_syntax.specs.Shapes.{is_among}
use Rattle.kk_counted.specs.CountedForms.{Move, computes, runs, reads, dups, drops, step_move}
use Rattle.kk_counted.specs.declared.form.Step.{Step}
use Rattle.kk_fuse.specs.Fused.{is_plain, fuse}

-- steps, of which the last one was written first
unfoldable pub backwards : List Step → List Move
backwards steps = reverse (map step_move steps)

-- whether a step drops a variable
abbrev pub drops_it : ℕ → Move → Bool
drops_it x (drops y) = y == x
drops_it x _ = false

-- whether a step may stand before the drop of a variable that cancels with a dup
abbrev pub lets_past : ℕ → Move → Bool
lets_past x (computes y form arguments) = not (y == x || is_among arguments x) && is_plain form arguments
lets_past x (reads y c fields) = not (y == x || is_among fields x)
lets_past x (dups y) = not (y == x)
lets_past x (drops y) = not (y == x)
lets_past x _ = false

-- steps without their next drop of a variable
abbrev pub moves_without : ℕ → List Move → Option (List Move)
moves_without x [] = None
moves_without x (move ∷ moves) =
    if drops_it x move then Some moves
    else if lets_past x move then option_map (λ less. move ∷ less) (moves_without x moves) else None

-- a step in front of fused ones: a dup cancels with the next drop of its variable, where it can
abbrev pub put_fused : Move → List Move → List Move
put_fused (dups x) moves = or_else (moves_without x moves)
  where
    or_else : Option (List Move) → List Move
    or_else None = dups x ∷ moves
    or_else (Some less) = less
put_fused move moves = move ∷ moves

-- a step whose block is fused
abbrev pub fused_move : Move → Move
fused_move (runs x block) = runs x (fuse block)
fused_move move = move

-- steps, fused from the last one on
abbrev pub fused_moves : List Move → List Move
fused_moves [] = []
fused_moves (move ∷ moves) = put_fused (fused_move move) (fused_moves moves)
