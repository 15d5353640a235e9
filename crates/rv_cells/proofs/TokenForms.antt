-- The forms on tokens alone, as lines: a token is null, moved, or freed.
use Rattle.std.proofs.Common.{◌≡◌, ◌<◌, ℕ, ◌+◌, false, List, [], ◌∷◌, Option, Some, refl, arith}
use Rattle.kk_syntax.specs.Shapes.{is_among}
use Rattle.rv_isa.specs.declared.asm.Action.TheVariants.{Compute}
use Rattle.rv_isa.specs.declared.asm.Operation.TheVariants as Op
use Rattle.rv_isa.specs.AsmCode.{Line}
use Rattle.rv_isa.specs.Frames.{Frame}
use Rattle.cell_runtime.specs.World.{with_cells}
use Rattle.rv_lower.specs.Lines.{sets, copies_to, acts}
use Rattle.rv_cells.specs.CountedCells.{nobody, in_hand, with_owner}
use Rattle.cell_heap.specs.Blocks.{Cells}
use Rattle.rv_cells.proofs.Counts.{released}
use Rattle.rv_cells.proofs.Words.{hand_owned}
use Rattle.rv_cells.proofs.Runs.{turn_of, Runs}
use Rattle.rv_cells.proofs.CellActions.{put_in, sets_runs, copy_runs, free_runs, free_null_runs}
use Rattle.rv_cells.proofs.Spots.{Spot, Known, Here}
use Rattle.rv_cells.proofs.LineCosts.{most_moves}
use Rattle.rv_cells.proofs.Values.{has_other}
use Rattle.rv_cells.proofs.TokenContinuations.{Lands}

module _ (known : Known) (rest : List Line) (fs : List (Frame Line)) (s : Spot) (here : Here known s) where
  -- a line that writes the value of a token
  writes : (token word : ℕ) (line : Line) → is_among s.bound token ≡ false
      → Runs known.target (most_moves + 2) 1 (turn_of (line ∷ rest) s.frame fs s.world)
      (turn_of rest (put_in token word s.frame) fs s.world)
      → Lands known (most_moves + 2) (line ∷ []) rest fs fs s (record s { frame = put_in token word s.frame })
  writes token word line free runs = record {
    cost = most_moves + 2;
    steps = 1;
    within = omega arith;
    runs = runs;
    here = record { follows = here.follows; values = has_other here.values token word free };
    left = refl;
    whole = refl;
    function = refl;
  }

  pub nulls_token : (token : ℕ) → is_among s.bound token ≡ false
      → Lands known (most_moves + 2) (sets 0 token ∷ []) rest fs fs s (record s { frame = put_in token 0 s.frame })
  nulls_token token free = writes token 0 (sets 0 token) free (sets_runs known.target rest s.frame fs s.world 0 token)

  pub moves_token : (from to word : ℕ) → is_among s.bound to ≡ false → s.frame.cells from ≡ Some word
      → Lands known (most_moves + 2) (copies_to from to ∷ []) rest fs fs s (record s { frame = put_in to word s.frame })
  moves_token from to word free is =
      writes to word (copies_to from to) free (copy_runs known.target rest s.frame fs s.world from to word is)

  -- the cell of a token is given back; one that is null changes nothing
  pub frees_token : (token at : ℕ) (words : ℕ → Option ℕ) → s.frame.cells token ≡ Some at → s.owners at ≡ in_hand words
      → 0 < known.target.pool.first
      → (cells : Cells) × Lands known (most_moves + 5) (acts (Compute Op.Free) (token ∷ []) ∷ []) rest fs fs s
      (record s { owners = with_owner at nobody s.owners; world = with_cells s.world cells })
  frees_token token at words is hand some =
      let behind = (hand_owned here.follows at words hand).0.behind in
      let gone = released here.follows at words hand in (
        gone.now,
        record {
          cost = most_moves + 5;
          steps = 1;
          within = omega arith;
          runs = free_runs known.target rest s.frame fs s.world token at gone.now is (λ e. omega arith) gone.is;
          here = record { follows = gone.holds; values = here.values };
          left = refl;
          whole = refl;
          function = refl;
        },
      )

  pub frees_null : (token : ℕ) → s.frame.cells token ≡ Some 0
      → Lands known (most_moves + 5) (acts (Compute Op.Free) (token ∷ []) ∷ []) rest fs fs s s
  frees_null token is = record {
    cost = most_moves + 5;
    steps = 1;
    within = omega arith;
    runs = free_null_runs known.target rest s.frame fs s.world token is;
    here = here;
    left = refl;
    whole = refl;
    function = refl;
  }
