-- The free variables of statements alone, and the variables that they bind.
use Rattle.std.specs.Prelude.{ℕ, List, [], ◌∷◌, ◌++◌}
use Rattle.kk_syntax.specs.Trees.{StatementTree}
use Rattle.kk_syntax.specs.Shapes.{bound_by, without, free}

abbrev pub free_of_statements : List StatementTree → List ℕ
free_of_statements [] = []
free_of_statements (s ∷ ss) = free s.value ++ without (bound_by s.binder) (free_of_statements ss)

abbrev pub bound_by_statements : List StatementTree → List ℕ
bound_by_statements [] = []
bound_by_statements (s ∷ ss) = bound_by s.binder ++ bound_by_statements ss
