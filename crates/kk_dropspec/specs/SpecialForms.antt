-- Drop specialisation of one step.
use Rattle.kk_counted.specs.CountedForms.{Move, computes, runs, reads, opens, opens_unique, dups, drops}
use Rattle.kk_dropspec.specs.Specialised.{special}

-- an opening goes by the count of the cell
abbrev pub special_move : Move → Move
special_move (computes x form arguments) = computes x form arguments
special_move (runs x block) = runs x (special block)
special_move (reads x c fields) = reads x c fields
special_move (opens x c fields used) = opens_unique x c fields used
special_move (opens_unique x c fields used) = opens_unique x c fields used
special_move (dups x) = dups x
special_move (drops x) = drops x
