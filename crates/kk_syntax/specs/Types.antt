-- Types as mathematics.
use Rattle.std.specs.Prelude.{ℕ, zero, suc, List, [], ◌∷◌, ◌++◌, slice_index_or}
use Rattle.kk_syntax.specs.declared.program.Ty.{Ty}
use Rattle.kk_syntax.specs.declared.program.Ty.TheOpen.{Ty-F, Int32, Unit as Nothing, Variable, Named}
use Rattle.kk_syntax.specs.declared.program.Ty.TheFolds.{fold-Ty}

-- a type: `int32`; `()`; a type variable by its number; a declared type, or `bool`, by its number, and its arguments
mutual
  pub data TypeTree : Type 0 where
    int32 : TypeTree
    unit_type : TypeTree
    type_variable : (of : ℕ) → TypeTree
    named : (by : ℕ) → (arguments : TypeTrees) → TypeTree

  pub data TypeTrees : Type 0 where
    no_type : TypeTrees
    type : (first : TypeTree) → (rest : TypeTrees) → TypeTrees

-- a list of types as a list of its own type, and back
abbrev pub types_of : List TypeTree → TypeTrees
types_of [] = no_type
types_of (t ∷ ts) = type t (types_of ts)

abbrev pub type_list : TypeTrees → List TypeTree
type_list no_type = []
type_list (type t ts) = t ∷ type_list ts

-- a type of the program as such a type, its arguments' given
abbrev pub type_step : Ty-F TypeTree → TypeTree
type_step Int32 = int32
type_step Nothing = unit_type
type_step (Variable of) = type_variable of
type_step (Named by arguments) = named by (types_of arguments.items)

-- a type of the program as such a type
abbrev pub type_tree : Ty → TypeTree
type_tree = fold-Ty TypeTree type_step

-- a type with types put in place of its variables
abbrev mutual
  pub put : (ℕ → TypeTree) → TypeTree → TypeTree
  put s int32 = int32
  put s unit_type = unit_type
  put s (type_variable of) = s of
  put s (named by arguments) = named by (put_each s arguments)

  pub put_each : (ℕ → TypeTree) → TypeTrees → TypeTrees
  put_each s no_type = no_type
  put_each s (type first rest) = type (put s first) (put_each s rest)

-- the type of that number in a list; `()` where there is none
abbrev pub type_at : List TypeTree → ℕ → TypeTree
type_at ts x = slice_index_or ts x unit_type

-- the first type variables, so many
abbrev pub variables_below : ℕ → List TypeTree
variables_below zero = []
variables_below (suc n) = variables_below n ++ (type_variable n ∷ [])
