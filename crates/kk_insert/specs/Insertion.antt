-- The insertion of dups and drops as a function on code. Each variable that holds a reference of its own is used up once on each
-- path: an earlier use takes a dup, and where no use comes any more it is dropped at once. Lent variables are read alone.
use Rattle.std.specs.Prelude.{ℕ, suc, ◌||◌, Bool, List, [], ◌∷◌, ◌++◌, filter, if◌then◌else◌}
use Rattle.kk_syntax.specs.declared.program.Form.{Form}
use Rattle.kk_syntax.specs.declared.program.Form.TheVariants.{Call}
use Rattle.kk_syntax.specs.Shapes.{is_among, without}
use Rattle.kk_syntax.specs.PositionsOf.{PositionTable, is_lent}
use Rattle.kk_core.specs.Codes.{Code, give, tail_call, case, compute, use_of, unpack, inside, Arms, no_arm, arm, FunctionCode, ProgramCode}
use Rattle.kk_counted.specs.CountedCodes as Counted
use Rattle.kk_counted.specs.CountedCodes.{CountedFunction, CountedProgram}
use Rattle.kk_counted.specs.Spending.{at_positions, numbers_from, is_owned, used_by, lent_by}

-- ---- sets of variables, as lists without repetition

abbrev pub add : ℕ → List ℕ → List ℕ
add x xs = if is_among xs x then xs else x ∷ xs

-- some variables and others
abbrev pub before : List ℕ → List ℕ → List ℕ
before [] after = after
before (x ∷ xs) after = add x (before xs after)

-- The uses that are not the last ones, where `after` is owned when all are done: one of a variable that is used again later, or
-- is kept.
abbrev pub extra : List ℕ → List ℕ → List ℕ
extra [] after = []
extra (x ∷ xs) after = if is_among (before xs after) x then x ∷ extra xs after else extra xs after

-- those among others
abbrev pub common : List ℕ → List ℕ → List ℕ
common others xs = filter (is_among others) xs

-- ---- dups and drops before a code

abbrev pub dups : List ℕ → Counted.Counted → Counted.Counted
dups [] rest = rest
dups (x ∷ xs) rest = Counted.dup x (dups xs rest)

abbrev pub drops : List ℕ → Counted.Counted → Counted.Counted
drops [] rest = rest
drops (x ∷ xs) rest = Counted.drop x (drops xs rest)

-- a code that owns `now`, where more is owned: what it does not use is dropped before it
abbrev pub dropping : (all now : List ℕ) → Counted.Counted → Counted.Counted
dropping all now code = drops (without now all) code

-- An opening. The cell stays where its variable is lent or is used later, and the fields in use get a reference more; else
-- the variable is given up.
abbrev pub opening : Bool → ℕ → ℕ → List ℕ → List ℕ → Counted.Counted → Counted.Counted
opening stays x c fields in_use rest =
    if stays then Counted.read x c fields (dups in_use rest) else Counted.open_cell x c fields in_use rest

-- ---- the lent variables of a code: those that are lent before, and the fields of cells that lent variables name

abbrev mutual
  pub lent_in : List ℕ → Code → List ℕ
  lent_in lent (give x) = lent
  lent_in lent (tail_call f arguments) = lent
  lent_in lent (case x decisions arms) = lent_in_arms lent arms
  lent_in lent (compute x form arguments rest) = lent_in lent rest
  lent_in lent (use_of x rest) = lent_in lent rest
  lent_in lent (unpack x c fields rest) = lent_in (if is_among lent x then fields ++ lent else lent) rest
  lent_in lent (inside x block rest) = lent_in (lent_in lent block) rest

  pub lent_in_arms : List ℕ → Arms → List ℕ
  lent_in_arms lent no_arm = lent
  lent_in_arms lent (arm pattern body rest) = lent_in_arms (lent_in lent body) rest

-- ---- by the lent variables of the function

module _ (lent : List ℕ) where
  -- what is owned before variables are used up, where `after` is owned then
  abbrev pub owns : List ℕ → List ℕ → List ℕ
  owns xs after = before (without lent xs) after

  -- the uses that take a dup: those of lent variables, and those that are not the last ones
  abbrev pub wants : List ℕ → List ℕ → List ℕ
  wants xs after = common lent xs ++ extra (without lent xs) after

  -- Behind a form, where `now` is owned later: what was only lent to it is dropped, and its value where nothing uses it.
  abbrev pub back : List ℕ → ℕ → List ℕ → Counted.Counted → Counted.Counted
  back given x now rest =
      dropping (owns given (without (x ∷ []) now)) (without (x ∷ []) now) (dropping (x ∷ []) now rest)

module _ (positions : PositionTable) where
  -- the arguments that a form uses up, and those that it is lent
  abbrev pub used : Form → List ℕ → List ℕ
  used form arguments = used_by positions [] form arguments

  abbrev pub lends : Form → List ℕ → List ℕ
  lends form arguments = lent_by positions [] form arguments

  -- the lent variables of a function
  abbrev pub lent_of : ℕ → FunctionCode → List ℕ
  lent_of f function = lent_in (at_positions (is_lent positions f) 0 (numbers_from 0 function.parameters)) function.body

  module _ (lent : List ℕ) where
    -- What a code owns at its start, where `left` is owned at its end: what it uses up or is to lend, and what it leaves.
    abbrev mutual
      pub own : List ℕ → Code → List ℕ
      own left (give x) = owns lent (x ∷ []) left
      own left (tail_call f arguments) = owns lent (used (Call f) arguments) left
      own left (case x decisions arms) = owns lent (x ∷ []) (own_arms left arms)
      own left (compute x form arguments rest) =
          owns lent (used form arguments) (owns lent (lends form arguments) (without (x ∷ []) (own left rest)))
      own left (use_of x rest) = owns lent (x ∷ []) (own left rest)
      own left (unpack x c fields rest) = owns lent (x ∷ []) (without fields (own left rest))
      own left (inside x block rest) = own (without (x ∷ []) (own left rest)) block

      pub own_arms : List ℕ → Arms → List ℕ
      own_arms left no_arm = left
      own_arms left (arm pattern body rest) = before (own left body) (own_arms left rest)

    -- the code with its dups and drops, where `left` is owned at its end
    abbrev mutual
      pub insert : List ℕ → Code → Counted.Counted
      insert left (give x) = dups (wants lent (x ∷ []) left) (Counted.give x)
      insert left (tail_call f arguments) = dups (wants lent (used (Call f) arguments) left) (Counted.tail_call f arguments)
      insert left (case x decisions arms) =
          Counted.case x decisions (insert_arms left (own left (case x decisions arms)) arms)
      insert left (compute x form arguments rest) =
          dups (wants lent (used form arguments) (owns lent (lends form arguments) (without (x ∷ []) (own left rest))))
          (Counted.compute x form arguments (back lent (lends form arguments) x (own left rest) (insert left rest)))
      insert left (use_of x rest) = dropping (own left (use_of x rest)) (own left rest) (insert left rest)
      insert left (unpack x c fields rest) =
          opening (is_among lent x || is_among (own left rest) x) x c fields (common (own left rest) fields) (insert left rest)
      insert left (inside x block rest) =
          Counted.inside x (insert (without (x ∷ []) (own left rest)) block)
          (dropping (x ∷ []) (own left rest) (insert left rest))

      pub insert_arms : List ℕ → List ℕ → Arms → Counted.CountedArms
      insert_arms left all no_arm = Counted.no_arm
      insert_arms left all (arm pattern body rest) =
          Counted.arm (dropping all (own left body) (insert left body)) (insert_arms left all rest)

  -- ---- functions and programs

  -- a function owns its parameters that are not lent
  abbrev pub inserted_function : ℕ → FunctionCode → CountedFunction
  inserted_function f function =
      record {
        parameters = function.parameters;
        body = dropping (at_positions (is_owned positions [] f) 0 (numbers_from 0 function.parameters))
            (own (lent_of f function) [] function.body) (insert (lent_of f function) [] function.body);
      }

  -- functions, by the number of the first one
  abbrev pub inserted_functions : ℕ → List FunctionCode → List CountedFunction
  inserted_functions f [] = []
  inserted_functions f (function ∷ functions) = inserted_function f function ∷ inserted_functions (suc f) functions

  abbrev pub inserted : ProgramCode → CountedProgram
  inserted code = record { functions = inserted_functions 0 code.functions; texts = code.texts; main = code.main }
