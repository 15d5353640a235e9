-- What a core form of a program is. The variables of a core body are numbered from the number of its parameters on, in the
-- order of the text, those of an expression's parts before its own: an expression takes as many numbers as its size, the
-- own one last, so what is computed later has the greater number. A form is determined but for the decisions of its matches.
use Rattle.std.specs.Prelude.{ℕ, ◌≡◌, ◌+◌, List, [], ◌∷◌, Bool, true, false, length}
use Rattle.kk_syntax.specs.declared.program.Form.{Form}
use Rattle.kk_syntax.specs.declared.program.Form.TheVariants.{Call}
use Rattle.kk_syntax.specs.Trees.{Tree, variable, apply, branch, match, sequence, Trees, no_tree, tree, Rows, no_row, row, row_parts, pattern_of_row}
use Rattle.kk_syntax.specs.Programs.{ConstructorTree, FunctionTree, ProgramTree}
use Rattle.kk_syntax.specs.Patterns.{Pattern, anything, variable as pattern_variable, exactly, constructor, Patterns, no_part, part}
use Rattle.kk_syntax.specs.Shapes.{variable_of}
use Rattle.kk_core.specs.Codes.{Code, give, tail_call, case, compute, use_of, unpack, inside, Arms, no_arm, arm, FunctionCode, ProgramCode}
use Rattle.kk_core.specs.Decisions.{NodeTree}
use Rattle.kk_core.specs.Truths.{truth_case}
use Rattle.kk_norm.specs.MatchDecisions.{AreDecisions}
use Rattle.kk_norm.specs.Names.{Names, name_of, named}

-- ---- how many numbers are taken

-- the number of a pattern's parts
abbrev pub part_count : Patterns → ℕ
part_count no_part = 0
part_count (part first rest) = part_count rest + 1

-- a pattern takes one for each field that it opens: those of a cell before those of its fields' cells
abbrev mutual
  pub pattern_size : Pattern → ℕ
  pattern_size anything = 0
  pattern_size (pattern_variable x) = 0
  pattern_size (exactly value) = 0
  pattern_size (constructor c parts) = part_count parts + parts_size parts

  pub parts_size : Patterns → ℕ
  parts_size no_part = 0
  parts_size (part first rest) = pattern_size first + parts_size rest

-- an expression takes one for each part that computes or joins values: a variable and a block take none of their own
abbrev mutual
  pub size : Tree → ℕ
  size (variable x) = 0
  size (apply form es) = size_all es + 1
  size (branch e positive negative) = size e + size positive + size negative + 1
  size (match e rows) = size e + size_rows rows + 1
  size (sequence binder first rest) = size first + size rest

  pub size_all : Trees → ℕ
  size_all no_tree = 0
  size_all (tree first rest) = size first + size_all rest

  pub size_rows : Rows → ℕ
  size_rows no_row = 0
  size_rows (row (row_parts pattern body) rest) = pattern_size pattern + size body + size_rows rest

-- the variable that has the value of an expression whose numbers begin at n
abbrev pub atom : Names → ℕ → Tree → ℕ
atom names n (variable x) = name_of names x
atom names n (apply form es) = n + size_all es
atom names n (branch e positive negative) = n + size e + size positive + size negative
atom names n (match e rows) = n + size e + size_rows rows
atom names n (sequence binder first rest) =
    atom (named (variable_of binder) (atom names n first) names) (n + size first) rest

abbrev pub atoms : Names → ℕ → Trees → List ℕ
atoms names n no_tree = []
atoms names n (tree first rest) = atom names n first ∷ atoms names (n + size first) rest

-- ---- the code

-- What comes after an expression: the block ends with its value, in tail position or not; or more comes.
pub data Then : Type 0 where
  final : (tail : Bool) → Then
  next : (rest : Code) → Then

-- the code after a variable has got the value
abbrev pub after : Then → ℕ → Code
after (final tail) a = give a
after (next rest) a = rest

-- the code where the value is that of a variable which is there already
abbrev pub after_use : Then → ℕ → Code
after_use (final tail) a = give a
after_use (next rest) a = use_of a rest

-- what comes after a branch's part: where more comes after the branch, it is a block inside
abbrev pub within : Then → Then
within (final tail) = final tail
within (next rest) = final false

-- a branch's own code, whose value goes to variable m where more comes
abbrev pub joined : Then → ℕ → Code → Code
joined (final tail) m code = code
joined (next rest) m code = inside m code rest

-- a call on variables, whose value goes to variable m; in tail position it is a tail call
abbrev pub finish_call : Then → ℕ → ℕ → List ℕ → Code
finish_call (final true) m f arguments = tail_call f arguments
finish_call k m f arguments = compute m (Call f) arguments (after k m)

-- a form on variables, whose value goes to variable m
abbrev pub finish : Then → ℕ → Form → List ℕ → Code
finish k m (Call f) arguments = finish_call k m f arguments
finish k m form arguments = compute m form arguments (after k m)

-- numbers that follow one another
abbrev pub numbers : ℕ → Patterns → List ℕ
numbers n no_part = []
numbers n (part first rest) = n ∷ numbers (n + 1) rest

-- the openings of a pattern at a variable: its cell, and then those of its fields, from left to right
abbrev mutual
  pub opened : ℕ → ℕ → Pattern → Code → Code
  opened a n anything rest = rest
  opened a n (pattern_variable x) rest = rest
  opened a n (exactly value) rest = rest
  opened a n (constructor c no_part) rest = rest
  opened a n (constructor c (part first others)) rest =
      unpack a c (numbers n (part first others)) (opened n (n + part_count (part first others)) first (opened_all (n + 1) (n + part_count (part first others) + pattern_size first) others rest))

  pub opened_all : ℕ → ℕ → Patterns → Code → Code
  opened_all a n no_part rest = rest
  opened_all a n (part first others) rest = opened a n first (opened_all (a + 1) (n + pattern_size first) others rest)

-- the names of a pattern's variables, at a variable
abbrev mutual
  pub pattern_names : ℕ → ℕ → Pattern → Names → Names
  pattern_names a n anything names = names
  pattern_names a n (pattern_variable x) names = record { variable = x; name = a } ∷ names
  pattern_names a n (exactly value) names = names
  pattern_names a n (constructor c parts) names = parts_names n (n + part_count parts) parts names

  pub parts_names : ℕ → ℕ → Patterns → Names → Names
  parts_names a n no_part names = names
  parts_names a n (part first others) names =
      parts_names (a + 1) (n + pattern_size first) others (pattern_names a n first names)

-- the patterns of rows
abbrev pub patterns_in : Rows → List Pattern
patterns_in no_row = []
patterns_in (row first rest) = pattern_of_row first ∷ patterns_in rest

-- A code is that of an expression whose numbers begin at n, and of what comes after it. The value is in `atom names n e`. It
-- is determined but for the decisions of the matches, which are any that choose among the rows, ask what types tell, and are small.
abbrev mutual
  pub IsCode : List ConstructorTree → Then → Names → ℕ → Tree → Code → Type 0
  IsCode constructors k names n (variable x) c = c ≡ after_use k (name_of names x)
  IsCode constructors k names n (apply form es) c =
      AreCodes constructors names n es (finish k (n + size_all es) form (atoms names n es)) c
  IsCode constructors k names n (branch e positive negative) c =
      (first : Code) × (second : Code)
      × IsCode constructors (within k) names (n + size e) positive first
      × IsCode constructors (within k) names (n + size e + size positive) negative second
      × IsCode constructors (next (joined k (n + size e + size positive + size negative) (truth_case (atom names n e) first second))) names n e c
  IsCode constructors k names n (match e rows) c =
      (decisions : List NodeTree) × (arms : Arms) × AreDecisions constructors (patterns_in rows) decisions
      × AreArms constructors (within k) names (atom names n e) (n + size e) rows arms
      × IsCode constructors (next (joined k (n + size e + size_rows rows) (case (atom names n e) decisions arms))) names n e c
  IsCode constructors k names n (sequence binder first rest) c =
      (later : Code) × IsCode constructors k (named (variable_of binder) (atom names n first) names) (n + size first) rest later
      × IsCode constructors (next later) names n first c

  -- the same of several expressions, behind which comes `last`
  pub AreCodes : List ConstructorTree → Names → ℕ → Trees → Code → Code → Type 0
  AreCodes constructors names n no_tree last c = c ≡ last
  AreCodes constructors names n (tree first rest) last c =
      (later : Code) × AreCodes constructors names (n + size first) rest last later × IsCode constructors (next later) names n first c

  -- The arms of a match on variable a. An arm opens the cells of its pattern first. A row that is never chosen has its arm too.
  pub AreArms : List ConstructorTree → Then → Names → ℕ → ℕ → Rows → Arms → Type 0
  AreArms constructors k names a n no_row arms = arms ≡ no_arm
  AreArms constructors k names a n (row (row_parts pattern body) rest) arms =
      (c : Code) × (others : Arms) × (arms ≡ arm pattern (opened a n pattern c) others)
      × IsCode constructors k (pattern_names a n pattern names) (n + pattern_size pattern) body c
      × AreArms constructors k names a (n + pattern_size pattern + size body) rest others

-- A function is the core form of another: its variables have the numbers behind the parameters, in their order.
pub record IsCoreOf (constructors : List ConstructorTree) (function : FunctionTree) (core : FunctionCode) : Type 0 where
  pub parameters : core.parameters ≡ length function.parameters
  pub variables : core.variables ≡ length function.parameters + size function.body
  pub body : IsCode constructors (final true) [] (length function.parameters) function.body core.body

abbrev pub AreCoresOf : List ConstructorTree → List FunctionTree → List FunctionCode → Type 0
AreCoresOf constructors [] cores = cores ≡ []
AreCoresOf constructors (function ∷ functions) [] = ⊥
AreCoresOf constructors (function ∷ functions) (core ∷ cores) =
    IsCoreOf constructors function core × AreCoresOf constructors functions cores

-- a program is the core form of another
pub record IsCoreForm (program : ProgramTree) (core : ProgramCode) : Type 0 where
  pub functions : AreCoresOf program.constructors program.functions core.functions
  pub texts : core.texts ≡ program.texts
  pub main : core.main ≡ program.main
