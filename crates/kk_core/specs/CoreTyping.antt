-- The types of programs in core form, in which no type variables stand; and how large the programs are. What their types may be
-- is asked nowhere: a type variable has no values.
use Rattle.std.specs.Prelude.{◌≡◌, ◌+◌, ◌≤◌, ℕ, List, [], ◌∷◌, map, length, Bool, true, false, Option, None, Some, if◌then◌else◌, ◌==◌, slice_get}
use Rattle.kk_syntax.specs.Covered.{IsCovered}
use Rattle.kk_syntax.specs.GroundTyping.{Table, IsFormTyped, HasTruths}
use Rattle.kk_syntax.specs.OfType.{IsPatternOf, values_of, field_types}
use Rattle.kk_syntax.specs.Outlines.{outline_of}
use Rattle.kk_syntax.specs.Patterns.{Pattern, anything, constructor, Patterns, part}
use Rattle.kk_syntax.specs.GroundTyping.{Signature}
use Rattle.kk_syntax.specs.Types.{TypeTree, unit_type}
use Rattle.kk_core.specs.RowChoice.{Decides}
use Rattle.kk_core.specs.Codes.{Code, give, tail_call, case, compute, use_of, unpack, inside, Arms, patterns_of, arm, no_arm, FunctionCode, ProgramCode}
use Rattle.kk_core.specs.CaseLengths.{all_cases_length, most_cases_length}
use Rattle.kk_core.specs.Sizes.{forms, IsOrdered, most_parameters, most_variables, most_forms, most_instances, most_program_forms}

-- ---- what is known of variables

-- What is known of a variable: the type of its value, and a pattern that the value matches. The pattern's variables count as `_`.
pub record Fact : Type 0 where
  pub type : TypeTree
  pub pattern : Pattern

pub record Known : Type 0 where
  pub variable : ℕ
  pub fact : Fact

-- what is known of the variables that are bound, the newest fact first
abbrev pub Facts : Type 0
Facts = List Known

abbrev pub fact_in : Facts → ℕ → Option Fact
fact_in [] x = None
fact_in (known ∷ facts) x = if known.variable == x then Some known.fact else fact_in facts x

-- one fact more: of a variable's type and its pattern, or of its type alone
abbrev pub knowing : ℕ → TypeTree → Pattern → Facts → Facts
knowing x t pattern facts = record { variable = x; fact = record { type = t; pattern = pattern } } ∷ facts

abbrev pub typing : ℕ → TypeTree → Facts → Facts
typing x t facts = knowing x t anything facts

-- the types of parameters, from the one of that number on
abbrev pub typing_parameters : ℕ → List TypeTree → Facts → Facts
typing_parameters next [] facts = facts
typing_parameters next (t ∷ ts) facts = typing_parameters (next + 1) ts (typing next t facts)

-- what is known of variables that take the fields of a cell: their types, and the parts of the pattern that it matches
abbrev pub knowing_fields : List ℕ → List TypeTree → Patterns → Facts → Facts
knowing_fields (x ∷ xs) (t ∷ ts) (part first rest) facts = knowing_fields xs ts rest (knowing x t first facts)
knowing_fields _ _ _ facts = facts

-- a variable has a type, and variables have types, one after the other
abbrev pub Has : Facts → ℕ → TypeTree → Type 0
Has facts x t = (pattern : Pattern) × (fact_in facts x ≡ Some (record { type = t; pattern = pattern }))

abbrev pub HaveTypes : Facts → List ℕ → List TypeTree → Type 0
HaveTypes facts [] [] = Unit {0}
HaveTypes facts [] (t ∷ ts) = ⊥
HaveTypes facts (x ∷ xs) [] = ⊥
HaveTypes facts (x ∷ xs) (t ∷ ts) = Has facts x t × HaveTypes facts xs ts

-- ---- codes

-- A code gives a value of a type. A tail call stands only where its value is the function's: no block inside has one. The arms
-- of a case are covered at its variable's type, and the decisions choose the first one whose pattern matches; in its block
-- that pattern is known of the variable. So an opening is of a variable whose value is known to match a pattern of its
-- constructor, and its fields are known to match the parts.
abbrev mutual
  pub HasCodeType : Table → Bool → Facts → Code → TypeTree → Type 0
  HasCodeType table tail facts (give x) t = Has facts x t
  HasCodeType table tail facts (tail_call f arguments) t =
      (tail ≡ true) × (ts : List TypeTree) × HaveTypes facts arguments ts
      × (slice_get table.functions f ≡ Some (record { parameters = ts; result = t }))
  HasCodeType table tail facts (case x decisions arms) t =
      (u : TypeTree) × Has facts x u × AreArmsTyped table tail facts x u arms t
      × IsCovered (values_of table.constructors) u (map outline_of (patterns_of arms))
      × Decides table.constructors (patterns_of arms) decisions
  HasCodeType table tail facts (compute x form arguments rest) t =
      (s : TypeTree) × (ts : List TypeTree) × HaveTypes facts arguments ts × IsFormTyped table form ts s
      × HasCodeType table tail (typing x s facts) rest t
  HasCodeType table tail facts (use_of x rest) t = (s : TypeTree) × Has facts x s × HasCodeType table tail facts rest t
  HasCodeType table tail facts (unpack x c fields rest) t =
      (u : TypeTree) × (us : List TypeTree) × (first : Pattern) × (others : Patterns)
      × (fact_in facts x ≡ Some (record { type = u; pattern = constructor c (part first others) }))
      × (field_types table.constructors u c ≡ Some us) × (length fields ≡ length us)
      × HasCodeType table tail (knowing_fields fields us (part first others) facts) rest t
  HasCodeType table tail facts (inside x block rest) t =
      (s : TypeTree) × HasCodeType table false facts block s × HasCodeType table tail (typing x s facts) rest t

  -- arms on a variable of a type
  pub AreArmsTyped : Table → Bool → Facts → ℕ → TypeTree → Arms → TypeTree → Type 0
  AreArmsTyped table tail facts x u no_arm t = Unit {0}
  AreArmsTyped table tail facts x u (arm pattern body rest) t =
      IsPatternOf (values_of table.constructors) u (outline_of pattern) × HasCodeType table tail (knowing x u pattern facts) body t
      × AreArmsTyped table tail facts x u rest t

-- a function has a signature: as many parameters, and a body of the type of its result; and its variables are in order
pub record IsCodeTyped (table : Table) (function : FunctionCode) (signature : Signature) : Type 0 where
  pub parameters : length signature.parameters ≡ function.parameters
  pub body : HasCodeType table true (typing_parameters 0 signature.parameters []) function.body signature.result
  pub ordered : IsOrdered function

-- each function has its signature
abbrev pub AreCodesTyped : Table → List FunctionCode → List Signature → Type 0
AreCodesTyped table [] [] = Unit {0}
AreCodesTyped table [] (signature ∷ each) = ⊥
AreCodesTyped table (function ∷ functions) [] = ⊥
AreCodesTyped table (function ∷ functions) (signature ∷ each) =
    IsCodeTyped table function signature × AreCodesTyped table functions each

-- A program is typed by a table: its functions have the signatures there, it has as many string literals, and its `main` has no
-- parameters and gives `()`.
pub record IsCoreTyped (table : Table) (code : ProgramCode) : Type 0 where
  pub functions : AreCodesTyped table code.functions table.functions
  pub texts : length code.texts ≡ table.texts
  pub main : slice_get table.functions code.main ≡ Some (record { parameters = []; result = unit_type })
  pub truths : HasTruths table.constructors

-- ---- sizes

-- a function of a program within the limits
pub record IsFunctionSmall (function : FunctionCode) : Type 0 where
  pub parameters : function.parameters ≤ most_parameters
  pub variables : function.variables ≤ most_variables
  pub forms : forms function.body ≤ most_forms

abbrev pub AreSmall : List FunctionCode → Type 0
AreSmall [] = Unit {0}
AreSmall (function ∷ functions) = IsFunctionSmall function × AreSmall functions

-- the forms of all functions
abbrev pub all_forms : List FunctionCode → ℕ
all_forms [] = 0
all_forms (function ∷ functions) = forms function.body + all_forms functions

-- A program is within the limits: `main` is its first function, each function is, the functions are few, and so are all
-- forms together, and the tests of all cases.
pub record IsSmall (code : ProgramCode) : Type 0 where
  pub main : code.main ≡ 0
  pub functions : AreSmall code.functions
  pub few : length code.functions ≤ most_instances
  pub all : all_forms code.functions ≤ most_program_forms
  pub cases : all_cases_length code.functions ≤ most_cases_length
