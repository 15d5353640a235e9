-- How many nodes of a text a code stands for, and how many words of an image its forms take at most: by these the nodes of a
-- function bound its words.
use Rattle.std.specs.Prelude.{◌≤◌, ℕ, ◌+◌, ◌-◌, ◌*◌, ◌==◌, ◌&&◌, ◌||◌, not, Bool, true, false, List, [], ◌∷◌, ◌++◌, length, if◌then◌else◌}
use Rattle.kk_syntax.specs.declared.program.Form.{Form}
use Rattle.kk_syntax.specs.declared.program.Form.TheVariants.{Construct, Call, PrintText}
use Rattle.kk_syntax.specs.Patterns.{Pattern, constructor, no_part}
use Rattle.kk_syntax.specs.Programs.{FunctionTree}
use Rattle.kk_syntax.specs.Shapes.{is_among, nodes_of}
use Rattle.kk_core.specs.Codes.{Code, give, tail_call, case, compute, use_of, unpack, inside, Arms, no_arm, arm, patterns_of, FunctionCode}
use Rattle.kk_core.specs.CaseLengths.{tests_length, brief_node_length, most_brief}
use Rattle.kk_core.specs.Sizes.{most_parameters}

-- ---- nodes

-- whether a pattern is that constructor, without parts
abbrev pub is_plain_pattern : ℕ → Pattern → Bool
is_plain_pattern c (constructor by no_part) = by == c
is_plain_pattern c _ = false

-- whether patterns are `True` and `False`, as those of an `if` are
abbrev pub are_truths : List Pattern → Bool
are_truths (first ∷ second ∷ []) = is_plain_pattern 1 first && is_plain_pattern 0 second
are_truths _ = false

-- whether a code ends at once with the value of a variable
abbrev pub gives : ℕ → Code → Bool
gives x (give y) = x == y
gives x _ = false

-- The nodes of patterns: one for each field of an opening, and one for each arm, but for those of an `if`. Of an opened variable
-- the node is that of the field that it is (`fields`), or that of the arm which begins with the opening (`opens`), or else one
-- more.
abbrev mutual
  pub pattern_nodes : List ℕ → Bool → Code → ℕ
  pattern_nodes fields opens (give x) = 0
  pattern_nodes fields opens (tail_call f arguments) = 0
  pattern_nodes fields opens (case x decisions arms) = arms_pattern_nodes fields (are_truths (patterns_of arms)) arms
  pattern_nodes fields opens (compute x form arguments rest) = pattern_nodes fields false rest
  pattern_nodes fields opens (use_of x rest) = pattern_nodes fields false rest
  pattern_nodes fields opens (unpack x c xs rest) =
      length xs + (if is_among fields x || opens then 0 else 1)
      + pattern_nodes (xs ++ fields) (opens && is_among fields x) rest
  pattern_nodes fields opens (inside x block rest) = pattern_nodes fields false block + pattern_nodes fields false rest

  pub arms_pattern_nodes : List ℕ → Bool → Arms → ℕ
  arms_pattern_nodes fields truths no_arm = 0
  arms_pattern_nodes fields truths (arm pattern body rest) =
      (if truths then 0 else 1) + pattern_nodes fields (not truths) body + arms_pattern_nodes fields truths rest

-- All other nodes: one for each form on values, each case and each end. A form and the end that gives its value have one together.
abbrev mutual
  pub other_nodes : Code → ℕ
  other_nodes (give x) = 1
  other_nodes (tail_call f arguments) = 1
  other_nodes (case x decisions arms) = 1 + arms_other_nodes arms
  other_nodes (compute x form arguments rest) = if gives x rest then 1 else 1 + other_nodes rest
  other_nodes (use_of x rest) = other_nodes rest
  other_nodes (unpack x c xs rest) = other_nodes rest
  other_nodes (inside x block rest) = other_nodes block + other_nodes rest

  pub arms_other_nodes : Arms → ℕ
  arms_other_nodes no_arm = 0
  arms_other_nodes (arm pattern body rest) = other_nodes body + arms_other_nodes rest

-- ---- the tests of a case

-- the fields of the openings with which a code begins
abbrev pub first_fields : Code → ℕ
first_fields (unpack x c xs rest) = length xs + first_fields rest
first_fields _ = 0

-- the nodes of the patterns of arms
abbrev pub case_nodes : Arms → ℕ
case_nodes no_arm = 0
case_nodes (arm pattern body rest) = 1 + first_fields body + case_nodes rest

-- the tests of a case are brief, unless it is that of an `if`: by the nodes of its patterns
abbrev pub AreBriefFor : Bool → ℕ → ℕ → Type 0
AreBriefFor true nodes tests = Unit {0}
AreBriefFor false nodes tests = tests ≤ most_brief nodes

-- the tests of each case are brief, and each opening has a field
abbrev mutual
  pub HasBriefTests : Code → Type 0
  HasBriefTests (give x) = Unit {0}
  HasBriefTests (tail_call f arguments) = Unit {0}
  HasBriefTests (case x decisions arms) =
      AreBriefFor (are_truths (patterns_of arms)) (case_nodes arms) (tests_length decisions) × HaveBriefTests arms
  HasBriefTests (compute x form arguments rest) = HasBriefTests rest
  HasBriefTests (use_of x rest) = HasBriefTests rest
  HasBriefTests (unpack x c xs rest) = (1 ≤ length xs) × HasBriefTests rest
  HasBriefTests (inside x block rest) = HasBriefTests block × HasBriefTests rest

  pub HaveBriefTests : Arms → Type 0
  HaveBriefTests no_arm = Unit {0}
  HaveBriefTests (arm pattern body rest) = HasBriefTests body × HaveBriefTests rest

-- ---- words

-- the most of a reference more, or of one that is given up
abbrev pub reference_length : ℕ
reference_length = 9

-- of an end that gives a value
abbrev pub give_words : ℕ
give_words = 6

-- of a call and a tail call, but for their arguments
abbrev pub call_words : ℕ
call_words = 8

abbrev pub tail_call_words : ℕ
tail_call_words = 11

-- of each argument of a call, which is copied
abbrev pub argument_words : ℕ
argument_words = 6

-- of a construction without fields; of one with fields, but for these; and of each field
abbrev pub constant_words : ℕ
constant_words = 3

abbrev pub construction_words : ℕ
construction_words = 30

abbrev pub field_words : ℕ
field_words = 5

-- of a string, and of a form that prints it
abbrev pub string_words : ℕ
string_words = 64

abbrev pub print_words : ℕ
print_words = 13

-- of any other form on values
abbrev pub other_form_words : ℕ
other_form_words = 23

-- of a case, but for its tests
abbrev pub case_words : ℕ
case_words = 5

-- of an opening, whose token can be freed once, but for its fields; and of each field
abbrev pub opening_words : ℕ
opening_words = 43

abbrev pub opened_field_words : ℕ
opened_field_words = 17

-- of a drop of each parameter
abbrev pub drops_words : ℕ
drops_words = reference_length * most_parameters

-- the words of a form on values: those of a string too
abbrev pub form_words : Form → List ℕ → ℕ
form_words (Call f) arguments = call_words + argument_words * length arguments
form_words (Construct c) [] = constant_words
form_words (Construct c) (x ∷ xs) = construction_words + field_words * length (x ∷ xs)
form_words (PrintText how text) arguments = print_words + string_words
form_words form arguments = other_form_words

-- The words of a code but for those that grow with pairs of nodes: its forms; a dup and a drop for each argument, and a drop for
-- each value; the tests of an `if`, and as many as brief ones have for each node of the patterns of another case; and for each arm
-- but one a drop of each parameter.
abbrev mutual
  pub plain_words : Code → ℕ
  plain_words (give x) = give_words + reference_length
  plain_words (tail_call f arguments) = tail_call_words + (argument_words + reference_length) * length arguments
  plain_words (case x decisions arms) =
      case_words + reference_length
      + (if are_truths (patterns_of arms) then tests_length decisions else brief_node_length * case_nodes arms)
      + drops_words * (length (patterns_of arms) - 1) + arms_plain_words arms
  plain_words (compute x form arguments rest) =
      form_words form arguments + 2 * reference_length * length arguments + reference_length + plain_words rest
  plain_words (use_of x rest) = reference_length + plain_words rest
  plain_words (unpack x c xs rest) = opening_words + opened_field_words * length xs + plain_words rest
  plain_words (inside x block rest) = reference_length + plain_words block + plain_words rest

  pub arms_plain_words : Arms → ℕ
  arms_plain_words no_arm = 0
  arms_plain_words (arm pattern body rest) = plain_words body + arms_plain_words rest

-- ---- functions

-- the most words of a node, but for those that grow with pairs of nodes
abbrev pub most_node_words : ℕ
most_node_words = 116

-- and the most for each pair of nodes
abbrev pub most_pair_words : ℕ
most_pair_words = 4

-- A code stands for a text of so many nodes: it has no more of them, its forms take few words for each, its tests are brief, and
-- its openings have fields.
pub record StandsForNodes (number : ℕ) (code : Code) : Type 0 where
  pub nodes : pattern_nodes [] false code + other_nodes code ≤ number
  pub words : plain_words code ≤ most_node_words * number
  pub tests : HasBriefTests code

-- the body of each function stands for the nodes of the body that it is made of
abbrev pub StandForNodes : List FunctionTree → List FunctionCode → Type 0
StandForNodes [] [] = Unit {0}
StandForNodes (function ∷ functions) (core ∷ cores) =
    StandsForNodes (nodes_of function.body) core.body × StandForNodes functions cores
StandForNodes _ _ = ⊥
