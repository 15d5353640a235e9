-- Bodies in which each call, construction and pattern names another function or constructor: labels stand for those that are
-- named, in the order of the text. Where no label is left, a name stays as it is.
use Rattle.std.specs.Prelude.{ℕ, List, [], ◌∷◌, ◌++◌, length, drop, slice_index_or}
use Rattle.kk_syntax.specs.declared.program.Form.{Form}
use Rattle.kk_syntax.specs.declared.program.Form.TheVariants.{Construct, Call}
use Rattle.kk_syntax.specs.Patterns.{Pattern, anything, variable as pattern_variable, exactly, constructor, Patterns, no_part, part}
use Rattle.kk_syntax.specs.Shapes.{Replaces, replaced, replaced_all, replaced_rows}
use Rattle.kk_syntax.specs.Trees.{Tree, Trees, Rows, RowTree, row_parts, pattern_of_row, body_of_row, StatementTree}
use Rattle.kk_mono.specs.declared.body.Labels.{Labels}
use Rattle.kk_mono.specs.Instances.{called_by, calls, calls_of_all, calls_of_rows, built_by, tested, tested_all, constructors_in, constructors_in_all, constructors_in_rows}

-- functions and constructors that are named, each in the order of the text
pub record Names : Type 0 where
  pub functions : List ℕ
  pub constructors : List ℕ

abbrev pub no_names : Names
no_names = record { functions = []; constructors = [] }

-- names, and those behind them
abbrev pub both : Names → Names → Names
both first second = record {
  functions = first.functions ++ second.functions;
  constructors = first.constructors
      ++ second.constructors;
}

-- what a form, a pattern, and an expression names
abbrev pub names_of_form : Form → Names
names_of_form form = record { functions = called_by form; constructors = built_by form }

abbrev pub names_of_pattern : Pattern → Names
names_of_pattern p = record { functions = []; constructors = tested p }

abbrev pub names_of_patterns : Patterns → Names
names_of_patterns ps = record { functions = []; constructors = tested_all ps }

abbrev pub names : Tree → Names
names t = record { functions = calls t; constructors = constructors_in t }

abbrev pub names_of_all : Trees → Names
names_of_all ts = record { functions = calls_of_all ts; constructors = constructors_in_all ts }

abbrev pub names_of_rows : Rows → Names
names_of_rows rs = record { functions = calls_of_rows rs; constructors = constructors_in_rows rs }

-- the labels that are left
abbrev pub left_in : Labels → Names
left_in labels = record {
  functions = drop labels.next_function labels.functions.items;
  constructors =
      drop labels.next_constructor labels.constructors.items;
}

-- the labels behind those of some names
abbrev pub behind : Names → Names → Names
behind labels named =
    record {
      functions = drop (length named.functions) labels.functions;
      constructors = drop
          (length named.constructors) labels.constructors;
    }

abbrev pub labelled_form : Names → Form → Form
labelled_form labels (Call function) = Call (slice_index_or labels.functions 0 function)
labelled_form labels (Construct by) = Construct (slice_index_or labels.constructors 0 by)
labelled_form labels form = form

-- the name of one constructor
abbrev pub only_constructor : ℕ → Names
only_constructor by = record { functions = []; constructors = by ∷ [] }

abbrev mutual
  pub labelled_pattern : Names → Pattern → Pattern
  labelled_pattern labels anything = anything
  labelled_pattern labels (pattern_variable of) = pattern_variable of
  labelled_pattern labels (exactly value) = exactly value
  labelled_pattern labels (constructor by parts) =
      constructor (slice_index_or labels.constructors 0 by) (labelled_patterns (behind labels (only_constructor by)) parts)

  pub labelled_patterns : Names → Patterns → Patterns
  labelled_patterns labels no_part = no_part
  labelled_patterns labels (part first rest) =
      part (labelled_pattern labels first) (labelled_patterns (behind labels (names_of_pattern first)) rest)

-- what a row names
abbrev pub row_names : RowTree → Names
row_names r = both (names_of_pattern (pattern_of_row r)) (names (body_of_row r))

-- an expression with labels for what it names
abbrev pub labels_names : Replaces Names
labels_names = record {
  form = labelled_form;
  pattern = labelled_pattern;
  behind_form = λ labels form. behind labels (names_of_form form);
  behind_pattern = λ labels pattern. behind labels (names_of_pattern pattern);
  behind = λ labels e. behind labels (names e);
  behind_row = λ labels r. behind labels (row_names r);
}

abbrev pub labelled : Names → Tree → Tree
labelled = replaced labels_names

abbrev pub labelled_all : Names → Trees → Trees
labelled_all = replaced_all labels_names

abbrev pub labelled_rows : Names → Rows → Rows
labelled_rows = replaced_rows labels_names

-- what several things name, one behind the other
abbrev pub names_of_each : {X : Type 0} → (X → Names) → List X → Names
names_of_each named [] = no_names
names_of_each named (x ∷ xs) = both (named x) (names_of_each named xs)

-- things of a list, each with the labels behind those of the things before it
abbrev pub labelled_each : {X : Type 0} → (X → Names) → (Names → X → X) → Names → List X → List X
labelled_each named change labels [] = []
labelled_each named change labels (x ∷ xs) = change labels x ∷ labelled_each named change (behind labels (named x)) xs

abbrev pub labelled_row : Names → RowTree → RowTree
labelled_row labels (row_parts pattern body) =
    row_parts (labelled_pattern labels pattern) (labelled (behind labels (names_of_pattern pattern)) body)

abbrev pub statement_names : StatementTree → Names
statement_names s = names s.value

abbrev pub labelled_statement : Names → StatementTree → StatementTree
labelled_statement labels s = record { binder = s.binder; value = labelled labels s.value }
