-- What was written of a function's assembler code, from its counted form.
use Rattle.std.specs.Prelude.{Option, ◌≡◌, ℕ, ◌+◌, ◌-◌, ◌^◌, Bool, true, false, List, [], ◌∷◌, ◌++◌, length, map}
use Rattle.kk_syntax.specs.declared.program.Form.{Form}
use Rattle.kk_core.specs.Decisions.{node_tree}
use Rattle.kk_core.specs.declared.decisions.Answer.{Answer}
use Rattle.kk_counted.specs.TokenedWords.{prints_in_form}
use Rattle.rv_isa.specs.declared.asm.Action.TheVariants.{Branch}
use Rattle.rv_isa.specs.declared.asm.Condition.{Condition}
use Rattle.rv_isa.specs.declared.asm.Operation.TheVariants as Op
use Rattle.rv_isa.specs.declared.asm.ImmediateOperation.TheVariants.{Addi, Andi}
use Rattle.rv_isa.specs.declared.immediate.Immediate.{Immediate}
use Rattle.rv_isa.specs.AsmCode.{Line}
use Rattle.rv_lower.specs.declared.lowering.Lowering.{Lowering}
use Rattle.rv_lower.specs.Lines.{computes, sets, acts}
use Rattle.rv_lower.specs.Written.{lines_written, texts_written, texts_of, Grows}
use Rattle.rv_tokens.specs.declared.known.Known.{Known}
use Rattle.rv_cells.specs.declared.standing.Standing.{Standing}
use Rattle.rv_tokens.specs.declared.decide.Targets.{Targets}
use Rattle.rv_tokens.specs.declared.decide.CaseWays.{CaseWays}
use Rattle.rv_tokens.specs.declared.decide.Shown.{Shown}
use Rattle.rv_tokens.specs.declared.decide.Shown.TheVariants.{Word, Tag}
use Rattle.rv_cells.specs.Layout.{Layout, layout_of, tag_values}
use Rattle.rv_cells.specs.CellLines.{Loads, Stores, StandsOnce, alone_lines, shared_lines, TokenUniqueLines}
use Rattle.rv_cells.specs.Marking.{holds_in}
use Rattle.rv_cells.specs.CountedLines.{Setting, ComputeLines, Ways, ways_of, answer_word, answer_tag}

-- ---- what is known

abbrev pub holds_known : Known → ℕ → Bool
holds_known known x = holds_in known.marks.now x

abbrev pub layout_known : Known → Layout
layout_known known = layout_of known.constructors.now

-- where the tests of a case lead
abbrev pub ways_known : CaseWays → Ways
ways_known ways = ways_of (map node_tree ways.nodes.now) ways.targets.nodes ways.targets.arms

-- the number that shows an answer: its word, or its tag
abbrev pub number_shown : Shown → Layout → Answer → ℕ
number_shown Word layout = answer_word layout
number_shown Tag layout = answer_tag layout

-- the string literals, how values look, which variables are of types with cells, and what stands in the cells of tokens
pub record Facts : Type 0 where
  pub literals : List (List ℕ)
  pub layout : Layout
  pub holds : ℕ → Bool
  pub standing : Standing

abbrev pub facts_of : Known → Facts
facts_of known = record {
  literals = known.literals.now;
  layout = layout_known known;
  holds = holds_known known;
  standing = known.standing;
}

-- where temporaries begin there, and these constant bytes stand
abbrev pub setting_in : Facts → ℕ → List (List ℕ) → Setting
setting_in facts base texts = record {
  layout = facts.layout;
  holds = facts.holds;
  base = base;
  texts = texts_of facts.literals texts;
  standing = facts.standing;
}

-- ---- lines

-- a value stands once in a list, at this place
abbrev pub IsOnlyPlace : List ℕ → ℕ → ℕ → Type 0
IsOnlyPlace all value place =
    (before : List ℕ) × (after : List ℕ) × StandsOnce all value before after × (length before ≡ place)

-- a branch to a label by this test of a cell's count for 1
abbrev pub TestsCount : ℕ → Condition → ℕ → ℕ → List Line → Type 0
TestsCount base condition label x lines =
    (test : Line) × Loads x 0 base test
    × (lines ≡ test ∷ sets 1 (base + 1) ∷ acts (Branch condition label) (base ∷ (base + 1) ∷ []) ∷ [])

-- the count of a cell is lowered
abbrev pub LowersCellCount : ℕ → ℕ → List Line → Type 0
LowersCellCount base x lines =
    (count : Line) × (less : Immediate) × (store : Line) × Loads x 0 base count × (less.word ≡ 2 ^ 32 - 1) × Stores x 0 base store
    × (lines ≡ count ∷ computes (Op.Immediate Addi less) (base ∷ []) base ∷ store ∷ [])

-- one way of an opening: of a cell that has no other reference, or of one that has
abbrev pub WayLines : Bool → ℕ → (ℕ → Bool) → ℕ → List ℕ → List ℕ → ℕ → List Line → List Line → Type 0
WayLines true base holds x fields used token loads lines = lines ≡ alone_lines holds x fields used token loads
WayLines false base holds x fields used token loads lines =
    (lowers : List Line) × LowersCellCount base x lowers × (lines ≡ shared_lines holds fields used token loads lowers)

-- the tag of a value's cell is loaded
abbrev pub LoadsTag : ℕ → ℕ → List Line → Type 0
LoadsTag value tag lines =
    (header : Line) × (byte : Immediate) × Loads value 1 tag header × (byte.word ≡ tag_values - 1)
    × (lines ≡ header ∷ computes (Op.Immediate Andi byte) (tag ∷ []) tag ∷ [])

-- ---- what was written

-- so many labels were taken, and nothing written
pub record TookLabels (count label : ℕ) (old new : Lowering) : Type 0 where
  pub is : label ≡ old.next_label
  pub next : new.next_label ≡ old.next_label + count
  pub code : lines_written new ≡ lines_written old
  pub texts : texts_written new ≡ texts_written old
  pub base : new.base ≡ old.base

-- the labels of the arms and of the nodes of a case were taken
pub record TookTargets (arms nodes : ℕ) (targets : Targets) (old new : Lowering) : Type 0 where
  pub first : targets.arms ≡ old.next_label
  pub second : targets.nodes ≡ old.next_label + arms
  pub took : TookLabels (arms + nodes) targets.arms old new

-- An opening was written, with two labels, whose cell may be the token of a value.
pub record WroteOpening (holds : ℕ → Bool) (x : ℕ) (fields used : List ℕ) (token : ℕ) (into : Option ℕ) (old new : Lowering)
    : Type 0 where
  pub lines : List Line
  pub grows : Grows 0 lines old new
  pub label : new.next_label ≡ old.next_label + 2
  pub are : TokenUniqueLines old.base holds old.next_label (old.next_label + 1) (old.next_label + 2) x fields used token into lines

-- The lines of a form on variables were written. They are its lines however many texts come later.
pub record WroteValue (facts : Facts) (x : ℕ) (form : Form) (arguments : List ℕ) (old new : Lowering) : Type 0 where
  pub lines : List Line
  pub grows : Grows (prints_in_form form) lines old new
  pub label : new.next_label ≡ old.next_label
  pub are : (later : List (List ℕ)) → ComputeLines (setting_in facts old.base (texts_written new ++ later)) x form arguments lines
