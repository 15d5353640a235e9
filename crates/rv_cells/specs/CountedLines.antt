-- The lines of the tests of a case, and of forms on variables that name no token.
use Rattle.std.specs.Prelude.{◌≡◌, ℕ, zero, suc, ◌+◌, ◌*◌, Bool, true, not, List, [], ◌∷◌, ◌++◌, length, filter, drop, slice_get, Option, Some, None, option_map, option_to_list, nat_eq, ◌-◌}
use Rattle.kk_syntax.specs.declared.program.Form.{Form}
use Rattle.kk_syntax.specs.declared.program.Form.TheVariants.{Construct}
use Rattle.kk_core.specs.Decisions.{NodeTree, chooses, tests}
use Rattle.kk_core.specs.declared.decisions.Answer.{Answer}
use Rattle.kk_core.specs.declared.decisions.Answer.TheVariants.{Number, Constructor}
use Rattle.kk_core.specs.declared.decisions.Edge.{Edge}
use Rattle.rv_isa.specs.Arithmetic.{word_of}
use Rattle.rv_isa.specs.declared.asm.Action.TheVariants.{Label, Branch}
use Rattle.rv_isa.specs.declared.asm.Condition.TheVariants.{NotEqual}
use Rattle.rv_isa.specs.declared.asm.Operation.TheVariants as Op
use Rattle.rv_isa.specs.declared.asm.ImmediateOperation.TheVariants.{Andi}
use Rattle.rv_isa.specs.declared.immediate.Immediate.{Immediate}
use Rattle.rv_isa.specs.AsmCode.{Line}
use Rattle.rv_lower.specs.Lines.{computes, sets, acts, Texts, FormLines}
use Rattle.rv_cells.specs.declared.standing.Standing.{Standing}
use Rattle.rv_cells.specs.Layout.{Layout, header_of, tag_values}
use Rattle.rv_cells.specs.CellLines.{Loads, ConstructLines, Walks, walked, spare, equal_lines, jump_lines, either_lines}

-- ---- tests

-- whether the word of a value shows the answer: a number, or a constructor without fields
abbrev pub is_plain : Layout → Answer → Bool
is_plain layout (Number n) = true
is_plain layout (Constructor c) = nat_eq (length (layout.fields c)) 0

abbrev pub answer_word : Layout → Answer → ℕ
answer_word layout (Number n) = word_of n
answer_word layout (Constructor c) = 2 * layout.tag c + 1

abbrev pub answer_tag : Layout → Answer → ℕ
answer_tag layout (Number n) = 0
answer_tag layout (Constructor c) = layout.tag c

-- Where the tests of a case lead: the label of each node, and the one that comes behind the lines of each.
pub record Ways : Type 0 where
  pub to : ℕ → ℕ
  pub behind : ℕ → ℕ

-- a node that chooses a row has the label of the row's arm
abbrev pub label_of : ℕ → ℕ → ℕ → Option NodeTree → ℕ
label_of nodes arms k (Some (chooses row)) = arms + row
label_of nodes arms k _ = nodes + k

-- the label of the first test among nodes, or else that of the first arm
abbrev pub first_label : ℕ → ℕ → ℕ → List NodeTree → ℕ
first_label nodes arms k [] = arms
first_label nodes arms k (chooses row ∷ more) = first_label nodes arms (suc k) more
first_label nodes arms k (tests at edges otherwise ∷ more) = nodes + k

-- the labels of tests are those from `nodes` on, and those of arms the ones from `arms` on
abbrev pub ways_of : List NodeTree → ℕ → ℕ → Ways
ways_of decisions nodes arms = record {
  to = λ k. label_of nodes arms k (slice_get decisions k);
  behind = λ k. first_label nodes arms (suc k) (drop (suc k) decisions);
}

-- to each edge's label, where a value has that number
abbrev pub number_tests : (Answer → ℕ) → (ℕ → ℕ) → ℕ → ℕ → List Edge → List Line
number_tests number to value temporary [] = []
number_tests number to value temporary (edge ∷ edges) =
    equal_lines value (number edge.found) temporary (to edge.next) ++ number_tests number to value temporary edges

-- the test of the last edge, and where it goes on otherwise
abbrev pub last_lines : (Answer → ℕ) → (ℕ → ℕ) → ℕ → ℕ → ℕ → Option Edge → Option ℕ → List Line
last_lines number to next value temporary None None = []
last_lines number to next value temporary None (Some other) = jump_lines next (to other)
last_lines number to next value temporary (Some edge) None = equal_lines value (number edge.found) temporary (to edge.next)
last_lines number to next value temporary (Some edge) (Some other) =
    either_lines next value (number edge.found) temporary (to edge.next) (to other)

-- tests of a value's number, the last one apart
abbrev pub ChoiceLines : (Answer → ℕ) → (ℕ → ℕ) → ℕ → ℕ → ℕ → List Edge → Option ℕ → List Line → Type 0
ChoiceLines number to next value temporary edges other lines =
    (some : List Edge) × (last : Option Edge) × (edges ≡ some ++ option_to_list last)
    × (lines ≡ number_tests number to value temporary some ++ last_lines number to next value temporary last other)

-- where a value that is no cell goes on otherwise
abbrev pub OddLines : ℕ → ℕ → (ℕ → ℕ) → Option ℕ → List Line → Type 0
OddLines value temporary to None lines = lines ≡ []
OddLines value temporary to (Some next) lines =
    (one : Immediate) × (one.word ≡ 1)
    × (lines ≡ computes (Op.Immediate Andi one) (value ∷ []) temporary ∷ acts (Branch NotEqual (to next)) (temporary ∷ []) ∷ [])

-- the tests of a value: by its word, and then by the tag of its cell, where there are such edges
abbrev pub DecideLines : Layout → (ℕ → ℕ) → ℕ → ℕ → ℕ → List Edge → List Edge → Option ℕ → Option ℕ → List Line → Type 0
DecideLines layout to next value temporary plain [] otherwise other lines =
    ChoiceLines (answer_word layout) to next value temporary plain other lines
DecideLines layout to next value temporary plain (edge ∷ edges) otherwise other lines =
    (odd : List Line) × (header : Line) × (byte : Immediate) × (choice : List Line) × OddLines value temporary to otherwise odd
    × Loads value 1 temporary header × (byte.word ≡ tag_values - 1)
    × ChoiceLines (answer_tag layout) to next temporary (temporary + 1) (edge ∷ edges) other choice
    × (lines ≡ number_tests (answer_word layout) to value temporary plain
    ++ (odd ++ (header ∷ computes (Op.Immediate Andi byte) (temporary ∷ []) temporary ∷ choice)))

-- all edges but the last one, and where that one leads
abbrev pub IsWithoutLast : List Edge → List Edge → Option ℕ → Type 0
IsWithoutLast edges some other =
    (last : Option Edge) × (edges ≡ some ++ option_to_list last) × (other ≡ option_map (λ (edge : Edge). edge.next) last)

-- Which edges are tested by the word and which by the tag, and where it goes on where no test holds: by `otherwise`, or else by
-- the last of all edges, which needs no test then.
abbrev pub AreTried : List Edge → List Edge → Option ℕ → List Edge → List Edge → Option ℕ → Type 0
AreTried words tags (Some next) plain tagged other = (plain ≡ words) × (tagged ≡ tags) × (other ≡ Some next)
AreTried words [] None plain tagged other = (tagged ≡ []) × IsWithoutLast words plain other
AreTried words (edge ∷ edges) None plain tagged other = (plain ≡ words) × IsWithoutLast (edge ∷ edges) tagged other

-- A test goes to the value at a position, and tells by its word and its tag what is there.
abbrev pub TestLines : Layout → ℕ → (ℕ → ℕ) → ℕ → ℕ → List ℕ → List Edge → Option ℕ → List Line → Type 0
TestLines layout base to next x at edges otherwise lines =
    (walk : List Line) × (decided : List Line) × (plain : List Edge) × (tagged : List Edge) × (other : Option ℕ) × Walks base x at walk
    × AreTried (filter (λ edge. is_plain layout edge.found) edges) (filter (λ edge. not (is_plain layout edge.found)) edges)
    otherwise plain tagged other
    × DecideLines layout to next (walked base x at) (spare base at) plain tagged otherwise other decided
    × (lines ≡ walk ++ decided)

-- the first node goes to its arm, where it chooses one at once
abbrev pub first_lines : Ways → ℕ → List Line
first_lines ways zero = jump_lines (ways.behind 0) (ways.to 0)
first_lines ways (suc k) = []

-- a test stands behind its label, and a node that chooses a row has no lines but at the beginning
abbrev pub NodeLines : Layout → ℕ → ℕ → Ways → ℕ → ℕ → NodeTree → List Line → Type 0
NodeLines layout base nodes ways x k (chooses row) lines = lines ≡ first_lines ways k
NodeLines layout base nodes ways x k (tests at edges otherwise) lines =
    (own : List Line) × TestLines layout base ways.to (ways.behind k) x at edges otherwise own
    × (lines ≡ acts (Label (nodes + k)) [] ∷ own)

abbrev pub NodesLines : Layout → ℕ → ℕ → Ways → ℕ → ℕ → List NodeTree → List Line → Type 0
NodesLines layout base nodes ways x k [] lines = lines ≡ []
NodesLines layout base nodes ways x k (node ∷ more) lines =
    (first : List Line) × (rest : List Line) × NodeLines layout base nodes ways x k node first
    × NodesLines layout base nodes ways x (suc k) more rest × (lines ≡ first ++ rest)

-- ---- forms on variables

-- Which variables of a function are of types with cells, where its temporaries begin, how values look, the texts, and what stands
-- in the cells of its tokens.
pub record Setting : Type 0 where
  pub layout : Layout
  pub holds : ℕ → Bool
  pub base : ℕ
  pub texts : Texts
  pub standing : Standing

-- the value of a form on variables; a constructor without fields is its word
abbrev pub ComputeLines : Setting → ℕ → Form → List ℕ → List Line → Type 0
ComputeLines setting x (Construct c) [] lines = lines ≡ sets (2 * setting.layout.tag c + 1) x ∷ []
ComputeLines setting x (Construct c) (a ∷ more) lines = ConstructLines setting.base x (header_of setting.layout c) (a ∷ more) lines
ComputeLines setting x form arguments lines = FormLines setting.base setting.texts x form arguments lines
