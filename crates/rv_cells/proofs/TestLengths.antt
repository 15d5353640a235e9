-- The tests of a case are short: their nodes are no longer than the decisions tell.
use Rattle.std.proofs.Common.{◌≡◌, ℕ, zero, suc, ◌+◌, ◌*◌, ◌≤◌, Bool, true, false, not, List, [], ◌∷◌, ◌++◌, length}
use Rattle.std.proofs.Common.{Option, None, Some, option_to_list, nat_eq, length-append, ap, ◌∙◌, arith}
use Rattle.std.specs.Prelude.{filter, if◌then◌else◌}
use Rattle.kk_core.specs.CaseLengths.{node_length, tests_length, choice_length, edge_length, way_length}
use Rattle.kk_core.specs.Decisions.{NodeTree, chooses, tests}
use Rattle.kk_core.specs.declared.decisions.Answer.{Answer}
use Rattle.kk_core.specs.declared.decisions.Edge.{Edge}
use Rattle.rv_isa.specs.AsmCode.{Line}
use Rattle.rv_isa.specs.declared.asm.Action.TheVariants.{Jump, Branch}
use Rattle.rv_isa.specs.declared.asm.Condition.TheVariants.{Equal, NotEqual}
use Rattle.rv_isa.specs.Costs.{code_length}
use Rattle.rv_lower.specs.Lines.{computes, sets, acts}
use Rattle.rv_isa.specs.declared.asm.ImmediateOperation.TheVariants.{Andi}
use Rattle.rv_isa.specs.declared.asm.Operation.TheVariants as Op
use Rattle.rv_cells.specs.CellLines.{Walks, walked, spare, equal_lines, jump_lines}
use Rattle.rv_cells.specs.CountedLines.{is_plain, answer_word, answer_tag, Ways, number_tests, last_lines, ChoiceLines}
use Rattle.rv_cells.specs.CountedLines.{OddLines, DecideLines, AreTried, first_lines, NodeLines, NodesLines}
use Rattle.rv_cells.specs.Layout.{Layout, first_field}
use Rattle.rv_cells.proofs.FormLengths.{lines_append, load_length}

walk_length : (temporary value : ℕ) (way : List ℕ) (lines : List Line) → Walks temporary value way lines
    → code_length lines ≡ way_length * length way
walk_length temporary value [] lines is = let empty = ap code_length is in omega (arith, empty)
walk_length temporary value (field ∷ way) lines is =
    let whole = ap code_length is.4 in
    let one = load_length value (first_field + field) temporary is.0 is.2 in
    let more = walk_length temporary temporary way is.1 is.3 in omega (arith, whole, one, more)

numbers_length : (number : Answer → ℕ) (to : ℕ → ℕ) (value temporary : ℕ) (edges : List Edge)
    → code_length (number_tests number to value temporary edges) ≤ edge_length * length edges
numbers_length number to value temporary [] = omega arith
numbers_length number to value temporary (edge ∷ edges) =
    let apart = lines_append (equal_lines value (number edge.found) temporary (to edge.next))
    (number_tests number to value temporary edges) in
    let more = numbers_length number to value temporary edges in omega (arith, apart, more)

jump_length : (next label : ℕ) → code_length (jump_lines next label) ≤ choice_length
jump_length next label = by (nat_eq label next)
  where
    by : (b : Bool) → code_length (if b then [] else (acts (Jump label) [] ∷ [])) ≤ choice_length
    by true = omega arith
    by false = omega arith

last_length : (number : Answer → ℕ) (to : ℕ → ℕ) (next value temporary : ℕ) (last : Option Edge) (other : Option ℕ)
    → code_length (last_lines number to next value temporary last other)
    ≤ edge_length * length (option_to_list last) + choice_length
last_length number to next value temporary None None = omega arith
last_length number to next value temporary None (Some other) = let jump = jump_length next (to other) in omega (arith, jump)
last_length number to next value temporary (Some edge) None = omega arith
last_length number to next value temporary (Some edge) (Some other) = by (nat_eq (to edge.next) next)
  where
    by : (b : Bool)
        → code_length (sets (number edge.found) temporary ∷ (if b then acts (Branch NotEqual (to other)) (value ∷ temporary ∷ []) ∷ []
        else (acts (Branch Equal (to edge.next)) (value ∷ temporary ∷ []) ∷ jump_lines next (to other))))
        ≤ edge_length * 1 + choice_length
    by true = omega arith
    by false = let jump = jump_length next (to other) in omega (arith, jump)

chosen_length : (number : Answer → ℕ) (to : ℕ → ℕ) (next value temporary : ℕ) (edges : List Edge) (other : Option ℕ)
    (lines : List Line) → ChoiceLines number to next value temporary edges other lines
    → code_length lines ≤ edge_length * length edges + choice_length
chosen_length number to next value temporary edges other lines is =
    let numbers : List Line = number_tests number to value temporary is.0 in
    let last : List Line = last_lines number to next value temporary is.1 other in
    let whole = ap code_length is.3 in
    let apart = lines_append numbers last in
    let first = numbers_length number to value temporary is.0 in
    let ending = last_length number to next value temporary is.1 other in
    let all : length edges ≡ length is.0 + length (option_to_list is.1)
    = ap length is.2 ∙ length-append is.0 (option_to_list is.1) in
    omega (arith, whole, apart, first, ending, all)

odd_length : (value temporary : ℕ) (to : ℕ → ℕ) (otherwise : Option ℕ) (lines : List Line)
    → OddLines value temporary to otherwise lines → code_length lines ≤ 8
odd_length value temporary to None lines is = let whole = ap code_length is in omega (arith, whole)
odd_length value temporary to (Some next) lines is = let whole = ap code_length is.2 in omega (arith, whole)

decide_length : (layout : Layout) (to : ℕ → ℕ) (next value temporary : ℕ) (plain tagged : List Edge) (otherwise other : Option ℕ)
    (lines : List Line) → DecideLines layout to next value temporary plain tagged otherwise other lines
    → code_length lines ≤ 18 + edge_length * length plain + edge_length * length tagged
decide_length layout to next value temporary plain [] otherwise other lines is =
    let choice = chosen_length (answer_word layout) to next value temporary plain other lines is in omega (arith, choice)
decide_length layout to next value temporary plain (edge ∷ edges) otherwise other lines is =
    let words : List Line = number_tests (answer_word layout) to value temporary plain in
    let loads : List Line = is.1 ∷ computes (Op.Immediate Andi is.2) (temporary ∷ []) temporary ∷ is.3 in
    let whole = ap code_length is.8 in
    let first = lines_append words (is.0 ++ loads) in
    let second = lines_append is.0 loads in
    let worded = numbers_length (answer_word layout) to value temporary plain in
    let odd = odd_length value temporary to otherwise is.0 is.4 in
    let header = load_length value 1 temporary is.1 is.5 in
    let choice = chosen_length (answer_tag layout) to next temporary (temporary + 1) (edge ∷ edges) other is.3 is.7 in
    omega (arith, whole, first, second, worded, odd, header, choice)

-- each edge is tested by its word or by its tag
parted : (plain : Edge → Bool) (edges : List Edge)
    → length (filter plain edges) + length (filter (λ edge. not (plain edge)) edges) ≡ length edges
parted plain [] = omega arith
parted plain (edge ∷ edges) = by (plain edge) (parted plain edges)
  where
    by : (t : Bool) → length (filter plain edges) + length (filter (λ one. not (plain one)) edges) ≡ length edges
        → length (if t then edge ∷ filter plain edges else filter plain edges)
        + length (if not t then edge ∷ filter (λ one. not (plain one)) edges else filter (λ one. not (plain one)) edges)
        ≡ suc (length edges)
    by true same = omega (arith, same)
    by false same = omega (arith, same)

-- the edges that are tried are no more than all
tried_length : (words tags : List Edge) (otherwise : Option ℕ) (plain tagged : List Edge) (other : Option ℕ)
    → AreTried words tags otherwise plain tagged other
    → length plain + length tagged ≤ length words + length tags
tried_length words tags (Some next) plain tagged other are =
    let first = ap length are.0 in let second = ap length are.1 in omega (arith, first, second)
tried_length words [] None plain tagged other are =
    let none = ap length are.0 in
    let all = ap length are.1.1 ∙ length-append plain (option_to_list are.1.0) in omega (arith, none, all)
tried_length words (edge ∷ edges) None plain tagged other are =
    let first = ap length are.0 in
    let all : length (edge ∷ edges) ≡ length tagged + length (option_to_list are.1.0)
    = ap length are.1.1 ∙ length-append tagged (option_to_list are.1.0) in omega (arith, first, all)

first_length : (ways : Ways) (k : ℕ) → code_length (first_lines ways k) ≤ choice_length
first_length ways zero = jump_length (ways.behind 0) (ways.to 0)
first_length ways (suc k) = omega arith

node_short : (layout : Layout) (base nodes : ℕ) (ways : Ways) (x k : ℕ) (node : NodeTree) (lines : List Line)
    → NodeLines layout base nodes ways x k node lines → code_length lines ≤ node_length node
node_short layout base nodes ways x k (chooses row) lines is =
    let whole = ap code_length is in let jump = first_length ways k in omega (arith, whole, jump)
node_short layout base nodes ways x k (tests at edges otherwise) lines node =
    let is = node.1 in
    let words : List Edge = filter (λ edge. is_plain layout edge.found) edges in
    let tags : List Edge = filter (λ edge. not (is_plain layout edge.found)) edges in
    let labelled = ap code_length node.2 in
    let whole = ap code_length is.8 in
    let apart = lines_append is.0 is.1 in
    let walk = walk_length base x at is.0 is.5 in
    let decided = decide_length layout ways.to (ways.behind k) (walked base x at) (spare base at) is.2 is.3 otherwise is.4 is.1 is.7 in
    let tried = tried_length words tags otherwise is.2 is.3 is.4 is.6 in
    let each = parted (λ edge. is_plain layout edge.found) edges in
    omega (arith, labelled, whole, apart, walk, decided, tried, each)

pub nodes_short : (layout : Layout) (base nodes : ℕ) (ways : Ways) (x k : ℕ) (each : List NodeTree) (lines : List Line)
    → NodesLines layout base nodes ways x k each lines → code_length lines ≤ tests_length each
nodes_short layout base nodes ways x k [] lines is = let whole = ap code_length is in omega (arith, whole)
nodes_short layout base nodes ways x k (node ∷ each) lines is =
    let whole = ap code_length is.4 in
    let apart = lines_append is.0 is.1 in
    let one = node_short layout base nodes ways x k node is.0 is.2 in
    let more = nodes_short layout base nodes ways x (suc k) each is.1 is.3 in omega (arith, whole, apart, one, more)
