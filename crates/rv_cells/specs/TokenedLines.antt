-- The assembler code of a program in counted form with tokens. The value of slot y is that many behind the variables; the
-- temporaries come behind the slots.
use Rattle.std.specs.Prelude.{◌≡◌, ℕ, ◌+◌, ◌<◌, ◌≤◌, Bool, true, false, List, [], ◌∷◌, ◌++◌, map, length, Some, nat_eq, slice_get, Option, None}
use Rattle.kk_syntax.specs.declared.program.Form.{Form}
use Rattle.kk_syntax.specs.declared.program.Form.TheVariants.{Construct, Call}
use Rattle.kk_core.specs.Decisions.{NodeTree}
use Rattle.kk_core.specs.Sizes.{most_variables}
use Rattle.kk_counted.specs.Arms.{arm_count}
use Rattle.kk_counted.specs.BareForms.{bare, bare_arms, bare_function}
use Rattle.kk_counted.specs.FunctionSizes.{HasVariablesBelow}
use Rattle.kk_counted.specs.Lowerable.{AreBelow, AreNumbered}
use Rattle.kk_counted.specs.Marks.{CellMarks, IsMarked}
use Rattle.kk_counted.specs.Spending.{numbers_from}
use Rattle.kk_counted.specs.TokenLowerable.{most_slots, slots_in}
use Rattle.kk_counted.specs.TokenedCodes.{Tokened, TokenedArms, TokenedFunction}
use Rattle.rv_isa.specs.declared.asm.Action.TheVariants.{Compute, Label, Branch, TailCall}
use Rattle.rv_isa.specs.declared.asm.Condition.TheVariants.{Equal}
use Rattle.rv_isa.specs.declared.asm.Operation.TheVariants as Op
use Rattle.rv_isa.specs.AsmCode.{Line, Lines}
use Rattle.rv_lower.specs.Lines.{sets, copies_to, acts, copies, temporaries, Texts}
use Rattle.rv_lower.specs.Lowered.{Goal, returns, joins, goal_lines, from_to}
use Rattle.rv_cells.specs.declared.standing.Standing.{Standing}
use Rattle.rv_cells.specs.declared.standing.Standing.TheVariants.{Nothing, Count, Cell}
use Rattle.rv_cells.specs.Layout.{Layout, header_of}
use Rattle.rv_cells.specs.declared.compare.Branching.{Branching}
use Rattle.rv_cells.specs.ComparisonBranch.{branch_of, MayJoin}
use Rattle.rv_cells.specs.CellLines.{FillLines, ReadLines, TokenUniqueLines, dup_lines, drop_lines, hold_line, back_line}
use Rattle.rv_cells.specs.CountedLines.{Setting, ComputeLines, ways_of, NodesLines}

-- ---- slots

-- the values of slots, where variables are those below a number
abbrev pub values_of_slots : ℕ → List ℕ → List ℕ
values_of_slots variables slots = map (λ y. variables + y) slots

-- a function has so many slots: each that its code names is one of them
module _ (slots : ℕ) where
  abbrev mutual
    pub HasSlots : Tokened → Type 0
    HasSlots (Tokened.give x) = Unit {0}
    HasSlots (Tokened.tail_call f arguments) = Unit {0}
    HasSlots (Tokened.case x decisions arms) = HaveSlots arms
    HasSlots (Tokened.compute x form arguments others rest) = AreBelow slots others × HasSlots rest
    HasSlots (Tokened.inside x block rest) = HasSlots block × HasSlots rest
    HasSlots (Tokened.read x c fields rest) = HasSlots rest
    HasSlots (Tokened.open_cell x c fields used y rest) = (y < slots) × HasSlots rest
    HasSlots (Tokened.if_unique x c fields used y rest) = (y < slots) × HasSlots rest
    HasSlots (Tokened.dup x rest) = HasSlots rest
    HasSlots (Tokened.drop x rest) = HasSlots rest
    HasSlots (Tokened.fill x y c first arguments kept others rest) = (y < slots) × (AreBelow slots others × HasSlots rest)
    HasSlots (Tokened.free y rest) = (y < slots) × HasSlots rest
    HasSlots (Tokened.null y rest) = (y < slots) × HasSlots rest
    HasSlots (Tokened.move to of rest) = (to < slots) × ((of < slots) × HasSlots rest)
    HasSlots (Tokened.hold y rest) = (y < slots) × HasSlots rest
    HasSlots (Tokened.unhold y rest) = (y < slots) × HasSlots rest
    HasSlots (Tokened.if_token y there absent) = (y < slots) × (HasSlots there × HasSlots absent)

    pub HaveSlots : TokenedArms → Type 0
    HaveSlots TokenedArms.no_arm = Unit {0}
    HaveSlots (TokenedArms.arm body rest) = HasSlots body × HaveSlots rest

-- ---- what stands in the cells of tokens

-- whether the header of a constructor stands in the cell of each token that is not held, and whether the count 1 does
abbrev pub header_stands : Standing → ℕ → Bool
header_stands Nothing c = false
header_stands Count c = false
header_stands (Cell k) c = nat_eq k c

abbrev pub count_stands : Standing → Bool
count_stands Nothing = false
count_stands Count = true
count_stands (Cell k) = true

-- a cell of a constructor has what stands once it is opened
abbrev pub IsOf : Standing → ℕ → Type 0
IsOf Nothing c = Unit {0}
IsOf Count c = Unit {0}
IsOf (Cell k) c = k ≡ c

-- Code keeps what stands in the cells of its tokens: where anything does, no token is held or moved, and each cell that is opened
-- has it.
module _ (standing : Standing) where
  abbrev pub CallsNone : Form → Type 0
  CallsNone (Call f) = standing ≡ Nothing
  CallsNone form = Unit {0}

  abbrev pub HoldsNone : List ℕ → Type 0
  HoldsNone [] = Unit {0}
  HoldsNone (other ∷ others) = standing ≡ Nothing

  abbrev mutual
    pub Keeps : Tokened → Type 0
    Keeps (Tokened.give x) = Unit {0}
    Keeps (Tokened.tail_call f arguments) = Unit {0}
    Keeps (Tokened.case x decisions arms) = AllKeep arms
    Keeps (Tokened.compute x form arguments others rest) = CallsNone form × (HoldsNone others × Keeps rest)
    Keeps (Tokened.inside x block rest) = Keeps block × Keeps rest
    Keeps (Tokened.read x c fields rest) = Keeps rest
    Keeps (Tokened.open_cell x c fields used y rest) = IsOf standing c × Keeps rest
    Keeps (Tokened.if_unique x c fields used y rest) = IsOf standing c × Keeps rest
    Keeps (Tokened.dup x rest) = Keeps rest
    Keeps (Tokened.drop x rest) = Keeps rest
    Keeps (Tokened.fill x y c first arguments kept others rest) = HoldsNone others × Keeps rest
    Keeps (Tokened.free y rest) = Keeps rest
    Keeps (Tokened.null y rest) = Keeps rest
    Keeps (Tokened.move to of rest) = (standing ≡ Nothing) × Keeps rest
    Keeps (Tokened.hold y rest) = (standing ≡ Nothing) × Keeps rest
    Keeps (Tokened.unhold y rest) = (standing ≡ Nothing) × Keeps rest
    Keeps (Tokened.if_token y there absent) = Keeps there × Keeps absent

    pub AllKeep : TokenedArms → Type 0
    AllKeep TokenedArms.no_arm = Unit {0}
    AllKeep (TokenedArms.arm body rest) = Keeps body × AllKeep rest

-- ---- code

-- The lines of a form on variables, with labels from one number to below another. A construction with fields that names other
-- tokens fills the cell of a null token, which its variable has: so those are held around its request.
abbrev pub AskLines : Setting → ℕ → ℕ → ℕ → Form → List ℕ → List ℕ → List Line → ℕ → Type 0
AskLines setting variables low x (Construct c) (a ∷ more) (other ∷ others) lines high =
    (own : List Line)
    × FillLines setting.base x x (values_of_slots variables (other ∷ others)) low (header_of setting.layout c) (a ∷ more) []
    false false own
    × (lines ≡ sets 0 x ∷ own) × (low + 1 ≡ high)
AskLines setting variables low x (Construct c) (a ∷ more) [] lines high =
    ComputeLines setting x (Construct c) (a ∷ more) lines × (low ≡ high)
AskLines setting variables low x (Construct c) [] others lines high =
    ComputeLines setting x (Construct c) [] lines × (low ≡ high)
AskLines setting variables low x form arguments others lines high = ComputeLines setting x form arguments lines × (low ≡ high)

-- the same, where the case behind a comparison may do its work: the comparison has no lines then
abbrev pub OwnLines : Option Branching → Setting → ℕ → ℕ → ℕ → Form → List ℕ → List ℕ → List Line → ℕ → Type 0
OwnLines None setting variables low x form arguments others lines high =
    AskLines setting variables low x form arguments others lines high
OwnLines (Some branch) setting variables low x form arguments others lines high = (lines ≡ []) × (low ≡ high)

-- The tests of a case with labels of its nodes from `nodes` on, and of its arms from `arms` on. Where it does the work of a
-- comparison, a branch goes to the second arm, that of `False`, and else the first arm comes.
abbrev pub CaseLines : Option Branching → Setting → ℕ → ℕ → ℕ → List NodeTree → List Line → Type 0
CaseLines None setting nodes arms x decisions lines =
    NodesLines setting.layout setting.base nodes (ways_of decisions nodes arms) x 0 decisions lines
CaseLines (Some branch) setting nodes arms x decisions lines =
    lines ≡ acts (Branch branch.condition (arms + 1)) (branch.first ∷ branch.second ∷ []) ∷ []

-- a code begins with a construction of a variable in the cell of a slot's token
abbrev pub IsFillOf : ℕ → ℕ → Tokened → Type 0
IsFillOf x y (Tokened.fill z w c first arguments kept others rest) = (z ≡ x) × (w ≡ y)
IsFillOf x y _ = ⊥

-- so it is where an opening is to lead behind that construction's test of the token
abbrev pub MayFill : Option ℕ → ℕ → Tokened → Type 0
MayFill None y rest = Unit {0}
MayFill (Some x) y rest = IsFillOf x y rest

-- The lines of an opening, with the labels `low` and the next one. Where a construction directly behind it fills the cell of its
-- slot, the way of a cell that becomes the token may go on behind the test of that construction, whose label comes next.
abbrev pub OpeningLines : Setting → ℕ → ℕ → ℕ → List ℕ → List ℕ → ℕ → Tokened → List Line → Type 0
OpeningLines setting variables low x fields used y rest own =
    (into : Option ℕ) × MayFill into y rest
    × TokenUniqueLines setting.base setting.holds low (low + 1) (low + 2) x fields used (variables + y) into own

-- The lines of a code whose value goes to a goal. Its labels are numbers from `low` on, below `high`. The fields that a
-- construction keeps, and what stands in the cells of tokens, are written only where its slot is null. A comparison may be left to a
-- code: the case does its work to which it leads, behind drops.
abbrev mutual
  pub LinesBehind : Option Branching → Setting → ℕ → Goal → ℕ → Tokened → List Line → ℕ → Type 0
  LinesBehind left setting variables goal low (Tokened.give x) lines high = (lines ≡ goal_lines goal x) × (low ≡ high)
  LinesBehind left setting variables goal low (Tokened.tail_call f arguments) lines high =
      (lines ≡ copies setting.base arguments ++ acts (TailCall f) (temporaries setting.base arguments) ∷ []) × (low ≡ high)
  LinesBehind left setting variables goal low (Tokened.case x decisions arms) lines high =
      (choice : List Line) × (bodies : List Line) × (nodes : ℕ) × (nodes ≡ low + arm_count (bare_arms arms))
      × CaseLines left setting nodes low x decisions choice
      × ArmsLines setting variables goal low (nodes + length decisions) arms bodies high × (lines ≡ choice ++ bodies)
  LinesBehind left setting variables goal low (Tokened.compute x form arguments others rest) lines high =
      (own : List Line) × (more : List Line) × (middle : ℕ) × (joined : Bool)
      × OwnLines (branch_of form arguments joined) setting variables low x form arguments others own middle
      × LinesBehind (branch_of form arguments joined) setting variables goal middle rest more high
      × MayJoin setting.holds joined x rest × (lines ≡ own ++ more)
  LinesBehind left setting variables goal low (Tokened.inside x block rest) lines high =
      (part : List Line) × (more : List Line) × (middle : ℕ)
      × LinesBehind None setting variables (joins x low) (low + 1) block part middle
      × LinesBehind None setting variables goal middle rest more high × (lines ≡ part ++ (acts (Label low) [] ∷ more))
  LinesBehind left setting variables goal low (Tokened.read x c fields rest) lines high =
      (own : List Line) × (more : List Line) × ReadLines x fields own × LinesBehind None setting variables goal low rest more high
      × (lines ≡ own ++ more)
  LinesBehind left setting variables goal low (Tokened.open_cell x c fields used y rest) lines high =
      (own : List Line) × (more : List Line) × OpeningLines setting variables low x fields used y rest own
      × LinesBehind None setting variables goal (low + 2) rest more high × (lines ≡ own ++ more)
  LinesBehind left setting variables goal low (Tokened.if_unique x c fields used y rest) lines high =
      (own : List Line) × (more : List Line) × OpeningLines setting variables low x fields used y rest own
      × LinesBehind None setting variables goal (low + 2) rest more high × (lines ≡ own ++ more)
  LinesBehind left setting variables goal low (Tokened.dup x rest) lines high =
      (more : List Line) × LinesBehind None setting variables goal low rest more high × (lines ≡ dup_lines setting.holds x ++ more)
  LinesBehind left setting variables goal low (Tokened.drop x rest) lines high =
      (more : List Line) × LinesBehind left setting variables goal low rest more high
      × (lines ≡ drop_lines setting.holds x ++ more)
  LinesBehind left setting variables goal low (Tokened.fill x y c first arguments kept others rest) lines high =
      (own : List Line) × (more : List Line)
      × FillLines setting.base x (variables + y) (values_of_slots variables others) low (header_of setting.layout c)
      (first ∷ arguments) kept (header_stands setting.standing c) (count_stands setting.standing) own
      × LinesBehind None setting variables goal (low + 1) rest more high × (lines ≡ own ++ more)
  LinesBehind left setting variables goal low (Tokened.free y rest) lines high =
      (more : List Line) × LinesBehind None setting variables goal low rest more high
      × (lines ≡ acts (Compute Op.Free) ((variables + y) ∷ []) ∷ more)
  LinesBehind left setting variables goal low (Tokened.null y rest) lines high =
      (more : List Line) × LinesBehind None setting variables goal low rest more high × (lines ≡ sets 0 (variables + y) ∷ more)
  LinesBehind left setting variables goal low (Tokened.move to of rest) lines high =
      (more : List Line) × LinesBehind None setting variables goal low rest more high
      × (lines ≡ copies_to (variables + of) (variables + to) ∷ more)
  LinesBehind left setting variables goal low (Tokened.hold y rest) lines high =
      (more : List Line) × LinesBehind None setting variables goal low rest more high
      × (lines ≡ hold_line (variables + y) ∷ more)
  LinesBehind left setting variables goal low (Tokened.unhold y rest) lines high =
      (more : List Line) × LinesBehind None setting variables goal low rest more high
      × (lines ≡ back_line (variables + y) ∷ more)
  LinesBehind left setting variables goal low (Tokened.if_token y there absent) lines high =
      (yes : List Line) × (no : List Line) × (middle : ℕ) × LinesBehind None setting variables goal (low + 1) there yes middle
      × LinesBehind None setting variables goal middle absent no high
      × (lines ≡ acts (Branch Equal low) ((variables + y) ∷ []) ∷ (yes ++ (acts (Label low) [] ∷ no)))

  -- the arms, each behind its label
  pub ArmsLines : Setting → ℕ → Goal → ℕ → ℕ → TokenedArms → List Line → ℕ → Type 0
  ArmsLines setting variables goal label low TokenedArms.no_arm lines high = (lines ≡ []) × (low ≡ high)
  ArmsLines setting variables goal label low (TokenedArms.arm body rest) lines high =
      (first : List Line) × (more : List Line) × (middle : ℕ) × LinesBehind None setting variables goal low body first middle
      × ArmsLines setting variables goal (label + 1) middle rest more high
      × (lines ≡ acts (Label label) [] ∷ (first ++ more))

-- the lines of a code to which no comparison is left
abbrev pub CodeLines : Setting → ℕ → Goal → ℕ → Tokened → List Line → ℕ → Type 0
CodeLines = LinesBehind None

-- ---- functions

-- a function's assembler code
pub record IsFunctionLowered (layout : Layout) (texts : Texts) (function : TokenedFunction) (lines : Lines) : Type 0 where
  pub holds : ℕ → Bool
  pub variables : ℕ
  pub slots : ℕ
  pub params : lines.params ≡ from_to 0 function.parameters
  pub labels : ℕ
  pub standing : Standing
  pub keeps : Keeps standing function.body
  pub code : CodeLines
      (record { layout = layout; holds = holds; base = variables + slots; texts = texts; standing = standing }) variables returns 0
      function.body lines.code labels

-- The assembler code of a function of a number: its variables are of types with cells as marked, the values of its slots are above
-- all of its variables and its temporaries above these, and they are few: no more variables and slots than the function has.
pub record IsFunctionOf (layout : Layout) (texts : Texts) (marks : CellMarks) (f : ℕ) (function : TokenedFunction) (lines : Lines)
    : Type 0 where
  pub lowered : IsFunctionLowered layout texts function lines
  pub marked : IsMarked marks lowered.holds f (bare_function function)
  pub few : function.parameters ≤ lowered.variables
  pub low : lowered.variables + lowered.slots ≤ most_variables + most_slots
  pub fewest : (most : ℕ) → HasVariablesBelow most (bare_function function) → lowered.variables ≤ most
  pub least : lowered.slots ≤ slots_in function.body
  pub numbered : AreNumbered lowered.variables (numbers_from 0 function.parameters) (bare function.body)
  pub has : HasSlots lowered.slots function.body

-- the assembler code of all functions, each by its number
abbrev pub AreFunctionsOf : Layout → Texts → CellMarks → List TokenedFunction → List Lines → Type 0
AreFunctionsOf layout texts marks functions each =
    (f : ℕ) (function : TokenedFunction) → slice_get functions f ≡ Some function
    → (lines : Lines) × (slice_get each f ≡ Some lines) × IsFunctionOf layout texts marks f function lines
