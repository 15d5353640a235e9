-- How a state of the assembler's machine stands for a state of the machine with tokens.
use Rattle.std.proofs.Common.{◌≡◌, ◌≢◌, ℕ, suc, ◌+◌, ◌*◌, ◌%◌, ◌<◌, ◌≤◌, ◌⊎◌, inl, Bool, true, false, List, [], ◌∷◌, ◌++◌, length, Option, Some, All, refl, sym, ◌∙◌, ap, subst, arith}
use Rattle.std.specs.Prelude.{slice_get, if◌then◌else◌}
use Rattle.kk_base.specs.Trace.{Event}
use Rattle.kk_base.specs.Machines.{Machine, mapped, state, trace, weight_of}
use Rattle.kk_base.specs.Simulations.{Reaches}
use Rattle.kk_syntax.specs.Shapes.{is_among}
use Rattle.kk_source.specs.State.{Environment, End, ended as well}
use Rattle.kk_source.specs.Ends.{exit_of}
use Rattle.kk_source.specs.FormEffects.{truth}
use Rattle.kk_source.specs.Live.{value_of}
use Rattle.kk_source.specs.Notes.{events_of}
use Rattle.kk_core.specs.Truths.{truth_decisions}
use Rattle.kk_counted.specs.BareForms.{bare}
use Rattle.kk_counted.specs.Heaps.{Heap, fields_held}
use Rattle.kk_counted.specs.Lowerable.{AreNumbered}
use Rattle.kk_counted.specs.Marks.{CellMarks, field_marks, HasMark}
use Rattle.kk_counted.specs.TokenCosts.{token_cost}
use Rattle.kk_counted.specs.TokenKeeping.{Lists, IsJudged}
use Rattle.kk_counted.specs.TokenMachine.{token_machine, tokened_arm_at}
use Rattle.kk_counted.specs.TokenSpending.{AreTokensSpent}
use Rattle.kk_counted.specs.TokenStates.{TokenSetting, TokenJoin, TokenFrame, TokenControl, TokenConfiguration, TokenState, bare_configuration}
use Rattle.kk_counted.specs.TokenedCodes.{Tokened, TokenedArms, TokenedFunction, TokenedProgram}
use Rattle.kk_counted.proofs.KeptFields.{KeepsAt}
use Rattle.kk_counted.specs.Tokens.{Slot, spent, null, token, is_unspent, is_token, token_of, Tokens, is_linked, marked}
use Rattle.rv_isa.specs.declared.asm.Action.TheVariants.{Label, Jump}
use Rattle.rv_isa.specs.Processor.{Ending, exited}
use Rattle.rv_isa.specs.AsmCode.{Line, Lines}
use Rattle.rv_isa.specs.AsmMachine.{AsmTurn}
use Rattle.rv_isa.specs.Frames.{Frame}
use Rattle.rv_isa.specs.Primitives.{ended, stuck as stuck_turn}
use Rattle.rv_isa.specs.WellFormed.{AreLinesFormed}
use Rattle.rv_isa.specs.Numbers.{cell_size}
use Rattle.cell_heap.specs.Pool.{Pool}
use Rattle.cell_runtime.specs.World.{World}
use Rattle.rv_lower.specs.Lines.{Texts, copies_to, acts}
use Rattle.rv_lower.specs.Lowered.{Goal, returns, joins}
use Rattle.rv_lower.proofs.Labels.{found_label, label_found}
use Rattle.rv_cells.specs.declared.standing.Standing.{Standing}
use Rattle.rv_cells.specs.declared.standing.Standing.TheVariants.{Nothing, Count, Cell}
use Rattle.rv_cells.specs.Layout.{Layout, IsNarrow, words_in, header_of, FitsField, first_field}
use Rattle.rv_cells.specs.CountedCells.{AreFrom, Owner, in_hand, kept_aside, Follows, NoneAside, set_aside}
use Rattle.rv_cells.specs.CountedLines.{Setting}
use Rattle.rv_cells.specs.TokenedLines.{CodeLines, HasSlots, Keeps, IsFunctionOf, AreFunctionsOf}
use Rattle.rv_cells.specs.Fitting.{IsFit}
use Rattle.rv_cells.specs.TokenMemory.{held_cells, HasTokens}
use Rattle.rv_cells.proofs.BoundVariables.{AreWithin}
use Rattle.rv_cells.proofs.FormPlaces.{Tree, tree, no_part, own_of, tree_in, FillThere, StandsAt}
use Rattle.rv_cells.proofs.TokenLineCosts.{forms}
use Rattle.rv_cells.proofs.Values.{HasValues}
use Rattle.rv_cells.proofs.Runs.{Target, turn_of, Runs, machine}
use Rattle.rv_cells.proofs.Spots.{Spot, Known, saved}
use Rattle.rv_cells.proofs.LineCosts.{leading_cost}

-- A turn at a spot that has this environment and this heap, where something holds of the spot, its older frames and the lines that
-- are left.
pub record IsTurnWith (holds : Spot → List (Frame Line) → List Line → Type 0) (environment : Environment) (heap : Heap)
    (turn : AsmTurn World Ending) : Type 0 where
  pub spot : Spot
  pub fs : List (Frame Line)
  pub left : List Line
  pub environment_is : spot.environment ≡ environment
  pub heap_is : spot.heap ≡ heap
  pub turn_is : turn ≡ turn_of left spot.frame fs spot.world
  pub at : holds spot fs left

-- the turn at a spot itself
pub turn_here : (holds : Spot → List (Frame Line) → List Line → Type 0) (s : Spot) (fs : List (Frame Line)) (left : List Line)
    → holds s fs left → IsTurnWith holds s.environment s.heap (turn_of left s.frame fs s.world)
turn_here holds s fs left at =
    record { spot = s; fs = fs; left = left; environment_is = refl; heap_is = refl; turn_is = refl; at = at }

-- A program with tokens and its assembler code, with how its values look; the cells that it has; and the depth. `most` is the most
-- forms of a function.
pub record Lowering : Type 0 where
  pub code : TokenedProgram
  pub marks : CellMarks
  pub layout : Layout
  pub functions : List Lines
  pub constants : List (List ℕ)
  pub first : ℕ
  pub pool : Pool
  pub depth : ℕ
  pub most : ℕ
  pub aligned : pool.first % cell_size ≡ 0
  pub some : 0 < pool.first
  pub narrow : IsNarrow layout
  pub fields_are : (c : ℕ) → layout.fields c ≡ field_marks marks c
  pub falsity : layout.tag 0 ≡ 0
  pub truth_is : layout.tag 1 ≡ 1
  pub spends : AreTokensSpent code
  pub lowered : AreFunctionsOf layout (record { literals = code.texts; constants = constants }) marks code.functions functions
  pub formed : (f : ℕ) (lines : Lines) → slice_get functions f ≡ Some lines → AreLinesFormed lines.code
  pub short : (f : ℕ) (function : TokenedFunction) → slice_get code.functions f ≡ Some function → forms function.body ≤ most

-- ---- tokens

-- what the value of a slot is: 0 where it is null, and of a token the address of its cell; a spent one has any or none
abbrev pub SlotIs : (ℕ → ℕ) → Slot → Option ℕ → Type 0
SlotIs address spent value = Unit {0}
SlotIs address null value = value ≡ Some 0
SlotIs address (token p) value = value ≡ Some (address p)

-- the slots of a frame have their values, behind those of the variables; the unspent ones are among so many
pub record HaveSlotValues (address : ℕ → ℕ) (slots : ℕ → Slot) (variables count : ℕ) (values : ℕ → Option ℕ) : Type 0 where
  pub below : (y : ℕ) → is_unspent (slots y) ≡ true → y < count
  pub are : (y : ℕ) → SlotIs address (slots y) (values (variables + y))

-- the values of those held slots that have a token, the newest first
abbrev pub held_values : (ℕ → Slot) → ℕ → List ℕ → List ℕ
held_values slots variables [] = []
held_values slots variables (y ∷ ys) =
    if is_token (slots y) then (variables + y) ∷ held_values slots variables ys else held_values slots variables ys

-- The cell of a token is held where its slot is linked, else it is in hand. Its fields have these words.
abbrev pub IsTokenCell : Bool → List ℕ → Owner → Type 0
IsTokenCell true ws owner = (words : ℕ → Option ℕ) × (owner ≡ kept_aside words) × AreFrom words first_field ws
IsTokenCell false ws owner = (words : ℕ → Option ℕ) × (owner ≡ in_hand words) × AreFrom words first_field ws

-- the words of the fields that a name has
abbrev pub token_words : Layout → (ℕ → ℕ) → Heap → ℕ → List ℕ
token_words layout address heap p = words_in layout address (fields_held heap p)

-- Each token has a cell of its own, with its old fields, and as many cells are set aside as there are tokens.
pub record HaveTokenCells (pool : Pool) (layout : Layout) (address : ℕ → ℕ) (owners : ℕ → Owner) (heap : Heap) (tokens : Tokens)
    : Type 0 where
  pub are : (f y p : ℕ) → tokens.marks p ≡ token_of f y
      → IsTokenCell (is_linked f y tokens.chain) (token_words layout address heap p) (owners (address p))
  pub apart : (f y p g z q : ℕ) → tokens.marks p ≡ token_of f y → tokens.marks q ≡ token_of g z → address p ≡ address q → p ≡ q
  pub number : set_aside pool owners ≡ marked tokens.marks (length heap)

-- What stands in the cell of a token: nothing is known of it, or it is in hand with the count 1, or with the header of a constructor
-- too.
abbrev pub StandsIn : Layout → Standing → Owner → Type 0
StandsIn layout Nothing owner = Unit {0}
StandsIn layout Count owner = (words : ℕ → Option ℕ) × (owner ≡ in_hand words) × (words 0 ≡ Some 1)
StandsIn layout (Cell c) owner =
    (words : ℕ → Option ℕ) × (owner ≡ in_hand words) × (words 0 ≡ Some 1) × (words 1 ≡ Some (header_of layout c))

-- it does in the cells of all tokens of a frame
abbrev pub AllStand : Layout → Standing → (ℕ → ℕ) → (ℕ → Owner) → (ℕ → Slot) → Type 0
AllStand layout standing address owners slots = (y p : ℕ) → slots y ≡ token p → StandsIn layout standing (owners (address p))

-- ---- functions

-- What is known of a function: its number, where the parts of its code stand among its lines, which of its variables are of types
-- with cells, how many variables and slots it has, the mark of its result, and what stands in the cells of its tokens.
pub record Shape : Type 0 where
  pub function : ℕ
  pub root : Tree
  pub holds : ℕ → Bool
  pub variables : ℕ
  pub slots : ℕ
  pub result : Bool
  pub standing : Standing

-- where its temporaries begin
abbrev pub base_of : Shape → ℕ
base_of shape = shape.variables + shape.slots

module _ (program : Lowering) where
  abbrev pub target : Target
  target = record {
    constants = record { first = program.first; texts = program.constants };
    pool = program.pool;
    depth = program.depth;
    functions = program.functions;
  }

  abbrev pub texts : Texts
  texts = record { literals = program.code.texts; constants = program.constants }

  abbrev pub setting : TokenSetting
  setting = record { program = program.code; cells = program.pool.cells; depth = program.depth; leaves = true }

  -- the machine with tokens as an image tells it
  abbrev pub upper : Machine TokenState Event Ending
  upper = mapped events_of (λ end. exited (exit_of end)) (token_machine token_cost setting)

  abbrev pub lower : Machine (AsmTurn World Ending) Event Ending
  lower = machine target

  -- so many steps of the machine with tokens, at most, does one step
  abbrev pub pace : ℕ
  pace = 1 + program.most

  abbrev pub Passing : AsmTurn World Ending → Type 0
  Passing turn = turn ≢ stuck_turn

  abbrev pub known_of : Shape → Known
  known_of shape =
      record {
        target = target;
        layout = program.layout;
        holds = shape.holds;
        base = base_of shape;
        aligned = program.aligned;
        narrow = program.narrow;
      }

  abbrev pub lines_setting : Shape → Setting
  lines_setting shape = record {
    layout = program.layout;
    holds = shape.holds;
    base = base_of shape;
    texts = texts;
    standing = shape.standing;
  }

  -- where the parts of a function's code stand among its lines
  abbrev pub root_in : (f : ℕ) (function : TokenedFunction) (lines : Lines)
      → IsFunctionOf program.layout (record { literals = program.code.texts; constants = program.constants }) program.marks f function
      lines → Tree
  root_in f function lines of =
      tree_in (record {
        layout = program.layout;
        holds = of.lowered.holds;
        base = of.lowered.variables + of.lowered.slots;
        texts = texts;
        standing = of.lowered.standing;
      }) of.lowered.variables returns 0 function.body lines.code of.lowered.labels of.lowered.code

  -- they stand so in the function of a number
  abbrev pub IsRootOf : ℕ → Tree → Type 0
  IsRootOf f root =
      (function : TokenedFunction) × ((is : slice_get program.code.functions f ≡ Some function)
      × (root ≡ root_in f function (program.lowered f function is).0 (program.lowered f function is).2))

  module _ (shape : Shape) where
    -- lines that are left in a function are those of a code
    pub record Placed (goal : Goal) (given : Bool) (bound : List ℕ) (whole : List Line) (code : Tokened) (left : List Line)
        : Type 0 where
      pub before : List Line
      pub own : List Line
      pub after : List Line
      pub low : ℕ
      pub high : ℕ
      pub lines : CodeLines (lines_setting shape)
          shape.variables goal low code own high
      pub left_is : left ≡ own ++ after
      pub place : whole ≡ before ++ left
      pub stands : StandsAt shape.root before
          (tree_in (lines_setting shape)
          shape.variables goal low code own high lines)
      pub marked : HasMark program.marks shape.holds shape.result bound given (bare code)
      pub numbered : AreNumbered shape.variables bound (bare code)
      pub has : HasSlots shape.slots code
      pub keeps : Keeps shape.standing code
      pub short : forms code ≤ program.most

    -- a block inside, whose value a variable takes, and behind its label the code goes on
    pub record Joined (whole : List Line) (join : TokenJoin) (variable label : ℕ) (given : Bool) (bound : List ℕ) : Type 0 where
      pub variable_is : variable ≡ join.variable
      pub below : variable < shape.variables
      pub kind : shape.holds variable ≡ given
      pub start : List Line
      pub left : List Line
      pub stands : whole ≡ start ++ (acts (Label label) [] ∷ left)
      pub goal : Goal
      pub mark : Bool
      pub older : List ℕ
      pub within : AreWithin older bound
      pub placed : Placed goal mark (variable ∷ older) whole join.rest left

    -- where the value of a code goes, by the blocks that it is in: at last to the caller
    abbrev pub Continues : List Line → List TokenJoin → Goal → Bool → List ℕ → Type 0
    Continues whole [] returns given bound = given ≡ shape.result
    Continues whole [] (joins x l) given bound = ⊥
    Continues whole (join ∷ outer) returns given bound = ⊥
    Continues whole (join ∷ outer) (joins x l) given bound =
        (joined : Joined whole join x l given bound) × Continues whole outer joined.goal joined.mark (x ∷ joined.older)

    pub continues_more : (whole : List Line) (inner : List TokenJoin) (goal : Goal) (given : Bool) (bound more : List ℕ)
        → AreWithin bound more → Continues whole inner goal given bound → Continues whole inner goal given more
    continues_more whole [] returns given bound more within goes = goes
    continues_more whole [] (joins x l) given bound more within goes = absurd goes
    continues_more whole (join ∷ outer) returns given bound more within goes = absurd goes
    continues_more whole (join ∷ outer) (joins x l) given bound more within goes =
        let j = goes.0 in (
          record {
            variable_is = j.variable_is;
            below = j.below;
            kind = j.kind;
            start = j.start;
            left = j.left;
            stands = j.stands;
            goal = j.goal;
            mark = j.mark;
            older = j.older;
            within = λ z is. within z (j.within z is);
            placed = j.placed;
          },
          goes.1,
        )

    -- a function is at a code: its lines are left, and its value goes on
    pub record Does (bound : List ℕ) (whole : List Line) (code : Tokened) (inner : List TokenJoin) (left : List Line) : Type 0 where
      pub goal : Goal
      pub given : Bool
      pub placed : Placed goal given bound whole code left
      pub continues : Continues whole inner goal given bound

    -- a frame is in the function, whose lines these are: it has its number, where `main` is the first function
    pub record IsInFunction (f : ℕ) (whole : List Line) : Type 0 where
      pub number : program.code.main ≡ 0 → f ≡ shape.function
      pub whole_is : whole ≡ own_of shape.root
      pub root_is : IsRootOf shape.function shape.root

    -- A frame has the values of its bound variables and those of its slots, and it holds the tokens of these held slots. `next` is
    -- the name of the next cell.
    pub record HasFrame (address : ℕ → ℕ) (next : ℕ) (slots : ℕ → Slot) (held bound : List ℕ) (environment : Environment)
        (f : Frame Line) : Type 0 where
      pub values : HasValues program.layout address shape.holds (shape.variables + shape.slots) next bound environment f.cells
      pub below : (x : ℕ) → is_among bound x ≡ true → x < shape.variables
      pub tokens : HaveSlotValues address slots shape.variables shape.slots f.cells
      pub held_is : f.held ≡ held_values slots shape.variables held
      pub formed : AreLinesFormed f.whole
      pub in_function : IsInFunction f.function f.whole

  -- ---- frames

  -- A frame waits for a value of a mark, with these slots and these of them held. Nothing stands in its tokens' cells.
  pub record Waits (address : ℕ → ℕ) (next : ℕ) (slots : ℕ → Slot) (held : List ℕ) (waiting : TokenFrame) (f : Frame Line)
      (awaited : Bool) : Type 0 where
    pub shape : Shape
    pub bound : List ℕ
    pub into : f.into ≡ Some waiting.variable
    pub below : waiting.variable < shape.variables
    pub kind : shape.holds waiting.variable ≡ awaited
    pub nothing : shape.standing ≡ Nothing
    pub does : Does shape (waiting.variable ∷ bound) f.whole waiting.rest waiting.joins f.code
    pub has : HasFrame shape address next slots held bound waiting.environment f

  -- the frames that wait, by their held slots, the newest frame first
  abbrev pub AllWait : (ℕ → ℕ) → ℕ → (ℕ → ℕ → Slot) → List (List ℕ) → List TokenFrame → List (Frame Line) → Bool → Type 0
  AllWait address next slots [] [] [] awaited = Unit {0}
  AllWait address next slots (held ∷ helds) (waiting ∷ frames) (f ∷ fs) awaited =
      (waits : Waits address next (slots (length helds)) held waiting f awaited)
      × AllWait address next slots helds frames fs waits.shape.result
  AllWait address next slots helds frames fs awaited = ⊥

  -- ---- states

  -- A spot of a function at lines that are left, where a code is to be done with these tokens, which are judged by lists.
  pub record At (code : Tokened) (inner : List TokenJoin) (frames : List TokenFrame) (tokens : Tokens) (input : List ℕ) (s : Spot)
      (fs : List (Frame Line)) (left : List Line) : Type 0 where
    pub shape : Shape
    pub lists : Lists
    pub judged : IsJudged program.pool.cells lists.left lists.unspent lists.held lists.older code inner frames s.heap tokens
    pub does : Does shape s.bound s.frame.whole code inner left
    pub follows : Follows program.pool program.layout s.address s.owners s.heap s.world.cells
    pub cells : HaveTokenCells program.pool program.layout s.address s.owners s.heap tokens
    pub stand : AllStand program.layout shape.standing s.address s.owners (tokens.slots (length lists.older))
    pub has : HasFrame shape s.address (length s.heap) (tokens.slots (length lists.older)) lists.held s.bound s.environment s.frame
    pub waits : AllWait s.address (length s.heap) tokens.slots lists.older frames fs shape.result
    pub input_is : s.world.left ≡ input
    pub bytes : All (λ byte. byte < 256) input

  -- a turn at such a spot
  abbrev pub IsAt : Tokened → Environment → List TokenJoin → TokenConfiguration → List ℕ → AsmTurn World Ending → Type 0
  IsAt code environment inner c input turn = IsTurnWith (At code inner c.frames c.tokens input) environment c.heap turn

  -- A code that gives up a value that is no cell, which is no line: what comes behind it is at the lines that are left.
  pub record GivesUp (code : Tokened) (inner : List TokenJoin) (frames : List TokenFrame) (tokens : Tokens) (input : List ℕ)
      (s : Spot) (fs : List (Frame Line)) (left : List Line) : Type 0 where
    pub y : ℕ
    pub rest : Tokened
    pub lists : Lists
    pub code_is : code ≡ Tokened.drop y rest
    pub plain : FitsField false (value_of s.environment y)
    pub follows : Follows program.pool program.layout s.address s.owners s.heap s.world.cells
    pub judged : IsJudged program.pool.cells lists.left lists.unspent lists.held lists.older (Tokened.drop y rest) inner frames s.heap
        tokens
    pub at : IsJudged program.pool.cells lists.left lists.unspent lists.held lists.older rest inner frames s.heap tokens
        → At rest inner frames tokens input s fs left

  -- Lines lead to a code of the function, or to what comes behind a variable that it gives up. They are a branch and a label at
  -- most, and change no value and no cell.
  pub record ComesTo (code : Tokened) (inner : List TokenJoin) (frames : List TokenFrame) (tokens : Tokens) (input : List ℕ)
      (s : Spot) (fs : List (Frame Line)) (left : List Line) : Type 0 where
    pub there : List Line
    pub steps : ℕ
    pub runs : Runs target leading_cost steps (turn_of left s.frame fs s.world) (turn_of there s.frame fs s.world)
    pub stands : At code inner frames tokens input s fs there ⊎ GivesUp code inner frames tokens input s fs there

  -- behind values that are no cells and are given up, a case on the truth of a variable comes
  abbrev pub IsAhead : Environment → ℕ → TokenedArms → Tokened → Type 0
  IsAhead environment x arms (Tokened.drop y rest) =
      FitsField false (value_of environment y) × IsAhead environment x arms rest
  IsAhead environment x arms (Tokened.case y decisions others) = (y ≡ x) × ((decisions ≡ truth_decisions) × (others ≡ arms))
  IsAhead environment x arms _ = ⊥

  -- A turn at the branch of a case that does the work of a comparison, where the machine with tokens has done the comparison and is
  -- on its way to the case. It leads to the arm of the truth that the variable has.
  pub record IsBehind (code : Tokened) (inner : List TokenJoin) (frames : List TokenFrame) (tokens : Tokens) (input : List ℕ)
      (s : Spot) (fs : List (Frame Line)) (left : List Line) : Type 0 where
    pub x : ℕ
    pub arms : TokenedArms
    pub test : Bool
    pub lists : Lists
    pub ahead : IsAhead s.environment x arms code
    pub truth_is : value_of s.environment x ≡ truth test
    pub follows : Follows program.pool program.layout s.address s.owners s.heap s.world.cells
    pub judged : IsJudged program.pool.cells lists.left lists.unspent lists.held lists.older code inner frames s.heap tokens
    pub has : HasTokens program.pool program.layout s.address s.owners s.heap tokens s.world.cells (held_cells (s.frame ∷ fs))
    pub comes : (body : Tokened) → tokened_arm_at arms (if test then 0 else 1) ≡ Some body
        → IsJudged program.pool.cells lists.left lists.unspent lists.held lists.older body inner frames s.heap tokens
        → ComesTo body inner frames tokens input s fs left

  -- A turn behind an opening that has left the token of a construction: its lines go on behind that one's test. The code stands at
  -- other lines, which would test the token, and these are lines of its own too.
  pub record IsFilling (code : Tokened) (inner : List TokenJoin) (frames : List TokenFrame) (tokens : Tokens) (input : List ℕ)
      (s : Spot) (fs : List (Frame Line)) (left : List Line) : Type 0 where
    pub x : ℕ
    pub y : ℕ
    pub fill : FillThere x y code
    pub there : List Line
    pub at : At code inner frames tokens input s fs there
    pub q : ℕ
    pub has : tokens.slots (length at.lists.older) y ≡ token q
    pub after : List Line
    pub left_is : left ≡ copies_to (at.shape.variables + y) x ∷ acts (Jump at.does.placed.low) [] ∷ after
    pub before : List Line
    pub place : s.frame.whole ≡ before ++ left
    pub stands : StandsAt at.shape.root before
        (tree code (copies_to (at.shape.variables + y) x ∷ acts (Jump at.does.placed.low) [] ∷ []) no_part)

  -- A spot where no line does the next step of the machine with tokens, or one does that before it too, or one goes on in the midst
  -- of the lines of that step.
  pub record Near (code : Tokened) (inner : List TokenJoin) (frames : List TokenFrame) (tokens : Tokens) (input : List ℕ) (s : Spot)
      (fs : List (Frame Line)) (left : List Line) : Type 0 where
    pub follows : Follows program.pool program.layout s.address s.owners s.heap s.world.cells
    pub near : IsBehind code inner frames tokens input s fs left
        ⊎ (GivesUp code inner frames tokens input s fs left ⊎ IsFilling code inner frames tokens input s fs left)

  -- a turn at such a spot
  abbrev pub IsNear : Tokened → Environment → List TokenJoin → TokenConfiguration → List ℕ → AsmTurn World Ending → Type 0
  IsNear code environment inner c input turn = IsTurnWith (Near code inner c.frames c.tokens input) environment c.heap turn

  -- The run has ended, and the cells hold the heap. Where it has come to its end no token is left.
  pub record HasEnded (by : End) (heap : Heap) (turn : AsmTurn World Ending) : Type 0 where
    pub world : World
    pub turn_is : turn ≡ ended (exited (exit_of by)) world
    pub address : ℕ → ℕ
    pub owners : ℕ → Owner
    pub follows : Follows program.pool program.layout address owners heap world.cells
    pub none : by ≡ well → NoneAside owners

  abbrev pub StandsFor : TokenControl → TokenConfiguration → List ℕ → AsmTurn World Ending → Type 0
  StandsFor (TokenControl.running code environment inner) c input turn = IsAt code environment inner c input turn
  StandsFor (TokenControl.stopped by) c input turn = HasEnded by c.heap turn
  StandsFor TokenControl.stuck c input turn = ⊥

  -- the same, where the turn may also be near a comparison or a construction
  abbrev pub MayStandFor : TokenControl → TokenConfiguration → List ℕ → AsmTurn World Ending → Type 0
  MayStandFor (TokenControl.running code environment inner) c input turn =
      IsAt code environment inner c input turn ⊎ IsNear code environment inner c input turn
  MayStandFor (TokenControl.stopped by) c input turn = HasEnded by c.heap turn
  MayStandFor TokenControl.stuck c input turn = ⊥

  pub may_stand : (control : TokenControl) (c : TokenConfiguration) (input : List ℕ) (turn : AsmTurn World Ending)
      → StandsFor control c input turn → MayStandFor control c input turn
  may_stand (TokenControl.running code environment inner) c input turn stands = inl stands
  may_stand (TokenControl.stopped by) c input turn stands = stands
  may_stand TokenControl.stuck c input turn stands = stands

  -- the steps of the machine with tokens that may go by without a line
  abbrev pub idle_of : TokenControl → ℕ
  idle_of (TokenControl.running code environment inner) = forms code
  idle_of (TokenControl.stopped by) = 0
  idle_of TokenControl.stuck = 0

  -- What is asked of a state: that it is fit without its tokens, and that a construction keeps only fields that are the new ones.
  pub record IsFitWith (c : TokenConfiguration) : Type 0 where
    pub bare : IsFit program.layout (bare_configuration c)
    pub keeps : KeepsAt c c.control

  -- the same of all states of the run that come later
  abbrev pub IsFitFrom : TokenState → Type 0
  IsFitFrom s = (n : ℕ) → IsFitWith (state upper n s).machine

  -- What the heap has saved for drops is saved.
  pub record Related (credit idle : ℕ) (s : TokenState) (turn : AsmTurn World Ending) : Type 0 where
    pub credit_is : credit ≡ saved s.machine.heap
    pub idle_is : idle ≡ idle_of s.machine.control
    pub fit : IsFitFrom s
    pub stands : MayStandFor s.machine.control s.machine s.input turn

  -- a step of the machine with tokens is done
  abbrev pub Follow : ℕ → ℕ → ℕ → List Event × TokenState → AsmTurn World Ending → Type 0
  Follow cost credit idle next t = Reaches lower Related Passing pace (cost + credit) 1 idle next.0 next.1 t

  -- by steps with events
  pub arrives_near : (n cost most credit idle : ℕ) (events : List Event) (s : TokenState) (t u : AsmTurn World Ending)
      → weight_of lower n t ≤ cost → trace lower n t ≡ events → ((k : ℕ) → k < n → state lower k t ≢ stuck_turn)
      → state lower n t ≡ u → cost + saved s.machine.heap ≤ most + credit
      → suc (idle_of s.machine.control) ≤ n * pace + idle → IsFitFrom s
      → MayStandFor s.machine.control s.machine s.input u → Follow most credit idle (events, s) t
  arrives_near n cost most credit idle events s t u light told passes comes paid moves fit stands =
      record {
        steps = n;
        credit_after = saved s.machine.heap;
        idle_after = idle_of s.machine.control;
        paid = omega (arith, light, paid);
        moves = omega (arith, moves);
        events_are = told;
        passes = passes;
        related = record {
          credit_is = refl;
          idle_is = refl;
          fit = fit;
          stands = subst (MayStandFor s.machine.control s.machine s.input) (sym comes) stands;
        };
      }

  pub arrives : (n cost most credit idle : ℕ) (events : List Event) (s : TokenState) (t u : AsmTurn World Ending)
      → weight_of lower n t ≤ cost → trace lower n t ≡ events → ((k : ℕ) → k < n → state lower k t ≢ stuck_turn)
      → state lower n t ≡ u → cost + saved s.machine.heap ≤ most + credit
      → suc (idle_of s.machine.control) ≤ n * pace + idle → IsFitFrom s
      → StandsFor s.machine.control s.machine s.input u → Follow most credit idle (events, s) t
  arrives n cost most credit idle events s t u light told passes comes paid moves fit stands =
      arrives_near n cost most credit idle events s t u light told passes comes paid moves fit
      (may_stand s.machine.control s.machine s.input u stands)

  -- by lines that tell nothing
  pub by_lines : (n cost most credit idle : ℕ) (s : TokenState) (t u : AsmTurn World Ending) → Runs target cost n t u
      → cost + saved s.machine.heap ≤ most + credit → suc (idle_of s.machine.control) ≤ n * pace + idle → IsFitFrom s
      → StandsFor s.machine.control s.machine s.input u → Follow most credit idle ([], s) t
  by_lines n cost most credit idle s t u runs paid moves fit stands =
      arrives n cost most credit idle [] s t u runs.within runs.silent runs.passes runs.arrives paid moves fit stands

  -- by lines, or none, to a state that is near a comparison
  pub by_near : (n cost most credit idle : ℕ) (s : TokenState) (t u : AsmTurn World Ending) → Runs target cost n t u
      → cost + saved s.machine.heap ≤ most + credit → suc (idle_of s.machine.control) ≤ n * pace + idle → IsFitFrom s
      → MayStandFor s.machine.control s.machine s.input u → Follow most credit idle ([], s) t
  by_near n cost most credit idle s t u runs paid moves fit stands =
      arrives_near n cost most credit idle [] s t u runs.within runs.silent runs.passes runs.arrives paid moves fit stands

  -- lines do the step of a state
  abbrev pub Follows_step : ℕ → TokenState → AsmTurn World Ending → Type 0
  Follows_step idle s t = Follow ((upper).weight s) (saved s.machine.heap) idle ((upper).step s) t

-- where a label stands it is found
pub finds : (l : ℕ) (whole start left : List Line) → AreLinesFormed whole → whole ≡ start ++ (acts (Label l) [] ∷ left)
    → found_label l whole ≡ Some (acts (Label l) [] ∷ left)
finds l whole start left formed is =
    ap (found_label l) is ∙ label_found l start left (subst (λ lines. AreLinesFormed lines) is formed)
