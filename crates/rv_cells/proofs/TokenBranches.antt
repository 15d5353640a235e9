-- A comparison and the case behind it are one branch: the machine with tokens does the comparison at no line, and the case at the
-- branch. And an opening may go on in the midst of the lines of the construction behind it.
use Rattle.std.proofs.Common.{◌≡◌, ◌⊎◌, inl, inr, ℕ, zero, suc, ◌+◌, ◌≤◌, Bool, true, false, not, List, [], ◌∷◌, ◌++◌, length, Some, refl}
use Rattle.std.proofs.Common.{sym, ◌∙◌, ap, subst, arith, append_assoc}
use Rattle.std.specs.Prelude.{if◌then◌else◌}
use Rattle.std.proofs.lemmas.List.{append-nil}
use Rattle.std.proofs.Math.Path.{path_j}
use Rattle.kk_syntax.specs.declared.operator.BinaryOperator.{BinaryOperator}
use Rattle.kk_syntax.specs.declared.program.Form.TheVariants.{Binary}
use Rattle.kk_source.specs.Actions.{goes}
use Rattle.kk_source.specs.FormEffects.{truth, integer_of, number_result, binary_result}
use Rattle.kk_source.specs.Live.{value_of}
use Rattle.kk_source.specs.Matching.{and_then}
use Rattle.kk_source.specs.State.{Value, integer, unit, constant, place as cell_place, Environment}
use Rattle.kk_core.specs.Decisions.{chosen}
use Rattle.kk_core.specs.Truths.{truth_decisions}
use Rattle.kk_core.proofs.Truths.{truth_chosen}
use Rattle.kk_counted.specs.BareForms.{bare}
use Rattle.kk_counted.specs.Heaps.{Heap, cell_at, drop_value}
use Rattle.kk_counted.specs.TokenKeeping.{Lists, IsJudged, ListsAfter, AreKeptBy}
use Rattle.kk_counted.specs.TokenMachine.{tokened_arm_at, token_case_step, token_code_step, at_code as to_code, to_heap}
use Rattle.kk_counted.specs.TokenRuns.{AllLead}
use Rattle.kk_counted.specs.TokenStates.{TokenJoin, TokenFrame, TokenControl, TokenState}
use Rattle.kk_counted.specs.TokenedCodes.{Tokened, TokenedArms}
use Rattle.kk_counted.specs.Tokens.{token, Tokens}
use Rattle.kk_counted.proofs.KeptFields.{keeps_fills}
use Rattle.kk_counted.proofs.TokenSteps.{follows}
use Rattle.rv_isa.specs.declared.asm.Action.TheVariants.{Label, Jump, Branch}
use Rattle.rv_isa.specs.Arithmetic.{signed}
use Rattle.rv_isa.specs.AsmCode.{Line}
use Rattle.rv_isa.specs.AsmMachine.{AsmTurn}
use Rattle.rv_isa.specs.Frames.{Frame}
use Rattle.rv_isa.specs.Processor.{Ending}
use Rattle.cell_runtime.specs.World.{World}
use Rattle.cell_runtime.specs.Operations.{compares}
use Rattle.rv_lower.specs.Lines.{copies_to, acts}
use Rattle.rv_cells.specs.declared.compare.Branching.{Branching}
use Rattle.rv_cells.specs.ComparisonBranch.{branch_unless, branch_of, names, names_behind, arms_name_behind}
use Rattle.std.proofs.lemmas.Bool.{or_parts}
use Rattle.kk_syntax.specs.Shapes.{is_among}
use Rattle.kk_counted.specs.Lowerable.{AreNumbered}
use Rattle.kk_counted.specs.Marks.{CellMarks, AreUnmarked, HasMark}
use Rattle.rv_cells.specs.Layout.{FitsField}
use Rattle.rv_cells.specs.CountedCells.{Follows}
use Rattle.rv_cells.specs.TokenedLines.{HasSlots, Keeps, CodeLines}
use Rattle.rv_cells.specs.CountedLines.{Setting}
use Rattle.rv_cells.proofs.ChainedTokens.{at_tokens}
use Rattle.rv_cells.proofs.CellActions.{label_runs, falls_runs, branch_runs}
use Rattle.rv_cells.proofs.BoundVariables.{within_one}
use Rattle.rv_cells.proofs.Comparisons.{IsDecided, decided, values_stay, drops_before, drops_marked, drops_numbered, drops_slots}
use Rattle.rv_cells.proofs.Comparisons.{drops_keep, drops_forms, IsJoined, joined_lines, given_up}
use Rattle.rv_cells.proofs.FormPlaces.{Tree, tree, IsPart, StandsAt, arms_in, tree_behind, tree_in, stands_behind}
use Rattle.rv_cells.proofs.FormPlaces.{stands_behind_three}
use Rattle.rv_cells.proofs.FormWords.{number_word}
use Rattle.rv_cells.proofs.LineCosts.{most_moves, leading_cost}
use Rattle.rv_cells.proofs.UnnamedVariables.{first_spared, marked_without, numbered_fewer, drops_or_not}
use Rattle.rv_cells.proofs.Runs.{turn_of, Runs, runs_none, runs_then, runs_within}
use Rattle.rv_cells.proofs.Spots.{Spot, saved}
use Rattle.rv_cells.proofs.Values.{among_by, value_same}
use Rattle.rv_cells.proofs.TokenCases.{ArmAt, arm_stands, arm_first, arm_part, arm_bare, arm_short, arm_numbered, arm_marked}
use Rattle.rv_cells.proofs.TokenCases.{arm_slots, arm_keeps, tree_moved, case_there}
use Rattle.rv_cells.proofs.TokenFills.{fills_behind}
use Rattle.rv_cells.proofs.TokenContinuations.{machine_at, token_at, at_here, near_here, steps_at, at_other, seen_action, does_by, kept_after}
use Rattle.rv_cells.proofs.TokenLineCosts.{forms}
use Rattle.rv_cells.proofs.TokenRelation.{Lowering, target, texts, setting, upper, At, GivesUp, ComesTo, IsAhead, IsBehind, IsFilling, Near, IsNear}
use Rattle.rv_cells.proofs.TokenRelation.{MayStandFor, IsFitFrom, by_near, finds, Follows_step}

-- ---- arms

-- a truth is no cell
truth_fits : (b : Bool) → FitsField false (truth b)
truth_fits true = tt
truth_fits false = tt

-- what an arm names behind its first step
arm_behind : (arms : TokenedArms) (row : ℕ) (body : Tokened) → tokened_arm_at arms row ≡ Some body → (x : ℕ)
    → arms_name_behind x arms ≡ false → names_behind x body ≡ false
arm_behind TokenedArms.no_arm row body is x none = cc is
arm_behind (TokenedArms.arm one more) zero body is x none =
    let same : one ≡ body = cc is in
    subst (λ b. names_behind x b ≡ false) same (or_parts (names_behind x one) (arms_name_behind x more) none).0
arm_behind (TokenedArms.arm one more) (suc row) body is x none =
    arm_behind more row body is x (or_parts (names_behind x one) (arms_name_behind x more) none).1

-- ---- values that are given up

-- a value that is no cell is given up by nothing
nothing_dropped : (v : Value) (heap : Heap) → FitsField false v → drop_value v heap ≡ Some heap
nothing_dropped (integer n) heap plain = refl
nothing_dropped unit heap plain = refl
nothing_dropped (constant c) heap plain = refl
nothing_dropped (cell_place name) heap plain = absurd plain

-- the way to a case gives up such values
all_ahead : (program : Lowering) (environment : Environment) (x : ℕ) (arms : TokenedArms) (bound ys : List ℕ) (marks : CellMarks)
    (holds : ℕ → Bool) (result given : Bool) → AreUnmarked holds ys
    → HasMark marks holds result bound given (bare (drops_before ys (Tokened.case x truth_decisions arms)))
    → ((z : ℕ) → holds z ≡ false → is_among bound z ≡ true → FitsField false (value_of environment z))
    → IsAhead program environment x arms (drops_before ys (Tokened.case x truth_decisions arms))
all_ahead program environment x arms bound [] marks holds result given plain marked fits = (refl, (refl, refl))
all_ahead program environment x arms bound (y ∷ ys) marks holds result given plain marked fits = (
  fits y plain.0 marked.0,
  all_ahead program environment x arms bound ys marks holds result given plain.1 marked.1 fits,
)

module _ (program : Lowering) where
  -- No line gives it up, and the lists stay.
  module _ (y : ℕ) (rest : Tokened) (inner : List TokenJoin) (frames : List TokenFrame) (tokens : Tokens) (input : List ℕ)
      (s : Spot) (lists : Lists) (plain : FitsField false (value_of s.environment y))
      (judged : IsJudged program.pool.cells lists.left lists.unspent lists.held lists.older (Tokened.drop y rest) inner frames
      s.heap tokens)
      (fit : IsFitFrom program (token_at program (Tokened.drop y rest) s.environment inner frames s.heap tokens input)) where
    drop_step : token_code_step (setting program) (Tokened.drop y rest) s.environment inner
        (machine_at program (Tokened.drop y rest) s.environment inner frames s.heap tokens)
        ≡ goes (machine_at program rest s.environment inner frames s.heap tokens)
    drop_step =
        ap (λ o. goes (to_heap o (machine_at program (Tokened.drop y rest) s.environment inner frames s.heap tokens)
        (to_code rest s.environment inner (machine_at program (Tokened.drop y rest) s.environment inner frames s.heap tokens))))
        (nothing_dropped (value_of s.environment y) s.heap plain)

    drop_judged : IsJudged program.pool.cells lists.left lists.unspent lists.held lists.older rest inner frames s.heap tokens
    drop_judged =
        let code = Tokened.drop y rest in
        let from = machine_at program code s.environment inner frames s.heap tokens in
        let kept = subst (AllLead (AreKeptBy program.pool.cells (ListsAfter code inner lists))) drop_step
        ((follows (setting program) program.spends lists code s.environment inner from judged
        (keeps_fills true from (TokenControl.running code s.environment inner) (fit 0).keeps) refl).keeps) in
        subst (λ (l : Lists). IsJudged program.pool.cells l.left l.unspent l.held l.older rest inner frames s.heap tokens)
        kept.1.0 kept.1.1

    drop_idle : (idle : ℕ) (fs : List (Frame Line)) (left : List Line) → idle ≡ forms (Tokened.drop y rest)
        → MayStandFor program (TokenControl.running rest s.environment inner)
        (machine_at program rest s.environment inner frames s.heap tokens) input (turn_of left s.frame fs s.world)
        → Follows_step program idle (token_at program (Tokened.drop y rest) s.environment inner frames s.heap tokens input)
        (turn_of left s.frame fs s.world)
    drop_idle idle fs left idle_is stands =
        let start : TokenState = token_at program (Tokened.drop y rest) s.environment inner frames s.heap tokens input in
        let end : TokenState = token_at program rest s.environment inner frames s.heap tokens input in
        let t = turn_of left s.frame fs s.world in
        does_by program idle start end [] t (ap (λ action. seen_action program action input) drop_step) fit
        (λ later. by_near program 0 0 ((upper program).weight start) (saved s.heap) idle end t t (runs_none (target program) t)
        (omega arith) (omega (arith, idle_is)) later stands)

  gives_up_step : (y : ℕ) (rest : Tokened) (inner : List TokenJoin) (frames : List TokenFrame) (tokens : Tokens) (input : List ℕ)
      (s : Spot) (fs : List (Frame Line)) (left : List Line) (idle : ℕ) (lists : Lists)
      → FitsField false (value_of s.environment y)
      → IsJudged program.pool.cells lists.left lists.unspent lists.held lists.older (Tokened.drop y rest) inner frames s.heap tokens
      → (IsJudged program.pool.cells lists.left lists.unspent lists.held lists.older rest inner frames s.heap tokens
      → At program rest inner frames tokens input s fs left)
      → idle ≡ forms (Tokened.drop y rest)
      → IsFitFrom program (token_at program (Tokened.drop y rest) s.environment inner frames s.heap tokens input)
      → Follows_step program idle (token_at program (Tokened.drop y rest) s.environment inner frames s.heap tokens input)
      (turn_of left s.frame fs s.world)
  gives_up_step y rest inner frames tokens input s fs left idle lists plain judged at idle_is fit =
      let later = drop_judged y rest inner frames tokens input s lists plain judged fit in
      drop_idle y rest inner frames tokens input s lists plain judged fit idle fs left idle_is (inl (at_here program (at later)))

  -- ---- the case

  -- where a code stands, or what comes behind a variable that it gives up, its state is stood for
  reached : (body : Tokened) (inner : List TokenJoin) (frames : List TokenFrame) (tokens : Tokens) (input : List ℕ) (s : Spot)
      (fs : List (Frame Line)) (there : List Line) → Follows program.pool program.layout s.address s.owners s.heap s.world.cells
      → At program body inner frames tokens input s fs there ⊎ GivesUp program body inner frames tokens input s fs there
      → MayStandFor program (TokenControl.running body s.environment inner)
      (machine_at program body s.environment inner frames s.heap tokens) input (turn_of there s.frame fs s.world)
  reached body inner frames tokens input s fs there holds (inl at) = inl (at_here program at)
  reached body inner frames tokens input s fs there holds (inr gives) =
      inr (near_here program body inner frames tokens input s fs there holds (inr (inl gives)))

  -- behind a comparison a case comes to its arm
  case_step : (x : ℕ) (arms : TokenedArms) (test : Bool) (idle : ℕ) (inner : List TokenJoin) (frames : List TokenFrame)
      (tokens : Tokens) (input : List ℕ) (s : Spot) (fs : List (Frame Line)) (left : List Line) (lists : Lists)
      → value_of s.environment x ≡ truth test
      → Follows program.pool program.layout s.address s.owners s.heap s.world.cells
      → ((body : Tokened) → tokened_arm_at arms (if test then 0 else 1) ≡ Some body
      → IsJudged program.pool.cells lists.left lists.unspent lists.held lists.older body inner frames s.heap tokens
      → ComesTo program body inner frames tokens input s fs left)
      → IsJudged program.pool.cells lists.left lists.unspent lists.held lists.older (Tokened.case x truth_decisions arms) inner
      frames s.heap tokens
      → idle ≡ forms (Tokened.case x truth_decisions arms)
      → IsFitFrom program
      (token_at program (Tokened.case x truth_decisions arms) s.environment inner frames s.heap tokens input)
      → Follows_step program idle
      (token_at program (Tokened.case x truth_decisions arms) s.environment inner frames s.heap tokens input)
      (turn_of left s.frame fs s.world)
  case_step x arms test idle inner frames tokens input s fs left lists truth_is holds comes judged idle_is fit =
      let code = Tokened.case x truth_decisions arms in
      let row : ℕ = if test then 0 else 1 in
      let from = machine_at program code s.environment inner frames s.heap tokens in
      let choice : chosen (cell_at s.heap) (value_of s.environment x) truth_decisions ≡ Some row
      = ap (λ v. chosen (cell_at s.heap) v truth_decisions) truth_is ∙ truth_chosen (cell_at s.heap) test in
      let there = case_there (and_then (chosen (cell_at s.heap) (value_of s.environment x) truth_decisions) (tokened_arm_at arms))
      s.environment inner from input (fit 1).bare.going in
      let body = there.0 in
      let arm : tokened_arm_at arms row ≡ Some body
      = sym (ap (λ o. and_then o (tokened_arm_at arms)) choice) ∙ there.1 in
      let step : token_code_step (setting program) code s.environment inner from
      ≡ goes (machine_at program body s.environment inner frames s.heap tokens)
      = ap (λ o. token_case_step o s.environment inner from) there.1 in
      let kept = subst (AllLead (AreKeptBy program.pool.cells (ListsAfter code inner lists))) step
      ((follows (setting program) program.spends lists code s.environment inner from judged
      (keeps_fills true from (TokenControl.running code s.environment inner) (fit 0).keeps) refl).keeps) in
      let judged_too = subst (λ (l : Lists). IsJudged program.pool.cells l.left l.unspent l.held l.older body inner frames s.heap
      tokens) kept.1.0 kept.1.1 in
      let come = comes body arm judged_too in
      let few = arm_short arms row body arm in
      let start : TokenState = token_at program code s.environment inner frames s.heap tokens input in
      let end : TokenState = token_at program body s.environment inner frames s.heap tokens input in
      let t0 = turn_of left s.frame fs s.world in
      let t1 = turn_of come.there s.frame fs s.world in
      does_by program idle start end [] t0 (ap (λ action. seen_action program action input) step) fit
      (λ later. by_near program come.steps leading_cost ((upper program).weight start) (saved s.heap) idle end t0 t1 come.runs
      (omega arith)
      (omega (arith, few, idle_is)) later (reached body inner frames tokens input s fs come.there holds come.stands))

  -- so is each step on the way to it
  behind_step : (code : Tokened) (idle : ℕ) (inner : List TokenJoin) (frames : List TokenFrame) (tokens : Tokens) (input : List ℕ)
      (s : Spot) (fs : List (Frame Line)) (left : List Line) → IsBehind program code inner frames tokens input s fs left
      → idle ≡ forms code → IsFitFrom program (token_at program code s.environment inner frames s.heap tokens input)
      → Follows_step program idle (token_at program code s.environment inner frames s.heap tokens input)
      (turn_of left s.frame fs s.world)
  behind_step (Tokened.drop y rest) idle inner frames tokens input s fs left is idle_is fit =
      drop_idle y rest inner frames tokens input s is.lists is.ahead.0 is.judged fit idle fs left idle_is (inr
      (near_here program rest inner frames tokens input s fs left is.follows
      (inl (record {
        x = is.x;
        arms = is.arms;
        test = is.test;
        lists = is.lists;
        ahead = is.ahead.1;
        truth_is = is.truth_is;
        follows = is.follows;
        judged = drop_judged y rest inner frames tokens input s is.lists is.ahead.0 is.judged fit;
        has = is.has;
        comes = is.comes;
      }))))
  behind_step (Tokened.case y decisions others) idle inner frames tokens input s fs left is idle_is fit =
      let same : Tokened.case is.x truth_decisions is.arms ≡ Tokened.case y decisions others
      = sym (λ i. Tokened.case (is.ahead.0 i) (is.ahead.1.0 i) (is.ahead.1.1 i)) in
      subst (λ c. IsJudged program.pool.cells is.lists.left is.lists.unspent is.lists.held is.lists.older c inner frames s.heap
      tokens
      → idle ≡ forms c → IsFitFrom program (token_at program c s.environment inner frames s.heap tokens input)
      → Follows_step program idle (token_at program c s.environment inner frames s.heap tokens input)
      (turn_of left s.frame fs s.world)) same
      (case_step is.x is.arms is.test idle inner frames tokens input s fs left is.lists is.truth_is is.follows is.comes) is.judged
      idle_is fit
  behind_step (Tokened.give y) idle inner frames tokens input s fs left is idle_is fit = absurd is.ahead
  behind_step (Tokened.tail_call f arguments) idle inner frames tokens input s fs left is idle_is fit = absurd is.ahead
  behind_step (Tokened.compute y form arguments others rest) idle inner frames tokens input s fs left is idle_is fit =
      absurd is.ahead
  behind_step (Tokened.inside y block rest) idle inner frames tokens input s fs left is idle_is fit = absurd is.ahead
  behind_step (Tokened.read y c fields rest) idle inner frames tokens input s fs left is idle_is fit = absurd is.ahead
  behind_step (Tokened.open_cell y c fields used z rest) idle inner frames tokens input s fs left is idle_is fit = absurd is.ahead
  behind_step (Tokened.if_unique y c fields used z rest) idle inner frames tokens input s fs left is idle_is fit = absurd is.ahead
  behind_step (Tokened.dup y rest) idle inner frames tokens input s fs left is idle_is fit = absurd is.ahead
  behind_step (Tokened.fill y z c first arguments kept others rest) idle inner frames tokens input s fs left is idle_is fit =
      absurd is.ahead
  behind_step (Tokened.free y rest) idle inner frames tokens input s fs left is idle_is fit = absurd is.ahead
  behind_step (Tokened.null y rest) idle inner frames tokens input s fs left is idle_is fit = absurd is.ahead
  behind_step (Tokened.move to of rest) idle inner frames tokens input s fs left is idle_is fit = absurd is.ahead
  behind_step (Tokened.hold y rest) idle inner frames tokens input s fs left is idle_is fit = absurd is.ahead
  behind_step (Tokened.unhold y rest) idle inner frames tokens input s fs left is idle_is fit = absurd is.ahead
  behind_step (Tokened.if_token y there absent) idle inner frames tokens input s fs left is idle_is fit = absurd is.ahead

  -- a state near a comparison or a construction is stepped
  near_at : (code : Tokened) (idle : ℕ) (inner : List TokenJoin) (frames : List TokenFrame) (tokens : Tokens) (input : List ℕ)
      (s : Spot) (fs : List (Frame Line)) (left : List Line)
      → IsBehind program code inner frames tokens input s fs left
      ⊎ (GivesUp program code inner frames tokens input s fs left ⊎ IsFilling program code inner frames tokens input s fs left)
      → idle ≡ forms code → IsFitFrom program (token_at program code s.environment inner frames s.heap tokens input)
      → Follows_step program idle (token_at program code s.environment inner frames s.heap tokens input)
      (turn_of left s.frame fs s.world)
  near_at code idle inner frames tokens input s fs left (inl is) idle_is fit =
      behind_step code idle inner frames tokens input s fs left is idle_is fit
  near_at code idle inner frames tokens input s fs left (inr (inl is)) idle_is fit =
      subst (λ c. idle ≡ forms c → IsFitFrom program (token_at program c s.environment inner frames s.heap tokens input)
      → Follows_step program idle (token_at program c s.environment inner frames s.heap tokens input)
      (turn_of left s.frame fs s.world)) (sym is.code_is)
      (gives_up_step is.y is.rest inner frames tokens input s fs left idle is.lists is.plain is.judged is.at) idle_is fit
  near_at code idle inner frames tokens input s fs left (inr (inr is)) idle_is fit =
      let f = is.fill in
      let fill = Tokened.fill is.x is.y f.c f.first f.arguments f.kept f.others f.rest in
      path_j (λ (c : Tokened) (same : fill ≡ c). (at : At program c inner frames tokens input s fs is.there)
      → tokens.slots (length at.lists.older) is.y ≡ token is.q
      → left ≡ copies_to (at.shape.variables + is.y) is.x ∷ acts (Jump at.does.placed.low) [] ∷ is.after → idle ≡ forms c
      → IsFitFrom program (token_at program c s.environment inner frames s.heap tokens input)
      → Follows_step program idle (token_at program c s.environment inner frames s.heap tokens input)
      (turn_of left s.frame fs s.world))
      (λ at has left_is same fits.
      subst (λ ls. Follows_step program idle (token_at program fill s.environment inner frames s.heap tokens input)
      (turn_of ls s.frame fs s.world)) (sym left_is)
      (fills_behind program is.x is.y f.c f.first f.arguments f.kept f.others f.rest idle inner frames tokens input s fs is.there
      same at fits is.q has is.after))
      f.is is.at is.has is.left_is idle_is fit

  pub near_step : (code : Tokened) (environment : Environment) (inner : List TokenJoin) (frames : List TokenFrame) (heap : Heap)
      (tokens : Tokens) (input : List ℕ) (idle : ℕ) (t : AsmTurn World Ending) → idle ≡ forms code
      → IsFitFrom program (token_at program code environment inner frames heap tokens input)
      → IsNear program code environment inner (machine_at program code environment inner frames heap tokens) input t
      → Follows_step program idle (token_at program code environment inner frames heap tokens input) t
  near_step code environment inner frames heap tokens input idle t idle_is fit is =
      steps_at program (Near program code inner frames tokens input) code environment inner frames heap tokens input idle t is
      (near_at code idle inner frames tokens input is.spot is.fs is.left is.at.near idle_is) fit

-- ---- the comparison

module _ (program : Lowering) (x : ℕ) (operator : BinaryOperator) (a b : ℕ) (others ys : List ℕ) (arms : TokenedArms)
    (branch : Branching) (unnamed : arms_name_behind x arms ≡ false) (idle : ℕ) (inner : List TokenJoin)
    (frames : List TokenFrame) (tokens : Tokens) (input : List ℕ) (s : Spot) (fs : List (Frame Line)) (left : List Line)
    (idle_is : idle
    ≡ forms (Tokened.compute x (Binary operator) (a ∷ b ∷ []) others (drops_before ys (Tokened.case x truth_decisions arms))))
    (at : At program (Tokened.compute x (Binary operator) (a ∷ b ∷ []) others
    (drops_before ys (Tokened.case x truth_decisions arms))) inner frames tokens input s fs left)
    (joined : branch_of (Binary operator) (a ∷ b ∷ []) at.does.placed.lines.3 ≡ Some branch)
    (decides : branch_unless operator a b ≡ Some branch)
    (plain_ys : AreUnmarked at.shape.holds ys)
    (fit : IsFitFrom program
    (token_at program (Tokened.compute x (Binary operator) (a ∷ b ∷ []) others
    (drops_before ys (Tokened.case x truth_decisions arms))) s.environment inner frames s.heap tokens input)) where
  abbrev lines_setting : Setting
  lines_setting = record {
    layout = program.layout;
    holds = at.shape.holds;
    base = at.shape.variables + at.shape.slots;
    texts = texts program;
    standing = at.shape.standing;
  }

  abbrev middle : ℕ
  middle = at.does.placed.lines.2

  abbrev after : List Line
  after = at.does.placed.after

  abbrev rest_tree : Tree
  rest_tree = tree_behind (record {
    layout = program.layout;
    holds = at.shape.holds;
    base = at.shape.variables + at.shape.slots;
    texts = texts program;
    standing = at.shape.standing;
  }) at.shape.variables (branch_of (Binary operator) (a ∷ b ∷ []) at.does.placed.lines.3) at.does.goal at.does.placed.lines.2
      (drops_before ys (Tokened.case x truth_decisions arms)) at.does.placed.lines.1 at.does.placed.high at.does.placed.lines.5

  abbrev value : Value
  value = binary_result operator (value_of s.environment a) (value_of s.environment b)

  abbrev later_spot : Spot
  later_spot = record s {
    environment = record {
      variable = x;
      value = binary_result operator (value_of s.environment a) (value_of s.environment b);
    } ∷ s.environment;
  }

  parts : IsJoined lines_setting at.shape.variables at.does.goal at.does.placed.low middle at.does.placed.high x arms branch
      at.does.placed.lines.0 at.does.placed.lines.1 rest_tree
  parts = joined_lines lines_setting at.shape.variables (branch_of (Binary operator) (a ∷ b ∷ []) at.does.placed.lines.3) branch
      joined
      at.does.goal at.does.placed.low middle at.does.placed.high x (Binary operator) (a ∷ b ∷ []) others ys arms
      at.does.placed.lines.0 at.does.placed.lines.1 plain_ys at.does.placed.lines.4 at.does.placed.lines.5

  left_is : left ≡ parts.choice ++ (parts.bodies ++ after)
  left_is = at.does.placed.left_is
      ∙ ap (λ own. own ++ after) (at.does.placed.lines.7 ∙ ap (λ own. own ++ at.does.placed.lines.1) parts.own_is ∙ parts.more_is)
      ∙ append_assoc parts.choice parts.bodies after

  choice_at : s.frame.whole ≡ at.does.placed.before ++ (parts.choice ++ (parts.bodies ++ after))
  choice_at = at.does.placed.place ∙ ap (λ ls. at.does.placed.before ++ ls) left_is

  case_stands : StandsAt at.shape.root at.does.placed.before
      (tree (Tokened.case x truth_decisions arms) parts.all
      (arms_in lines_setting at.shape.variables at.does.goal middle parts.from arms parts.bodies at.does.placed.high 0 parts.choice
      parts.are))
  case_stands =
      let stands : StandsAt at.shape.root (at.does.placed.before ++ at.does.placed.lines.0) rest_tree
      = stands_behind at.does.placed.stands (record { way = 0 ∷ []; is_part = inl refl; code_is = refl }) in
      parts.stands at.shape.root at.does.placed.before
      (subst (λ bs. StandsAt at.shape.root bs rest_tree)
      (ap (λ own. at.does.placed.before ++ own) parts.own_is ∙ append-nil at.does.placed.before) stands)

  -- the words that are compared
  verdict : IsDecided operator (fit 0).bare.fits.0.0 (fit 0).bare.fits.1.0 s.frame.cells branch
  verdict =
      let first = (fit 0).bare.fits.0 in
      let second = (fit 0).bare.fits.1 in
      decided operator a b first.0 second.0 s.frame.cells branch
      (number_word at.has.values a at.does.placed.marked.0.0 first)
      (number_word at.has.values b at.does.placed.marked.0.1.0 second) first.2 second.2 decides

  value_is : value ≡ truth verdict.test
  value_is =
      let first = (fit 0).bare.fits.0 in
      let second = (fit 0).bare.fits.1 in
      ap (λ v. number_result operator (integer_of v) (integer_of (value_of s.environment b))) first.1
      ∙ ap (λ v. number_result operator (signed first.0) (integer_of v)) second.1 ∙ verdict.value

  x_plain : at.shape.holds x ≡ false
  x_plain = at.does.placed.marked.1.0.1

  value_fits : FitsField false (value_of later_spot.environment x)
  value_fits =
      subst (FitsField false) (sym (value_same x x value s.environment refl ∙ value_is)) (truth_fits verdict.test)

  bound_fits : (z : ℕ) → at.shape.holds z ≡ false → is_among (x ∷ s.bound) z ≡ true
      → FitsField false (value_of later_spot.environment z)
  bound_fits z plain is = elim (among_by x s.bound z is) [
    | inl e ↦ subst (λ w. FitsField false (value_of later_spot.environment w)) e value_fits
    | inr old ↦ subst (λ t. FitsField t (value_of later_spot.environment z)) plain
        ((values_stay at.has.values x value at.does.placed.numbered.1.0).fits z old)
  ]

  -- the arm of a row, to whose label the branch leads
  module _ (row : ℕ) (body : Tokened) (arm_is : tokened_arm_at arms row ≡ Some body) where
    abbrev stands : ArmAt lines_setting at.shape.variables at.does.goal (middle + row) body parts.bodies
    stands = arm_stands (record {
      layout = program.layout;
      holds = at.shape.holds;
      base = at.shape.variables + at.shape.slots;
      texts = texts program;
      standing = at.shape.standing;
    }) at.shape.variables at.does.goal at.does.placed.lines.2 parts.from at.does.placed.high row arms parts.bodies body parts.are
        arm_is

    abbrev label : Line
    label = acts (Label (at.does.placed.lines.2 + row)) []

    abbrev behind : List Line
    behind = stands.first ++ (stands.rest ++ at.does.placed.after)

    bodies_are : parts.bodies ++ after ≡ stands.before ++ (label ∷ behind)
    bodies_are = ap (λ ls. ls ++ after) stands.is
        ∙ append_assoc stands.before (label ∷ (stands.first ++ stands.rest)) after
        ∙ ap (λ ls. stands.before ++ (label ∷ ls)) (append_assoc stands.first stands.rest after)

    place : s.frame.whole ≡ ((at.does.placed.before ++ parts.choice) ++ stands.before) ++ (label ∷ behind)
    place = choice_at ∙ ap (λ ls. at.does.placed.before ++ (parts.choice ++ ls)) bodies_are
        ∙ sym (append_assoc at.does.placed.before parts.choice (stands.before ++ (label ∷ behind)))
        ∙ sym (append_assoc (at.does.placed.before ++ parts.choice) stands.before (label ∷ behind))

    -- from the label the arm comes
    arm_runs : Runs (target program) (most_moves + 3) 1 (turn_of left s.frame fs s.world)
        (turn_of (label ∷ behind) s.frame fs s.world)
        → Runs (target program) leading_cost 2 (turn_of left s.frame fs s.world) (turn_of behind s.frame fs s.world)
    arm_runs runs =
        runs_within (target program) ((most_moves + 3) + (most_moves + 0)) leading_cost 2 (turn_of left s.frame fs s.world)
        (turn_of behind s.frame fs s.world) (omega arith)
        (runs_then (target program) (most_moves + 3) (most_moves + 0) 1 1 (turn_of left s.frame fs s.world)
        (turn_of (label ∷ behind) s.frame fs s.world) (turn_of behind s.frame fs s.world) runs
        (label_runs (target program) behind s.frame fs s.world (middle + row)))

    body_stands : StandsAt at.shape.root (((at.does.placed.before ++ parts.choice) ++ stands.before) ++ (label ∷ []))
        (tree_in lines_setting at.shape.variables at.does.goal stands.low body stands.first stands.high stands.code)
    body_stands =
        let number : 0 + row ≡ row = omega arith in
        stands_behind_three case_stands parts.choice stands.before (label ∷ []) (record {
          way = row ∷ [];
          is_part = subst (λ n. IsPart (record {
            way = n ∷ [];
            before = (parts.choice ++ stands.before) ++ (label ∷ []);
            inner = tree_in lines_setting at.shape.variables at.does.goal stands.low body stands.first stands.high stands.code;
          }) (arms_in lines_setting at.shape.variables at.does.goal middle parts.from arms parts.bodies at.does.placed.high 0
              parts.choice parts.are)) number
              (arm_part lines_setting at.shape.variables at.does.goal middle parts.from at.does.placed.high 0 row arms parts.bodies
              parts.choice body parts.are arm_is);
          code_is = ap (λ o. and_then o (λ c. Some c)) (arm_bare arms row body arm_is);
        })

    body_marked : HasMark program.marks at.shape.holds at.shape.result (x ∷ s.bound) at.does.given (bare body)
    body_marked =
        arm_marked program.marks at.shape.holds at.shape.result at.does.given (x ∷ s.bound) arms row body arm_is
        (drops_marked program.marks at.shape.holds at.shape.result (x ∷ s.bound) at.does.given ys
        (Tokened.case x truth_decisions arms) at.does.placed.marked.1.1).1

    body_numbered : AreNumbered at.shape.variables (x ∷ s.bound) (bare body)
    body_numbered =
        arm_numbered at.shape.variables (x ∷ s.bound) arms row body arm_is
        (drops_numbered at.shape.variables (x ∷ s.bound) ys (Tokened.case x truth_decisions arms) at.does.placed.numbered.1.1)

    body_slots : HasSlots at.shape.slots body
    body_slots =
        arm_slots at.shape.slots arms row body arm_is
        (drops_slots at.shape.slots ys (Tokened.case x truth_decisions arms) at.does.placed.has.1)

    body_keeps : Keeps at.shape.standing body
    body_keeps =
        arm_keeps at.shape.standing arms row body arm_is
        (drops_keep at.shape.standing ys (Tokened.case x truth_decisions arms) at.does.placed.keeps.1.1)

    body_short : forms body ≤ program.most
    body_short =
        let few = at.does.placed.short in
        let short = arm_short arms row body arm_is in
        let some = drops_forms ys (Tokened.case x truth_decisions arms) in
        omega (arith, short, few, some)

    -- a code stands where the arm does
    stands_there : (next : Tokened)
        (lines : CodeLines lines_setting at.shape.variables at.does.goal stands.low next stands.first stands.high)
        → StandsAt at.shape.root (((at.does.placed.before ++ parts.choice) ++ stands.before) ++ (label ∷ []))
        (tree_in lines_setting at.shape.variables at.does.goal stands.low next stands.first stands.high lines)
        → HasMark program.marks at.shape.holds at.shape.result s.bound at.does.given (bare next)
        → AreNumbered at.shape.variables (x ∷ s.bound) (bare next) → HasSlots at.shape.slots next → Keeps at.shape.standing next
        → forms next ≤ program.most
        → IsJudged program.pool.cells at.lists.left at.lists.unspent at.lists.held at.lists.older next inner frames s.heap tokens
        → At program next inner frames tokens input later_spot fs behind
    stands_there next lines next_stands marked numbered has keeps short judged =
        at_other program
        (Tokened.compute x (Binary operator) (a ∷ b ∷ []) others (drops_before ys
        (Tokened.case x truth_decisions arms))) inner frames
        tokens input s fs left at next behind later_spot.environment s.frame.cells
        (record {
          before = ((at.does.placed.before ++ parts.choice) ++ stands.before) ++ (label ∷ []);
          own = stands.first;
          after = stands.rest ++ after;
          low = stands.low;
          high = stands.high;
          lines = lines;
          left_is = refl;
          place = place
              ∙ sym (append_assoc ((at.does.placed.before ++ parts.choice) ++ stands.before) (label ∷ []) behind);
          stands = next_stands;
          marked = marked;
          numbered = numbered_fewer at.shape.variables (bare next) (x ∷ s.bound) s.bound (within_one x s.bound) numbered;
          has = has;
          keeps = keeps;
          short = short;
        })
        judged (values_stay at.has.values x value at.does.placed.numbered.1.0) at.has.tokens

    -- an arm that does not name the variable
    apart_at : names x (bare body) ≡ false
        → IsJudged program.pool.cells at.lists.left at.lists.unspent at.lists.held at.lists.older body inner frames s.heap tokens
        → At program body inner frames tokens input later_spot fs behind
    apart_at none judged =
        stands_there body stands.code body_stands
        (marked_without program.marks at.shape.holds at.shape.result x (bare body) (x ∷ s.bound) s.bound at.does.given
        (first_spared x s.bound) none body_marked) body_numbered body_slots body_keeps body_short judged

    -- one that gives the variable up first
    gives_at : (rest : Tokened) → body ≡ Tokened.drop x rest → names x (bare rest) ≡ false
        → FitsField false (value_of later_spot.environment x)
        → IsJudged program.pool.cells at.lists.left at.lists.unspent at.lists.held at.lists.older body inner frames s.heap tokens
        → GivesUp program body inner frames tokens input later_spot fs behind
    gives_at rest body_is none fits judged =
        let lines = subst (λ c. CodeLines lines_setting at.shape.variables at.does.goal stands.low c stands.first stands.high)
        body_is stands.code in
        let there : StandsAt at.shape.root (((at.does.placed.before ++ parts.choice) ++ stands.before) ++ (label ∷ []))
        (tree_in lines_setting at.shape.variables at.does.goal stands.low (Tokened.drop x rest) stands.first stands.high lines)
        = subst (λ t. StandsAt at.shape.root (((at.does.placed.before ++ parts.choice) ++ stands.before) ++ (label ∷ [])) t)
        (sym (tree_moved lines_setting at.shape.variables at.does.goal stands.low stands.high stands.first body
        (Tokened.drop x rest) body_is stands.code)) body_stands in
        let later_lines = given_up lines_setting at.shape.variables at.does.goal stands.low stands.high x rest stands.first x_plain
        lines in
        record {
          y = x;
          rest = rest;
          lists = at.lists;
          code_is = body_is;
          plain = fits;
          follows = at.follows;
          judged = subst (λ c. IsJudged program.pool.cells at.lists.left at.lists.unspent at.lists.held at.lists.older c inner
              frames s.heap tokens) body_is judged;
          at = λ later. stands_there rest later_lines.0 (later_lines.1 at.shape.root
              (((at.does.placed.before ++ parts.choice) ++ stands.before) ++ (label ∷ [])) there)
              (marked_without program.marks at.shape.holds at.shape.result x (bare rest) (x ∷ s.bound) s.bound at.does.given
              (first_spared x s.bound) none
              (subst (λ c. HasMark program.marks at.shape.holds at.shape.result (x ∷ s.bound) at.does.given (bare c)) body_is
              body_marked).1)
              (subst (λ c. AreNumbered at.shape.variables (x ∷ s.bound) (bare c)) body_is body_numbered)
              (subst (HasSlots at.shape.slots) body_is body_slots) (subst (Keeps at.shape.standing) body_is body_keeps)
              (let few = body_short in let same = ap forms body_is in omega (arith, few, same)) later;
        }

    comes_at : FitsField false (value_of later_spot.environment x) → Runs (target program) (most_moves + 3) 1
        (turn_of left s.frame fs s.world) (turn_of (label ∷ behind) s.frame fs s.world)
        → IsJudged program.pool.cells at.lists.left at.lists.unspent at.lists.held at.lists.older body inner frames s.heap tokens
        → ComesTo program body inner frames tokens input later_spot fs left
    comes_at fits runs judged = record {
      there = behind;
      steps = 2;
      runs = arm_runs runs;
      stands = elim (drops_or_not x body (arm_behind arms row body arm_is x unnamed)) [
        | inl none ↦ inl (apart_at none judged)
        | inr gives ↦ inr (gives_at gives.0 gives.1.0 gives.1.1 fits judged)
      ];
    }

  abbrev branch_line : Line
  branch_line = acts (Branch branch.condition (at.does.placed.lines.2 + 1)) (branch.first ∷ branch.second ∷ [])

  line_first : left ≡ branch_line ∷ (parts.bodies ++ after)
  line_first = left_is ∙ ap (λ ls. ls ++ (parts.bodies ++ after)) parts.choice_is

  comes_by : (test : Bool) → compares branch.condition verdict.one verdict.other ≡ not test → (body : Tokened)
      → tokened_arm_at arms (if test then 0 else 1) ≡ Some body
      → IsJudged program.pool.cells at.lists.left at.lists.unspent at.lists.held at.lists.older body inner frames s.heap tokens
      → ComesTo program body inner frames tokens input later_spot fs left
  comes_by true not body arm_is judged =
      let bodies : parts.bodies ++ after ≡ label 0 body arm_is ∷ behind 0 body arm_is
      = bodies_are 0 body arm_is
      ∙ ap (λ ls. ls ++ (label 0 body arm_is ∷ behind 0 body arm_is))
      (arm_first lines_setting at.shape.variables at.does.goal middle parts.from at.does.placed.high arms parts.bodies body
      parts.are arm_is) in
      comes_at 0 body arm_is value_fits
      (subst (λ ls. Runs (target program) (most_moves + 3) 1 (turn_of ls s.frame fs s.world)
      (turn_of (label 0 body arm_is ∷ behind 0 body arm_is) s.frame fs s.world)) (sym line_first)
      (subst (λ ls. Runs (target program) (most_moves + 3) 1
      (turn_of (branch_line ∷ (parts.bodies ++ after)) s.frame fs s.world) (turn_of ls s.frame fs s.world)) bodies
      (falls_runs (target program) (parts.bodies ++ after) s.frame fs s.world branch.condition (middle + 1) branch.first
      branch.second verdict.one verdict.other verdict.one_is verdict.other_is not))) judged
  comes_by false holds body arm_is judged =
      comes_at 1 body arm_is value_fits
      (subst (λ ls. Runs (target program) (most_moves + 3) 1 (turn_of ls s.frame fs s.world)
      (turn_of (label 1 body arm_is ∷ behind 1 body arm_is) s.frame fs s.world)) (sym line_first)
      (branch_runs (target program) (parts.bodies ++ after) s.frame fs s.world branch.condition (middle + 1) branch.first
      branch.second verdict.one verdict.other (label 1 body arm_is ∷ behind 1 body arm_is) verdict.one_is
      verdict.other_is holds
      (finds (middle + 1) s.frame.whole
      ((at.does.placed.before ++ parts.choice) ++ (stands 1 body arm_is).before) (behind 1 body arm_is) at.has.formed
      (place 1 body arm_is)))) judged

  pub at_joined : Follows_step program idle
      (token_at program (Tokened.compute x (Binary operator) (a ∷ b ∷ []) others
      (drops_before ys (Tokened.case x truth_decisions arms))) s.environment
      inner frames s.heap tokens input) (turn_of left s.frame fs s.world)
  at_joined =
      let rest = drops_before ys (Tokened.case x truth_decisions arms) in
      let code = Tokened.compute x (Binary operator) (a ∷ b ∷ []) others rest in
      let start : TokenState = token_at program code s.environment inner frames s.heap tokens input in
      let end : TokenState = token_at program rest later_spot.environment inner frames s.heap tokens input in
      let t = turn_of left s.frame fs s.world in
      let kept = kept_after program code inner frames tokens input s fs left at tt refl in
      does_by program idle start end [] t refl fit
      (λ later. by_near program 0 0 ((upper program).weight start) (saved s.heap) idle end t t (runs_none (target program) t)
      (omega arith) (omega (arith, idle_is)) later
      (inr (near_here program rest inner frames tokens input later_spot fs left at.follows (inl (record {
        x = x;
        arms = arms;
        test = verdict.test;
        lists = at.lists;
        ahead = all_ahead program later_spot.environment x arms (x ∷ s.bound) ys program.marks at.shape.holds at.shape.result
            at.does.given plain_ys at.does.placed.marked.1.1 bound_fits;
        truth_is = value_same x x value s.environment refl ∙ value_is;
        follows = at.follows;
        judged = subst (λ (l : Lists). IsJudged program.pool.cells l.left l.unspent l.held l.older rest inner frames s.heap tokens)
            kept.1.0 kept.1.1;
        has = at_tokens program code inner frames tokens input s fs left at;
        comes = comes_by verdict.test verdict.opposite;
      })))))
