-- The lines of forms that call no function and make no cell do the steps of the machine with tokens: numbers, operators, prints and
-- reads, and constructors without fields.
use Rattle.std.proofs.Common.{◌≡◌, ◌≢◌, ℕ, ◌+◌, ◌*◌, ◌<◌, ◌≤◌, inl, inr, Bool, false, not, List, [], ◌∷◌, ◌++◌, length, Option, Some, None, All, refl, sym, ◌∙◌, ap, subst, arith, append_assoc}
use Rattle.std.specs.Fmt.{signed_decimal}
use Rattle.kk_base.specs.Trace.{Event, output}
use Rattle.kk_syntax.specs.declared.operator.BinaryOperator.{BinaryOperator}
use Rattle.kk_syntax.specs.declared.operator.UnaryOperator.TheVariants.{Negate, Not}
use Rattle.kk_syntax.specs.declared.program.Form.{Form}
use Rattle.kk_syntax.specs.declared.program.Form.TheVariants.{Number, Unit as Nothing, ReadByte, PrintText, Unary, Binary, Print, Construct, Call}
use Rattle.kk_syntax.specs.Programs.{text_at}
use Rattle.kk_syntax.specs.Types.{TypeTree, int32, unit_type}
use Rattle.kk_syntax.specs.Typing.{bool, binary_type}
use Rattle.kk_source.specs.State.{Value, integer, unit, constant, Environment}
use Rattle.kk_source.specs.Live.{value_of}
use Rattle.kk_source.specs.Sound.{Within}
use Rattle.kk_source.specs.Actions.{print_step}
use Rattle.kk_source.specs.FormEffects.{truth, integer_of, unary_result, number_result, binary_result, byte_value, piece_of}
use Rattle.kk_counted.specs.Heaps.{Heap}
use Rattle.kk_counted.specs.Marks.{AreUnmarked}
use Rattle.kk_counted.specs.TokenKeeping.{Lists, IsJudged, ListsAfterForm, ListsAfter, AreKeptBy}
use Rattle.kk_counted.specs.TokenMachine.{bound_to}
use Rattle.kk_counted.specs.TokenRuns.{AllLead}
use Rattle.kk_counted.specs.TokenSpending.{AtForm}
use Rattle.kk_counted.specs.TokenStates.{TokenJoin, TokenFrame, TokenConfiguration, TokenState}
use Rattle.kk_counted.specs.TokenedCodes.{Tokened}
use Rattle.kk_counted.specs.Tokens.{Tokens}
use Rattle.rv_isa.specs.declared.asm.Operation.TheVariants as Op
use Rattle.rv_isa.specs.Arithmetic.{signed}
use Rattle.rv_isa.specs.AsmCode.{Line}
use Rattle.rv_isa.specs.Frames.{Frame, put}
use Rattle.cell_runtime.specs.Prints.{put_of}
use Rattle.cell_runtime.specs.World.{World, told_more}
use Rattle.rv_lower.specs.Lines.{unit_word}
use Rattle.rv_lower.proofs.Words.{truth_word}
use Rattle.rv_lower.proofs.PrintCosts.{some_digits, some_piece}
use Rattle.rv_lower.proofs.WordValues.{turn_at}
use Rattle.rv_lower.proofs.FormEffects.{put_same, put_other}
use Rattle.rv_lower.proofs.FormEffects as Performing
use Rattle.rv_lower.proofs.Runs.{Target as NumberTarget, word_cost, most_cost}
use Rattle.rv_lower.proofs.Runs as NumberRuns
use Rattle.rv_cells.specs.Layout.{word_in, FitsField}
use Rattle.rv_cells.specs.CountedCells.{Follows}
use Rattle.rv_cells.specs.declared.compare.Branching.{Branching}
use Rattle.rv_cells.specs.ComparisonBranch.{branch_of, MayJoin}
use Rattle.rv_cells.specs.TokenedLines.{CodeLines}
use Rattle.rv_cells.proofs.BoundVariables.{within_one, below_among}
use Rattle.rv_cells.proofs.FormPlaces.{Tree, Next, tree_in}
use Rattle.rv_cells.proofs.FormWords.{has_same, number_word, word_follows, IsPlainForm, put_some, is_true_of, fits_constant, bytes_behind, turns_are}
use Rattle.rv_cells.proofs.Runs.{turn_of}
use Rattle.rv_cells.proofs.Spots.{Spot, saved}
use Rattle.rv_cells.proofs.Values.{among_by, has_bound}
use Rattle.rv_cells.proofs.Comparisons.{plain_part, plain_own, tested_is, joined_from}
use Rattle.rv_cells.proofs.TokenBranches.{at_joined}
use Rattle.rv_cells.proofs.TokenCalls.{at_call}
use Rattle.rv_cells.proofs.TokenFrames.{slots_moved}
use Rattle.rv_cells.proofs.TokenLineCosts.{forms}
use Rattle.rv_cells.proofs.TokenContinuations.{token_at, machine_at, does_behind, CodeSteps, seen_action, does_by, kept_after}
use Rattle.rv_cells.proofs.TokenRelation.{held_values, Lowering, upper, At, IsFitFrom, arrives, Follows_step, lines_setting}

-- no token is held at a plain form, and the lists stay
holds_none : (form : Form) (arguments others unspent held : List ℕ) → IsPlainForm form arguments
    → AtForm form arguments others unspent held → held ≡ []
holds_none (Number n) arguments others unspent held plain is = is
holds_none Nothing arguments others unspent held plain is = is
holds_none ReadByte arguments others unspent held plain is = is
holds_none (PrintText how text) arguments others unspent held plain is = is
holds_none (Unary operator) arguments others unspent held plain is = is
holds_none (Binary operator) arguments others unspent held plain is = is
holds_none (Print how) arguments others unspent held plain is = is
holds_none (Construct c) [] others unspent held plain is = is
holds_none (Construct c) (a ∷ more) others unspent held plain is = absurd plain
holds_none (Call f) arguments others unspent held plain is = absurd plain

lists_stay : (form : Form) (arguments : List ℕ) (lists next : Lists) → IsPlainForm form arguments
    → ListsAfterForm form lists next → next ≡ lists
lists_stay (Number n) arguments lists next plain is = is
lists_stay Nothing arguments lists next plain is = is
lists_stay ReadByte arguments lists next plain is = is
lists_stay (PrintText how text) arguments lists next plain is = is
lists_stay (Unary operator) arguments lists next plain is = is
lists_stay (Binary operator) arguments lists next plain is = is
lists_stay (Print how) arguments lists next plain is = is
lists_stay (Construct c) arguments lists next plain is = is
lists_stay (Call f) arguments lists next plain is = absurd plain

-- where a print leads, whether it prints something or not
print_leads : (P : TokenConfiguration → Type 0) (piece : List ℕ) (to : TokenConfiguration) → AllLead P (print_step piece to) → P to
print_leads P [] to leads = leads
print_leads P (byte ∷ bytes) to leads = leads

module _ (program : Lowering) where
  abbrev pub numbers_target : NumberTarget
  numbers_target = record {
    constants = record { first = program.first; texts = program.constants };
    pool = program.pool;
    depth = program.depth;
    functions = program.functions;
  }

  -- ---- forms whose lines give a variable a value

  module _ (x : ℕ) (form : Form) (arguments others : List ℕ) (rest : Tokened) (is_plain : IsPlainForm form arguments) (idle : ℕ)
      (inner : List TokenJoin) (frames : List TokenFrame) (tokens : Tokens) (input : List ℕ) (s : Spot) (fs : List (Frame Line))
      (left : List Line) (idle_is : idle ≡ forms (Tokened.compute x form arguments others rest))
      (at : At program (Tokened.compute x form arguments others rest) inner frames tokens input s fs left)
      (fit : IsFitFrom program
      (token_at program (Tokened.compute x form arguments others rest) s.environment inner frames s.heap tokens input)) where
    abbrev pub form_state : TokenState
    form_state = token_at program (Tokened.compute x form arguments others rest) s.environment inner frames s.heap tokens input

    abbrev pub base : ℕ
    base = at.shape.variables + at.shape.slots

    abbrev pub form_own : List Line
    form_own = at.does.placed.lines.0

    abbrev pub form_rest : List Line
    form_rest = at.does.placed.lines.1 ++ at.does.placed.after

    -- where the variable has a value, the tokens are kept
    abbrev pub IsKept : Value → Type 0
    IsKept v =
        AreKeptBy program.pool.cells (ListsAfter (Tokened.compute x form arguments others rest) inner at.lists)
        (bound_to x v rest s.environment inner
        (machine_at program (Tokened.compute x form arguments others rest) s.environment inner frames s.heap tokens))

    -- the state where the variable has a value
    abbrev pub with_value : Value → List ℕ → TokenState
    with_value v input_left =
        token_at program rest (record { variable = x; value = v } ∷ s.environment) inner frames s.heap tokens input_left

    -- the lines of the rest, which is the part behind those of the form
    abbrev pub RestLines : Type 0
    RestLines =
        (are : CodeLines (lines_setting program at.shape) at.shape.variables at.does.goal at.does.placed.lines.2 rest at.does.placed.lines.1 at.does.placed.high)
        × Next (tree_in (lines_setting program at.shape) at.shape.variables at.does.goal at.does.placed.low (Tokened.compute x form arguments others rest) at.does.placed.own
        at.does.placed.high at.does.placed.lines) at.does.placed.lines.0
        (tree_in (lines_setting program at.shape) at.shape.variables at.does.goal at.does.placed.lines.2 rest at.does.placed.lines.1 at.does.placed.high are)

    pub at_value : RestLines → (v : Value) (n : ℕ) (events : List Event) (cells : ℕ → Option ℕ) (world : World) (input_left : List ℕ)
        (cost : ℕ) → cost ≤ most_cost
        → NumberRuns.Runs numbers_target cost n events
        (turn_at (s.frame.function, s.frame.whole) (form_own ++ form_rest) s.frame.cells s.frame.into fs s.world)
        (turn_at (s.frame.function, s.frame.whole) form_rest cells s.frame.into fs world)
        → ((z : ℕ) → z < at.shape.variables + at.shape.slots → z ≢ x → cells z ≡ s.frame.cells z)
        → cells x ≡ Some (word_in program.layout s.address v)
        → FitsField (at.shape.holds x) v → Within (length s.heap) v → IsKept v
        → (upper program).step form_state ≡ (events, with_value v input_left)
        → world.left ≡ input_left → world.cells ≡ s.world.cells → All (λ byte. byte < 256) input_left
        → Follows_step program idle form_state (turn_of left s.frame fs s.world)
    at_value rests v n events cells world input_left cost cheap run kept there fits within after is left_is cells_are bytes =
        let p = at.does.placed in
        let short = p.short in
        let variables = at.shape.variables in
        let low = p.numbered.0 in
        let w = word_in program.layout s.address v in
        let f = record s.frame { cells = cells } in
        let slots = tokens.slots (length at.lists.older) in
        let none : s.frame.held ≡ [] = at.has.held_is ∙ ap (held_values slots variables)
        (holds_none form arguments others at.lists.unspent at.lists.held is_plain at.judged.spends.0) in
        let parts : left ≡ form_own ++ form_rest
        = p.left_is ∙ ap (λ own. own ++ p.after) p.lines.7 ∙ append_assoc p.lines.0 p.lines.1 p.after in
        let first : turn_at (s.frame.function, s.frame.whole) (form_own ++ form_rest) s.frame.cells s.frame.into fs s.world
        ≡ turn_of left s.frame fs s.world
        = turns_are (form_own ++ form_rest) s.frame fs s.world none ∙ ap (λ ls. turn_of ls s.frame fs s.world) (sym parts) in
        let last : turn_at (s.frame.function, s.frame.whole) form_rest cells s.frame.into fs world ≡ turn_of form_rest f fs world
        = turns_are form_rest f fs world none in
        let ran : NumberRuns.Runs numbers_target cost n events (turn_of left s.frame fs s.world) (turn_of form_rest f fs world)
        = subst (λ u. NumberRuns.Runs numbers_target cost n events (turn_of left s.frame fs s.world) u) last
        (subst (λ t. NumberRuns.Runs numbers_target cost n events t (turn_at (s.frame.function, s.frame.whole) form_rest cells s.frame.into fs world))
        first run) in
        let place : s.frame.whole ≡ (p.before ++ form_own) ++ form_rest
        = p.place ∙ ap (λ ls. p.before ++ ls) parts ∙ sym (append_assoc p.before form_own form_rest) in
        let values = has_same (has_bound at.has.values x v (omega (arith, low)) fits within) cells
        (λ z among. elim (among_by x s.bound z among) [
          | inl e ↦ subst (λ y. cells y ≡ put x (Some w) s.frame.cells y) e (there ∙ sym (put_same x w s.frame.cells))
          | inr old ↦
              let less = below_among x s.bound z p.numbered.1.0 old in
              let under = at.has.values.below z old in
              kept z under (λ e. omega (arith, e, less)) ∙ sym (put_other x z w s.frame.cells (λ e. omega (arith, e, less)))
        ]) in
        does_by program idle form_state (with_value v input_left) events (turn_of left s.frame fs s.world) is fit
        (λ later. arrives program n cost ((upper program).weight form_state)
        (saved s.heap) idle events (with_value v input_left)
        (turn_of left s.frame fs s.world) (turn_of form_rest f fs world)
        ran.within ran.events_are ran.passes ran.arrives
        (omega (arith, cheap)) (omega (arith, idle_is)) later
        (record {
          spot = record s {
            bound = x ∷ s.bound;
            environment = record { variable = x; value = v } ∷ s.environment;
            frame = f;
            world = world;
          };
          fs = fs;
          left = form_rest;
          environment_is = refl;
          heap_is = refl;
          turn_is = refl;
          at = record {
            shape = at.shape;
            lists = at.lists;
            judged = subst (λ (l : Lists). IsJudged program.pool.cells l.left l.unspent l.held l.older rest inner frames s.heap
                tokens) (lists_stay form arguments at.lists after.0 is_plain after.1.0) after.1.1;
            does = does_behind program (Tokened.compute x form arguments others rest) inner frames tokens input s fs left at rest
                form_own p.lines.1 p.lines.2 rests.0 rests.1 s.frame.whole refl place (x ∷ s.bound)
                (within_one x s.bound) p.marked.1.1 p.numbered.1.1
                p.has.1 p.keeps.1.1 (omega arith);
            follows = subst (λ c. Follows program.pool program.layout s.address s.owners s.heap c) (sym cells_are) at.follows;
            cells = at.cells;
            stand = at.stand;
            has = record {
              values = values;
              below = λ z among. elim (among_by x s.bound z among) [
                | inl e ↦ omega (arith, e, low)
                | inr old ↦ at.has.below z old
              ];
              tokens = slots_moved at.has.tokens (λ y q is. refl)
                  (λ y few unspent. kept (variables + y) (omega (arith, few)) (λ e. omega (arith, e, low)));
              held_is = at.has.held_is;
              formed = at.has.formed;
              in_function = at.has.in_function;
            };
            waits = at.waits;
            input_is = left_is;
            bytes = bytes;
          };
        }))

    -- by what a form performs
    performed_value : RestLines → (t : TypeTree) (v : Value) (events : List Event) (world : World) (input_left : List ℕ)
        → Performing.Performs numbers_target form_own (at.shape.variables + at.shape.slots) x t v s.frame.cells s.world world events
        → at.shape.holds x ≡ false → IsKept v → (upper program).step form_state ≡ (events, with_value v input_left)
        → world.left ≡ input_left → world.cells ≡ s.world.cells → All (λ byte. byte < 256) input_left
        → Follows_step program idle form_state (turn_of left s.frame fs s.world)
    performed_value rests t v events world input_left performs plain after is left_is cells_are bytes =
        let shown = word_follows program.layout program.falsity program.truth_is s.address (length s.heap) t v performs.word
        performs.is in
        at_value rests v performs.steps events performs.cells' world input_left performs.cost performs.cheap
        (performs.runs (s.frame.function, s.frame.whole) form_rest s.frame.into fs) performs.kept (performs.there ∙ ap (λ w. Some w) (sym shown.0))
        (subst (λ b. FitsField b v) (sym plain) shown.1) shown.2 after is left_is cells_are bytes

    -- where no comparison is left to the rest
    plain_rest : branch_of form arguments at.does.placed.lines.3 ≡ None → RestLines
    plain_rest none =
        let p = at.does.placed in
        let part = plain_part (lines_setting program at.shape) at.shape.variables (branch_of form arguments p.lines.3) none at.does.goal p.lines.2 rest p.lines.1 p.high p.lines.5 in (
          part.0,
          record {
            way = 0 ∷ [];
            is_part = inl (ap (λ (t : Tree). record { way = 0 ∷ []; before = p.lines.0; inner = t }) part.1);
            code_is = refl;
          },
        )

  print_is : (piece : List ℕ) (to : TokenConfiguration) (input : List ℕ)
      → seen_action program (print_step piece to) input ≡ (put_of piece, record { machine = to; input = input })
  print_is [] to input = refl
  print_is (byte ∷ bytes) to input = refl

  reads : (x : ℕ) (arguments others : List ℕ) (rest : Tokened) (environment : Environment) (inner : List TokenJoin)
      (frames : List TokenFrame) (heap : Heap) (tokens : Tokens) (input : List ℕ)
      → (upper program).step
      (token_at program (Tokened.compute x ReadByte arguments others rest) environment inner frames heap tokens input)
      ≡ (
        Performing.read_events numbers_target input,
        token_at program rest (record { variable = x; value = byte_value (Performing.got numbers_target input) } ∷ environment)
            inner frames heap tokens (Performing.left_behind numbers_target input),
      )
  reads x arguments others rest environment inner frames heap tokens [] = refl
  reads x arguments others rest environment inner frames heap tokens (byte ∷ bytes) = refl

  -- an operator on two values, whose value a variable takes
  at_binary : (x : ℕ) (operator : BinaryOperator) (a b : ℕ) (others : List ℕ) (rest : Tokened) (idle : ℕ) (inner : List TokenJoin)
      (frames : List TokenFrame) (tokens : Tokens) (input : List ℕ) (s : Spot) (fs : List (Frame Line)) (left : List Line)
      → idle ≡ forms (Tokened.compute x (Binary operator) (a ∷ b ∷ []) others rest)
      → (at : At program (Tokened.compute x (Binary operator) (a ∷ b ∷ []) others rest) inner frames tokens input s fs left)
      → branch_of (Binary operator) (a ∷ b ∷ []) at.does.placed.lines.3 ≡ None
      → IsFitFrom program
      (token_at program (Tokened.compute x (Binary operator) (a ∷ b ∷ []) others rest) s.environment inner frames s.heap tokens input)
      → Follows_step program idle
      (token_at program (Tokened.compute x (Binary operator) (a ∷ b ∷ []) others rest) s.environment inner frames s.heap tokens
      input) (turn_of left s.frame fs s.world)
  at_binary x operator a b others rest idle inner frames tokens input s fs left idle_is at none fit =
      let p = at.does.placed in
      let base = at.shape.variables + at.shape.slots in
      let asked = plain_own (lines_setting program at.shape)
      at.shape.variables (branch_of (Binary operator) (a ∷ b ∷ []) p.lines.3) none p.low x (Binary operator) (a ∷ b ∷ []) others
      p.lines.0 p.lines.2 p.lines.4 in
      let first = (fit 0).bare.fits.0 in
      let second = (fit 0).bare.fits.1 in
      let bound_a = p.marked.0.0 in
      let bound_b = p.marked.0.1.0 in
      let low = p.numbered.0 in
      let same : number_result operator (signed first.0) (signed second.0)
      ≡ binary_result operator (value_of s.environment a) (value_of s.environment b)
      = ap (λ n. number_result operator n (signed second.0)) (sym (ap integer_of first.1))
      ∙ ap (λ n. number_result operator (integer_of (value_of s.environment a)) n) (sym (ap integer_of second.1)) in
      performed_value x (Binary operator) (a ∷ b ∷ []) others rest tt idle inner frames tokens input s fs left idle_is at fit
      (plain_rest x (Binary operator) (a ∷ b ∷ []) others rest tt idle inner frames tokens input s fs left idle_is at fit none)
      (binary_type operator) (binary_result operator (value_of s.environment a) (value_of s.environment b)) [] s.world input
      (subst (λ v. Performing.Performs numbers_target p.lines.0 base x (binary_type operator) v s.frame.cells s.world s.world [])
      same
      (Performing.binary_performs numbers_target base x operator a b first.0 second.0 p.lines.0 s.frame.cells s.world
      (omega (arith, low)) (below_among x s.bound a p.numbered.1.0 bound_a) (below_among x s.bound b p.numbered.1.0 bound_b)
      (number_word at.has.values a bound_a first) (number_word at.has.values b bound_b second) first.2 second.2 asked.0))
      p.marked.1.0.1
      (kept_after program (Tokened.compute x (Binary operator) (a ∷ b ∷ []) others rest) inner frames tokens input s fs left at
      tt refl)
      refl at.input_is refl at.bytes

  -- a comparison whose work the case behind it does, behind variables that are given up
  abbrev JoinsAt : ℕ → BinaryOperator → ℕ → ℕ → List ℕ → Branching → List ℕ → Tokened → Type 0
  JoinsAt x operator a b others branch ys rest =
      (idle : ℕ) (inner : List TokenJoin) (frames : List TokenFrame) (tokens : Tokens) (input : List ℕ) (s : Spot)
      (fs : List (Frame Line)) (left : List Line) → idle ≡ forms (Tokened.compute x (Binary operator) (a ∷ b ∷ []) others rest)
      → (at : At program (Tokened.compute x (Binary operator) (a ∷ b ∷ []) others rest) inner frames tokens input s fs left)
      → branch_of (Binary operator) (a ∷ b ∷ []) at.does.placed.lines.3 ≡ Some branch → AreUnmarked at.shape.holds ys
      → IsFitFrom program
      (token_at program (Tokened.compute x (Binary operator) (a ∷ b ∷ []) others rest) s.environment inner frames s.heap tokens input)
      → Follows_step program idle
      (token_at program (Tokened.compute x (Binary operator) (a ∷ b ∷ []) others rest) s.environment inner frames s.heap tokens
      input) (turn_of left s.frame fs s.world)

  at_comparison : (x : ℕ) (operator : BinaryOperator) (a b : ℕ) (others : List ℕ) (rest : Tokened) (branch : Branching) (idle : ℕ)
      (inner : List TokenJoin) (frames : List TokenFrame) (tokens : Tokens) (input : List ℕ) (s : Spot) (fs : List (Frame Line))
      (left : List Line) → idle ≡ forms (Tokened.compute x (Binary operator) (a ∷ b ∷ []) others rest)
      → (at : At program (Tokened.compute x (Binary operator) (a ∷ b ∷ []) others rest) inner frames tokens input s fs left)
      → branch_of (Binary operator) (a ∷ b ∷ []) at.does.placed.lines.3 ≡ Some branch
      → IsFitFrom program
      (token_at program (Tokened.compute x (Binary operator) (a ∷ b ∷ []) others rest) s.environment inner frames s.heap tokens input)
      → Follows_step program idle
      (token_at program (Tokened.compute x (Binary operator) (a ∷ b ∷ []) others rest) s.environment inner frames s.heap tokens
      input) (turn_of left s.frame fs s.world)
  at_comparison x operator a b others rest branch idle inner frames tokens input s fs left idle_is at joined fit =
      let from = joined_from operator a b at.does.placed.lines.3 branch joined in
      let case_is = tested_is at.shape.holds x rest (subst (λ t. MayJoin at.shape.holds t x rest) from.0 at.does.placed.lines.6) in
      subst (JoinsAt x operator a b others branch case_is.ys) (sym case_is.is)
      (λ idle inner frames tokens input s fs left idle_is at joined plain fit. at_joined program x operator a b others case_is.ys
      case_is.arms branch case_is.unnamed idle inner frames tokens input s fs left idle_is at joined from.1 plain fit)
      idle inner frames tokens input s fs left idle_is at joined case_is.plain fit

  pub at_plain : (x : ℕ) (form : Form) (arguments others : List ℕ) (rest : Tokened) → IsPlainForm form arguments
      → CodeSteps program (Tokened.compute x form arguments others rest)
  at_plain x (Number n) arguments others rest plain idle inner frames tokens input s fs left idle_is at fit =
      let p = at.does.placed in
      let lines = p.lines.4.0 in
      performed_value x (Number n) arguments others rest plain idle inner frames tokens input s fs left idle_is at fit
      (p.lines.5, record { way = 0 ∷ []; is_part = inl refl; code_is = refl }) int32
      (integer n) [] s.world input
      (Performing.sets_performs numbers_target (at.shape.variables + at.shape.slots) x lines.0 int32 (integer n) p.lines.0
      s.frame.cells s.world (ap integer (sym lines.1), lines.2) lines.3)
      p.marked.1.0.1
      (kept_after program (Tokened.compute x (Number n) arguments others rest) inner frames tokens input s fs left at tt refl)
      refl at.input_is refl at.bytes
  at_plain x Nothing arguments others rest plain idle inner frames tokens input s fs left idle_is at fit =
      let p = at.does.placed in
      performed_value x Nothing arguments others rest plain idle inner frames tokens input s fs left idle_is at fit
      (p.lines.5, record { way = 0 ∷ []; is_part = inl refl; code_is = refl }) unit_type unit
      [] s.world input
      (Performing.sets_performs numbers_target (at.shape.variables + at.shape.slots) x unit_word unit_type unit p.lines.0
      s.frame.cells s.world (refl, refl) p.lines.4.0)
      p.marked.1.0.1
      (kept_after program (Tokened.compute x Nothing arguments others rest) inner frames tokens input s fs left at tt refl)
      refl at.input_is refl at.bytes
  at_plain x ReadByte arguments others rest plain idle inner frames tokens input s fs left idle_is at fit =
      let p = at.does.placed in
      performed_value x ReadByte arguments others rest plain idle inner frames tokens input s fs left idle_is at fit
      (p.lines.5, record { way = 0 ∷ []; is_part = inl refl; code_is = refl }) int32
      (byte_value (Performing.got numbers_target input)) (Performing.read_events numbers_target input)
      (Performing.world_behind numbers_target input s.world) (Performing.left_behind numbers_target input)
      (Performing.read_performs numbers_target (at.shape.variables + at.shape.slots) x input p.lines.0 s.frame.cells s.world
      at.input_is at.bytes p.lines.4.0)
      p.marked.1.0.1
      (kept_after program (Tokened.compute x ReadByte arguments others rest) inner frames tokens input s fs left at tt refl
      (Performing.got numbers_target input))
      (reads x arguments others rest s.environment inner frames s.heap tokens input) refl refl
      (bytes_behind numbers_target input at.bytes)
  at_plain x (PrintText how text) arguments others rest plain idle inner frames tokens input s fs left idle_is at fit =
      let p = at.does.placed in
      let code = Tokened.compute x (PrintText how text) arguments others rest in
      let piece : List ℕ = piece_of how (text_at program.code.texts text) in
      let lines = p.lines.4.0 in
      let low = p.numbered.0 in
      let from = machine_at program code s.environment inner frames s.heap tokens in
      let to : TokenConfiguration = bound_to x unit rest s.environment inner from in
      performed_value x (PrintText how text) arguments others rest plain idle inner frames tokens input s fs left idle_is at fit
      (p.lines.5, record { way = 0 ∷ []; is_part = inl refl; code_is = refl })
      unit_type unit (put_of piece) (told_more (put_of piece) s.world) input
      (Performing.print_text_performs numbers_target (at.shape.variables + at.shape.slots) x piece lines.0 p.lines.0 s.frame.cells
      s.world (omega (arith, low)) lines.1 lines.2)
      p.marked.1.0.1
      (print_leads (AreKeptBy program.pool.cells (ListsAfter code inner at.lists)) piece to
      (kept_after program code inner frames tokens input s fs left at tt refl))
      (print_is piece to input) at.input_is refl at.bytes
  at_plain x (Unary Negate) [] others rest plain idle inner frames tokens input s fs left idle_is at fit = absurd (fit 0).bare.fits
  at_plain x (Unary Negate) (a ∷ b ∷ more) others rest plain idle inner frames tokens input s fs left idle_is at fit =
      absurd (fit 0).bare.fits
  at_plain x (Unary Negate) (a ∷ []) others rest plain idle inner frames tokens input s fs left idle_is at fit =
      let p = at.does.placed in
      let base = at.shape.variables + at.shape.slots in
      let number = (fit 0).bare.fits in
      let bound = p.marked.0.0 in
      let low = p.numbered.0 in
      performed_value x (Unary Negate) (a ∷ []) others rest plain idle inner frames tokens input s fs left idle_is at fit
      (p.lines.5, record { way = 0 ∷ []; is_part = inl refl; code_is = refl }) int32
      (unary_result Negate (value_of s.environment a)) [] s.world input
      (subst (λ v. Performing.Performs numbers_target p.lines.0 base x int32 (unary_result Negate v) s.frame.cells s.world s.world
      []) (sym number.1)
      (Performing.unary_performs_negate numbers_target base x a number.0 p.lines.0 s.frame.cells s.world (omega (arith, low))
      (below_among x s.bound a p.numbered.1.0 bound) (number_word at.has.values a bound number) number.2 p.lines.4.0))
      p.marked.1.0.1
      (kept_after program (Tokened.compute x (Unary Negate) (a ∷ []) others rest) inner frames tokens input s fs left at tt refl)
      refl at.input_is refl at.bytes
  at_plain x (Unary Not) [] others rest plain idle inner frames tokens input s fs left idle_is at fit = absurd (fit 0).bare.fits
  at_plain x (Unary Not) (a ∷ b ∷ more) others rest plain idle inner frames tokens input s fs left idle_is at fit =
      absurd (fit 0).bare.fits
  at_plain x (Unary Not) (a ∷ []) others rest plain idle inner frames tokens input s fs left idle_is at fit =
      let p = at.does.placed in
      let base = at.shape.variables + at.shape.slots in
      let lines = p.lines.4.0 in
      let truth_at = (fit 0).bare.fits in
      let b : Bool = truth_at.0 in
      let bound = p.marked.0.0 in
      let shown = word_follows program.layout program.falsity program.truth_is s.address (length s.heap) bool (truth b)
      (truth_word b) (b, refl, refl) in
      let turned : truth (not b) ≡ unary_result Not (value_of s.environment a)
      = ap (λ c. truth (not c)) (sym (is_true_of b)) ∙ ap (λ v. unary_result Not v) (sym truth_at.1) in
      performed_value x (Unary Not) (a ∷ []) others rest plain idle inner frames tokens input s fs left idle_is at fit
      (p.lines.5, record { way = 0 ∷ []; is_part = inl refl; code_is = refl }) bool
      (unary_result Not (value_of s.environment a)) [] s.world input
      (subst (λ v. Performing.Performs numbers_target p.lines.0 base x bool v s.frame.cells s.world s.world []) turned
      (Performing.unary_performs_not numbers_target base x a b lines.0 p.lines.0 s.frame.cells s.world
      (at.has.values.words a bound ∙ ap (λ v. Some (word_in program.layout s.address v)) truth_at.1 ∙ ap (λ w. Some w) shown.0)
      lines.1 lines.2))
      p.marked.1.0.1
      (kept_after program (Tokened.compute x (Unary Not) (a ∷ []) others rest) inner frames tokens input s fs left at tt refl)
      refl at.input_is refl at.bytes
  at_plain x (Binary operator) [] others rest plain idle inner frames tokens input s fs left idle_is at fit =
      absurd (fit 0).bare.fits
  at_plain x (Binary operator) (a ∷ []) others rest plain idle inner frames tokens input s fs left idle_is at fit =
      absurd (fit 0).bare.fits
  at_plain x (Binary operator) (a ∷ b ∷ c ∷ more) others rest plain idle inner frames tokens input s fs left idle_is at fit =
      absurd (fit 0).bare.fits
  at_plain x (Binary operator) (a ∷ b ∷ []) others rest plain idle inner frames tokens input s fs left idle_is at fit =
      by (branch_of (Binary operator) (a ∷ b ∷ []) at.does.placed.lines.3) refl
    where
      by : (o : Option Branching) → branch_of (Binary operator) (a ∷ b ∷ []) at.does.placed.lines.3 ≡ o
          → Follows_step program idle
          (token_at program (Tokened.compute x (Binary operator) (a ∷ b ∷ []) others rest) s.environment inner frames s.heap tokens
          input) (turn_of left s.frame fs s.world)
      by None none =
          at_binary x operator a b others rest idle inner frames tokens input s fs left idle_is at none fit
      by (Some branch) joined =
          at_comparison x operator a b others rest branch idle inner frames tokens input s fs left idle_is at joined fit
  at_plain x (Print how) [] others rest plain idle inner frames tokens input s fs left idle_is at fit = absurd (fit 0).bare.fits
  at_plain x (Print how) (a ∷ b ∷ more) others rest plain idle inner frames tokens input s fs left idle_is at fit =
      absurd (fit 0).bare.fits
  at_plain x (Print how) (a ∷ []) others rest plain idle inner frames tokens input s fs left idle_is at fit =
      let p = at.does.placed in
      let base = at.shape.variables + at.shape.slots in
      let code = Tokened.compute x (Print how) (a ∷ []) others rest in
      let number = (fit 0).bare.fits in
      let bound = p.marked.0.0 in
      let low = p.numbered.0 in
      let piece : List ℕ = piece_of how (signed_decimal (signed number.0)) in
      let from = machine_at program code s.environment inner frames s.heap tokens in
      let to : TokenConfiguration = bound_to x unit rest s.environment inner from in
      let events : List Event = output piece ∷ [] in
      let some : put_of piece ≡ events
      = put_some piece (some_piece how (signed_decimal (signed number.0)) (some_digits number.0 number.2)) in
      performed_value x (Print how) (a ∷ []) others rest plain idle inner frames tokens input s fs left idle_is at fit
      (p.lines.5, record { way = 0 ∷ []; is_part = inl refl; code_is = refl }) unit_type
      unit events (told_more events s.world) input
      (Performing.print_int_performs numbers_target base x a number.0 how p.lines.0 s.frame.cells s.world (omega (arith, low))
      (below_among x s.bound a p.numbered.1.0 bound) (number_word at.has.values a bound number) number.2 p.lines.4.0)
      p.marked.1.0.1
      (print_leads (AreKeptBy program.pool.cells (ListsAfter code inner at.lists))
      (piece_of how (signed_decimal (integer_of (value_of s.environment a)))) to
      (kept_after program code inner frames tokens input s fs left at tt refl))
      (ap (λ v. seen_action program (print_step (piece_of how (signed_decimal (integer_of v))) to) input) number.1
      ∙ print_is piece to input ∙ ap (λ es. (es, record { machine = to; input = input })) some)
      at.input_is refl at.bytes
  at_plain x (Construct c) (a ∷ more) others rest plain idle inner frames tokens input s fs left idle_is at fit = absurd plain
  at_plain x (Construct c) [] others rest plain idle inner frames tokens input s fs left idle_is at fit =
      let p = at.does.placed in
      let word = 2 * program.layout.tag c + 1 in
      at_value x (Construct c) [] others rest plain idle inner frames tokens input s fs left idle_is at fit
      (p.lines.5, record { way = 0 ∷ []; is_part = inl refl; code_is = refl }) (constant c) 1 []
      (put x (Some word) s.frame.cells) s.world input word_cost (omega arith)
      (subst (λ own. NumberRuns.Runs numbers_target word_cost 1 []
      (turn_at (s.frame.function, s.frame.whole) (own ++ (p.lines.1 ++ p.after)) s.frame.cells s.frame.into fs s.world)
      (turn_at (s.frame.function, s.frame.whole) (p.lines.1 ++ p.after) (put x (Some word) s.frame.cells) s.frame.into fs s.world)) (sym p.lines.4.0)
      (NumberRuns.compute_runs numbers_target (s.frame.function, s.frame.whole) (Op.Li word) [] x
      (p.lines.1 ++ p.after) s.frame.cells s.frame.into fs s.world [] word (omega arith) refl refl))
      (λ z less other. put_other x z word s.frame.cells other) (put_same x word s.frame.cells)
      (fits_constant (at.shape.holds x) c) tt
      (kept_after program (Tokened.compute x (Construct c) [] others rest) inner frames tokens input s fs left at tt refl)
      refl at.input_is refl at.bytes
  at_plain x (Call f) arguments others rest plain idle inner frames tokens input s fs left idle_is at fit = absurd plain

  -- ---- any form, where constructions with fields are done

  pub at_compute : ((x c a : ℕ) (more others : List ℕ) (rest : Tokened)
      → CodeSteps program (Tokened.compute x (Construct c) (a ∷ more) others rest)) → (x : ℕ) (form : Form)
      (arguments others : List ℕ) (rest : Tokened) → CodeSteps program (Tokened.compute x form arguments others rest)
  at_compute makes x (Number n) arguments others rest = at_plain x (Number n) arguments others rest tt
  at_compute makes x Nothing arguments others rest = at_plain x Nothing arguments others rest tt
  at_compute makes x ReadByte arguments others rest = at_plain x ReadByte arguments others rest tt
  at_compute makes x (PrintText how text) arguments others rest = at_plain x (PrintText how text) arguments others rest tt
  at_compute makes x (Unary operator) arguments others rest = at_plain x (Unary operator) arguments others rest tt
  at_compute makes x (Binary operator) arguments others rest = at_plain x (Binary operator) arguments others rest tt
  at_compute makes x (Print how) arguments others rest = at_plain x (Print how) arguments others rest tt
  at_compute makes x (Construct c) [] others rest = at_plain x (Construct c) [] others rest tt
  at_compute makes x (Construct c) (a ∷ more) others rest = makes x c a more others rest
  at_compute makes x (Call f) arguments others rest = at_call program x f arguments others rest
