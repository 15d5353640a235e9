-- The lines of calls do the steps of the machine with tokens: the tokens of the function that calls are held, and the called one has
-- none.
use Rattle.std.proofs.Common.{◌≡◌, ℕ, zero, suc, ◌+◌, ◌*◌, ◌<◌, ◌≤◌, inl, inr, Bool, true, false, List, [], ◌∷◌, ◌++◌, length, Option, Some, None, nat_le, All, refl, sym, ◌∙◌, ap, subst, arith, append_assoc, mul-le-mul_right}
use Rattle.std.specs.Prelude.{if◌then◌else◌, slice_get}
use Rattle.std.proofs.lemmas.List.{append-nil, length-map}
use Rattle.kk_syntax.specs.Shapes.{is_among}
use Rattle.kk_syntax.specs.declared.program.Form.TheVariants.{Call}
use Rattle.kk_source.specs.State.{Value, Environment, ended as well, stack_full}
use Rattle.kk_source.specs.Live.{value_of}
use Rattle.kk_source.specs.Sound.{Within, AllWithin}
use Rattle.kk_source.specs.Step.{bind_parameters}
use Rattle.kk_source.specs.Actions.{Action, goes, calls, performed}
use Rattle.kk_counted.specs.TokenedCodes.{Tokened, TokenedFunction}
use Rattle.kk_counted.specs.CountedMachine.{NotStuck}
use Rattle.kk_counted.specs.TokenKeeping.{Lists, IsJudged, ListsAfter, AreKeptBy}
use Rattle.kk_counted.specs.TokenMachine.{token_at_end, in_body, token_tail_step, token_call_step, token_code_step}
use Rattle.kk_counted.specs.TokenRuns.{AllLead}
use Rattle.kk_counted.specs.TokenStates.{TokenFrame, TokenConfiguration, TokenState, bare_configuration}
use Rattle.kk_counted.specs.Tokens.{Slot, spent, token, is_unspent, Tokens}
use Rattle.kk_counted.proofs.TokenForms.{not_unspent}
use Rattle.kk_counted.specs.Keeping.{values_of}
use Rattle.kk_counted.specs.Marks.{parameter_marks, result_mark, HaveMarks}
use Rattle.kk_counted.specs.Spending.{AllAmong, numbers_from}
use Rattle.rv_isa.specs.declared.asm.Action.TheVariants.{Call as CallLine, TailCall}
use Rattle.rv_isa.specs.Processor.{Ending, exited}
use Rattle.rv_isa.specs.AsmCode.{Line, Lines}
use Rattle.rv_isa.specs.AsmMachine.{AsmTurn, bound as entry_bound, asm_entered}
use Rattle.rv_isa.specs.Frames.{Frame}
use Rattle.rv_isa.specs.Primitives.{ended}
use Rattle.cell_runtime.specs.declared.process.Ending.TheVariants as OfEnding
use Rattle.cell_runtime.specs.Stops.{number_of}
use Rattle.cell_runtime.specs.World.{World}
use Rattle.rv_lower.specs.Lines.{acts, copies, temporaries}
use Rattle.rv_lower.specs.Lowered.{returns, from_to}
use Rattle.rv_lower.proofs.Calls.{HaveWords, AreLess, words_read}
use Rattle.rv_lower.proofs.Orders.{split_at}
use Rattle.rv_cells.specs.Layout.{Layout, word_in, words_in, FitsField, FitFields}
use Rattle.rv_cells.specs.CountedCells.{Follows}
use Rattle.rv_cells.proofs.LineCosts.{most_moves, row_cost}
use Rattle.rv_cells.specs.TokenedLines.{IsFunctionOf}
use Rattle.rv_cells.proofs.Values.{HasValues, among_by}
use Rattle.rv_cells.proofs.Runs.{left_at, turn_of, Runs, runs_then}
use Rattle.rv_cells.proofs.CallLines.{temporaries_many, put_row, row_below, row_has, copies_run, has_parameters, call_runs, full_call_runs, tail_call_runs}
use Rattle.rv_cells.proofs.FormPlaces.{stands_itself}
use Rattle.rv_cells.proofs.Spots.{Spot, saved}
use Rattle.rv_cells.proofs.TokenRelation.{Placed, SlotIs, HaveSlotValues, HaveTokenCells, held_values, Shape, Lowering, target, texts, setting, upper, pace, root_in, IsRootOf, HasFrame, AllWait, At, by_lines, Follows_step}
use Rattle.rv_cells.proofs.TokenFrames.{slots_moved, as_many_wait}
use Rattle.rv_cells.proofs.BoundVariables.{within_one, all_among}
use Rattle.rv_cells.proofs.TokenContinuations.{token_at, at_here, does_behind, CodeSteps, seen_action, does_by, kept_after}

-- ---- arguments and parameters

-- values of a frame whose temporaries are written
has_row : {layout : Layout} {address : ℕ → ℕ} {holds : ℕ → Bool} {base next : ℕ} {bound : List ℕ} {environment : Environment}
    {values : ℕ → Option ℕ} → HasValues layout address holds base next bound environment values → (words : List ℕ)
    → HasValues layout address holds base next bound environment (put_row base words values)
has_row {base = base} {values = values} has words = record {
  below = has.below;
  words = λ z is. row_below base z words values (has.below z is) ∙ has.words z is;
  fits = has.fits;
  older = has.older;
}

fit_parts : (b : Bool) (marks : List Bool) (v : Value) (vs : List Value) → FitFields (b ∷ marks) (v ∷ vs)
    → FitsField b v × FitFields marks vs
fit_parts true marks v vs fits = (fits.0, fits.1)
fit_parts false marks v vs fits = (fits.0, fits.1)

parameter_fits : (holds : ℕ → Bool) (k n i : ℕ) (marks : List Bool) (vs : List Value) (v : Value)
    → HaveMarks holds (numbers_from k n) marks → FitFields marks vs → slice_get vs i ≡ Some v → FitsField (holds (k + i)) v
parameter_fits holds k n i [] [] v have fits is = cc is
parameter_fits holds k n i [] (u ∷ vs) v have fits is = absurd fits
parameter_fits holds k n i (mark ∷ marks) [] v have fits is = cc is
parameter_fits holds k zero i (mark ∷ marks) (u ∷ vs) v have fits is = absurd have
parameter_fits holds k (suc n) zero (mark ∷ marks) (u ∷ vs) v have fits is =
    let here : k + 0 ≡ k = omega arith in
    let same : u ≡ v = cc is in
    subst (λ w. FitsField (holds (k + 0)) w) same
    (subst (λ z. FitsField (holds z) u) (sym here) (subst (λ b. FitsField b u) (sym have.0) (fit_parts mark marks u vs fits).0))
parameter_fits holds k (suc n) (suc i) (mark ∷ marks) (u ∷ vs) v have fits is =
    let there : k + suc i ≡ suc k + i = omega arith in
    subst (λ z. FitsField (holds z) v) (sym there)
    (parameter_fits holds (suc k) n i marks vs v have.1 (fit_parts mark marks u vs fits).1 is)

within_index : (n i : ℕ) (vs : List Value) (v : Value) → AllWithin n vs → slice_get vs i ≡ Some v → Within n v
within_index n i [] v all is = cc is
within_index n zero (u ∷ vs) v all is = let same : u ≡ v = cc is in subst (Within n) same all.0
within_index n (suc i) (u ∷ vs) v all is = within_index n i vs v all.1 is

marks_length : (holds : ℕ → Bool) (xs : List ℕ) (marks : List Bool) → HaveMarks holds xs marks → length xs ≡ length marks
marks_length holds [] [] have = refl
marks_length holds [] (mark ∷ marks) have = absurd have
marks_length holds (x ∷ xs) [] have = absurd have
marks_length holds (x ∷ xs) (mark ∷ marks) have = ap suc (marks_length holds xs marks have.1)

numbers_length : (k n : ℕ) → length (numbers_from k n) ≡ n
numbers_length k zero = refl
numbers_length k (suc n) = ap suc (numbers_length (suc k) n)

tail_there : (o : Option TokenedFunction) (values : List Value) (from : TokenConfiguration) (input : List ℕ)
    → NotStuck (bare_configuration (performed (token_tail_step o values from) input).1.machine).control
    → (function : TokenedFunction) × (o ≡ Some function)
tail_there None values from input going = absurd going
tail_there (Some function) values from input going = (function, refl)

call_there : (program : Lowering) (o : Option TokenedFunction) (values : List Value) (waiting : TokenFrame)
    (from : TokenConfiguration) (input : List ℕ)
    → NotStuck (bare_configuration (performed (token_call_step (setting program) o values waiting from) input).1.machine).control
    → (function : TokenedFunction) × (o ≡ Some function)
call_there program None values waiting from input going = absurd going
call_there program (Some function) values waiting from input going = (function, refl)

row_four : (xs : List ℕ) → row_cost xs (most_moves + 2) ≡ 4 * length xs
row_four [] = refl
row_four (x ∷ xs) = let later = row_four xs in omega (arith, later)

among_from : (k n z : ℕ) → is_among (numbers_from k n) z ≡ true → z < k + n
among_from k zero z is = cc
among_from k (suc n) z is =
    elim (among_by k (numbers_from (suc k) n) z is) [
      | inl e ↦ omega (arith, e)
      | inr later ↦ (let low = among_from (suc k) n z later in omega (arith, low))
    ]

-- a function begins without tokens
no_slots : (address : ℕ → ℕ) (slots : ℕ → Slot) (variables count : ℕ) (values : ℕ → Option ℕ) → ((y : ℕ) → slots y ≡ spent)
    → HaveSlotValues address slots variables count values
no_slots address slots variables count values none = record {
  below = λ y is. let both : true ≡ false = sym is ∙ ap is_unspent (none y) in cc;
  are = λ y. subst (λ slot. SlotIs address slot (values (variables + y))) (sym (none y)) tt;
}

module _ {layout : Layout} {address : ℕ → ℕ} {holds : ℕ → Bool} {base next : ℕ} {bound : List ℕ} {environment : Environment}
    {values : ℕ → Option ℕ} (has : HasValues layout address holds base next bound environment values) where
  -- arguments have values of their marks, their words, and are below the temporaries
  pub arguments_fit : (xs : List ℕ) (marks : List Bool) → AllAmong xs bound → HaveMarks holds xs marks
      → FitFields marks (values_of environment xs)
  arguments_fit [] [] all have = tt
  arguments_fit [] (mark ∷ marks) all have = absurd have
  arguments_fit (x ∷ xs) [] all have = absurd have
  arguments_fit (x ∷ xs) (mark ∷ marks) all have =
      by mark (subst (λ b. FitsField b (value_of environment x)) have.0 (has.fits x all.0)) (arguments_fit xs marks all.1 have.1)
    where
      by : (b : Bool) → FitsField b (value_of environment x) → FitFields marks (values_of environment xs)
          → FitFields (b ∷ marks) (values_of environment (x ∷ xs))
      by true fits more = (fits, more)
      by false fits more = (fits, more)

  pub words_of : (xs : List ℕ) → AllAmong xs bound → HaveWords values xs (words_in layout address (values_of environment xs))
  words_of [] all = tt
  words_of (x ∷ xs) all = (has.words x all.0, words_of xs all.1)

  pub less_of : (xs : List ℕ) → AllAmong xs bound → AreLess xs base
  less_of [] all = tt
  less_of (x ∷ xs) all = (has.below x all.0, less_of xs all.1)

  pub older_of : (xs : List ℕ) → AllAmong xs bound → AllWithin next (values_of environment xs)
  older_of [] all = tt
  older_of (x ∷ xs) all = (has.older x all.0, older_of xs all.1)

module _ (program : Lowering) where
  -- ---- a function that is entered

  -- the shape of a function whose lines these are
  abbrev pub shape_of : (f : ℕ) (function : TokenedFunction) (lines : Lines)
      → IsFunctionOf program.layout (texts program) program.marks f function lines → Shape
  shape_of f function lines of = record {
    function = f;
    root = root_in program f function lines of;
    holds = of.lowered.holds;
    variables = of.lowered.variables;
    slots = of.lowered.slots;
    result = result_mark program.marks f;
    standing = of.lowered.standing;
  }

  -- its body is placed at all of them
  pub body_placed : (f : ℕ) (function : TokenedFunction) (lines : Lines)
      (of : IsFunctionOf program.layout (texts program) program.marks f function lines)
      → slice_get program.code.functions f ≡ Some function
      → Placed program (shape_of f function lines of) returns (result_mark program.marks f)
      (numbers_from 0 function.parameters) lines.code function.body lines.code
  body_placed f function lines of function_is = record {
    before = [];
    own = lines.code;
    after = [];
    low = 0;
    high = of.lowered.labels;
    lines = of.lowered.code;
    left_is = sym (append-nil lines.code);
    place = refl;
    stands = stands_itself (root_in program f function lines of);
    marked = of.marked.body_marked;
    numbered = of.numbered;
    has = of.has;
    keeps = of.lowered.keeps;
    short = program.short f function function_is;
  }

  module _ (s : Spot) (shape : Shape) (slots : ℕ → Slot) (held : List ℕ)
      (has : HasFrame program shape s.address (length s.heap) slots held s.bound s.environment s.frame) (f : ℕ) (xs : List ℕ)
      (all : AllAmong xs s.bound) (have : HaveMarks shape.holds xs (parameter_marks program.marks f)) (function : TokenedFunction)
      (lines : Lines) (of : IsFunctionOf program.layout (texts program) program.marks f function lines) where
    as_many : length (values_of s.environment xs) ≡ function.parameters
    as_many =
        length-map xs (value_of s.environment)
        ∙ marks_length shape.holds xs (parameter_marks program.marks f) have
        ∙ sym (marks_length of.lowered.holds (numbers_from 0 function.parameters) (parameter_marks program.marks f)
        of.marked.parameters_marked)
        ∙ numbers_length 0 function.parameters

    -- the words of the parameters
    record Entry : Type 0 where
      values : ℕ → Option ℕ
      is : entry_bound lines.params (words_in program.layout s.address (values_of s.environment xs)) ≡ Some values
      has_values : HasValues program.layout s.address of.lowered.holds (of.lowered.variables + of.lowered.slots) (length s.heap)
          (numbers_from 0 function.parameters) (bind_parameters 0 (values_of s.environment xs) []) values

    entry : Entry
    entry =
        let vs : List Value = values_of s.environment xs in
        let n = function.parameters in
        let many : length vs ≡ n = as_many in
        let few = of.few in
        let base = of.lowered.variables + of.lowered.slots in
        let fits = arguments_fit has.values xs (parameter_marks program.marks f) all have in
        let older = older_of has.values xs all in
        let made = has_parameters program.layout s.address of.lowered.holds base (length s.heap) vs (omega arith)
        (λ i v is. (
          (let same : 0 + i ≡ i = omega arith in
              subst (λ z. FitsField (of.lowered.holds z) v) same
              (parameter_fits of.lowered.holds 0 n i (parameter_marks program.marks f) vs v of.marked.parameters_marked fits is)),
          within_index (length s.heap) i vs v older is,
        )) in
        record {
          values = made.0;
          is = ap (λ params. entry_bound params (words_in program.layout s.address vs))
              (of.lowered.params ∙ ap (from_to 0) (sym many))
              ∙ made.1;
          has_values = subst (λ k. HasValues program.layout s.address of.lowered.holds base (length s.heap) (numbers_from 0 k)
              (bind_parameters 0 vs []) made.0) many made.2;
        }

    abbrev entered_spot : (ℕ → Option ℕ) → Spot
    entered_spot values = record s {
      bound = numbers_from 0 function.parameters;
      environment = bind_parameters 0 (values_of s.environment xs) [];
      frame = asm_entered f lines values;
    }

    -- its body is at its lines, without tokens
    body_at : (there : slice_get program.functions f ≡ Some lines)
        (function_is : slice_get program.code.functions f ≡ Some function)
        → IsRootOf program f (root_in program f function lines of)
        → (frames : List TokenFrame) (tokens : Tokens) (helds : List (List ℕ)) (input : List ℕ) (fs : List (Frame Line))
        → IsJudged program.pool.cells [] [] [] helds function.body [] frames s.heap tokens
        → ((y : ℕ) → tokens.slots (length helds) y ≡ spent)
        → Follows program.pool program.layout s.address s.owners s.heap s.world.cells
        → HaveTokenCells program.pool program.layout s.address s.owners s.heap tokens
        → AllWait program s.address (length s.heap) tokens.slots helds frames fs (result_mark program.marks f)
        → s.world.left ≡ input → All (λ byte. byte < 256) input
        → At program function.body [] frames tokens input (entered_spot entry.values) fs lines.code
    body_at there function_is root_is frames tokens helds input fs judged none stands cells waits input_is bytes =
        record {
          shape = shape_of f function lines of;
          lists = record { left = []; unspent = []; held = []; older = helds };
          judged = judged;
          does = record {
            goal = returns;
            given = result_mark program.marks f;
            placed = body_placed f function lines of function_is;
            continues = refl;
          };
          follows = stands;
          cells = cells;
          stand = λ y p has. let both : spent ≡ token p = sym (none y) ∙ has in cc both;
          has = record {
            values = entry.has_values;
            below = λ z is. (let low = among_from 0 function.parameters z is in let few = of.few in omega arith);
            tokens = no_slots s.address (tokens.slots (length helds)) of.lowered.variables of.lowered.slots entry.values none;
            held_is = refl;
            formed = program.formed f lines there;
            in_function = record { number = λ first. refl; whole_is = refl; root_is = root_is };
          };
          waits = waits;
          input_is = input_is;
          bytes = bytes;
        }

  -- ---- calls

  pub at_call : (x f : ℕ) (arguments others : List ℕ) (rest : Tokened) → CodeSteps program (Tokened.compute x (Call f) arguments others rest)
  at_call x f arguments others rest idle inner frames tokens input s fs left idle_is at fit =
      by_depth (nat_le program.depth (suc (length frames))) refl
    where
      by_depth : (full : Bool) → nat_le program.depth (suc (length frames)) ≡ full
          → Follows_step program idle
          (token_at program (Tokened.compute x (Call f) arguments others rest) s.environment inner frames s.heap tokens input)
          (turn_of left s.frame fs s.world)
      by_depth full test =
          let p = at.does.placed in
          let m = most_moves in
          let base = at.shape.variables + at.shape.slots in
          let args : List Value = values_of s.environment arguments in
          let ws = words_in program.layout s.address args in
          let code = Tokened.compute x (Call f) arguments others rest in
          let start : TokenState = token_at program code s.environment inner frames s.heap tokens input in
          let waiting : TokenFrame = record { variable = x; rest = rest; joins = inner; environment = s.environment } in
          let all = all_among arguments s.bound p.marked.0 in
          let there = call_there program (slice_get program.code.functions f) args waiting start.machine input (fit 1).bare.going in
          let function = there.0 in
          let low = program.lowered f function there.1 in
          let lines = low.0 in
          let of = low.2 in
          let slots = tokens.slots (length at.lists.older) in
          let entry_at = entry s at.shape slots at.lists.held at.has f arguments all p.marked.1.0.0 function lines of in
          let line : Line = record { action = CallLine f; args = temporaries base arguments; into = Some x } in
          let behind = p.lines.1 ++ p.after in
          let f1 = record s.frame { cells = put_row base ws s.frame.cells } in
          let f2 = record (left_at behind f1) { into = Some x } in
          let to = entered_spot s at.shape slots at.lists.held at.has f arguments all p.marked.1.0.0 function lines of entry_at.values in
          let t0 = turn_of left s.frame fs s.world in
          let t1 = turn_of (line ∷ behind) f1 fs s.world in
          let many : length arguments ≡ length ws = sym (length-map arguments (value_of s.environment))
          ∙ sym (length-map args (word_in program.layout s.address)) in
          let copied = copies_run (target program) (line ∷ behind) fs s.world arguments ws base s.frame
          (less_of at.has.values arguments all) (words_of at.has.values arguments all) in
          let reads = words_read f1.cells (temporaries base arguments) ws (row_has base arguments ws s.frame.cells many) in
          let is : left ≡ copies base arguments ++ (line ∷ behind)
          = p.left_is ∙ ap (λ own. own ++ p.after) (p.lines.7 ∙ ap (λ own. own ++ p.lines.1) p.lines.4.0)
          ∙ append_assoc (copies base arguments ++ (line ∷ [])) p.lines.1 p.after
          ∙ append_assoc (copies base arguments) (line ∷ []) behind in
          let as_deep = as_many_wait program s.address (length s.heap) tokens.slots at.lists.older frames fs at.shape.result at.waits in
          let depth_is : nat_le program.depth (length (f1 ∷ fs)) ≡ full
          = ap (λ n. nat_le program.depth (suc n)) as_deep.0 ∙ test in
          let place : s.frame.whole ≡ (p.before ++ p.lines.0) ++ behind
          = split_at s.frame.whole p.before left p.lines.0 p.lines.1 p.after p.place
          (p.left_is ∙ ap (λ own. own ++ p.after) p.lines.7) in
          let short = p.short in
          let waits : AllWait program s.address (length s.heap) tokens.slots (at.lists.held ∷ at.lists.older) (waiting ∷ frames)
          (f2 ∷ fs) (result_mark program.marks f) = (
            record {
              shape = at.shape;
              bound = s.bound;
              into = refl;
              below = p.numbered.0;
              kind = p.marked.1.0.1;
              nothing = p.keeps.0;
              does = does_behind program code inner frames tokens input s fs left at rest p.lines.0 p.lines.1 p.lines.2 p.lines.5
                  (record { way = 0 ∷ []; is_part = inl refl; code_is = refl }) s.frame.whole refl place (x ∷ s.bound)
                  (within_one x s.bound)
                  p.marked.1.1 p.numbered.1.1 p.has.1 p.keeps.1.1 (omega arith);
              has = record {
                values = has_row at.has.values ws;
                below = at.has.below;
                tokens = slots_moved at.has.tokens (λ y q is_token. refl)
                    (λ y few unspent. row_below base (at.shape.variables + y) ws s.frame.cells (omega (arith, few)));
                held_is = at.has.held_is;
                formed = at.has.formed;
                in_function = at.has.in_function;
              };
            },
            at.waits,
          ) in
          let few = program.short f function there.1 in
          let row = row_four arguments in
          let paces : 1 * pace program ≤ (length arguments + 1) * pace program = mul-le-mul_right (pace program) (omega arith) in
          let entered : TokenConfiguration = in_body function args (record start.machine { frames = waiting ∷ frames }) in
          let tell : Bool → Action TokenConfiguration
          = λ b. calls (suc (length frames)) (if b then token_at_end stack_full start.machine else entered) in
          let action_is : (b : Bool) → nat_le program.depth (suc (length frames)) ≡ b
          → token_code_step (setting program) code s.environment inner start.machine ≡ tell b
          = λ b e. ap (λ o. token_call_step (setting program) o args waiting start.machine) there.1 ∙ ap tell e in
          let step_is : (b : Bool) → nat_le program.depth (suc (length frames)) ≡ b
          → (upper program).step start ≡ seen_action program (tell b) input
          = λ b e. ap (λ action. seen_action program action input) (action_is b e) in
          let kept = kept_after program code inner frames tokens input s fs left at (fit 0).keeps refl in
          let handed = temporaries_many base arguments in
          let last_cost = 2 * length (temporaries base arguments) + 8 in
          let cost = row_cost arguments (m + 2) + last_cost in
          let whole_run : (u : AsmTurn World Ending) → Runs (target program) last_cost 1 t1 u
          → Runs (target program) cost (length arguments + 1) t0 u
          = λ u called. subst (λ ls. Runs (target program) cost (length arguments + 1) (turn_of ls s.frame fs s.world) u) (sym is)
          (runs_then (target program) (row_cost arguments (m + 2)) last_cost (length arguments) 1
          (turn_of (copies base arguments ++ (line ∷ behind)) s.frame fs s.world) t1 u copied called) in
          elim full as (λ b. nat_le program.depth (suc (length frames)) ≡ b → nat_le program.depth (length (f1 ∷ fs)) ≡ b
          → Follows_step program idle start t0) [
            | true ↦ λ e d.
                let next : TokenState = record { machine = token_at_end stack_full start.machine; input = input } in
                let u : AsmTurn World Ending = ended (exited (number_of OfEnding.StackFull)) s.world in
                does_by program idle start next [] t0 (step_is true e) fit
                (λ later. by_lines program (length arguments + 1) cost ((upper program).weight start) (saved s.heap) idle next t0 u
                (whole_run u (full_call_runs (target program) f1 fs s.world f
                (temporaries base arguments) ws lines entry_at.values behind
                reads low.1 entry_at.is x d))
                (omega arith) (omega (arith, paces)) later
                (record {
                  world = s.world;
                  turn_is = refl;
                  address = s.address;
                  owners = s.owners;
                  follows = at.follows;
                  none = λ same. absurd (not_well same);
                }))
            | false ↦ λ e d.
                let next : TokenState
                = token_at program function.body (bind_parameters 0 args []) [] (waiting ∷ frames) s.heap tokens input in
                let u = turn_of lines.code to.frame (f2 ∷ fs) s.world in
                let lists = subst (AllLead (AreKeptBy program.pool.cells (ListsAfter code inner at.lists))) (action_is false e) kept in
                let judged : IsJudged program.pool.cells [] [] [] (at.lists.held ∷ at.lists.older) function.body [] (waiting ∷ frames)
                s.heap tokens
                = subst (λ (l : Lists). IsJudged program.pool.cells l.left l.unspent l.held l.older function.body []
                (waiting ∷ frames) s.heap tokens) lists.1.0 lists.1.1 in
                does_by program idle start next [] t0 (step_is false e) fit
                (λ later. by_lines program (length arguments + 1) cost ((upper program).weight start) (saved s.heap) idle next t0 u
                (whole_run u (call_runs (target program) f1 fs s.world f
                (temporaries base arguments) ws lines entry_at.values behind
                reads low.1 entry_at.is x d))
                (omega arith) (omega (arith, few, paces)) later
                (at_here program
                (body_at s at.shape slots at.lists.held at.has f arguments all p.marked.1.0.0 function lines of low.1 there.1
                (function, (there.1, refl)) (waiting ∷ frames) tokens (at.lists.held ∷ at.lists.older) input (f2 ∷ fs) judged
                (λ y. at.judged.are.beyond (suc (length at.lists.older)) y (omega arith)) at.follows at.cells waits at.input_is
                at.bytes)))
          ] test depth_is
        where
          not_well : stack_full ≡ well → ⊥
          not_well e = cc

  -- ---- tail calls

  pub at_tail : (f : ℕ) (arguments : List ℕ) → CodeSteps program (Tokened.tail_call f arguments)
  at_tail f arguments idle inner frames tokens input s fs left idle_is at fit =
      let p = at.does.placed in
      let m = most_moves in
      let base = at.shape.variables + at.shape.slots in
      let vs : List Value = values_of s.environment arguments in
      let ws = words_in program.layout s.address vs in
      let code = Tokened.tail_call f arguments in
      let start : TokenState = token_at program code s.environment inner frames s.heap tokens input in
      let all = all_among arguments s.bound p.marked.0 in
      let there = tail_there (slice_get program.code.functions f) vs start.machine input (fit 1).bare.going in
      let function = there.0 in
      let low = program.lowered f function there.1 in
      let lines = low.0 in
      let of = low.2 in
      let slots = tokens.slots (length at.lists.older) in
      let nothing : s.frame.held ≡ [] = at.has.held_is ∙ ap (held_values slots at.shape.variables) at.judged.spends.0 in
      let entry_at = entry s at.shape slots at.lists.held at.has f arguments all p.marked.1.0 function lines of in
      let next : TokenState = token_at program function.body (bind_parameters 0 vs []) [] frames s.heap tokens input in
      let line = acts (TailCall f) (temporaries base arguments) in
      let f1 = record s.frame { cells = put_row base ws s.frame.cells } in
      let to = entered_spot s at.shape slots at.lists.held at.has f arguments all p.marked.1.0 function lines of entry_at.values in
      let t0 = turn_of left s.frame fs s.world in
      let t1 = turn_of (line ∷ p.after) f1 fs s.world in
      let t2 = turn_of lines.code to.frame fs s.world in
      let many : length arguments ≡ length ws = sym (length-map arguments (value_of s.environment))
      ∙ sym (length-map vs (word_in program.layout s.address)) in
      let copied = copies_run (target program) (line ∷ p.after) fs s.world arguments ws base s.frame
      (less_of at.has.values arguments all) (words_of at.has.values arguments all) in
      let called = tail_call_runs (target program) f1 fs s.world f (temporaries base arguments) ws lines entry_at.values p.after
      (words_read f1.cells (temporaries base arguments) ws (row_has base arguments ws s.frame.cells many)) low.1 entry_at.is
      nothing in
      let is : left ≡ copies base arguments ++ (line ∷ p.after)
      = p.left_is ∙ ap (λ own. own ++ p.after) p.lines.0 ∙ append_assoc (copies base arguments) (line ∷ []) p.after in
      let last_cost = 2 * length (temporaries base arguments) + 3 in
      let runs : Runs (target program) (row_cost arguments (m + 2) + last_cost) (length arguments + 1) t0 t2
      = subst (λ ls. Runs (target program) (row_cost arguments (m + 2) + last_cost) (length arguments + 1)
      (turn_of ls s.frame fs s.world) t2)
      (sym is)
      (runs_then (target program) (row_cost arguments (m + 2)) last_cost (length arguments) 1
      (turn_of (copies base arguments ++ (line ∷ p.after)) s.frame fs s.world) t1 t2 copied called) in
      let few = program.short f function there.1 in
      let row = row_four arguments in
      let handed = temporaries_many base arguments in
      let action_is : token_code_step (setting program) code s.environment inner start.machine
      ≡ goes (in_body function vs start.machine) = ap (λ o. token_tail_step o vs start.machine) there.1 in
      let lists = subst (AllLead (AreKeptBy program.pool.cells (ListsAfter code inner at.lists))) action_is
      (kept_after program code inner frames tokens input s fs left at (fit 0).keeps refl) in
      let judged : IsJudged program.pool.cells [] [] [] at.lists.older function.body [] frames s.heap tokens
      = subst (λ (l : Lists). IsJudged program.pool.cells l.left l.unspent l.held l.older function.body [] frames s.heap tokens)
      lists.1.0 lists.1.1 in
      let paces : 1 * pace program ≤ (length arguments + 1) * pace program = mul-le-mul_right (pace program) (omega arith) in
      does_by program idle start next [] t0
      (ap (λ action. seen_action program action input) action_is) fit
      (λ later. by_lines program (length arguments + 1) (row_cost arguments (m + 2) + last_cost) ((upper program).weight start)
      (saved s.heap)
      idle next t0 t2 runs (omega arith) (omega (arith, idle_is, few, paces)) later
      (at_here program
      (body_at s at.shape slots at.lists.held at.has f arguments all p.marked.1.0 function lines of low.1 there.1
      (function, (there.1, refl)) frames tokens at.lists.older input fs judged
      (λ y. not_unspent (slots y) (at.judged.slots_are y ∙ at.judged.spends.1 y)) at.follows at.cells
      (subst (AllWait program s.address (length s.heap) tokens.slots at.lists.older frames fs) (sym p.marked.1.1) at.waits)
      at.input_is at.bytes)))
