-- Runs of the assembler's machine over lines, one after the other.
use Rattle.std.proofs.Common.{◌≡◌, ◌≢◌, ◌+◌, ◌-◌, ◌*◌, ◌<◌, ◌≤◌, ℕ, suc, List, [], ◌∷◌, ◌++◌, length, drop, map, Option, Some, option_map, refl, sym, ◌∙◌, ap, subst, inl, inr, arith}
use Rattle.std.proofs.Math.Seq.{drop-length}
use Rattle.std.proofs.lemmas.List.{append-nil}
use Rattle.std.proofs.lemmas.Bool.{cases_lt}
use Rattle.kk_base.specs.Trace.{Event}
use Rattle.kk_base.specs.Machines.{Machine, trace, state, weight_of}
use Rattle.kk_base.proofs.Machines.{state-add, trace-add, weight_of-add}
use Rattle.rv_isa.specs.declared.asm.Operation.{Operation}
use Rattle.rv_isa.specs.declared.asm.Operation.TheVariants as Op
use Rattle.rv_isa.specs.Processor.{Ending}
use Rattle.rv_isa.specs.AsmCode.{Line, Lines}
use Rattle.rv_isa.specs.AsmMachine.{AsmTurn, asm_acts, asm_next, asm_machine, asm_told, asm_goes}
use Rattle.rv_isa.specs.declared.asm.Action.TheVariants.{Routine}
use Rattle.rv_isa.specs.declared.routine.Routine.TheVariants.{PrintInt}
use Rattle.rv_isa.specs.Costs.{operation_instructions, action_instructions, move_instructions, instructions_of, line_moves, spare_moves}
use Rattle.rv_isa.specs.Frames.{Frame, put, put_into, all_of, top}
use Rattle.rv_isa.specs.Primitives.{Primitives, go, ended, stuck, or_stuck}
use Rattle.cell_heap.specs.Pool.{Pool}
use Rattle.cell_runtime.specs.Operations.{Constants, computed}
use Rattle.cell_runtime.specs.Prints.{buffer_bytes}
use Rattle.cell_runtime.specs.World.{World, primitives, computed_in}
use Rattle.rv_lower.specs.Lines.{computes}
use Rattle.rv_lower.proofs.WordValues.{Function, frame_at, turn_at}

-- The most that a line weighs that computes a word, but for the move of the word: one of two words has two moves for each of them,
-- and one instruction.
abbrev pub line_cost : ℕ
line_cost = 2 * 2 + 1

abbrev pub word_cost : ℕ
word_cost = line_cost + 1

-- the bytes of the longest number that is printed, but for a line end: its sign and ten digits
abbrev pub longest_number : ℕ
longest_number = buffer_bytes - 1

-- the most that a print's routine weighs: that of the longest number, with six instructions for each byte
abbrev pub routine_cost : ℕ
routine_cost = 12 + 6 * longest_number

-- the same with two moves before it, and as the action that it is
abbrev pub print_cost : ℕ
print_cost = routine_cost + 2 * move_instructions + action_instructions (Routine PrintInt)

-- the most that the lines of a form weigh: a print, the two words before it, and its value
abbrev pub most_cost : ℕ
most_cost = print_cost + 3 * word_cost

-- the assembler's machine of a program: its constants and cells, the depth, and its functions
pub record Target : Type 0 where
  pub constants : Constants
  pub pool : Pool
  pub depth : ℕ
  pub functions : List Lines

module _ (target : Target) where
  abbrev pub world_primitives : Primitives World Event Ending
  world_primitives = primitives target.constants target.pool

  abbrev pub machine : Machine (AsmTurn World Ending) Event Ending
  machine = asm_machine (primitives target.constants target.pool) target.depth target.functions

  -- so many steps lead from a turn to another, with these events, none of them is stuck, and they weigh no more than this
  pub record Runs (cost n : ℕ) (events : List Event) (t u : AsmTurn World Ending) : Type 0 where
    pub within : weight_of machine n t ≤ cost
    pub events_are : trace machine n t ≡ events
    pub passes : (k : ℕ) → k < n → state machine k t ≢ stuck
    pub arrives : state machine n t ≡ u

  pub runs_none : (t : AsmTurn World Ending) → Runs 0 0 [] t t
  runs_none t = record { within = omega arith; events_are = refl; passes = λ k less. absurd (omega arith); arrives = refl }

  pub runs_cheap : (cost most n : ℕ) (events : List Event) (t u : AsmTurn World Ending) → cost ≤ most → Runs cost n events t u → Runs most n events t u
  runs_cheap cost most n events t u le runs = record { within = let within = runs.within in omega (arith, le, within); events_are = runs.events_are; passes = runs.passes; arrives = runs.arrives }

  passes_both : (n m : ℕ) (t : AsmTurn World Ending) → ((k : ℕ) → k < n → state machine k t ≢ stuck) → ((k : ℕ) → k < m → state machine k (state machine n t) ≢ stuck)
      → (k : ℕ) → k < n + m → state machine k t ≢ stuck
  passes_both n m t before behind k less =
      elim (cases_lt k n) as (λ _. state machine k t ≢ stuck) [
        | inl near ↦ before k near
        | inr far ↦
            let whole : n + (k - n) ≡ k = omega arith in
            subst (λ (j : ℕ). state machine j t ≢ stuck) whole (subst (λ (s : AsmTurn World Ending). s ≢ stuck) (sym (state-add machine n (k - n) t)) (behind (k - n) (omega arith)))
      ]

  pub runs_then : (cost more n m : ℕ) (first second : List Event) (t u v : AsmTurn World Ending) → Runs cost n first t u → Runs more m second u v → Runs (cost + more) (n + m) (first ++ second) t v
  runs_then cost more n m first second t u v before behind =
      let there : Runs more m second (state machine n t) v = subst (λ s. Runs more m second s v) (sym before.arrives) behind in
      record {
        within = omega (arith, weight_of-add machine n m t, before.within, there.within);
        events_are = trace-add machine n m t ∙ ap (λ es. es ++ trace machine m (state machine n t)) before.events_are ∙ ap (λ es. first ++ es) there.events_are;
        passes = passes_both n m t before.passes there.passes;
        arrives = state-add machine n m t ∙ there.arrives;
      }

  -- one line, and lines behind it
  pub runs_on : (cost more n : ℕ) (first second : List Event) (t u v : AsmTurn World Ending) → Runs cost 1 first t u → Runs more n second u v → Runs (cost + more) (suc n) (first ++ second) t v
  runs_on cost more n first second t u v before behind =
      let whole : 1 + n ≡ suc n = omega arith in
      subst (λ m. Runs (cost + more) m (first ++ second) t v) whole (runs_then cost more 1 n first second t u v before behind)

  goes_not : (s : AsmTurn World Ending) (whole : Function) (left : List Line) (cells : ℕ → Option ℕ) (into : Option ℕ) (fs : List (Frame Line)) (world : World) → s ≡ turn_at whole left cells into fs world → s ≢ stuck
  goes_not s whole left cells into fs world is at = subst (λ (t : AsmTurn World Ending). elim t as (λ _. Type 0) [ go u ↦ Unit {0} | ended how shared ↦ Unit {0} | stuck ↦ ⊥ ]) (sym is ∙ at) tt

  -- a line whose arguments have words
  pub line_runs : (cost : ℕ) (whole : Function) (line : Line) (rest : List Line) (cells : ℕ → Option ℕ) (into : Option ℕ) (fs : List (Frame Line)) (world : World) (words : List ℕ) (events : List Event) (u : AsmTurn World Ending)
      → all_of (map cells line.args) ≡ Some words
      → asm_acts world_primitives target.depth target.functions (frame_at whole rest cells into) fs world line.action line.args line.into words ≡ u
      → ((held : Option ℕ) → line_moves line + spare_moves line.action + instructions_of world_primitives line.action (Some words) held world ≤ cost)
      → drop (length world.trace) (asm_told world_primitives u) ≡ events
      → Runs cost 1 events (turn_at whole (line ∷ rest) cells into fs world) u
  line_runs cost whole line rest cells into fs world words events u words_are acts light told_are =
      let t : AsmTurn World Ending = turn_at whole (line ∷ rest) cells into fs world in
      let next : asm_next world_primitives target.depth target.functions t ≡ u
      = ap (λ o. or_stuck o (λ ws. asm_acts world_primitives target.depth target.functions (frame_at whole rest cells into) fs world line.action line.args line.into ws)) words_are ∙ acts in
      let told : drop (length world.trace) (asm_told world_primitives (asm_next world_primitives target.depth target.functions t)) ≡ events
      = ap (λ (s : AsmTurn World Ending). drop (length world.trace) (asm_told world_primitives s)) next ∙ told_are in
      let held : Option ℕ = top (frame_at whole (line ∷ rest) cells into ∷ fs) in
      let weighs : machine.weight t ≡ (line_moves line + spare_moves line.action) * 1 + instructions_of world_primitives line.action (Some words) held world
      = ap (λ o. (line_moves line + spare_moves line.action) * 1 + instructions_of world_primitives line.action o held world) words_are in
      record {
        within = omega (arith, weighs, light held);
        events_are = append-nil (drop (length world.trace) (asm_told world_primitives (asm_next world_primitives target.depth target.functions t))) ∙ told;
        passes = λ k less. let first : k ≡ 0 = omega arith in subst (λ j. state machine j t ≢ stuck) (sym first) (goes_not t whole (line ∷ rest) cells into fs world refl);
        arrives = next;
      }

  pub silent : (world : World) → drop (length world.trace) world.trace ≡ []
  silent world = drop-length world.trace

  -- an operation on one word is one instruction, and one on two words too
  pub one_is_one : (operation : Operation) (first word : ℕ) → computed target.constants operation (first ∷ []) ≡ Some word
      → operation_instructions operation ≤ 1
  one_is_one (Op.Register operation) first word is = omega arith
  one_is_one (Op.Immediate operation immediate) first word is = omega arith
  one_is_one (Op.Shift operation amount) first word is = omega arith
  one_is_one (Op.Li number) first word is = cc is
  one_is_one Op.Mv first word is = omega arith
  one_is_one (Op.La constant) first word is = cc is
  one_is_one (Op.Lw offset) first word is = omega arith
  one_is_one (Op.Sw offset) first word is = omega arith
  one_is_one Op.Dup first word is = cc is
  one_is_one Op.Free first word is = cc is

  pub two_are_one : (operation : Operation) (first second word : ℕ) → computed target.constants operation (first ∷ second ∷ []) ≡ Some word
      → operation_instructions operation ≤ 1
  two_are_one (Op.Register operation) first second word is = omega arith
  two_are_one (Op.Immediate operation immediate) first second word is = omega arith
  two_are_one (Op.Shift operation amount) first second word is = omega arith
  two_are_one (Op.Li number) first second word is = cc is
  two_are_one Op.Mv first second word is = omega arith
  two_are_one (Op.La constant) first second word is = cc is
  two_are_one (Op.Lw offset) first second word is = omega arith
  two_are_one (Op.Sw offset) first second word is = omega arith
  two_are_one Op.Dup first second word is = cc is
  two_are_one Op.Free first second word is = cc is

  -- an operation on words alone leaves the world as it is
  on_words : (operation : Operation) (words : List ℕ) (word : ℕ) (world : World) → computed target.constants operation words ≡ Some word → computed_in target.constants operation words world ≡ Some (word, world)
  on_words (Op.Register operation) words word world is = ap (option_map (λ w. (w, world))) is
  on_words (Op.Immediate operation immediate) words word world is = ap (option_map (λ w. (w, world))) is
  on_words (Op.Shift operation amount) words word world is = ap (option_map (λ w. (w, world))) is
  on_words (Op.Li number) words word world is = ap (option_map (λ w. (w, world))) is
  on_words Op.Mv words word world is = ap (option_map (λ w. (w, world))) is
  on_words (Op.La constant) words word world is = ap (option_map (λ w. (w, world))) is
  on_words (Op.Lw offset) words word world is = cc is
  on_words (Op.Sw offset) words word world is = cc is
  on_words Op.Dup words word world is = cc is
  on_words Op.Free words word world is = cc is

  -- an operation on words
  pub compute_runs : (whole : Function) (operation : Operation) (args : List ℕ) (x : ℕ) (rest : List Line) (cells : ℕ → Option ℕ) (into : Option ℕ) (fs : List (Frame Line)) (world : World) (words : List ℕ) (word : ℕ)
      → 2 * length args + operation_instructions operation ≤ line_cost → all_of (map cells args) ≡ Some words
      → computed target.constants operation words ≡ Some word
      → Runs word_cost 1 [] (turn_at whole (computes operation args x ∷ rest) cells into fs world) (turn_at whole rest (put x (Some word) cells) into fs world)
  compute_runs whole operation args x rest cells into fs world words word two words_are computed_is =
      line_runs word_cost whole (computes operation args x) rest cells into fs world words [] (turn_at whole rest (put x (Some word) cells) into fs world) words_are
      (ap (λ o. or_stuck o (λ (r : ℕ × World). asm_goes (record { function = whole.0; whole = whole.1; code = rest; cells = put_into (Some x) r.0 cells; held = []; into = into }) fs r.1)) (on_words operation words word world computed_is))
      (λ held. omega (arith, two)) (silent world)
