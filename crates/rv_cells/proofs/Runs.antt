-- Runs of the assembler's machine over the lines of the forms that touch cells. No such line tells an event.
use Rattle.std.proofs.Common.{◌≡◌, ◌≢◌, ◌<◌, ◌≤◌, ℕ, ◌+◌, ◌-◌, ◌*◌, List, [], ◌∷◌, ◌++◌, length, drop, map, Option, Some, refl, sym, ◌∙◌, ap, subst, inl, inr, arith}
use Rattle.std.proofs.Math.Seq.{drop-length}
use Rattle.std.proofs.lemmas.List.{append-nil}
use Rattle.std.proofs.lemmas.Bool.{cases_lt}
use Rattle.kk_base.specs.Trace.{Event}
use Rattle.kk_base.specs.Machines.{Machine, trace, state, weight_of}
use Rattle.kk_base.proofs.Machines.{state-add, trace-add, weight_of-add}
use Rattle.rv_isa.specs.Processor.{Ending}
use Rattle.rv_isa.specs.AsmCode.{Line, Lines}
use Rattle.rv_isa.specs.AsmMachine.{AsmTurn, asm_acts, asm_next, asm_machine, asm_told}
use Rattle.rv_isa.specs.Costs.{instructions_of, line_moves, spare_moves}
use Rattle.rv_isa.specs.Frames.{Frame, all_of, top}
use Rattle.rv_isa.specs.Primitives.{Primitives, go, ended, stuck, or_stuck}
use Rattle.cell_heap.specs.Pool.{Pool}
use Rattle.cell_runtime.specs.Operations.{Constants}
use Rattle.cell_runtime.specs.World.{World, primitives}

-- the assembler's machine of a program: its constants, its cells, the depth, and its functions
pub record Target : Type 0 where
  pub constants : Constants
  pub pool : Pool
  pub depth : ℕ
  pub functions : List Lines

-- a frame with other lines left, and a turn at them
abbrev pub left_at : List Line → Frame Line → Frame Line
left_at lines f = record f { code = lines }

abbrev pub turn_of : List Line → Frame Line → List (Frame Line) → World → AsmTurn World Ending
turn_of lines f fs world = go (record { frames = left_at lines f ∷ fs; shared = world })

module _ (target : Target) where
  abbrev pub world_primitives : Primitives World Event Ending
  world_primitives = primitives target.constants target.pool

  abbrev pub machine : Machine (AsmTurn World Ending) Event Ending
  machine = asm_machine (primitives target.constants target.pool) target.depth target.functions

  -- so many steps lead from a turn to another without an event, none of them is stuck, and they weigh no more than this
  pub record Runs (cost n : ℕ) (t u : AsmTurn World Ending) : Type 0 where
    pub within : weight_of machine n t ≤ cost
    pub silent : trace machine n t ≡ []
    pub passes : (k : ℕ) → k < n → state machine k t ≢ stuck
    pub arrives : state machine n t ≡ u

  pub runs_none : (t : AsmTurn World Ending) → Runs 0 0 t t
  runs_none t = record { within = omega arith; silent = refl; passes = λ k less. absurd (omega arith); arrives = refl }

  -- and no more than a greater weight
  pub runs_within : (cost most n : ℕ) (t u : AsmTurn World Ending) → cost ≤ most → Runs cost n t u → Runs most n t u
  runs_within cost most n t u cheap runs = record {
    within = omega (arith, cheap, runs.within);
    silent = runs.silent;
    passes = runs.passes;
    arrives = runs.arrives;
  }

  passes_both : (n m : ℕ) (t : AsmTurn World Ending) → ((k : ℕ) → k < n → state machine k t ≢ stuck)
      → ((k : ℕ) → k < m → state machine k (state machine n t) ≢ stuck) → (k : ℕ) → k < n + m → state machine k t ≢ stuck
  passes_both n m t before behind k less =
      elim (cases_lt k n) as (λ _. state machine k t ≢ stuck) [
        | inl near ↦ before k near
        | inr far ↦
            let whole : n + (k - n) ≡ k = omega arith in
            subst (λ (j : ℕ). state machine j t ≢ stuck) whole
            (subst (λ (s : AsmTurn World Ending). s ≢ stuck) (sym (state-add machine n (k - n) t)) (behind (k - n) (omega arith)))
      ]

  pub runs_then : (cost more n m : ℕ) (t u v : AsmTurn World Ending) → Runs cost n t u → Runs more m u v
      → Runs (cost + more) (n + m) t v
  runs_then cost more n m t u v before behind =
      let there : Runs more m (state machine n t) v = subst (λ s. Runs more m s v) (sym before.arrives) behind in
      record {
        within = omega (arith, weight_of-add machine n m t, before.within, there.within);
        silent = trace-add machine n m t ∙ ap (λ es. es ++ trace machine m (state machine n t)) before.silent ∙ there.silent;
        passes = passes_both n m t before.passes there.passes;
        arrives = state-add machine n m t ∙ there.arrives;
      }

  goes_not : (s : AsmTurn World Ending) (lines : List Line) (f : Frame Line) (fs : List (Frame Line)) (world : World)
      → s ≡ turn_of lines f fs world → s ≢ stuck
  goes_not s lines f fs world is at =
      subst (λ (t : AsmTurn World Ending). elim t as (λ _. Type 0) [ go u ↦ Unit {0} | ended how shared ↦ Unit {0} | stuck ↦ ⊥ ])
      (sym is ∙ at) tt

  -- a line whose arguments have words
  pub line_runs : (cost : ℕ) (line : Line) (rest : List Line) (f : Frame Line) (fs : List (Frame Line)) (world : World)
      (words : List ℕ) (u : AsmTurn World Ending)
      → all_of (map f.cells line.args) ≡ Some words
      → asm_acts world_primitives target.depth target.functions (left_at rest f) fs world line.action line.args line.into words ≡ u
      → ((held : Option ℕ)
      → line_moves line + spare_moves line.action + instructions_of world_primitives line.action (Some words) held world ≤ cost)
      → drop (length world.trace) (asm_told world_primitives u) ≡ []
      → Runs cost 1 (turn_of (line ∷ rest) f fs world) u
  line_runs cost line rest f fs world words u words_are acts light told_are =
      let t : AsmTurn World Ending = turn_of (line ∷ rest) f fs world in
      let next : asm_next world_primitives target.depth target.functions t ≡ u
      = ap (λ o. or_stuck o
      (λ ws. asm_acts world_primitives target.depth target.functions (left_at rest f) fs world line.action line.args line.into
      ws)) words_are ∙ acts in
      let told : drop (length world.trace) (asm_told world_primitives (asm_next world_primitives target.depth target.functions t))
      ≡ []
      = ap (λ (s : AsmTurn World Ending). drop (length world.trace) (asm_told world_primitives s)) next ∙ told_are in
      let held : Option ℕ = top (left_at (line ∷ rest) f ∷ fs) in
      let weighs : machine.weight t ≡ (line_moves line + spare_moves line.action) * 1
      + instructions_of world_primitives line.action (Some words) held world
      = ap (λ o. (line_moves line + spare_moves line.action) * 1 + instructions_of world_primitives line.action o held world)
      words_are in
      record {
        within = omega (arith, weighs, light held);
        silent = append-nil (drop (length world.trace)
            (asm_told world_primitives (asm_next world_primitives target.depth target.functions t))) ∙ told;
        passes = λ k less. let first : k ≡ 0 = omega arith in subst (λ j. state machine j t ≢ stuck) (sym first)
            (goes_not t (line ∷ rest) f fs world refl);
        arrives = next;
      }

  pub silent : (world : World) → drop (length world.trace) world.trace ≡ []
  silent world = drop-length world.trace
