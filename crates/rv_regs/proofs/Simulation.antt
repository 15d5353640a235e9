-- The placed form's machine simulates the assembler form's: the moves that stand before a statement, and then the statement.
use Rattle.std.proofs.Common.{◌≡◌, ◌≢◌, ◌==◌, ◌+◌, ◌-◌, ◌*◌, ◌≤◌, ◌<◌, ℕ, zero, suc, List, [], ◌∷◌, ◌++◌, Option, Some, None, true, false, All, slice_get, length, drop, inl, inr, refl, sym, ◌∙◌, ap, subst, arith, map, option_map}
use Rattle.std.proofs.Math.Seq.{drop-length}
use Rattle.std.proofs.lemmas.List.{append-nil, length-map}
use Rattle.std.proofs.lemmas.List.Elements.{All-head}
use Rattle.std.proofs.lemmas.Bool.{cond-true, cond-false, or_from, ne_eqb, false≢true}
use Rattle.kk_base.specs.Machines.{trace, state, weight_of}
use Rattle.kk_base.specs.Simulations.{Reaches, Simulates}
use Rattle.kk_base.proofs.Simulations.{ended_reaches}
use Rattle.rv_isa.specs.declared.asm.Action.{Action}
use Rattle.rv_isa.specs.declared.placed.Operand.{Operand}
use Rattle.rv_isa.specs.declared.placed.Listed.{Listed}
use Rattle.rv_isa.specs.declared.placed.Place.{Place}
use Rattle.rv_isa.specs.declared.placed.Place.TheVariants.{Register as register, Slot as slot}
use Rattle.rv_isa.specs.declared.placed.Way.{Way}
use Rattle.rv_isa.specs.AsmCode.{Line, Lines}
use Rattle.rv_isa.specs.PlacedCode.{PlacedLine, does, moves, PlacedLines, from_of, to_of}
use Rattle.rv_isa.specs.Primitives.{Primitives, go, ended, stuck, or_stuck, end_of}
use Rattle.rv_isa.specs.Conventions.{conforms}
use Rattle.rv_isa.specs.Costs.{instructions_of, move_instructions, argument_moves, spare_moves, result_moves}
use Rattle.rv_isa.specs.Frames.{Frame, empty, all_of, top, is_among}
use Rattle.rv_isa.specs.AsmMachine.{AsmTurn, asm_acts, asm_line, asm_told, asm_line_weight, asm_start, bound}
use Rattle.rv_isa.specs.PlacedMachine.{PlacedState, PlacedTurn, read_at, registers_with, slots_with, is_held, placed_acts, placed_line, placed_next, placed_machine, placed_told, placed_weight, placed_line_weight, placed_start}
use Rattle.rv_regs.specs.Listings.{first_alive}
use Rattle.rv_regs.specs.Conditions.{value_of, without_moves, IsAtPlace, HasCopyIn, IsCopied, written_by, IsKept, AllFit, ArePlacings}
use Rattle.rv_regs.specs.Relation.{HeldAs, Stands, AllWait, FramesStand, StandsFor, NeverStuck, leading, first_args, MovesWithin, FunctionMovesWithin, AllMovesWithin, FramesMovesWithin, stores_before, HasMovesWithin, asm_machine_with, Related, IsNotStuck}
use Rattle.rv_regs.proofs.PlaceChanges.{holds_next, new_unheld, change_place}
use Rattle.rv_regs.proofs.Chains.{token, IsNext, held_next}
use Rattle.rv_regs.proofs.ValueListings.{listed_has}
use Rattle.rv_regs.proofs.Tokens.{apart_first, top_same}
use Rattle.rv_regs.proofs.Rows.{argument_stores, moves_are, CallFits, function_few, statement_few}
use Rattle.rv_regs.proofs.StatementCosts.{same_result, loads_paid, call_fits}
use Rattle.rv_regs.proofs.Steps.{words_at, word_at, same_go, callee_both, enters}
use Rattle.rv_regs.proofs.ActionSimulation.{follows}

-- a move leads to a frame that stands for the same one
moved : (alive : List Listed) (value : ℕ) (way : Way) (rest : List PlacedLine) (registers : ℕ → Option ℕ) (f : Frame Line) (g : Frame PlacedLine) → g.code ≡ moves alive value way ∷ rest → Stands (first_alive g.code) registers f g
    → Stands (first_alive rest) (registers_with (to_of way) (read_at registers g.cells (from_of way)) registers) f
    (record g { code = rest; cells = slots_with (to_of way) (read_at registers g.cells (from_of way)) g.cells })
moved alive value way rest registers f g at stands =
    let stands' : Stands alive registers f g = subst (λ (c : List PlacedLine). Stands (first_alive c) registers f g) at stands in
    let fit : AllFit g.whole (moves alive value way ∷ rest) = subst (λ (c : List PlacedLine). AllFit g.whole c) at stands.same.code_fits in
    let read : Operand = record { value = value; place = from_of way } in
    let write : Operand = record { value = value; place = to_of way } in
    let word : f.cells value ≡ read_at registers g.cells (from_of way) = word_at alive f.cells registers g.cells read stands'.holds (All-head (IsAtPlace alive) read [] fit.0.stand) in
    record {
      same = record {
        function = stands.same.function;
        code = ap without_moves (sym at) ∙ stands.same.code;
        whole = stands.same.whole;
        code_fits = fit.1;
        whole_fits = stands.same.whole_fits;
      };
      apart = apart_first g.whole rest fit.1;
      holds = holds_next alive None (read ∷ []) (Some write) f.cells registers g.cells f.cells
          (registers_with (to_of way) (read_at registers g.cells (from_of way)) registers) (slots_with (to_of way) (read_at registers g.cells (from_of way)) g.cells)
          (first_alive rest) fit.0.kept.0 stands'.holds (change_place value (from_of way) (to_of way) f.cells registers g.cells word);
      held = held_next alive (first_alive rest) (first_alive rest ∷ []) None (read ∷ []) (inl_refl (first_alive rest)) fit.0.held f.held g.held (λ v k among. refl) stands'.held;
    }
  where
    inl_refl : (next : List Listed) → IsNext next (next ∷ [])
    inl_refl next = inl refl

-- what has a copy behind a move to a slot is not held
copied_aside : (alive : List Listed) (action : Option Action) (write : Operand) (l : Listed) (k : ℕ) → l.held ≡ true → IsCopied alive action (Some write) l → write.place ≡ slot k → ⊥
copied_aside alive None write l k held copied same =
    let stored : HasCopyIn alive (slot k) l = subst (λ (place : Place). HasCopyIn alive place l) same copied.1 in
    false≢true (sym stored.1.0 ∙ held)
copied_aside alive (Some action) write l k held copied same = copied

-- what is written is not at the slot of a token that is listed as held behind the line
clear_of_held : (alive next : List Listed) (action : Option Action) (reads : List Operand) (write : Operand) → All (IsKept alive action reads (Some write)) next
    → (vs ks : List ℕ) → HeldAs next vs ks → is_held ks write.place ≡ false
clear_of_held alive next action reads write kept vs ks held = by write.place refl
  where
    none : (j : ℕ) → write.place ≡ slot j → (vs ks : List ℕ) → HeldAs next vs ks → is_among j ks ≡ false
    none j at [] [] held = refl
    none j at [] (k ∷ ks) held = absurd held
    none j at (v ∷ vs) [] held = absurd held
    none j at (v ∷ vs) (k ∷ ks) held =
        or_from (k == j) (is_among j ks) (ne_eqb k j (λ same. aside (listed_has (IsKept alive action reads (Some write)) next v (token v k) kept held.0).0 (at ∙ sym (ap (λ x. slot x) same)))) (none j at vs ks held.1.1)
      where
        aside : IsKept alive action reads (Some write) (token v k) → write.place ≢ slot k
        aside (inl new) same = false≢true (sym (new_unheld (written_by action (Some write)) (token v k) new))
        aside (inr (inl copied)) same = copied_aside alive action write (token v k) k refl copied same
        aside (inr (inr stays)) same = stays.1.0.1.0 same

    by : (place : Place) → write.place ≡ place → is_held ks place ≡ false
    by (register r) at = refl
    by (slot j) at = none j at vs ks held

module _ {H E W : Type 0} (m : Primitives H E W) (depth : ℕ) (asm : List Lines) (placed : List PlacedLines) (all : ArePlacings asm placed) (extra : ℕ) where
  -- a statement of the code that is left makes turns that stand for each other
  statement : (alive : List Listed) (action : Action) (args : List Operand) (into : Option Operand) (rest : List PlacedLine) (registers : ℕ → Option ℕ) (shared : H) (f : Frame Line) (fs : List (Frame Line)) (g : Frame PlacedLine) (gs : List (Frame PlacedLine))
      → g.code ≡ does alive action args into ∷ rest → Stands (first_alive g.code) registers f g → AllWait fs gs
      → StandsFor (asm_line m depth asm f fs shared f.code) (placed_line m depth placed g gs registers shared g.code)
  statement alive action args into rest registers shared f fs g gs at stands waits =
      let stands' : Stands alive registers f g = subst (λ (c : List PlacedLine). Stands (first_alive c) registers f g) at stands in
      let fit : AllFit g.whole (does alive action args into ∷ rest) = subst (λ (c : List PlacedLine). AllFit g.whole c) at stands.same.code_fits in
      let here : f.code ≡ record { action = action; args = map value_of args; into = option_map value_of into } ∷ without_moves rest = sym stands.same.code ∙ ap without_moves at in
      let f' : Frame Line = record f { code = without_moves rest } in
      let g' : Frame PlacedLine = record g { code = rest } in
      let on : Stands alive registers f' g' = record {
        same = record { function = stands.same.function; code = refl; whole = stands.same.whole; code_fits = fit.1; whole_fits = stands.same.whole_fits };
        apart = stands'.apart;
        holds = stands'.holds;
        held = stands'.held;
      } in
      let same : map f.cells (map value_of args) ≡ map (λ (arg : Operand). read_at registers g.cells arg.place) args = words_at alive f.cells registers g.cells args stands'.holds fit.0.1.stand in
      let next : List ℕ → AsmTurn H W = λ words. asm_acts m depth asm f' fs shared action (map value_of args) (option_map value_of into) words in
      let next' : List ℕ → PlacedTurn H W = λ words. placed_acts m depth placed g' gs registers shared action args into words in
      subst (λ (c : List Line). StandsFor (asm_line m depth asm f fs shared c) (placed_line m depth placed g gs registers shared g.code)) (sym here)
      (subst (λ (c : List PlacedLine). StandsFor (or_stuck (all_of (map f.cells (map value_of args))) next) (placed_line m depth placed g gs registers shared c)) (sym at)
      (subst (λ (t : PlacedTurn H W). StandsFor (or_stuck (all_of (map f.cells (map value_of args))) next) t)
      (sym (cond-true (conforms action args into) (or_stuck (all_of (map (λ (arg : Operand). read_at registers g.cells arg.place) args)) next') stuck fit.0.0))
      (subst (λ (ws : List (Option ℕ)). StandsFor (or_stuck (all_of (map f.cells (map value_of args))) next) (or_stuck (all_of ws) next')) same
      (same_go (all_of (map f.cells (map value_of args))) next next'
      (λ words e. follows m depth asm placed all alive args registers shared f' fs g' gs words on waits action into fit.0.0 fit.0.1)))))

  -- a statement weighs as much in both machines, but for the moves that it pays for
  weighs_same : (alive : List Listed) (action : Action) (args : List Operand) (into : Option Operand) (rest : List PlacedLine) (registers : ℕ → Option ℕ) (shared : H) (f : Frame Line) (fs : List (Frame Line)) (g : Frame PlacedLine) (gs : List (Frame PlacedLine))
      → g.code ≡ does alive action args into ∷ rest → Stands (first_alive g.code) registers f g → AllWait fs gs
      → placed_line_weight m (g ∷ gs) registers shared g g.code + (argument_moves action (length args) + result_moves into + spare_moves action) * move_instructions ≡ asm_line_weight m (f ∷ fs) shared f f.code
  weighs_same alive action args into rest registers shared f fs g gs at stands waits =
      let stands' : Stands alive registers f g = subst (λ (c : List PlacedLine). Stands (first_alive c) registers f g) at stands in
      let fit : AllFit g.whole (does alive action args into ∷ rest) = subst (λ (c : List PlacedLine). AllFit g.whole c) at stands.same.code_fits in
      let here : f.code ≡ record { action = action; args = map value_of args; into = option_map value_of into } ∷ without_moves rest = sym stands.same.code ∙ ap without_moves at in
      let same : map f.cells (map value_of args) ≡ map (λ (arg : Operand). read_at registers g.cells arg.place) args = words_at alive f.cells registers g.cells args stands'.holds fit.0.1.stand in
      let a : placed_line_weight m (g ∷ gs) registers shared g g.code ≡ instructions_of m action (all_of (map (λ (arg : Operand). read_at registers g.cells arg.place) args)) (top (g ∷ gs)) shared = ap (placed_line_weight m (g ∷ gs) registers shared g) at in
      let b : asm_line_weight m (f ∷ fs) shared f f.code
      ≡ (argument_moves action (length (map value_of args)) + result_moves (option_map value_of into) + spare_moves action) * move_instructions + instructions_of m action (all_of (map f.cells (map value_of args))) (top (f ∷ fs)) shared
      = ap (asm_line_weight m (f ∷ fs) shared f) here in
      let c : instructions_of m action (all_of (map f.cells (map value_of args))) (top (f ∷ fs)) shared ≡ instructions_of m action (all_of (map (λ (arg : Operand). read_at registers g.cells arg.place) args)) (top (g ∷ gs)) shared
      = ap (λ ws. instructions_of m action (all_of ws) (top (f ∷ fs)) shared) same ∙ ap (λ held. instructions_of m action (all_of (map (λ (arg : Operand). read_at registers g.cells arg.place) args)) held shared) (top_same alive registers f fs g gs stands' waits) in
      let d : argument_moves action (length (map value_of args)) ≡ argument_moves action (length args) = ap (argument_moves action) (length-map args value_of) in
      omega (arith, a, b, c, d, same_result into)

  -- where the upper machine can go on, what was told is the same
  told_same : (s : AsmTurn H W) (t : PlacedTurn H W) → s ≢ stuck → StandsFor s t → asm_told m s ≡ placed_told m t
  told_same (go s) (go t) goes stands = ap m.told stands.1
  told_same (go s) (ended how shared) goes stands = absurd stands
  told_same (go s) stuck goes stands = absurd stands
  told_same (ended how shared) (go t) goes stands = absurd stands
  told_same (ended how shared) (ended how' shared') goes stands = ap m.told stands.1
  told_same (ended how shared) stuck goes stands = absurd stands
  told_same stuck t goes stands = absurd (goes refl)

  -- The placed machine comes by some steps, which weigh at most `weight` with what they leave for stores to come, to a state
  -- that stands for another, with these events.
  record Arrives (weight : ℕ) (events : List E) (s : AsmTurn H W) (t : PlacedTurn H W) : Type 0 where
    steps : ℕ
    left : ℕ
    some : 1 ≤ steps
    within : weight_of (placed_machine m depth placed) steps t + left ≤ weight
    events_are : trace (placed_machine m depth placed) steps t ≡ events
    passes : (k : ℕ) → k < steps → state (placed_machine m depth placed) k t ≢ stuck
    stands : StandsFor s (state (placed_machine m depth placed) steps t)
    few : HasMovesWithin extra left (state (placed_machine m depth placed) steps t)

  not_stuck : (t : PlacedState H) → IsNotStuck {H = H} {W = W} (go t)
  not_stuck t e = cc

  ended_not_stuck : (how : W) (shared : H) → IsNotStuck {H = H} {W = W} (ended how shared)
  ended_not_stuck how shared e = cc

  -- one step
  arrives_now : (weight left : ℕ) (s : AsmTurn H W) (t : PlacedState H) → placed_weight m (go t) + left ≤ weight → s ≢ stuck → StandsFor s (placed_next m depth placed (go t)) → HasMovesWithin extra left (placed_next m depth placed (go t))
      → Arrives weight (drop (length (m.told t.shared)) (asm_told m s)) s (go t)
  arrives_now weight left s t within goes stands few =
      let told : asm_told m s ≡ placed_told m (placed_next m depth placed (go t)) = told_same s (placed_next m depth placed (go t)) goes stands in
      record {
        steps = 1;
        left = left;
        some = omega arith;
        within = omega (arith, within);
        events_are = append_nil_of (drop (length (m.told t.shared)) (placed_told m (placed_next m depth placed (go t)))) ∙ ap (drop (length (m.told t.shared))) (sym told);
        passes = only_here;
        stands = stands;
        few = few;
      }
    where
      only_here : (k : ℕ) → k < 1 → state (placed_machine m depth placed) k (go t) ≢ stuck
      only_here zero lt = not_stuck t
      only_here (suc k) lt = absurd (omega (arith, lt))

      append_nil_of : (xs : List E) → xs ++ [] ≡ xs
      append_nil_of xs = append-nil xs

  -- a step without events before
  arrives_later : (weight more : ℕ) (events : List E) (s : AsmTurn H W) (t : PlacedTurn H W) (moved_weight : (placed_machine m depth placed).weight t ≤ more) → ((placed_machine m depth placed).step t).0 ≡ [] → t ≢ stuck
      → Arrives weight events s ((placed_machine m depth placed).step t).1 → Arrives (more + weight) events s t
  arrives_later weight more events s t light silent goes later =
      record {
        steps = suc later.steps;
        left = later.left;
        some = omega arith;
        within = omega (arith, light, later.within);
        events_are = ap (λ (first : List E). first ++ trace (placed_machine m depth placed) later.steps ((placed_machine m depth placed).step t).1) silent ∙ later.events_are;
        passes = from_here;
        stands = later.stands;
        few = later.few;
      }
    where
      from_here : (k : ℕ) → k < suc later.steps → state (placed_machine m depth placed) k t ≢ stuck
      from_here zero lt = goes
      from_here (suc k) lt = later.passes k (omega arith)

  -- The moves before a statement, and the statement. What it pays is the moves before it that are its loads, and `weight`.
  arrives : (weight : ℕ) (code : List PlacedLine) (registers : ℕ → Option ℕ) (shared : H) (f : Frame Line) (fs : List (Frame Line)) (g : Frame PlacedLine) (gs : List (Frame PlacedLine))
      → AllMovesWithin extra placed → g.code ≡ code → Stands (first_alive g.code) registers f g → AllWait fs gs → FramesMovesWithin extra (g ∷ gs) → asm_line m depth asm f fs shared f.code ≢ stuck
      → asm_line_weight m (f ∷ fs) shared f f.code + stores_before extra gs * move_instructions ≤ weight + first_args code * move_instructions
      → Arrives (leading code * move_instructions + weight) (drop (length (m.told shared)) (asm_told m (asm_line m depth asm f fs shared f.code)))
      (asm_line m depth asm f fs shared f.code) (go (record { frames = g ∷ gs; registers = registers; shared = shared }))
  arrives weight [] registers shared f fs g gs all_few at stands waits few goes pays =
      absurd (goes (ap (asm_line m depth asm f fs shared) (sym stands.same.code ∙ ap without_moves at)))
  arrives weight (does alive action args into ∷ rest) registers shared f fs g gs all_few at stands waits few goes pays =
      let left : ℕ = (argument_stores action (length args) + result_moves into + stores_before extra gs) * move_instructions in
      let here : f.code ≡ record { action = action; args = map value_of args; into = option_map value_of into } ∷ without_moves rest = sym stands.same.code ∙ ap without_moves at in
      let fits : CallFits placed action (length args)
      = call_fits m depth asm placed all action args into (without_moves rest) f fs shared (subst (λ (c : List Line). asm_line m depth asm f fs shared c ≢ stuck) here goes) in
      arrives_now (leading (does alive action args into ∷ rest) * move_instructions + weight) left (asm_line m depth asm f fs shared f.code)
      (record { frames = g ∷ gs; registers = registers; shared = shared })
      (omega (arith, pays, moves_are action (length args), weighs_same alive action args into rest registers shared f fs g gs at stands waits)) goes
      (statement alive action args into rest registers shared f fs g gs at stands waits)
      (statement_few extra m depth left placed all_few alive action args into rest g gs registers shared at few fits (omega arith))
  arrives weight (moves alive value way ∷ rest) registers shared f fs g gs all_few at stands waits few goes pays =
      let registers' : ℕ → Option ℕ = registers_with (to_of way) (read_at registers g.cells (from_of way)) registers in
      let g' : Frame PlacedLine = record g { code = rest; cells = slots_with (to_of way) (read_at registers g.cells (from_of way)) g.cells } in
      let t : PlacedState H = record { frames = g ∷ gs; registers = registers; shared = shared } in
      let t' : PlacedState H = record { frames = g' ∷ gs; registers = registers'; shared = shared } in
      let fit : AllFit g.whole (moves alive value way ∷ rest) = subst (λ (c : List PlacedLine). AllFit g.whole c) at stands.same.code_fits in
      let stands' = moved alive value way rest registers f g at stands in
      let write : Operand = record { value = value; place = to_of way } in
      let free : is_held g.held (to_of way) ≡ false = clear_of_held alive (first_alive rest) None (record { value = value; place = from_of way } ∷ []) write fit.0.kept.0 f.held g.held stands'.held in
      let on : placed_next m depth placed (go t) ≡ go t' = ap (placed_line m depth placed g gs registers shared) at ∙ cond-false (is_held g.held (to_of way)) stuck (go t') free in
      let few' : FramesMovesWithin extra (g' ∷ gs) = ((subst (MovesWithin extra) at few.0.0, few.0.1), few.1) in
      let later = arrives weight rest registers' shared f fs g' gs all_few refl stands' waits few' goes pays in
      let light : placed_weight m (go t) ≤ move_instructions = omega (arith, ap (placed_line_weight m (g ∷ gs) registers shared g) at) in
      let silent : drop (length (m.told shared)) (placed_told m (placed_next m depth placed (go t))) ≡ [] = ap (λ (u : PlacedTurn H W). drop (length (m.told shared)) (placed_told m u)) on ∙ drop-length (m.told shared) in
      let events : List E = drop (length (m.told shared)) (asm_told m (asm_line m depth asm f fs shared f.code)) in
      let there : Arrives (leading rest * move_instructions + weight) events (asm_line m depth asm f fs shared f.code) (placed_next m depth placed (go t))
      = subst (λ (u : PlacedTurn H W). Arrives (leading rest * move_instructions + weight) events (asm_line m depth asm f fs shared f.code) u) (sym on) later in
      subst (λ w. Arrives w events (asm_line m depth asm f fs shared f.code) (go t)) (omega arith)
      (arrives_later (leading rest * move_instructions + weight) move_instructions events (asm_line m depth asm f fs shared f.code) (go t) light silent (not_stuck t) there)

  -- a step of the upper machine, by steps of the lower
  steps_on : (credit idle : ℕ) (frames : List (Frame Line)) (frames' : List (Frame PlacedLine)) (registers : ℕ → Option ℕ) (shared : H) → AllMovesWithin extra placed
      → NeverStuck m depth asm (go (record { frames = frames; shared = shared })) → FramesStand registers frames frames' → HasMovesWithin {H = H} {W = W} extra credit (go (record { frames = frames'; registers = registers; shared = shared }))
      → Reaches (placed_machine m depth placed) (Related extra m depth asm) IsNotStuck 1 ((asm_machine_with extra m depth asm).weight (go (record { frames = frames; shared = shared })) + credit) 1 idle
      ((asm_machine_with extra m depth asm).step (go (record { frames = frames; shared = shared }))).0 ((asm_machine_with extra m depth asm).step (go (record { frames = frames; shared = shared }))).1
      (go (record { frames = frames'; registers = registers; shared = shared }))
  steps_on credit idle [] frames' registers shared all_few never stands few = absurd stands
  steps_on credit idle (f ∷ fs) [] registers shared all_few never stands few = absurd stands
  steps_on credit idle (f ∷ fs) (g ∷ gs) registers shared all_few never stands few =
      let goes : asm_line m depth asm f fs shared f.code ≢ stuck = never 1 in
      let loads : first_args g.code * move_instructions ≤ asm_line_weight m (f ∷ fs) shared f f.code
      = subst (λ (c : List Line). first_args g.code * move_instructions ≤ asm_line_weight m (f ∷ fs) shared f c) stands.0.same.code (loads_paid m (f ∷ fs) shared f g.code) in
      let weight : ℕ = asm_line_weight m (f ∷ fs) shared f f.code + stores_before extra gs * move_instructions - first_args g.code * move_instructions in
      let there = arrives weight g.code registers shared f fs g gs all_few refl stands.0 stands.1 few.0 goes (omega arith) in
      record {
        steps = there.steps;
        credit_after = there.left;
        idle_after = idle;
        paid = omega (arith, there.within, loads, few.1);
        moves = omega (arith, there.some);
        events_are = there.events_are;
        passes = there.passes;
        related = ((λ n. never (suc n)), (there.stands, there.few));
      }

  steps_by : (credit idle : ℕ) (s : AsmTurn H W) (t : PlacedTurn H W) → AllMovesWithin extra placed → Related extra m depth asm credit idle s t
      → Reaches (placed_machine m depth placed) (Related extra m depth asm) IsNotStuck 1 ((asm_machine_with extra m depth asm).weight s + credit) 1 idle ((asm_machine_with extra m depth asm).step s).0 ((asm_machine_with extra m depth asm).step s).1 t
  steps_by credit idle (go s) (go t) all_few related =
      subst (λ (shared : H). Reaches (placed_machine m depth placed) (Related extra m depth asm) IsNotStuck 1 ((asm_machine_with extra m depth asm).weight (go s) + credit) 1 idle ((asm_machine_with extra m depth asm).step (go s)).0 ((asm_machine_with extra m depth asm).step (go s)).1
      (go (record { frames = t.frames; registers = t.registers; shared = shared }))) related.1.0.1
      (steps_on credit idle s.frames t.frames t.registers s.shared all_few related.0 related.1.0.0 related.1.1)
  steps_by credit idle (go s) (ended how shared) all_few related = absurd related.1.0
  steps_by credit idle (go s) stuck all_few related = absurd related.1.0
  steps_by credit idle (ended how shared) (go t) all_few related = absurd related.1.0
  steps_by credit idle (ended how shared) (ended how' shared') all_few related =
      ended_reaches (asm_machine_with extra m depth asm) (placed_machine m depth placed) (Related extra m depth asm) IsNotStuck 1 credit idle (ended how shared) (ended how' shared') how
      (omega arith) related refl (ap (λ (w : W). Some w) (sym related.1.0.0)) (ended_not_stuck how' shared')
  steps_by credit idle (ended how shared) stuck all_few related = absurd related.1.0
  steps_by credit idle stuck t all_few related = absurd (related.0 0 refl)

  ends_alike : (credit idle : ℕ) (s : AsmTurn H W) (t : PlacedTurn H W) → Related extra m depth asm credit idle s t → end_of t ≡ end_of s
  ends_alike credit idle (go s) (go t) related = refl
  ends_alike credit idle (go s) (ended how shared) related = absurd related.1.0
  ends_alike credit idle (go s) stuck related = absurd related.1.0
  ends_alike credit idle (ended how shared) (go t) related = absurd related.1.0
  ends_alike credit idle (ended how shared) (ended how' shared') related = ap (λ (w : W). Some w) (sym related.1.0.0)
  ends_alike credit idle (ended how shared) stuck related = absurd related.1.0
  ends_alike credit idle stuck t related = absurd (related.0 0 refl)

  -- code with places simulates the code that it was made of, where the extra moves are within so many
  pub simulates_within : AllMovesWithin extra placed → Simulates (asm_machine_with extra m depth asm) (placed_machine m depth placed) (Related extra m depth asm) IsNotStuck 1
  simulates_within all_few = record { by = λ credit idle s t related. steps_by credit idle s t all_few related; alike = ends_alike }

  -- the start of a function without parameters
  pub starts_within : (n : ℕ) (main : Lines) (shared : H) → AllMovesWithin extra placed → slice_get asm n ≡ Some main → main.params ≡ [] → NeverStuck m depth asm (asm_start main shared)
      → (placed_main : PlacedLines) × (slice_get placed n ≡ Some placed_main) × Related extra m depth asm 0 0 (asm_start main shared) (placed_start placed_main shared)
  starts_within n main shared all_few e none never =
      let there = callee_both asm placed all n main e in
      let bound_is : bound main.params [] ≡ Some empty = ap (λ (params : List ℕ). bound params []) none in
      let few : FunctionMovesWithin extra there.0 = function_few extra placed n there.0 all_few there.1 in
      let no_params : length there.0.params ≡ 0 = ap (λ (params : List ℕ). length params) (there.2.params ∙ none) in
      (there.0, there.1, (never, (((enters 0 main there.0 [] empty there.2 bound_is, tt), refl), (((few.1, few.1), tt), omega (arith, few.0, no_params)))))
