-- Where the assembler form's machine comes to a statement, the placed form's machine comes to its line.
use Rattle.std.proofs.Common.{◌≡◌, ◌≢◌, ◌+◌, ◌-◌, ◌<◌, ℕ, suc, List, [], ◌∷◌, ◌++◌, Option, Some, Bool, true, false, cond, slice_get, length, drop, refl, sym, ◌∙◌, ap, subst, arith, length-drop}
use Rattle.std.proofs.Math.Seq.{drop-length}
use Rattle.std.proofs.lemmas.Option.{slice_get_within}
use Rattle.std.proofs.lemmas.List.{append-nil}
use Rattle.kk_base.specs.Machines.{trace, state}
use Rattle.kk_base.proofs.Machines.{state-add, trace-add}
use Rattle.rv_isa.specs.AsmCode.{Line, Lines}
use Rattle.rv_isa.specs.PlacedCode.{PlacedLine, does, moves, PlacedLines, from_of, to_of}
use Rattle.rv_isa.specs.Primitives.{Primitives, go, ended, stuck}
use Rattle.rv_isa.specs.Frames.{Frame}
use Rattle.rv_isa.specs.AsmMachine.{AsmState, AsmTurn, asm_machine, asm_start}
use Rattle.rv_isa.specs.PlacedMachine.{PlacedState, PlacedTurn, read_at, registers_with, slots_with, is_held, placed_line, placed_next, placed_told, placed_machine, placed_start}
use Rattle.rv_isa.specs.LinePlaces.{IsBehindLines, IsAtFrame, AsmIsAt, PlacedIsAt, AsmHasLine}
use Rattle.rv_regs.specs.Conditions.{without_moves, ArePlacings}
use Rattle.rv_regs.specs.Relation.{FramesStand, StandsFor, NeverStuck}
use Rattle.rv_regs.specs.StatementLines.{line_of}
use Rattle.rv_regs.proofs.StatementLines.{line_is, line_of_is}
use Rattle.rv_regs.proofs.FramePositions.{AreInCode, TurnInCode, drop_next, entered_in_code, stays_in_code}
use Rattle.rv_regs.proofs.MeaningPreservation.{never_stuck, reaches_each}

-- what goes on where a test may fail is what follows
passes_test : {A : Type 0} (b : Bool) (t u : A) → cond b t u ≢ t → cond b t u ≡ u
passes_test true t u goes = absurd (goes refl)
passes_test false t u goes = refl

module _ {H E W : Type 0} (m : Primitives H E W) (depth : ℕ) (asm : List Lines) (placed : List PlacedLines) where
  -- each state from one on can go on, or has ended
  abbrev NeverStops : PlacedTurn H W → Type 0
  NeverStops t = (n : ℕ) → state (placed_machine m depth placed) n t ≢ stuck

  -- by some steps that tell nothing the placed machine comes to a line of a function, and shares a value
  record ComesTo (f j : ℕ) (shared : H) (t : PlacedTurn H W) : Type 0 where
    steps : ℕ
    silent : trace (placed_machine m depth placed) steps t ≡ []
    there : PlacedIsAt placed f j shared (state (placed_machine m depth placed) steps t)

  comes_later : (f j : ℕ) (shared : H) (t u : PlacedTurn H W) → (placed_machine m depth placed).step t ≡ ([], u)
      → ComesTo f j shared u → ComesTo f j shared t
  comes_later f j shared t u on later =
      record {
        steps = suc later.steps;
        silent = rw on later.silent;
        there = rw on later.there;
      }

  -- The moves before a statement are executed. The statement is the k-th of its function.
  through_moves : (lines : PlacedLines) (f k j : ℕ) (rest : List PlacedLine) (registers : ℕ → Option ℕ) (shared : H)
      (g : Frame PlacedLine) (gs : List (Frame PlacedLine))
      → slice_get placed f ≡ Some lines → IsBehindLines f j lines.code g → drop j lines.code ≡ rest
      → k < length (without_moves lines.code) → length (without_moves rest) + k ≡ length (without_moves lines.code)
      → NeverStops (go (record { frames = g ∷ gs; registers = registers; shared = shared }))
      → ComesTo f (line_of placed f k) shared (go (record { frames = g ∷ gs; registers = registers; shared = shared }))
  through_moves lines f k j [] registers shared g gs e behind at below left never = absurd (omega (arith, below, left))
  through_moves lines f k j (does alive action args into ∷ rest) registers shared g gs e behind at below left never =
      let behind_others : length (without_moves (drop j lines.code)) + k ≡ length (without_moves lines.code)
      = ap (λ (c : List PlacedLine). length (without_moves c) + k) at ∙ left in
      let here : j ≡ line_of placed f k
      = line_is lines.code j k alive action args into rest at behind_others ∙ sym (line_of_is placed f lines e k) in
      let there : IsBehindLines f (line_of placed f k) lines.code g
      = record { function = behind.function; whole = behind.whole; left = behind.left ∙ ap (λ (i : ℕ). drop i lines.code) here } in
      record { steps = 0; silent = refl; there = (lines, (e, ((g, (gs, (refl, there))), refl))) }
  through_moves lines f k j (moves alive value way ∷ rest) registers shared g gs e behind at below left never =
      let registers' : ℕ → Option ℕ = registers_with (to_of way) (read_at registers g.cells (from_of way)) registers in
      let cells' : ℕ → Option ℕ = slots_with (to_of way) (read_at registers g.cells (from_of way)) g.cells in
      let g' : Frame PlacedLine = record g { code = rest; cells = cells' } in
      let t : PlacedState H = record { frames = g ∷ gs; registers = registers; shared = shared } in
      let t' : PlacedState H = record { frames = g' ∷ gs; registers = registers'; shared = shared } in
      let held : Bool = is_held g.held (to_of way) in
      let next : placed_next m depth placed (go t) ≡ cond held stuck (go t')
      = ap (placed_line m depth placed g gs registers shared) (behind.left ∙ at) in
      let on : placed_next m depth placed (go t) ≡ go t' = next ∙ passes_test held stuck (go t') (λ d. never 1 (next ∙ d)) in
      let silent : drop (length (m.told shared)) (placed_told m (placed_next m depth placed (go t))) ≡ []
      = ap (λ (u : PlacedTurn H W). drop (length (m.told shared)) (placed_told m u)) on ∙ drop-length (m.told shared) in
      let step : (placed_machine m depth placed).step (go t) ≡ ([], go t') = both_of silent on in
      let rest_is : rest ≡ drop (suc j) lines.code = drop_next lines.code j (moves alive value way) rest (sym at) in
      let behind' : IsBehindLines f (suc j) lines.code g'
      = record { function = behind.function; whole = behind.whole; left = rest_is } in
      comes_later f (line_of placed f k) shared (go t) (go t') step
      (through_moves lines f k (suc j) rest registers' shared g' gs e behind' (sym rest_is) below left
      (λ n. subst (λ (u : PlacedTurn H W). state (placed_machine m depth placed) n u ≢ stuck) on (never (suc n))))
    where
      both_of : {A B : Type 0} {a a' : A} {b b' : B} → a ≡ a' → b ≡ b' → ◌≡◌ {A = A × B} (a, b) (a', b')
      both_of e d = cc (e, d)

  -- from a state that stands for one that is at a statement
  from_frames : (f k : ℕ) (lines : Lines) (line : Line) (fs : List (Frame Line)) (gs : List (Frame PlacedLine))
      (registers : ℕ → Option ℕ) (shared : H)
      → slice_get lines.code k ≡ Some line → IsAtFrame f k lines.code fs → FramesStand registers fs gs → AreInCode placed gs
      → NeverStops (go (record { frames = gs; registers = registers; shared = shared }))
      → ComesTo f (line_of placed f k) shared (go (record { frames = gs; registers = registers; shared = shared }))
  from_frames f k lines line [] gs registers shared e is stands all never = absurd stands
  from_frames f k lines line (a ∷ fs) [] registers shared e is stands all never = absurd stands
  from_frames f k lines line (a ∷ fs) (g ∷ gs) registers shared e is stands all never =
      let first : is.0 ≡ a = cc in
      let behind : IsBehindLines f k lines.code a = subst (IsBehindLines f k lines.code) first is.1.1.1 in
      let code : PlacedLines = all.0.0 in
      let j : ℕ = all.0.1.1.1.0 in
      let number : g.function ≡ f = stands.0.same.function ∙ behind.function in
      let whole : without_moves code.code ≡ lines.code = ap without_moves (sym all.0.1.1.0) ∙ stands.0.same.whole ∙ behind.whole in
      let left : without_moves (drop j code.code) ≡ drop k lines.code
      = ap without_moves (sym all.0.1.1.1.1) ∙ stands.0.same.code ∙ behind.left in
      let within : k < length lines.code = slice_get_within lines.code k line e in
      let total : length (without_moves code.code) ≡ length lines.code = ap (λ (c : List Line). length c) whole in
      let rest : length (without_moves (drop j code.code)) ≡ length lines.code - k
      = ap (λ (c : List Line). length c) left ∙ length-drop {A = Line} k lines.code in
      through_moves code f k j (drop j code.code) registers shared g gs (ap (slice_get placed) (sym number) ∙ all.0.1.0)
      (record { function = number; whole = all.0.1.1.0; left = all.0.1.1.1.1 }) refl (omega (arith, within, total))
      (omega (arith, total, rest, within)) never

  from_turns : (f k : ℕ) (shared : H) (s : AsmTurn H W) (t : PlacedTurn H W) → AsmHasLine asm f k → AsmIsAt asm f k shared s
      → StandsFor s t → TurnInCode placed t → NeverStops t → ComesTo f (line_of placed f k) shared t
  from_turns f k shared (go s) (go t) has is stands all never =
      let same : is.0 ≡ has.0 = cc in
      let line : slice_get is.0.code k ≡ Some has.1.1.0 = ap (λ (l : Lines). slice_get l.code k) same ∙ has.1.1.1.0 in
      subst (λ (h : H). ComesTo f (line_of placed f k) h (go t)) (sym stands.1 ∙ is.1.1.1)
      (from_frames f k is.0 has.1.1.0 s.frames t.frames t.registers t.shared line is.1.1.0 stands.0 all never)
  from_turns f k shared (go s) (ended how last) has is stands all never = absurd stands
  from_turns f k shared (go s) stuck has is stands all never = absurd stands
  from_turns f k shared (ended how last) t has is stands all never = absurd is
  from_turns f k shared stuck t has is stands all never = absurd is

  -- and from one that is come to
  from_reached : (f k : ℕ) (shared : H) (s : AsmTurn H W) (t : PlacedTurn H W) (first : ℕ) (events : List E)
      → trace (placed_machine m depth placed) first t ≡ events
      → AsmHasLine asm f k → AsmIsAt asm f k shared s → StandsFor s (state (placed_machine m depth placed) first t)
      → TurnInCode placed t → NeverStops t
      → (count : ℕ) × ((trace (placed_machine m depth placed) count t ≡ events)
      × PlacedIsAt placed f (line_of placed f k) shared (state (placed_machine m depth placed) count t))
  from_reached f k shared s t first events told has is stands in_code never =
      let lower = placed_machine m depth placed in
      let later : ComesTo f (line_of placed f k) shared (state lower first t)
      = from_turns f k shared s (state lower first t) has is stands (stays_in_code m depth placed first t in_code)
      (λ i. subst (λ (u : PlacedTurn H W). u ≢ stuck) (state-add lower first i t) (never (first + i))) in
      let whole : trace lower (first + later.steps) t ≡ trace lower first t ++ trace lower later.steps (state lower first t)
      = trace-add lower first later.steps t in (
        first + later.steps,
        (
          rw (whole, later.silent, told) (append-nil events),
          subst (PlacedIsAt placed f (line_of placed f k) shared) (sym (state-add lower first later.steps t)) later.there,
        ),
      )

  -- from the start of the first function
  pub comes_to_lines : (main : Lines) (first : H) → ArePlacings asm placed → slice_get asm 0 ≡ Some main
      → main.params ≡ [] → NeverStuck m depth asm (asm_start main first)
      → (placed_main : PlacedLines) × ((slice_get placed 0 ≡ Some placed_main)
      × ((n f k : ℕ) (shared : H) → AsmHasLine asm f k
      → AsmIsAt asm f k shared (state (asm_machine m depth asm) n (asm_start main first))
      → (count : ℕ) × ((trace (placed_machine m depth placed) count (placed_start placed_main first)
      ≡ trace (asm_machine m depth asm) n (asm_start main first))
      × PlacedIsAt placed f (line_of placed f k) shared
      (state (placed_machine m depth placed) count (placed_start placed_main first)))))
  comes_to_lines main first all e none never =
      let start = reaches_each m depth asm placed all 0 main first e none never in
      let goes = never_stuck m depth asm placed all 0 main first e none never in
      let same : goes.0 ≡ start.0 = cc in
      let upper_at : ℕ → AsmTurn H W = λ n. state (asm_machine m depth asm) n (asm_start main first) in (
        start.0,
        (
          start.1,
          λ n f k shared has is.
              let there = start.2 n in
              from_reached f k shared (upper_at n) (placed_start start.0 first) there.0
              (trace (asm_machine m depth asm) n (asm_start main first)) there.1.0 has is there.1.1
              (entered_in_code placed 0 start.0 start.1, tt)
              (subst (λ (main' : PlacedLines). NeverStops (placed_start main' first)) same goes.2),
        ),
      )

  -- what stands for a state that goes on is such a state too, shares the same, and has frames that stand
  shares_alike : (s : AsmState H) (t : PlacedTurn H W) → StandsFor {H = H} {W = W} (go s) t
      → (u : PlacedState H) × ((t ≡ go u) × ((u.shared ≡ s.shared) × FramesStand u.registers s.frames u.frames))
  shares_alike s (go t) stands = (t, (refl, (sym stands.1, stands.0)))
  shares_alike s (ended how last) stands = absurd stands
  shares_alike s stuck stands = absurd stands

  -- from the start of the first function, each state is followed by one that shares the same, and whose frames stand for it
  pub follows_each_state : (main : Lines) (first : H) → ArePlacings asm placed → slice_get asm 0 ≡ Some main
      → main.params ≡ [] → NeverStuck m depth asm (asm_start main first)
      → (placed_main : PlacedLines) × ((slice_get placed 0 ≡ Some placed_main)
      × ((n : ℕ) (s : AsmState H) → state (asm_machine m depth asm) n (asm_start main first) ≡ go s
      → (count : ℕ) × ((t : PlacedState H) × ((state (placed_machine m depth placed) count (placed_start placed_main first) ≡ go t)
      × ((trace (placed_machine m depth placed) count (placed_start placed_main first)
      ≡ trace (asm_machine m depth asm) n (asm_start main first))
      × ((t.shared ≡ s.shared) × FramesStand t.registers s.frames t.frames))))))
  follows_each_state main first all e none never =
      let start = reaches_each m depth asm placed all 0 main first e none never in (
        start.0,
        (
          start.1,
          λ n s state_is.
              let there = start.2 n in
              let last : PlacedTurn H W = state (placed_machine m depth placed) there.0 (placed_start start.0 first) in
              let stands : StandsFor {H = H} {W = W} (go s) last
              = subst (λ (turn : AsmTurn H W). StandsFor turn last) state_is there.1.1 in
              let alike = shares_alike s last stands in
              (there.0, (alike.0, (alike.1.0, (there.1.0, alike.1.1)))),
        ),
      )
