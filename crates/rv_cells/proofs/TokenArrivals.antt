-- For each state at which the machine with tokens is at a form, the assembler's machine comes to one whose cells and frames have
-- the tokens of that state.
use Rattle.std.proofs.Common.{◌≡◌, ℕ, ◌%◌, ◌<◌, List, ◌∷◌, All, subst, ◌⊎◌, inl, inr}
use Rattle.kk_base.specs.Machines.{state}
use Rattle.kk_base.proofs.Simulations.{simulates_many}
use Rattle.kk_source.specs.State.{Environment}
use Rattle.kk_counted.specs.BareForms.{bare_program}
use Rattle.kk_counted.specs.CountedCosts.{roomy_cost}
use Rattle.kk_counted.specs.Heaps.{Heap}
use Rattle.kk_counted.specs.Keeping.{counted_after}
use Rattle.kk_counted.specs.Marks.{CellMarks}
use Rattle.kk_counted.specs.TokenCosts.{HasRoom}
use Rattle.kk_counted.specs.TokenStates.{TokenJoin, TokenFrame, TokenControl, TokenConfiguration, TokenState}
use Rattle.kk_counted.specs.TokenedCodes.{Tokened, TokenedProgram}
use Rattle.kk_counted.specs.Tokens.{Tokens}
use Rattle.cell_heap.specs.Pool.{Pool}
use Rattle.cell_runtime.specs.World.{World}
use Rattle.rv_isa.specs.AsmCode.{Line, Lines}
use Rattle.rv_isa.specs.AsmMachine.{AsmState, AsmTurn}
use Rattle.rv_isa.specs.Frames.{Frame}
use Rattle.rv_isa.specs.Primitives.{go}
use Rattle.rv_isa.specs.Processor.{Ending}
use Rattle.rv_cells.specs.Fitting.{IsFit}
use Rattle.rv_cells.specs.CountedCells.{Follows}
use Rattle.rv_cells.specs.Layout.{Layout}
use Rattle.rv_cells.specs.Meaning.{setting_on}
use Rattle.rv_cells.specs.TokenMemory.{held_cells, HasTokens, HasTokenCells, FollowsTokenStates}
use Rattle.rv_cells.specs.TokenedMeaning.{IsTokenedLowered}
use Rattle.rv_cells.proofs.ChainedTokens.{at_tokens}
use Rattle.rv_cells.proofs.Runs.{left_at}
use Rattle.rv_cells.proofs.Spots.{Spot}
use Rattle.rv_cells.proofs.TokenMeaning.{lowering, idle, seen_states, related, start, turn}
use Rattle.rv_cells.proofs.TokenRelation.{Lowering, upper, lower, pace, Passing, IsBehind, GivesUp, IsFilling, MayStandFor, Related}
use Rattle.rv_cells.proofs.TokenSimulation.{simulates}

module _ (program : Lowering) where
  -- a turn goes on, and has the cells, the tokens and the held tokens of a state
  abbrev GoesOnWith : TokenConfiguration → AsmTurn World Ending → Type 0
  GoesOnWith c at_turn =
      (s : AsmState World) × ((at_turn ≡ go s)
      × HasTokenCells program.pool program.layout c s.shared.cells (held_cells s.frames))

  -- a spot has the cells of a heap, and the tokens of a state
  abbrev HasBoth : Tokens → Spot → List (Frame Line) → Heap → Type 0
  HasBoth tokens s fs heap =
      Follows program.pool program.layout s.address s.owners heap s.world.cells
      × HasTokens program.pool program.layout s.address s.owners heap tokens s.world.cells (held_cells (s.frame ∷ fs))

  -- a spot that is near a form has the tokens of its state
  near_tokens : (code : Tokened) (inner : List TokenJoin) (frames : List TokenFrame) (tokens : Tokens) (input : List ℕ) (s : Spot)
      (fs : List (Frame Line)) (left : List Line)
      → IsBehind program code inner frames tokens input s fs left
      ⊎ (GivesUp program code inner frames tokens input s fs left ⊎ IsFilling program code inner frames tokens input s fs left)
      → HasTokens program.pool program.layout s.address s.owners s.heap tokens s.world.cells (held_cells (s.frame ∷ fs))
  near_tokens code inner frames tokens input s fs left (inl behind) = behind.has
  near_tokens code inner frames tokens input s fs left (inr (inl gives)) =
      at_tokens program gives.rest inner frames tokens input s fs left
      (gives.at (record {
        spends = gives.judged.spends;
        waits = gives.judged.waits;
        slots_are = gives.judged.slots_are;
        apart = gives.judged.apart;
        waiting = gives.judged.waiting;
        are = gives.judged.are;
      }))
  near_tokens code inner frames tokens input s fs left (inr (inr fills)) =
      at_tokens program code inner frames tokens input s fs fills.there fills.at

  -- so has each turn that stands for a state
  goes_on_with : (control : TokenControl) (c : TokenConfiguration) (input : List ℕ) (at_turn : AsmTurn World Ending)
      (form : Tokened)
      (environment : Environment) (joins : List TokenJoin) → MayStandFor program control c input at_turn
      → control ≡ TokenControl.running form environment joins → GoesOnWith c at_turn
  goes_on_with (TokenControl.running code own inner) c input at_turn form environment joins (inl is) same =
      let both = subst (HasBoth c.tokens is.spot is.fs) is.heap_is
      (is.at.follows, at_tokens program code inner c.frames c.tokens input is.spot is.fs is.left is.at) in (
        record { frames = left_at is.left is.spot.frame ∷ is.fs; shared = is.spot.world },
        (is.turn_is, (is.spot.address, (is.spot.owners, (both.0, both.1)))),
      )
  goes_on_with (TokenControl.running code own inner) c input at_turn form environment joins (inr is) same =
      let both = subst (HasBoth c.tokens is.spot is.fs) is.heap_is
      (is.at.follows, near_tokens code inner c.frames c.tokens input is.spot is.fs is.left is.at.near) in (
        record { frames = left_at is.left is.spot.frame ∷ is.fs; shared = is.spot.world },
        (is.turn_is, (is.spot.address, (is.spot.owners, (both.0, both.1)))),
      )
  goes_on_with (TokenControl.stopped by) c input at_turn form environment joins is same = cc same
  goes_on_with TokenControl.stuck c input at_turn form environment joins is same = absurd is

module _ (layout : Layout) (marks : CellMarks) (code : TokenedProgram) (constants : List (List ℕ)) (functions : List Lines)
    (lowered : IsTokenedLowered layout marks code constants functions) (room : ℕ) (fits_room : HasRoom room code) (pool : Pool)
    (depth first : ℕ) (input : List ℕ) (aligned : pool.first % 32 ≡ 0) (some : 0 < pool.first)
    (bytes : All (λ byte. byte < 256) input)
    (fits : (n : ℕ) → IsFit layout (counted_after (roomy_cost room) (setting_on (bare_program code) pool depth) input n)) where
  abbrev low : Lowering
  low = lowering layout marks code constants functions lowered room fits_room pool depth first input aligned some bytes fits

  pub follows_token_states : FollowsTokenStates layout code constants functions lowered.main_lines pool depth first input
  follows_token_states n form environment joins control_is =
      let begin = start layout marks code constants functions lowered room fits_room pool depth first input aligned some bytes
      fits in
      let asm_begin = turn layout marks code constants functions lowered room fits_room pool depth first input aligned some bytes
      fits in
      let spare = idle layout marks code constants functions lowered room fits_room pool depth first input aligned some bytes
      fits in
      let reaches = simulates_many (upper low) (lower low) (Related low) (Passing low) (pace low) (simulates low) n 0 spare begin
      asm_begin
      (related layout marks code constants functions lowered room fits_room pool depth first input aligned some bytes fits) in
      let there = state (lower low) reaches.steps asm_begin in
      let stands : (seen : TokenState)
      → state (upper low) n begin ≡ seen → MayStandFor low seen.machine.control seen.machine seen.input there
      = λ seen same. subst (λ (s : TokenState). MayStandFor low s.machine.control s.machine s.input there) same
      reaches.related.stands in
      let seen = seen_states layout marks code constants functions lowered room fits_room pool depth first input aligned some bytes
      fits n in
      let it = goes_on_with low _ _ _ there form environment joins (stands _ seen) control_is in
      (reaches.steps, (it.0, (it.1.0, (reaches.events_are, it.1.1))))
