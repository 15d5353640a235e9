-- When the cells of a program and its frames have the tokens of a state of the machine with tokens; and that the assembler's
-- machine comes to each such state.
use Rattle.std.specs.Prelude.{◌≡◌, ◌≢◌, ℕ, ◌%◌, ◌<◌, ◌≤◌, All, Bool, true, false, List, [], ◌∷◌, length, Option, unwrap_or}
use Rattle.kk_base.specs.Machines.{Machine, mapped, state, trace}
use Rattle.kk_base.specs.Trace.{Event}
use Rattle.kk_source.specs.Ends.{exit_of}
use Rattle.kk_source.specs.Notes.{events_of}
use Rattle.kk_source.specs.State.{Environment}
use Rattle.kk_counted.specs.BareForms.{bare_program}
use Rattle.kk_counted.specs.CountedCosts.{roomy_cost}
use Rattle.kk_counted.specs.Keeping.{counted_after}
use Rattle.kk_counted.specs.Marks.{CellMarks}
use Rattle.kk_counted.specs.Heaps.{Heap, count_at, fields_held}
use Rattle.kk_counted.specs.TokenCosts.{token_cost, HasRoom}
use Rattle.kk_counted.specs.TokenKeeping.{token_after}
use Rattle.kk_counted.specs.TokenMachine.{token_machine}
use Rattle.kk_counted.specs.TokenStates.{TokenSetting, TokenJoin, TokenControl, TokenConfiguration, TokenState, token_first_state}
use Rattle.kk_counted.specs.TokenedCodes.{Tokened, TokenedProgram}
use Rattle.kk_counted.specs.Tokens.{Slot, token, Link, Tokens, is_linked, marked}
use Rattle.cell_heap.specs.Blocks.{Block, own, kept, Cells}
use Rattle.cell_heap.specs.Pool.{Pool}
use Rattle.cell_runtime.specs.World.{World, first_world, primitives}
use Rattle.rv_isa.specs.AsmCode.{Lines}
use Rattle.rv_isa.specs.AsmMachine.{AsmState, asm_machine, asm_start}
use Rattle.rv_isa.specs.Frames.{Frame}
use Rattle.rv_isa.specs.Numbers.{cell_size}
use Rattle.rv_isa.specs.Primitives.{go}
use Rattle.rv_isa.specs.Processor.{Ending, exited}
use Rattle.rv_cells.specs.CountedCells.{AreFrom, Owner, Follows, set_aside}
use Rattle.rv_cells.specs.Fitting.{IsFit}
use Rattle.rv_cells.specs.Layout.{Layout, words_in}
use Rattle.rv_cells.specs.Meaning.{setting_on}
use Rattle.rv_cells.specs.TokenedMeaning.{IsTokenedLowered}

-- ---- the held tokens of frames

-- a held token: the number of the frame that holds it, where that of the oldest frame is 0, and the address of its cell
pub record HeldCell : Type 0 where
  pub frame : ℕ
  pub cell : ℕ

-- those of one frame, before others: the words of the values that it holds, the newest first
abbrev pub held_in : ℕ → (ℕ → Option ℕ) → List ℕ → List HeldCell → List HeldCell
held_in frame cells [] older = older
held_in frame cells (k ∷ ks) older = record { frame = frame; cell = unwrap_or (cells k) 0 } ∷ held_in frame cells ks older

-- those of all frames, the newest frame first
abbrev pub held_cells : {C : Type 0} → List (Frame C) → List HeldCell
held_cells [] = []
held_cells (frame ∷ frames) = held_in (length frames) frame.cells frame.held (held_cells frames)

-- ---- the tokens of a state

-- The held tokens are those of the chain, one by one: each is in its slot's frame, and its cell is that of the slot's token.
abbrev pub AreOnChain : (ℕ → ℕ) → (ℕ → ℕ → Slot) → List Link → List HeldCell → Type 0
AreOnChain address slots [] [] = Unit {0}
AreOnChain address slots (link ∷ links) (held ∷ helds) =
    (p : ℕ) × ((slots link.frame link.slot ≡ token p) × ((held.frame ≡ link.frame) × ((held.cell ≡ address p)
    × AreOnChain address slots links helds)))
AreOnChain address slots _ _ = ⊥

-- The block of a token's cell: it is on the chain of held tokens, or in hand. Its words from 2 on are those of its fields.
abbrev pub IsTokenBlock : Bool → List ℕ → Block → Type 0
IsTokenBlock true fields block = (words : ℕ → Option ℕ) × ((block ≡ kept words) × AreFrom words 2 fields)
IsTokenBlock false fields block = (words : ℕ → Option ℕ) × ((block ≡ own words) × AreFrom words 2 fields)

-- By the address of each name and by what stands at each address, the cells and the held tokens of frames are those of the tokens
-- of a state. Each token has a cell of its own, which is held where its slot is on the chain, and in hand else. It has the fields
-- that it had when it was opened. As many cells are set aside as there are tokens: so no other cell is in hand or held.
pub record HasTokens (pool : Pool) (layout : Layout) (address : ℕ → ℕ) (owners : ℕ → Owner) (heap : Heap) (tokens : Tokens)
    (cells : Cells) (held : List HeldCell) : Type 0 where
  pub chain : AreOnChain address tokens.slots tokens.chain held
  pub blocks : (f y p : ℕ) → tokens.slots f y ≡ token p
      → IsTokenBlock (is_linked f y tokens.chain) (words_in layout address (fields_held heap p)) (cells.blocks (address p))
  pub apart : (f y p g z q : ℕ) → tokens.slots f y ≡ token p → tokens.slots g z ≡ token q → address p ≡ address q → p ≡ q
  pub uncounted : (f y p name : ℕ) → tokens.slots f y ≡ token p → 1 ≤ count_at heap name → address name ≢ address p
  pub number : set_aside pool owners ≡ marked tokens.marks (length heap)

-- the cells hold the heap of a state and its tokens
abbrev pub HasTokenCells : Pool → Layout → TokenConfiguration → Cells → List HeldCell → Type 0
HasTokenCells pool layout c cells held =
    (address : ℕ → ℕ) × ((owners : ℕ → Owner) × (Follows pool layout address owners c.heap cells
    × HasTokens pool layout address owners c.heap c.tokens cells held))

-- ---- runs

-- a program with tokens on the cells of a pool and with such a depth: its constructions leave the fields that they keep
abbrev pub token_setting_on : TokenedProgram → Pool → ℕ → TokenSetting
token_setting_on code pool depth = record { program = code; cells = pool.cells; depth = depth; leaves = true }

-- the machine with tokens as an image tells it
abbrev pub tokened_outside : TokenSetting → Machine TokenState Event Ending
tokened_outside setting = mapped events_of (λ end. exited (exit_of end)) (token_machine token_cost setting)

-- For each state at which the machine with tokens is at a form, the assembler's machine comes to one that has told the same events,
-- whose cells hold the heap and the tokens, and whose frames hold the tokens of the chain.
abbrev pub FollowsTokenStates : (layout : Layout) (code : TokenedProgram) (constants : List (List ℕ)) (functions : List Lines)
    → Lines → Pool → (depth first : ℕ) → List ℕ → Type 0
FollowsTokenStates layout code constants functions main pool depth first input =
    (n : ℕ) (form : Tokened) (environment : Environment) (joins : List TokenJoin)
    → (token_after token_cost (token_setting_on code pool depth) input n).control ≡ TokenControl.running form environment joins
    → (m : ℕ) × ((s : AsmState World) × ((state
    (asm_machine (primitives (record { first = first; texts = constants }) pool) depth functions) m
    (asm_start main (first_world pool input)) ≡ go s)
    × ((trace (asm_machine (primitives (record { first = first; texts = constants }) pool) depth functions) m
    (asm_start main (first_world pool input))
    ≡ trace (tokened_outside (token_setting_on code pool depth)) n (token_first_state (token_setting_on code pool depth) input))
    × HasTokenCells pool layout (token_after token_cost (token_setting_on code pool depth) input n) s.shared.cells
    (held_cells s.frames))))

-- the law that the assembler code of a program with tokens comes to the states of the machine with tokens, where its bare form has
-- room for the tokens and each state of the bare run is fit
abbrev pub FollowTheirTokens : Type 0
FollowTheirTokens =
    (layout : Layout) (marks : CellMarks) (code : TokenedProgram) (constants : List (List ℕ)) (functions : List Lines)
    → (lowered : IsTokenedLowered layout marks code constants functions) → (room : ℕ) → HasRoom room code
    → (pool : Pool) (depth first : ℕ) (input : List ℕ) → pool.first % cell_size ≡ 0 → 0 < pool.first
    → All (λ byte. byte < 256) input
    → ((n : ℕ) → IsFit layout (counted_after (roomy_cost room) (setting_on (bare_program code) pool depth) input n))
    → FollowsTokenStates layout code constants functions lowered.main_lines pool depth first input
