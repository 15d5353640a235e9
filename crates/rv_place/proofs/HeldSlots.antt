-- A processor that stands for a state of the placed machine has the held tokens of its frames, each in a slot of its frame.
use Rattle.std.proofs.Common.{◌≡◌, ◌≢◌, ◌<◌, ℕ, ◌+◌, ◌*◌, List, [], ◌∷◌, length, Option, Some, None}
use Rattle.std.proofs.Common.{refl, arith, mul-suc, mul-zero}
use Rattle.kk_base.specs.Memory.{Part}
use Rattle.rv_isa.specs.Frames.{Frame}
use Rattle.rv_isa.specs.PlacedCode.{PlacedLine, PlacedLines}
use Rattle.rv_isa.specs.PlacedMachine.{PlacedState}
use Rattle.rv_isa.specs.Processor.{Processor}
use Rattle.rv_isa.specs.Standing.{Code}
use Rattle.cell_heap.specs.Cells.{Cell, no_cell, free, token, waiting, counted, Heap}
use Rattle.cell_heap.specs.Memory.{IsToken, Shows, IsShown, IsHeldChain}
use Rattle.cell_heap.specs.Pool.{Pool, IsCell}
use Rattle.cell_heap.specs.View.{Link}
use Rattle.cell_runtime.specs.World.{World}
use Rattle.rv_place.specs.Grounds.{stack_end}
use Rattle.rv_place.specs.HeldSlots.{HoldsFirst, AreHeld, HasHeldTokens}
use Rattle.rv_place.specs.Lines.{Map}
use Rattle.rv_place.specs.ProcessorStates.{Slots, FramesAt, StackAt, word_of, links_in, links_of, Running}

-- ---- tokens are cells

-- no held token is at address 0
abbrev AreSome : List Link → Type 0
AreSome [] = Unit {0}
AreSome (link ∷ links) = (link.cell ≢ 0) × AreSome links

token_cell : (pool : Pool) (memory : ℕ → ℕ) (at : ℕ) (cell : Cell) → IsToken cell → Shows pool memory at cell → IsCell pool at
token_cell pool memory at no_cell is shows = absurd is
token_cell pool memory at free is shows = absurd is
token_cell pool memory at (token fields) is shows = shows.0
token_cell pool memory at (waiting body) is shows = absurd is
token_cell pool memory at (counted count body) is shows = absurd is

held_some : (pool : Pool) (parts : List Part) (memory : ℕ → ℕ) (heap : Heap) → 0 < pool.first → IsShown pool memory heap
    → (links : List Link) (at : ℕ) → IsHeldChain pool parts memory heap at links → AreSome links
held_some pool parts memory heap some shown [] at chain = tt
held_some pool parts memory heap some shown (link ∷ links) at chain =
    let cell = token_cell pool memory link.cell (heap link.cell) chain.1.is_token (shown.cell link.cell) in
    let behind = cell.behind in
    (λ none. omega (arith, none, behind, some), held_some pool parts memory heap some shown links _ chain.4)

-- ---- the slots of frames

some_word : (word : Option ℕ) → word_of word ≢ 0 → word ≡ Some (word_of word)
some_word None some = absurd (some refl)
some_word (Some w) some = refl

module _ (map : Map) (roof : ℕ) (memory : ℕ → ℕ) where
  -- the held tokens of a frame, before those of older ones
  held_first : (base : ℕ) (cells : ℕ → Option ℕ) (number : ℕ) (Behind : List Link → Type 0) (below : List Link) (ks : List ℕ)
      → Slots map memory base cells → base + (map.frame * number + map.frame) ≡ roof → (AreSome below → Behind below)
      → AreSome (links_in base cells ks below) → HoldsFirst map.frame roof number cells ks Behind (links_in base cells ks below)
  held_first base cells number Behind below [] slots ends behind some = behind some
  held_first base cells number Behind below (k ∷ ks) slots ends behind some =
      let word_is = some_word (cells k) some.0 in
      let fits = (slots k (word_of (cells k)) word_is).0 in (
        word_is,
        (
          record { behind = omega (arith, ends); within = omega (arith, ends, fits) },
          held_first base cells number Behind below ks slots ends behind some.1,
        ),
      )

  -- frames stand one below the other
  frames_end : (code : Code) (most stop base : ℕ) (frames : List (Frame PlacedLine)) (at : ℕ)
      → FramesAt map code most stop roof memory at base frames → base + map.frame * length frames ≡ roof
  frames_end code most stop base [] at stand = omega (arith, stand.1, mul-zero map.frame)
  frames_end code most stop base (frame ∷ frames) at stand =
      let rest = frames_end code most stop (base + map.frame) frames _ stand.3 in
      omega (arith, rest, mul-suc map.frame (length frames))

  -- the held tokens of frames that wait
  waiting_held : (code : Code) (most stop base : ℕ) (frames : List (Frame PlacedLine)) (at : ℕ)
      → FramesAt map code most stop roof memory at base frames → AreSome (links_of map base frames)
      → AreHeld map.frame roof frames (links_of map base frames)
  waiting_held code most stop base [] at stand some = refl
  waiting_held code most stop base (frame ∷ frames) at stand some =
      let rest = frames_end code most stop (base + map.frame) frames _ stand.3 in
      held_first base frame.cells (length frames) (AreHeld map.frame roof frames) (links_of map (base + map.frame) frames)
      frame.held
      stand.1 (omega (arith, rest)) (waiting_held code most stop (base + map.frame) frames _ stand.3) some

  -- and of all
  stack_held : (code : Code) (most stop : ℕ) (registers : ℕ → ℕ) (at base : ℕ) (frames : List (Frame PlacedLine))
      → StackAt map code most stop roof registers memory at base frames → AreSome (links_of map base frames)
      → AreHeld map.frame roof frames (links_of map base frames)
  stack_held code most stop registers at base [] stand some = refl
  stack_held code most stop registers at base (frame ∷ frames) stand some =
      let rest = frames_end code most stop (base + map.frame) frames _ stand.3 in
      held_first base frame.cells (length frames) (AreHeld map.frame roof frames) (links_of map (base + map.frame) frames)
      frame.held
      stand.1 (omega (arith, rest)) (waiting_held code most stop (base + map.frame) frames _ stand.3) some

-- a processor that stands for a state has its cells and its held tokens
pub running_tokens : (map : Map) (pool : Pool) (functions : List PlacedLines) (depth stop : ℕ) (code : Code) (parts : List Part)
    (t : PlacedState World) (s : Processor) → Running map pool functions depth stop code parts t s
    → HasHeldTokens map pool depth t s
running_tokens map pool functions depth stop code parts t s running =
    let memory = running.cells.memory in (
      links_of map running.base t.frames,
      (
        running.cells,
        stack_held map (stack_end map depth) s.memory code _ stop s.registers s.pc running.base t.frames running.frames
            (held_some pool s.parts s.memory _ memory.usable.some memory.shown (links_of map running.base t.frames) _ memory.held),
      ),
    )
