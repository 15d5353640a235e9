-- What the processor comes to by a line of the machine of the placed form, and how the relation is kept.
use Rattle.std.proofs.Common.{◌≡◌, ◌≢◌, ◌≤◌, ◌<◌, ◌==◌, ◌&&◌, Bool, not, ℕ, zero, suc, ◌+◌, ◌*◌, ◌%◌, ◌^◌, List, [], ◌∷◌, length, Option, Some, None, true, false, cond, All, refl, sym, ap, ◌∙◌, subst, arith, lit<}
use Rattle.std.proofs.Math.Nat.{suc-mul, mul-le-mul_right}
use Rattle.std.proofs.lemmas.Bool.{and_from, ne_eqb, false≢true}
use Rattle.kk_base.specs.Memory.{Part}
use Rattle.rv_isa.specs.PlacedCode.{PlacedLine, PlacedLines}
use Rattle.rv_isa.specs.Conventions.{is_handed_out, one_register, header_register}
use Rattle.rv_isa.specs.Primitives.{Turn, go, ended, stuck, or_stuck}
use Rattle.rv_isa.specs.Frames.{Frame, put}
use Rattle.rv_isa.specs.PlacedMachine.{PlacedState, PlacedTurn, placed_goes, placed_told}
use Rattle.rv_isa.specs.Bytes.{bytes_at, with_number}
use Rattle.rv_isa.specs.Processor.{Processor, Ending, Progress, goes, value, can_store}
use Rattle.rv_isa.specs.Execution.{rv32im, run}
use Rattle.rv_isa.specs.Standing.{Code}
use Rattle.rv_isa.proofs.Memory.{bytes_at-with_number_apart}
use Rattle.rv_isa.proofs.Runs.{run-zero, Leads-run}
use Rattle.cell_heap.specs.Blocks.{Cells}
use Rattle.cell_heap.specs.ProgramMemory.{HoldsCells}
use Rattle.cell_runtime.specs.Registers.{IsOutside}
use Rattle.std.specs.List.{list_any}
use Rattle.cell_heap.specs.Pool.{Pool}
use Rattle.cell_runtime.specs.World.{World, with_cells, primitives}
use Rattle.rv_place.specs.Addresses.{takes_frame, frame_bias, way_offset}
use Rattle.rv_place.specs.Lines.{Map}
use Rattle.rv_place.specs.Grounds.{Ground, stack_end, constant_bytes}
use Rattle.rv_place.specs.ProcessorStates.{most_lines, IsIn, StackAt, newest_taken, links_of, Agrees, Running, lines_left, StandsFor, Passing}
use Rattle.rv_place.proofs.InstructionExecution.{Done, Gets}
use Rattle.rv_place.proofs.PassedInstructions.{Walks, walks_done}
use Rattle.rv_place.proofs.FrameMemory.{value_kept, agrees_put, agrees_kept, stack_sum, stack_kept}
use Rattle.rv_place.proofs.HeldTokenLinks.{is_fixed, outside_fixed, none_own, roots_done, cells_done}
use Rattle.rv_place.proofs.TargetRegisters.{is_target, target_handed, target_apart}

-- ---- turns

-- where nothing is stuck, a value that is gone on with is there
pub or_stuck_some : {A S H W : Type 0} (o : Option A) (next : A → Turn S H W) (turn : Turn S H W) → or_stuck o next ≡ turn → turn ≢ stuck → (a : A) × (o ≡ Some a) × (next a ≡ turn)
or_stuck_some None next turn is good = absurd (good (sym is))
or_stuck_some (Some a) next turn is good = (a, refl, is)

-- the lines that are left where a run goes on
abbrev pub left_in : PlacedTurn World Ending → ℕ
left_in (go t) = lines_left t.frames
left_in (ended how shared) = 0
left_in stuck = 0

-- the end behind main has an exit of 3 instructions
abbrev pub spare : PlacedTurn World Ending → ℕ
spare (go t) = 0
spare (ended how shared) = 3
spare stuck = 0

-- ---- the stack pointer

pub base_low : (base n frame bottom depth : ℕ) → base + n * frame ≡ bottom + depth * frame → n ≤ depth → bottom ≤ base
base_low base n frame bottom depth sum few = let less : n * frame ≤ depth * frame = mul-le-mul_right frame few in omega arith

pub base_room : (base n frame bottom depth : ℕ) → base + n * frame ≡ bottom + depth * frame → suc n ≤ depth → bottom + frame ≤ base
base_room base n frame bottom depth sum few =
    let less : suc n * frame ≤ depth * frame = mul-le-mul_right frame few in let more = suc-mul n frame in omega arith

pub base_full : (base n frame bottom depth : ℕ) → base + n * frame ≡ bottom + depth * frame → n ≡ depth → base ≡ bottom
base_full base n frame bottom depth sum same = let equal : n * frame ≡ depth * frame = ap (λ k. k * frame) same in omega arith

times_word : (n frame : ℕ) → frame % 4 ≡ 0 → (n * frame) % 4 ≡ 0
times_word zero frame word = let none : 0 * frame ≡ 0 = omega arith in rw none refl
times_word (suc n) frame word = let rest = times_word n frame word in let more = suc-mul n frame in omega arith

pub base_word : (base n frame bottom depth : ℕ) → base + n * frame ≡ bottom + depth * frame → frame % 4 ≡ 0 → bottom % 4 ≡ 0 → base % 4 ≡ 0
base_word base n frame bottom depth sum word bottom_word =
    let a = times_word n frame word in let b = times_word depth frame word in omega arith

-- the last word of a frame is one
pub last_word : (base frame : ℕ) → base % 4 ≡ 0 → frame % 4 ≡ 0 → (base + way_offset frame) % 4 ≡ 0
last_word base frame base_words frame_words = omega arith

-- ---- registers

-- whether a value may be lost where the register changes: zero does not
abbrev pub may_lose : ℕ → Bool
may_lose x = is_handed_out x && not (x == 0)

-- registers of which no value has any
abbrev pub NoneHanded : List ℕ → Type 0
NoneHanded [] = Unit {0}
NoneHanded (y ∷ ys) = (may_lose y ≡ false) × NoneHanded ys

pub outside_handed : (changed : List ℕ) → NoneHanded changed → (x : ℕ) → is_handed_out x ≡ true → x ≢ 0 → IsOutside x changed
outside_handed [] none x handed some = tt
outside_handed (y ∷ ys) none x handed some =
    let has : may_lose x ≡ true = and_from (is_handed_out x) (not (x == 0)) handed (ap not (ne_eqb x 0 some)) in
    ((λ same. false≢true (sym none.0 ∙ ap may_lose (sym same) ∙ has)), outside_handed ys none.1 x handed some)

pub agrees_done : {cells : ℕ} {code : Code} {n : ℕ} {changed : List ℕ} {memory : ℕ → ℕ} {next : ℕ} (s u : Processor) (known : ℕ → Option ℕ) → Done cells code n changed memory next s u → NoneHanded changed → Agrees known s.registers → Agrees known u.registers
agrees_done {changed = changed} s u known done none agrees = agrees_kept known s.registers u.registers agrees (λ x handed. value_kept x s.registers u.registers (λ some. done.kept x (outside_handed changed none x handed some)))

-- a register that got a word, which may be known
pub agrees_got : {cells : ℕ} {code : Code} {n rd word next : ℕ} (s : Processor) (known : ℕ → Option ℕ) (w : Option ℕ) (gets : Gets cells code n (rd ∷ []) rd word next s) → is_target rd ≡ true
    → ((v : ℕ) → w ≡ Some v → (word ≡ v) × (v < 2 ^ 32)) → Agrees known s.registers → Agrees (put rd w known) gets.after.registers
agrees_got {rd = rd} {word = word} s known w gets target new agrees =
    agrees_put rd w known s.registers gets.after.registers agrees (target_handed rd target)
    (λ v is. let both = new v is in (gets.value_is (target_apart rd 0 refl target) ∙ both.0, both.1))
    (λ x some apart. gets.done.kept x (apart, tt))

-- ---- what is come to

module _ (map : Map) (pool : Pool) (functions : List PlacedLines) (depth stop : ℕ) (code : Code) (parts : List Part) where
  -- The processor comes to what stands for a turn, by so many instructions at most. Where there is none, a line is behind it.
  pub record Comes (most old : ℕ) (turn : PlacedTurn World Ending) (s : Processor) : Type 0 where
    pub steps : ℕ
    pub after : Progress
    pub runs : run steps s ≡ after
    pub stands_for : (credit idle : ℕ) → 3 ≤ credit → left_in turn ≤ idle → StandsFor map pool functions depth stop code parts credit idle turn after
    pub told : placed_told (primitives map.constants pool) turn ≡ after.processor.trace
    pub within : steps ≤ most + spare turn
    pub moves : 1 + left_in turn ≤ steps * suc (most_lines functions) + old
    pub passes : (k : ℕ) → k < steps → Passing map pool (run k s)

  left_few : (t : PlacedState World) (at base : ℕ) (registers memory : ℕ → ℕ) → StackAt map code (most_lines functions) stop (stack_end map depth) registers memory at base t.frames → lines_left t.frames ≤ most_lines functions
  left_few t at base registers memory stand = by t.frames stand
    where
      by : (frames : List (Frame PlacedLine)) → StackAt map code (most_lines functions) stop (stack_end map depth) registers memory at base frames → lines_left frames ≤ most_lines functions
      by [] stand = omega arith
      by (frame ∷ frames) stand = stand.0.few

  some_moves : (n left most old : ℕ) → 1 ≤ n → left ≤ most → 1 + left ≤ n * suc most + old
  some_moves zero left most old some few = omega arith
  some_moves (suc n) left most old some few = let more = suc-mul n (suc most) in omega arith

  pub comes_go : (most old : ℕ) (t : PlacedState World) (s u : Processor) (n : ℕ) → Walks map pool n s u → Running map pool functions depth stop code parts t u → 1 ≤ n → n ≤ most → Comes most old (go t) s
  comes_go most old t s u n walks running some within = record {
    steps = n;
    after = goes u;
    runs = Leads-run walks.leads;
    stands_for = λ credit idle saved left. (u, refl, saved, left, running);
    told = sym running.trace;
    within = omega arith;
    moves = some_moves n (lines_left t.frames) (most_lines functions) old some (left_few t u.pc running.base u.registers u.memory running.frames);
    passes = walks.passes;
  }

  -- nothing is done, and a line is behind
  pub comes_idle : (most old : ℕ) (t : PlacedState World) (s : Processor) → Running map pool functions depth stop code parts t s → 1 + lines_left t.frames ≤ old → Comes most old (go t) s
  comes_idle most old t s running less = record {
    steps = 0;
    after = goes s;
    runs = run-zero rv32im s;
    stands_for = λ credit idle saved left. (s, refl, saved, left, running);
    told = sym running.trace;
    within = omega arith;
    moves = omega arith;
    passes = λ k less. absurd (omega arith);
  }

  -- the end of a run
  pub comes_ended : (most old : ℕ) (how : Ending) (world : World) (s : Processor) (n : ℕ) (after : Progress) → run n s ≡ after → ((k : ℕ) → k < n → Passing map pool (run k s)) → StandsFor map pool functions depth stop code parts 3 0 (ended how world) after → 1 ≤ n → n ≤ most + 3 → Comes most old (ended how world) s
  comes_ended most old how world s n after runs passes stands some within = record {
    steps = n;
    after = after;
    runs = runs;
    stands_for = λ credit idle saved left. stands;
    told = sym stands.1;
    within = within;
    moves = some_moves n 0 (most_lines functions) old some (omega arith);
    passes = passes;
  }

  -- ---- the relation is kept

  pub runs_on : {n : ℕ} {changed : List ℕ} {memory : ℕ → ℕ} {next : ℕ} (t : PlacedState World) (cells : Cells) (s u : Processor) (frames : List (Frame PlacedLine)) (known : ℕ → Option ℕ) (base : ℕ)
      → Running map pool functions depth stop code parts t s → Done pool.cells code n changed memory next s u → IsOutside one_register changed → IsOutside header_register changed
      → bytes_at memory map.constants.first (constant_bytes map) ≡ bytes_at s.memory map.constants.first (constant_bytes map)
      → length frames ≤ depth → value u.registers 2 ≡ newest_taken map base frames + frame_bias map.jumps → StackAt map code (most_lines functions) stop (stack_end map depth) u.registers memory next base frames → Agrees known u.registers
      → HoldsCells pool cells (links_of map base frames) u → Running map pool functions depth stop code parts (record { frames = frames; registers = known; shared = with_cells t.shared cells }) u
  runs_on {memory = memory} {next = next} t cells s u frames known base running done outside apart same room base_is stand agrees holds =
      let at_pc : StackAt map code (most_lines functions) stop (stack_end map depth) u.registers memory u.pc base frames = subst (λ a. StackAt map code (most_lines functions) stop (stack_end map depth) u.registers memory a base frames) (sym done.pc_is) stand in
      record {
        rests = record {
          stands = done.stands;
          parts_are = done.parts_are ∙ running.rests.parts_are;
          constants = ap (λ m. bytes_at m map.constants.first (constant_bytes map)) done.memory_is ∙ (same ∙ running.rests.constants);
        };
        trace = done.trace_is ∙ running.trace;
        left = done.left_is ∙ running.left;
        bytes = subst (λ bytes. All (λ byte. byte < 256) bytes) (sym done.left_is) running.bytes;
        room = room;
        base = base;
        base_is = base_is;
        frames = subst (λ m. StackAt map code (most_lines functions) stop (stack_end map depth) u.registers m u.pc base frames) (sym done.memory_is) at_pc;
        registers = agrees;
        one = done.kept one_register outside ∙ running.one;
        header = done.kept header_register apart ∙ running.header;
        cells = holds;
      }

-- ---- a line of the newest frame

module _ {map : Map} {pool : Pool} {functions : List PlacedLines} {depth buffer stop : ℕ} {code : Code} {parts : List Part} (ground : Ground map pool functions depth buffer stop code parts)
    (f : Frame PlacedLine) (fs : List (Frame PlacedLine)) (known : ℕ → Option ℕ) (world : World) (s : Processor)
    (running : Running map pool functions depth stop code parts (record { frames = f ∷ fs; registers = known; shared = world }) s) where
  base_sum : running.base + suc (length fs) * map.frame ≡ map.bottom + depth * map.frame
  base_sum = stack_sum map code (most_lines functions) stop (stack_end map depth) s.registers s.memory s.pc running.base (f ∷ fs) running.frames

  -- the stack pointer is at the frame, where the function takes one
  pub framed_base : takes_frame map.jumps f.whole ≡ true → value s.registers 2 ≡ running.base + frame_bias map.jumps
  framed_base takes = running.base_is ∙ ap (λ t. cond t running.base (running.base + map.frame) + frame_bias map.jumps) takes

  -- else at the one before it
  pub bare_base : takes_frame map.jumps f.whole ≡ false → value s.registers 2 ≡ running.base + map.frame + frame_bias map.jumps
  bare_base bare = running.base_is ∙ ap (λ t. cond t running.base (running.base + map.frame) + frame_bias map.jumps) bare

  pub sp_low : map.bottom ≤ running.base
  sp_low = base_low running.base (suc (length fs)) map.frame map.bottom depth base_sum running.room

  pub sp_word : running.base % 4 ≡ 0
  sp_word = base_word running.base (suc (length fs)) map.frame map.bottom depth base_sum ground.frame_words ground.bottom_word

  pub sp_high : running.base + map.frame ≤ stack_end map depth
  sp_high =
      let sum = base_sum in let more = suc-mul (length fs) map.frame in omega arith

  pub sp_room : suc (length (f ∷ fs)) ≤ depth → map.bottom + map.frame ≤ running.base
  sp_room room = base_room running.base (suc (length fs)) map.frame map.bottom depth base_sum room

  pub sp_last : depth ≤ length (f ∷ fs) → running.base ≡ map.bottom
  sp_last full = let room = running.room in base_full running.base (suc (length fs)) map.frame map.bottom depth base_sum (omega arith)

  -- a store to the stack leaves the constants alone
  pub constants_kept : (at v : ℕ) → can_store parts at 4 ≡ true → bytes_at (with_number at 4 v s.memory) map.constants.first (constant_bytes map) ≡ bytes_at s.memory map.constants.first (constant_bytes map)
  constants_kept at v allowed = bytes_at-with_number_apart at 4 v s.memory map.constants.first (constant_bytes map) (ground.constants_kept at 4 allowed (lit< tt))

  -- Instructions that change no memory lead on in the same frame. Where its function takes no frame, they leave ra as it is.
  pub stays : (most old : ℕ) {n : ℕ} {changed : List ℕ} {next : ℕ} (u : Processor) (behind : List PlacedLine) (known' : ℕ → Option ℕ) → Done pool.cells code n changed s.memory next s u → IsOutside 2 changed → list_any is_fixed changed ≡ false
      → (takes_frame map.jumps f.whole ≡ false → value u.registers 1 ≡ value s.registers 1)
      → IsIn map code (most_lines functions) next (record f { code = behind }) → Agrees known' u.registers → 1 ≤ n → n ≤ most
      → Comes map pool functions depth stop code parts most old (placed_goes (record f { code = behind }) fs known' world) s
  stays most old {n = n} {changed = changed} {next = next} u behind known' done outside none link is_in agrees some within =
      let stand = running.frames in
      comes_go map pool functions depth stop code parts most old (record { frames = record f { code = behind } ∷ fs; registers = known'; shared = world }) s u n (walks_done done)
      (runs_on map pool functions depth stop code parts (record { frames = f ∷ fs; registers = known; shared = world }) world.cells s u (record f { code = behind } ∷ fs) known' running.base running done (outside_fixed one_register refl changed none) (outside_fixed header_register refl changed none) refl running.room
      (done.kept 2 outside ∙ running.base_is)
      (stack_kept map code (most_lines functions) stop (stack_end map depth) ground.some_frame s.registers u.registers s.memory s.memory next running.base (record f { code = behind }) fs link (λ x low high. refl)
      (is_in, stand.1, stand.2, stand.3)) agrees (cells_done running.cells (roots_done done (none_own changed none)) done.memory_is)) some within
