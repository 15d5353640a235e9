-- The image of a placed text gives what a run of its code rests on.
use Rattle.std.proofs.Common.{◌≡◌, ◌≤◌, ◌<◌, ℕ, ◌+◌, ◌*◌, ◌%◌, inl, inr, ◌++◌, length, Some, refl, ap, sym, subst, arith}
use Rattle.std.proofs.lemmas.Option.{slice_get_within}
use Rattle.rv_isa.specs.declared.placed.DataSection.{DataSection}
use Rattle.rv_isa.specs.Standing.{Has}
use Rattle.elf_image.specs.Program.{page_size}
use Rattle.elf_image.specs.Program.{text_start}
use Rattle.rv_isa.specs.declared.routine.Routine.TheVariants as routine
use Rattle.rv_isa.specs.declared.instr.Instr.{Instr}
use Rattle.rv_isa.specs.declared.placed.Placed.{Placed}
use Rattle.rv_isa.specs.declared.placed.Symbol.{Symbol}
use Rattle.rv_isa.specs.declared.placed.Symbol.TheVariants as symbol
use Rattle.rv_isa.specs.PlacedCode.{placed_functions, placed_natives, placed_memory}
use Rattle.rv_isa.specs.Sizes.{reach_down, wide_frame}
use Rattle.rv_isa.specs.Standing.{Code, code_of}
use Rattle.rv_isa.proofs.Standing.{Has-front, Has-get, code_of-Has, code_of-place}
use Rattle.cell_runtime.specs.Layouts.{below_pointer, layout_of}
use Rattle.cell_runtime.specs.Lines.{words_of}
use Rattle.cell_runtime.proofs.AddressReach.{below_most}
use Rattle.cell_runtime.specs.Texts.{IsRuntime, runtime_labels, IsText}
use Rattle.kk_base.specs.Sizes.{greatest_cells, greatest_depth}
use Rattle.cell_runtime.specs.Sizes.{runtime_words}
use Rattle.cell_runtime.specs.declared.process.Ending.TheVariants as ending
use Rattle.cell_runtime.specs.Prints.{buffer_bytes, IsPrintInt, IsPrintText, IsReadByte}
use Rattle.cell_runtime.specs.Stops.{IsStop}
use Rattle.cell_runtime.specs.Takes.{IsTake}
use Rattle.cell_runtime.specs.Drops.{IsDrop}
use Rattle.rv_place.specs.Images.{code_in}
use Rattle.rv_place.specs.declared.words.Words.{Words}
use Rattle.rv_isa.specs.FrameSizes.{frame_size}
use Rattle.rv_place.specs.Addresses.{jump_words, words_of_functions, IsBehind}
use Rattle.rv_place.specs.declared.reach.Reach.TheVariants.{Near}
use Rattle.rv_place.specs.Texts.{ArePlaceable, most_text_words, most_constant_bytes, text_bytes, memory_of, pool_in, map_of, ArePlacedWords}
use Rattle.rv_place.specs.Grounds.{HasRoutine, Ground}
use Rattle.rv_place.proofs.BootMemory.{two_parts, text-loaded, memory-loaded, memory-stored, stored-behind}
use Rattle.rv_place.proofs.BootSizes.{memory_behind, memory_page, stack_most, words_most, bytes_most, memory_most}
use Rattle.rv_place.proofs.PointerShifts.{bias_below}

-- the stop behind the start, where main comes back to
abbrev pub stop_address : ℕ
stop_address = text_start + 44

-- ---- the symbols

behind_stop_full : IsBehind symbol.StackFull 14 runtime_labels
behind_stop_full = inr (λ e. cc, inr (λ e. cc, inl (refl, refl)))

behind_take : IsBehind (symbol.Routine routine.Take) 17 runtime_labels
behind_take = inr (λ e. cc, inr (λ e. cc, inr (λ e. cc, inl (refl, refl))))

behind_drop : IsBehind (symbol.Routine routine.Drop) 34 runtime_labels
behind_drop = inr (λ e. cc, inr (λ e. cc, inr (λ e. cc, inr (λ e. cc, inl (refl, refl)))))

behind_print_int : IsBehind (symbol.Routine routine.PrintInt) 62 runtime_labels
behind_print_int = inr (λ e. cc, inr (λ e. cc, inr (λ e. cc, inr (λ e. cc, inr (λ e. cc, inl (refl, refl))))))

behind_print_text : IsBehind (symbol.Routine routine.PrintText) 86 runtime_labels
behind_print_text =
    inr (λ e. cc, inr (λ e. cc, inr (λ e. cc, inr (λ e. cc, inr (λ e. cc, inr (λ e. cc, inl (refl, refl)))))))

behind_read_byte : IsBehind (symbol.Routine routine.ReadByte) 92 runtime_labels
behind_read_byte =
    inr (λ e. cc, inr (λ e. cc, inr (λ e. cc, inr (λ e. cc, inr (λ e. cc, inr (λ e. cc, inr (λ e. cc, inl (refl, refl))))))))

-- ---- the room in memory

-- The text ends before the memory behind it. There the buffer and the cells come first, and the stack behind them; all is far below 2^32.
pub record HasRoom (cells depth frame text memory bottom size : ℕ) : Type 0 where
  pub few_text : text ≤ 4 * most_text_words + most_constant_bytes
  pub behind : text_start + text ≤ memory
  pub near : memory < text_start + 4 * most_text_words + most_constant_bytes + page_size
  pub memory_page : memory % page_size ≡ 0
  pub some_cells : bottom ≡ 32 + 32 * cells + below_pointer frame
  pub few_cells : bottom ≤ 32 + 32 * greatest_cells + reach_down
  pub size_is : size ≡ bottom + depth * frame
  pub few_frames : depth * frame ≤ greatest_depth * wide_frame

pub has-room : {cells depth : ℕ} {runtime program : Placed} → cells ≤ greatest_cells → depth ≤ greatest_depth → IsText cells depth (frame_size (placed_functions program)) runtime → ArePlaceable runtime program
    → HasRoom cells depth (frame_size (placed_functions program)) (text_bytes runtime program) (memory_of runtime program) (placed_memory runtime).stack_bottom (placed_memory runtime).size
has-room {cells} {depth} {runtime} {program} few_cells few_depth is_runtime placeable =
    let below = below_most (frame_size (placed_functions program)) in
    let bottom_is : (placed_memory runtime).stack_bottom ≡ 32 + 32 * cells + below_pointer (frame_size (placed_functions program)) =
    ap (λ (section : DataSection). section.stack_bottom) is_runtime.memory in
    let size_is : (placed_memory runtime).size ≡ 32 + 32 * cells + below_pointer (frame_size (placed_functions program)) + depth * frame_size (placed_functions program) =
    ap (λ (section : DataSection). section.size) is_runtime.memory in
    record {
      few_text = bytes_most placeable;
      behind = memory_behind (text_bytes runtime program);
      near = memory_most placeable;
      memory_page = memory_page (text_bytes runtime program);
      some_cells = bottom_is;
      few_cells = omega (arith, bottom_is, below, few_cells);
      size_is = rw bottom_is size_is;
      few_frames = stack_most depth (frame_size (placed_functions program)) few_depth placeable.frames;
    }

-- ---- the ground

module _ {cells depth : ℕ} {runtime program : Placed} {words : Words} (is_runtime : IsText cells depth (frame_size (placed_functions program)) runtime)
    (placed : ArePlacedWords runtime program words) where
  -- the runtime's own code, at the text's begin
  abbrev pub own_code : Code
  own_code = code_of text_start placed.own

  pub own-part : (at : ℕ) (i : Instr) → own_code at ≡ Some i → code_in words at ≡ Some i
  own-part at i here =
      let code : Code = code_in words in
      let whole : Has code text_start (placed.own ++ placed.rest) = subst (λ is. Has code text_start is) placed.instructions (code_of-Has text_start words.instructions.items) in
      let place = code_of-place text_start placed.own at i here in
      subst (λ a. code a ≡ Some i) (sym place.1) (Has-get code text_start placed.own place.0 i (Has-front code text_start placed.own placed.rest whole) place.2)

  pub own-inside : (at : ℕ) (i : Instr) → own_code at ≡ Some i → (text_start ≤ at) × (at < text_start + 4 * runtime_words)
  own-inside at i here =
      let place = code_of-place text_start placed.own at i here in
      let where_is = place.1 in
      let inside : place.0 < length placed.own = slice_get_within placed.own place.0 i place.2 in
      (omega arith, omega (arith, placed.own_size, is_runtime.words))

  -- the routines stand in it
  pub runtime-stands : IsRuntime cells (layout_of cells depth (frame_size (placed_functions program))) (memory_of runtime program) own_code text_start
  runtime-stands = is_runtime.routines (memory_of runtime program) placed.own own_code text_start placed.spelled (code_of-Has text_start placed.own)

  -- what stands at a symbol, by the number of instructions before it
  routine-at : (name : Symbol) (before : ℕ) (IsOfKind : ℕ → Type 0) → IsBehind name before runtime_labels → IsOfKind (text_start + 4 * before) → HasRoutine (map_of runtime program) name IsOfKind
  routine-at name before IsOfKind behind stands = (text_start + 4 * before, (before, subst (IsBehind name before) (sym is_runtime.labels) behind, refl), stands)

  pub has-ground : (text memory size : ℕ) → text ≡ text_bytes runtime program → memory ≡ memory_of runtime program → 1 ≤ depth → ArePlaceable runtime program
      → HasRoom cells depth (frame_size (placed_functions program)) text memory (placed_memory runtime).stack_bottom size
      → Ground (map_of runtime program) (pool_in cells runtime program) (placed_functions program) depth memory stop_address (code_in words) (two_parts text memory size)
  has-ground text memory size text_is memory_is some_depth placeable room =
      let stands = runtime-stands in
      let bias = bias_below (frame_size (placed_functions program)) jump_words (words_of (placed_natives runtime) + words_of_functions Near (placed_functions program)) in
      let some_cells = room.some_cells in
      let below = below_most (frame_size (placed_functions program)) in
      record {
        functions_at = placed.functions;
        takes = refl;
        below = λ at i here.
            let place = code_of-place text_start words.instructions.items at i here in
            let where_is = place.1 in
            let inside : place.0 < length words.instructions.items = slice_get_within words.instructions.items place.0 i place.2 in
            omega (arith, placed.size, words_most placeable);
        some_frame = omega arith;
        frame_words = omega arith;
        some_depth = some_depth;
        bottom_word = omega (arith, room.memory_page, room.some_cells, bias);
        in_range = omega (arith, room.near, room.few_cells, room.few_frames);
        loads = λ at low high word. memory-loaded text memory size at 4 (omega arith) (omega (arith, room.size_is));
        stores = λ at low high word. memory-stored text memory size at 4 (omega arith) (omega (arith, room.size_is));
        buffer_below = omega (arith, memory_is);
        cells_below = omega (arith, room.some_cells, memory_is, bias);
        buffer_loads = memory-loaded text memory size memory buffer_bytes (omega arith) (omega (arith, room.size_is, room.some_cells));
        buffer_stores = memory-stored text memory size memory buffer_bytes (omega arith) (omega (arith, room.size_is, room.some_cells));
        byte_loads = memory-loaded text memory size memory 1 (omega arith) (omega (arith, room.size_is, room.some_cells));
        byte_stores = memory-stored text memory size memory 1 (omega arith) (omega (arith, room.size_is, room.some_cells));
        constants_below = omega (arith, room.few_text);
        constants_load = λ at count low high. text-loaded text memory size at count (omega arith) (omega arith);
        constants_kept = λ x count allowed some. let behind = stored-behind text memory size x count allowed some in inl (omega (arith, room.behind));
        runtime_word = refl;
        own = own_code;
        own_part = own-part;
        own_inside = own-inside;
        take = routine-at (symbol.Routine routine.Take) 17 (IsTake (pool_in cells runtime program) own_code) behind_take stands.take;
        give_up = routine-at (symbol.Routine routine.Drop) 34 (IsDrop own_code) behind_drop stands.give_up;
        print_int = routine-at (symbol.Routine routine.PrintInt) 62 (IsPrintInt memory own_code) behind_print_int (rw memory_is stands.print_int);
        print_text = routine-at (symbol.Routine routine.PrintText) 86 (IsPrintText own_code) behind_print_text stands.print_text;
        read_byte = routine-at (symbol.Routine routine.ReadByte) 92 (IsReadByte memory own_code) behind_read_byte (rw memory_is stands.read_byte);
        stack_full = routine-at symbol.StackFull 14 (IsStop ending.StackFull own_code) behind_stop_full stands.stack_full;
        stop_word = refl;
        stop_below = omega arith;
        ends = stands.ended;
      }
