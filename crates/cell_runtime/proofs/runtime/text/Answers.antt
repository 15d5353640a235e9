use Rattle.std.proofs.Common.{◌≡◌, ◌+◌, ◌*◌, [], refl, sym, ap, subst, arith}
use Rattle.rv_isa.specs.declared.routine.Routine.TheVariants.{Take, Drop, PrintInt, PrintText, ReadByte}
use Rattle.rv_isa.specs.declared.placed.Symbol.TheVariants.{Start, Routine, Stop, StackFull}
use Rattle.cell_heap.specs.Pool.{end_of}
use Rattle.cell_runtime.specs.Layouts.{layout_of}
use Rattle.cell_runtime.specs.Starts.{IsStart, IsStartOf}
use Rattle.cell_runtime.specs.Texts.{pool_of, greatest_reach}
use Rattle.cell_runtime.proofs.AddressReach.{reach_is_small}
use Rattle.cell_runtime.proofs.Spelling.{Composes, composes_none, composes_then, composes_within}
use Rattle.cell_runtime.proofs.runtime.text.Goals as goal
use Rattle.cell_runtime.specs.Sizes.{runtime_words}

pub returns : goal.returns
returns c =
    let cells = c.args.cells in
    let layout = layout_of cells c.args.depth c.args.frame_bytes in
    let none = subst (λ lines. Composes lines 0 0 [] (λ memory code at. Unit {0})) (sym c.new-lines.ensures.items) composes_none in
    let start = composes_then Start c.in_ok-add.ensures none c.start.ensures in
    let ended = composes_then Stop c.in_ok-add-2.ensures start c.stop.ensures in
    let full = composes_then StackFull c.in_ok-add-3.ensures ended c.stop-2.ensures in
    let take = composes_then (Routine Take) c.in_ok-add-4.ensures full c.take.ensures in
    let give_up = composes_then (Routine Drop) c.in_ok-add-5.ensures take c.give_up.ensures in
    let print_int = composes_then (Routine PrintInt) c.in_ok-add-6.ensures give_up c.print_int.ensures in
    let print_text = composes_then (Routine PrintText) c.in_ok-add-7.ensures print_int c.print_text.ensures in
    let whole = composes_then (Routine ReadByte) c.in_ok-add-8.ensures print_text c.read_byte.ensures in
    record {
      memory = ap (λ l. record { size = l.stack_end; stack_bottom = l.stack }) c.new-layout.ensures;
      functions = refl;
      constants = refl;
      words = whole.size;
      labels = whole.labels_are;
      within =
          let near = reach_is_small cells c.args.depth c.args.frame_bytes c.new-layout.result c.new-layout.ensures c.requires.cells c.requires.depth (omega (arith, c.requires.frame)) in
          composes_within whole greatest_reach (omega (arith, near));
      routines = λ memory is code at spells has.
          let pool = pool_of cells memory in
          let all = whole.code memory is code at spells has in
          let first : at + 4 * 0 ≡ at = omega arith in
          let starts = subst (λ l. IsStartOf l memory code (at + 4 * 0)) c.new-layout.ensures all.0.0.0.0.0.0.0.1 in
          let end : end_of pool ≡ memory + layout.cells_end = omega arith in
          record {
            start = subst (λ a. IsStart pool (memory + layout.stack_end) (a + 4 * runtime_words) code a) first (starts pool refl end);
            ended = all.0.0.0.0.0.0.1;
            stack_full = all.0.0.0.0.0.1;
            take = all.0.0.0.0.1 pool;
            give_up = all.0.0.0.1;
            print_int = all.0.0.1;
            print_text = all.0.1;
            read_byte = all.1;
          };
    }
