-- Calls of routines as actions: which routine is called, and with which words.
use Rattle.std.proofs.Common.{◌≡◌, ◌≢◌, ◌<◌, ℕ, ◌+◌, ◌*◌, ◌^◌, List, ◌∷◌, Option, Some, true, map}
use Rattle.std.proofs.lemmas.Bool.{and_parts}
use Rattle.kk_base.specs.Memory.{Part}
use Rattle.rv_isa.specs.declared.asm.Action.TheVariants.{Routine}
use Rattle.rv_isa.specs.declared.routine.Routine.{Routine as Called}
use Rattle.rv_isa.specs.declared.routine.Routine.TheVariants.{Take, Drop, PrintInt, PrintText, ReadByte}
use Rattle.rv_isa.specs.declared.placed.Operand.{Operand}
use Rattle.rv_isa.specs.PlacedCode.{PlacedLine, PlacedLines}
use Rattle.rv_isa.specs.Conventions.{conforms, take_from, gives_into}
use Rattle.rv_isa.specs.Primitives.{stuck}
use Rattle.rv_isa.specs.Frames.{Frame, all_of, top}
use Rattle.rv_isa.specs.PlacedMachine.{PlacedTurn, read_at, placed_acts}
use Rattle.rv_isa.specs.Processor.{Processor, Ending}
use Rattle.rv_isa.specs.Standing.{Code}
use Rattle.cell_heap.specs.Pool.{Pool}
use Rattle.cell_runtime.specs.World.{World, primitives, lasts}
use Rattle.rv_place.specs.Instructions.{words_of_routine}
use Rattle.rv_place.specs.Addresses.{takes_frame}
use Rattle.rv_place.specs.declared.reach.Forms.{Forms}
use Rattle.rv_place.specs.Lines.{Map, ActsAt}
use Rattle.rv_place.specs.Grounds.{Ground}
use Rattle.rv_place.specs.ProcessorStates.{most_lines, IsIn, Running}
use Rattle.rv_place.proofs.LineOutcomes.{Comes}
use Rattle.rv_place.proofs.RoutineSimulation.{two_taken, one_taken, held_words, print_int_words, print_text_words, read_byte_words, take_words}
use Rattle.rv_place.proofs.DropSimulation.{drop_words}

module _ {map_of : Map} {pool : Pool} {functions : List PlacedLines} {depth buffer stop : ℕ} {code : Code} {parts : List Part} (ground : Ground map_of pool functions depth buffer stop code parts)
    (f : Frame PlacedLine) (fs : List (Frame PlacedLine)) (known : ℕ → Option ℕ) (world : World) (s : Processor)
    (running : Running map_of pool functions depth stop code parts (record { frames = f ∷ fs; registers = known; shared = world }) s) (rest : List PlacedLine) (old : ℕ) (forms : Forms)
    (framed : takes_frame map_of.jumps f.whole ≡ true) where
  abbrev behind : Frame PlacedLine
  behind = record f { code = rest }

  pub follow_routine : (routine : Called) (is_behind : (next : ℕ) → s.pc + 4 * words_of_routine forms.jumps routine ≡ next → next < 2 ^ 32 → IsIn map_of code (most_lines functions) next behind)
      (into : Option Operand) (turn : PlacedTurn World Ending) (good : turn ≢ stuck) (start : ℕ) (args : List Operand) (words : List ℕ)
      → ActsAt map_of forms code start f.whole s.pc (Routine routine) args into → conforms (Routine routine) args into ≡ true
      → all_of (map (λ (arg : Operand). read_at known f.cells arg.place) args) ≡ Some words
      → placed_acts (primitives map_of.constants pool) depth functions behind fs known world (Routine routine) args into words ≡ turn
      → Comes map_of pool functions depth stop code parts (2 + lasts pool routine words (top (f ∷ fs)) world) old turn s
  follow_routine PrintInt is_behind into turn good start args words here conform words_are is =
      let fit = and_parts (take_from (Routine PrintInt) 0 args) (gives_into (Routine PrintInt) into) conform in
      let passes = held_words ground f fs known world s running rest old forms framed (Routine PrintInt) args words (two_taken ground f fs known world s running rest old forms framed) fit.0 words_are in
      print_int_words ground f fs known world s running rest old forms framed is_behind into turn good words (top (f ∷ fs)) passes (here ground.print_int.0 ground.print_int.1) fit.1 is
  follow_routine PrintText is_behind into turn good start args words here conform words_are is =
      let fit = and_parts (take_from (Routine PrintText) 0 args) (gives_into (Routine PrintText) into) conform in
      let passes = held_words ground f fs known world s running rest old forms framed (Routine PrintText) args words (two_taken ground f fs known world s running rest old forms framed) fit.0 words_are in
      print_text_words ground f fs known world s running rest old forms framed is_behind into turn good words (top (f ∷ fs)) passes (here ground.print_text.0 ground.print_text.1) fit.1 is
  follow_routine ReadByte is_behind into turn good start args words here conform words_are is =
      let fit = and_parts (take_from (Routine ReadByte) 0 args) (gives_into (Routine ReadByte) into) conform in
      read_byte_words ground f fs known world s running rest old forms framed is_behind into turn good words (top (f ∷ fs)) (here ground.read_byte.0 ground.read_byte.1) fit.1 is
  follow_routine Take is_behind into turn good start args words here conform words_are is =
      let fit = and_parts (take_from (Routine Take) 0 args) (gives_into (Routine Take) into) conform in
      take_words ground f fs known world s running rest old forms framed is_behind into turn good words (here ground.take.0 ground.take.1) fit.1 is
  follow_routine Drop is_behind into turn good start args words here conform words_are is =
      let fit = and_parts (take_from (Routine Drop) 0 args) (gives_into (Routine Drop) into) conform in
      let passes = held_words ground f fs known world s running rest old forms framed (Routine Drop) args words (one_taken ground f fs known world s running rest old forms framed) fit.0 words_are in
      drop_words ground f fs known world s running rest old forms framed (here ground.give_up.0 ground.give_up.1) is_behind into turn good words (top (f ∷ fs)) passes fit.1 is
