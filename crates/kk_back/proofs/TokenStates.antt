-- The image comes to each state of the machine with tokens: its assembler code does, and memory has the cells and the held tokens
-- of that.
use Rattle.std.proofs.Common.{◌≡◌, ◌≢◌, ℕ, ◌<◌, List, All, ap, subst, ◌∙◌}
use Rattle.kk_base.specs.Machines.{state, trace}
use Rattle.kk_source.specs.State.{Environment}
use Rattle.kk_counted.specs.TokenCosts.{token_cost}
use Rattle.kk_counted.specs.TokenKeeping.{token_after}
use Rattle.kk_counted.specs.TokenStates.{TokenSetting, TokenJoin, TokenControl, token_first_state}
use Rattle.kk_counted.specs.TokenedCodes.{Tokened, TokenedProgram}
use Rattle.cell_runtime.specs.Operations.{Constants}
use Rattle.cell_runtime.specs.World.{first_world, primitives}
use Rattle.elf_image.specs.Parts.{memory_of}
use Rattle.elf_image.specs.declared.part.Part.{Part}
use Rattle.rv_cells.specs.Layout.{Layout}
use Rattle.rv_cells.specs.TokenMemory.{held_cells, token_setting_on, tokened_outside, FollowsTokenStates}
use Rattle.rv_isa.specs.AsmCode.{Lines}
use Rattle.rv_isa.specs.AsmMachine.{asm_machine, asm_start}
use Rattle.rv_isa.specs.Execution.{rv32im, run}
use Rattle.rv_isa.specs.Primitives.{stuck}
use Rattle.rv_isa.specs.Processor.{Processor, start, goes}
use Rattle.rv_isa.specs.ProcessorMachine.{processor_machine}
use Rattle.kk_back.specs.Assembled.{IsAsmImage}
use Rattle.kk_back.specs.Memory.{frames_end}
use Rattle.kk_back.specs.TokenStates.{token_setting, HasTokenState, ComesToTokenStates}
use Rattle.kk_back.proofs.HeldFrames.{frames_linked}

module _ (functions : List Lines) (texts : List (List ℕ)) (main : Lines) (cells depth entry : ℕ) (parts : List Part)
    (image : IsAsmImage functions texts main cells depth entry parts) (layout : Layout) (code : TokenedProgram) where
  abbrev constants : Constants
  constants = record { first = image.first; texts = texts }

  -- where the frames end
  abbrev stack : ℕ
  stack = frames_end image.pool depth image.lines.frame

  -- where the machine with tokens is at a form, the run goes on, has told the same events, and memory has the state
  abbrev IsThere : List ℕ → ℕ → TokenSetting → Type 0
  IsThere input n setting =
      (form : Tokened) (environment : Environment) (joins : List TokenJoin)
      → (token_after token_cost setting input n).control ≡ TokenControl.running form environment joins
      → (count : ℕ) × ((s : Processor) × ((run count (start (memory_of parts) entry input) ≡ goes s)
      × ((trace (processor_machine rv32im) count (goes (start (memory_of parts) entry input))
      ≡ trace (tokened_outside setting) n (token_first_state setting input))
      × HasTokenState image.pool layout image.lines.frame stack (token_after token_cost setting input n) s)))

  module _ (follows : (input : List ℕ) → All (λ byte. byte < 256) input
      → FollowsTokenStates layout code texts functions main image.pool depth image.first input)
      (never : (input : List ℕ) → All (λ byte. byte < 256) input → (n : ℕ)
      → state (asm_machine (primitives constants image.pool) depth functions) n (asm_start main (first_world image.pool input))
      ≢ stuck) where
    arrives : (input : List ℕ) → All (λ byte. byte < 256) input → (n : ℕ)
        → IsThere input n (token_setting_on code image.pool depth)
    arrives input bytes n form environment joins runs =
        let (m, (high, (there, (told, has)))) = follows input bytes n form environment joins runs in
        let (count, (s, (goes_on, (events, (links, (memory, held)))))) =
        image.lines.follows input bytes (never input bytes) m high there in (
          count,
          (
            s,
            (
              goes_on,
              (
                events ∙ told,
                record {
                  cells = high.shared.cells;
                  links = links;
                  memory = memory;
                  held = held_cells high.frames;
                  linked = frames_linked image.lines.frame stack high.frames links held;
                  has = has;
                },
              ),
            ),
          ),
        )

    -- so the image comes to the states
    pub comes_to_states : ComesToTokenStates layout code cells depth entry parts
    comes_to_states = record {
      pool = image.pool;
      cells_are = image.cells_are;
      frame = image.lines.frame;
      fill = image.lines.fill;
      comes = λ input bytes n.
          subst (IsThere input n) (ap (λ k. token_setting code k depth) image.cells_are) (arrives input bytes n);
    }
