use Rattle.std.proofs.Common.{◌≤◌, sym, subst, List, length, ℕ, ◌+◌, ◌-◌, arith, refl}
use Rattle.elf_image.specs.Program.{text_of}
use Rattle.kk_syntax.specs.GroundPrograms.{ground_program}
use Rattle.kk_syntax.specs.Programs.{program_tree}
use Rattle.kk_syntax.specs.Shapes.{greatest_nodes}
use Rattle.kk_mono.specs.Grounds.{instances_of}
use Rattle.kk_core.specs.Sizes.{most_parameters}
use Rattle.kk_counted.specs.CountedCodes.{CountedProgram}
use Rattle.kk_counted.specs.FunctionSizes.{AllHaveVariablesBelow}
use Rattle.kk_counted.specs.Programs.{program_of}
use Rattle.kk_counted.specs.TokenedForms.{tokened_program}
use Rattle.kk_middle.specs.Compiled.{instance_positions}
use Rattle.kk_middle.specs.Meaning.{store_steps}
use Rattle.kk_middle.specs.TokenLowerings.{tokened_of, token_room, TokensCanBeLowered}
use Rattle.kk_source.specs.Settings.{setting_of}
use Rattle.rv_isa.specs.FrameSizes.{frame_size}
use Rattle.rv_isa.specs.PlacedCode.{placed_functions}
use Rattle.kk_back.specs.Images.{IsRunnable, IsImageOf, IsImageOfTokened}
use Rattle.kk_back.specs.Memory.{HasMemory}
use Rattle.kk_back.specs.Sizes.{most_text_bytes}
use Rattle.kk_build.proofs.FileAgreement.{file_agrees, file_leaves, file_is_bounded}
use Rattle.kk_build.proofs.FileRuns.{touches_as_loaded}
use Rattle.kk_build.proofs.Nodes.{instances_have_no_more, program_has_some}
use Rattle.kk_build.proofs.ImageConditions.{runnable}
use Rattle.kk_build.proofs.TextBytes.{bytes_few}
use Rattle.kk_build.proofs.file_of.Goals as goal

pub image-requires-clause-runnable : goal.image-requires-clause-runnable
image-requires-clause-runnable c =
    let typed = c.args.accepted.now.typed in
    let given = c.args.accepted.now.instances in
    let made = c.in_ok-tokened.tokened in
    let counted = c.in_ok-tokened.ensures.0 in
    let compiled = c.in_ok-tokened.ensures.1 in
    let of = c.in_ok-tokened.ensures.2 in
    let checked = c.requires.checked in
    let lent = c.requires.lent compiled.table in
    let cells = c.args.cells in
    let depth = c.args.depth in
    subst (λ (texts : List (List ℕ)). IsRunnable made.shape (tokened_program made.functions.items texts) cells depth)
    (sym c.deref.ensures.value)
    (runnable c.judged_programs_are_fit.ensures counted made given cells depth
    (setting_of (program_tree typed.program) compiled.table cells depth)
    (instance_positions given compiled.table) (greatest_nodes (ground_program given)) (store_steps (ground_program given))
    c.requires.sizes of.shape
    (c.compiled_tokens_can_be_lowered.ensures typed given counted made checked c.requires.given compiled of)
    (c.compiled_programs_can_be_lowered.ensures typed given counted checked c.requires.given compiled lent)
    (c.compiled_programs_are_marked.ensures typed given counted checked c.requires.given compiled) compiled.numbers
    (c.compiled_programs_keep_meaning.ensures typed given counted checked c.requires.given compiled lent cells depth)
    (c.compiled_programs_have_their_kinds.ensures typed given counted checked c.requires.given compiled lent cells depth))

pub returns : goal.returns
returns c =
    let typed = c.args.accepted.now.typed in
    let given = c.args.accepted.now.instances in
    let made = c.in_ok-tokened.tokened in
    let counted = c.in_ok-tokened.ensures.0 in
    let compiled = c.in_ok-tokened.ensures.1 in
    let cells = c.args.cells in
    let depth = c.args.depth in
    let code = program_of counted.functions.items given.texts.items in
    let program = program_tree typed.program in
    let greatest = greatest_nodes (ground_program given) in
    let room = token_room given in
    let entry = c.in_ok-image.image.entry in
    let parts = c.in_ok-image.image.parts in
    let tokens : TokensCanBeLowered counted made given
    = c.compiled_tokens_can_be_lowered.ensures typed given counted made c.requires.checked c.requires.given compiled
    c.in_ok-tokened.ensures.2 in
    let image : IsImageOf code room cells depth entry parts =
    subst (λ (bare : CountedProgram). IsImageOf bare room cells depth entry parts) tokens.form
    (subst (λ (texts : List (List ℕ)). IsImageOfTokened (tokened_program made.functions.items texts) cells depth entry parts)
    c.deref.ensures.value c.in_ok-image.ensures.does room tokens.room) in
    let positions = instance_positions given compiled.table in
    let up = store_steps (ground_program given) in
    let keeps = c.compiled_programs_keep_meaning.ensures typed given counted c.requires.checked c.requires.given compiled
    (c.requires.lent compiled.table) cells depth in
    let loaded = c.in_ok-file.ensures.read_again in
    let memory : HasMemory (tokened_of made given) cells depth parts
    = subst (λ (texts : List (List ℕ)). HasMemory (tokened_program made.functions.items texts) cells depth parts)
    c.deref.ensures.value c.in_ok-image.ensures.memory in
    let lowered = c.compiled_programs_can_be_lowered.ensures typed given counted c.requires.checked c.requires.given compiled
    (c.requires.lent compiled.table) in
    let variables = subst (λ (bare : CountedProgram). AllHaveVariablesBelow (greatest + most_parameters) bare.functions)
    (sym tokens.form) lowered.variables in
    let frame = memory.few (greatest + most_parameters) (greatest - 1) variables tokens.slots in
    let most = instances_have_no_more c.requires.given.instances in
    let some = program_has_some c.requires.given.instances in
    let words = c.compiled_programs_take_few_words.ensures typed given counted made c.requires.checked c.requires.given compiled
    c.in_ok-tokened.ensures.2 in
    let bytes : length (text_of parts) ≤ most_text_bytes (tokened_of made given)
    = subst (λ (texts : List (List ℕ)). length (text_of parts) ≤ most_text_bytes (tokened_program made.functions.items texts))
    c.deref.ensures.value c.in_ok-image.ensures.text in
    record {
      text = record {
        instances = instances_of given;
        are = c.requires.given.instances.are;
        few = bytes_few c.requires.given.instances (tokened_of made given) (length (text_of parts)) c.requires.given.small
            words bytes;
      };
      memory = record {
        frame = frame_size (placed_functions memory.placed);
        size = memory.is.size;
        few = omega (arith, frame, most, some);
      };
      is_image = record {
        entry = entry;
        parts = parts;
        program = c.in_ok-image.ensures.program;
        written = c.in_ok-file.ensures.written;
        loads = loaded;
      };
      setting = setting_of program compiled.table cells depth;
      is_run = record { positions = compiled.table; least = compiled.least; is = refl };
      agrees = file_agrees program compiled.table positions code greatest room up (omega arith) cells depth entry parts image keeps
          loaded;
      leaves_no_cell = file_leaves program compiled.table positions code greatest room up (omega arith) cells depth entry parts
          image keeps loaded;
      touches_no_free = touches_as_loaded loaded (setting_of program compiled.table cells depth) cells image.touches_no_free;
      bounded = λ nodes few.
          file_is_bounded program compiled.table positions code greatest room up (omega arith) cells depth entry parts image keeps
          loaded nodes (omega (arith, most, few)) (omega (arith, some, few));
    }
