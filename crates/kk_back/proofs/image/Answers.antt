use Rattle.kk_counted.specs.TokenedForms.{tokened_program}
use Rattle.rv_isa.specs.AsmCode.{asm_functions, asm_constants}
use Rattle.kk_back.proofs.ImageMeaning.{placeable_of, has_room, is_program, has_memory, text_small, image_is, own_is, token_states_are}
use Rattle.kk_back.proofs.image.Goals as goal

pub assembled-requires-clause-placeable : goal.assembled-requires-clause-placeable
assembled-requires-clause-placeable c =
    let code = tokened_program c.args.tokened.now.functions.items c.args.texts.now in
    placeable_of c.args.tokened.now.shape code (asm_functions c.in_ok-asm.asm) (asm_constants c.in_ok-asm.asm) c.args.cells
    c.args.depth c.requires.runnable c.in_ok-asm.ensures c.lowered_tokened_programs_are_well_formed.ensures
    c.lowered_tokened_programs_are_short.ensures

pub assembled-requires-clause-room : goal.assembled-requires-clause-room
assembled-requires-clause-room c =
    let code = tokened_program c.args.tokened.now.functions.items c.args.texts.now in
    has_room c.args.tokened.now.shape code (asm_functions c.in_ok-asm.asm) (asm_constants c.in_ok-asm.asm) c.args.cells
    c.args.depth c.requires.runnable c.in_ok-asm.ensures c.lowered_tokened_programs_are_well_formed.ensures
    c.lowered_tokened_programs_are_short.ensures

pub returns : goal.returns
returns c =
    let code = tokened_program c.args.tokened.now.functions.items c.args.texts.now in
    record {
      program = is_program c.args.tokened.now.shape code (asm_functions c.in_ok-asm.asm) (asm_constants c.in_ok-asm.asm) c.args.cells
          c.args.depth c.requires.runnable c.in_ok-asm.ensures c.lowered_tokened_programs_are_well_formed.ensures
          c.in_ok-made.made.entry c.in_ok-made.made.parts c.in_ok-made.ensures.does;
      memory = has_memory c.args.tokened.now.shape code (asm_functions c.in_ok-asm.asm) (asm_constants c.in_ok-asm.asm) c.args.cells
          c.args.depth c.requires.runnable c.in_ok-asm.ensures c.lowered_tokened_programs_are_well_formed.ensures
          c.in_ok-made.made.entry c.in_ok-made.made.parts c.in_ok-made.ensures.does c.in_ok-made.ensures.memory
          c.lowered_tokened_programs_have_few_values.ensures;
      text = text_small c.args.tokened.now.shape code (asm_functions c.in_ok-asm.asm) (asm_constants c.in_ok-asm.asm) c.args.cells
          c.args.depth c.requires.runnable c.in_ok-asm.ensures c.lowered_tokened_programs_are_well_formed.ensures
          c.in_ok-made.made.entry c.in_ok-made.made.parts c.in_ok-made.ensures.does c.in_ok-made.ensures.text
          c.lowered_tokened_programs_take_few_words.ensures;
      does = λ room enough.
          image_is c.args.tokened.now.shape code (asm_functions c.in_ok-asm.asm) (asm_constants c.in_ok-asm.asm) c.args.cells
          c.args.depth c.requires.runnable c.in_ok-asm.ensures c.lowered_tokened_programs_are_well_formed.ensures
          c.in_ok-made.made.entry c.in_ok-made.made.parts c.in_ok-made.ensures.does c.lowered_tokened_programs_run_the_same.ensures room
          enough;
      own = own_is c.args.tokened.now.shape code (asm_functions c.in_ok-asm.asm) (asm_constants c.in_ok-asm.asm) c.args.cells
          c.args.depth c.requires.runnable c.in_ok-asm.ensures c.lowered_tokened_programs_are_well_formed.ensures
          c.in_ok-made.made.entry c.in_ok-made.made.parts c.in_ok-made.ensures.does c.lowered_tokened_programs_run_the_same.ensures
          c.lowered_tokened_programs_come_to_their_lines.ensures;
      states = token_states_are c.args.tokened.now.shape code (asm_functions c.in_ok-asm.asm) (asm_constants c.in_ok-asm.asm)
          c.args.cells c.args.depth c.requires.runnable c.in_ok-asm.ensures c.lowered_tokened_programs_are_well_formed.ensures
          c.in_ok-made.made.entry c.in_ok-made.made.parts c.in_ok-made.ensures.does c.lowered_tokened_programs_run_the_same.ensures
          c.lowered_tokened_programs_follow_their_tokens.ensures;
    }
