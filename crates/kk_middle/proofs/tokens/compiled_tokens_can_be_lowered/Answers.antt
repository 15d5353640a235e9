use Rattle.std.proofs.Common.{◌≡◌, ◌-◌, ℕ, sym, ap, subst, ◌∙◌, arith}
use Rattle.kk_syntax.specs.GroundPrograms.{ground_program}
use Rattle.kk_syntax.specs.Shapes.{greatest_nodes}
use Rattle.kk_counted.specs.BareForms.{bare_program}
use Rattle.kk_counted.specs.CountedCodes.{CountedProgram}
use Rattle.kk_counted.specs.FunctionSizes.{AllHaveSlotsBelow}
use Rattle.kk_counted.specs.Programs.{program_of}
use Rattle.kk_counted.specs.TokenCosts.{HasRoom, OpenAtMost}
use Rattle.kk_counted.specs.TokenLengths.{AreTokensShort}
use Rattle.kk_counted.specs.TokenLowerable.{AreTokensLowerable}
use Rattle.kk_counted.specs.TokenSpending.{AreTokensSpent}
use Rattle.kk_counted.specs.TokenedCodes.{TokenedProgram}
use Rattle.kk_reuse.specs.Paired.{AllPaired}
use Rattle.kk_reuse.specs.Pairing.{paired_program}
use Rattle.kk_respec.specs.Respecialised.{respecialised_program}
use Rattle.kk_middle.specs.TokenLowerings.{tokened_of, token_room}
use Rattle.kk_middle.proofs.NodeBounds.{few_opened}
use Rattle.kk_middle.proofs.tokens.compiled_tokens_can_be_lowered.Goals as goal

pub returns : goal.returns
returns c typed given counted made checked are compiled of =
    let greatest : ℕ = greatest_nodes (ground_program given) in
    let program : CountedProgram = program_of counted.functions.items given.texts.items in
    let paired : TokenedProgram = paired_program program in
    let same : tokened_of made given ≡ respecialised_program paired = of.program given.texts.items in
    let opens : OpenAtMost (greatest - 1) program
    = c.compiled_programs_open_few_cells.ensures typed given counted compiled greatest (omega arith) in
    let short = c.compiled_programs_are_short.ensures typed given counted checked are compiled in
    record {
      form = ap bare_program same ∙ c.respecialised_code_has_its_form.ensures.form paired
          ∙ c.paired_code_spends_its_tokens.ensures.form program;
      lowerable = subst (λ (code : TokenedProgram). AreTokensLowerable code.functions) (sym same)
          (c.respecialised_code_can_be_lowered.ensures.lowerable paired
          (c.paired_code_can_be_lowered.ensures (greatest - 1) program opens (few_opened given)));
      slots = subst (λ (code : TokenedProgram). AllHaveSlotsBelow (greatest - 1) code.functions) (sym same)
          (c.respecialised_code_can_be_lowered.ensures.slots (greatest - 1) paired
          (c.paired_code_has_few_slots.ensures (greatest - 1) program opens));
      spends = subst AreTokensSpent (sym same)
          (c.respecialised_code_has_its_form.ensures.spends paired (c.paired_code_spends_its_tokens.ensures.spends program));
      paired = subst AllPaired (sym same)
          (c.respecialised_code_has_its_form.ensures.paired paired (c.paired_code_spends_its_tokens.ensures.paired program));
      short = subst (λ (code : TokenedProgram). AreTokensShort code.functions) (sym same)
          (c.respecialised_code_can_be_lowered.ensures.short paired
          (c.paired_code_is_short.ensures (greatest - 1) program opens (few_opened given) short));
      room = subst (HasRoom (token_room given)) (sym same)
          (c.respecialised_code_has_its_form.ensures.room (token_room given) paired
          (c.paired_code_costs_what_it_has_room_for.ensures.room (greatest - 1) program opens));
    }
