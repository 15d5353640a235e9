use Rattle.std.proofs.Common.{map, ap, refl, ◌∙◌}
use Rattle.kk_counted.specs.TokenedForms.{tokened_code, tokened_function}
use Rattle.rv_isa.specs.AsmCode.{line_of}
use Rattle.rv_tokens.proofs.TokenFunctions.{tokened_written}
use Rattle.rv_tokens.proofs.token_program.lower_tokened_function.Goals as goal

pub returns : goal.returns
returns c =
    tokened_written c.args.shape.now c.args.literals.now c.args.number (tokened_function c.args.function.now)
    c.constructors.result.now (tokened_code c.args.function.now.body) c.in_ok-params.params.items c.args.function.now.parameters
    c.in_ok-slots.slots c.deref.result.now c.standing_of.result c.in_ok-write_tokened.ensures c.standing_of.ensures
    c.constructors.ensures
    (c.deref.ensures.value ∙ c.in_ok-marks.ensures) refl (ap (map line_of) c.new.ensures.items) refl c.in_ok-slots.ensures
    c.in_ok-slot.ensures c.in_ok-params.ensures refl
