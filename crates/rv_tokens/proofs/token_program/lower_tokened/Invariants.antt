use Rattle.std.proofs.Common.{◌≡◌, map, take}
use Rattle.kk_counted.specs.TokenedForms.{tokened_function}
use Rattle.rv_isa.specs.AsmCode.{lines_of}
use Rattle.rv_tokens.specs.TokenedFunctions.{LoweredTokenedFunctions}
use Rattle.rv_tokens.proofs.token_program.lower_tokened.Given as goal

abbrev pub invariant-loop-function : goal.invariant-loop-function
invariant-loop-function l = record {
  number : l.number ≡ l.function-index;
  lowered : LoweredTokenedFunctions l.tokened.shape l.texts (map tokened_function (take l.function-index l.tokened.functions.items))
      (map lines_of l.functions.items) l.constants.items;
}
