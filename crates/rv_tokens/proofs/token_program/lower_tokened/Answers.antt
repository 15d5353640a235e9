use Rattle.std.proofs.Common.{ℕ, ◌<◌, List, ◌∷◌, [], ◌++◌, ◌+◌, length, take, map, sym, subst, ap, ◌∙◌}
use Rattle.std.proofs.lemmas.List.{map-append}
use Rattle.kk_counted.specs.TokenedCodes.{TokenedFunction}
use Rattle.kk_counted.specs.TokenedForms.{tokened_function}
use Rattle.rv_isa.specs.AsmCode.{Lines, lines_of}
use Rattle.rv_tokens.specs.TokenedFunctions.{LoweredTokenedFunctions}
use Rattle.rv_tokens.proofs.WrittenNodes.{length_mapped}
use Rattle.rv_tokens.proofs.TokenFunctions.{tokened_then, tokened_more, tokened_all, tokened_form}
use Rattle.rv_tokens.proofs.token_program.lower_tokened.Goals as goal

pub loop-function-preserved : goal.loop-function-preserved
loop-function-preserved c = record {
  number = ap (λ (n : ℕ). n + 1) c.loop-function.invariant.number;
  lowered =
      subst (λ (functions : List TokenedFunction). LoweredTokenedFunctions c.args.tokened.now.shape c.args.texts.now functions
      (map lines_of c.push.new.self.items) c.in_ok-lowered.more.items)
      (tokened_more c.args.tokened.now.functions.items c.deref-function-items.result.now c.loop-function.function-index
      c.function-item.result c.deref-function-items.ensures.value c.loop-function-test.true (sym c.function-item.is))
      (subst (λ (each : List Lines). LoweredTokenedFunctions c.args.tokened.now.shape c.args.texts.now
      (map tokened_function (take c.loop-function.function-index c.args.tokened.now.functions.items) ++ tokened_function
      c.function-item.result ∷ []) each c.in_ok-lowered.more.items)
      (sym (ap (map lines_of) c.in_ok-push.ensures.items ∙ map-append lines_of c.loop-function.functions.items
      (c.in_ok-lowered.lowered ∷ [])))
      (tokened_then c.args.tokened.now.shape c.args.texts.now
      (map tokened_function (take c.loop-function.function-index c.args.tokened.now.functions.items))
      (map lines_of c.loop-function.functions.items)
      c.loop-function.number (tokened_function c.function-item.result) (lines_of c.in_ok-lowered.lowered)
      c.loop-function.constants.items c.in_ok-lowered.more.items
      (c.loop-function.invariant.number ∙ sym (length_mapped tokened_function c.args.tokened.now.functions.items
      c.loop-function.function-index
      (subst (λ functions. c.loop-function.function-index < length functions) c.deref-function-items.ensures.value
      c.loop-function-test.true)))
      c.loop-function.invariant.lowered c.in_ok-lowered.ensures));
}

pub returns : goal.returns
returns c =
    tokened_form c.args.tokened.now.shape c.args.texts.now (map tokened_function c.args.tokened.now.functions.items)
    (map lines_of c.loop-function.functions.items) c.loop-function.constants.items c.requires.bare c.requires.tokens
    (subst (λ (functions : List TokenedFunction). LoweredTokenedFunctions c.args.tokened.now.shape c.args.texts.now functions
    (map lines_of c.loop-function.functions.items) c.loop-function.constants.items)
    (tokened_all c.args.tokened.now.functions.items c.deref-function-items.result.now c.loop-function.function-index
    c.deref-function-items.ensures.value c.loop-function-test.false)
    c.loop-function.invariant.lowered)
