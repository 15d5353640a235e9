use Rattle.std.proofs.Common.{◌≡◌, ◌≤◌, ◌+◌, ◌++◌, ◌∷◌, ◌∙◌, [], List, map, drop, sym, ap, subst, arith}
use Rattle.std.proofs.lemmas.List.{append-nil, map-append, drop_more, drop_all}
use Rattle.rv_isa.specs.declared.asm.AsmFunction.{AsmFunction}
use Rattle.rv_isa.specs.AsmCode.{Lines, lines_of}
use Rattle.rv_isa.specs.Costs.{functions_length}
use Rattle.rv_inline.specs.Growth.{most_growth}
use Rattle.rv_inline.specs.InLine.{HaveInLine}
use Rattle.rv_inline.proofs.CodeGrowth.{functions_more, functions_short}
use Rattle.rv_inline.proofs.inlining.functions_in_line.Goals as goal

pub loop-function-preserved : goal.loop-function-preserved
loop-function-preserved c =
    let functions : List Lines = map lines_of c.args.functions.now in
    let item : AsmFunction = c.function-item.result in
    let new : AsmFunction = c.in_ok-grown.grown.function in
    let rest : List AsmFunction = drop (c.loop-function.function-index + 1) c.args.functions.now in
    let next : drop c.loop-function.function-index c.args.functions.now ≡ item ∷ rest
    = drop_more c.args.functions.now c.loop-function.function-index item c.loop-function-test.true
    ∙ ap (λ (one : AsmFunction). one ∷ rest) (sym c.function-item.is) in
    let made : List Lines = map lines_of c.loop-function.new.items in
    let pushed : map lines_of c.push.new.self.items ≡ made ++ (lines_of new ∷ [])
    = ap (map lines_of) c.in_ok-push.ensures.items ∙ map-append lines_of c.loop-function.new.items (new ∷ []) in
    record {
      functions = λ more is.
          subst (λ (all : List Lines). HaveInLine functions functions (all ++ more)) (sym pushed)
          (functions_more functions functions (map lines_of rest) made (lines_of item) (lines_of new) c.in_ok-grown.ensures.function
          (subst (λ (left : List AsmFunction). (more : List Lines) → HaveInLine functions (map lines_of left) more
          → HaveInLine functions functions (made ++ more)) next c.loop-function.invariant.functions) more is);
      short =
          subst (λ (all : List Lines). functions_length all + c.in_ok-grown.grown.growth + functions_length (map lines_of rest)
          ≤ functions_length functions + most_growth) (sym pushed)
          (functions_short (map lines_of rest) made (lines_of item) (lines_of new) c.loop-function.growth c.in_ok-grown.grown.growth
          (functions_length functions + most_growth) c.in_ok-grown.ensures.short
          (subst (λ (left : List AsmFunction). functions_length made + c.loop-function.growth + functions_length (map lines_of left)
          ≤ functions_length functions + most_growth) next c.loop-function.invariant.short));
    }

pub returns-clause-functions : goal.returns-clause-functions
returns-clause-functions c =
    let functions : List Lines = map lines_of c.args.functions.now in
    let none : drop c.loop-function.function-index c.args.functions.now ≡ []
    = drop_all c.loop-function.function-index c.args.functions.now (omega (arith, c.loop-function-test.false)) in
    let empty : HaveInLine functions (map lines_of (drop c.loop-function.function-index c.args.functions.now)) []
    = subst (λ (left : List AsmFunction). HaveInLine functions (map lines_of left) []) (sym none) tt in
    subst (HaveInLine functions functions) (append-nil (map lines_of c.loop-function.new.items))
    (c.loop-function.invariant.functions [] empty)
