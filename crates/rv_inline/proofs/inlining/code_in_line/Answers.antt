use Rattle.std.proofs.Common.{◌≡◌, ◌≤◌, ◌+◌, ◌++◌, ◌∷◌, ◌∙◌, [], List, drop, map, refl, sym, ap, subst, arith}
use Rattle.std.proofs.lemmas.List.{append-nil, drop_more, drop_all}
use Rattle.rv_isa.specs.declared.asm.Statement.{Statement}
use Rattle.rv_isa.specs.AsmCode.{Line, Lines, line_of, lines_of}
use Rattle.rv_isa.specs.Costs.{code_length}
use Rattle.rv_inline.specs.InLine.{AreInLine}
use Rattle.rv_inline.proofs.CodeGrowth.{code_more, short_more}
use Rattle.rv_inline.proofs.inlining.code_in_line.Goals as goal

pub loop-statement-preserved : goal.loop-statement-preserved
loop-statement-preserved c =
    let functions : List Lines = map lines_of c.args.functions.now in
    let item : Statement = c.statement-item.result in
    let rest : List Statement = drop (c.loop-statement.statement-index + 1) c.args.code.now in
    let next : drop c.loop-statement.statement-index c.args.code.now ≡ item ∷ rest
    = drop_more c.args.code.now c.loop-statement.statement-index item c.loop-statement-test.true
    ∙ ap (λ (one : Statement). one ∷ rest) (sym c.statement-item.is) in
    let made : List Line = map line_of c.loop-statement.new.items in
    let grown = c.in_ok-left.ensures in
    record {
      code = λ more is.
          subst (λ (lines : List Line). AreInLine functions c.args.base (map line_of c.args.code.now) (lines ++ more)) (sym grown.1.0)
          (code_more functions c.args.base c.loop-statement.left _ (map line_of c.args.code.now) (map line_of rest) made grown.0
          (line_of item) grown.1.1
          (subst (λ (left : List Statement). (more : List Line) → AreInLine functions c.args.base (map line_of left) more
          → AreInLine functions c.args.base (map line_of c.args.code.now) (made ++ more)) next c.loop-statement.invariant.code)
          more is);
      short =
          subst (λ (lines : List Line). code_length lines + c.in_ok-left.left + code_length (map line_of rest)
          ≤ code_length (map line_of c.args.code.now) + c.args.growth) (sym grown.1.0)
          (short_more functions c.args.base c.loop-statement.left _ (code_length (map line_of c.args.code.now) + c.args.growth)
          (map line_of rest) made grown.0 (line_of item) grown.1.1
          (subst (λ (left : List Statement). code_length made + c.loop-statement.left + code_length (map line_of left)
          ≤ code_length (map line_of c.args.code.now) + c.args.growth) next c.loop-statement.invariant.short));
    }

pub returns-clause-code : goal.returns-clause-code
returns-clause-code c =
    let functions : List Lines = map lines_of c.args.functions.now in
    let none : drop c.loop-statement.statement-index c.args.code.now ≡ []
    = drop_all c.loop-statement.statement-index c.args.code.now (omega (arith, c.loop-statement-test.false)) in
    let empty : AreInLine functions c.args.base (map line_of (drop c.loop-statement.statement-index c.args.code.now)) []
    = subst (λ (left : List Statement). AreInLine functions c.args.base (map line_of left) []) (sym none) refl in
    subst (AreInLine functions c.args.base (map line_of c.args.code.now)) (append-nil (map line_of c.loop-statement.new.items))
    (c.loop-statement.invariant.code [] empty)
