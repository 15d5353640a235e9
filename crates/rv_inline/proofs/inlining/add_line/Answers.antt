use Rattle.std.proofs.Common.{◌≡◌, ◌<◌, ◌-◌, ◌+◌, ◌*◌, ◌++◌, ◌∷◌, ◌∙◌, [], List, ℕ, length, map, refl, sym, ap, subst, arith}
use Rattle.std.proofs.lemmas.List.{length-map}
use Rattle.rv_isa.specs.AsmCode.{Line, line_of, lines_of}
use Rattle.rv_isa.specs.ValueBounds.{AreLinesBelow}
use Rattle.rv_inline.specs.InLine.{in_line, most_fresh}
use Rattle.rv_inline.proofs.CodeGrowth.{stays, leaf_small, becomes_lines}
use Rattle.rv_inline.proofs.inlining.add_line.Goals as goal

pub add_in_line-requires-clause-small : goal.add_in_line-requires-clause-small
add_in_line-requires-clause-small c =
    let body : List Line = map line_of c.in-Some.called.leaf.body.now in
    subst (λ (args : List ℕ). AreLinesBelow (length args + most_fresh) body) (sym c.deref.ensures.value)
    (leaf_small (map lines_of c.args.functions.now) c.args.base (line_of c.args.statement.now) body c.in-Some.called.leaf.value
    c.in-Some.called.into c.in-Some.ensures).0

pub add_in_line-requires-clause-value : goal.add_in_line-requires-clause-value
add_in_line-requires-clause-value c =
    let body : List Line = map line_of c.in-Some.called.leaf.body.now in
    subst (λ (args : List ℕ). c.in-Some.called.leaf.value < length args + most_fresh) (sym c.deref.ensures.value)
    (leaf_small (map lines_of c.args.functions.now) c.args.base (line_of c.args.statement.now) body c.in-Some.called.leaf.value
    c.in-Some.called.into c.in-Some.ensures).1

pub returns-then-cost-growth : goal.returns-then-cost-growth
returns-then-cost-growth c =
    let body : List Line = map line_of c.in-Some.called.leaf.body.now in
    let value : ℕ = c.in-Some.called.leaf.value in
    let into : ℕ = c.in-Some.called.into in
    let same : length body ≡ length c.in-Some.called.leaf.body.now = length-map c.in-Some.called.leaf.body.now line_of in
    let cost : ℕ = 7 * length c.in-Some.called.leaf.body.now in (
      in_line c.args.base c.args.statement.now.args.items body value into [],
      (
        c.in_ok-add_in_line.ensures
            ∙ ap (λ (args : List ℕ). map line_of c.args.code.now.items ++ in_line c.args.base args body value into [])
            c.deref.ensures.value,
        becomes_lines (map lines_of c.args.functions.now) c.args.base (line_of c.args.statement.now) body value into
            c.in-Some.ensures c.args.growth cost (c.args.growth - cost) (omega arith) (omega (arith, same)) (omega arith) refl,
      ),
    )

pub returns : goal.returns
returns c =
    let line : Line = line_of c.args.statement.now in (
      line ∷ [],
      (
        c.in_ok-push_line.ensures
            ∙ ap (λ (args : List ℕ). map line_of c.args.code.now.items ++ (record line { args = args } ∷ []))
            c.deref-2.ensures.value,
        stays (map lines_of c.args.functions.now) c.args.base c.args.growth line,
      ),
    )
