use Rattle.std.proofs.Common.{◌≡◌, ◌∷◌, [], ◌+◌, ◌++◌, Ok, Err, map, length, ap, sym, ◌∙◌, subst, arith}
use Rattle.std.proofs.lemmas.List.{length-map, map-append}
use Rattle.std.proofs.lemmas.List.Elements.{All-same, All-push}
use Rattle.kk_base.specs.Exactly.{IsOnly}
use Rattle.kk_syntax.specs.Programs.{function_tree, program_tree}
use Rattle.kk_syntax.specs.TypedPrograms.{typing_of}
use Rattle.kk_syntax.specs.Typing.{TypesAs}
use Rattle.kk_types.specs.Checks.{HasNodes}
use Rattle.kk_types.proofs.ProgramOutcome.{TypedSoFar, one_more, first_untyped, all_typed, all_principal, only_outcome, there}
use Rattle.kk_types.proofs.program.check.Goals as goal

pub returns-in-None : goal.returns-in-None
returns-in-None c =
    let program = program_tree c.args.program.now in
    let number = c.loop-number.number in
    let function = c.function-item.result in
    let found = there c.args.program.now c.deref-function-items.result.now c.deref-function-items.ensures.value number function c.loop-number-test.true c.function-item.is in
    let untyped = rw c.in-None.is at c.in_ok-types.ensures.typed in
    let first = first_untyped program (map typing_of c.loop-number.bodies.items) number c.loop-number.invariant.typed (function_tree function) found untyped in
    subst (λ f. IsOnly (TypesAs program) (Err f)) (sym c.in_ok-small-in-None.ensures) (only_outcome program (Err number) first)

pub loop-number-preserved : goal.loop-number-preserved
loop-number-preserved c =
    let program = program_tree c.args.program.now in
    let number = c.loop-number.number in
    let function = c.function-item.result in
    let bodies = c.loop-number.bodies.items in
    let found = there c.args.program.now c.deref-function-items.result.now c.deref-function-items.ensures.value number function c.loop-number-test.true c.function-item.is in
    let principal = rw c.in-Some.is at c.in_ok-types.ensures.typed in
    let more = one_more program (map typing_of bodies) number c.loop-number.invariant.typed (function_tree function) found (typing_of c.in-Some.types) principal in
    let nodes = rw c.in-Some.is at c.in_ok-types.ensures.nodes in
    record {
      typed = subst (λ typings. TypedSoFar program typings (number + 1)) (sym (ap (map typing_of) c.in_ok-push-in-Some.ensures.items ∙ map-append typing_of bodies (c.in-Some.types ∷ []))) more;
      nodes = All-same HasNodes c.push.new.self.items (bodies ++ (c.in-Some.types ∷ [])) c.in_ok-push-in-Some.ensures.items (All-push HasNodes bodies c.in-Some.types c.loop-number.invariant.nodes nodes);
    }

pub returns : goal.returns
returns c =
    let program = program_tree c.args.program.now in
    let number = c.loop-number.number in
    let typings = map typing_of c.loop-number.bodies.items in
    let all : number ≡ length program.functions =
    omega (arith, ap length c.deref-function-items.ensures.value, length-map c.args.program.now.functions.items function_tree, c.loop-number-test.false, c.loop-number.auto.number-end) in
    record {
      same_program = c.in_ok-program.ensures;
      only = only_outcome program (Ok tt) (all_typed program typings number c.loop-number.invariant.typed all);
      principal = all_principal program typings number c.loop-number.invariant.typed all;
      nodes = c.loop-number.invariant.nodes;
    }
