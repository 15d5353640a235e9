use Rattle.std.proofs.Common.{◌<◌, length, refl, sym, ap, ◌∙◌, arith}
use Rattle.kk_syntax.specs.Programs.{program_tree}
use Rattle.kk_names.specs.Methods.{parts_of}
use Rattle.kk_names.proofs.Mains.{main_seen, lacking_main, other_main, makes_program}
use Rattle.kk_names.proofs.program.with_main.Goals as goal

pub returns-in_default-clause-answers : goal.returns-in_default-clause-answers
returns-in_default-clause-answers c =
    lacking_main (parts_of c.args.parts) c.args.length c.no_main.result
    (main_seen c.args.parts.functions.items c.as_slice.result.now c.as_slice.ensures.value ∙ sym c.in_default.ensures.value) c.no_main.ensures

pub returns-then-not-is_main_shaped-clause-answers : goal.returns-then-not-is_main_shaped-clause-answers
returns-then-not-is_main_shaped-clause-answers c =
    let functions = c.args.parts.functions.items in
    let within : c.in-Some.main < length functions = omega (arith, c.in-Some.ensures.within, ap length c.as_slice.ensures.value) in
    other_main c.args.parts c.args.length (length functions) c.in-Some.main c.index-function.result.now c.other_main.result
    (main_seen functions c.as_slice.result.now c.as_slice.ensures.value ∙ sym c.in-Some.ensures.value) refl within c.index-function.ensures
    (λ shape. (let yes = sym c.if-not-is_main_shaped.true ∙ c.is_main_shaped.ensures.1 shape in cc yes)) c.other_main.ensures

pub returns-in-Ok-clause-answers : goal.returns-in-Ok-clause-answers
returns-in-Ok-clause-answers c =
    let functions = c.args.parts.functions.items in
    let within : c.in-Some.main < length functions = omega (arith, c.in-Some.ensures.within, ap length c.as_slice.ensures.value) in
    makes_program c.args.parts (length functions) c.in-Some.main c.index-function.result.now (program_tree c.in-Ok.program)
    (main_seen functions c.as_slice.result.now c.as_slice.ensures.value ∙ sym c.in-Some.ensures.value) refl within c.index-function.ensures
    (c.is_main_shaped.ensures.0 c.if-not-is_main_shaped.false) c.in-Ok.ensures.tree
