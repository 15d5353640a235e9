use Rattle.std.proofs.Common.{◌≡◌, length, map, refl, sym, arith}
use Rattle.std.proofs.lemmas.List.{length-map}
use Rattle.kk_syntax.specs.GroundPrograms.{instance_tree, ground_program}
use Rattle.kk_syntax.specs.Types.{type_at}
use Rattle.kk_syntax.specs.Trees.{expr_tree}
use Rattle.kk_norm.proofs.Forms.{size_small}
use Rattle.kk_norm.proofs.Programs.{core_done}
use Rattle.kk_norm.proofs.program.core_function.Goals as goal

pub block-requires-clause-room : goal.block-requires-clause-room
block-requires-clause-room c =
    omega (arith, c.new-writer.ensures.number, c.len-parameters.ensures, c.requires.few, c.requires.small, size_small (expr_tree c.args.instance.now.body))

pub returns-clause-form : goal.returns-clause-form
returns-clause-form c = λ types.
    let parameters : length c.args.instance.now.parameters.items ≡ length (map (type_at types) c.args.instance.now.parameters.items) = sym (length-map c.args.instance.now.parameters.items (type_at types)) in
    core_done (ground_program c.args.given.now).constructors (instance_tree types c.args.instance.now) _ c.new-writer.result c.block.new.self
    (omega (arith, c.len-parameters.ensures, parameters)) (omega (arith, c.new-writer.ensures.number, c.len-parameters.ensures, parameters)) c.new-writer.ensures.names refl c.in_ok-body.ensures
