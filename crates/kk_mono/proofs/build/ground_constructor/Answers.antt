use Rattle.std.proofs.Common.{map, refl, ap, ◌∙◌}
use Rattle.kk_syntax.specs.Programs.{constructor_tree}
use Rattle.kk_syntax.specs.Types.{type_tree}
use Rattle.kk_mono.specs.KeyTrees.{key_tree}
use Rattle.kk_mono.specs.Views.{types_in}
use Rattle.kk_mono.proofs.GroundConstructors.{made_from}
use Rattle.kk_mono.proofs.build.ground_constructor.Goals as goal

pub returns-clause-is : goal.returns-clause-is
returns-clause-is c =
    made_from (constructor_tree c.args.constructor.now) (types_in c.args.types.now) (types_in c.number.new.self)
    (types_in c.numbers_of_written.new.types) (key_tree c.args.key.now) c.args.tag
    c.in_ok-arguments.arguments.items c.deref-2.result.now
    (record {
      constructor = c.args.key.now.number;
      of_type = c.in_ok-of_type.of_type;
      tag = c.args.tag;
      fields =
          c.in_ok-fields.fields;
    }) (map type_tree c.deref-3.result.now)
    c.requires c.number.ensures.grows c.numbers_of_written.ensures.grows (c.in_ok-arguments.ensures.items
    ∙ c.deref.ensures.value) c.deref-2.ensures.value refl c.in_ok-of_type.ensures.within c.in_ok-of_type.ensures.is
    refl c.in_ok-fields.ensures.are (ap (map type_tree) c.deref-3.ensures.value)
