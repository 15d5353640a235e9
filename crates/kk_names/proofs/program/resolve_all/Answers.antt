use Rattle.std.proofs.Common.{map, ◌∙◌}
use Rattle.kk_syntax.specs.Programs.{constructor_tree, function_tree}
use Rattle.kk_syntax.specs.Surface.{written_declaration}
use Rattle.kk_names.specs.Methods.{known_of}
use Rattle.kk_names.proofs.DeclaredNames.{all_known, no_texts, all_noted}
use Rattle.kk_names.proofs.Mains.{parts_are}
use Rattle.kk_names.proofs.program.resolve_all.Goals as goal

pub returns-clause-parts : goal.returns-clause-parts
returns-clause-parts c =
    let begun = c.in_ok-resolver.ensures in
    let ds = map written_declaration c.args.declarations.now in
    let start = c.in_ok-resolver.resolver in
    let declared = c.declare.new.self in
    let typed = c.all_types.new.self in
    let all = c.in_ok-all.all in
    let made = c.in_ok-all.ensures in
    let functions = c.in_ok-functions.functions in
    parts_are ds (known_of declared) (known_of typed) typed.texts.items c.all_functions.new.self.texts.items all.types.items (map constructor_tree all.constructors.items)
    (map function_tree functions.items)
    (all_known start declared ds begun.types begun.constructors begun.functions begun.texts begun.first c.in_ok-declare.ensures)
    made.notes.known
    (made.notes.texts ∙ no_texts start declared ds begun.types begun.constructors begun.functions begun.texts begun.first c.in_ok-declare.ensures)
    made.types made.constructors c.in_ok-functions.ensures.functions c.in_ok-functions.ensures.texts

pub returns-clause-fault : goal.returns-clause-fault
returns-clause-fault c =
    let begun = c.in_ok-resolver.ensures in
    let ds = map written_declaration c.args.declarations.now in
    all_noted c.in_ok-resolver.resolver c.declare.new.self ds begun.types begun.constructors begun.functions begun.texts begun.first c.in_ok-declare.ensures
    c.all_types.new.self c.all_functions.new.self.first c.in_ok-all.ensures.notes c.in_ok-functions.ensures.first

pub returns-clause-depth : goal.returns-clause-depth
returns-clause-depth c = c.in_ok-functions.ensures.depth
