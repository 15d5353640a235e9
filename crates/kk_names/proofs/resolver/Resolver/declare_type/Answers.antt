use Rattle.std.proofs.Common.{Some, refl, ap, ◌∙◌}
use Rattle.std.specs.Prelude.{is_some}
use Rattle.kk_names.specs.declared.resolver.Resolver.{Resolver}
use Rattle.kk_names.specs.Methods.{known_of, names_of_types}
use Rattle.kk_names.specs.Tables.{type_in}
use Rattle.kk_names.proofs.DeclaredNames.{name_declared, types_longer}
use Rattle.kk_names.proofs.Tables.{type_is_meant}
use Rattle.kk_names.proofs.resolver.Resolver.declare_type.Goals as goal

pub returns : goal.returns
returns c =
    let old = c.args.self.now in
    let d = c.args.declared.now in
    let noted = c.note_if.new.self in
    let new : Resolver = record { alloc = noted.alloc; types = c.push.new.self; constructors = noted.constructors; functions = noted.functions; scope = noted.scope; next = noted.next; texts = noted.texts; first = noted.first } in
    let notes = c.in_ok-note_if.ensures in
    let table = old.types.items in
    let means = c.type_in.ensures ∙ ap (λ all. type_in all d.name.name) c.as_slice.ensures.value in
    let is_second = c.is_some-is_second.ensures ∙ (ap is_some means ∙ type_is_meant table d.name.name) in
    let counted = c.len.ensures ∙ d.parameters.ok.0 in
    name_declared old noted new d.name (names_of_types table) c.is_some-is_second.result _ is_second notes
    (types_longer (known_of old) (known_of noted) c.push.new.self.items c.in_ok-name.name d.name.name (Some c.args.number) c.len.result _
    (ap (λ state. state.known) notes.state) c.in_ok-push.ensures.items c.in_ok-name.ensures counted)
    refl refl refl
