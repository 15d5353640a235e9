use Rattle.std.proofs.Common.{refl, sym, ap, ◌∙◌}
use Rattle.std.proofs.lemmas.List.{length-map}
use Rattle.kk_syntax.specs.declared.program.Form.TheVariants.{Construct}
use Rattle.kk_syntax.specs.Surface.{written_parameter}
use Rattle.std.specs.Prelude.{is_some}
use Rattle.kk_names.specs.declared.resolver.Resolver.{Resolver}
use Rattle.kk_names.specs.Methods.{known_of, names_in_table}
use Rattle.kk_names.specs.Tables.{meaning_in}
use Rattle.kk_names.proofs.DeclaredNames.{name_declared, constructors_longer}
use Rattle.kk_names.proofs.Tables.{is_meant}
use Rattle.kk_names.proofs.resolver.Resolver.declare_case.Goals as goal

pub returns : goal.returns
returns c =
    let old = c.args.self.now in
    let d = c.args.case.now in
    let noted = c.note_if.new.self in
    let new : Resolver = record { alloc = noted.alloc; types = noted.types; constructors = c.push.new.self; functions = noted.functions; scope = noted.scope; next = noted.next; texts = noted.texts; first = noted.first } in
    let notes = c.in_ok-note_if.ensures in
    let table = old.constructors.items in
    let means = c.meaning_in.ensures ∙ ap (λ all. meaning_in all d.name.name) c.as_slice.ensures.value in
    let is_second = c.is_some-is_second.ensures ∙ (ap is_some means ∙ is_meant table d.name.name) in
    let counted = c.len.ensures ∙ (d.fields.ok.0 ∙ sym (length-map d.fields.items written_parameter)) in
    name_declared old noted new d.name (names_in_table table) c.is_some-is_second.result _ is_second notes
    (constructors_longer (known_of old) (known_of noted) c.push.new.self.items c.in_ok-name.name d.name.name (Construct c.args.number) c.len.result _
    (ap (λ state. state.known) notes.state) c.in_ok-push.ensures.items c.in_ok-name.ensures counted)
    refl refl refl
