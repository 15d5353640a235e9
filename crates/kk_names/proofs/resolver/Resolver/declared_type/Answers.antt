use Rattle.std.proofs.Common.{List, [], ◌∷◌, ◌++◌, length, map, refl, sym, ap, subst, ◌∙◌}
use Rattle.std.specs.Prelude.{ℕ}
use Rattle.std.proofs.lemmas.List.{length-map}
use Rattle.kk_syntax.specs.declared.program.TypeDecl.{TypeDecl}
use Rattle.kk_syntax.specs.declared.tree.ConstructorDeclaration.{ConstructorDeclaration}
use Rattle.kk_syntax.specs.declared.tree.Identifier.{Identifier}
use Rattle.kk_syntax.specs.Programs.{constructor_tree}
use Rattle.kk_syntax.specs.Surface.{written_constructor}
use Rattle.kk_names.specs.Faults.{second_names, field_faults}
use Rattle.kk_names.specs.Methods.{known_of, Notes, NotesInside}
use Rattle.kk_names.specs.Names.{cases_of}
use Rattle.kk_names.specs.Tables.{names_of}
use Rattle.kk_names.proofs.DeclaredTypes.{declaration_is, type_noted, constructors_made}
use Rattle.kk_names.proofs.resolver.Resolver.declared_type.Goals as goal

pub returns-clause-types : goal.returns-clause-types
returns-clause-types c =
    let d = c.args.declared.now in
    let types = c.args.types.now in
    let constructors = c.args.constructors.now in
    let made : TypeDecl = record {
      name = d.name.name;
      at = d.name.at;
      variables = length d.parameters.items;
      first_constructor = length constructors.items;
      constructor_count = length (map written_constructor d.constructors.items);
    } in
    c.in_ok-push.ensures.items
    ∙ ap (λ t. types.items ++ t ∷ [])
    (declaration_is c.in_ok-name.name d.name.at c.in_ok-variables.variables c.in_ok-first_constructor.first_constructor c.in_ok-constructor_count.constructor_count made
    c.in_ok-name.ensures refl
    (c.in_ok-variables.ensures ∙ (c.len-3.ensures ∙ d.parameters.ok.0))
    (c.in_ok-first_constructor.ensures ∙ (c.len-2.ensures ∙ constructors.ok.0))
    (c.in_ok-constructor_count.ensures ∙ (c.len-4.ensures ∙ (d.constructors.ok.0 ∙ sym (length-map d.constructors.items written_constructor)))))

pub returns-clause-constructors : goal.returns-clause-constructors
returns-clause-constructors c =
    let old = c.args.self.now in
    let d = c.args.declared.now in
    let types = c.args.types.now in
    let here = known_of c.type_parameters.new.self in
    let before = map constructor_tree c.args.constructors.now.items in
    let notes = c.in_ok-parameters.ensures.notes in
    let named = c.as_slice-3.ensures.value ∙ (c.in_ok-parameters.ensures.names ∙ ap names_of c.as_slice.ensures.value) in
    let made = c.in_ok-cases.ensures.constructors
    ∙ ap (λ cs. before ++ cases_of here c.as_slice-3.result.now c.in_ok-number.number 0 (map written_constructor cs)) c.as_slice-2.ensures.value in
    constructors_made d.name d.parameters.items (map written_constructor d.constructors.items) (known_of old) here c.as_slice-3.result.now
    c.in_ok-number.number (length types.items) before _
    (ap (λ state. state.known) notes.state) named (c.in_ok-number.ensures ∙ (c.len.ensures ∙ types.ok.0)) made

pub returns-clause-notes : goal.returns-clause-notes
returns-clause-notes c =
    let old = c.args.self.now in
    let d = c.args.declared.now in
    let between = c.type_parameters.new.self in
    let new = c.cases.new.self in
    let cases = map written_constructor d.constructors.items in
    let named = c.as_slice-3.ensures.value ∙ (c.in_ok-parameters.ensures.names ∙ ap names_of c.as_slice.ensures.value) in
    type_noted d.name d.parameters.items cases old between new
    (subst (λ (ps : List Identifier). Notes (second_names [] ps) old between) c.as_slice.ensures.value c.in_ok-parameters.ensures.notes)
    (subst (λ (vs : List (List ℕ)). NotesInside (field_faults (known_of between) vs cases) between new) named
    (subst (λ (cs : List ConstructorDeclaration). NotesInside (field_faults (known_of between) c.as_slice-3.result.now (map written_constructor cs)) between new)
    c.as_slice-2.ensures.value c.in_ok-cases.ensures.notes))
