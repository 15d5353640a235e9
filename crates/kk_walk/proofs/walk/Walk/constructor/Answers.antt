use Rattle.std.proofs.Common.{◌≡◌, [], ◌∷◌, Some, option_map, map, length, refl, ap, sym, ◌∙◌, subst}
use Rattle.std.specs.Prelude.{slice_get}
use Rattle.std.proofs.lemmas.Option.{slice_get-map, slice_get_read, slice_get_past}
use Rattle.kk_syntax.specs.declared.typed.Taken.TheVariants.{Construct}
use Rattle.kk_syntax.specs.Programs.{constructor_tree, program_tree, declared_in}
use Rattle.kk_syntax.specs.Types.{named, types_of, type_tree, variables_below}
use Rattle.kk_syntax.specs.Typing.{constructing, constructor_scheme, scheme_in, variables_of_type}
use Rattle.kk_unify.specs.Graphs.{Adds}
use Rattle.kk_unify.specs.GraphOf.{graph_of, variables_of}
use Rattle.kk_walk.specs.Walks.{constructing_at}
use Rattle.kk_walk.proofs.Instances.{instantiated, declared_builds, taken_grown, one_below}
use Rattle.kk_walk.proofs.ClaimComposition.{below_more}
use Rattle.kk_walk.proofs.walk.Walk.constructor.Goals as goal
use Rattle.kk_walk.proofs.walk.Walk.constructor.Goals.{in-Some-get, in-None-get}

pub returns : goal.returns
returns c =
    let old = c.args.self.now in
    let program = c.args.program.now in
    let constructors = program.constructors.items in
    let types = program.types.items in
    let made = c.in-Some.made.now in
    let count = c.match-get-2.variables in
    let at = c.in_ok-at.at in
    let there = rw c.deref.ensures.value at c.in-Some.ensures.lookup in
    let found = slice_get-map constructor_tree constructors c.args.constructor ∙ ap (option_map constructor_tree) (slice_get_read constructors (length constructors) c.args.constructor made refl there.3.0 there.1) in
    let counted : count ≡ variables_of_type (slice_get types made.of_type) = elim c.match-get-2.branch [
      | in-Some-get w ↦
          let declared = rw c.deref-2.ensures.value at w.in-Some-get.ensures.lookup in
          w.variables-is ∙ sym (ap variables_of_type (slice_get_read types (length types) made.of_type w.in-Some-get.declaration.now refl declared.3.0 declared.1))
      | in-None-get w ↦
          let undeclared = rw c.deref-2.ensures.value at w.in-None-get.ensures.lookup in
          w.variables-is ∙ sym (ap variables_of_type (slice_get_past types made.of_type undeclared.3))
    ] in
    let parts = rw (c.deref-3.ensures.value, c.deref-4.ensures.value) at c.in_ok-parameters.ensures.builds in
    let b = graph_of c.opened.new.graph in
    let d = graph_of c.build_each.new.graph in
    let copied = c.in_ok-arguments.ensures.items ∙ c.deref-5.ensures.value in
    let adds = subst (λ items. Adds d (graph_of c.add.new.self) c.in_ok-result.result (λ r. r c.in_ok-result.result ≡ named made.of_type (types_of (map r items)))) copied c.in_ok-result.ensures.added in
    let whole = declared_builds (variables_of c.build_each.new.graph) d (graph_of c.add.new.self) c.build_each.new.graph.formed at.items c.in_ok-result.result made.of_type count c.in_ok-at.ensures.opens.each (below_more (length b) (length d) at.items parts.longer c.in_ok-at.ensures.opens.inside) adds in
    instantiated old c.opened.new.graph c.build_each.new.graph c.add.new.self c.push.new.self at.items count made.fields.items (record { parameters = c.in_ok-parameters.parameters; result = c.in_ok-result.result }) (named made.of_type (types_of (variables_below count)))
    c.in_ok-at.ensures.opens parts whole (c.in_ok-result.ensures.variables ∙ (c.in_ok-parameters.ensures.variables ∙ c.in_ok-at.ensures.variables))
    (constructor_scheme (program_tree program) c.args.constructor) (λ ts. constructing c.args.constructor ts ∷ []) (constructing_at c.args.constructor at.items ∷ [])
    (ap (λ o. option_map (scheme_in (program_tree program)) (declared_in o)) found ∙ ap (λ n. Some (record { variables = n; parameters = map type_tree made.fields.items; result = named made.of_type (types_of (variables_below n)) })) (sym counted))
    (taken_grown old.taken.items c.push.new.self.items (Construct c.args.constructor at) c.in_ok-push.ensures.items) (λ size h. one_below size (constructing_at c.args.constructor at.items) h) (λ r. refl)
