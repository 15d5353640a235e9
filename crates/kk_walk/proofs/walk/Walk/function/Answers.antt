use Rattle.std.proofs.Common.{[], ◌∷◌, option_map, map, length, refl, ap, ◌∙◌}
use Rattle.std.specs.Prelude.{slice_get}
use Rattle.std.proofs.lemmas.Option.{slice_get-map, slice_get_read}
use Rattle.kk_syntax.specs.declared.typed.Taken.TheVariants.{Call}
use Rattle.kk_syntax.specs.Programs.{function_tree}
use Rattle.kk_syntax.specs.Types.{type_tree}
use Rattle.kk_syntax.specs.Typing.{calling, function_scheme}
use Rattle.kk_walk.specs.Walks.{calling_at}
use Rattle.kk_walk.proofs.Instances.{instantiated, taken_grown, one_below}
use Rattle.kk_walk.proofs.walk.Walk.function.Goals as goal

pub returns : goal.returns
returns c =
    let old = c.args.self.now in
    let functions = c.args.program.now.functions.items in
    let function = c.in-Some.function.now in
    let at = c.in_ok-at.at in
    let there = rw c.deref.ensures.value at c.in-Some.ensures.lookup in
    let found = slice_get-map function_tree functions c.args.number ∙ ap (option_map function_tree) (slice_get_read functions (length functions) c.args.number function refl there.3.0 there.1) in
    let parts = rw (c.deref-2.ensures.value, c.deref-3.ensures.value) at c.in_ok-parameters.ensures.builds in
    let whole = rw c.deref-4.ensures.value at c.in_ok-result.ensures.builds in
    instantiated old c.opened.new.graph c.build_each.new.graph c.build.new.graph c.push.new.self at.items function.variables function.parameters.items (record { parameters = c.in_ok-parameters.parameters; result = c.in_ok-result.result }) (type_tree function.result)
    c.in_ok-at.ensures.opens parts whole (c.in_ok-result.ensures.variables ∙ (c.in_ok-parameters.ensures.variables ∙ c.in_ok-at.ensures.variables))
    (option_map function_scheme (slice_get (map function_tree functions) c.args.number)) (λ ts. calling c.args.number ts ∷ []) (calling_at c.args.number at.items ∷ []) (ap (option_map function_scheme) found)
    (taken_grown old.taken.items c.push.new.self.items (Call c.args.number at) c.in_ok-push.ensures.items) (λ size h. one_below size (calling_at c.args.number at.items) h) (λ r. refl)
