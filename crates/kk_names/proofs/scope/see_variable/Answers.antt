use Rattle.std.proofs.Common.{◌≡◌, true, false, [], ◌∷◌, ◌++◌, sym, ap, ◌∙◌}
use Rattle.std.specs.Prelude.{if◌then◌else◌, is_some}
use Rattle.kk_names.specs.TypeNames.{place_of}
use Rattle.kk_names.proofs.scope.see_variable.Goals as goal

pub returns-then-is_some : goal.returns-then-is_some
returns-then-is_some c =
    let seen = c.args.variables.now.items in
    let name = c.args.name.now in
    let is : is_some (place_of seen name) ≡ true = sym (c.is_some.ensures ∙ ap is_some (c.place_of.ensures ∙ ap (λ all. place_of all name) c.as_slice.ensures.value)) ∙ c.if-is_some.true in
    sym (ap (λ b. if b then seen else seen ++ name ∷ []) is)

pub returns : goal.returns
returns c =
    let seen = c.args.variables.now.items in
    let name = c.args.name.now in
    let is : is_some (place_of seen name) ≡ false = sym (c.is_some.ensures ∙ ap is_some (c.place_of.ensures ∙ ap (λ all. place_of all name) c.as_slice.ensures.value)) ∙ c.if-is_some.false in
    c.in_ok-push.ensures.items ∙ (ap (λ n. seen ++ n ∷ []) c.in_ok-name.ensures ∙ sym (ap (λ b. if b then seen else seen ++ name ∷ []) is))
