use Rattle.std.proofs.Common.{◌≡◌, bytes_eq, take, refl, ap, sym, ◌∙◌, ◌++◌, ◌∷◌, []}
use Rattle.std.proofs.lemmas.List.{take_more, take_all}
use Rattle.kk_names.specs.Methods.{newest_first}
use Rattle.kk_names.specs.Scopes.{number_in}
use Rattle.kk_names.proofs.Tables.{number_here, number_elsewhere}
use Rattle.kk_names.proofs.scope.number_in.Goals as goal
use Rattle.kk_names.proofs.scope.number_in.Goals.{then-eq, else-eq}

pub loop-bound-preserved : goal.loop-bound-preserved
loop-bound-preserved c =
    let scope = c.args.scope.now in
    let name = c.args.name.now in
    let i = c.loop-bound.bound-index in
    let one = c.bound-item.result in
    let taken = ap (λ all. number_in (newest_first all) name) (ap (λ b. take i scope ++ b ∷ []) c.bound-item.is ∙ sym (take_more scope i one c.loop-bound-test.true)) in
    let same : c.eq.result ≡ bytes_eq one.name name = c.eq.ensures ∙ (ap (λ s. bytes_eq s c.as_str-in-loop-bound.result.now) c.as_str.ensures ∙ ap (bytes_eq one.name) c.as_str-in-loop-bound.ensures) in
    elim c.if-eq.branch [
      | then-eq w ↦ w.number-is ∙ (number_here (take i scope) one name (sym same ∙ w.if-eq.true) ∙ taken)
      | else-eq w ↦ w.number-is ∙ (c.loop-bound.invariant ∙ (number_elsewhere (take i scope) one name (sym same ∙ w.if-eq.false) ∙ taken))
    ]

pub loop-bound-init : goal.loop-bound-init
loop-bound-init c = refl

pub returns : goal.returns
returns c =
    c.loop-bound.invariant ∙ ap (λ all. number_in (newest_first all) c.args.name.now) (take_all c.loop-bound.bound-index c.args.scope.now c.loop-bound-test.false)
