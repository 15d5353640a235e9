use Rattle.std.proofs.Common.{◌≡◌, bytes_eq, refl, sym, ap, ◌∙◌}
use Rattle.std.proofs.lemmas.List.{drop_all}
use Rattle.kk_names.specs.Tables.{type_in}
use Rattle.kk_names.proofs.Tables.{type_here, type_further}
use Rattle.kk_names.proofs.table.type_in.Goals as goal

pub loop-declared-init : goal.loop-declared-init
loop-declared-init c = refl

pub returns-then-eq : goal.returns-then-eq
returns-then-eq c =
    let table = c.args.table.now in
    let one = c.declared-item.result in
    let name = c.args.name.now in
    let same : c.eq.result ≡ bytes_eq one.name name = c.eq.ensures ∙ (ap (λ s. bytes_eq s c.as_str-in-loop-declared.result.now) c.as_str.ensures ∙ ap (bytes_eq one.name) c.as_str-in-loop-declared.ensures) in
    sym (c.loop-declared.invariant ∙ type_here table c.loop-declared.declared-index one name c.declared-item.is c.loop-declared-test.true (sym same ∙ c.if-eq.true))

pub loop-declared-preserved : goal.loop-declared-preserved
loop-declared-preserved c =
    let table = c.args.table.now in
    let one = c.declared-item.result in
    let name = c.args.name.now in
    let same : c.eq.result ≡ bytes_eq one.name name = c.eq.ensures ∙ (ap (λ s. bytes_eq s c.as_str-in-loop-declared.result.now) c.as_str.ensures ∙ ap (bytes_eq one.name) c.as_str-in-loop-declared.ensures) in
    c.loop-declared.invariant ∙ type_further table c.loop-declared.declared-index one name c.declared-item.is c.loop-declared-test.true (sym same ∙ c.if-eq.false)

pub returns : goal.returns
returns c =
    sym (c.loop-declared.invariant ∙ ap (λ all. type_in all c.args.name.now) (drop_all c.loop-declared.declared-index c.args.table.now c.loop-declared-test.false))
