use Rattle.std.proofs.Common.{[], ap, ◌∙◌}
use Rattle.kk_syntax.specs.PositionsOf.{is_lent, positions_of}
use Rattle.kk_core.specs.Codes.{function_code}
use Rattle.kk_counted.specs.CountedForms.{block_code}
use Rattle.kk_counted.specs.Spending.{at_positions, is_owned}
use Rattle.kk_insert.specs.Insertion.{dropping, own, insert}
use Rattle.kk_insert.proofs.Instances.{function_inserted}
use Rattle.kk_insert.proofs.function.inserted.Goals as goal

pub returns-clause-function : goal.returns-clause-function
returns-clause-function c =
    let p = positions_of c.args.positions.now in
    let body = (function_code c.args.function.now).body in
    let first = block_code c.in_ok-part.part.block in
    function_inserted p c.args.number (function_code c.args.function.now) c.in_ok-parameters.parameters.items
    c.in_ok-given.given.items c.in_ok-owned.owned.items c.in_ok-lent.lent.items c.in_ok-part.part.owned.items first _ c.new.result
    c.in_ok-parameters.ensures (c.in_ok-given.ensures ∙ ap (at_positions (is_lent p c.args.number) 0) c.deref.ensures.value)
    (c.in_ok-owned.ensures ∙ ap (at_positions (is_owned p [] c.args.number) 0) c.deref-2.ensures.value) c.in_ok-lent.ensures
    (c.in_ok-part.ensures.owned ∙ ap (λ xs. own p xs [] body) c.deref-3.ensures.value)
    (c.in_ok-part.ensures.code ∙ ap (λ xs. insert p xs [] body) c.deref-3.ensures.value)
    (c.in_ok-put_dropping.ensures ∙ ap (λ xs. dropping xs c.deref-5.result.now first) c.deref-4.ensures.value
    ∙ ap (λ xs. dropping c.in_ok-owned.owned.items xs first) c.deref-5.ensures.value)
    (ap (λ fun. fun.parameters) c.new.ensures) (ap (λ fun. block_code fun.body) c.new.ensures)
