use Rattle.std.proofs.Common.{length, slice_index_or, ap, sym, ◌∙◌, subst}
use Rattle.kk_syntax.specs.Types.{type_at}
use Rattle.kk_syntax.specs.Typing.{constructing, calling}
use Rattle.kk_walk.specs.Walks.{choice_at, taking_of, IsTakenBelow}
use Rattle.kk_walk.proofs.NodeRenumbering.{each_numbered, each_below}
use Rattle.kk_walk.proofs.build.numbered_one.Goals as goal

pub returns-in_ok-numbered_each-in-Construct-clause-types : goal.returns-in_ok-numbered_each-in-Construct-clause-types
returns-in_ok-numbered_each-in-Construct-clause-types c types =
    let numbers = c.args.numbers.now in
    let found = rw c.deref.ensures.value at c.in_ok-numbered_each-in-Construct.ensures in
    ap (constructing c.in-Construct.by) (each_numbered types numbers c.in-Construct.at.items c.in_ok-numbered_each-in-Construct.field-0.items found)
    ∙ sym (ap (λ t. choice_at (λ i. type_at types (slice_index_or numbers i 0)) (taking_of t)) c.in-Construct.is)

pub returns-in_ok-numbered_each-in-Call-clause-types : goal.returns-in_ok-numbered_each-in-Call-clause-types
returns-in_ok-numbered_each-in-Call-clause-types c types =
    let numbers = c.args.numbers.now in
    let found = rw c.deref-in-Call.ensures.value at c.in_ok-numbered_each-in-Call.ensures in
    ap (calling c.in-Call.function) (each_numbered types numbers c.in-Call.at.items c.in_ok-numbered_each-in-Call.field-0.items found)
    ∙ sym (ap (λ t. choice_at (λ i. type_at types (slice_index_or numbers i 0)) (taking_of t)) c.in-Call.is)

pub returns-in_ok-numbered_each-in-Construct-clause-inside : goal.returns-in_ok-numbered_each-in-Construct-clause-inside
returns-in_ok-numbered_each-in-Construct-clause-inside c size below =
    let numbers = c.args.numbers.now in
    let found = rw c.deref.ensures.value at c.in_ok-numbered_each-in-Construct.ensures in
    let there = subst (λ t. IsTakenBelow (length numbers) (taking_of t)) c.in-Construct.is c.requires in
    each_below size numbers c.in-Construct.at.items c.in_ok-numbered_each-in-Construct.field-0.items below there found

pub returns-in_ok-numbered_each-in-Call-clause-inside : goal.returns-in_ok-numbered_each-in-Call-clause-inside
returns-in_ok-numbered_each-in-Call-clause-inside c size below =
    let numbers = c.args.numbers.now in
    let found = rw c.deref-in-Call.ensures.value at c.in_ok-numbered_each-in-Call.ensures in
    let there = subst (λ t. IsTakenBelow (length numbers) (taking_of t)) c.in-Call.is c.requires in
    each_below size numbers c.in-Call.at.items c.in_ok-numbered_each-in-Call.field-0.items below there found
