use Rattle.std.proofs.Common.{ap, sym, ◌∙◌, subst, rules}
use mir.Syntax.{w32}
use mir.Val.{SFits}
use Rattle.std.proofs.lemmas.Int.{to_z-of_z}
use Rattle.kk_syntax.specs.Outlines.{HaveSmallNumbers, made, outline, pattern_outline}
use Rattle.kk_slots.specs.Problems.{stacked}
use Rattle.kk_syntax.specs.declared.program.Pat.TheVariants.{Number}
use Rattle.kk_slots.specs.Narrowing.{front}
use Rattle.kk_slots.proofs.Slots.{constructor_outline, number_outline, wildcard_outline}
use Rattle.kk_rows.proofs.NumberBounds.{IsSmallHead, small_plug}
use Rattle.kk_rows.proofs.Stacks.{put_is}
use Rattle.kk_rows.proofs.example.put.Goals.{in-Free, in-Number, in-Constructor+in_ok-take_parts-in-Constructor}
use Rattle.kk_rows.proofs.example.put.Goals as goal

pub returns-clause-stack : goal.returns-clause-stack
returns-clause-stack c = put_is c.args.head c.args.stack.now.items c.match-head.stack.items c.push.new.self.items c.match-head.pattern c.in_ok-push.ensures.items (elim c.match-head.branch [
  | in-Free w ↦ rw (w.pattern-is, w.stack-is, w.in-Free.is) (ap (λ p. outline p (stacked c.args.stack.now.items)) wildcard_outline)
  | in-Number w ↦
      let fits : SFits w32 w.in-Number.number = search rules in
      rw (w.pattern-is, w.stack-is, w.in-Number.is)
      (ap (λ p. outline p (stacked c.args.stack.now.items)) (ap (λ n. pattern_outline (Number n)) (to_z-of_z w32 w.in-Number.number fits) ∙ number_outline w.in-Number.number))
  | in-Constructor+in_ok-take_parts-in-Constructor w ↦
      let t = w.in_ok-take_parts-in-Constructor.ensures in
      rw (w.pattern-is, w.stack-is, w.in-Constructor.is)
      (ap (λ p. outline p (stacked w.take_parts.new.stack.items)) (constructor_outline w.in-Constructor.constructor w.in_ok-take_parts-in-Constructor.field-0 ∙ ap (made w.in-Constructor.constructor) t.taken)
      ∙ ap (outline (made w.in-Constructor.constructor (front w.in-Constructor.arity (stacked c.args.stack.now.items)))) t.left)
])

pub returns-clause-small : goal.returns-clause-small
returns-clause-small c = λ before.
    let small : IsSmallHead c.args.head = elim c.match-head.branch [
      | in-Free w ↦ subst IsSmallHead (sym w.in-Free.is) tt
      | in-Number w ↦
          let fits : SFits w32 w.in-Number.number = search rules in
          subst IsSmallHead (sym w.in-Number.is) fits
      | in-Constructor+in_ok-take_parts-in-Constructor w ↦ subst IsSmallHead (sym w.in-Constructor.is) tt
    ] in
    subst HaveSmallNumbers (sym (returns-clause-stack c)) (small_plug c.args.head (stacked c.args.stack.now.items) small before)
