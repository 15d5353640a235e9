use Rattle.std.proofs.Common.{◌+◌, List, map, drop, subst, ap, ◌∙◌, refl, arith}
use Rattle.std.proofs.Common.{rules}
use Rattle.std.proofs.lemmas.List.{drop_all, length-map}
use Rattle.kk_syntax.specs.declared.program.Pat.{Pat}
use Rattle.kk_syntax.specs.declared.program.Pat.TheViews.{the_lemmas}
use Rattle.kk_syntax.specs.Patterns.{Patterns, patterns_of, pattern_tree}
use Rattle.kk_syntax.proofs.PatternViews.{variable_tree}
use Rattle.kk_syntax.proofs.ProgramTrees.{next_part}
use Rattle.kk_norm.proofs.WriterSteps.{open_piece, writes_piece}
use Rattle.kk_norm.proofs.OpeningLoops.{OpenedSoFar, opened_more, opened_done, open_asked, skipped, some_items, variable_opened, cell_done}
use Rattle.kk_norm.proofs.writer.Writer.+opening.Goals as goal

pub open-returns-in_ok-push-in-Variable : goal.open-returns-in_ok-push-in-Variable
open-returns-in_ok-push-in-Variable t c =
    variable_opened (pattern_tree c.args.pattern.now) c.in-Variable.of c.args.variable c.args.self.now _
    (ap pattern_tree c.in-Variable.is ∙ variable_tree c.in-Variable.of) refl refl c.in_ok-push-in-Variable.ensures.items

pub open-returns-in-Wildcard : goal.open-returns-in-Wildcard
open-returns-in-Wildcard t c =
    skipped c.args.pattern.now c.args.variable c.args.self.now c.in-Wildcard.is

pub open-returns-in-Wildcard-2 : goal.open-returns-in-Wildcard-2
open-returns-in-Wildcard-2 t c =
    skipped c.args.pattern.now c.args.variable c.args.self.now c.in-Wildcard.is

pub open_cell-returns : goal.open_cell-returns
open_cell-returns t c =
    let items = map pattern_tree c.args.parts.now in
    let long = length-map c.args.parts.now pattern_tree in
    cell_done c.args.of items c.args.variable c.args.self.now.next c.in_ok-fields.fields.items c.args.self.now c.number_parts.new.self c.push.new.self c.open_parts.new.self
    (omega (arith, long, some_items c.args.parts.now c.is_empty.result c.is_empty.ensures c.if-is_empty.false)) refl c.in_ok-fields.ensures
    (writes_piece c.number_parts.new.self c.push.new.self _ _ (open_piece c.args.variable c.args.of c.in_ok-fields.fields) c.in_ok-push.ensures) c.in_ok-open_parts.ensures

pub open_parts-open-requires : goal.open_parts-open-requires
open_parts-open-requires t c = (
  search (rules, the_lemmas),
  open_asked c.args.first c.args.self.now c.loop-part.self (patterns_of (map pattern_tree (drop c.loop-part.part-index c.args.parts.now))) (patterns_of (map pattern_tree c.args.parts.now)) c.loop-part.variable
      (pattern_tree c.part-item.result) (patterns_of (map pattern_tree (drop (c.loop-part.part-index + 1) c.args.parts.now)))
      c.loop-part.invariant (next_part c.args.parts.now c.loop-part.part-index c.part-item.result c.part-item.is c.loop-part-test.true) c.requires.room,
)

pub open_parts-loop-part-preserved : goal.open_parts-loop-part-preserved
open_parts-loop-part-preserved t c =
    let all = patterns_of (map pattern_tree c.args.parts.now) in
    let left = patterns_of (map pattern_tree (drop (c.loop-part.part-index + 1) c.args.parts.now)) in
    opened_more c.args.first c.args.self.now c.loop-part.self c.open.new.self (pattern_tree c.part-item.result) left all c.loop-part.variable
    (subst (λ (ps : Patterns). OpenedSoFar c.args.first c.args.self.now c.loop-part.self ps all c.loop-part.variable)
    (next_part c.args.parts.now c.loop-part.part-index c.part-item.result c.part-item.is c.loop-part-test.true) c.loop-part.invariant)
    c.in_ok-open.ensures

pub open_parts-returns : goal.open_parts-returns
open_parts-returns t c =
    let all = patterns_of (map pattern_tree c.args.parts.now) in
    opened_done c.args.first c.args.self.now c.loop-part.self all c.loop-part.variable
    (subst (λ (left : List Pat). OpenedSoFar c.args.first c.args.self.now c.loop-part.self (patterns_of (map pattern_tree left)) all c.loop-part.variable)
    (drop_all c.loop-part.part-index c.args.parts.now c.loop-part-test.false) c.loop-part.invariant)
