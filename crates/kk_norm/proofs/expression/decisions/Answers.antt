use Rattle.std.proofs.Common.{◌≡◌, length, map, subst, sym, ◌∙◌}
use Rattle.std.proofs.lemmas.List.{length-map}
use Rattle.kk_syntax.specs.Patterns.{pattern_tree}
use Rattle.kk_syntax.specs.GroundPrograms.{ground_program}
use Rattle.kk_syntax.specs.Trees.{row_tree, rows_of}
use Rattle.kk_match.specs.Parts.{types_of, AreTypeNumbers, TellTypes}
use Rattle.kk_norm.specs.Normalized.{patterns_in}
use Rattle.kk_norm.proofs.Decisions.{are_decisions}
use Rattle.kk_norm.proofs.TypeNumbers.{are_type_numbers, numbers_tell}
use Rattle.kk_norm.proofs.MatchLoop.{patterns_are, all_pushed}
use Rattle.kk_norm.proofs.expression.decisions.Goals as goal

pub returns : goal.returns
returns c =
    let all : map (λ p. pattern_tree p.now) c.loop-row.patterns.items ≡ patterns_in (rows_of (map row_tree c.args.rows.now))
    = all_pushed (map (λ p. pattern_tree p.now) c.loop-row.patterns.items) c.args.rows.now c.loop-row.row-index c.loop-row.invariant c.loop-row-test.false ∙ patterns_are c.args.rows.now in
    let numbers : AreTypeNumbers (ground_program c.args.given.now).constructors (types_of c.deref.result.now) =
    subst (λ cs. AreTypeNumbers (ground_program c.args.given.now).constructors (types_of cs)) (sym c.deref.ensures.value)
    (are_type_numbers c.args.given.now) in
    let tell : TellTypes (ground_program c.args.given.now).constructors (types_of c.deref.result.now) =
    subst (λ cs. TellTypes (ground_program c.args.given.now).constructors (types_of cs)) (sym c.deref.ensures.value)
    (numbers_tell c.args.given.now) in
    are_decisions (ground_program c.args.given.now).constructors (types_of c.deref.result.now) (map (λ p. pattern_tree p.now) c.loop-row.patterns.items)
    (patterns_in (rows_of (map row_tree c.args.rows.now))) (length c.loop-row.patterns.items) c.decide_briefly.result numbers tell all
    (sym (length-map c.loop-row.patterns.items (λ p. pattern_tree p.now)))
    c.decide_briefly.ensures.decides c.decide_briefly.ensures.formed c.decide_briefly.ensures.brief c.decide_briefly.ensures.tests c.decide_briefly.ensures.rows
