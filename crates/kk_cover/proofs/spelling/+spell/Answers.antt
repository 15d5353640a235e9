use Rattle.std.proofs.Common.{◌≡◌, ◌++◌, List, ℕ, map, ap, sym, ◌∙◌, append_assoc}
use Rattle.std.proofs.lemmas.List.{drop_all}
use Rattle.kk_syntax.specs.declared.program.Pat.{Pat}
use Rattle.kk_syntax.specs.Programs.{program_tree}
use Rattle.kk_syntax.specs.Outlines.{outline_list, pattern_outline}
use Rattle.kk_cover.specs.ExampleSpelling.{constructor_name, spelled, spelled_parts, spelled_from}
use Rattle.kk_rows.proofs.SubProblems.{on_ok}
use Rattle.kk_slots.proofs.Slots.{constructor_outline}
use Rattle.kk_cover.proofs.Texts.{from_start}
use Rattle.kk_cover.proofs.spelling.+spell.Goals as goal

pub spell-returns-in_ok-spell_name-in-Constructor : goal.spell-returns-in_ok-spell_name-in-Constructor
spell-returns-in_ok-spell_name-in-Constructor t c =
    let program = program_tree c.args.program.now in
    let old = c.args.bytes.now.items in
    let name = constructor_name program c.in-Constructor.constructor in
    let parts = spelled_parts program (outline_list (map pattern_outline c.in-Constructor.parts.items)) in
    let whole =
    ap (λ p. spelled program (pattern_outline p)) c.in-Constructor.is
    ∙ ap (spelled program) (constructor_outline c.in-Constructor.constructor c.in-Constructor.parts) in
    on_ok c.spell_parts.result _ _
    (λ (last : c.spell_parts.new.bytes.items ≡ c.spell_name.new.bytes.items ++ parts).
    last
    ∙ (ap (λ (xs : List ℕ). xs ++ parts) c.in_ok-spell_name-in-Constructor.ensures
    ∙ (append_assoc old name parts ∙ ap (λ (xs : List ℕ). old ++ xs) (sym whole))))
    (rw c.deref.ensures.value at c.spell_parts.ensures)

pub spell_parts-returns : goal.spell_parts-returns
spell_parts-returns t c =
    let program = program_tree c.args.program.now in
    let none = drop_all c.loop-part.part-index c.args.parts.now c.loop-part-test.false in
    let ended =
    ap (λ (ps : List Pat). c.loop-part.bytes.items ++ spelled_from program c.loop-part.separator.now (outline_list (map pattern_outline ps))) (sym none) in
    c.in_ok-push.ensures.items
    ∙ (ended
    ∙ (c.loop-part.invariant
    ∙ ap (λ (xs : List ℕ). c.args.bytes.now.items ++ xs) (from_start program c.args.parts.now (sym c.is_empty.ensures ∙ c.if-is_empty.false))))
