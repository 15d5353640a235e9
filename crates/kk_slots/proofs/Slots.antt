-- Slots and rows of slots, seen as outlines.
use Rattle.std.proofs.Common.{◌≡◌, ℕ, ℤ, zero, suc, List, [], ◌∷◌, ◌++◌, map, take, drop, replicate, refl, sym, ap, ◌∙◌}
use Rattle.std.proofs.lemmas.List.{map-append}
use Rattle.kk_syntax.specs.declared.program.Pat.{Pat}
use Rattle.kk_syntax.specs.declared.program.Pat.TheVariants.{Wildcard, Number, Constructor}
use Rattle.kk_syntax.specs.Patterns.{patterns_of, pattern_tree}
use Rattle.kk_syntax.proofs.PatternViews.{wildcard_tree, number_tree, constructor_tree}
use Rattle.kk_slots.specs.declared.problem.Slot.{Slot}
use Rattle.kk_slots.specs.declared.problem.Slot.TheVariants.{Any}
use Rattle.kk_syntax.specs.Outlines.{Outline, any, exactly, made, outline, outline_of, outlines_of, outline_list, pattern_outline}
use Rattle.kk_slots.specs.Narrowing.{join, anys, front, back}
use Rattle.kk_slots.specs.Turned.{rotated}
use Rattle.kk_slots.specs.Problems.{slot_outline, row_view}

pub outlines-append : (xs ys : List Outline) → outline_list (xs ++ ys) ≡ join (outline_list xs) (outline_list ys)
outlines-append [] ys = refl
outlines-append (x ∷ xs) ys = ap (outline x) (outlines-append xs ys)

pub wildcards_view : (k : ℕ) → row_view (replicate k Any) ≡ anys k
wildcards_view zero = refl
wildcards_view (suc k) = ap (outline any) (wildcards_view k)

pub view-append : (xs ys : List Slot) → row_view (xs ++ ys) ≡ join (row_view xs) (row_view ys)
view-append xs ys = ap outline_list (map-append slot_outline xs ys) ∙ outlines-append (map slot_outline xs) (map slot_outline ys)

pub parts_outlines : (ps : List Pat) → outlines_of (patterns_of (map pattern_tree ps)) ≡ outline_list (map pattern_outline ps)
parts_outlines [] = refl
parts_outlines (p ∷ ps) = ap (outline (pattern_outline p)) (parts_outlines ps)

pub constructor_outline : (c : ℕ) (ps : _) → pattern_outline (Constructor c ps) ≡ made c (outline_list (map pattern_outline ps.items))
constructor_outline c ps = ap outline_of (constructor_tree c ps) ∙ ap (made c) (parts_outlines ps.items)

pub wildcard_outline : pattern_outline Wildcard ≡ any
wildcard_outline = ap outline_of wildcard_tree

pub number_outline : (n : ℤ) → pattern_outline (Number n) ≡ exactly n
number_outline n = ap outline_of (number_tree n)

pub back_view : (k : ℕ) (slots : List Slot) → back k (row_view slots) ≡ row_view (drop k slots)
back_view zero slots = refl
back_view (suc k) [] = refl
back_view (suc k) (x ∷ slots) = back_view k slots

pub front_view : (k : ℕ) (slots : List Slot) → front k (row_view slots) ≡ row_view (take k slots)
front_view zero slots = refl
front_view (suc k) [] = refl
front_view (suc k) (x ∷ slots) = ap (outline (slot_outline x)) (front_view k slots)

pub rotated_view : (k : ℕ) (slots : List Slot) → row_view (drop k slots ++ take k slots) ≡ rotated k (row_view slots)
rotated_view k slots =
    view-append (drop k slots) (take k slots)
    ∙ (ap (λ ps. join ps (row_view (take k slots))) (sym (back_view k slots)) ∙ ap (λ ps. join (back k (row_view slots)) ps) (sym (front_view k slots)))
