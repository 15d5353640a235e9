-- A stack of patterns, whose first position is on top, seen as the outlines of these positions.
use Rattle.std.proofs.Common.{◌≡◌, ◌≤◌, ℕ, zero, suc, ◌+◌, List, [], ◌∷◌, ◌++◌, length, map, take, get_or, refl, sym, ap, ◌∙◌, subst, arith}
use Rattle.std.proofs.lemmas.List.{map-append, take_more}
use Rattle.kk_slots.specs.declared.problem.Head.{Head}
use Rattle.kk_slots.specs.declared.problem.Problem.{Problem}
use Rattle.kk_syntax.specs.declared.program.Pat.{Pat}
use Rattle.kk_syntax.specs.Outlines.{Outline, Outlines, no_outline, outline, HasSmallNumbers, HaveSmallNumbers, outline_list, pattern_outline}
use Rattle.kk_slots.specs.Narrowing.{join, front, back, top}
use Rattle.kk_slots.specs.Problems.{problem_view, plug, built, stacked_on, stacked}
use Rattle.kk_rows.proofs.SearchSoundness.{built-append}
use Rattle.kk_slots.proofs.Slots.{outlines-append}

stacked_on-append : (ps : List Outline) (p : Outline) (es : Outlines) → stacked_on (ps ++ (p ∷ [])) es ≡ outline p (stacked_on ps es)
stacked_on-append [] p es = refl
stacked_on-append (x ∷ ps) p es = stacked_on-append ps p (outline x es)

pub stacked_push : (ps : List Pat) (p : Pat) → stacked (ps ++ (p ∷ [])) ≡ outline (pattern_outline p) (stacked ps)
stacked_push ps p = ap (λ xs. stacked_on xs no_outline) (map-append pattern_outline ps (p ∷ [])) ∙ stacked_on-append (map pattern_outline ps) (pattern_outline p) no_outline

pub parts_push : (ps : List Pat) (p : Pat) → outline_list (map pattern_outline (ps ++ (p ∷ []))) ≡ join (outline_list (map pattern_outline ps)) (outline (pattern_outline p) no_outline)
parts_push ps p = ap outline_list (map-append pattern_outline ps (p ∷ [])) ∙ outlines-append (map pattern_outline ps) (pattern_outline p ∷ [])

pub front_some : (i : ℕ) (es rest : Outlines) (p : Outline) → back i es ≡ outline p rest → front (suc i) es ≡ join (front i es) (outline p no_outline)
front_some zero no_outline rest p is = absurd (cc)
front_some zero (outline e es) rest p is = let same : e ≡ p = cc in ap (λ x. outline x no_outline) same
front_some (suc i) no_outline rest p is = absurd (cc)
front_some (suc i) (outline e es) rest p is = ap (outline e) (front_some i es rest p is)

pub back_some : (i : ℕ) (es rest : Outlines) (p : Outline) → back i es ≡ outline p rest → back (suc i) es ≡ rest
back_some zero no_outline rest p is = absurd (cc)
back_some zero (outline e es) rest p is = cc
back_some (suc i) no_outline rest p is = absurd (cc)
back_some (suc i) (outline e es) rest p is = back_some i es rest p is

pub front_none : (i : ℕ) (es : Outlines) → back i es ≡ no_outline → front (suc i) es ≡ front i es
front_none zero no_outline is = refl
front_none zero (outline e es) is = absurd (cc)
front_none (suc i) no_outline is = refl
front_none (suc i) (outline e es) is = ap (outline e) (front_none i es is)

pub back_none : (i : ℕ) (es : Outlines) → back i es ≡ no_outline → back (suc i) es ≡ no_outline
back_none zero no_outline is = refl
back_none zero (outline e es) is = absurd (cc)
back_none (suc i) no_outline is = refl
back_none (suc i) (outline e es) is = back_none i es is

-- one pattern more, on top
pub put_is : (h : Head) (old after new : List Pat) (pattern : Pat) → new ≡ after ++ (pattern ∷ []) → outline (pattern_outline pattern) (stacked after) ≡ plug h (stacked old) → stacked new ≡ plug h (stacked old)
put_is h old after new pattern pushed is = ap stacked pushed ∙ (stacked_push after pattern ∙ is)

-- one position less of the path
pub built_less : (path : List Head) (place k : ℕ) (d : Head) (es new : Outlines) → place ≡ k + 1 → place ≤ length path → new ≡ plug (get_or path k d) es → built (take k path) new ≡ built (take place path) es
built_less path place k d es new is le plugged =
    ap (built (take k path)) plugged
    ∙ (sym (built-append (take k path) (get_or path k d) es)
    ∙ (sym (ap (λ (hs : List Head). built hs es) (take_more path k d (omega arith))) ∙ ap (λ n. built (take n path) es) (sym is)))

pub built_done : (path : List Head) (place : ℕ) (stack after : List Pat) (e : Pat) (whole : Outlines) → place ≤ 0 → built (take place path) (stacked stack) ≡ whole → stack ≡ after ++ (e ∷ []) → pattern_outline e ≡ top whole
built_done path zero stack after e whole le same popped = ap top (sym (stacked_push after e) ∙ (sym (ap stacked popped) ∙ same))
built_done path (suc place) stack after e whole le same popped = absurd (omega arith)

-- one part more is taken from the stack, or none where the stack has ended
pub taken_more : (i : ℕ) (es : Outlines) (parts taken stack after : List Pat) (p : Pat) → outline_list (map pattern_outline parts) ≡ front i es → stacked stack ≡ back i es → stack ≡ after ++ (p ∷ []) → taken ≡ parts ++ (p ∷ []) → outline_list (map pattern_outline taken) ≡ front (suc i) es
taken_more i es parts taken stack after p so_far left popped pushed =
    ap (λ (ps : List Pat). outline_list (map pattern_outline ps)) pushed
    ∙ (parts_push parts p
    ∙ (ap (λ ps. join ps (outline (pattern_outline p) no_outline)) so_far
    ∙ sym (front_some i es (stacked after) (pattern_outline p) (sym left ∙ (ap stacked popped ∙ stacked_push after p)))))

pub left_more : (i : ℕ) (es : Outlines) (stack after : List Pat) (p : Pat) → stacked stack ≡ back i es → stack ≡ after ++ (p ∷ []) → stacked after ≡ back (suc i) es
left_more i es stack after p left popped = sym (back_some i es (stacked after) (pattern_outline p) (sym left ∙ (ap stacked popped ∙ stacked_push after p)))

pub stacked_none : (stack : List Pat) → length stack ≡ 0 → stacked stack ≡ no_outline
stacked_none [] none = refl
stacked_none (p ∷ stack) none = absurd (omega (arith, none))

-- the last of the problems is taken
pub popped_view : (problems rest : List Problem) (problem : Problem) → problems ≡ rest ++ (problem ∷ []) → map problem_view problems ≡ map problem_view rest ++ (problem_view problem ∷ [])
popped_view problems rest problem is = ap (map problem_view) is ∙ map-append problem_view rest (problem ∷ [])

-- the pattern on top of a stack
pub top_small : (stack after : List Pat) (e : Pat) → stack ≡ after ++ (e ∷ []) → HaveSmallNumbers (stacked stack) → HasSmallNumbers (pattern_outline e)
top_small stack after e popped small =
    let all : HaveSmallNumbers (outline (pattern_outline e) (stacked after)) = subst HaveSmallNumbers (ap stacked popped ∙ stacked_push after e) small in
    all.0
