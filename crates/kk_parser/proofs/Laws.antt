-- Tokens have one answer.
use Rattle.std.proofs.Common.{◌≡◌, ℕ, ◌≤◌, List, [], ◌∷◌, ◌++◌, length, refl, sym, ap, ◌∙◌, subst, inl, inr, append_assoc, length-append, arith, ◌+◌}
use Rattle.std.proofs.lemmas.List.{append_cancel_right, append-nil}
use Rattle.kk_syntax.specs.declared.token.LocatedToken.{LocatedToken}
use Rattle.kk_syntax.specs.Surface.{WrittenDeclaration}
use Rattle.kk_parser.specs.Phrases.{program, rule}
use Rattle.kk_parser.specs.Spells.{Marked, tokens_of}
use Rattle.kk_parser.specs.Reading.{ReadingFails, too_deep}
use Rattle.kk_parser.specs.Parses.{SpellsProgram, BeginsProgram, AtMost, HasTree, GoesOn, IsUnexpected, IsTooDeep, OneProgram}
use Rattle.kk_parser.proofs.Completeness.{Within, all_within, one_within, Opens}
use Rattle.kk_parser.proofs.NodeBounds.{tokens_of-length}
use Rattle.kk_parser.proofs.Determinism.{never_both, same_fails}
use Rattle.kk_parser.proofs.Locality.{one_next, fails_alike}
use Rattle.kk_parser.proofs.ProgramOutcome.{tokens_of-append, turned_tokens, program_read, tree_found, one_program}
use Rattle.kk_parser.specs.Depths.{most_levels}

-- marked tokens, cut behind some of the tokens alone
split_marked : (ts : List Marked) (xs ys : List LocatedToken) → tokens_of ts ≡ xs ++ ys → (front : List Marked) × (later : List Marked) × (ts ≡ front ++ later) × (tokens_of front ≡ xs)
split_marked ts [] ys e = ([], ts, refl, refl)
split_marked [] (x ∷ xs) ys e = absurd (cc e)
split_marked (t ∷ ts) (x ∷ xs) ys e =
    let s = split_marked ts xs ys (cc e) in
    let h : t.token ≡ x = cc e in
    (t ∷ s.0, s.1, ap (λ us. t ∷ us) s.2, ap (λ us. t.token ∷ us) s.3 ∙ ap (λ u. u ∷ xs) h)

-- what begins a program goes on behind each of its tokens
begun_goes_on : (before : List LocatedToken) (t : LocatedToken) (more rest : List LocatedToken) (front : List Marked) → BeginsProgram front → tokens_of front ≡ before ++ t ∷ more → GoesOn before (t ∷ rest)
begun_goes_on before t more rest front b e =
    let s = split_marked front (before ++ t ∷ []) more (e ∙ sym (append_assoc before (t ∷ []) more)) in
    (s.0, (b.0, s.1 ++ b.1, subst (λ ts. SpellsProgram b.0 ts) (ap (λ ts. ts ++ b.1) s.2 ∙ append_assoc s.0 s.1 b.1) b.2), s.3)

tree_goes_on : (before rest : List LocatedToken) (declarations : List WrittenDeclaration) → HasTree (before ++ rest) declarations → GoesOn before rest
tree_goes_on before [] declarations h = (declarations, h.marked, h.program, h.tokens_are ∙ append-nil before)
tree_goes_on before (t ∷ rest) declarations h =
    begun_goes_on before t rest rest h.marked (declarations, [], subst (λ ts. SpellsProgram declarations ts) (sym (append-nil h.marked)) h.program) h.tokens_are

-- of two fronts of one list one goes on as the other's rest does
data Fronts (xs ys us ws : List LocatedToken) : Type 0 where
  same_front : xs ≡ ys → us ≡ ws → Fronts xs ys us ws
  first_shorter : (t : LocatedToken) (more : List LocatedToken) → ys ≡ xs ++ t ∷ more → us ≡ t ∷ (more ++ ws) → Fronts xs ys us ws
  second_shorter : (t : LocatedToken) (more : List LocatedToken) → xs ≡ ys ++ t ∷ more → ws ≡ t ∷ (more ++ us) → Fronts xs ys us ws

longer : (t : LocatedToken) {xs ys us ws : List LocatedToken} → Fronts xs ys us ws → Fronts (t ∷ xs) (t ∷ ys) us ws
longer t (same_front e f) = same_front (ap (λ ts. t ∷ ts) e) f
longer t (first_shorter x more e f) = first_shorter x more (ap (λ ts. t ∷ ts) e) f
longer t (second_shorter x more e f) = second_shorter x more (ap (λ ts. t ∷ ts) e) f

fronts : (xs ys us ws : List LocatedToken) → xs ++ us ≡ ys ++ ws → Fronts xs ys us ws
fronts [] [] us ws e = same_front refl e
fronts [] (y ∷ ys) us ws e = first_shorter y ys refl e
fronts (x ∷ xs) [] us ws e = second_shorter x xs refl (sym e)
fronts (x ∷ xs) (y ∷ ys) us ws e =
    let h : x ≡ y = cc e in
    subst (λ z. Fronts (x ∷ xs) (z ∷ ys) us ws) h (longer x (fronts xs ys us ws (cc e)))

within_length : {limit : ℕ} {ts us : List Marked} → Within limit ts us → length us ≤ length ts
within_length all_within = omega arith
within_length (one_within h r) = omega (arith, within_length r)

cons_tail : {A : Type 0} {x y : A} {xs ys : List A} → x ∷ xs ≡ y ∷ ys → xs ≡ ys
cons_tail e = cc e

cons_head : {A : Type 0} {x y : A} {xs ys : List A} → x ∷ xs ≡ y ∷ ys → x ≡ y
cons_head e = cc e

-- the first token at which too many levels are open is not among those at which that is not so
too_many_behind : {ts us : List Marked} → Within most_levels ts us → (front rest : List Marked) → ts ≡ front ++ rest → Opens most_levels us → AtMost most_levels front → length us ≤ length rest
too_many_behind (all_within {us = us}) [] rest e o h = omega (arith, ap length e)
too_many_behind (all_within {us = us}) (x ∷ front) rest e o h = absurd (omega (arith, h.0, subst (λ ts. Opens most_levels ts) e o))
too_many_behind (one_within l r) [] rest e o h = omega (arith, within_length r, ap length e)
too_many_behind (one_within l r) (x ∷ front) rest e o h = too_many_behind r front rest (cons_tail e) o h.1

-- where the first token at which too many levels are open is known, it is that one
too_many_there : {ts us : List Marked} → Within most_levels ts us → (front rest : List Marked) (opener : Marked) → ts ≡ front ++ opener ∷ rest → Opens most_levels us → AtMost most_levels front → opener.levels ≡ most_levels + 1 → us ≡ opener ∷ rest
too_many_there (all_within {us = us}) [] rest opener e o h l = e
too_many_there (all_within {us = us}) (x ∷ front) rest opener e o h l = absurd (omega (arith, h.0, subst (λ ts. Opens most_levels ts) e o))
too_many_there (one_within {t = t} m r) [] rest opener e o h l = absurd (omega (arith, m, ap (λ x. x.levels) (cons_head e)))
too_many_there (one_within m r) (x ∷ front) rest opener e o h l = too_many_there r front rest opener (cons_tail e) o h.1 l

never_whole : {ts us : List Marked} → Within most_levels ts us → (front rest : List Marked) (opener : Marked) → ts ≡ front ++ opener ∷ rest → us ≡ [] → opener.levels ≡ most_levels + 1 → ⊥
never_whole (all_within {us = us}) [] rest opener e n l = absurd (cc (sym e ∙ n))
never_whole (all_within {us = us}) (x ∷ front) rest opener e n l = absurd (cc (sym e ∙ n))
never_whole (one_within m r) [] rest opener e n l = omega (arith, m, ap (λ x. x.levels) (cons_head e))
never_whole (one_within m r) (x ∷ front) rest opener e n l = never_whole r front rest opener (cons_tail e) n l

-- where the reading fails at a token that opens a level too many, it does so whatever is behind that token
moved_failure : (before later other : List LocatedToken) (t : LocatedToken) → ReadingFails most_levels (rule program) 0 (before ++ t ∷ later) (too_deep (t ∷ later)) → ReadingFails most_levels (rule program) 0 (before ++ t ∷ other) (too_deep (t ∷ other))
moved_failure before later other t r =
    let a = fails_alike most_levels r refl (one_next {us = other}) in
    subst (λ ts. ReadingFails most_levels (rule program) 0 ts (too_deep (t ∷ other))) (turned_tokens before (t ∷ later) (t ∷ other) a.before a.turns) a.fails

-- where a token opens a level too many, the reading fails there
too_deep_fails : (before rest : List LocatedToken) → IsTooDeep before rest → ReadingFails most_levels (rule program) 0 (before ++ rest) (too_deep rest)
too_deep_fails before rest d =
    let later = d.begins.1 in
    let ts = d.front ++ d.opener ∷ later in
    let p : SpellsProgram d.begins.0 ts = subst (λ us. SpellsProgram d.begins.0 us) (append_assoc d.front (d.opener ∷ []) later) d.begins.2 in
    let tokens : tokens_of ts ≡ before ++ d.opener.token ∷ tokens_of later = tokens_of-append d.front (d.opener ∷ later) ∙ ap (λ us. us ++ d.opener.token ∷ tokens_of later) d.tokens_are in
    elim (program_read p most_levels).1 [
      | inl w ↦ absurd (never_whole w.within d.front later d.opener refl refl d.opens)
      | inr q ↦ at_rest (subst (λ us. ReadingFails most_levels (rule program) 0 us (too_deep (d.opener.token ∷ tokens_of later))) tokens (subst (λ us. ReadingFails most_levels (rule program) 0 (tokens_of ts) (too_deep (tokens_of us))) (too_many_there q.within d.front later d.opener refl q.opens d.shallow d.opens) q.fails))
    ]
  where
    at_rest : ReadingFails most_levels (rule program) 0 (before ++ d.opener.token ∷ tokens_of d.begins.1) (too_deep (d.opener.token ∷ tokens_of d.begins.1)) → ReadingFails most_levels (rule program) 0 (before ++ rest) (too_deep rest)
    at_rest r = subst (λ us. ReadingFails most_levels (rule program) 0 (before ++ us) (too_deep us)) (sym d.next_is) (moved_failure before (tokens_of d.begins.1) d.later d.opener.token r)

-- what opens a level too many goes on behind each token before it, and behind those alone
opener_goes_on : (before rest : List LocatedToken) (d : IsTooDeep before rest) (front : List LocatedToken) (t : LocatedToken) (more later : List LocatedToken) → before ++ d.opener.token ∷ [] ≡ front ++ t ∷ more → GoesOn front (t ∷ later)
opener_goes_on before rest d front t more later e =
    begun_goes_on front t more later (d.front ++ d.opener ∷ []) d.begins (tokens_of-append d.front (d.opener ∷ []) ∙ ap (λ ts. ts ++ d.opener.token ∷ []) d.tokens_are ∙ e)

-- behind a token that opens a level too many, none is the first that is unexpected
passed : (before rest front : List LocatedToken) (t : LocatedToken) (more later : List LocatedToken) → before ≡ front ++ t ∷ more → IsUnexpected before rest → ReadingFails most_levels (rule program) 0 (front ++ t ∷ later) (too_deep (t ∷ later)) → ⊥
passed before rest front t more later e u r =
    let behind = u.begins.1 in
    let tokens : tokens_of (u.front ++ behind) ≡ front ++ t ∷ (more ++ tokens_of behind) =
    tokens_of-append u.front behind ∙ ap (λ ts. ts ++ tokens_of behind) (u.tokens_are ∙ e) ∙ append_assoc front (t ∷ more) (tokens_of behind) in
    let s : ReadingFails most_levels (rule program) 0 (tokens_of (u.front ++ behind)) (too_deep (t ∷ (more ++ tokens_of behind))) =
    subst (λ ts. ReadingFails most_levels (rule program) 0 ts (too_deep (t ∷ (more ++ tokens_of behind)))) (sym tokens) (moved_failure front later (more ++ tokens_of behind) t r) in
    elim (program_read u.begins.2 most_levels).1 [
      | inl w ↦ never_both most_levels w.finds s
      | inr q ↦ let f : too_deep (tokens_of q.rest) ≡ too_deep (t ∷ (more ++ tokens_of behind)) = same_fails most_levels q.fails s in
          let g : tokens_of q.rest ≡ t ∷ (more ++ tokens_of behind) = cc f in
          omega (arith, too_many_behind q.within u.front behind refl q.opens u.shallow, tokens_of-length q.rest, ap length g, length-append more (tokens_of behind), tokens_of-length behind)
    ]

unexpected_or_too_deep : (before rest front later : List LocatedToken) → before ++ rest ≡ front ++ later → IsUnexpected before rest → IsTooDeep front later → ⊥
unexpected_or_too_deep before rest front later e u d =
    elim (fronts before front rest later e) [
      | same_front f g ↦ u.stuck (subst (λ ts. GoesOn before ts) (sym (g ∙ d.next_is)) (opener_goes_on front later d before d.opener.token [] d.later (ap (λ ts. ts ++ d.opener.token ∷ []) (sym f))))
      | first_shorter t more f g ↦ u.stuck (subst (λ ts. GoesOn before ts) (sym g) (opener_goes_on front later d before t (more ++ d.opener.token ∷ []) (more ++ later) (ap (λ ts. ts ++ d.opener.token ∷ []) f ∙ append_assoc before (t ∷ more) (d.opener.token ∷ []))))
      | second_shorter t more f g ↦ passed before rest front t more (more ++ rest) f u (subst (λ ts. ReadingFails most_levels (rule program) 0 (front ++ ts) (too_deep ts)) g (too_deep_fails front later d))
    ]

one_unexpected : (before rest front later : List LocatedToken) → before ++ rest ≡ front ++ later → IsUnexpected before rest → IsUnexpected front later → before ≡ front
one_unexpected before rest front later e u w =
    elim (fronts before front rest later e) [
      | same_front f g ↦ f
      | first_shorter t more f g ↦ absurd (u.stuck (subst (λ ts. GoesOn before ts) (sym g) (begun_goes_on before t more (more ++ later) w.front w.begins (w.tokens_are ∙ f))))
      | second_shorter t more f g ↦ absurd (w.stuck (subst (λ ts. GoesOn front ts) (sym g) (begun_goes_on front t more (more ++ rest) u.front u.begins (u.tokens_are ∙ f))))
    ]

one_too_deep : (before rest front later : List LocatedToken) → before ++ rest ≡ front ++ later → IsTooDeep before rest → IsTooDeep front later → before ≡ front
one_too_deep before rest front later e d c =
    let f : too_deep rest ≡ too_deep later = same_fails most_levels (subst (λ ts. ReadingFails most_levels (rule program) 0 ts (too_deep rest)) e (too_deep_fails before rest d)) (too_deep_fails front later c) in
    let g : rest ≡ later = cc f in
    append_cancel_right before front later (ap (λ ts. before ++ ts) (sym g) ∙ e)

pub program_law : OneProgram
program_law declarations others ts us p q e = one_program p q e

-- of a tree, an unexpected token and one that opens a level too many, tokens have one alone, and at one place
pub record OneAnswer : Type 0 where
  pub tree_or_unexpected : (before rest : List LocatedToken) (declarations : List WrittenDeclaration) → HasTree (before ++ rest) declarations → IsUnexpected before rest → ⊥
  pub tree_or_too_deep : (before rest : List LocatedToken) (declarations : List WrittenDeclaration) → HasTree (before ++ rest) declarations → IsTooDeep before rest → ⊥
  pub unexpected_or_too_deep : (before rest front later : List LocatedToken) → before ++ rest ≡ front ++ later → IsUnexpected before rest → IsTooDeep front later → ⊥
  pub one_unexpected : (before rest front later : List LocatedToken) → before ++ rest ≡ front ++ later → IsUnexpected before rest → IsUnexpected front later → before ≡ front
  pub one_too_deep : (before rest front later : List LocatedToken) → before ++ rest ≡ front ++ later → IsTooDeep before rest → IsTooDeep front later → before ≡ front

pub answer_law : OneAnswer
answer_law = record {
  tree_or_unexpected = λ before rest declarations h u. u.stuck (tree_goes_on before rest declarations h);
  tree_or_too_deep = λ before rest declarations h d. never_both most_levels (tree_found h).1 (too_deep_fails before rest d);
  unexpected_or_too_deep = unexpected_or_too_deep;
  one_unexpected = one_unexpected;
  one_too_deep = one_too_deep;
}
