-- A walk over a body finds what its tail calls are given.
use Rattle.std.proofs.Common.{◌≡◌, ℕ, List, [], ◌∷◌, ◌++◌, refl, ap, ◌∙◌}
use Rattle.std.specs.List.{flat_map}
use Rattle.std.proofs.lemmas.Grind.{flat_map-append}
use Rattle.std.proofs.lemmas.List.{append-nil}
use Rattle.kk_syntax.proofs.Walks.{tails_agree}
use Rattle.kk_syntax.specs.declared.positions.Position.{Position}
use Rattle.kk_syntax.specs.OwnedPositions.{is_lent_variable, lent_in_row, lent_inside, handed_by, handed_at, handed}
use Rattle.kk_syntax.specs.OwnedSearch.{to_handed, handed_in}
use Rattle.kk_syntax.specs.Shapes.{Opening, Tail, to_tails, tails_inside}
use Rattle.kk_syntax.specs.Trees.{Tree}

-- the variables that are lent in one row more
pub inside_push : (lent : List ℕ) (inside : List Opening) (o : Opening)
    → lent_inside lent (inside ++ o ∷ []) ≡ lent_in_row (lent_inside lent inside)
    (is_lent_variable (lent_inside lent inside) o.scrutinee) o.pattern
inside_push lent [] o = refl
inside_push lent (x ∷ inside) o = inside_push (lent_in_row lent (is_lent_variable lent x.scrutinee) x.pattern) inside o

-- the parts in tail position are given the same where they are and at the end of the walk
handed_deeper : (lent : List ℕ) (inside : List Opening) (t : Tree)
    → flat_map (handed_at lent) (tails_inside inside t) ≡ handed_in (lent_inside lent inside) t
handed_deeper lent inside t =
    tails_agree to_tails to_handed (λ (ts : List Tail) (ps : List Position). flat_map (handed_at lent) ts ≡ ps) refl
    (λ xs ys us vs left right. flat_map-append (handed_at lent) xs ys ∙ ((λ i. left i ++ right i)))
    (λ inside ns. lent_inside lent inside ≡ ns)
    (λ inside ns same part. append-nil (handed_by (lent_inside lent inside) part) ∙ ap (λ l. handed_by l part) same)
    (λ inside ns same binder. refl)
    (λ inside ns scrutinee opened. is_lent_variable ns scrutinee ≡ opened)
    (λ inside ns same scrutinee. refl)
    (λ inside ns same scrutinee opened alike p. refl)
    (λ inside ns same scrutinee opened alike p.
    inside_push lent inside (record { scrutinee = scrutinee; pattern = p })
    ∙ (ap (λ l. lent_in_row l (is_lent_variable l scrutinee) p) same ∙ ap (λ b. lent_in_row ns b p) alike))
    inside (lent_inside lent inside) refl t

pub handed_is : (lent : List ℕ) (t : Tree) → handed lent t ≡ handed_in lent t
handed_is lent t = handed_deeper lent [] t
