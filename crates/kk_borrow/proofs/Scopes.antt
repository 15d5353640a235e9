-- What variables hang on, variable by variable.
use Rattle.std.proofs.Common.{◌≡◌, ℕ, List, [], ◌∷◌, ◌++◌, refl, ap, sym, ◌∙◌, append_assoc}
use Rattle.kk_borrow.specs.Demands.{hung, all_hung}

pub all_hung-append : (xs ys origins : List ℕ) → all_hung (xs ++ ys) origins ≡ all_hung xs origins ++ all_hung ys origins
all_hung-append [] ys origins = refl
all_hung-append (x ∷ xs) ys origins = ap (λ bs. hung x origins ++ bs) (all_hung-append xs ys origins) ∙ sym (append_assoc (hung x origins) (all_hung xs origins) (all_hung ys origins))
