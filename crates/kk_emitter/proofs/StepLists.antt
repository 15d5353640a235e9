-- Steps that are written one by one, for each of some variables or slots.
use Rattle.std.proofs.Common.{◌≡◌, ℕ, ◌+◌, ◌<◌, List, [], ◌∷◌, ◌++◌, map, length, drop, get_or, append_assoc, sym, ap, ◌∙◌}
use Rattle.std.proofs.lemmas.List.{map-append}
use Rattle.kk_counted.proofs.PlaceLists.{next_one}

pub step_more : {S M : Type 0} (move_of : S → M) (for_one : ℕ → M) (before after : List S) (step : S) (xs : List ℕ) (i d : ℕ) (all : List M)
    → i < length xs → after ≡ before ++ step ∷ [] → move_of step ≡ for_one (get_or xs i d)
    → map move_of before ++ map for_one (drop i xs) ≡ all → map move_of after ++ map for_one (drop (i + 1) xs) ≡ all
step_more move_of for_one before after step xs i d all less grown is so_far =
    ap (λ steps. map move_of steps ++ map for_one (drop (i + 1) xs)) grown
    ∙ (ap (λ moves. moves ++ map for_one (drop (i + 1) xs)) (map-append move_of before (step ∷ []))
    ∙ (append_assoc (map move_of before) (move_of step ∷ []) (map for_one (drop (i + 1) xs))
    ∙ (ap (λ move. map move_of before ++ move ∷ map for_one (drop (i + 1) xs)) is
    ∙ (ap (λ ys. map move_of before ++ map for_one ys) (sym (next_one xs i d less)) ∙ so_far))))
