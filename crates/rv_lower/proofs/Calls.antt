-- The words of arguments.
use Rattle.std.proofs.Common.{◌≡◌, ◌<◌, ℕ, List, [], ◌∷◌, map, Option, Some, option_map, refl, ◌∙◌, ap}
use Rattle.rv_isa.specs.Frames.{all_of}

-- cells have these words
abbrev pub HaveWords : (ℕ → Option ℕ) → List ℕ → List ℕ → Type 0
HaveWords cells [] [] = Unit {0}
HaveWords cells [] (w ∷ ws) = ⊥
HaveWords cells (x ∷ xs) [] = ⊥
HaveWords cells (x ∷ xs) (w ∷ ws) = (cells x ≡ Some w) × HaveWords cells xs ws

abbrev pub AreLess : List ℕ → ℕ → Type 0
AreLess [] n = Unit {0}
AreLess (x ∷ xs) n = (x < n) × AreLess xs n

pub words_read : (cells : ℕ → Option ℕ) (xs ws : List ℕ) → HaveWords cells xs ws → all_of (map cells xs) ≡ Some ws
words_read cells [] [] have = refl
words_read cells [] (w ∷ ws) have = absurd have
words_read cells (x ∷ xs) [] have = absurd have
words_read cells (x ∷ xs) (w ∷ ws) have =
    ap (λ (o : Option ℕ). all_of (o ∷ map cells xs)) have.0 ∙ ap (option_map (λ rest. w ∷ rest)) (words_read cells xs ws have.1)
