-- That constructors of which the same is known are as consistent.
use Rattle.std.proofs.Common.{◌≡◌, ℕ, zero, suc, ◌+◌, ◌==◌, ◌&&◌, ◌||◌, Bool, not, cond, List, [], ◌∷◌, map, length, take, Some, refl, sym, ap, ◌∙◌}
use Rattle.std.specs.Prelude.{count_by, slice_get}
use Rattle.std.specs.List.{list_any, fold}
use Rattle.kk_core.specs.declared.shape.ConstructorShape.{ConstructorShape}
use Rattle.kk_core.specs.ConstructorShapes.{has_fields, AreConsistent}
use Rattle.kk_insert.specs.Shapes.{ConstructorFacts, facts_of}

found : (xs ys : List ConstructorShape) (i : ℕ) (one : ConstructorShape) → map facts_of xs ≡ map facts_of ys
    → slice_get xs i ≡ Some one → (other : ConstructorShape) × ((slice_get ys i ≡ Some other) × (facts_of one ≡ facts_of other))
found [] ys i one same is = absurd (nothing is)
  where
    nothing : slice_get [] i ≡ Some one → ⊥
    nothing there = cc
found (x ∷ xs) [] i one same is = absurd (nothing same)
  where
    nothing : facts_of x ∷ map facts_of xs ≡ [] → ⊥
    nothing there = cc
found (x ∷ xs) (y ∷ ys) zero one same is = (y, (refl, ap facts_of (sym (only is)) ∙ head same))
  where
    only : Some x ≡ Some one → x ≡ one
    only there = cc

    head : facts_of x ∷ map facts_of xs ≡ facts_of y ∷ map facts_of ys → facts_of x ≡ facts_of y
    head there = ap (λ (fs : List ConstructorFacts). first_of (facts_of x) fs) there
      where
        first_of : ConstructorFacts → List ConstructorFacts → ConstructorFacts
        first_of other [] = other
        first_of other (f ∷ fs) = f
found (x ∷ xs) (y ∷ ys) (suc i) one same is = found xs ys i one (rest same) is
  where
    rest : facts_of x ∷ map facts_of xs ≡ facts_of y ∷ map facts_of ys → map facts_of xs ≡ map facts_of ys
    rest there = ap (λ (fs : List ConstructorFacts). rest_of fs) there
      where
        rest_of : List ConstructorFacts → List ConstructorFacts
        rest_of [] = []
        rest_of (f ∷ fs) = fs

map_take : (i : ℕ) (zs : List ConstructorShape) → map facts_of (take i zs) ≡ take i (map facts_of zs)
map_take zero [] = refl
map_take zero (z ∷ zs) = refl
map_take (suc i) [] = refl
map_take (suc i) (z ∷ zs) = ap (λ fs. facts_of z ∷ fs) (map_take i zs)

count_from : (p : ConstructorFacts → Bool) (zs : List ConstructorShape) (n : ℕ)
    → fold (λ (m : ℕ) (f : ConstructorFacts). m + cond (p f) 1 0) n (map facts_of zs)
    ≡ fold (λ (m : ℕ) (o : ConstructorShape). m + cond (p (facts_of o)) 1 0) n zs
count_from p [] n = refl
count_from p (z ∷ zs) n = count_from p zs (n + cond (p (facts_of z)) 1 0)

count_facts : (p : ConstructorFacts → Bool) (zs : List ConstructorShape)
    → count_by p (map facts_of zs) ≡ count_by (λ o. p (facts_of o)) zs
count_facts p zs = count_from p zs 0

any_facts : (p : ConstructorFacts → Bool) (zs : List ConstructorShape)
    → list_any p (map facts_of zs) ≡ list_any (λ o. p (facts_of o)) zs
any_facts p [] = refl
any_facts p (z ∷ zs) = ap (λ b. p (facts_of z) || b) (any_facts p zs)

pub consistent : (xs ys : List ConstructorShape) → map facts_of xs ≡ map facts_of ys → AreConsistent ys → AreConsistent xs
consistent xs ys same known =
    record {
      tags = λ i one is.
          let other = found xs ys i one same is in
          ap (λ (f : ConstructorFacts). f.tag) other.1.1
          ∙ (known.tags i other.0 other.1.0
          ∙ (ap (λ t. count_by (λ (o : ConstructorShape). o.of_type == t) (take i ys)) (sym (ap (λ (f : ConstructorFacts). f.of_type) other.1.1))
          ∙ (sym (count_facts (λ f. f.of_type == one.of_type) (take i ys))
          ∙ (ap (count_by (λ (f : ConstructorFacts). f.of_type == one.of_type)) (map_take i ys ∙ (ap (take i) (sym same) ∙ sym (map_take i xs)))
          ∙ count_facts (λ f. f.of_type == one.of_type) (take i xs)))));
      cells = λ i one is.
          let other = found xs ys i one same is in
          ap (λ (f : ConstructorFacts). f.has_cells) other.1.1
          ∙ (known.cells i other.0 other.1.0
          ∙ (ap (λ t. list_any (λ (o : ConstructorShape). (o.of_type == t) && has_fields o) ys) (sym (ap (λ (f : ConstructorFacts). f.of_type) other.1.1))
          ∙ (sym (any_facts (λ f. (f.of_type == one.of_type) && not (length f.fields == 0)) ys)
          ∙ (ap (list_any (λ (f : ConstructorFacts). (f.of_type == one.of_type) && not (length f.fields == 0))) (sym same)
          ∙ any_facts (λ f. (f.of_type == one.of_type) && not (length f.fields == 0)) xs))));
    }
