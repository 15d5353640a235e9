-- The shape of a core program, by its parts.
use Rattle.std.proofs.Common.{◌≡◌, ℕ, zero, suc, ◌+◌, ◌<◌, List, [], ◌∷◌, ◌++◌, map, length, take, get_or, arith, refl, sym, ap, ◌∙◌}
use Rattle.std.proofs.lemmas.List.{map-append}
use Rattle.std.specs.Global.{Vec}
use Rattle.kk_syntax.specs.declared.positions.Ownership.{Ownership}
use Rattle.kk_core.specs.declared.form.CoreFunction.{CoreFunction}

-- ---- a list that is made one after the other

count_map : {A B : Type 0} (f : A → B) (xs : List A) → length (map f xs) ≡ length xs
count_map f [] = refl
count_map f (x ∷ xs) = ap suc (count_map f xs)

pub take_next : {A B : Type 0} (f : A → B) (xs : List A) (at : ℕ) (x : A) → at < length xs → get_or xs at x ≡ x
    → take (at + 1) (map f xs) ≡ take at (map f xs) ++ f x ∷ []
take_next f [] at x less is = absurd (omega (arith, less))
take_next f (y ∷ ys) zero x less is = ap (λ z. f z ∷ []) is
take_next f (y ∷ ys) (suc at) x less is =
    ap (λ n. take n (f y ∷ map f ys)) {x = suc at + 1} {y = suc (at + 1)} (omega arith)
    ∙ ap (λ zs. f y ∷ zs) (take_next f ys at x (omega (arith, less)) is)

pub map_next : {A B : Type 0} (f : A → B) (xs : List A) (at : ℕ) (x : A) → at < length xs → get_or xs at x ≡ x
    → map f (take (at + 1) xs) ≡ map f (take at xs) ++ f x ∷ []
map_next f [] at x less is = absurd (omega (arith, less))
map_next f (y ∷ ys) zero x less is = ap (λ z. f z ∷ []) is
map_next f (y ∷ ys) (suc at) x less is =
    ap (λ n. map f (take n (y ∷ ys))) {x = suc at + 1} {y = suc (at + 1)} (omega arith)
    ∙ ap (λ zs. f y ∷ zs) (map_next f ys at x (omega (arith, less)) is)

pub grown : {A B : Type 0} (g : A → B) (made all : List A) (one : A) (done more : List B) (b : B) → all ≡ made ++ one ∷ []
    → g one ≡ b → map g made ≡ done → more ≡ done ++ b ∷ [] → map g all ≡ more
grown g made all one done more b is same so_far next =
    ap (map g) is ∙ map-append g made (one ∷ []) ∙ ap (λ y. map g made ++ y ∷ []) same ∙ ap (λ ys. ys ++ b ∷ []) so_far ∙ sym next

-- ---- tables that tell as many

abbrev pub told_by : Vec Ownership → List Ownership
told_by table = table.items

pub as_long : (tables : List (Vec Ownership)) (functions : List CoreFunction)
    → map length (map told_by tables) ≡ map (λ (f : CoreFunction). length f.parameters_have_cells.items) functions
    → length tables ≡ length functions
as_long tables functions told =
    sym (count_map length (map told_by tables) ∙ count_map told_by tables) ∙ ap length told
    ∙ count_map (λ (f : CoreFunction). length f.parameters_have_cells.items) functions

pub as_many_at : (tables : List (Vec Ownership)) (functions : List CoreFunction) (at : ℕ) (table : Vec Ownership)
    (function : CoreFunction)
    → map length (map told_by tables) ≡ map (λ (f : CoreFunction). length f.parameters_have_cells.items) functions
    → at < length functions → get_or tables at table ≡ table → get_or functions at function ≡ function
    → length table.items ≡ length function.parameters_have_cells.items
as_many_at tables [] at table function told less here there = absurd (omega (arith, less))
as_many_at [] (f ∷ functions) at table function told less here there = absurd (nothing told)
  where
    nothing : [] ≡ length f.parameters_have_cells.items ∷ map (λ (g : CoreFunction). length g.parameters_have_cells.items) functions → ⊥
    nothing is = cc
as_many_at (t ∷ tables) (f ∷ functions) zero table function told less here there =
    ap (λ (v : Vec Ownership). length v.items) (sym here) ∙ head told
    ∙ ap (λ (g : CoreFunction). length g.parameters_have_cells.items) there
  where
    head : length t.items ∷ map length (map told_by tables)
        ≡ length f.parameters_have_cells.items ∷ map (λ (g : CoreFunction). length g.parameters_have_cells.items) functions
        → length t.items ≡ length f.parameters_have_cells.items
    head is = cc
as_many_at (t ∷ tables) (f ∷ functions) (suc at) table function told less here there =
    as_many_at tables functions at table function (rest told) (omega (arith, less)) here there
  where
    rest : length t.items ∷ map length (map told_by tables)
        ≡ length f.parameters_have_cells.items ∷ map (λ (g : CoreFunction). length g.parameters_have_cells.items) functions
        → map length (map told_by tables) ≡ map (λ (g : CoreFunction). length g.parameters_have_cells.items) functions
    rest is = cc
