-- Free variables, without those that are bound around them.
use Rattle.std.proofs.Common.{◌≡◌, ℕ, Bool, true, false, not, ◌||◌, ◌==◌, List, [], ◌∷◌, ◌++◌, refl, sym, ap, ◌∙◌, append_assoc, cond, ◌+◌, Result, Ok, Err, OnOk}
use Rattle.std.proofs.lemmas.List.Elements.{filter-append}
use Rattle.std.proofs.lemmas.List.Folds.{list_any-append}
use Rattle.kk_syntax.specs.Trees.{Tree, StatementTree, block_of}
use Rattle.kk_syntax.specs.Shapes.{bound_by, is_among, without, free}
use Rattle.kk_meaning.specs.FreeOf.{free_of_statements, bound_by_statements}

pub without-append : (bs xs ys : List ℕ) → without bs (xs ++ ys) ≡ without bs xs ++ without bs ys
without-append bs xs ys = filter-append (λ x. not (is_among bs x)) xs ys

pub without_none : (xs : List ℕ) → without [] xs ≡ xs
without_none [] = refl
without_none (x ∷ xs) = ap (λ (l : List ℕ). x ∷ l) (without_none xs)

-- bound around and bound within
pub without_both : (bs cs xs : List ℕ) → without bs (without cs xs) ≡ without (bs ++ cs) xs
without_both bs cs [] = refl
without_both bs cs (x ∷ xs) = by_tests (is_among cs x) (is_among bs x) (is_among (bs ++ cs) x) refl refl (list_any-append (λ y. y == x) bs cs) (without_both bs cs xs)
  where
    by_tests : (c b both : Bool) → is_among cs x ≡ c → is_among bs x ≡ b → both ≡ (b || c) → without bs (without cs xs) ≡ without (bs ++ cs) xs → without bs (cond (not c) (x ∷ without cs xs) (without cs xs)) ≡ cond (not both) (x ∷ without (bs ++ cs) xs) (without (bs ++ cs) xs)
    by_tests true true both cs_is bs_is is rest = rw (is) rest
    by_tests true false both cs_is bs_is is rest = rw (is) rest
    by_tests false true both cs_is bs_is is rest = rw (is, bs_is) rest
    by_tests false false both cs_is bs_is is rest = rw (is, bs_is) (ap (λ (l : List ℕ). x ∷ l) rest)

-- a block's are those of its statements, and of its last expression
pub free_of_block : (ss : List StatementTree) (last : Tree) → free (block_of ss last) ≡ free_of_statements ss ++ without (bound_by_statements ss) (free last)
free_of_block [] last = sym (without_none (free last))
free_of_block (s ∷ ss) last =
    ap (λ (l : List ℕ). free s.value ++ l)
    (ap (without (bound_by s.binder)) (free_of_block ss last)
    ∙ (without-append (bound_by s.binder) (free_of_statements ss) (without (bound_by_statements ss) (free last))
    ∙ ap (λ (l : List ℕ). without (bound_by s.binder) (free_of_statements ss) ++ l) (without_both (bound_by s.binder) (bound_by_statements ss) (free last))))
    ∙ sym (append_assoc (free s.value) (without (bound_by s.binder) (free_of_statements ss)) (without (bound_by s.binder ++ bound_by_statements ss) (free last)))

-- those of one part are found, and those of the others are left
pub found_one : (found more bs xs ys whole : List ℕ) → more ≡ found ++ without bs xs → found ++ without bs (xs ++ ys) ≡ whole → more ++ without bs ys ≡ whole
found_one found more bs xs ys whole is before =
    ap (λ (l : List ℕ). l ++ without bs ys) is
    ∙ (append_assoc found (without bs xs) (without bs ys)
    ∙ (ap (λ (l : List ℕ). found ++ l) (sym (without-append bs xs ys)) ∙ before))

-- the same, where the part binds variables itself
pub found_within : (found more bs cs xs ys whole : List ℕ) → more ≡ found ++ without (bs ++ cs) xs → found ++ without bs (without cs xs ++ ys) ≡ whole → more ++ without bs ys ≡ whole
found_within found more bs cs xs ys whole is before =
    found_one found more bs (without cs xs) ys whole (is ∙ ap (λ (l : List ℕ). found ++ l) (sym (without_both bs cs xs))) before

-- the same, where the part binds variables in the others
pub found_before : (found more bs cs xs ys whole : List ℕ) → more ≡ found ++ without bs xs → found ++ without bs (xs ++ without cs ys) ≡ whole → more ++ without (bs ++ cs) ys ≡ whole
found_before found more bs cs xs ys whole is before =
    ap (λ (l : List ℕ). more ++ l) (sym (without_both bs cs ys)) ∙ found_one found more bs xs (without cs ys) whole is before

-- statements, and what comes behind them
pub found_block : (found middle now bs fs cs xs : List ℕ) → middle ≡ found ++ without bs fs → now ≡ middle ++ without (bs ++ cs) xs → now ≡ found ++ without bs (fs ++ without cs xs)
found_block found middle now bs fs cs xs middle_is now_is =
    now_is
    ∙ (ap (λ (l : List ℕ). l ++ without (bs ++ cs) xs) middle_is
    ∙ (append_assoc found (without bs fs) (without (bs ++ cs) xs)
    ∙ ap (λ (l : List ℕ). found ++ l)
    (ap (λ (l : List ℕ). without bs fs ++ l) (sym (without_both bs cs xs)) ∙ sym (without-append bs fs (without cs xs)))))

-- with nothing found before and nothing bound around
pub found_plain : (none outside found xs : List ℕ) → none ≡ [] → outside ≡ [] → found ≡ none ++ without outside xs → found ≡ xs
found_plain none outside found xs none_is outside_is is =
    is ∙ (ap (λ (l : List ℕ). l ++ without outside xs) none_is ∙ (ap (λ (l : List ℕ). without l xs) outside_is ∙ without_none xs))

pub found_two : (none middle outside found xs ys : List ℕ) (bound : List ℕ) → none ≡ [] → outside ≡ [] → bound ≡ outside → middle ≡ none ++ without outside xs → found ≡ middle ++ without bound ys → found ≡ xs ++ ys
found_two none middle outside found xs ys bound none_is outside_is bound_is middle_is is =
    is ∙ (ap (λ (l : List ℕ). l ++ without bound ys) (found_plain none outside middle xs none_is outside_is middle_is)
    ∙ ap (λ (l : List ℕ). xs ++ l) (ap (λ (l : List ℕ). without l ys) (bound_is ∙ outside_is) ∙ without_none ys))

-- what holds where a call succeeds
pub on_ok : {T E P Q : Type 0} (r : Result T E) → (P → Q) → OnOk r P → OnOk r Q
on_ok (Ok x) f p = f p
on_ok (Err e) f p = tt
