-- A place of a list that is taken out, copies that grow by one, and variables that are chosen one by one.
use Rattle.std.proofs.Common.{◌≡◌, ℕ, zero, suc, ◌+◌, ◌-◌, ◌/◌, ◌%◌, ◌<◌, ◌≤◌, ◌==◌, Bool, true, false, List, [], ◌∷◌, ◌++◌, length, take, drop, get_or, arith, refl, sym, ap, ◌∙◌, append_assoc}
use Rattle.std.specs.Prelude.{if◌then◌else◌}
use Rattle.std.specs.List.{remove}
use Rattle.std.proofs.Math.ListN.{drop_of_length-le}
use Rattle.std.proofs.Math.Seq.{drop-cons}
use Rattle.std.proofs.lemmas.List.{take-append-drop}
use Rattle.kk_counted.specs.Spending.{at_positions, numbers_from}
use Rattle.kk_counted.specs.VariableLists.{minus, minus_all}
use Rattle.kk_emitter.specs.Drafts.{chosen_of, copies}
use Rattle.kk_counted.proofs.CountChanges.{itself}
use Rattle.kk_counted.proofs.PlaceLists.{next_one, past_one}

-- ---- the first place of a variable is taken out

other : (y x : ℕ) → (y ≡ x → ⊥) → (y == x) ≡ false
other y x apart = grind arith

-- it is not where the list has been read
pub minus_past : (x : ℕ) (xs : List ℕ) (i : ℕ) (d : ℕ) → i < length xs → (get_or xs i d ≡ x → ⊥) → minus x xs ≡ take i xs ++ minus x (drop i xs) → minus x xs ≡ take (i + 1) xs ++ minus x (drop (i + 1) xs)
minus_past x xs i d less apart so_far =
    so_far
    ∙ (ap (λ ys. take i xs ++ minus x ys) (next_one xs i d less)
    ∙ (ap (λ t. take i xs ++ (if t then drop (i + 1) xs else get_or xs i d ∷ minus x (drop (i + 1) xs))) (other (get_or xs i d) x apart)
    ∙ (sym (append_assoc (take i xs) (get_or xs i d ∷ []) (minus x (drop (i + 1) xs)))
    ∙ ap (λ ys. ys ++ minus x (drop (i + 1) xs)) (sym (past_one xs i d less)))))

-- it is there
pub minus_here : (x : ℕ) (xs : List ℕ) (i : ℕ) (d : ℕ) → i < length xs → get_or xs i d ≡ x → minus x xs ≡ take i xs ++ minus x (drop i xs) → remove xs i ≡ minus x xs
minus_here x xs i d less is so_far =
    sym
    (so_far
    ∙ (ap (λ ys. take i xs ++ minus x ys) (drop-cons xs i d less)
    ∙ ap (λ t. take i xs ++ (if t then drop (suc i) xs else get_or xs i d ∷ minus x (drop (suc i) xs))) (ap (λ y. y == x) is ∙ itself x)))

-- ---- lists that grow by one

copies_end : (n : ℕ) (xs : List ℕ) → copies (suc n) xs ≡ copies n xs ++ xs ∷ []
copies_end zero xs = refl
copies_end (suc n) xs = ap (λ all. xs ∷ all) (copies_end n xs)

pub copies_more : (n m : ℕ) (xs : List ℕ) → m ≡ n + 1 → copies m xs ≡ copies n xs ++ xs ∷ []
copies_more n m xs is = ap (λ k. copies k xs) {x = m} {y = suc n} (omega (arith, is)) ∙ copies_end n xs

-- it is nowhere
pub minus_none : (x : ℕ) (xs : List ℕ) (i : ℕ) → length xs ≤ i → minus x xs ≡ take i xs ++ minus x (drop i xs) → xs ≡ minus x xs
minus_none x xs i past so_far =
    sym (so_far ∙ (ap (λ ys. take i xs ++ minus x ys) (drop_of_length-le xs past) ∙ (ap (λ ys. take i xs ++ ys) (sym (drop_of_length-le xs past)) ∙ take-append-drop i xs)))

-- ---- lists that are read one by one

-- a mask is read
pub chosen_taken : (found more : List ℕ) (mask : ℕ) (xs : List ℕ) (i d : ℕ) (all : List ℕ) → i < length xs → mask % 2 ≡ 1 → more ≡ found ++ get_or xs i d ∷ [] → found ++ chosen_of mask (drop i xs) ≡ all → more ++ chosen_of (mask / 2) (drop (i + 1) xs) ≡ all
chosen_taken found more mask xs i d all less odd is so_far =
    ap (λ ys. ys ++ chosen_of (mask / 2) (drop (i + 1) xs)) is
    ∙ (append_assoc found (get_or xs i d ∷ []) (chosen_of (mask / 2) (drop (i + 1) xs))
    ∙ (ap (λ t. found ++ (if t then get_or xs i d ∷ chosen_of (mask / 2) (drop (i + 1) xs) else chosen_of (mask / 2) (drop (i + 1) xs))) (sym (ap (λ n. n == 1) odd))
    ∙ (ap (λ ys. found ++ chosen_of mask ys) (sym (next_one xs i d less)) ∙ so_far)))

pub chosen_left : (found more : List ℕ) (mask : ℕ) (xs : List ℕ) (i d : ℕ) (all : List ℕ) → i < length xs → (mask % 2 ≡ 1 → ⊥) → more ≡ found → found ++ chosen_of mask (drop i xs) ≡ all → more ++ chosen_of (mask / 2) (drop (i + 1) xs) ≡ all
chosen_left found more mask xs i d all less even is so_far =
    ap (λ ys. ys ++ chosen_of (mask / 2) (drop (i + 1) xs)) is
    ∙ (ap (λ t. found ++ (if t then get_or xs i d ∷ chosen_of (mask / 2) (drop (i + 1) xs) else chosen_of (mask / 2) (drop (i + 1) xs))) (sym (other (mask % 2) 1 even))
    ∙ (ap (λ ys. found ++ chosen_of mask ys) (sym (next_one xs i d less)) ∙ so_far))

-- numbers are taken by their positions
numbers_next : (takes : ℕ → Bool) (i n : ℕ) → i < n → at_positions takes i (numbers_from i (n - i)) ≡ (if takes i then i ∷ at_positions takes (i + 1) (numbers_from (i + 1) (n - (i + 1))) else at_positions takes (i + 1) (numbers_from (i + 1) (n - (i + 1))))
numbers_next takes i n less =
    ap (λ k. at_positions takes i (numbers_from i k)) {x = n - i} {y = suc (n - (i + 1))} (omega (arith, less))
    ∙ ap (λ j. if takes i then i ∷ at_positions takes j (numbers_from j (n - (i + 1))) else at_positions takes j (numbers_from j (n - (i + 1)))) {x = suc i} {y = i + 1} (omega arith)

pub numbers_taken : (takes : ℕ → Bool) (found more : List ℕ) (i n : ℕ) (all : List ℕ) → i < n → takes i ≡ true → more ≡ found ++ i ∷ [] → found ++ at_positions takes i (numbers_from i (n - i)) ≡ all
    → more ++ at_positions takes (i + 1) (numbers_from (i + 1) (n - (i + 1))) ≡ all
numbers_taken takes found more i n all less taken is so_far =
    ap (λ ys. ys ++ at_positions takes (i + 1) (numbers_from (i + 1) (n - (i + 1)))) is
    ∙ (append_assoc found (i ∷ []) (at_positions takes (i + 1) (numbers_from (i + 1) (n - (i + 1))))
    ∙ (ap (λ t. found ++ (if t then i ∷ at_positions takes (i + 1) (numbers_from (i + 1) (n - (i + 1))) else at_positions takes (i + 1) (numbers_from (i + 1) (n - (i + 1))))) (sym taken)
    ∙ (ap (λ ys. found ++ ys) (sym (numbers_next takes i n less)) ∙ so_far)))

pub numbers_left : (takes : ℕ → Bool) (found more : List ℕ) (i n : ℕ) (all : List ℕ) → i < n → takes i ≡ false → more ≡ found → found ++ at_positions takes i (numbers_from i (n - i)) ≡ all
    → more ++ at_positions takes (i + 1) (numbers_from (i + 1) (n - (i + 1))) ≡ all
numbers_left takes found more i n all less taken is so_far =
    ap (λ ys. ys ++ at_positions takes (i + 1) (numbers_from (i + 1) (n - (i + 1)))) is
    ∙ (ap (λ t. found ++ (if t then i ∷ at_positions takes (i + 1) (numbers_from (i + 1) (n - (i + 1))) else at_positions takes (i + 1) (numbers_from (i + 1) (n - (i + 1))))) (sym taken)
    ∙ (ap (λ ys. found ++ ys) (sym (numbers_next takes i n less)) ∙ so_far))

-- arguments are taken out by their positions
used_next : (takes : ℕ → Bool) (i d : ℕ) (xs : List ℕ) → i < length xs → at_positions takes i (drop i xs) ≡ (if takes i then get_or xs i d ∷ at_positions takes (i + 1) (drop (i + 1) xs) else at_positions takes (i + 1) (drop (i + 1) xs))
used_next takes i d xs less =
    ap (at_positions takes i) (next_one xs i d less)
    ∙ ap (λ j. if takes i then get_or xs i d ∷ at_positions takes j (drop (i + 1) xs) else at_positions takes j (drop (i + 1) xs)) {x = suc i} {y = i + 1} (omega arith)

pub used_taken : (takes : ℕ → Bool) (owed less_owed : List ℕ) (i d : ℕ) (xs all : List ℕ) → i < length xs → takes i ≡ true → less_owed ≡ minus (get_or xs i d) owed → minus_all (at_positions takes i (drop i xs)) owed ≡ all
    → minus_all (at_positions takes (i + 1) (drop (i + 1) xs)) less_owed ≡ all
used_taken takes owed less_owed i d xs all less taken is so_far =
    ap (minus_all (at_positions takes (i + 1) (drop (i + 1) xs))) is
    ∙ (ap (λ t. minus_all (if t then get_or xs i d ∷ at_positions takes (i + 1) (drop (i + 1) xs) else at_positions takes (i + 1) (drop (i + 1) xs)) owed) (sym taken)
    ∙ (ap (λ ys. minus_all ys owed) (sym (used_next takes i d xs less)) ∙ so_far))

pub used_left : (takes : ℕ → Bool) (owed same_owed : List ℕ) (i d : ℕ) (xs all : List ℕ) → i < length xs → takes i ≡ false → same_owed ≡ owed → minus_all (at_positions takes i (drop i xs)) owed ≡ all
    → minus_all (at_positions takes (i + 1) (drop (i + 1) xs)) same_owed ≡ all
used_left takes owed same_owed i d xs all less taken is so_far =
    ap (minus_all (at_positions takes (i + 1) (drop (i + 1) xs))) is
    ∙ (ap (λ t. minus_all (if t then get_or xs i d ∷ at_positions takes (i + 1) (drop (i + 1) xs) else at_positions takes (i + 1) (drop (i + 1) xs)) owed) (sym taken)
    ∙ (ap (λ ys. minus_all ys owed) (sym (used_next takes i d xs less)) ∙ so_far))
