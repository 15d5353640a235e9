-- What is taken, with other numbers for nodes.
use Rattle.std.proofs.Common.{◌≡◌, ◌<◌, ◌+◌, ℕ, List, [], ◌∷◌, ◌++◌, length, map, get_or, take, refl, ap, sym, ◌∙◌, subst, arith}
use Rattle.std.proofs.lemmas.List.{get_or-map, length-map, map-append, take_more}
use Rattle.std.proofs.lemmas.List.Elements.{All-map, All-same, All-push, All-weaker}
use Rattle.kk_syntax.specs.declared.typed.Taken.{Taken}
use Rattle.kk_syntax.specs.Types.{TypeTree, type_at}
use Rattle.kk_syntax.specs.TypedPrograms.{choice_of}
use Rattle.kk_walk.specs.Walks.{taking_of, takings_of, choice_at, choices_at, AreBelow, Taking, IsTakenBelow, AreTakenBelow}

-- the types at the numbers of nodes
pub each_numbered : (types : List TypeTree) (numbers at found : List ℕ) → found ≡ map (λ i. get_or numbers i 0) at → map (type_at types) found ≡ map (λ i. type_at types (get_or numbers i 0)) at
each_numbered types numbers at found is = ap (map (type_at types)) is ∙ again at
  where
    again : (is : List ℕ) → map (type_at types) (map (λ i. get_or numbers i 0) is) ≡ map (λ i. type_at types (get_or numbers i 0)) is
    again [] = refl
    again (i ∷ is) = ap (λ ts. type_at types (get_or numbers i 0) ∷ ts) (again is)

-- the numbers of nodes that are there are below what all numbers are below
pub each_below : (size : ℕ) (numbers at found : List ℕ) → AreBelow size numbers → AreBelow (length numbers) at → found ≡ map (λ i. get_or numbers i 0) at → AreBelow size found
each_below size numbers at found below there is =
    let P : ℕ → Type 0 = λ n. n < size in
    let each = All-weaker (λ i. i < length numbers) (λ i. P (get_or numbers i 0)) (λ i lt. below i 0 lt) at there in
    All-same P found (map (λ i. get_or numbers i 0) at) is (All-map P (λ i. get_or numbers i 0) at each)

-- one place more, of nodes below a bound
pub one_below : (size : ℕ) (found more : List Taken) (other : Taken) → more ≡ found ++ (other ∷ []) → AreTakenBelow size (takings_of found) → IsTakenBelow size (taking_of other) → AreTakenBelow size (takings_of more)
one_below size found more other grown before here =
    let P : Taking → Type 0 = IsTakenBelow size in
    All-same P (takings_of more) (takings_of found ++ (taking_of other ∷ [])) (ap takings_of grown ∙ map-append taking_of found (other ∷ [])) (All-push P (takings_of found) (taking_of other) before here)

-- one place is of nodes that are there
pub one_inside : (size : ℕ) (taken : List Taken) (i : ℕ) (one : Taken) → AreTakenBelow size (takings_of taken) → i < length taken → one ≡ get_or taken i one → IsTakenBelow size (taking_of one)
one_inside size taken i one inside lt here =
    subst (λ t. IsTakenBelow size (taking_of t)) (sym here) (subst (IsTakenBelow size) (get_or-map taking_of taken i one (taking_of one) lt) (inside i (taking_of one) (omega (arith, length-map taken taking_of))))

-- one place more
pub one_numbered : (types : List TypeTree) (numbers : List ℕ) (taken found more : List Taken) (i : ℕ) (one other : Taken) → i < length taken → one ≡ get_or taken i one → more ≡ found ++ (other ∷ []) → choice_of types other ≡ choice_at (λ j. type_at types (get_or numbers j 0)) (taking_of one) → map (choice_of types) found ≡ choices_at (λ j. type_at types (get_or numbers j 0)) (takings_of (take i taken)) → map (choice_of types) more ≡ choices_at (λ j. type_at types (get_or numbers j 0)) (takings_of (take (i + 1) taken))
one_numbered types numbers taken found more i one other lt here grown same before =
    let r : ℕ → TypeTree = λ j. type_at types (get_or numbers j 0) in
    ap (map (choice_of types)) grown ∙ (map-append (choice_of types) found (other ∷ []) ∙ (ap (λ cs. cs ++ (choice_of types other ∷ [])) before ∙ (ap (λ c. choices_at r (takings_of (take i taken)) ++ (c ∷ [])) (same ∙ ap (λ t. choice_at r (taking_of t)) here)
    ∙ (sym (map-append (choice_at r) (takings_of (take i taken)) (taking_of (get_or taken i one) ∷ [])) ∙ ap (choices_at r) (sym (map-append taking_of (take i taken) (get_or taken i one ∷ [])) ∙ ap takings_of (sym (take_more taken i one lt)))))))
