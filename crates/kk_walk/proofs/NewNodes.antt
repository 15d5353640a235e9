-- New nodes.
use Rattle.std.proofs.Common.{◌≡◌, ◌<◌, ◌+◌, ℕ, zero, suc, cond, ◌==◌, List, [], ◌∷◌, ◌++◌, length, map, refl, ap, sym, ◌∙◌, subst, arith}
use Rattle.std.proofs.lemmas.List.{map-append, length-append}
use Rattle.std.proofs.lemmas.List.Elements.{All-append, All-nil, All-cons}
use Rattle.std.proofs.lemmas.Bool.Decides.{nat_tests}
use Rattle.kk_syntax.specs.declared.typed.TypeNode.{TypeNode}
use Rattle.kk_syntax.specs.declared.typed.TypeNode.TheVariants.{Int32, Unit as Nothing, Variable, Named}
use Rattle.kk_syntax.specs.Types.{TypeTree, named, types_of}
use Rattle.kk_unify.specs.Graphs.{NodeTree, Assignment, Obeys, Adds, IsFormed}
use Rattle.kk_unify.specs.GraphOf.{type_by, IsAddable}
use Rattle.kk_unify.proofs.GraphAssignments.{obeying_is_local}
use Rattle.kk_walk.specs.Walks.{Agree, Builds, BuildsEach, Opens}
use Rattle.kk_walk.proofs.ClaimComposition.{agree_on, types_agree, below_more}

-- an assignment with another type for one node
abbrev update : Assignment → ℕ → TypeTree → Assignment
update r n t i = cond (i == n) t (r i)

update_there : (r : Assignment) (n : ℕ) (t : TypeTree) → update r n t n ≡ t
update_there r n t = grind (arith, nat_tests)

update_below : (r : Assignment) (n : ℕ) (t : TypeTree) → Agree n r (update r n t)
update_below r n t i lt = grind (arith, nat_tests)

pub type_by_agrees : (variables size : ℕ) (r q : Assignment) (node : TypeNode) → IsAddable variables size node → Agree size r q → type_by r node ≡ type_by q node
type_by_agrees variables size r q Int32 h agree = refl
type_by_agrees variables size r q Nothing h agree = refl
type_by_agrees variables size r q (Variable of) h agree = refl
type_by_agrees variables size r q (Named by arguments) h agree = ap (λ ts. named by (types_of ts)) (types_agree size r q agree arguments.items h)

module _ (variables : ℕ) (old new : List NodeTree) (formed : IsFormed variables old) (number : ℕ) where
  -- a node is added that says a type
  pub adds_builds : (type : Assignment → TypeTree) → ((r q : Assignment) → Agree (length old) r q → type r ≡ type q) → Adds old new number (λ r. r number ≡ type r) → Builds old new number type
  adds_builds type follows adds = record {
    longer = omega (arith, adds.longer);
    inside = omega (arith, adds.longer, adds.number_is);
    sound = adds.back;
    complete = λ r obeys.
        let q = update r number (type r) in
        let agree : Agree (length old) r q = subst (λ n. Agree n r q) adds.number_is (update_below r number (type r)) in
        (q, adds.onward q (obeying_is_local variables old r q formed agree obeys) (update_there r number (type r) ∙ follows r q agree), agree);
  }

  -- a node is added of any type
  pub adds_opens : Adds old new number (λ r. Unit {0}) → Opens old new (number ∷ []) 1
  adds_opens adds = record {
    longer = omega (arith, adds.longer);
    inside = All-cons (λ i. i < length new) number [] (omega (arith, adds.longer, adds.number_is)) (All-nil (λ i. i < length new));
    each = refl;
    sound = λ r obeys. (adds.back r obeys).0;
    complete = opened;
  }
    where
      opened : (r : Assignment) (ts : List TypeTree) → length ts ≡ 1 → Obeys old r → (q : Assignment) × Obeys new q × Agree (length old) r q × (map q (number ∷ []) ≡ ts)
      opened r [] each obeys = absurd (omega arith)
      opened r (t ∷ (u ∷ ts)) each obeys = absurd (omega arith)
      opened r (t ∷ []) each obeys =
          let q = update r number t in
          let agree : Agree (length old) r q = subst (λ n. Agree n r q) adds.number_is (update_below r number t) in
          (q, adds.onward q (obeying_is_local variables old r q formed agree obeys) tt, agree, ap (λ u. u ∷ []) (update_there r number t))

-- a node of the graph itself has the type that it has
pub stays : (graph : List NodeTree) (number : ℕ) (type : Assignment → TypeTree) → number < length graph → ((r : Assignment) → r number ≡ type r) → Builds graph graph number type
stays graph number type inside is = record {
  longer = omega arith;
  inside = inside;
  sound = λ r obeys. (obeys, is r);
  complete = λ r obeys. (r, obeys, (λ i lt. refl));
}

-- no nodes
pub builds_none : (graph : List NodeTree) → BuildsEach graph graph [] (λ r. [])
builds_none graph = record {
  longer = omega arith;
  inside = All-nil (λ i. i < length graph);
  sound = λ r obeys. (obeys, refl);
  complete = λ r obeys. (r, obeys, (λ i lt. refl));
}

pub opens_none : (graph : List NodeTree) → Opens graph graph [] 0
opens_none graph = record {
  longer = omega arith;
  inside = All-nil (λ i. i < length graph);
  each = refl;
  sound = λ r obeys. obeys;
  complete = λ r ts each obeys. (r, obeys, (λ i lt. refl), none ts each);
}
  where
    none : (ts : List TypeTree) → length ts ≡ 0 → [] ≡ ts
    none [] each = refl
    none (t ∷ ts) each = absurd (omega arith)

module _ (a b c : List NodeTree) (numbers : List ℕ) (number : ℕ) (types : Assignment → List TypeTree) (type : Assignment → TypeTree) where
  -- one node more
  pub builds_more : ((r q : Assignment) → Agree (length a) r q → types r ≡ types q) → BuildsEach a b numbers types → Builds b c number type → BuildsEach a c (numbers ++ (number ∷ [])) (λ r. types r ++ (type r ∷ []))
  builds_more follows first next = record {
    longer = omega (arith, first.longer, next.longer);
    inside = All-append (λ i. i < length c) numbers (number ∷ []) (below_more (length b) (length c) numbers next.longer first.inside) (All-cons (λ i. i < length c) number [] next.inside (All-nil (λ i. i < length c)));
    sound = λ r obeys.
        let second = next.sound r obeys in
        let one = first.sound r second.0 in
        let here = second.1 in
        let there = one.1 in
        (one.0, map-append r numbers (number ∷ []) ∙ cc);
    complete = λ r obeys.
        let one = first.complete r obeys in
        let two = next.complete one.0 one.1 in
        (two.0, two.1, agree_on (length a) (length b) r one.0 two.0 first.longer one.2 two.2);
  }

split_last : (ts : List TypeTree) (n : ℕ) → length ts ≡ n + 1 → (xs : List TypeTree) × (x : TypeTree) × (length xs ≡ n) × (ts ≡ xs ++ (x ∷ []))
split_last [] n e = absurd (omega arith)
split_last (t ∷ []) n e = ([], t, omega arith, refl)
split_last (t ∷ (u ∷ us)) zero e = absurd (omega arith)
split_last (t ∷ (u ∷ us)) (suc n) e =
    let rest = split_last (u ∷ us) n (omega arith) in
    (t ∷ rest.0, rest.1, omega (arith, rest.2), ap (λ l. t ∷ l) rest.3)

module _ (a b c : List NodeTree) (numbers : List ℕ) (number count : ℕ) where
  pub opens_more : Opens a b numbers count → Opens b c (number ∷ []) 1 → Opens a c (numbers ++ (number ∷ [])) (count + 1)
  opens_more first next = record {
    longer = omega (arith, first.longer, next.longer);
    inside = All-append (λ i. i < length c) numbers (number ∷ []) (below_more (length b) (length c) numbers next.longer first.inside) next.inside;
    each = length-append numbers (number ∷ []) ∙ ap (λ n. n + 1) first.each;
    sound = λ r obeys. first.sound r (next.sound r obeys);
    complete = λ r ts each obeys.
        let parts = split_last ts count each in
        let one = first.complete r parts.0 parts.2 obeys in
        let two = next.complete one.0 (parts.1 ∷ []) refl one.1 in
        let same : map two.0 numbers ≡ map one.0 numbers = sym (types_agree (length b) one.0 two.0 two.2 numbers first.inside) in
        let there = one.3 in
        let here = two.3 in
        let all = parts.3 in
        (two.0, two.1, agree_on (length a) (length b) r one.0 two.0 first.longer one.2 two.2, map-append two.0 numbers (number ∷ []) ∙ cc);
  }
