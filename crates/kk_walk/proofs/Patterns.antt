-- The variables of patterns, each bound to a new node.
use Rattle.std.proofs.Common.{◌≡◌, ◌<◌, ◌≤◌, ◌+◌, ◌⊎◌, inl, inr, ℕ, ℤ, zero, suc, min, List, [], ◌∷◌, ◌++◌, length, map, take, drop, get_or, refl, ap, sym, ◌∙◌, subst, append_assoc, arith}
use Rattle.std.proofs.lemmas.List.{map-append, append-nil, length-append, length-map, length-take, take-take, take_all, take-append-le}
use Rattle.std.proofs.lemmas.List.Elements.{All-append, All-nil, All-cons}
use Rattle.kk_syntax.specs.declared.program.Pat.{Pat}
use Rattle.kk_syntax.specs.declared.program.Pat.TheVariants.{Wildcard, Number}
use Rattle.kk_syntax.specs.Patterns.{patterns_of, pattern_tree}
use Rattle.kk_syntax.proofs.ProgramTrees.{next_part}
use Rattle.kk_syntax.specs.Shapes.{bound, bound_all}
use Rattle.kk_syntax.specs.Types.{TypeTree}
use Rattle.kk_syntax.specs.Typing.{Scope, with_bound}
use Rattle.kk_syntax.proofs.PatternViews.{wildcard_tree, number_tree}
use Rattle.kk_unify.specs.Graphs.{NodeTree}
use Rattle.kk_unify.specs.GraphOf.{variables_of}
use Rattle.kk_walk.specs.declared.walk.Bound.{Bound}
use Rattle.kk_walk.specs.declared.walk.Walk.{Walk}
use Rattle.kk_walk.specs.Steps.{nodes_of, size_of, Opened, BindsEach}
use Rattle.kk_walk.specs.Walks.{holding_at, takings_of, AreBoundBelow, scope_at, Opens}
use Rattle.kk_walk.proofs.NewNodes.{opens_none}
use Rattle.kk_walk.proofs.ClaimComposition.{head_of, agree_on, types_agree, below_more, bound_more}
use Rattle.kk_walk.proofs.Scopes.{scope_more}

-- `_` and a number bind nothing
pub nothing_bound : (p : Pat) → (p ≡ Wildcard) ⊎ ((n : ℤ) × (p ≡ Number n)) → bound (pattern_tree p) ≡ []
nothing_bound p (inl is) = ap (λ q. bound (pattern_tree q)) is ∙ ap bound wildcard_tree
nothing_bound p (inr is) = ap (λ q. bound (pattern_tree q)) is.1 ∙ ap bound (number_tree is.0)

-- types in two parts
split_at : (ts : List TypeTree) (n m : ℕ) → length ts ≡ n + m → (xs : List TypeTree) × (ys : List TypeTree) × (length xs ≡ n) × (length ys ≡ m) × (ts ≡ xs ++ ys)
split_at ts zero m e = ([], ts, refl, omega (arith, e), refl)
split_at [] (suc n) m e = absurd (omega arith)
split_at (t ∷ ts) (suc n) m e =
    let rest = split_at ts n m (omega arith) in
    (t ∷ rest.0, rest.1, omega (arith, rest.2), rest.3, ap (λ l. t ∷ l) rest.4)

module _ (a b c : List NodeTree) (xs ys : List ℕ) (n m : ℕ) where
  -- new nodes behind other new nodes
  opens_then : Opens a b xs n → Opens b c ys m → Opens a c (xs ++ ys) (n + m)
  opens_then first next = record {
    longer = omega (arith, first.longer, next.longer);
    inside = All-append (λ i. i < length c) xs ys (below_more (length b) (length c) xs next.longer first.inside) next.inside;
    each = length-append xs ys ∙ omega (arith, first.each, next.each);
    sound = λ r obeys. first.sound r (next.sound r obeys);
    complete = λ r ts each obeys.
        let parts = split_at ts n m each in
        let one = first.complete r parts.0 parts.2 obeys in
        let two = next.complete one.0 parts.1 parts.3 one.1 in
        let same : map two.0 xs ≡ map one.0 xs = sym (types_agree (length b) one.0 two.0 two.2 xs first.inside) in
        let there = one.3 in
        let here = two.3 in
        let all = parts.4 in
        (two.0, two.1, agree_on (length a) (length b) r one.0 two.0 first.longer one.2 two.2, map-append two.0 xs ys ∙ cc);
  }

-- variables in two parts
bound_then : (xs ys : List ℕ) (ts us : List TypeTree) (scope : Scope) → length ts ≡ length xs → with_bound (xs ++ ys) (ts ++ us) scope ≡ with_bound ys us (with_bound xs ts scope)
bound_then [] ys [] us scope e = refl
bound_then [] ys (t ∷ ts) us scope e = absurd (omega arith)
bound_then (x ∷ xs) ys [] us scope e = absurd (omega arith)
bound_then (x ∷ xs) ys (t ∷ ts) us scope e = bound_then xs ys ts us (record { variable = x; type = t } ∷ scope) (omega arith)

-- what is in front of what is in front
front_of_front : {X : Type 0} (old mid new : List X) → take (length mid) new ≡ mid → take (length old) mid ≡ old → take (length old) new ≡ old
front_of_front old mid new first next =
    let long : min (length old) (length mid) ≡ length old = sym (length-take (length old) mid) ∙ ap length next in
    let le : length old ≤ length mid = omega arith in
    sym (take-take (length old) (length mid) new le) ∙ (ap (take (length old)) first ∙ next)

pub binds_none : (w : Walk) → BindsEach w w []
binds_none w = record {
  at = [];
  opens = opens_none (nodes_of w);
  takes = sym (append-nil (takings_of w.taken.items));
  scope = λ r. refl;
  bound_inside = λ h. h;
  outer = take_all (length w.scope.items) w.scope.items (omega arith);
  same_variables = refl;
}

-- one variable
pub binds_one : (a b c : Walk) (x node : ℕ) (bound : Bound) → Opened a b node → nodes_of c ≡ nodes_of b → c.taken.items ≡ b.taken.items → c.scope.items ≡ b.scope.items ++ (bound ∷ []) → bound.variable ≡ x → bound.node ≡ node → variables_of c.graph ≡ variables_of b.graph → BindsEach a c (x ∷ [])
binds_one a b c x node bound opened graph taken scope named there variables = record {
  at = node ∷ [];
  opens = subst (λ g. Opens (nodes_of a) g (node ∷ []) 1) (sym graph) opened.opens;
  takes = ap takings_of taken ∙ opened.takes;
  scope = λ r.
      ap (scope_at r) (scope ∙ ap (λ s. s ++ (bound ∷ [])) opened.same_scope)
      ∙ (scope_more r a.scope.items bound
      ∙ cc);
  bound_inside = λ h.
      let le : size_of a ≤ size_of c = omega (arith, opened.opens.longer, ap length graph) in
      let first : node < size_of b = head_of (λ i. i < size_of b) node [] opened.opens.inside in
      let lt : bound.node < size_of c = omega (arith, first, there, ap length graph) in
      subst (AreBoundBelow (size_of c)) (sym (scope ∙ ap (λ s. s ++ (bound ∷ [])) opened.same_scope))
      (All-append (λ b. b.node < size_of c) a.scope.items (bound ∷ []) (bound_more (size_of a) (size_of c) a.scope.items le h) (All-cons (λ b. b.node < size_of c) bound [] lt (All-nil (λ b. b.node < size_of c))));
  outer = ap (take (length a.scope.items)) (scope ∙ ap (λ s. s ++ (bound ∷ [])) opened.same_scope) ∙ (take-append-le (length a.scope.items) a.scope.items (bound ∷ []) (omega arith) ∙ take_all (length a.scope.items) a.scope.items (omega arith));
  same_variables = variables ∙ opened.same_variables;
}

module _ (a b c : Walk) (xs ys : List ℕ) where
  pub binds_then : BindsEach a b xs → BindsEach b c ys → BindsEach a c (xs ++ ys)
  binds_then first next = record {
    at = first.at ++ next.at;
    opens = subst (Opens (nodes_of a) (nodes_of c) (first.at ++ next.at)) (sym (length-append xs ys)) (opens_then (nodes_of a) (nodes_of b) (nodes_of c) first.at next.at (length xs) (length ys) first.opens next.opens);
    takes = next.takes ∙ (ap (λ l. l ++ map holding_at next.at) first.takes ∙ (append_assoc (takings_of a.taken.items) (map holding_at first.at) (map holding_at next.at) ∙ ap (λ l. takings_of a.taken.items ++ l) (sym (map-append holding_at first.at next.at))));
    scope = λ r.
        next.scope r
        ∙ (ap (with_bound ys (map r next.at)) (first.scope r)
        ∙ (sym (bound_then xs ys (map r first.at) (map r next.at) (scope_at r a.scope.items) (length-map first.at r ∙ first.opens.each))
        ∙ ap (λ ts. with_bound (xs ++ ys) ts (scope_at r a.scope.items)) (sym (map-append r first.at next.at))));
    bound_inside = λ h. next.bound_inside (first.bound_inside h);
    outer = front_of_front a.scope.items b.scope.items c.scope.items next.outer first.outer;
    same_variables = next.same_variables ∙ first.same_variables;
  }

-- a part of a pattern is bound, and then what is left of them
pub binds_part : (a b c : Walk) (xs : List ℕ) (parts : List Pat) (i : ℕ) (part : Pat) (all : List ℕ) → i < length parts → part ≡ get_or parts i part → BindsEach a b xs → xs ++ bound_all (patterns_of (map pattern_tree (drop i parts))) ≡ all → BindsEach b c (bound (pattern_tree part)) → (ys : List ℕ) × BindsEach a c ys × (ys ++ bound_all (patterns_of (map pattern_tree (drop (i + 1) parts))) ≡ all)
binds_part a b c xs parts i part all lt is first whole next =
    let rest = bound_all (patterns_of (map pattern_tree (drop (i + 1) parts))) in (
      xs ++ bound (pattern_tree part),
      binds_then a b c xs (bound (pattern_tree part)) first next,
      append_assoc xs (bound (pattern_tree part)) rest
          ∙ (ap (λ left. xs ++ bound_all left) (sym (next_part parts i part is lt)) ∙ whole),
    )
