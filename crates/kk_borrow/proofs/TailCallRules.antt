-- The rules for tail calls say what the second part of Obeys says: what is passed there is owned, or a lent variable.
use Rattle.std.proofs.Common.{◌≡◌, ◌<◌, ℕ, zero, suc, ◌+◌, Bool, true, false, not, ◌==◌, ◌&&◌, ◌||◌, cond, List, [], ◌∷◌, ◌++◌, map, refl, sym, ap, ◌∙◌, All, IsTrue, ◌↔◌}
use Rattle.std.specs.List.{list_any, filter}
use Rattle.std.proofs.lemmas.Bool.{both_ways, or_parts, or_from, not_from_true, not-false}
use Rattle.std.proofs.lemmas.List.{map-append}
use Rattle.std.proofs.lemmas.List.Elements.{All-nil, All-cons, All-head, All-tail, All-append, filter-append}
use Rattle.std.proofs.lemmas.List.Folds.{list_any-append}
use Rattle.kk_syntax.specs.declared.program.Form.{Form}
use Rattle.kk_syntax.specs.declared.program.Form.TheVariants.{Call}
use Rattle.kk_syntax.specs.Patterns.{Pattern}
use Rattle.kk_syntax.specs.Programs.{ProgramTree}
use Rattle.kk_syntax.specs.Shapes.{bound, is_among}
use Rattle.kk_syntax.specs.Trees.{Tree, variable, apply, Trees, no_tree, tree}
use Rattle.kk_syntax.specs.declared.positions.Position.{Position}
use Rattle.kk_borrow.specs.declared.scope.Binding.{Binding}
use Rattle.kk_syntax.specs.OwnedPositions.{PositionSet, arity_of, lent_below, is_lent_variable, lent_in_row, handed_to, handed_by}
use Rattle.kk_syntax.specs.OwnedSearch.{to_handed, handed_in}
use Rattle.kk_borrow.specs.Rules.{RuleTree, Has, Keeps}
use Rattle.kk_borrow.specs.Demands.{position, origins_of, origins_in, hung, all_hung, parameters, passed, passed_by, passed_at, to_tail_rules, tail_rules}
use Rattle.kk_syntax.proofs.Lists.{all_left, all_right}
use Rattle.kk_syntax.proofs.Walks.{tails_agree}

-- whether one of some parameters is lent
abbrev pub some_lent : (ℕ → Bool) → List ℕ → Bool
some_lent owned ps = list_any (λ p. not (owned p)) ps

-- a scope tells of each variable whether it is lent
abbrev pub Tells : (ℕ → Bool) → List Binding → List ℕ → Type 0
Tells owned scope lent = (x : ℕ) → is_among lent x ≡ some_lent owned (origins_of scope x)

origins-append : (xs ys : List Binding) (x : ℕ) → origins_of (xs ++ ys) x ≡ origins_of xs x ++ origins_of ys x
origins-append xs ys x =
    ap (map (λ b. b.parameter)) (filter-append (λ b. b.variable == x) xs ys)
    ∙ map-append (λ b. b.parameter) (filter (λ b. b.variable == x) xs) (filter (λ b. b.variable == x) ys)

lent-append : (owned : ℕ → Bool) (xs ys : List Binding) (x : ℕ)
    → some_lent owned (origins_of (xs ++ ys) x) ≡ (some_lent owned (origins_of xs x) || some_lent owned (origins_of ys x))
lent-append owned xs ys x =
    ap (some_lent owned) (origins-append xs ys x) ∙ list_any-append (λ p. not (owned p)) (origins_of xs x) (origins_of ys x)

kept_if : (c : Bool) (os : List ℕ) (owned : ℕ → Bool) → some_lent owned (cond c os []) ≡ (c && some_lent owned os)
kept_if true os owned = refl
kept_if false os owned = refl

hung_is : (y x : ℕ) (os : List ℕ) (c : Bool) → (y == x) ≡ c → origins_of (hung y os) x ≡ cond c os []
hung_is y x [] true is = refl
hung_is y x [] false is = refl
hung_is y x (o ∷ os) true is = rw is (ap (λ (ps : List ℕ). o ∷ ps) (hung_is y x os true is))
hung_is y x (o ∷ os) false is = rw is (hung_is y x os false is)

all_hung_lent : (owned : ℕ → Bool) (ys : List ℕ) (os : List ℕ) (x : ℕ)
    → some_lent owned (origins_of (all_hung ys os) x) ≡ (is_among ys x && some_lent owned os)
all_hung_lent owned [] os x = refl
all_hung_lent owned (y ∷ ys) os x =
    lent-append owned (hung y os) (all_hung ys os) x
    ∙ (ap (λ b. b || some_lent owned (origins_of (all_hung ys os) x))
    (ap (some_lent owned) (hung_is y x os (y == x) refl) ∙ kept_if (y == x) os owned)
    ∙ (ap (λ b. (y == x && some_lent owned os) || b) (all_hung_lent owned ys os x)
    ∙ spread (y == x) (is_among ys x) (some_lent owned os)))
  where
    spread : (a b c : Bool) → ((a && c) || (b && c)) ≡ ((a || b) && c)
    spread true true true = refl
    spread true false true = refl
    spread false b c = refl
    spread true true false = refl
    spread true false false = refl

-- the scope in a row
row_tells : (owned : ℕ → Bool) (scope : List Binding) (lent : List ℕ) → Tells owned scope lent → (opened : Bool) (os : List ℕ)
    → opened ≡ some_lent owned os → (p : Pattern) → Tells owned (scope ++ all_hung (bound p) os) (lent_in_row lent opened p)
row_tells owned scope lent tells true os is p x =
    list_any-append (λ y. y == x) lent (bound p)
    ∙ (ap (λ b. b || is_among (bound p) x) (tells x)
    ∙ (ap (λ b. some_lent owned (origins_of scope x) || b) (sym
    (all_hung_lent owned (bound p) os x ∙ (ap (λ b. is_among (bound p) x && b) (sym is) ∙ and_true (is_among (bound p) x))))
    ∙ sym (lent-append owned scope (all_hung (bound p) os) x)))
  where
    and_true : (b : Bool) → (b && true) ≡ b
    and_true true = refl
    and_true false = refl
row_tells owned scope lent tells false os is p x =
    tells x
    ∙ sym (lent-append owned scope (all_hung (bound p) os) x
    ∙ (ap (λ b. some_lent owned (origins_of scope x) || b) (all_hung_lent owned (bound p) os x
    ∙ (ap (λ b. is_among (bound p) x && b) (sym is) ∙ and_false (is_among (bound p) x)))
    ∙ or_false (some_lent owned (origins_of scope x))))
  where
    and_false : (b : Bool) → (b && false) ≡ false
    and_false true = refl
    and_false false = refl

    or_false : (b : Bool) → (b || false) ≡ b
    or_false true = refl
    or_false false = refl

-- the scope of a body
pub parameters_tell : (owned : ℕ → Bool) (count : ℕ) → Tells owned (parameters count) (lent_below owned count)
parameters_tell owned zero x = refl
parameters_tell owned (suc count) x =
    list_any-append (λ y. y == x) (lent_below owned count) (cond (owned count) [] (count ∷ []))
    ∙ (ap (λ b. b || is_among (cond (owned count) [] (count ∷ [])) x) (parameters_tell owned count x)
    ∙ (ap (λ b. some_lent owned (origins_of (parameters count) x) || b)
    (last (owned count) refl (count == x) refl)
    ∙ sym (lent-append owned (parameters count) (record { variable = count; parameter = count } ∷ []) x)))
  where
    last : (o : Bool) → owned count ≡ o → (c : Bool) → (count == x) ≡ c
        → is_among (cond (owned count) [] (count ∷ [])) x ≡ some_lent owned
        (origins_of (record { variable = count; parameter = count } ∷ []) x)
    last true is true same = rw (is, same) (rw is refl)
    last true is false same = rw (is, same) refl
    last false is true same = rw (is, same) (rw is refl)
    last false is false same = rw (is, same) refl

-- an expression is a lent variable if one of the parameters on which it hangs is lent
is_lent_tells : (owned : ℕ → Bool) (scope : List Binding) (lent : List ℕ) → Tells owned scope lent → (t : Tree)
    → is_lent_variable lent t ≡ some_lent owned (origins_in scope t)
is_lent_tells owned scope lent tells (variable of) = tells of
is_lent_tells owned scope lent tells other = refl

-- a position that the program has is in a set
abbrev pub Asks : ProgramTree → PositionSet → Position → Type 0
Asks program set p = p.parameter < arity_of program p.function → IsTrue (set p.function p.parameter)

each_has : (set : PositionSet) (f : ℕ) (os : List ℕ) → (some_lent (set f) os ≡ false) ↔ All (Has set) (map (position f) os)
each_has set f [] = (λ is. All-nil (Has set), λ all. refl)
each_has set f (o ∷ os) = (
  λ is.
      let parts = or_parts (not (set f o)) (some_lent (set f) os) is in
      All-cons (Has set) (position f o) (map (position f) os) (not-false (set f o) parts.0) ((each_has set f os).0 parts.1),
  λ all.
      or_from (not (set f o)) (some_lent (set f) os)
      (not_from_true (set f o) (All-head (Has set) (position f o) (map (position f) os) all))
      ((each_has set f os).1 (All-tail (Has set) (position f o) (map (position f) os) all)),
)

one_same : (program : ProgramTree) (set : PositionSet) (f : ℕ) (os : List ℕ) (p : Position) (lent : Bool)
    → lent ≡ some_lent (set f) os
    → Keeps program set (record { premises = map (position f) os; conclusion = p }) ↔ All (Asks program set) (cond lent [] (p ∷ []))
one_same program set f os p true is = (
  λ keeps. All-nil (Asks program set),
  λ all has. absurd (both_ways (some_lent (set f) os) ((each_has set f os).1 has) (sym is)),
)
one_same program set f os p false is = (
  λ keeps. All-cons (Asks program set) p [] (keeps ((each_has set f os).0 (sym is))) (All-nil (Asks program set)),
  λ all has. All-head (Asks program set) p [] all,
)

join : {X Y : Type 0} (P : X → Type 0) (Q : Y → Type 0) (xs ys : List X) (zs ws : List Y) → (All P xs ↔ All Q zs)
    → (All P ys ↔ All Q ws) → All P (xs ++ ys) ↔ All Q (zs ++ ws)
join P Q xs ys zs ws a b = (
  λ all. All-append Q zs ws (a.0 (all_left P xs ys all)) (b.0 (all_right P xs ys all)),
  λ all. All-append P xs ys (a.1 (all_left Q zs ws all)) (b.1 (all_right Q zs ws all)),
)

none : {X Y : Type 0} (P : X → Type 0) (Q : Y → Type 0) → All P [] ↔ All Q []
none P Q = (λ all. All-nil Q, λ all. All-nil P)

one : {X : Type 0} (P : X → Type 0) (x : X) (B : Type 0) → (P x ↔ B) → All P (x ∷ []) ↔ B
one P x B same = (λ all. same.0 (All-head P x [] all), λ b. All-cons P x [] (same.1 b) (All-nil P))

passed_same : (program : ProgramTree) (set : PositionSet) (f : ℕ) (scope : List Binding) (lent : List ℕ) → Tells (set f) scope lent
    → (g index : ℕ) (ts : Trees)
    → All (Keeps program set) (passed f scope g index ts) ↔ All (Asks program set) (handed_to lent g index ts)
passed_same program set f scope lent tells g index no_tree = none (Keeps program set) (Asks program set)
passed_same program set f scope lent tells g index (tree first rest) =
    join (Keeps program set) (Asks program set) (record {
      premises = map (position f)
          (origins_in scope first);
      conclusion = position g index;
    } ∷ []) (passed f scope g (index + 1) rest)
    (cond (is_lent_variable lent first) [] (position g index ∷ [])) (handed_to lent g (index + 1) rest)
    (one (Keeps program set) (record { premises = map (position f) (origins_in scope first); conclusion = position g index })
    (All (Asks program set) (cond (is_lent_variable lent first) [] (position g index ∷ [])))
    (one_same program set f (origins_in scope first) (position g index) (is_lent_variable lent first)
    (is_lent_tells (set f) scope lent tells first)))
    (passed_same program set f scope lent tells g (index + 1) rest)

passed_by_same : (program : ProgramTree) (set : PositionSet) (f : ℕ) (scope : List Binding) (lent : List ℕ)
    → Tells (set f) scope lent → (form : Form) (ts : Trees)
    → All (Keeps program set) (passed_by f scope form ts) ↔ All (Asks program set) (handed_by lent (apply form ts))
passed_by_same program set f scope lent tells (Call function) ts = passed_same program set f scope lent tells function 0 ts
passed_by_same program set f scope lent tells form ts = none (Keeps program set) (Asks program set)

passed_at_same : (program : ProgramTree) (set : PositionSet) (f : ℕ) (scope : List Binding) (lent : List ℕ)
    → Tells (set f) scope lent → (t : Tree)
    → All (Keeps program set) (passed_at f scope t) ↔ All (Asks program set) (handed_by lent t)
passed_at_same program set f scope lent tells (apply form ts) = passed_by_same program set f scope lent tells form ts
passed_at_same program set f scope lent tells _ = none (Keeps program set) (Asks program set)

pub tail_same : (program : ProgramTree) (set : PositionSet) (f : ℕ) (scope : List Binding) (lent : List ℕ)
    → Tells (set f) scope lent → (t : Tree) → All (Keeps program set) (tail_rules f scope t) ↔ All (Asks program set)
    (handed_in lent t)
tail_same program set f scope lent tells t =
    tails_agree (to_tail_rules f) to_handed (λ (rules : List RuleTree) (ps : List Position). All (Keeps program set) rules ↔ All
    (Asks program set) ps)
    (none (Keeps program set) (Asks program set)) (join (Keeps program set) (Asks program set)) (Tells (set f))
    (passed_at_same program set f)
    (λ bindings ns tells binder. none (Keeps program set) (Asks program set))
    (λ bindings ns os opened. opened ≡ some_lent (set f) os) (is_lent_tells (set f))
    (λ bindings ns tells os opened is p. none (Keeps program set) (Asks program set))
    (λ bindings ns told os opened is p. row_tells (set f) bindings ns told opened os is p)
    scope lent tells t
