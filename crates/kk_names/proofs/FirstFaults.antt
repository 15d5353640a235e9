-- The first fault of a list is the one that is kept when all are noted one after the other.
use Rattle.std.proofs.Common.{◌≡◌, ℕ, ◌+◌, ◌*◌, ◌<◌, ◌≤◌, ◌==◌, ◌⊎◌, inl, inr, List, [], ◌∷◌, Bool, true, false, nat_lt, ◌||◌, ◌&&◌, Option, Some, None, refl, sym, ap, ◌∙◌, subst, arith}
use Rattle.std.specs.Prelude.{All, if◌then◌else◌}
use Rattle.std.proofs.lemmas.Bool.{cases_lt, lt-ltb}
use Rattle.std.proofs.lemmas.Bool.Decides.{nat_tests}
use Rattle.std.proofs.lemmas.List.Elements.{All-nil, All-cons, All-head, All-tail, All-append}
use Rattle.kk_names.specs.declared.fault.Fault.{Fault}
use Rattle.kk_names.specs.declared.fault.FaultKind.{FaultKind}
use Rattle.kk_names.specs.declared.fault.FaultKind.TheVariants.{Twice, Unknown, Arity}
use Rattle.kk_names.specs.Faults.{rank, IsBefore, IsFirstFault}
use Rattle.kk_names.specs.Methods.{is_before, earlier_of, first_with}
use Rattle.kk_names.proofs.ResolverStates.{first_more}

-- faults in their order: by the byte, and then by the kind
place : Fault → ℕ
place fault = 3 * fault.at + rank fault.kind

rank_small : (kind : FaultKind) → rank kind ≤ 2
rank_small Twice = omega arith
rank_small Unknown = omega arith
rank_small Arity = omega arith

place_of_before : (f g : Fault) → IsBefore f g → place f < place g
unfolding place
place_of_before f g (inl less) = omega (arith, less, rank_small f.kind)
place_of_before f g (inr both) = omega (arith, both.0, both.1)

before_of_place : (f g : Fault) → place f < place g → IsBefore f g
unfolding place
before_of_place f g less = by (cases_lt f.at g.at)
  where
    by : (f.at < g.at) ⊎ (g.at ≤ f.at) → IsBefore f g
    by (inl h) = inl h
    by (inr h) = inr (omega (arith, less, h, rank_small g.kind), omega (arith, less, h, rank_small g.kind))

tested : (a b r s : ℕ) → r ≤ 2 → s ≤ 2 → (nat_lt a b || ((a == b) && nat_lt r s)) ≡ nat_lt (3 * a + r) (3 * b + s)
tested a b r s h k = grind (arith, nat_tests)

-- what is kept of two
new_kept : (f g : Fault) → place f < place g → earlier_of (Some g) f ≡ Some f
unfolding place
new_kept f g less =
    ap (λ b. if b then Some f else Some g) (tested f.at g.at (rank f.kind) (rank g.kind) (rank_small f.kind) (rank_small g.kind) ∙ lt-ltb (3 * f.at + rank f.kind) (3 * g.at + rank g.kind) less)

old_kept : (f g : Fault) → place g ≤ place f → earlier_of (Some g) f ≡ Some g
unfolding place
old_kept f g least =
    let test : nat_lt (3 * f.at + rank f.kind) (3 * g.at + rank g.kind) ≡ false = grind (arith, nat_tests) in
    ap (λ b. if b then Some f else Some g) (tested f.at g.at (rank f.kind) (rank g.kind) (rank_small f.kind) (rank_small g.kind) ∙ test)

stays : (f : Fault) (xs : List Fault) → All (λ x. IsBefore x f → ⊥) xs → first_with (Some f) xs ≡ Some f
stays f [] all = refl
stays f (x ∷ xs) all =
    ap (λ o. first_with o xs) (old_kept x f (by (cases_lt (place x) (place f))))
    ∙ stays f xs (All-tail (λ x. IsBefore x f → ⊥) x xs all)
  where
    by : (place x < place f) ⊎ (place f ≤ place x) → place f ≤ place x
    by (inl less) = absurd (All-head (λ x. IsBefore x f → ⊥) x xs all (before_of_place x f less))
    by (inr h) = h

-- there is no fault so far, or one behind f
abbrev Behind : Fault → Option Fault → Type 0
Behind f None = Unit {0}
Behind f (Some g) = place f < place g

behind_more : (f x : Fault) (o : Option Fault) → place f < place x → Behind f o → Behind f (earlier_of o x)
behind_more f x None less h = less
behind_more f x (Some g) less h = by (is_before x.kind x.at g)
  where
    by : (b : Bool) → Behind f (if b then Some x else Some g)
    by true = less
    by false = h

behind_all : (f : Fault) (o : Option Fault) (xs : List Fault) → All (λ x. IsBefore f x) xs → Behind f o → Behind f (first_with o xs)
behind_all f o [] all h = h
behind_all f o (x ∷ xs) all h =
    behind_all f (earlier_of o x) xs (All-tail (λ x. IsBefore f x) x xs all) (behind_more f x o (place_of_before f x (All-head (λ x. IsBefore f x) x xs all)) h)

comes_first : (f : Fault) (o : Option Fault) → Behind f o → earlier_of o f ≡ Some f
comes_first f None h = refl
comes_first f (Some g) h = new_kept f g h

-- the first fault is the one that is kept
pub kept_is_first : (faults : List Fault) (f : Fault) → IsFirstFault faults f → first_with None faults ≡ Some f
kept_is_first faults f h =
    ap (first_with None) h.among
    ∙ (first_more None h.earlier (f ∷ h.later)
    ∙ (ap (λ o. first_with o h.later) (comes_first f (first_with None h.earlier) (behind_all f None h.earlier h.before tt))
    ∙ stays f h.later h.not_behind))

mapped : (P Q : Fault → Type 0) (xs : List Fault) → ((x : Fault) → P x → Q x) → All P xs → All Q xs
mapped P Q [] to all = All-nil Q
mapped P Q (x ∷ xs) to all = All-cons Q x xs (to x (All-head P x xs all)) (mapped P Q xs to (All-tail P x xs all))

-- a list with a fault has a first one
first_among : (x : Fault) (xs : List Fault) → (f : Fault) × IsFirstFault (x ∷ xs) f
first_among x [] =
    (x, record { earlier = []; later = []; among = refl; before = All-nil (λ other. IsBefore x other); not_behind = All-nil (λ other. IsBefore other x → ⊥) })
first_among x (y ∷ ys) = by (first_among y ys)
  where
    no_earlier : (f other : Fault) → place x ≤ place f → place f ≤ place other → IsBefore other x → ⊥
    no_earlier f other h k before = let less = place_of_before other x before in omega (arith, less, h, k)

    not_after : (f other : Fault) → (IsBefore other f → ⊥) → place f ≤ place other
    not_after f other never = at (cases_lt (place other) (place f))
      where
        at : (place other < place f) ⊎ (place f ≤ place other) → place f ≤ place other
        at (inl less) = absurd (never (before_of_place other f less))
        at (inr h) = h

    none_before : (f : Fault) (h : IsFirstFault (y ∷ ys) f) → place x ≤ place f → All (λ other. IsBefore other x → ⊥) (y ∷ ys)
    none_before f h le =
        let Q : Fault → Type 0 = λ other. IsBefore other x → ⊥ in
        subst (λ (zs : List Fault). All Q zs) (sym h.among)
        (All-append Q h.earlier (f ∷ h.later)
        (mapped (λ other. IsBefore f other) Q h.earlier (λ other before. let less = place_of_before f other before in no_earlier f other le (omega (arith, less))) h.before)
        (All-cons Q f h.later (no_earlier f f le (omega arith))
        (mapped (λ other. IsBefore other f → ⊥) Q h.later (λ other never. no_earlier f other le (not_after f other never)) h.not_behind)))

    at_last : (f : Fault) → IsFirstFault (y ∷ ys) f → (place f < place x) ⊎ (place x ≤ place f) → (f : Fault) × IsFirstFault (x ∷ y ∷ ys) f
    at_last f h (inl less) =
        (f, record { earlier = x ∷ h.earlier; later = h.later; among = ap (λ zs. x ∷ zs) h.among; before = All-cons (λ other. IsBefore f other) x h.earlier (before_of_place f x less) h.before; not_behind = h.not_behind })
    at_last f h (inr le) =
        (x, record { earlier = []; later = y ∷ ys; among = refl; before = All-nil (λ other. IsBefore x other); not_behind = none_before f h le })

    by : (f : Fault) × IsFirstFault (y ∷ ys) f → (f : Fault) × IsFirstFault (x ∷ y ∷ ys) f
    by rest = at_last rest.0 rest.1 (cases_lt (place rest.0) (place x))

pub first_is_kept : (faults : List Fault) (f : Fault) → first_with None faults ≡ Some f → IsFirstFault faults f
first_is_kept [] f e = let none : None ≡ Some f = e in absurd (cc none)
first_is_kept (x ∷ xs) f e =
    let found = first_among x xs in
    let kept = kept_is_first (x ∷ xs) found.0 found.1 in
    let same : found.0 ≡ f = cc in
    subst (IsFirstFault (x ∷ xs)) same found.1

pub none_is_kept : (faults : List Fault) → first_with None faults ≡ None → faults ≡ []
none_is_kept [] e = refl
none_is_kept (x ∷ xs) e =
    let found = first_among x xs in
    let kept = kept_is_first (x ∷ xs) found.0 found.1 in
    cc
