-- Which variables the code of an expression needs: the names of its free variables, and what is needed after it.
use Rattle.std.proofs.Common.{◌≡◌, ◌⊎◌, inl, inr, ℕ, ◌+◌, ◌<◌, ◌≤◌, ◌==◌, Bool, true, false, List, [], ◌∷◌, ◌++◌, Option, Some, None, refl, sym, ap, subst, ◌∙◌, arith}
use Rattle.kk_syntax.specs.declared.program.Binder.{Binder}
use Rattle.kk_syntax.specs.declared.program.Binder.TheVariants as OfBinder
use Rattle.kk_syntax.specs.declared.program.Form.{Form}
use Rattle.kk_syntax.specs.declared.program.Form.TheVariants.{Call}
use Rattle.kk_syntax.specs.Programs.{ConstructorTree}
use Rattle.kk_syntax.specs.Trees.{Tree, variable, apply, branch, match, sequence, Trees, no_tree, tree, Rows, no_row, row, row_parts}
use Rattle.kk_syntax.specs.Patterns.{Pattern}
use Rattle.kk_syntax.specs.Shapes.{free, free_all, free_rows, is_among, without, bound, bound_by, variable_of}
use Rattle.kk_source.specs.Live.{awaited}
use Rattle.kk_core.specs.Codes.{Code, case, compute, Arms}
use Rattle.kk_core.specs.Decisions.{NodeTree}
use Rattle.kk_core.specs.Needed.{needed, needed_by_arms}
use Rattle.kk_core.specs.Truths.{truth_case}
use Rattle.kk_norm.specs.Names.{Names, name_of, named}
use Rattle.kk_norm.specs.Normalized.{Then, final, next, size, size_all, size_rows, pattern_size, pattern_names, opened, atom, atoms, after, after_use, within, joined, finish, finish_call, IsCode, AreCodes, AreArms}
use Rattle.kk_norm.proofs.PatternNames.{unbound_name, bound_name, opened_needs, opened_keeps}
use Rattle.kk_norm.proofs.Variables.{or_else, among_left, among_right, among_split, among_head, among_without, without_among, left_over, alone_among, first_among, later_among, not_alone, another, other_number}

-- a core variable is the name of one of these variables
abbrev pub IsNameOf : Names → List ℕ → ℕ → Type 0
IsNameOf names xs y = (x : ℕ) × (is_among xs x ≡ true) × (name_of names x ≡ y)

-- What comes after an expression needs a variable, where what comes after its block needs some; where more comes in the
-- block, the variable a of the expression's own value aside.
abbrev pub NeededAfter : List ℕ → Then → ℕ → ℕ → Type 0
NeededAfter later (final tail) a y = is_among later y ≡ true
NeededAfter later (next rest) a y = (is_among (needed later rest) y ≡ true) × (y ≡ a → ⊥)

-- the same without that
abbrev pub NeededThen : List ℕ → Then → ℕ → Type 0
NeededThen later (final tail) y = is_among later y ≡ true
NeededThen later (next rest) y = is_among (needed later rest) y ≡ true

abbrev pub NamedOrAfter : List ℕ → Then → Names → List ℕ → ℕ → ℕ → Type 0
NamedOrAfter later k names xs a y = IsNameOf names xs y ⊎ NeededAfter later k a y

name_left : (names : Names) (xs ys : List ℕ) (y : ℕ) → IsNameOf names xs y → IsNameOf names (xs ++ ys) y
name_left names xs ys y is = (is.0, among_left xs ys is.0 is.1, is.2)

name_right : (names : Names) (xs ys : List ℕ) (y : ℕ) → IsNameOf names ys y → IsNameOf names (xs ++ ys) y
name_right names xs ys y is = (is.0, among_right xs ys is.0 is.1, is.2)

name_split : (names : Names) (xs ys : List ℕ) (y : ℕ) → IsNameOf names (xs ++ ys) y → IsNameOf names xs y ⊎ IsNameOf names ys y
name_split names xs ys y is =
    elim (among_split xs ys is.0 is.1) [ inl here ↦ inl (is.0, here, is.2) | inr there ↦ inr (is.0, there, is.2) ]

-- ---- after a form

pub after_form : (later : List ℕ) (k : Then) (m y : ℕ) → is_among (without (m ∷ []) (needed later (after k m))) y ≡ true
    → NeededAfter later k m y
after_form later (final tail) m y is =
    let over = left_over (m ∷ []) (m ∷ later) y is in
    elim (among_head m later y over.1) [ inl same ↦ absurd (another m y over.0 (sym same)) | inr there ↦ there.1 ]
after_form later (next rest) m y is =
    let over = left_over (m ∷ []) (needed later rest) y is in (over.1, another m y over.0)

pub form_after : (later : List ℕ) (k : Then) (m y : ℕ) → NeededThen later k y → (y ≡ m → ⊥)
    → is_among (without (m ∷ []) (needed later (after k m))) y ≡ true
form_after later (final tail) m y is other = among_without (m ∷ []) (m ∷ later) y (not_alone m y other) (later_among m later y is)
form_after later (next rest) m y is other = among_without (m ∷ []) (needed later rest) y (not_alone m y other) is

computed_needs : (later : List ℕ) (k : Then) (m : ℕ) (form : Form) (xs : List ℕ) (y : ℕ)
    → is_among (needed later (compute m form xs (after k m))) y ≡ true → (is_among xs y ≡ true) ⊎ NeededAfter later k m y
computed_needs later k m form xs y is =
    elim (among_split xs (without (m ∷ []) (needed later (after k m))) y is)
    [ inl here ↦ inl here | inr there ↦ inr (after_form later k m y there) ]

call_needs : (later : List ℕ) (k : Then) (m f : ℕ) (xs : List ℕ) (y : ℕ) → is_among (needed later (finish_call k m f xs)) y ≡ true
    → (is_among xs y ≡ true) ⊎ NeededAfter later k m y
call_needs later (final true) m f xs y is = among_split xs later y is
call_needs later k m f xs y is = computed_needs later k m (Call f) xs y is

-- a form needs its arguments, and what is needed after it
pub form_needs : (later : List ℕ) (k : Then) (m : ℕ) (form : Form) (xs : List ℕ) (y : ℕ)
    → is_among (needed later (finish k m form xs)) y ≡ true → (is_among xs y ≡ true) ⊎ NeededAfter later k m y
form_needs later k m (Call f) xs y is = call_needs later k m f xs y is
form_needs later k m form xs y is = computed_needs later k m form xs y is

call_needs_all : (later : List ℕ) (k : Then) (m f : ℕ) (xs : List ℕ) (y : ℕ)
    → (is_among xs y ≡ true) ⊎ (NeededThen later k y × (y ≡ m → ⊥)) → is_among (needed later (finish_call k m f xs)) y ≡ true
call_needs_all later (final true) m f xs y (inl here) = among_left xs later y here
call_needs_all later (final true) m f xs y (inr there) = among_right xs later y there.0
call_needs_all later k m f xs y (inl here) = among_left xs (without (m ∷ []) (needed later (after k m))) y here
call_needs_all later k m f xs y (inr there) =
    among_right xs (without (m ∷ []) (needed later (after k m))) y (form_after later k m y there.0 there.1)

pub form_needs_all : (later : List ℕ) (k : Then) (m : ℕ) (form : Form) (xs : List ℕ) (y : ℕ)
    → (is_among xs y ≡ true) ⊎ (NeededThen later k y × (y ≡ m → ⊥)) → is_among (needed later (finish k m form xs)) y ≡ true
form_needs_all later k m (Call f) xs y is = call_needs_all later k m f xs y is
form_needs_all later k m form xs y (inl here) = among_left xs (without (m ∷ []) (needed later (after k m))) y here
form_needs_all later k m form xs y (inr there) =
    among_right xs (without (m ∷ []) (needed later (after k m))) y (form_after later k m y there.0 there.1)

-- ---- after a branch

-- what is needed after the parts of a branch, whose value goes to variable m where more comes
abbrev pub needed_within : List ℕ → Then → ℕ → List ℕ
needed_within later (final tail) m = later
needed_within later (next rest) m = without (m ∷ []) (needed later rest)

pub joined_needs : (later : List ℕ) (k : Then) (m : ℕ) (own : Code) (y : ℕ) → is_among (needed later (joined k m own)) y ≡ true
    → is_among (needed (needed_within later k m) own) y ≡ true
joined_needs later (final tail) m own y is = is
joined_needs later (next rest) m own y is = is

pub joined_needs_all : (later : List ℕ) (k : Then) (m : ℕ) (own : Code) (y : ℕ)
    → is_among (needed (needed_within later k m) own) y ≡ true → is_among (needed later (joined k m own)) y ≡ true
joined_needs_all later (final tail) m own y is = is
joined_needs_all later (next rest) m own y is = is

pub out_of_branch : (later : List ℕ) (k : Then) (m a y : ℕ) → NeededAfter (needed_within later k m) (within k) a y
    → NeededAfter later k m y
out_of_branch later (final tail) m a y is = is
out_of_branch later (next rest) m a y is = let over = left_over (m ∷ []) (needed later rest) y is in (over.1, another m y over.0)

pub into_branch : (later : List ℕ) (k : Then) (m y : ℕ) → NeededThen later k y → (y ≡ m → ⊥)
    → NeededThen (needed_within later k m) (within k) y
into_branch later (final tail) m y is other = is
into_branch later (next rest) m y is other = among_without (m ∷ []) (needed later rest) y (not_alone m y other) is

-- ---- after a statement

-- a name behind a statement is one before it, or that of the statement's value
pub awaited_name : (w : Option ℕ) (names : Names) (a : ℕ) (xs : List ℕ) (y : ℕ) → (y ≡ a → ⊥) → IsNameOf (named w a names) xs y
    → IsNameOf names (without (awaited w) xs) y
awaited_name None names a xs y other is = (is.0, among_without [] xs is.0 refl is.1, is.2)
awaited_name (Some z) names a xs y other is = by_test (z == is.0) refl is.2
  where
    by_test : (same : Bool) → (z == is.0) ≡ same → name_of (named (Some z) a names) is.0 ≡ y
        → IsNameOf names (without (z ∷ []) xs) y
    by_test true same_is name = absurd (other (sym (rw same_is at name)))
    by_test false same_is name = (is.0, among_without (z ∷ []) xs is.0 (rw same_is refl) is.1, rw same_is at name)

pub name_awaited : (w : Option ℕ) (names : Names) (a : ℕ) (xs : List ℕ) (y : ℕ) → IsNameOf names (without (awaited w) xs) y
    → IsNameOf (named w a names) xs y
name_awaited None names a xs y is = (is.0, without_among [] xs is.0 is.1, is.2)
name_awaited (Some z) names a xs y is = by_test (z == is.0) refl (left_over (z ∷ []) xs is.0 is.1)
  where
    by_test : (same : Bool) → (z == is.0) ≡ same → (is_among (z ∷ []) is.0 ≡ false) × (is_among xs is.0 ≡ true)
        → IsNameOf (named (Some z) a names) xs y
    by_test true same_is over = absurd (let one = rw same_is at over.0 in cc)
    by_test false same_is over = (is.0, over.1, rw same_is is.2)

statement_name : (binder : Binder) (names : Names) (a : ℕ) (xs : List ℕ) (y : ℕ) → (y ≡ a → ⊥)
    → IsNameOf (named (variable_of binder) a names) xs y → IsNameOf names (without (bound_by binder) xs) y
statement_name OfBinder.Nothing names a xs y other is = awaited_name None names a xs y other is
statement_name OfBinder.Wildcard names a xs y other is = awaited_name None names a xs y other is
statement_name (OfBinder.Variable z) names a xs y other is = awaited_name (Some z) names a xs y other is

name_statement : (binder : Binder) (names : Names) (a : ℕ) (xs : List ℕ) (y : ℕ) → IsNameOf names (without (bound_by binder) xs) y
    → IsNameOf (named (variable_of binder) a names) xs y
name_statement OfBinder.Nothing names a xs y is = name_awaited None names a xs y is
name_statement OfBinder.Wildcard names a xs y is = name_awaited None names a xs y is
name_statement (OfBinder.Variable z) names a xs y is = name_awaited (Some z) names a xs y is

-- ---- what code needs

either : {A B C D : Type 0} → A ⊎ B → (A → C) → (B → D) → C ⊎ D
either (inl a) left right = inl (left a)
either (inr b) left right = inr (right b)

-- the first of two is ruled out
ruled_out : {A B : Type 0} → A ⊎ B → (A → ⊥) → B
ruled_out (inl a) out = absurd (out a)
ruled_out (inr b) out = b

-- the case of a truth needs what its parts need, what comes after it, and the variable that it looks at
pub choice_needs : (later : List ℕ) (a : ℕ) (first second : Code) (y : ℕ) → (y ≡ a → ⊥)
    → is_among (needed later (truth_case a first second)) y ≡ true
    → (is_among (needed later first) y ≡ true) ⊎ ((is_among (needed later second) y ≡ true) ⊎ (is_among later y ≡ true))
choice_needs later a first second y other is =
    or_else (among_head a (needed later first ++ (needed later second ++ later)) y is) (λ same. absurd (other (sym same)))
    (λ parts. or_else (among_split (needed later first) (needed later second ++ later) y parts.1) (λ here. inl here)
    (λ there. inr (among_split (needed later second) later y there)))

variable_needs : (later : List ℕ) (k : Then) (names : Names) (x y : ℕ)
    → is_among (needed later (after_use k (name_of names x))) y ≡ true → NamedOrAfter later k names (x ∷ []) (name_of names x) y
variable_needs later (final tail) names x y is =
    either (among_head (name_of names x) later y is) (λ same. (x, alone_among x, same)) (λ there. there.1)
variable_needs later (next rest) names x y is =
    either (among_head (name_of names x) (needed later rest) y is) (λ same. (x, alone_among x, same)) (λ there. (there.1, there.0))

neither : (a : ℕ) (xs : List ℕ) (y : ℕ) → (y ≡ a → ⊥) → is_among xs y ≡ false → is_among (a ∷ xs) y ≡ false
neither a xs y other out = rw (other_number a y (λ same. other (sym same))) out

-- a code needs a variable, where what comes after its block needs some
abbrev pub Needs : List ℕ → Code → ℕ → Type 0
Needs later code y = is_among (needed later code) y ≡ true

-- ---- rows

-- a name behind a pattern that is no variable of the arm's openings is one before it
pattern_name : (a n : ℕ) (p : Pattern) (names : Names) (xs : List ℕ) (y : ℕ) → (y ≡ a → ⊥)
    → ((n ≤ y) × (y < n + pattern_size p) → ⊥)
    → IsNameOf (pattern_names a n p names) xs y → IsNameOf names (without (bound p) xs) y
pattern_name a n p names xs y other apart is = by_test (is_among (bound p) is.0) refl
  where
    by_test : (b : Bool) → is_among (bound p) is.0 ≡ b → IsNameOf names (without (bound p) xs) y
    by_test true among =
        or_else (bound_name a n p names is.0 among) (λ same. absurd (other (sym is.2 ∙ same)))
        (λ between. absurd (apart (subst (λ (z : ℕ). (n ≤ z) × (z < n + pattern_size p)) is.2 between)))
    by_test false out = (is.0, among_without (bound p) xs is.0 out is.1, sym (unbound_name a n p names is.0 out) ∙ is.2)

name_pattern : (a n : ℕ) (p : Pattern) (names : Names) (xs : List ℕ) (y : ℕ) → IsNameOf names (without (bound p) xs) y
    → IsNameOf (pattern_names a n p names) xs y
name_pattern a n p names xs y is =
    let over = left_over (bound p) xs is.0 is.1 in (is.0, over.1, unbound_name a n p names is.0 over.0 ∙ is.2)

pub arms_keep : (constructors : List ConstructorTree) (later : List ℕ) (k : Then) (names : Names) (a n : ℕ) (of : Rows)
    (arms : Arms) (y : ℕ) → AreArms constructors k names a n of arms → is_among later y ≡ true
    → is_among (needed_by_arms later arms) y ≡ true
arms_keep constructors later k names a n no_row arms y are is =
    subst (λ (all : Arms). is_among (needed_by_arms later all) y ≡ true) (sym are) is
arms_keep constructors later k names a n (row (row_parts pattern body) rest) arms y are is =
    let c : Code = are.0 in
    let others : Arms = are.1 in
    subst (λ (all : Arms). is_among (needed_by_arms later all) y ≡ true) (sym are.2)
    (among_right (needed later (opened a n pattern c)) (needed_by_arms later others) y
    (arms_keep constructors later k names a (n + pattern_size pattern + size body) rest others y are.4 is))

-- the case of a match, where it is known what its arms need
pub case_needs : (later : List ℕ) (k : Then) (names : Names) (a m : ℕ) (of : Rows) (decisions : List NodeTree) (arms : Arms) (y : ℕ)
    → ((inner : List ℕ) → is_among (needed_by_arms inner arms) y ≡ true
    → IsNameOf names (free_rows of) y ⊎ NeededAfter inner (within k) a y)
    → (y ≡ a → ⊥) → Needs later (joined k m (case a decisions arms)) y → IsNameOf names (free_rows of) y ⊎ NeededAfter later k m y
case_needs later k names a m of decisions arms y by_arms other is =
    let inner : List ℕ = needed_within later k m in
    or_else (among_head a (needed_by_arms inner arms) y (joined_needs later k m (case a decisions arms) y is))
    (λ same. absurd (other (sym same)))
    (λ there. either (by_arms inner there.1) (λ here. here) (λ after_it. out_of_branch later k m a y after_it))

-- ---- what code needs

-- the end of a block needs what is needed after it, whatever its value's variable is
ends_anywhere : (later : List ℕ) (k : Then) (a b y : ℕ) → NeededAfter later (within k) a y → NeededAfter later (within k) b y
ends_anywhere later (final tail) a b y is = is
ends_anywhere later (next rest) a b y is = is

pub end_is : (later : List ℕ) (k : Then) (a y : ℕ) → is_among later y ≡ true → NeededAfter later (within k) a y
end_is later (final tail) a y is = is
end_is later (next rest) a y is = is

use_keeps : (later : List ℕ) (k : Then) (a y : ℕ) → NeededThen later k y → is_among (needed later (after_use k a)) y ≡ true
use_keeps later (final tail) a y is = later_among a later y is
use_keeps later (next rest) a y is = later_among a (needed later rest) y is

use_needs : (later : List ℕ) (k : Then) (a : ℕ) → is_among (needed later (after_use k a)) a ≡ true
use_needs later (final tail) a = first_among a later
use_needs later (next rest) a = first_among a (needed later rest)

pub after_end : (later : List ℕ) (k : Then) (y : ℕ) → NeededThen later (within k) y → is_among later y ≡ true
after_end later (final tail) y is = is
after_end later (next rest) y is = is

module _ (constructors : List ConstructorTree) where
  mutual
    -- only the names of free variables, and what is needed after
    pub only : (later : List ℕ) (k : Then) (names : Names) (n : ℕ) (e : Tree) (c : Code) (y : ℕ)
        → IsCode constructors k names n e c → Needs later c y → NamedOrAfter later k names (free e) (atom names n e) y
    only later k names n (variable x) c y coded is =
        variable_needs later k names x y (subst (λ (code : Code). Needs later code y) coded is)
    only later k names n (apply form es) c y coded is =
        let m : ℕ = n + size_all es in
        let xs : List ℕ = atoms names n es in
        or_else (only_all later names n es (finish k m form xs) c y coded is) (λ here. inl here)
        (λ there. inr (ruled_out (form_needs later k m form xs y there.0)
        (λ argument. let wrong : true ≡ false = sym argument ∙ there.1 in absurd (cc))))
    only later k names n (branch e positive negative) c y coded is =
        let a : ℕ = atom names n e in
        let second : ℕ = n + size e in
        let third : ℕ = n + size e + size positive in
        let m : ℕ = n + size e + size positive + size negative in
        let inner : List ℕ = needed_within later k m in
        let own : Code = truth_case a coded.0 coded.1 in
        let all : List ℕ = free positive ++ free negative in
        or_else (only later (next (joined k m own)) names n e c y coded.4 is)
        (λ here. inl (name_left names (free e) all y here))
        (λ there. or_else (choice_needs inner a coded.0 coded.1 y there.1 (joined_needs later k m own y there.0))
        (λ in_first. either (only inner (within k) names second positive coded.0 y coded.2 in_first)
        (λ here. name_right names (free e) all y (name_left names (free positive) (free negative) y here))
        (λ after_it. out_of_branch later k m (atom names second positive) y after_it))
        (λ others. or_else others
        (λ in_second. either (only inner (within k) names third negative coded.1 y coded.3 in_second)
        (λ here. name_right names (free e) all y (name_right names (free positive) (free negative) y here))
        (λ after_it. out_of_branch later k m (atom names third negative) y after_it))
        (λ ended. inr (out_of_branch later k m a y (end_is inner k a y ended)))))
    only later k names n (match e of) c y coded is =
        let a : ℕ = atom names n e in
        let m : ℕ = n + size e + size_rows of in
        let own : Code = case a coded.0 coded.1 in
        or_else (only later (next (joined k m own)) names n e c y coded.4 is)
        (λ here. inl (name_left names (free e) (free_rows of) y here))
        (λ there. either (case_needs later k names a m of coded.0 coded.1 y
        (λ inner need. only_rows inner k names a (n + size e) of coded.1 y coded.3 there.1 need) there.1 there.0)
        (λ here. name_right names (free e) (free_rows of) y here) (λ after_it. after_it))
    only later k names n (sequence binder first rest) c y coded is =
        let a : ℕ = atom names n first in
        let bound_names : Names = named (variable_of binder) a names in
        let left : List ℕ = without (bound_by binder) (free rest) in
        or_else (only later (next coded.0) names n first c y coded.2 is)
        (λ here. inl (name_left names (free first) left y here))
        (λ there. either (only later k bound_names (n + size first) rest coded.0 y coded.1 there.0)
        (λ here. name_right names (free first) left y (statement_name binder names a (free rest) y there.1 here))
        (λ after_it. after_it))

    pub only_all : (later : List ℕ) (names : Names) (n : ℕ) (es : Trees) (last c : Code) (y : ℕ)
        → AreCodes constructors names n es last c → Needs later c y
        → IsNameOf names (free_all es) y ⊎ ((is_among (needed later last) y ≡ true) × (is_among (atoms names n es) y ≡ false))
    only_all later names n no_tree last c y coded is = inr (subst (λ (code : Code). Needs later code y) coded is, refl)
    only_all later names n (tree first rest) last c y coded is =
        let a : ℕ = atom names n first in
        let from : ℕ = n + size first in
        or_else (only later (next coded.0) names n first c y coded.2 is)
        (λ here. inl (name_left names (free first) (free_all rest) y here))
        (λ there. either (only_all later names from rest last coded.0 y coded.1 there.0)
        (λ here. name_right names (free first) (free_all rest) y here)
        (λ after_it. (after_it.0, neither a (atoms names from rest) y there.1 after_it.1)))

    pub only_rows : (later : List ℕ) (k : Then) (names : Names) (a n : ℕ) (of : Rows) (arms : Arms) (y : ℕ)
        → AreArms constructors (within k) names a n of arms → (y ≡ a → ⊥) → is_among (needed_by_arms later arms) y ≡ true
        → IsNameOf names (free_rows of) y ⊎ NeededAfter later (within k) a y
    only_rows later k names a n no_row arms y are other is =
        inr (end_is later k a y (subst (λ (all : Arms). is_among (needed_by_arms later all) y ≡ true) are is))
    only_rows later k names a n (row (row_parts pattern body) rest) arms y are other is =
        let c : Code = are.0 in
        let from : ℕ = n + pattern_size pattern in
        let names_here : Names = pattern_names a n pattern names in
        let own : List ℕ = without (bound pattern) (free body) in
        let need = subst (λ (all : Arms). is_among (needed_by_arms later all) y ≡ true) are.2 is in
        or_else (among_split (needed later (opened a n pattern c)) (needed_by_arms later are.1) y need)
        (λ here. or_else (opened_needs later a n pattern c y here) (λ same. absurd (other same))
        (λ behind. either (only later (within k) names_here from body c y are.3 behind.0)
        (λ named_one. name_left names own (free_rows rest) y
        (pattern_name a n pattern names (free body) y other behind.1 named_one))
        (λ after_it. ends_anywhere later k (atom names_here from body) a y after_it)))
        (λ there. either (only_rows later k names a (from + size body) rest are.1 y are.4 other there)
        (λ here. name_right names own (free_rows rest) y here) (λ after_it. after_it))

  mutual
    -- what is needed after, below the numbers of the expression
    pub kept : (later : List ℕ) (k : Then) (names : Names) (n : ℕ) (e : Tree) (c : Code) (y : ℕ)
        → IsCode constructors k names n e c → NeededThen later k y → y < n → Needs later c y
    kept later k names n (variable x) c y coded is low =
        subst (λ (code : Code). Needs later code y) (sym coded) (use_keeps later k (name_of names x) y is)
    kept later k names n (apply form es) c y coded is low =
        let m : ℕ = n + size_all es in
        let xs : List ℕ = atoms names n es in
        kept_all later names n es (finish k m form xs) c y coded
        (form_needs_all later k m form xs y (inr (is, λ same. absurd (omega arith)))) low
    kept later k names n (branch e positive negative) c y coded is low =
        let a : ℕ = atom names n e in
        let m : ℕ = n + size e + size positive + size negative in
        let inner : List ℕ = needed_within later k m in
        let own : Code = truth_case a coded.0 coded.1 in
        kept later (next (joined k m own)) names n e c y coded.4
        (joined_needs_all later k m own y
        (later_among a (needed inner coded.0 ++ (needed inner coded.1 ++ inner)) y
        (among_left (needed inner coded.0) (needed inner coded.1 ++ inner) y
        (kept inner (within k) names (n + size e) positive coded.0 y coded.2
        (into_branch later k m y is (λ same. absurd (omega arith))) (omega arith)))))
        low
    kept later k names n (match e of) c y coded is low =
        let a : ℕ = atom names n e in
        let m : ℕ = n + size e + size_rows of in
        let inner : List ℕ = needed_within later k m in
        let own : Code = case a coded.0 coded.1 in
        kept later (next (joined k m own)) names n e c y coded.4
        (joined_needs_all later k m own y
        (later_among a (needed_by_arms inner coded.1) y
        (arms_keep constructors inner (within k) names a (n + size e) of coded.1 y coded.3
        (after_end inner k y (into_branch later k m y is (λ same. absurd (omega arith)))))))
        low
    kept later k names n (sequence binder first rest) c y coded is low =
        let bound_names : Names = named (variable_of binder) (atom names n first) names in
        kept later (next coded.0) names n first c y coded.2
        (kept later k bound_names (n + size first) rest coded.0 y coded.1 is (omega arith)) low

    pub kept_all : (later : List ℕ) (names : Names) (n : ℕ) (es : Trees) (last c : Code) (y : ℕ)
        → AreCodes constructors names n es last c → is_among (needed later last) y ≡ true → y < n → Needs later c y
    kept_all later names n no_tree last c y coded is low = subst (λ (code : Code). Needs later code y) (sym coded) is
    kept_all later names n (tree first rest) last c y coded is low =
        kept later (next coded.0) names n first c y coded.2
        (kept_all later names (n + size first) rest last coded.0 y coded.1 is (omega arith)) low

  mutual
    -- and the names of its free variables
    pub named_needed : (later : List ℕ) (k : Then) (names : Names) (n : ℕ) (e : Tree) (c : Code) (y : ℕ)
        → IsCode constructors k names n e c → IsNameOf names (free e) y → y < n → Needs later c y
    named_needed later k names n (variable x) c y coded is low =
        subst (λ (code : Code). Needs later code y) (sym coded)
        (or_else (among_head x [] is.0 is.1)
        (λ same. subst (λ (z : ℕ). Needs later (after_use k (name_of names x)) z) (ap (name_of names) same ∙ is.2)
        (use_needs later k (name_of names x)))
        (λ there. absurd (let wrong : false ≡ true = there.1 in cc)))
    named_needed later k names n (apply form es) c y coded is low =
        named_needed_all later names n es (finish k (n + size_all es) form (atoms names n es)) c y coded is low
    named_needed later k names n (branch e positive negative) c y coded is low =
        let a : ℕ = atom names n e in
        let m : ℕ = n + size e + size positive + size negative in
        let inner : List ℕ = needed_within later k m in
        let own : Code = truth_case a coded.0 coded.1 in
        or_else (name_split names (free e) (free positive ++ free negative) y is)
        (λ here. named_needed later (next (joined k m own)) names n e c y coded.4 here low)
        (λ there. kept later (next (joined k m own)) names n e c y coded.4
        (joined_needs_all later k m own y
        (later_among a (needed inner coded.0 ++ (needed inner coded.1 ++ inner)) y
        (or_else (name_split names (free positive) (free negative) y there)
        (λ here. among_left (needed inner coded.0) (needed inner coded.1 ++ inner) y
        (named_needed inner (within k) names (n + size e) positive coded.0 y coded.2 here (omega arith)))
        (λ here. among_right (needed inner coded.0) (needed inner coded.1 ++ inner) y
        (among_left (needed inner coded.1) inner y
        (named_needed inner (within k) names (n + size e + size positive) negative coded.1 y coded.3 here (omega arith)))))))
        low)
    named_needed later k names n (match e of) c y coded is low =
        let a : ℕ = atom names n e in
        let m : ℕ = n + size e + size_rows of in
        let inner : List ℕ = needed_within later k m in
        let own : Code = case a coded.0 coded.1 in
        or_else (name_split names (free e) (free_rows of) y is)
        (λ here. named_needed later (next (joined k m own)) names n e c y coded.4 here low)
        (λ there. kept later (next (joined k m own)) names n e c y coded.4
        (joined_needs_all later k m own y
        (later_among a (needed_by_arms inner coded.1) y
        (named_needed_rows inner k names a (n + size e) of coded.1 y coded.3 there (omega arith))))
        low)
    named_needed later k names n (sequence binder first rest) c y coded is low =
        let a : ℕ = atom names n first in
        let bound_names : Names = named (variable_of binder) a names in
        or_else (name_split names (free first) (without (bound_by binder) (free rest)) y is)
        (λ here. named_needed later (next coded.0) names n first c y coded.2 here low)
        (λ there. kept later (next coded.0) names n first c y coded.2
        (named_needed later k bound_names (n + size first) rest coded.0 y coded.1
        (name_statement binder names a (free rest) y there) (omega arith)) low)

    pub named_needed_all : (later : List ℕ) (names : Names) (n : ℕ) (es : Trees) (last c : Code) (y : ℕ)
        → AreCodes constructors names n es last c → IsNameOf names (free_all es) y → y < n → Needs later c y
    named_needed_all later names n no_tree last c y coded is low = absurd (let wrong : false ≡ true = is.1 in cc)
    named_needed_all later names n (tree first rest) last c y coded is low =
        or_else (name_split names (free first) (free_all rest) y is)
        (λ here. named_needed later (next coded.0) names n first c y coded.2 here low)
        (λ there. kept later (next coded.0) names n first c y coded.2
        (named_needed_all later names (n + size first) rest last coded.0 y coded.1 there (omega arith)) low)

    pub named_needed_rows : (later : List ℕ) (k : Then) (names : Names) (a n : ℕ) (of : Rows) (arms : Arms) (y : ℕ)
        → AreArms constructors (within k) names a n of arms → IsNameOf names (free_rows of) y → y < n
        → is_among (needed_by_arms later arms) y ≡ true
    named_needed_rows later k names a n no_row arms y are is low = absurd (let wrong : false ≡ true = is.1 in cc)
    named_needed_rows later k names a n (row (row_parts pattern body) rest) arms y are is low =
        let c : Code = are.0 in
        let from : ℕ = n + pattern_size pattern in
        let own : List ℕ = needed later (opened a n pattern c) in
        subst (λ (all : Arms). is_among (needed_by_arms later all) y ≡ true) (sym are.2)
        (or_else (name_split names (without (bound pattern) (free body)) (free_rows rest) y is)
        (λ here. among_left own (needed_by_arms later are.1) y
        (opened_keeps later a n pattern c y (named_needed later (within k) (pattern_names a n pattern names) from body c y are.3
        (name_pattern a n pattern names (free body) y here) (omega arith)) low))
        (λ there. among_right own (needed_by_arms later are.1) y
        (named_needed_rows later k names a (from + size body) rest are.1 y are.4 there (omega arith))))
