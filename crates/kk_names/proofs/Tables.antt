-- Tables of names, and lists of names.
use Rattle.std.proofs.Common.{◌≡◌, ℕ, ◌+◌, ◌<◌, List, [], ◌∷◌, ◌++◌, length, get_or, map, drop, Bool, true, false, bytes_eq, Option, Some, refl, sym, ap, ◌∙◌}
use Rattle.std.specs.Prelude.{if◌then◌else◌, is_some, ◌||◌}
use Rattle.kk_base.proofs.Lists.{rest_at}
use Rattle.kk_names.specs.declared.scope.Bound.{Bound}
use Rattle.kk_names.specs.declared.table.Declared.{Declared}
use Rattle.kk_names.specs.declared.table.DeclaredType.{DeclaredType}
use Rattle.kk_names.specs.Methods.{newest_before, newest_first}
use Rattle.kk_names.specs.Scopes.{Scope, number_in, names_in, is_among}
use Rattle.kk_names.specs.Tables.{meaning_in, type_in}

-- one variable more is the newest
pub newest_more : (older : Scope) (scope : List Bound) (one : Bound) → newest_before older (scope ++ one ∷ []) ≡ one ∷ newest_before older scope
newest_more older [] one = refl
newest_more older (first ∷ scope) one = newest_more (first ∷ older) scope one

pub number_here : (scope : List Bound) (one : Bound) (name : List ℕ) → bytes_eq one.name name ≡ true → Some one.number ≡ number_in (newest_first (scope ++ one ∷ [])) name
number_here scope one name is =
    sym (ap (λ all. number_in all name) (newest_more [] scope one) ∙ ap (λ b. if b then Some one.number else number_in (newest_first scope) name) is)

pub number_elsewhere : (scope : List Bound) (one : Bound) (name : List ℕ) → bytes_eq one.name name ≡ false → number_in (newest_first scope) name ≡ number_in (newest_first (scope ++ one ∷ [])) name
number_elsewhere scope one name other =
    sym (ap (λ all. number_in all name) (newest_more [] scope one) ∙ ap (λ b. if b then Some one.number else number_in (newest_first scope) name) other)

-- what a name means among the items of a table from one on, as that one has the name or not
pub meaning_here : (table : List Declared) (i : ℕ) (d : Declared) (name : List ℕ) → d ≡ get_or table i d → i < length table → bytes_eq d.name name ≡ true → meaning_in (drop i table) name ≡ Some d.callee
meaning_here table i d name is less same =
    ap (λ all. meaning_in all name) (rest_at table i d less is) ∙ ap (λ b. if b then Some d.callee else meaning_in (drop (i + 1) table) name) same

pub meaning_further : (table : List Declared) (i : ℕ) (d : Declared) (name : List ℕ) → d ≡ get_or table i d → i < length table → bytes_eq d.name name ≡ false → meaning_in (drop i table) name ≡ meaning_in (drop (i + 1) table) name
meaning_further table i d name is less other =
    ap (λ all. meaning_in all name) (rest_at table i d less is) ∙ ap (λ b. if b then Some d.callee else meaning_in (drop (i + 1) table) name) other

pub type_here : (table : List DeclaredType) (i : ℕ) (d : DeclaredType) (name : List ℕ) → d ≡ get_or table i d → i < length table → bytes_eq d.name name ≡ true → type_in (drop i table) name ≡ Some d.meaning
type_here table i d name is less same =
    ap (λ all. type_in all name) (rest_at table i d less is) ∙ ap (λ b. if b then Some d.meaning else type_in (drop (i + 1) table) name) same

pub type_further : (table : List DeclaredType) (i : ℕ) (d : DeclaredType) (name : List ℕ) → d ≡ get_or table i d → i < length table → bytes_eq d.name name ≡ false → type_in (drop i table) name ≡ type_in (drop (i + 1) table) name
type_further table i d name is less other =
    ap (λ all. type_in all name) (rest_at table i d less is) ∙ ap (λ b. if b then Some d.meaning else type_in (drop (i + 1) table) name) other

either_way : {A : Type 0} (b : Bool) (found : A) (rest : Option A) (among : Bool) → is_some rest ≡ among → is_some (if b then Some found else rest) ≡ (b || among)
either_way true found rest among h = refl
either_way false found rest among h = h

-- a name has a meaning where it is among the names
pub is_meant : (table : List Declared) (name : List ℕ) → is_some (meaning_in table name) ≡ is_among (map (λ d. d.name) table) name
is_meant [] name = refl
is_meant (d ∷ more) name = either_way (bytes_eq d.name name) d.callee (meaning_in more name) (is_among (map (λ d. d.name) more) name) (is_meant more name)

pub type_is_meant : (table : List DeclaredType) (name : List ℕ) → is_some (type_in table name) ≡ is_among (map (λ d. d.name) table) name
type_is_meant [] name = refl
type_is_meant (d ∷ more) name = either_way (bytes_eq d.name name) d.meaning (type_in more name) (is_among (map (λ d. d.name) more) name) (type_is_meant more name)

pub is_seen : (scope : Scope) (name : List ℕ) → is_some (number_in scope name) ≡ is_among (names_in scope) name
is_seen [] name = refl
is_seen (bound ∷ older) name = either_way (bytes_eq bound.name name) bound.number (number_in older name) (is_among (names_in older) name) (is_seen older name)
