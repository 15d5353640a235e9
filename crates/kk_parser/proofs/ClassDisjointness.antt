-- Classes are apart: each token is of one. So a token is of a kind where its class is one of the kind's.
use Rattle.std.proofs.Common.{◌≡◌, ℕ, Bool, true, false, cond, ◌||◌, List, [], ◌∷◌, map, Option, Some, None, is_some, refl, ap, sym, ◌∙◌, subst, inl, inr, rules}
use Rattle.std.proofs.lemmas.Bool.{or_cases}
use Rattle.kk_syntax.specs.declared.token.LocatedToken.{LocatedToken}
use Rattle.kk_syntax.specs.declared.token.Token.{Token}
use Rattle.kk_syntax.specs.declared.token.Token.TheVariants as OfToken
use Rattle.kk_syntax.specs.contracts.token.Keyword.{the_type as the_keywords}
use Rattle.kk_syntax.specs.contracts.token.Symbol.{the_type as the_symbols}
use denote.Enum.Bare.{same_true, true_same}
use Rattle.kk_parser.specs.Classes.{Word, print, println, main, total, div, exn, console, NameClass, word, type_variable, other, Class, keyword as keyword_class, symbol as symbol_class, name, constructor as constructor_class, wildcard as wildcard_class, number as number_class, string as string_class, class_of, name_class, same_word, same_name_class, same_class, is_one_of, is_at}
use Rattle.kk_parser.specs.Kinds.{Kind, keyword, symbol, name_in, constructor, wildcard, number, string, Said, said_at, says, next_says, is_name_in, classes_of}

-- words, classes of names and classes are one where the test says so
pub same_word-one : (a b : Word) → same_word a b ≡ true → a ≡ b
same_word-one print print h = refl
same_word-one println println h = refl
same_word-one main main h = refl
same_word-one total total h = refl
same_word-one div div h = refl
same_word-one exn exn h = refl
same_word-one console console h = refl
same_word-one _ _ h = absurd (cc h)

pub same_name_class-one : (a b : NameClass) → same_name_class a b ≡ true → a ≡ b
same_name_class-one (word a) (word b) h = ap word (same_word-one a b h)
same_name_class-one type_variable type_variable h = refl
same_name_class-one other other h = refl
same_name_class-one _ _ h = absurd (cc h)

pub same_class-one : (a b : Class) → same_class a b ≡ true → a ≡ b
same_class-one (keyword_class a) (keyword_class b) h = ap keyword_class (same_true the_keywords (search rules) a b h)
same_class-one (symbol_class a) (symbol_class b) h = ap symbol_class (same_true the_symbols (search rules) a b h)
same_class-one (name a) (name b) h = ap name (same_name_class-one a b h)
same_class-one constructor_class constructor_class h = refl
same_class-one wildcard_class wildcard_class h = refl
same_class-one number_class number_class h = refl
same_class-one string_class string_class h = refl
same_class-one _ _ h = absurd (cc h)

-- and each is one with itself
pub same_word-self : (a : Word) → same_word a a ≡ true
same_word-self print = refl
same_word-self println = refl
same_word-self main = refl
same_word-self total = refl
same_word-self div = refl
same_word-self exn = refl
same_word-self console = refl

pub same_name_class-self : (a : NameClass) → same_name_class a a ≡ true
same_name_class-self (word a) = same_word-self a
same_name_class-self type_variable = refl
same_name_class-self other = refl

pub same_class-self : (a : Class) → same_class a a ≡ true
same_class-self (keyword_class a) = true_same the_keywords a a refl
same_class-self (symbol_class a) = true_same the_symbols a a refl
same_class-self (name a) = same_name_class-self a
same_class-self constructor_class = refl
same_class-self wildcard_class = refl
same_class-self number_class = refl
same_class-self string_class = refl

-- a token says something of a kind where its class is one of the kind's
given : {A : Type 0} (b : Bool) (v : A) → is_some (cond b (Some v) None) ≡ (b || false)
given true v = refl
given false v = refl

given_name : {A : Type 0} (b c : Bool) (v : A) → b ≡ c → is_some (cond b (Some v) None) ≡ c
given_name true c v e = e
given_name false c v e = e

name_in_class : (cs : List NameClass) (c : NameClass) → is_name_in cs c ≡ is_one_of (map name cs) (name c)
name_in_class [] c = refl
name_in_class (d ∷ ds) c = ap (λ b. same_name_class c d || b) (name_in_class ds c)

no_name : (cs : List NameClass) (c : Class) → ((d : NameClass) → same_class c (name d) ≡ false) → false ≡ is_one_of (map name cs) c
no_name [] c h = refl
no_name (d ∷ ds) c h = no_name ds c h ∙ ap (λ b. b || is_one_of (map name ds) c) (sym (h d))

said_class : (k : Kind) (t : Token) (at : ℕ) → is_some (said_at k t at) ≡ is_one_of (classes_of k) (class_of t)
said_class (keyword k) (OfToken.Keyword found) at = given _ tt
said_class (symbol s) (OfToken.Symbol found) at = given _ tt
said_class (name_in cs) (OfToken.Name spelling) at = given_name _ _ _ (name_in_class cs (name_class spelling))
said_class constructor (OfToken.Constructor spelling) at = refl
said_class wildcard OfToken.Wildcard at = refl
said_class number (OfToken.Number value) at = refl
said_class string (OfToken.String text) at = refl
said_class (name_in cs) (OfToken.Constructor spelling) at = no_name cs _ (λ d. refl)
said_class (name_in cs) OfToken.Wildcard at = no_name cs _ (λ d. refl)
said_class (name_in cs) (OfToken.Number value) at = no_name cs _ (λ d. refl)
said_class (name_in cs) (OfToken.String text) at = no_name cs _ (λ d. refl)
said_class (name_in cs) (OfToken.Keyword k) at = no_name cs _ (λ d. refl)
said_class (name_in cs) (OfToken.Symbol s) at = no_name cs _ (λ d. refl)
said_class _ _ at = refl

pub says_class : (k : Kind) (t : LocatedToken) → is_some (says k t) ≡ is_one_of (classes_of k) (class_of t.token)
says_class k t = said_class k t.token t.span.at

pub next_says_class : (k : Kind) (ts : List LocatedToken) → is_some (next_says k ts) ≡ is_at (classes_of k) ts
next_says_class k [] = refl
next_says_class k (t ∷ ts) = says_class k t

pub is_at-one : (k : Kind) (t : LocatedToken) (ts : List LocatedToken) (v : Said k) → says k t ≡ Some v → is_at (classes_of k) (t ∷ ts) ≡ true
is_at-one k t ts v e = sym (says_class k t) ∙ ap is_some e

some_of : {A : Type 0} (o : Option A) → is_some o ≡ true → (v : A) × (o ≡ Some v)
some_of (Some v) h = (v, refl)
some_of None h = absurd (cc h)

-- what the first token says where it is of a kind
pub next_of : (k : Kind) (ts : List LocatedToken) → is_at (classes_of k) ts ≡ true → (t : LocatedToken) × (us : List LocatedToken) × (v : Said k) × (ts ≡ t ∷ us) × (says k t ≡ Some v)
next_of k [] h = absurd (cc h)
next_of k (t ∷ us) h = let w = some_of (says k t) (says_class k t ∙ h) in (t, us, w.0, refl, w.1)

-- where no token of a kind is next, the next one says nothing of it
pub says_nothing : (k : Kind) (ts : List LocatedToken) → is_at (classes_of k) ts ≡ false → next_says k ts ≡ None
says_nothing k ts h = none_of (next_says k ts) (next_says_class k ts ∙ h)
  where
    none_of : {A : Type 0} (o : Option A) → is_some o ≡ false → o ≡ None
    none_of (Some v) e = absurd (cc e)
    none_of None e = refl

pub cond_parts : (x y : Bool) → cond x y false ≡ true → (x ≡ true) × (y ≡ true)
cond_parts true y h = (refl, h)
cond_parts false y h = absurd (cc h)

cond_not : (x y : Bool) → cond x false y ≡ true → (x ≡ false) × (y ≡ true)
cond_not true y h = absurd (cc h)
cond_not false y h = (refl, h)

pub not_at : (b : Bool) → (b ≡ true → ⊥) → b ≡ false
not_at true h = absurd (h refl)
not_at false h = refl

-- whether no class is of both lists
abbrev pub apart : List Class → List Class → Bool
apart [] ds = true
apart (c ∷ cs) ds = cond (is_one_of ds c) false (apart cs ds)

apart_classes : (cs ds : List Class) (c : Class) → apart cs ds ≡ true → is_one_of cs c ≡ true → is_one_of ds c ≡ false
apart_classes [] ds c h e = absurd (cc e)
apart_classes (d ∷ cs) ds c h e =
    let p = cond_not (is_one_of ds d) (apart cs ds) h in
    elim (or_cases (same_class c d) (is_one_of cs c) e) [ inl a ↦ subst (λ x. is_one_of ds x ≡ false) (sym (same_class-one c d a)) p.0 | inr b ↦ apart_classes cs ds c p.1 b ]

-- where a token of one list is next, none of the other is
pub apart-is_at : (cs ds : List Class) (ts : List LocatedToken) → apart cs ds ≡ true → is_at cs ts ≡ true → is_at ds ts ≡ false
apart-is_at cs ds [] h e = refl
apart-is_at cs ds (t ∷ ts) h e = apart_classes cs ds (class_of t.token) h e

-- whether each class of one list is among the others
abbrev pub within : List Class → List Class → Bool
within [] ds = true
within (c ∷ cs) ds = cond (is_one_of ds c) (within cs ds) false

within_classes : (cs ds : List Class) (c : Class) → within cs ds ≡ true → is_one_of cs c ≡ true → is_one_of ds c ≡ true
within_classes [] ds c h e = absurd (cc e)
within_classes (d ∷ cs) ds c h e =
    let p = cond_parts (is_one_of ds d) (within cs ds) h in
    elim (or_cases (same_class c d) (is_one_of cs c) e) [ inl a ↦ subst (λ x. is_one_of ds x ≡ true) (sym (same_class-one c d a)) p.0 | inr b ↦ within_classes cs ds c p.1 b ]

-- where a token of one list is next that lies within the other, one of the other is
pub within-is_at : (cs ds : List Class) (ts : List LocatedToken) → within cs ds ≡ true → is_at cs ts ≡ true → is_at ds ts ≡ true
within-is_at cs ds [] h e = e
within-is_at cs ds (t ∷ ts) h e = within_classes cs ds (class_of t.token) h e

-- at the end there is no token
pub is_at-end : (cs : List Class) → is_at cs [] ≡ false
is_at-end cs = refl
