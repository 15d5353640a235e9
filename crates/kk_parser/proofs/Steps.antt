-- The steps of the parser's methods: what a reading of a phrase comes to, from what its parts come to.
use Rattle.std.proofs.Common.{◌≡◌, ℕ, ◌+◌, ◌<◌, ◌≤◌, Bool, true, false, List, [], ◌∷◌, length, Option, Some, None, option_copied, slice_get, Result, Ok, Err, IfOk, OnOk, IfErr, IsErrAnd, is_some, refl, sym, ap, ◌∙◌, subst, inl, inr, arith}
use Rattle.std.specs.Borrow.{Bor}
use Rattle.std.specs.Global.{Box}
use Rattle.kk_syntax.specs.declared.token.LocatedToken.{LocatedToken}
use Rattle.kk_syntax.specs.declared.token.Keyword.{Keyword}
use Rattle.kk_syntax.specs.declared.token.Symbol.{Symbol}
use Rattle.kk_syntax.specs.declared.token.Token.{Token}
use Rattle.kk_syntax.specs.declared.token.Token.TheVariants as OfToken
use Rattle.kk_syntax.specs.declared.tree.Identifier.{Identifier}
use Rattle.kk_syntax.specs.declared.tree.SurfaceExpr.{SurfaceExpr}
use Rattle.kk_syntax.specs.Surface.{Written, WrittenStatement}
use Rattle.kk_parser.specs.declared.fault.Fault.{Fault}
use Rattle.kk_parser.specs.declared.fault.Fault.TheVariants.{Unexpected, TooDeep, NoMemory}
use Rattle.kk_parser.specs.declared.parser.Parser.{Parser}
use Rattle.kk_parser.specs.Classes.{NameClass, name_class, Class, class_of, is_one_of, is_at}
use Rattle.kk_parser.specs.Kinds.{Kind, keyword, symbol, name_in, constructor, wildcard, string, is_name_in, Said, said_at, says, next_says, classes_of}
use Rattle.kk_parser.specs.Phrases.{Nonterminal, Phrase, token, opener, ◌▸◌, either, many, rule, PhraseValue}
use Rattle.kk_parser.specs.Forms.{form, form_meaning, items}
use Rattle.kk_parser.specs.Reading.{first, Finds, finds_token, finds_opener, Failure, unexpected, too_deep, ReadingFails, fails_deep, finds_first, finds_second, finds_none, finds_more, finds_both, finds_rule, fails_rule, fails_front, fails_behind, fails_first, fails_second, fails_more}
use Rattle.kk_parser.proofs.ClassDisjointness.{next_says_class}
use Rattle.kk_parser.specs.Methods.{behind, Read, FailedBy, ReadsPhrase, ReadsFor, ReadsAs, ReadsItems, ReadsIfNext, Deepens, Makes}
use Rattle.kk_parser.specs.Depths.{most_levels}

finds_next : (k : Kind) (n : ℕ) (ts : List LocatedToken) (v : Said k) → next_says k ts ≡ Some v → Finds most_levels (token k) n ts v n (behind ts)
finds_next k n [] v e = absurd (cc e)
finds_next k n (t ∷ ts) v e = finds_token e

opens_next : (k : Kind) (n : ℕ) (ts : List LocatedToken) (v : Said k) → next_says k ts ≡ Some v → n < most_levels → Finds most_levels (opener k) n ts v (n + 1) (behind ts)
opens_next k n [] v e h = absurd (cc e)
opens_next k n (t ∷ ts) v e h = finds_opener e h

pub said_next : (k : Kind) (ts : List LocatedToken) → is_at (classes_of k) ts ≡ true → (v : Said k) × (next_says k ts ≡ Some v)
said_next k ts h = of (next_says k ts) (next_says_class k ts ∙ h)
  where
    of : (o : Option (Said k)) → is_some o ≡ true → (v : Said k) × (o ≡ Some v)
    of (Some v) e = (v, refl)
    of None e = absurd (cc e)

-- a token of a kind was next, and was passed
pub token_read : (k : Kind) (old new : Parser) (v : Said k) → next_says k old.rest.now ≡ Some v → new.rest.now ≡ behind old.rest.now → new.depth ≡ old.depth → Read (token k) v old new
token_read k old new v e r d =
    subst (λ us. Finds most_levels (token k) old.depth old.rest.now v new.depth us) (sym r) (subst (λ m. Finds most_levels (token k) old.depth old.rest.now v m (behind old.rest.now)) (sym d) (finds_next k old.depth old.rest.now v e))

pub opener_read : (k : Kind) (old new : Parser) (v : Said k) → next_says k old.rest.now ≡ Some v → old.depth < most_levels → new.rest.now ≡ behind old.rest.now → new.depth ≡ old.depth + 1 → Read (opener k) v old new
opener_read k old new v e h r d =
    subst (λ us. Finds most_levels (opener k) old.depth old.rest.now v new.depth us) (sym r) (subst (λ m. Finds most_levels (opener k) old.depth old.rest.now v m (behind old.rest.now)) (sym d) (opens_next k old.depth old.rest.now v e h))

-- a symbol, a keyword or a wildcard was next, and was passed
pub symbol_read : (s : Symbol) (old new : Parser) → is_at (classes_of (symbol s)) old.rest.now ≡ true → new.rest.now ≡ behind old.rest.now → new.depth ≡ old.depth → Read (token (symbol s)) tt old new
symbol_read s old new h r d = token_read (symbol s) old new tt ((said_next (symbol s) old.rest.now h).1) r d

pub keyword_read : (w : Keyword) (old new : Parser) → is_at (classes_of (keyword w)) old.rest.now ≡ true → new.rest.now ≡ behind old.rest.now → new.depth ≡ old.depth → Read (token (keyword w)) tt old new
keyword_read w old new h r d = token_read (keyword w) old new tt ((said_next (keyword w) old.rest.now h).1) r d

pub wildcard_read : (old new : Parser) → is_at (classes_of wildcard) old.rest.now ≡ true → new.rest.now ≡ behind old.rest.now → new.depth ≡ old.depth → Read (token wildcard) tt old new
wildcard_read old new h r d = token_read wildcard old new tt ((said_next wildcard old.rest.now h).1) r d

-- a token that is next may open a level too many
pub too_deep_failed : (p : Phrase) (old new : Parser) (e : Fault) → (most_levels ≤ old.depth → ReadingFails most_levels p old.depth old.rest.now (too_deep old.rest.now)) → Deepens (Err e) old new → FailedBy e p old new
too_deep_failed p old new e h d =
    subst (λ x. FailedBy x p old new) (sym d.0) (subst (λ us. ReadingFails most_levels p old.depth old.rest.now (too_deep us)) (sym d.2) (h d.1))

pub deepen_failed : (k : Kind) (old new : Parser) (e : Fault) → is_at (classes_of k) old.rest.now ≡ true → Deepens (Err e) old new → FailedBy e (opener k) old new
deepen_failed k old new e h d = too_deep_failed (opener k) old new e (fails_deep h) d

-- a symbol or a keyword was next, and it opens a level or one too many
pub deepen_reads : (s : Symbol) (old new : Parser) (r : Result (Unit {0}) Fault) → is_at (classes_of (symbol s)) old.rest.now ≡ true → Deepens r old new → ReadsPhrase (opener (symbol s)) (λ _. tt) r old new
deepen_reads s old new (Ok _) h d = opener_read (symbol s) old new tt ((said_next (symbol s) old.rest.now h).1) d.0 d.2 d.1
deepen_reads s old new (Err e) h d = deepen_failed (symbol s) old new e h d

pub deepen_reads_keyword : (w : Keyword) (old new : Parser) (r : Result (Unit {0}) Fault) → is_at (classes_of (keyword w)) old.rest.now ≡ true → Deepens r old new → ReadsPhrase (opener (keyword w)) (λ _. tt) r old new
deepen_reads_keyword w old new (Ok _) h d = opener_read (keyword w) old new tt ((said_next (keyword w) old.rest.now h).1) d.0 d.2 d.1
deepen_reads_keyword w old new (Err e) h d = deepen_failed (keyword w) old new e h d

-- a failure of a part is one of the whole
pub passed_on : (p q : Phrase) (old mid new : Parser) → ((f : Failure) → ReadingFails most_levels q mid.depth mid.rest.now f → ReadingFails most_levels p old.depth old.rest.now f) → (e : Fault) → FailedBy e q mid new → FailedBy e p old new
passed_on p q old mid new t Unexpected h = t (unexpected new.rest.now) h
passed_on p q old mid new t TooDeep h = t (too_deep new.rest.now) h
passed_on p q old mid new t NoMemory h = tt

-- what was read is made
pub reads_made : {A : Type 0} (p : Phrase) (view : A → PhraseValue p) (v : PhraseValue p) (r : Result A Fault) (old new : Parser) → Makes view v r → Read p v old new → ReadsPhrase p view r old new
reads_made p view v (Ok x) old new m h = subst (λ w. Read p w old new) (sym m) h
reads_made p view v (Err y) old new m h = subst (λ x. FailedBy x p old new) (sym m) tt

pub reads_made_as : {A B : Type 0} (p : Phrase) (means : PhraseValue p → B) (view : A → B) (v : PhraseValue p) (w : B) (r : Result A Fault) (old new : Parser) → Makes view w r → means v ≡ w → Read p v old new → ReadsAs p means view r old new
reads_made_as p means view v w (Ok x) old new m e h = (v, e ∙ sym m, h)
reads_made_as p means view v w (Err y) old new m e h = subst (λ x. FailedBy x p old new) (sym m) tt

-- where a method gives up by `?`, it fails as what it called
pub gives_up : {A : Type 0} (p : Phrase) (view : A → PhraseValue p) (r : Result A Fault) (e : Fault) (old new : Parser) → IsErrAnd r (λ y. y ≡ e) → FailedBy e p old new → ReadsPhrase p view r old new
gives_up p view (Ok x) e old new i h = absurd i
gives_up p view (Err y) e old new i h = subst (λ x. FailedBy x p old new) (sym i) h

pub gives_up_for : {A : Type 0} (p : Phrase) (means : PhraseValue p → A) (r : Result A Fault) (e : Fault) (old new : Parser) → IsErrAnd r (λ y. y ≡ e) → FailedBy e p old new → ReadsFor p means r old new
gives_up_for p means (Ok x) e old new i h = absurd i
gives_up_for p means (Err y) e old new i h = subst (λ x. FailedBy x p old new) (sym i) h

pub gives_up_as : {A B : Type 0} (p : Phrase) (means : PhraseValue p → B) (view : A → B) (r : Result A Fault) (e : Fault) (old new : Parser) → IsErrAnd r (λ y. y ≡ e) → FailedBy e p old new → ReadsAs p means view r old new
gives_up_as p means view (Ok x) e old new i h = absurd i
gives_up_as p means view (Err y) e old new i h = subst (λ x. FailedBy x p old new) (sym i) h

pub gives_up_items : (before after : List WrittenStatement) (r : Result (Box SurfaceExpr) Fault) (e : Fault) (old new : Parser) → IsErrAnd r (λ y. y ≡ e) → FailedBy e items old new → ReadsItems before after r old new
gives_up_items before after (Ok x) e old new i h = absurd i
gives_up_items before after (Err y) e old new i h = subst (λ x. FailedBy x items old new) (sym i) h

pub gives_up_if_next : {A : Type 0} (p : Phrase) (means : PhraseValue p → A) (r : Result (Option A) Fault) (e : Fault) (old new : Parser) → IsErrAnd r (λ y. y ≡ e) → is_at (first p) old.rest.now ≡ true → FailedBy e p old new → ReadsIfNext p means r old new
gives_up_if_next p means (Ok x) e old new i t h = absurd i
gives_up_if_next p means (Err y) e old new i t h = (t, subst (λ x. FailedBy x p old new) (sym i) h)

-- where a method gives up by `?`, the phrase that it reads fails as the part that it called for
pub gives_up_in : {A : Type 0} (p q : Phrase) (view : A → PhraseValue p) (r : Result A Fault) (e : Fault) (old mid new : Parser) → ((f : Failure) → ReadingFails most_levels q mid.depth mid.rest.now f → ReadingFails most_levels p old.depth old.rest.now f) → IsErrAnd r (λ y. y ≡ e) → FailedBy e q mid new → ReadsPhrase p view r old new
gives_up_in p q view r e old mid new t i h = gives_up p view r e old new i (passed_on p q old mid new t e h)

pub gives_up_for_in : {A : Type 0} (p q : Phrase) (means : PhraseValue p → A) (r : Result A Fault) (e : Fault) (old mid new : Parser) → ((f : Failure) → ReadingFails most_levels q mid.depth mid.rest.now f → ReadingFails most_levels p old.depth old.rest.now f) → IsErrAnd r (λ y. y ≡ e) → FailedBy e q mid new → ReadsFor p means r old new
gives_up_for_in p q means r e old mid new t i h = gives_up_for p means r e old new i (passed_on p q old mid new t e h)

pub gives_up_as_in : {A B : Type 0} (p q : Phrase) (means : PhraseValue p → B) (view : A → B) (r : Result A Fault) (e : Fault) (old mid new : Parser) → ((f : Failure) → ReadingFails most_levels q mid.depth mid.rest.now f → ReadingFails most_levels p old.depth old.rest.now f) → IsErrAnd r (λ y. y ≡ e) → FailedBy e q mid new → ReadsAs p means view r old new
gives_up_as_in p q means view r e old mid new t i h = gives_up_as p means view r e old new i (passed_on p q old mid new t e h)

-- what the next token says, where one is next
pub next_says-first : (k : Kind) (ts : List LocatedToken) (o : Option (Bor LocatedToken)) (b : Bor LocatedToken) → option_copied o ≡ slice_get ts 0 → o ≡ Some b → next_says k ts ≡ says k b.now
next_says-first k [] o b e d = absurd (cc (e, ap option_copied d))
next_says-first k (t ∷ ts) o b e d = words (says k) t b.now (sym e ∙ ap option_copied d)
  where
    words : (f : LocatedToken → Option (Said k)) (t u : LocatedToken) → Some t ≡ Some u → f t ≡ f u
    words f t u h = cc

-- nothing is next where no token is
pub is_at-none : (classes : List Class) (ts : List LocatedToken) (o : Option (Bor LocatedToken)) → option_copied o ≡ slice_get ts 0 → o ≡ None → is_at classes ts ≡ false
is_at-none classes [] o e d = refl
is_at-none classes (t ∷ ts) o e d = absurd (cc (e, ap option_copied d))

-- where a token is next, its class is what counts
pub is_at-first : (classes : List Class) (ts : List LocatedToken) (o : Option (Bor LocatedToken)) (b : Bor LocatedToken) → option_copied o ≡ slice_get ts 0 → o ≡ Some b → is_at classes ts ≡ is_one_of classes (class_of b.now.token)
is_at-first classes [] o b e d = absurd (cc (e, ap option_copied d))
is_at-first classes (t ∷ ts) o b e d = of (λ u. is_one_of classes (class_of u.token)) t b.now (sym e ∙ ap option_copied d)
  where
    of : (f : LocatedToken → Bool) (t u : LocatedToken) → Some t ≡ Some u → f t ≡ f u
    of f t u h = cc

-- a token of a kind is next
pub is_at-said : (k : Kind) (ts : List LocatedToken) (v : Said k) → next_says k ts ≡ Some v → is_at (classes_of k) ts ≡ true
is_at-said k ts v e = sym (next_says_class k ts) ∙ ap is_some e

pub is_at-unsaid : (k : Kind) (ts : List LocatedToken) → next_says k ts ≡ None → is_at (classes_of k) ts ≡ false
is_at-unsaid k ts e = sym (next_says_class k ts) ∙ ap is_some e

-- a name of one of some classes is next, or of none of them
pub said_name : (classes : List NameClass) (spelling : List ℕ) (at : ℕ) → is_name_in classes (name_class spelling) ≡ true → said_at (name_in classes) (OfToken.Name spelling) at ≡ Some (record { name = spelling; at = at })
said_name classes spelling at h = rw h refl

pub unsaid_name : (classes : List NameClass) (spelling : List ℕ) (at : ℕ) → is_name_in classes (name_class spelling) ≡ false → said_at (name_in classes) (OfToken.Name spelling) at ≡ None
unsaid_name classes spelling at h = rw h refl

pub unsaid_other : (classes : List NameClass) (t : Token) (at : ℕ) → ((spelling : List ℕ) → t ≡ OfToken.Name spelling → ⊥) → said_at (name_in classes) t at ≡ None
unsaid_other classes (OfToken.Name spelling) at h = absurd (h spelling refl)
unsaid_other classes (OfToken.Constructor spelling) at h = refl
unsaid_other classes OfToken.Wildcard at h = refl
unsaid_other classes (OfToken.Number value) at h = refl
unsaid_other classes (OfToken.String text) at h = refl
unsaid_other classes (OfToken.Keyword k) at h = refl
unsaid_other classes (OfToken.Symbol s) at h = refl

-- the same of the other kinds that a match tells
pub unsaid_constructor : (t : Token) (at : ℕ) → ((spelling : List ℕ) → t ≡ OfToken.Constructor spelling → ⊥) → said_at constructor t at ≡ None
unsaid_constructor (OfToken.Constructor spelling) at h = absurd (h spelling refl)
unsaid_constructor (OfToken.Name spelling) at h = refl
unsaid_constructor OfToken.Wildcard at h = refl
unsaid_constructor (OfToken.Number value) at h = refl
unsaid_constructor (OfToken.String text) at h = refl
unsaid_constructor (OfToken.Keyword k) at h = refl
unsaid_constructor (OfToken.Symbol s) at h = refl

pub unsaid_wildcard : (t : Token) (at : ℕ) → (t ≡ OfToken.Wildcard → ⊥) → said_at wildcard t at ≡ None
unsaid_wildcard OfToken.Wildcard at h = absurd (h refl)
unsaid_wildcard (OfToken.Name spelling) at h = refl
unsaid_wildcard (OfToken.Constructor spelling) at h = refl
unsaid_wildcard (OfToken.Number value) at h = refl
unsaid_wildcard (OfToken.String text) at h = refl
unsaid_wildcard (OfToken.Keyword k) at h = refl
unsaid_wildcard (OfToken.Symbol s) at h = refl

pub unsaid_string : (t : Token) (at : ℕ) → ((text : List ℕ) → t ≡ OfToken.String text → ⊥) → said_at string t at ≡ None
unsaid_string (OfToken.String text) at h = absurd (h text refl)
unsaid_string (OfToken.Name spelling) at h = refl
unsaid_string (OfToken.Constructor spelling) at h = refl
unsaid_string OfToken.Wildcard at h = refl
unsaid_string (OfToken.Number value) at h = refl
unsaid_string (OfToken.Keyword k) at h = refl
unsaid_string (OfToken.Symbol s) at h = refl

-- the next token is of no such kind
pub is_at-not : (k : Kind) (ts : List LocatedToken) (o : Option (Bor LocatedToken)) (b : Bor LocatedToken) → option_copied o ≡ slice_get ts 0 → o ≡ Some b → said_at k b.now.token b.now.span.at ≡ None → is_at (classes_of k) ts ≡ false
is_at-not k ts o b d e h = is_at-unsaid k ts (next_says-first k ts o b d e ∙ h)

-- a token is next where one was found
pub next_there : (ts : List LocatedToken) (o : Option (Bor LocatedToken)) (b : Bor LocatedToken) → option_copied o ≡ slice_get ts 0 → o ≡ Some b → 0 < length ts
next_there [] o b e d = absurd (cc (e, ap option_copied d))
next_there (t ∷ ts) o b e d = omega arith

pub is_at-name : (classes : List NameClass) (ts : List LocatedToken) (spelling : List ℕ) (at : ℕ) (b : Bool) → b ≡ is_name_in classes (name_class spelling) → next_says (name_in classes) ts ≡ said_at (name_in classes) (OfToken.Name spelling) at → b ≡ is_at (classes_of (name_in classes)) ts
is_at-name classes ts spelling at true h e = sym (is_at-said (name_in classes) ts _ (e ∙ said_name classes spelling at (sym h)))
is_at-name classes ts spelling at false h e = sym (is_at-unsaid (name_in classes) ts (e ∙ unsaid_name classes spelling at (sym h)))

-- a token was passed, and its name copied
pub name_taken : (k : Kind) (view : Identifier → Said k) (i : Identifier) (r : Result Identifier Fault) (old new : Parser) → next_says k old.rest.now ≡ Some (view i) → IfOk r (λ x. x ≡ i) → OnOk r (new.rest.now ≡ behind old.rest.now) → new.depth ≡ old.depth → IfErr r (λ f. f ≡ NoMemory) → ReadsPhrase (token k) view r old new
name_taken k view i (Ok x) old new e c b d f = token_read k old new (view x) (e ∙ ap (λ y. Some (view y)) (sym c)) b d
name_taken k view i (Err y) old new e c b d f = subst (λ x. FailedBy x (token k) old new) (sym f) tt

-- Continues p q says start here: to read q from here is to read p from the start, which then says what `says` gives
pub record Continues (p q : Phrase) (says : PhraseValue q → PhraseValue p) (start here : Parser) : Type 0 where
  pub found : (v : PhraseValue q) (m : ℕ) (us : List LocatedToken) → Finds most_levels q here.depth here.rest.now v m us → Finds most_levels p start.depth start.rest.now (says v) m us
  pub failed : (f : Failure) → ReadingFails most_levels q here.depth here.rest.now f → ReadingFails most_levels p start.depth start.rest.now f

pub continues_start : (p : Phrase) (start : Parser) → Continues p p (λ v. v) start start
continues_start p start = record { found = λ v m us r. r; failed = λ f r. r }

-- one of many was read
pub continues_many : (p a : Phrase) (says : List (PhraseValue a) → PhraseValue p) (u : PhraseValue a) (start here next : Parser) → Continues p (many a) says start here → is_at (first a) here.rest.now ≡ true → Read a u here next → Continues p (many a) (λ vs. says (u ∷ vs)) start next
continues_many p a says u start here next c h r = record {
  found = λ v m us s. c.found (u ∷ v) m us (finds_more h r s);
  failed = λ f s. c.failed f (fails_more h r s);
}

-- one of many was read that stand before something else
pub continues_many_before : (p a b : Phrase) (says : PhraseValue (many a ▸ b) → PhraseValue p) (u : PhraseValue a) (start here next : Parser) → Continues p (many a ▸ b) says start here → is_at (first a) here.rest.now ≡ true → Read a u here next → Continues p (many a ▸ b) (λ v. says (u ∷ v.0, v.1)) start next
continues_many_before p a b says u start here next c h r = record {
  found = λ v m us s. c.found (u ∷ v.0, v.1) m us (more_found s);
  failed = λ f s. c.failed f (more_failed s);
}
  where
    more_found : {v : PhraseValue (many a ▸ b)} {m : ℕ} {us : List LocatedToken} → Finds most_levels (many a ▸ b) next.depth next.rest.now v m us → Finds most_levels (many a ▸ b) here.depth here.rest.now (u ∷ v.0, v.1) m us
    more_found (finds_both s t) = finds_both (finds_more h r s) t

    more_failed : {f : Failure} → ReadingFails most_levels (many a ▸ b) next.depth next.rest.now f → ReadingFails most_levels (many a ▸ b) here.depth here.rest.now f
    more_failed (fails_front s) = fails_front (fails_more h r s)
    more_failed (fails_behind s t) = fails_behind (finds_more h r s) t

-- the same in other words
pub continues_as : (p q : Phrase) (says other : PhraseValue q → PhraseValue p) (start here : Parser) → ((v : PhraseValue q) → says v ≡ other v) → Continues p q says start here → Continues p q other start here
continues_as p q says other start here e c = record {
  found = λ v m us r. subst (λ w. Finds most_levels p start.depth start.rest.now w m us) (e v) (c.found v m us r);
  failed = c.failed;
}

-- there are no more
pub ends_many : {p a : Phrase} {says : List (PhraseValue a) → PhraseValue p} {start here : Parser} → Continues p (many a) says start here → is_at (first a) here.rest.now ≡ false → Read p (says []) start here
ends_many {here = here} c h = c.found [] here.depth here.rest.now (finds_none h)

pub continues_rule : (x : Nonterminal) (start : Parser) → Continues (rule x) (form x) (form_meaning x) start start
continues_rule x start = record { found = λ v m us r. finds_rule r; failed = λ f r. fails_rule r }

-- the first of two phrases was read
pub front_read : {p a b : Phrase} {says : PhraseValue (a ▸ b) → PhraseValue p} {u : PhraseValue a} {start here : Parser} (next : Parser) → Continues p (a ▸ b) says start here → Read a u here next → Continues p b (λ v. says (u, v)) start next
front_read next c r = record { found = λ v m us s. c.found _ m us (finds_both r s); failed = λ f s. c.failed f (fails_behind r s) }

-- of two phrases one is read, as the next token tells
pub first_next : {p a b : Phrase} {says : PhraseValue (either a b) → PhraseValue p} {start here : Parser} → Continues p (either a b) says start here → is_at (first a) here.rest.now ≡ true → Continues p a (λ v. says (inl v)) start here
first_next c h = record { found = λ v m us r. c.found (inl v) m us (finds_first h r); failed = λ f r. c.failed f (fails_first h r) }

pub first_absent : {p a b : Phrase} {says : PhraseValue (either a b) → PhraseValue p} {start here : Parser} → Continues p (either a b) says start here → is_at (first a) here.rest.now ≡ false → Continues p b (λ v. says (inr v)) start here
first_absent c h = record { found = λ v m us r. c.found (inr v) m us (finds_second h r); failed = λ f r. c.failed f (fails_second h r) }

-- what was read from the start to a state was read to one with the same tokens and levels
pub read_to : (p : Phrase) (v : PhraseValue p) (start here next : Parser) → next.depth ≡ here.depth → next.rest.now ≡ here.rest.now → Read p v start here → Read p v start next
read_to p v start here next d e r =
    subst (λ us. Finds most_levels p start.depth start.rest.now v next.depth us) (sym e) (subst (λ m. Finds most_levels p start.depth start.rest.now v m here.rest.now) (sym d) r)

-- what is read from one state is read from one with the same tokens and levels
pub read_from : (p : Phrase) (v : PhraseValue p) (start here next : Parser) → here.depth ≡ start.depth → here.rest.now ≡ start.rest.now → Read p v here next → Read p v start next
read_from p v start here next d e r =
    subst (λ ts. Finds most_levels p start.depth ts v next.depth next.rest.now) e (subst (λ n. Finds most_levels p n here.rest.now v next.depth next.rest.now) d r)

pub fails_from : (p : Phrase) (f : Failure) (start here : Parser) → here.depth ≡ start.depth → here.rest.now ≡ start.rest.now → ReadingFails most_levels p here.depth here.rest.now f → ReadingFails most_levels p start.depth start.rest.now f
fails_from p f start here d e r =
    subst (λ ts. ReadingFails most_levels p start.depth ts f) e (subst (λ n. ReadingFails most_levels p n here.rest.now f) d r)

-- the last part of a phrase was read, or failed
pub reads_on : {A : Type 0} (p q : Phrase) (view : A → PhraseValue p) (part : A → PhraseValue q) (says : PhraseValue q → PhraseValue p) (r : Result A Fault) (start here next : Parser) → Continues p q says start here → ((x : A) → says (part x) ≡ view x) → ReadsPhrase q part r here next → ReadsPhrase p view r start next
reads_on p q view part says (Ok x) start here next c e r = subst (λ v. Read p v start next) (e x) (c.found (part x) next.depth next.rest.now r)
reads_on p q view part says (Err e) start here next c d r = passed_on p q start here next c.failed e r

-- one more operator and its operand on the right
pub continues_left : {p a b : Phrase} {u : PhraseValue a} {v : PhraseValue b} (says : Written → List (PhraseValue (a ▸ b)) → PhraseValue p) (left next_left : Written) (start here mid next : Parser) → Continues p (many (a ▸ b)) (says left) start here → is_at (first (a ▸ b)) here.rest.now ≡ true → Read a u here mid → Read b v mid next → ((vs : List (PhraseValue (a ▸ b))) → says left ((u, v) ∷ vs) ≡ says next_left vs) → Continues p (many (a ▸ b)) (says next_left) start next
continues_left {p} says left next_left start here mid next c h r s e = record {
  found = λ vs m us t. subst (λ w. Finds most_levels p start.depth start.rest.now w m us) (e vs) (c.found _ m us (finds_more h (finds_both r s) t));
  failed = λ f t. c.failed f (fails_more h (finds_both r s) t);
}

-- what continues from a state continues from one with the same tokens and levels
pub continues_to : (p q : Phrase) (says : PhraseValue q → PhraseValue p) (start here next : Parser) → next.depth ≡ here.depth → next.rest.now ≡ here.rest.now → Continues p q says start here → Continues p q says start next
continues_to p q says start here next d e c = record {
  found = λ v m us r. c.found v m us (subst (λ n. Finds most_levels q n here.rest.now v m us) d (subst (λ ts. Finds most_levels q next.depth ts v m us) e r));
  failed = λ f r. c.failed f (fails_from q f here next d e r);
}

-- the last part of a phrase was read for what it means, or failed
pub reads_as_on : {A : Type 0} {p q : Phrase} {says : PhraseValue q → PhraseValue p} {start here : Parser} → Continues p q says start here → (view : A → PhraseValue p) (means : PhraseValue q → PhraseValue p) (r : Result A Fault) (next : Parser) → ((v : PhraseValue q) → says v ≡ means v) → ReadsAs q means view r here next → ReadsPhrase p view r start next
reads_as_on {p = p} {start = start} c view means (Ok x) next e r = subst (λ v. Read p v start next) (e r.0 ∙ r.1) (c.found r.0 next.depth next.rest.now r.2)
reads_as_on {p = p} {q = q} {start = start} {here = here} c view means (Err e) next d r = passed_on p q start here next c.failed e r

-- a part of a phrase was read for what the phrase means, or failed
pub reads_as_within : {A B : Type 0} {p q : Phrase} {says : PhraseValue q → PhraseValue p} {start here : Parser} → Continues p q says start here → (means : PhraseValue p → B) (part : PhraseValue q → B) (view : A → B) (r : Result A Fault) (next : Parser) → ((v : PhraseValue q) → means (says v) ≡ part v) → ReadsAs q part view r here next → ReadsAs p means view r start next
reads_as_within {says = says} c means part view (Ok x) next e r = (says r.0, e r.0 ∙ r.1, c.found r.0 next.depth next.rest.now r.2)
reads_as_within {p = p} {q = q} {start = start} {here = here} c means part view (Err y) next e r = passed_on p q start here next c.failed y r
