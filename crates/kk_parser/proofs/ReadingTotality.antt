-- Each list of tokens comes to something: the reading of a phrase comes to an end, since no phrase is read again where no
-- token was passed.
use Rattle.std.proofs.Common.{◌≡◌, ℕ, zero, suc, ◌+◌, ◌<◌, ◌≤◌, Bool, true, false, not, ◌&&◌, ◌⊎◌, List, [], ◌∷◌, length, None, Some, refl, sym, subst, inl, inr, arith}
use Rattle.std.proofs.lemmas.Bool.{and_parts, cases_lt}
use Rattle.kk_syntax.specs.declared.token.LocatedToken.{LocatedToken}
use Rattle.kk_syntax.specs.declared.token.Symbol.TheVariants.{CloseParenthesis}
use Rattle.kk_parser.specs.Classes.{is_at}
use Rattle.kk_parser.specs.Kinds.{Kind, symbol, string, Said, says, classes_of}
use Rattle.kk_parser.specs.Phrases.{Nonterminal, program, decl, con, param, effect, eff, type, result_type, expr, block, stmt, if_, match_, row, pat, or, and, cmp, add, mul, un, post, atom, say, args, Phrase, token, opener, ◌▸◌, either, many, optional, level, rule, each, perhaps, quoted_or, PhraseValue}
use Rattle.kk_parser.specs.Forms.{form, form_meaning}
use Rattle.kk_parser.specs.Reading.{first, nullable, is_quoted, quoted, Finds, finds_token, finds_opener, finds_both, finds_first, finds_second, finds_none, finds_more, finds_absence, finds_presence, finds_level, finds_rule, finds_no_more, finds_each, finds_nothing, finds_something, finds_quoted, finds_unquoted, Failure, unexpected, too_deep, ReadingFails, fails_token, fails_opener, fails_deep, fails_front, fails_behind, fails_first, fails_second, fails_one, fails_more, fails_presence, fails_level, fails_rule, fails_each_deep, fails_each, fails_each_more, fails_something, fails_quoted, fails_unquoted}
use Rattle.kk_parser.proofs.ClassDisjointness.{next_of}
use Rattle.kk_parser.proofs.PassedTokens.{left_few, passes}
use Rattle.kk_parser.specs.Depths.{most_levels}

-- what a phrase repeats has a token each time
abbrev pub readable : Phrase → Bool
readable (a ▸ b) = readable a && readable b
readable (either a b) = readable a && readable b
readable (many a) = not (nullable a) && readable a
readable (optional a) = readable a
readable (level a) = readable a
readable (each k a) = readable a
readable (perhaps k a) = readable a
readable (quoted_or a) = readable a
readable _ = true

-- before a token is passed, a phrase comes to no rule again
data Starts : Phrase → Type 0 where
  starts_token : {k : Kind} → Starts (token k)
  starts_opener : {k : Kind} → Starts (opener k)
  starts_passing : {a b : Phrase} → nullable a ≡ false → Starts a → readable b ≡ true → Starts (a ▸ b)
  starts_both : {a b : Phrase} → Starts a → Starts b → Starts (a ▸ b)
  starts_either : {a b : Phrase} → Starts a → Starts b → Starts (either a b)
  starts_many : {a : Phrase} → nullable a ≡ false → readable a ≡ true → Starts a → Starts (many a)
  starts_optional : {a : Phrase} → Starts a → Starts (optional a)
  starts_level : {a : Phrase} → Starts a → Starts (level a)
  starts_rule : {x : Nonterminal} → Starts (form x) → Starts (rule x)
  starts_each : {k : Kind} {a : Phrase} → readable a ≡ true → Starts (each k a)
  starts_perhaps : {k : Kind} {a : Phrase} → readable a ≡ true → Starts (perhaps k a)
  starts_quoted : {a : Phrase} → Starts a → Starts (quoted_or a)

by_token : {k : Kind} {b : Phrase} → readable b ≡ true → Starts (token k ▸ b)
by_token h = starts_passing refl starts_token h

by_opener : {k : Kind} {b : Phrase} → readable b ≡ true → Starts (opener k ▸ b)
by_opener h = starts_passing refl starts_opener h

print_starts : {k l : Kind} {b : Phrase} → readable b ≡ true → Starts (either (token k) (token l) ▸ b)
print_starts h = starts_passing refl (starts_either starts_token starts_token) h

atom_starts : Starts (form atom)
atom_starts = starts_either starts_token (starts_either (by_token refl) (starts_either (by_opener refl) (starts_either (by_token refl) (starts_either (print_starts refl) (by_token refl)))))

post_starts : Starts (form post)
post_starts = starts_passing refl (starts_rule atom_starts) refl

un_starts : Starts (form un)
un_starts = starts_either (starts_passing refl (starts_either starts_opener starts_opener) refl) (starts_rule post_starts)

mul_starts : Starts (form mul)
mul_starts = starts_passing refl (starts_rule un_starts) refl

add_starts : Starts (form add)
add_starts = starts_passing refl (starts_rule mul_starts) refl

cmp_starts : Starts (form cmp)
cmp_starts = starts_passing refl (starts_rule add_starts) refl

and_starts : Starts (form and)
and_starts = starts_passing refl (starts_rule cmp_starts) refl

or_starts : Starts (form or)
or_starts = starts_passing refl (starts_rule and_starts) refl

expr_starts : Starts (form expr)
expr_starts = starts_level (starts_either (starts_rule (by_opener refl)) (starts_either (starts_rule (by_opener refl)) (starts_either (starts_rule (by_token refl)) (starts_rule or_starts))))

stmt_starts : Starts (form stmt)
stmt_starts = starts_either (by_token refl) (starts_rule expr_starts)

pat_starts : Starts (form pat)
pat_starts = starts_level (starts_either starts_token (starts_either starts_token (starts_either starts_token (starts_either (by_token refl) (by_opener refl)))))

args_starts : Starts (form args)
args_starts = starts_optional (starts_passing refl (starts_rule expr_starts) refl)

say_starts : Starts (form say)
say_starts = starts_either (print_starts refl) (by_token refl)

eff_starts : Starts (form eff)
eff_starts = starts_either starts_token (starts_either starts_token (starts_either starts_token starts_token))

effect_starts : Starts (form effect)
effect_starts = starts_either (starts_rule eff_starts) (by_token refl)

type_starts : Starts (form type)
type_starts = starts_level (starts_either starts_token (starts_either (by_token refl) (by_opener refl)))

decl_starts : Starts (form decl)
decl_starts = starts_level (starts_either (by_token refl) (by_token refl))

program_starts : Starts (form program)
program_starts = starts_both (starts_many refl refl starts_token) (starts_optional (starts_passing refl (starts_rule decl_starts) refl))

starts-form : (x : Nonterminal) → Starts (form x)
starts-form program = program_starts
starts-form decl = decl_starts
starts-form con = starts_level (by_token refl)
starts-form param = by_token refl
starts-form effect = effect_starts
starts-form eff = eff_starts
starts-form type = type_starts
starts-form result_type = starts_level (starts_either starts_token (starts_either (by_token refl) (by_opener refl)))
starts-form expr = expr_starts
starts-form block = by_opener refl
starts-form stmt = stmt_starts
starts-form if_ = by_opener refl
starts-form match_ = by_token refl
starts-form row = starts_passing refl (starts_rule pat_starts) refl
starts-form pat = pat_starts
starts-form or = or_starts
starts-form and = and_starts
starts-form cmp = cmp_starts
starts-form add = add_starts
starts-form mul = mul_starts
starts-form un = un_starts
starts-form post = post_starts
starts-form atom = atom_starts
starts-form say = say_starts
starts-form args = args_starts

not_nullable : (x : Bool) → not x ≡ true → x ≡ false
not_nullable true h = absurd (cc h)
not_nullable false h = refl

starts : (p : Phrase) → readable p ≡ true → Starts p
starts (token k) h = starts_token
starts (opener k) h = starts_opener
starts (a ▸ b) h = let q = and_parts _ _ h in starts_both (starts a q.0) (starts b q.1)
starts (either a b) h = let q = and_parts _ _ h in starts_either (starts a q.0) (starts b q.1)
starts (many a) h = let q = and_parts _ _ h in starts_many (not_nullable (nullable a) q.0) q.1 (starts a q.1)
starts (optional a) h = starts_optional (starts a h)
starts (level a) h = starts_level (starts a h)
starts (rule x) h = starts_rule (starts-form x)
starts (each k a) h = starts_each h
starts (perhaps k a) h = starts_perhaps h
starts (quoted_or a) h = starts_quoted (starts a h)

-- a phrase is read, or its reading fails
pub data ReadOrFailed (p : Phrase) (n : ℕ) (ts : List LocatedToken) : Type 0 where
  was_read : (v : PhraseValue p) (m : ℕ) (us : List LocatedToken) → Finds most_levels p n ts v m us → ReadOrFailed p n ts
  has_failed : (f : Failure) → ReadingFails most_levels p n ts f → ReadOrFailed p n ts

-- fewer tokens are read, or their reading fails
abbrev FewerRead : List LocatedToken → Type 0
FewerRead ts = (q : Phrase) (k : ℕ) (us : List LocatedToken) → readable q ≡ true → length us < length ts → ReadOrFailed q k us

fewer : (ts us : List LocatedToken) → FewerRead ts → length us ≤ length ts → FewerRead us
fewer ts us f few q k ws h less = f q k ws h (omega arith)

told : (b : Bool) → ((b ≡ true) ⊎ (b ≡ false))
told true = inl refl
told false = inr refl

read_token : (k : Kind) (n : ℕ) (ts : List LocatedToken) → ReadOrFailed (token k) n ts
read_token k n ts =
    elim (told (is_at (classes_of k) ts)) [
      | inl h ↦ let t = next_of k ts h in subst (ReadOrFailed (token k) n) (sym t.3) (was_read t.2 n t.1 (finds_token t.4))
      | inr h ↦ has_failed (unexpected ts) (fails_token h)
    ]

read_opener : (k : Kind) (n : ℕ) (ts : List LocatedToken) → ReadOrFailed (opener k) n ts
read_opener k n ts =
    elim (told (is_at (classes_of k) ts)) [
      | inl h ↦ elim (cases_lt n most_levels) [
        | inl shallow ↦ let t = next_of k ts h in subst (ReadOrFailed (opener k) n) (sym t.3) (was_read t.2 (n + 1) t.1 (finds_opener t.4 shallow))
        | inr deep ↦ has_failed (too_deep ts) (fails_deep h deep)
      ]
      | inr h ↦ has_failed (unexpected ts) (fails_opener h)
    ]

read_both : (a b : Phrase) (n : ℕ) (ts : List LocatedToken) → ReadOrFailed a n ts → ((k : ℕ) (us : List LocatedToken) (u : PhraseValue a) → Finds most_levels a n ts u k us → ReadOrFailed b k us) → ReadOrFailed (a ▸ b) n ts
read_both a b n ts (has_failed f r) rest = has_failed f (fails_front r)
read_both a b n ts (was_read u k us r) rest =
    elim (rest k us u r) [
      | was_read v m ws s ↦ was_read (u, v) m ws (finds_both r s)
      | has_failed f s ↦ has_failed f (fails_behind r s)
    ]

read_quoted : (n : ℕ) (ts : List LocatedToken) → ReadOrFailed quoted n ts
read_quoted n ts = read_both (token string) (token (symbol CloseParenthesis)) n ts (read_token string n ts) (λ k us u r. read_token (symbol CloseParenthesis) k us)

-- where a level may be opened, the token that opens it is passed
read_each_behind : (k : Kind) (a : Phrase) (n : ℕ) (t : LocatedToken) (w : Said k) (ts : List LocatedToken) → readable a ≡ true → says k t ≡ Some w → n < most_levels → FewerRead (t ∷ ts) → ReadOrFailed (each k a) n (t ∷ ts)
read_each_behind k a n t w ts h said shallow f =
    elim (f a (n + 1) ts h (omega arith)) [
      | has_failed e r ↦ has_failed e (fails_each said shallow r)
      | was_read u l us r ↦ elim (f (each k a) l us h (omega (arith, left_few r))) [
        | was_read vs m ws s ↦ was_read (u ∷ vs) m ws (finds_each said shallow r s)
        | has_failed e s ↦ has_failed e (fails_each_more said shallow r s)
      ]
    ]

read_each : (k : Kind) (a : Phrase) (n : ℕ) (ts : List LocatedToken) → readable a ≡ true → FewerRead ts → ReadOrFailed (each k a) n ts
read_each k a n ts h f =
    elim (told (is_at (classes_of k) ts)) [
      | inr none ↦ was_read [] n ts (finds_no_more none)
      | inl one ↦ elim (cases_lt n most_levels) [
        | inr deep ↦ has_failed (too_deep ts) (fails_each_deep one deep)
        | inl shallow ↦
            let t = next_of k ts one in
            subst (λ us. FewerRead us → ReadOrFailed (each k a) n us) (sym t.3) (read_each_behind k a n t.0 t.2 t.1 h t.4 shallow) f
      ]
    ]

read_perhaps_behind : (k : Kind) (a : Phrase) (n : ℕ) (t : LocatedToken) (w : Said k) (ts : List LocatedToken) → readable a ≡ true → says k t ≡ Some w → FewerRead (t ∷ ts) → ReadOrFailed (perhaps k a) n (t ∷ ts)
read_perhaps_behind k a n t w ts h said f =
    elim (f a n ts h (omega arith)) [
      | was_read v m us r ↦ was_read (Some v) m us (finds_something said r)
      | has_failed e r ↦ has_failed e (fails_something said r)
    ]

read_perhaps : (k : Kind) (a : Phrase) (n : ℕ) (ts : List LocatedToken) → readable a ≡ true → FewerRead ts → ReadOrFailed (perhaps k a) n ts
read_perhaps k a n ts h f =
    elim (told (is_at (classes_of k) ts)) [
      | inr none ↦ was_read None n ts (finds_nothing none)
      | inl one ↦
          let t = next_of k ts one in
          subst (λ us. FewerRead us → ReadOrFailed (perhaps k a) n us) (sym t.3) (read_perhaps_behind k a n t.0 t.2 t.1 h t.4) f
    ]

read_starting : {p : Phrase} → Starts p → (n : ℕ) (ts : List LocatedToken) → FewerRead ts → ReadOrFailed p n ts
read_starting (starts_token {k = k}) n ts f = read_token k n ts
read_starting (starts_opener {k = k}) n ts f = read_opener k n ts
read_starting (starts_passing {a = a} {b = b} some x h) n ts f = read_both a b n ts (read_starting x n ts f) (λ k us u r. f b k us h (passes r some))
read_starting (starts_both {a = a} {b = b} x y) n ts f = read_both a b n ts (read_starting x n ts f) (λ k us u r. read_starting y k us (fewer ts us f (left_few r)))
read_starting (starts_either {a = a} x y) n ts f =
    elim (told (is_at (first a) ts)) [
      | inl h ↦ elim (read_starting x n ts f) [
        | was_read v m us r ↦ was_read (inl v) m us (finds_first h r)
        | has_failed e r ↦ has_failed e (fails_first h r)
      ]
      | inr h ↦ elim (read_starting y n ts f) [
        | was_read v m us r ↦ was_read (inr v) m us (finds_second h r)
        | has_failed e r ↦ has_failed e (fails_second h r)
      ]
    ]
read_starting (starts_many {a = a} some h x) n ts f =
    elim (told (is_at (first a) ts)) [
      | inr none ↦ was_read [] n ts (finds_none none)
      | inl one ↦ elim (read_starting x n ts f) [
        | has_failed e r ↦ has_failed e (fails_one one r)
        | was_read u k us r ↦ elim (f (many a) k us (again (nullable a) (readable a) some h) (passes r some)) [
          | was_read vs m ws s ↦ was_read (u ∷ vs) m ws (finds_more one r s)
          | has_failed e s ↦ has_failed e (fails_more one r s)
        ]
      ]
    ]
  where
    again : (x y : Bool) → x ≡ false → y ≡ true → (not x && y) ≡ true
    again x y e d = rw (e, d) refl
read_starting (starts_optional {a = a} x) n ts f =
    elim (told (is_at (first a) ts)) [
      | inr none ↦ was_read None n ts (finds_absence none)
      | inl one ↦ elim (read_starting x n ts f) [
        | was_read v m us r ↦ was_read (Some v) m us (finds_presence one r)
        | has_failed e r ↦ has_failed e (fails_presence one r)
      ]
    ]
read_starting (starts_level x) n ts f =
    elim (read_starting x n ts f) [
      | was_read v m us r ↦ was_read v n us (finds_level r)
      | has_failed e r ↦ has_failed e (fails_level r)
    ]
read_starting (starts_rule {x = x} y) n ts f =
    elim (read_starting y n ts f) [
      | was_read v m us r ↦ was_read (form_meaning x v) m us (finds_rule r)
      | has_failed e r ↦ has_failed e (fails_rule r)
    ]
read_starting (starts_each {k = k} {a = a} h) n ts f = read_each k a n ts h f
read_starting (starts_perhaps {k = k} {a = a} h) n ts f = read_perhaps k a n ts h f
read_starting (starts_quoted {a = a} y) n ts f =
    elim (told (is_quoted ts)) [
      | inl h ↦ elim (read_quoted n ts) [
        | was_read v m us r ↦ was_read (inl v.0) m us (finds_quoted h r)
        | has_failed e r ↦ has_failed e (fails_quoted h r)
      ]
      | inr h ↦ elim (read_starting y n ts f) [
        | was_read v m us r ↦ was_read (inr v) m us (finds_unquoted h r)
        | has_failed e r ↦ has_failed e (fails_unquoted h r)
      ]
    ]

fewer_read : (more : ℕ) (ts : List LocatedToken) → length ts ≤ more → FewerRead ts
fewer_read zero ts few q k us h less = absurd (omega arith)
fewer_read (suc more) ts few q k us h less = read_starting (starts q h) k us (fewer_read more us (omega arith))

pub is_read_or_fails : (p : Phrase) → readable p ≡ true → (n : ℕ) (ts : List LocatedToken) → ReadOrFailed p n ts
is_read_or_fails p h n ts = read_starting (starts p h) n ts (fewer_read (length ts) ts (omega arith))

pub program_is_read_or_fails : (ts : List LocatedToken) → ReadOrFailed (rule program) 0 ts
program_is_read_or_fails ts = is_read_or_fails (rule program) refl 0 ts
