-- How many tokens a reading passes. It passes one where no text of the phrase is empty, and where a string is next that
-- the phrase takes.
use Rattle.std.proofs.Common.{◌≡◌, ℕ, ◌<◌, ◌≤◌, Bool, true, false, cond, ◌&&◌, ◌||◌, List, [], ◌∷◌, length, refl, sym, ap, ◌∙◌, arith}
use Rattle.std.proofs.lemmas.Bool.{and_parts, both_ways}
use Rattle.kk_syntax.specs.declared.token.LocatedToken.{LocatedToken}
use Rattle.kk_parser.specs.Classes.{Class, string, same_class, class_of, is_one_of, is_at}
use Rattle.kk_parser.specs.Kinds.{classes_of}
use Rattle.kk_parser.specs.Phrases.{Nonterminal, program, decl, con, param, effect, eff, type, result_type, expr, block, stmt, if_, match_, row, pat, or, and, cmp, add, mul, un, post, atom, say, args, Phrase, token, ◌▸◌, either, many, optional, level, rule, quoted_or, PhraseValue}
use Rattle.kk_parser.specs.Forms.{form}
use Rattle.kk_parser.specs.Reading.{first, first_of, nullable, Finds, finds_token, finds_opener, finds_both, finds_first, finds_second, finds_none, finds_more, finds_absence, finds_presence, finds_level, finds_rule, finds_no_more, finds_each, finds_nothing, finds_something, finds_quoted, finds_unquoted, Failure, ReadingFails, fails_token, fails_opener, fails_deep, fails_front, fails_behind, fails_first, fails_second, fails_one, fails_more, fails_presence, fails_level, fails_rule, fails_each_deep, fails_each, fails_each_more, fails_something, fails_quoted, fails_unquoted}
use Rattle.kk_parser.proofs.ClassDisjointness.{same_class-one}
use Rattle.kk_parser.proofs.Soundness.{rest_of}
use Rattle.kk_parser.proofs.Tables.{nullable-production}

-- a reading leaves no more tokens than there were
pub left_few : {limit : ℕ} {p : Phrase} {n m : ℕ} {v : PhraseValue p} {ts us : List LocatedToken} → Finds limit p n ts v m us → length us ≤ length ts
left_few (finds_token h) = omega arith
left_few (finds_opener h k) = omega arith
left_few (finds_both r s) = omega (arith, left_few r, left_few s)
left_few (finds_first h r) = left_few r
left_few (finds_second h r) = left_few r
left_few (finds_none h) = omega arith
left_few (finds_more h r s) = omega (arith, left_few r, left_few s)
left_few (finds_absence h) = omega arith
left_few (finds_presence h r) = left_few r
left_few (finds_level r) = left_few r
left_few (finds_rule r) = left_few r
left_few (finds_no_more h) = omega arith
left_few (finds_each h l r s) = omega (arith, left_few r, left_few s)
left_few (finds_nothing h) = omega arith
left_few (finds_something h r) = omega (arith, left_few r)
left_few (finds_quoted h r) = left_few r
left_few (finds_unquoted h r) = left_few r

-- nor does one that fails
pub rest_few : {limit : ℕ} {p : Phrase} {n : ℕ} {ts : List LocatedToken} {f : Failure} → ReadingFails limit p n ts f → length (rest_of f) ≤ length ts
rest_few (fails_token h) = omega arith
rest_few (fails_opener h) = omega arith
rest_few (fails_deep h d) = omega arith
rest_few (fails_front r) = rest_few r
rest_few (fails_behind r s) = omega (arith, left_few r, rest_few s)
rest_few (fails_first h r) = rest_few r
rest_few (fails_second h r) = rest_few r
rest_few (fails_one h r) = rest_few r
rest_few (fails_more h r s) = omega (arith, left_few r, rest_few s)
rest_few (fails_presence h r) = rest_few r
rest_few (fails_level r) = rest_few r
rest_few (fails_rule r) = rest_few r
rest_few (fails_each_deep h d) = omega arith
rest_few (fails_each h l r) = omega (arith, rest_few r)
rest_few (fails_each_more h l r s) = omega (arith, left_few r, rest_few s)
rest_few (fails_something h r) = omega (arith, rest_few r)
rest_few (fails_quoted h r) = rest_few r
rest_few (fails_unquoted h r) = rest_few r

-- the reading of a phrase whose texts have a token passes one
pub passes : {limit : ℕ} {p : Phrase} {n m : ℕ} {v : PhraseValue p} {ts us : List LocatedToken} → Finds limit p n ts v m us → nullable p ≡ false → length us < length ts
passes (finds_token h) e = omega arith
passes (finds_opener h k) e = omega arith
passes (finds_both {a = a} {b = b} {ts = ts} {us = us} {ws = ws} r s) e = by_first (nullable a) (nullable b) e (passes r) (passes s)
  where
    by_first : (x y : Bool) → cond x y false ≡ false → (x ≡ false → length us < length ts) → (y ≡ false → length ws < length us) → length ws < length ts
    by_first true y h f g = omega (arith, g h, left_few r)
    by_first false y h f g = omega (arith, f refl, left_few s)
passes (finds_first {a = a} {b = b} h r) e = passes r (not_first (nullable a) (nullable b) e)
  where
    not_first : (x y : Bool) → cond x true y ≡ false → x ≡ false
    not_first true y h = absurd (cc h)
    not_first false y h = refl
passes (finds_second {a = a} {b = b} h r) e = passes r (not_second (nullable a) (nullable b) e)
  where
    not_second : (x y : Bool) → cond x true y ≡ false → y ≡ false
    not_second true y h = absurd (cc h)
    not_second false y h = h
passes (finds_none h) e = absurd (cc e)
passes (finds_more h r s) e = absurd (cc e)
passes (finds_absence h) e = absurd (cc e)
passes (finds_presence h r) e = absurd (cc e)
passes (finds_level r) e = passes r e
passes (finds_rule {x = x} r) e = passes r (nullable-production x ∙ e)
passes (finds_no_more h) e = absurd (cc e)
passes (finds_each h l r s) e = absurd (cc e)
passes (finds_nothing h) e = absurd (cc e)
passes (finds_something h r) e = absurd (cc e)
passes (finds_quoted h r) e = passes r refl
passes (finds_unquoted h r) e = passes r e

-- a string is next
abbrev pub at_string : List LocatedToken → Bool
at_string ts = is_at (string ∷ []) ts

-- a string that is next is read as part of the phrase
abbrev pub takes_string : Phrase → Bool
takes_string (token k) = is_one_of (classes_of k) string
takes_string (a ▸ b) = takes_string a
takes_string (either a b) = cond (is_one_of (first a) string) (takes_string a) (takes_string b)
takes_string (many a) = is_one_of (first a) string && takes_string a
takes_string (optional a) = is_one_of (first a) string && takes_string a
takes_string (level a) = takes_string a
takes_string (rule x) = is_one_of (first_of x) string
takes_string (quoted_or a) = takes_string a
takes_string _ = false

takes_string-form : (x : Nonterminal) → takes_string (form x) ≡ takes_string (rule x)
takes_string-form program = refl
takes_string-form decl = refl
takes_string-form con = refl
takes_string-form param = refl
takes_string-form effect = refl
takes_string-form eff = refl
takes_string-form type = refl
takes_string-form result_type = refl
takes_string-form expr = refl
takes_string-form block = refl
takes_string-form stmt = refl
takes_string-form if_ = refl
takes_string-form match_ = refl
takes_string-form row = refl
takes_string-form pat = refl
takes_string-form or = refl
takes_string-form and = refl
takes_string-form cmp = refl
takes_string-form add = refl
takes_string-form mul = refl
takes_string-form un = refl
takes_string-form post = refl
takes_string-form atom = refl
takes_string-form say = refl
takes_string-form args = refl

string_class : (c : Class) → is_one_of (string ∷ []) c ≡ true → c ≡ string
string_class c h = same_class-one c string (one (same_class c string) h)
  where
    one : (b : Bool) → (b || false) ≡ true → b ≡ true
    one true e = refl
    one false e = e

-- where a string is next, it alone decides what is next
is_at-string : (cs : List Class) (ts : List LocatedToken) → at_string ts ≡ true → is_at cs ts ≡ is_one_of cs string
is_at-string cs [] h = absurd (cc h)
is_at-string cs (t ∷ ts) h = ap (is_one_of cs) (string_class (class_of t.token) h)

chosen : (x y z : Bool) → x ≡ true → cond x y z ≡ true → y ≡ true
chosen true y z e h = h
chosen false y z e h = absurd (cc e)

not_chosen : (x y z : Bool) → x ≡ false → cond x y z ≡ true → z ≡ true
not_chosen true y z e h = absurd (cc e)
not_chosen false y z e h = h

-- where a string is next that the phrase takes, the reading passes it
pub passes_string : {limit : ℕ} {p : Phrase} {n m : ℕ} {v : PhraseValue p} {ts us : List LocatedToken} → Finds limit p n ts v m us → at_string ts ≡ true → takes_string p ≡ true → length us < length ts
passes_string (finds_token h) s e = omega arith
passes_string (finds_opener h l) s e = omega arith
passes_string (finds_both q r) s e = omega (arith, passes_string q s e, left_few r)
passes_string (finds_first {a = a} {ts = ts} h r) s e = passes_string r s (chosen _ _ _ (sym (is_at-string (first a) ts s) ∙ h) e)
passes_string (finds_second {a = a} {ts = ts} h r) s e = passes_string r s (not_chosen _ _ _ (sym (is_at-string (first a) ts s) ∙ h) e)
passes_string (finds_none {a = a} {ts = ts} h) s e = absurd (both_ways _ (sym (is_at-string (first a) ts s) ∙ h) (and_parts _ _ e).0)
passes_string (finds_more h q r) s e = omega (arith, passes_string q s (and_parts _ _ e).1, left_few r)
passes_string (finds_absence {a = a} {ts = ts} h) s e = absurd (both_ways _ (sym (is_at-string (first a) ts s) ∙ h) (and_parts _ _ e).0)
passes_string (finds_presence h r) s e = passes_string r s (and_parts _ _ e).1
passes_string (finds_level r) s e = passes_string r s e
passes_string (finds_rule {x = x} r) s e = passes_string r s (takes_string-form x ∙ e)
passes_string (finds_no_more h) s e = absurd (cc e)
passes_string (finds_each h l q r) s e = absurd (cc e)
passes_string (finds_nothing h) s e = absurd (cc e)
passes_string (finds_something h r) s e = absurd (cc e)
passes_string (finds_quoted h r) s e = passes_string r s refl
passes_string (finds_unquoted h r) s e = passes_string r s e

-- and where the reading fails, it fails behind it
pub fails_past_string : {limit : ℕ} {p : Phrase} {n : ℕ} {ts : List LocatedToken} {f : Failure} → ReadingFails limit p n ts f → at_string ts ≡ true → takes_string p ≡ true → length (rest_of f) < length ts
fails_past_string (fails_token {k = k} {ts = ts} h) s e = absurd (both_ways _ (sym (is_at-string (classes_of k) ts s) ∙ h) e)
fails_past_string (fails_opener h) s e = absurd (cc e)
fails_past_string (fails_deep h d) s e = absurd (cc e)
fails_past_string (fails_front r) s e = fails_past_string r s e
fails_past_string (fails_behind q r) s e = omega (arith, passes_string q s e, rest_few r)
fails_past_string (fails_first {a = a} {ts = ts} h r) s e = fails_past_string r s (chosen _ _ _ (sym (is_at-string (first a) ts s) ∙ h) e)
fails_past_string (fails_second {a = a} {ts = ts} h r) s e = fails_past_string r s (not_chosen _ _ _ (sym (is_at-string (first a) ts s) ∙ h) e)
fails_past_string (fails_one h r) s e = fails_past_string r s (and_parts _ _ e).1
fails_past_string (fails_more h q r) s e = omega (arith, passes_string q s (and_parts _ _ e).1, rest_few r)
fails_past_string (fails_presence h r) s e = fails_past_string r s (and_parts _ _ e).1
fails_past_string (fails_level r) s e = fails_past_string r s e
fails_past_string (fails_rule {x = x} r) s e = fails_past_string r s (takes_string-form x ∙ e)
fails_past_string (fails_each_deep h d) s e = absurd (cc e)
fails_past_string (fails_each h l r) s e = absurd (cc e)
fails_past_string (fails_each_more h l q r) s e = absurd (cc e)
fails_past_string (fails_something h r) s e = absurd (cc e)
fails_past_string (fails_quoted h r) s e = fails_past_string r s refl
fails_past_string (fails_unquoted h r) s e = fails_past_string r s e
