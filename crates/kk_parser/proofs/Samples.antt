-- Each phrase of the grammar has a text, so whatever has been read of a phrase can be completed. The text is one that
-- takes no `elif` and no `else` from what follows.
use Rattle.std.proofs.Common.{◌≡◌, ℕ, ◌+◌, pos, Bool, true, false, ◌&&◌, List, [], ◌∷◌, Some, None, refl, inl, inr, codes}
use Rattle.std.proofs.lemmas.Bool.{and_parts, both_ways}
use denote.Enum.Bare.{true_same}
use Rattle.kk_syntax.specs.declared.token.Keyword.TheVariants.{Elif, Else}
use Rattle.kk_syntax.specs.declared.token.LocatedToken.{LocatedToken}
use Rattle.kk_syntax.specs.declared.token.Token.{Token}
use Rattle.kk_syntax.specs.declared.token.Token.TheVariants as OfToken
use Rattle.kk_syntax.specs.contracts.token.Keyword.{the_type as the_keywords}
use Rattle.kk_syntax.specs.contracts.token.Symbol.{the_type as the_symbols}
use Rattle.kk_parser.specs.Classes.{Class, keyword as keyword_class, print, println, main, total, div, exn, console, NameClass, word, type_variable, other, spelling_of, name_class, is_at}
use Rattle.kk_parser.specs.Kinds.{Kind, keyword, symbol, name_in, constructor, wildcard, number, string, Said, says, classes_of}
use Rattle.kk_parser.specs.Phrases.{Nonterminal, program, decl, con, param, effect, eff, type, result_type, expr, block, stmt, if_, match_, row, pat, or, and, cmp, add, mul, un, post, atom, say, args, Phrase, token, opener, ◌▸◌, either, many, optional, level, rule, each, perhaps, quoted_or, PhraseValue}
use Rattle.kk_parser.specs.Forms.{form, form_meaning, form_grammar}
use Rattle.kk_parser.specs.Spells.{Marked, tokens_of, Spells, by_token, by_opener, by_both, by_first, by_second, by_none, by_absence, by_level, by_rule, by_no_more, by_nothing, by_unquoted}
use Rattle.kk_parser.proofs.ClassDisjointness.{is_at-one, same_name_class-self, apart, apart-is_at, within, within-is_at, not_at}

-- the claimed classes: a phrase that can go on with such a token does
abbrev pub claimed : List Class
claimed = keyword_class Elif ∷ keyword_class Else ∷ []

-- none of these is next
abbrev pub Calm : List Marked → Type 0
Calm us = is_at claimed (tokens_of us) ≡ false

-- whether there are tokens of a kind
abbrev has_tokens : Kind → Bool
has_tokens (name_in []) = false
has_tokens _ = true

-- there are tokens of a kind, and none of them is claimed
abbrev pub plain_kind : Kind → Bool
plain_kind k = has_tokens k && apart (classes_of k) claimed

-- the tokens of a phrase are of such kinds, and those with which its parts go on are claimed
abbrev pub plain : Phrase → Bool
plain (token k) = plain_kind k
plain (opener k) = plain_kind k
plain (a ▸ b) = plain a && plain b
plain (either a b) = plain a && plain b
plain (many a) = plain a
plain (optional a) = plain a
plain (level a) = plain a
plain (rule x) = true
plain (each k a) = within (classes_of k) claimed && plain a
plain (perhaps k a) = within (classes_of k) claimed && plain a
plain (quoted_or a) = plain a

pub plain-form : (x : Nonterminal) → plain (form x) ≡ true
plain-form program = refl
plain-form decl = refl
plain-form con = refl
plain-form param = refl
plain-form effect = refl
plain-form eff = refl
plain-form type = refl
plain-form result_type = refl
plain-form expr = refl
plain-form block = refl
plain-form stmt = refl
plain-form if_ = refl
plain-form match_ = refl
plain-form row = refl
plain-form pat = refl
plain-form or = refl
plain-form and = refl
plain-form cmp = refl
plain-form add = refl
plain-form mul = refl
plain-form un = refl
plain-form post = refl
plain-form atom = refl
plain-form say = refl
plain-form args = refl

-- where none of some classes is next, none of fewer classes is
pub none_within : (cs ds : List Class) (ts : List LocatedToken) → within cs ds ≡ true → is_at ds ts ≡ false → is_at cs ts ≡ false
none_within cs ds ts h e = not_at (is_at cs ts) (λ found. both_ways _ e (within-is_at cs ds ts h found))

-- a text of a phrase, before tokens that it does not go on with
pub record Text (p : Phrase) (n : ℕ) : Type 0 where
  pub value : PhraseValue p
  pub levels : ℕ
  pub spelled : (us : List Marked) → Calm us → (ts : List Marked) × Spells form_grammar p n value levels ts us × Calm ts

abbrev pub Sample : Phrase → Type 0
Sample p = (n : ℕ) → Text p n

abbrev located : Token → LocatedToken
located t = record { token = t; span = record { at = 0; line = 1; column = 1 } }

-- a name of a class
abbrev name_of : NameClass → List ℕ
name_of (word w) = spelling_of w
name_of type_variable = codes "a"
name_of other = codes "it"

name_of-class : (c : NameClass) → name_class (name_of c) ≡ c
name_of-class (word print) = refl
name_of-class (word println) = refl
name_of-class (word main) = refl
name_of-class (word total) = refl
name_of-class (word div) = refl
name_of-class (word exn) = refl
name_of-class (word console) = refl
name_of-class type_variable = refl
name_of-class other = refl

-- a token of a kind
record OfKind (k : Kind) : Type 0 where
  the_token : LocatedToken
  the_words : Said k
  is_so : says k the_token ≡ Some the_words

of_kind : (k : Kind) → has_tokens k ≡ true → OfKind k
of_kind (keyword k) h = record { the_token = located (OfToken.Keyword k); the_words = tt; is_so = rw (true_same the_keywords k k refl) refl }
of_kind (symbol s) h = record { the_token = located (OfToken.Symbol s); the_words = tt; is_so = rw (true_same the_symbols s s refl) refl }
of_kind (name_in []) h = absurd (cc h)
of_kind (name_in (c ∷ cs)) h = record { the_token = located (OfToken.Name (name_of c)); the_words = record { name = name_of c; at = 0 }; is_so = rw (name_of-class c, same_name_class-self c) refl }
of_kind constructor h = record { the_token = located (OfToken.Constructor []); the_words = record { name = []; at = 0 }; is_so = refl }
of_kind wildcard h = record { the_token = located OfToken.Wildcard; the_words = tt; is_so = refl }
of_kind number h = record { the_token = located (OfToken.Number (pos 0)); the_words = pos 0; is_so = refl }
of_kind string h = record { the_token = located (OfToken.String []); the_words = []; is_so = refl }

-- a token of a plain kind is none of the claimed ones
pub calm_token : (k : Kind) (t : LocatedToken) (ts : List LocatedToken) (v : Said k) → plain_kind k ≡ true → says k t ≡ Some v → is_at claimed (t ∷ ts) ≡ false
calm_token k t ts v h e = apart-is_at (classes_of k) claimed (t ∷ ts) (and_parts _ _ h).1 (is_at-one k t ts v e)

of_token : (k : Kind) → plain_kind k ≡ true → Sample (token k)
of_token k h n =
    let t = of_kind k (and_parts _ _ h).0 in
    record { value = t.the_words; levels = n; spelled = λ us calm. (record { token = t.the_token; levels = n } ∷ us, by_token t.is_so, calm_token k t.the_token (tokens_of us) t.the_words h t.is_so) }

of_opener : (k : Kind) → plain_kind k ≡ true → Sample (opener k)
of_opener k h n =
    let t = of_kind k (and_parts _ _ h).0 in
    record { value = t.the_words; levels = n + 1; spelled = λ us calm. (record { token = t.the_token; levels = n + 1 } ∷ us, by_opener t.is_so, calm_token k t.the_token (tokens_of us) t.the_words h t.is_so) }

of_both : {a b : Phrase} → Sample a → Sample b → Sample (a ▸ b)
of_both r s n =
    let x = r n in
    let y = s x.levels in
    record {
      value = (x.value, y.value);
      levels = y.levels;
      spelled = λ us calm.
          let behind = y.spelled us calm in
          let front = x.spelled behind.0 behind.2 in
          (front.0, by_both front.1 behind.1, front.2);
    }

of_first : {a b : Phrase} → Sample a → Sample (either a b)
of_first r n =
    let x = r n in
    record { value = inl x.value; levels = x.levels; spelled = λ us calm. let t = x.spelled us calm in (t.0, by_first t.1, t.2) }

of_second : {a b : Phrase} → Sample b → Sample (either a b)
of_second r n =
    let x = r n in
    record { value = inr x.value; levels = x.levels; spelled = λ us calm. let t = x.spelled us calm in (t.0, by_second t.1, t.2) }

of_none : {a : Phrase} → Sample (many a)
of_none n = record { value = []; levels = n; spelled = λ us calm. (us, by_none, calm) }

of_absence : {a : Phrase} → Sample (optional a)
of_absence n = record { value = None; levels = n; spelled = λ us calm. (us, by_absence, calm) }

of_level : {a : Phrase} → Sample a → Sample (level a)
of_level r n =
    let x = r n in
    record { value = x.value; levels = n; spelled = λ us calm. let t = x.spelled us calm in (t.0, by_level t.1, t.2) }

of_rule : {x : Nonterminal} → Sample (form x) → Sample (rule x)
of_rule {x} r n =
    let y = r n in
    record { value = form_meaning x y.value; levels = y.levels; spelled = λ us calm. let t = y.spelled us calm in (t.0, by_rule t.1, t.2) }

of_no_more : (k : Kind) {a : Phrase} → within (classes_of k) claimed ≡ true → Sample (each k a)
of_no_more k h n = record { value = []; levels = n; spelled = λ us calm. (us, by_no_more (none_within (classes_of k) claimed (tokens_of us) h calm), calm) }

of_nothing : (k : Kind) {a : Phrase} → within (classes_of k) claimed ≡ true → Sample (perhaps k a)
of_nothing k h n = record { value = None; levels = n; spelled = λ us calm. (us, by_nothing (none_within (classes_of k) claimed (tokens_of us) h calm), calm) }

of_unquoted : {a : Phrase} → Sample a → Sample (quoted_or a)
of_unquoted r n =
    let x = r n in
    record { value = inr x.value; levels = x.levels; spelled = λ us calm. let t = x.spelled us calm in (t.0, by_unquoted t.1, t.2) }

an_atom : Sample (rule atom)
an_atom = of_rule (of_first (of_token number refl))

a_post : Sample (rule post)
a_post = of_rule (of_both an_atom of_none)

an_un : Sample (rule un)
an_un = of_rule (of_second a_post)

a_mul : Sample (rule mul)
a_mul = of_rule (of_both an_un of_none)

an_add : Sample (rule add)
an_add = of_rule (of_both a_mul of_none)

a_cmp : Sample (rule cmp)
a_cmp = of_rule (of_both an_add of_absence)

an_and : Sample (rule and)
an_and = of_rule (of_both a_cmp of_absence)

an_or : Sample (rule or)
an_or = of_rule (of_both an_and of_absence)

an_expr : Sample (rule expr)
an_expr = of_rule (of_level (of_second (of_second (of_second an_or))))

an_if : Sample (rule if_)
an_if = of_rule (of_both (of_opener _ refl) (of_both an_or (of_both (of_token _ refl) (of_both an_expr (of_both (of_no_more _ refl) (of_nothing _ refl))))))

a_pat : Sample (rule pat)
a_pat = of_rule (of_level (of_first (of_token _ refl)))

a_row : Sample (rule row)
a_row = of_rule (of_both a_pat (of_both (of_token _ refl) an_expr))

a_match : Sample (rule match_)
a_match = of_rule (of_both (of_token _ refl) (of_both an_or (of_both (of_opener _ refl) (of_both (of_both of_none (of_both a_row of_none)) (of_token _ refl)))))

a_stmt : Sample (rule stmt)
a_stmt = of_rule (of_second an_expr)

a_block : Sample (rule block)
a_block = of_rule (of_both (of_opener _ refl) (of_both of_none (of_both (of_both of_none an_expr) (of_both of_none (of_token _ refl)))))

some_args : Sample (rule args)
some_args = of_rule of_absence

a_say : Sample (rule say)
a_say = of_rule (of_first (of_both (of_first (of_token _ refl)) (of_both (of_opener _ refl) (of_both (of_token _ refl) (of_token _ refl)))))

a_type : Sample (rule type)
a_type = of_rule (of_level (of_first (of_token _ refl)))

a_result_type : Sample (rule result_type)
a_result_type = of_rule (of_level (of_first (of_token _ refl)))

an_eff : Sample (rule eff)
an_eff = of_rule (of_first (of_token _ refl))

an_effect : Sample (rule effect)
an_effect = of_rule (of_first an_eff)

a_param : Sample (rule param)
a_param = of_rule (of_both (of_token _ refl) (of_both (of_token _ refl) a_type))

a_decl : Sample (rule decl)
a_decl = of_rule (of_level (of_second (of_both (of_token _ refl) (of_both (of_first (of_both (of_token _ refl) (of_both (of_both (of_opener _ refl) (of_both of_absence (of_token _ refl))) of_absence))) an_expr))))

a_con : Sample (rule con)
a_con = of_rule (of_level (of_both (of_token _ refl) of_absence))

a_program : Sample (rule program)
a_program = of_rule (of_both of_none of_absence)

of_nonterminal : (x : Nonterminal) → Sample (rule x)
of_nonterminal program = a_program
of_nonterminal decl = a_decl
of_nonterminal con = a_con
of_nonterminal param = a_param
of_nonterminal effect = an_effect
of_nonterminal eff = an_eff
of_nonterminal type = a_type
of_nonterminal result_type = a_result_type
of_nonterminal expr = an_expr
of_nonterminal block = a_block
of_nonterminal stmt = a_stmt
of_nonterminal if_ = an_if
of_nonterminal match_ = a_match
of_nonterminal row = a_row
of_nonterminal pat = a_pat
of_nonterminal or = an_or
of_nonterminal and = an_and
of_nonterminal cmp = a_cmp
of_nonterminal add = an_add
of_nonterminal mul = a_mul
of_nonterminal un = an_un
of_nonterminal post = a_post
of_nonterminal atom = an_atom
of_nonterminal say = a_say
of_nonterminal args = some_args

-- a text of each plain phrase, at any number of open levels
pub a_text : (p : Phrase) → plain p ≡ true → (n : ℕ) → Text p n
a_text (token k) h = of_token k h
a_text (opener k) h = of_opener k h
a_text (a ▸ b) h = let q = and_parts _ _ h in of_both (a_text a q.0) (a_text b q.1)
a_text (either a b) h = of_first (a_text a (and_parts _ _ h).0)
a_text (many a) h = of_none
a_text (optional a) h = of_absence
a_text (level a) h = of_level (a_text a h)
a_text (rule x) h = of_nonterminal x
a_text (each k a) h = of_no_more k (and_parts _ _ h).0
a_text (perhaps k a) h = of_nothing k (and_parts _ _ h).0
a_text (quoted_or a) h = of_unquoted (a_text a h)
