-- The grammar of programs and its form for reading spell the same.
use Rattle.std.proofs.Common.{◌≡◌, ℕ, List, ◌∷◌, Some, None, refl, ap, sym, ◌∙◌, subst, inl, inr}
use Rattle.kk_syntax.specs.Surface.{type_declaration, match, rows_of}
use Rattle.kk_parser.specs.Phrases.{Nonterminal, program, decl, con, param, effect, eff, type, result_type, expr, block, stmt, if_, match_, row, pat, or, and, cmp, add, mul, un, post, atom, say, args, Meant, Phrase, rule, PhraseValue}
use Rattle.kk_parser.specs.Grammar.{production, meaning, type_parameters_of, program_grammar}
use Rattle.kk_parser.specs.Forms.{form, form_meaning, form_grammar, pattern_of, items, block_from}
use Rattle.kk_parser.specs.Spells.{Marked, Spells, by_token, by_opener, by_both, by_first, by_second, by_none, by_more, by_absence, by_presence, by_level, by_rule, by_no_more, by_each, by_nothing, by_something, by_quoted, by_unquoted}
use Rattle.kk_parser.proofs.Semicolons.{loose, grouped, gathered, scattered}
use Rattle.kk_parser.proofs.Atoms.{none_inside, one_inside, atom_formed, atom_unformed}

-- a text of a right side in the form for reading that means so
record Formed (x : Nonterminal) (n : ℕ) (t : Meant x) (m : ℕ) (ts us : List Marked) : Type 0 where
  pub value : PhraseValue (form x)
  pub same : form_meaning x value ≡ t
  pub spells : Spells form_grammar (form x) n value m ts us

-- the same in the grammar of programs
record Unformed (x : Nonterminal) (n : ℕ) (t : Meant x) (m : ℕ) (ts us : List Marked) : Type 0 where
  pub value : PhraseValue (production x)
  pub same : meaning x value ≡ t
  pub spells : Spells program_grammar (production x) n value m ts us

program_formed : {n m : ℕ} {v : PhraseValue (production program)} {ts us : List Marked} → Spells form_grammar (production program) n v m ts us → Formed program n (meaning program v) m ts us
program_formed (by_both {u = s} r by_absence) = record { value = (s, None); same = refl; spells = by_both r by_absence }
program_formed (by_both {u = s} r (by_presence (by_both {u = first} d (by_both rs e)))) =
    let l = loose form_grammar (rule decl) rs e in
    record { value = (s, Some (first, l.more)); same = ap (λ ds. first ∷ ds) l.same; spells = by_both r (by_presence (by_both d l.spells)) }

program_unformed : {n m : ℕ} {v : PhraseValue (form program)} {ts us : List Marked} → Spells program_grammar (form program) n v m ts us → Unformed program n (form_meaning program v) m ts us
program_unformed (by_both {u = s} r by_absence) = record { value = (s, None); same = refl; spells = by_both r by_absence }
program_unformed (by_both {u = s} r (by_presence (by_both {u = first} d rs))) =
    let g = grouped program_grammar (rule decl) rs in
    record { value = (s, Some (first, (g.groups, g.last))); same = ap (λ ds. first ∷ ds) g.same; spells = by_both r (by_presence (by_both d (by_both g.spells g.ends))) }

decl_formed : {n m : ℕ} {v : PhraseValue (production decl)} {ts us : List Marked} → Spells form_grammar (production decl) n v m ts us → Formed decl n (meaning decl v) m ts us
decl_formed (by_level (by_first (by_both {u = k} t (by_both {u = name} n (by_both {u = given} g (by_both {u = b} o (by_both {u = s} r (by_both {u = first} d (by_both rs (by_both {v = v} e c)))))))))) =
    let l = loose form_grammar (rule con) rs e in
    record {
      value = inl (k, (name, (given, (b, ((s, (first, l.more)), v)))));
      same = ap (λ cs. type_declaration name (type_parameters_of given) (first ∷ cs)) l.same;
      spells = by_level (by_first (by_both t (by_both n (by_both g (by_both o (by_both (by_both r (by_both d l.spells)) c))))));
    }
decl_formed (by_level (by_second {v = (k, (head, body))} r)) = record { value = inr (k, (head, body)); same = refl; spells = by_level (by_second r) }

decl_unformed : {n m : ℕ} {v : PhraseValue (form decl)} {ts us : List Marked} → Spells program_grammar (form decl) n v m ts us → Unformed decl n (form_meaning decl v) m ts us
decl_unformed (by_level (by_first (by_both {u = k} t (by_both {u = name} n (by_both {u = given} g (by_both {u = b} o (by_both (by_both {u = s} r (by_both {u = first} d rs)) (by_token {v = v} c)))))))) =
    let l = grouped program_grammar (rule con) rs in
    record {
      value = inl (k, (name, (given, (b, (s, (first, (l.groups, (l.last, v))))))));
      same = ap (λ cs. type_declaration name (type_parameters_of given) (first ∷ cs)) l.same;
      spells = by_level (by_first (by_both t (by_both n (by_both g (by_both o (by_both r (by_both d (by_both l.spells (by_both l.ends (by_token c))))))))));
    }
decl_unformed (by_level (by_second {v = (k, (head, body))} r)) = record { value = inr (k, (head, body)); same = refl; spells = by_level (by_second r) }

type_formed : {n m : ℕ} {v : PhraseValue (production type)} {ts us : List Marked} → Spells form_grammar (production type) n v m ts us → Formed type n (meaning type v) m ts us
type_formed (by_level (by_first {v = name} r)) = record { value = inl name; same = refl; spells = by_level (by_first r) }
type_formed (by_level (by_second (by_first {v = (name, arguments)} r))) = record { value = inr (inl (name, arguments)); same = refl; spells = by_level (by_second (by_first r)) }
type_formed (by_level (by_second (by_second (by_first {v = v} r)))) = record { value = inr (inr (v.0, inl v.1)); same = refl; spells = by_level (by_second (by_second (none_inside form_grammar r))) }
type_formed (by_level (by_second (by_second (by_second {v = v} r)))) = record { value = inr (inr (v.0, inr v.1)); same = refl; spells = by_level (by_second (by_second (one_inside form_grammar r))) }

type_unformed : {n m : ℕ} {v : PhraseValue (form type)} {ts us : List Marked} → Spells program_grammar (form type) n v m ts us → Unformed type n (form_meaning type v) m ts us
type_unformed (by_level (by_first {v = name} r)) = record { value = inl name; same = refl; spells = by_level (by_first r) }
type_unformed (by_level (by_second (by_first {v = (name, arguments)} r))) = record { value = inr (inl (name, arguments)); same = refl; spells = by_level (by_second (by_first r)) }
type_unformed (by_level (by_second (by_second (by_both {u = b} o (by_first {v = v} r))))) = record { value = inr (inr (inl (b, v))); same = refl; spells = by_level (by_second (by_second (by_first (by_both o r)))) }
type_unformed (by_level (by_second (by_second (by_both {u = b} o (by_second {v = v} r))))) = record { value = inr (inr (inr (b, v))); same = refl; spells = by_level (by_second (by_second (by_second (by_both o r)))) }

result_type_formed : {n m : ℕ} {v : PhraseValue (production result_type)} {ts us : List Marked} → Spells form_grammar (production result_type) n v m ts us → Formed result_type n (meaning result_type v) m ts us
result_type_formed (by_level (by_first {v = name} r)) = record { value = inl name; same = refl; spells = by_level (by_first r) }
result_type_formed (by_level (by_second (by_first {v = (name, arguments)} r))) = record { value = inr (inl (name, arguments)); same = refl; spells = by_level (by_second (by_first r)) }
result_type_formed (by_level (by_second (by_second (by_first {v = v} r)))) = record { value = inr (inr (v.0, inl v.1)); same = refl; spells = by_level (by_second (by_second (none_inside form_grammar r))) }
result_type_formed (by_level (by_second (by_second (by_second {v = v} r)))) = record { value = inr (inr (v.0, inr v.1)); same = refl; spells = by_level (by_second (by_second (one_inside form_grammar r))) }

result_type_unformed : {n m : ℕ} {v : PhraseValue (form result_type)} {ts us : List Marked} → Spells program_grammar (form result_type) n v m ts us → Unformed result_type n (form_meaning result_type v) m ts us
result_type_unformed (by_level (by_first {v = name} r)) = record { value = inl name; same = refl; spells = by_level (by_first r) }
result_type_unformed (by_level (by_second (by_first {v = (name, arguments)} r))) = record { value = inr (inl (name, arguments)); same = refl; spells = by_level (by_second (by_first r)) }
result_type_unformed (by_level (by_second (by_second (by_both {u = b} o (by_first {v = v} r))))) = record { value = inr (inr (inl (b, v))); same = refl; spells = by_level (by_second (by_second (by_first (by_both o r)))) }
result_type_unformed (by_level (by_second (by_second (by_both {u = b} o (by_second {v = v} r))))) = record { value = inr (inr (inr (b, v))); same = refl; spells = by_level (by_second (by_second (by_second (by_both o r)))) }

block_formed : {n m : ℕ} {v : PhraseValue (production block)} {ts us : List Marked} → Spells form_grammar (production block) n v m ts us → Formed block n (meaning block v) m ts us
block_formed (by_both {u = b} o (by_both {u = s} r (by_both rs (by_both e (by_both {v = v} g c))))) =
    let i = gathered rs e in
    let l = loose form_grammar items i.ends g in
    record {
      value = (b, (s, (i.first, (l.more, v))));
      same = ap (λ more. block_from i.first more) l.same ∙ i.same;
      spells = by_both o (by_both r (by_both i.spells (by_both l.spells c)));
    }

block_unformed : {n m : ℕ} {v : PhraseValue (form block)} {ts us : List Marked} → Spells program_grammar (form block) n v m ts us → Unformed block n (form_meaning block v) m ts us
block_unformed (by_both {u = b} o (by_both {u = s} r (by_both {u = first} i (by_both {v = v} rs c)))) =
    let g = grouped program_grammar items rs in
    let l = scattered i g.spells in
    record {
      value = (b, (s, (l.statements, (l.value, (g.last, v)))));
      same = l.same ∙ ap (λ more. block_from first more) g.same;
      spells = by_both o (by_both r (by_both l.spells (by_both l.ends (by_both g.ends c))));
    }

match_formed : {n m : ℕ} {v : PhraseValue (production match_)} {ts us : List Marked} → Spells form_grammar (production match_) n v m ts us → Formed match_ n (meaning match_ v) m ts us
match_formed (by_both {u = k} t (by_both {u = scrutinee} q (by_both {u = b} o (by_both {u = s} r (by_both {u = first} d (by_both rs (by_both {v = v} e c))))))) =
    let l = loose form_grammar (rule row) rs e in
    record {
      value = (k, (scrutinee, (b, ((s, (first, l.more)), v))));
      same = ap (λ rows. match scrutinee (rows_of (first ∷ rows))) l.same;
      spells = by_both t (by_both q (by_both o (by_both (by_both r (by_both d l.spells)) c)));
    }

match_unformed : {n m : ℕ} {v : PhraseValue (form match_)} {ts us : List Marked} → Spells program_grammar (form match_) n v m ts us → Unformed match_ n (form_meaning match_ v) m ts us
match_unformed (by_both {u = k} t (by_both {u = scrutinee} q (by_both {u = b} o (by_both (by_both {u = s} r (by_both {u = first} d rs)) (by_token {v = v} c))))) =
    let l = grouped program_grammar (rule row) rs in
    record {
      value = (k, (scrutinee, (b, (s, (first, (l.groups, (l.last, v)))))));
      same = ap (λ rows. match scrutinee (rows_of (first ∷ rows))) l.same;
      spells = by_both t (by_both q (by_both o (by_both r (by_both d (by_both l.spells (by_both l.ends (by_token c)))))));
    }

pattern_same : (v : PhraseValue (production pat)) → pattern_of v ≡ meaning pat v
pattern_same (inl _) = refl
pattern_same (inr (inl name)) = refl
pattern_same (inr (inr (inl value))) = refl
pattern_same (inr (inr (inr (inl (name, given))))) = refl
pattern_same (inr (inr (inr (inr (_, (pattern, _)))))) = refl

to_form : (x : Nonterminal) {n m : ℕ} {v : PhraseValue (production x)} {ts us : List Marked} → Spells form_grammar (production x) n v m ts us → Formed x n (meaning x v) m ts us
to_form program r = program_formed r
to_form type r = type_formed r
to_form result_type r = result_type_formed r
to_form block r = block_formed r
to_form atom r = let f = atom_formed r in record { value = f.value; same = f.same; spells = f.spells }
to_form decl r = decl_formed r
to_form con {v = v} r = record { value = v; same = refl; spells = r }
to_form param {v = v} r = record { value = v; same = refl; spells = r }
to_form effect {v = v} r = record { value = v; same = refl; spells = r }
to_form eff {v = v} r = record { value = v; same = refl; spells = r }
to_form expr {v = v} r = record { value = v; same = refl; spells = r }
to_form stmt {v = v} r = record { value = v; same = refl; spells = r }
to_form if_ {v = v} r = record { value = v; same = refl; spells = r }
to_form match_ r = match_formed r
to_form row {v = v} r = record { value = v; same = refl; spells = r }
to_form pat {v = v} r = record { value = v; same = pattern_same v; spells = r }
to_form or {v = v} r = record { value = v; same = refl; spells = r }
to_form and {v = v} r = record { value = v; same = refl; spells = r }
to_form cmp {v = v} r = record { value = v; same = refl; spells = r }
to_form add {v = v} r = record { value = v; same = refl; spells = r }
to_form mul {v = v} r = record { value = v; same = refl; spells = r }
to_form un {v = v} r = record { value = v; same = refl; spells = r }
to_form post {v = v} r = record { value = v; same = refl; spells = r }
to_form say {v = v} r = record { value = v; same = refl; spells = r }
to_form args {v = v} r = record { value = v; same = refl; spells = r }

from_form : (x : Nonterminal) {n m : ℕ} {v : PhraseValue (form x)} {ts us : List Marked} → Spells program_grammar (form x) n v m ts us → Unformed x n (form_meaning x v) m ts us
from_form program r = program_unformed r
from_form type r = type_unformed r
from_form result_type r = result_type_unformed r
from_form block r = block_unformed r
from_form atom r = let f = atom_unformed r in record { value = f.value; same = f.same; spells = f.spells }
from_form decl r = decl_unformed r
from_form con {v = v} r = record { value = v; same = refl; spells = r }
from_form param {v = v} r = record { value = v; same = refl; spells = r }
from_form effect {v = v} r = record { value = v; same = refl; spells = r }
from_form eff {v = v} r = record { value = v; same = refl; spells = r }
from_form expr {v = v} r = record { value = v; same = refl; spells = r }
from_form stmt {v = v} r = record { value = v; same = refl; spells = r }
from_form if_ {v = v} r = record { value = v; same = refl; spells = r }
from_form match_ r = match_unformed r
from_form row {v = v} r = record { value = v; same = refl; spells = r }
from_form pat {v = v} r = record { value = v; same = sym (pattern_same v); spells = r }
from_form or {v = v} r = record { value = v; same = refl; spells = r }
from_form and {v = v} r = record { value = v; same = refl; spells = r }
from_form cmp {v = v} r = record { value = v; same = refl; spells = r }
from_form add {v = v} r = record { value = v; same = refl; spells = r }
from_form mul {v = v} r = record { value = v; same = refl; spells = r }
from_form un {v = v} r = record { value = v; same = refl; spells = r }
from_form post {v = v} r = record { value = v; same = refl; spells = r }
from_form say {v = v} r = record { value = v; same = refl; spells = r }
from_form args {v = v} r = record { value = v; same = refl; spells = r }

by_form : {x : Nonterminal} {n m : ℕ} {t : Meant x} {ts us : List Marked} → Formed x n t m ts us → Spells form_grammar (rule x) n t m ts us
by_form {x} {n} {m} {t} {ts} {us} f = subst (λ w. Spells form_grammar (rule x) n w m ts us) f.same (by_rule f.spells)

by_production : {x : Nonterminal} {n m : ℕ} {t : Meant x} {ts us : List Marked} → Unformed x n t m ts us → Spells program_grammar (rule x) n t m ts us
by_production {x} {n} {m} {t} {ts} {us} f = subst (λ w. Spells program_grammar (rule x) n w m ts us) f.same (by_rule f.spells)

-- what the grammar of programs spells is spelled in the form for reading
pub formed : {p : Phrase} {n m : ℕ} {v : PhraseValue p} {ts us : List Marked} → Spells program_grammar p n v m ts us → Spells form_grammar p n v m ts us
formed (by_token h) = by_token h
formed (by_opener h) = by_opener h
formed (by_both r s) = by_both (formed r) (formed s)
formed (by_first r) = by_first (formed r)
formed (by_second r) = by_second (formed r)
formed by_none = by_none
formed (by_more r s) = by_more (formed r) (formed s)
formed by_absence = by_absence
formed (by_presence r) = by_presence (formed r)
formed (by_level r) = by_level (formed r)
formed (by_no_more h) = by_no_more h
formed (by_each h r s) = by_each h (formed r) (formed s)
formed (by_nothing h) = by_nothing h
formed (by_something h r) = by_something h (formed r)
formed (by_quoted r) = by_quoted (formed r)
formed (by_unquoted r) = by_unquoted (formed r)
formed (by_rule {x = x} r) = by_form (to_form x (formed r))

-- and back
pub unformed : {p : Phrase} {n m : ℕ} {v : PhraseValue p} {ts us : List Marked} → Spells form_grammar p n v m ts us → Spells program_grammar p n v m ts us
unformed (by_token h) = by_token h
unformed (by_opener h) = by_opener h
unformed (by_both r s) = by_both (unformed r) (unformed s)
unformed (by_first r) = by_first (unformed r)
unformed (by_second r) = by_second (unformed r)
unformed by_none = by_none
unformed (by_more r s) = by_more (unformed r) (unformed s)
unformed by_absence = by_absence
unformed (by_presence r) = by_presence (unformed r)
unformed (by_level r) = by_level (unformed r)
unformed (by_no_more h) = by_no_more h
unformed (by_each h r s) = by_each h (unformed r) (unformed s)
unformed (by_nothing h) = by_nothing h
unformed (by_something h r) = by_something h (unformed r)
unformed (by_quoted r) = by_quoted (unformed r)
unformed (by_unquoted r) = by_unquoted (unformed r)
unformed (by_rule {x = x} r) = by_production (from_form x (unformed r))
