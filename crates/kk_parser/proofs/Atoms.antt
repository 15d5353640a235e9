-- The atoms, in the two forms in which the grammars have them.
use Rattle.std.proofs.Common.{◌≡◌, ℕ, Bool, true, false, cond, ◌⊎◌, List, [], ◌∷◌, Option, Some, None, refl, ◌∙◌, inl, inr}
use Rattle.kk_syntax.specs.declared.token.LocatedToken.{LocatedToken}
use Rattle.kk_syntax.specs.declared.token.Token.{Token}
use Rattle.kk_syntax.specs.declared.token.Token.TheVariants as OfToken
use Rattle.kk_syntax.specs.declared.token.Symbol.TheVariants.{CloseParenthesis}
use Rattle.kk_syntax.specs.declared.tree.Identifier.{Identifier}
use Rattle.kk_syntax.specs.Surface.{Written, print_text}
use Rattle.kk_parser.specs.Classes.{NameClass, word, type_variable, other, name_class, print, println, main, total, div, exn, console}
use Rattle.kk_parser.specs.Kinds.{symbol, name_in, name, said_at, says, is_name_in}
use Rattle.kk_parser.specs.Phrases.{Grammar, Phrase, token, ◌▸◌, optional, quoted_or, rule, args, atom, say, PhraseValue}
use Rattle.kk_parser.specs.Grammar.{bracket, bracketed, no_arguments, print_word, print_form, named_of, production, meaning, program_grammar}
use Rattle.kk_parser.specs.Forms.{form, form_meaning, form_grammar, in_brackets, print_identifier, printed, printed_of}
use Rattle.kk_parser.specs.Spells.{Marked, Spells, by_token, by_both, by_first, by_second, by_absence, by_presence, by_rule, by_quoted, by_unquoted}

-- what a name says where its class is one of some
abbrev named : List NameClass → NameClass → Identifier → Option Identifier
named classes c said = cond (is_name_in classes c) (Some said) None

abbrev print_alone : List NameClass
print_alone = word print ∷ []

abbrev println_alone : List NameClass
println_alone = word println ∷ []

abbrev but_print : List NameClass
but_print = word main ∷ word total ∷ word div ∷ word exn ∷ word console ∷ type_variable ∷ other ∷ []

abbrev all_names : List NameClass
all_names = word print ∷ word println ∷ but_print

-- a name is that of a print, or another
abbrev Told : (List NameClass → Type 0) → Type 0
Told P = P print_alone ⊎ (P println_alone ⊎ P but_print)

class_told : (c : NameClass) (said v : Identifier) → named all_names c said ≡ Some v → Told (λ classes. named classes c said ≡ Some v)
class_told (word print) said v e = inl e
class_told (word println) said v e = inr (inl e)
class_told (word main) said v e = inr (inr e)
class_told (word total) said v e = inr (inr e)
class_told (word div) said v e = inr (inr e)
class_told (word exn) said v e = inr (inr e)
class_told (word console) said v e = inr (inr e)
class_told type_variable said v e = inr (inr e)
class_told other said v e = inr (inr e)

class_all : (c : NameClass) (said : Identifier) → named all_names c said ≡ Some said
class_all (word print) said = refl
class_all (word println) said = refl
class_all (word main) said = refl
class_all (word total) said = refl
class_all (word div) said = refl
class_all (word exn) said = refl
class_all (word console) said = refl
class_all type_variable said = refl
class_all other said = refl

said_so : (b : Bool) (said v : Identifier) → cond b (Some said) None ≡ Some v → Some said ≡ Some v
said_so true said v e = e
said_so false said v e = absurd (cc e)

name_told : (t : LocatedToken) (v : Identifier) → says name t ≡ Some v → Told (λ classes. says (name_in classes) t ≡ Some v)
name_told t v e = told t.token e
  where
    told : (token : Token) → said_at name token t.span.at ≡ Some v → Told (λ classes. said_at (name_in classes) token t.span.at ≡ Some v)
    told (OfToken.Name spelling) e = class_told (name_class spelling) (record { name = spelling; at = t.span.at }) v e
    told _ e = absurd (cc e)

-- a name of some classes is a name
any_name : (classes : List NameClass) (t : LocatedToken) (v : Identifier) → says (name_in classes) t ≡ Some v → says name t ≡ Some v
any_name classes t v e = told t.token e
  where
    told : (token : Token) → said_at (name_in classes) token t.span.at ≡ Some v → said_at name token t.span.at ≡ Some v
    told (OfToken.Name spelling) e =
        let said : Identifier = record { name = spelling; at = t.span.at } in
        class_all (name_class spelling) said ∙ said_so (is_name_in classes (name_class spelling)) said v e
    told _ e = absurd (cc e)

-- "(" ")" and a phrase in round brackets, with what they begin with before the choice
module _ (grammar : Grammar) where
  pub none_inside : {a : Phrase} {n m : ℕ} {v : PhraseValue no_arguments} {ts us : List Marked} → Spells grammar no_arguments n v m ts us → Spells grammar (in_brackets a) n (v.0, inl v.1) m ts us
  none_inside (by_both o c) = by_both o (by_first c)

  pub one_inside : {a : Phrase} {n m : ℕ} {v : PhraseValue (bracketed a)} {ts us : List Marked} → Spells grammar (bracketed a) n v m ts us → Spells grammar (in_brackets a) n (v.0, inr v.1) m ts us
  one_inside (by_both o r) = by_both o (by_second r)

-- arguments behind the name of a print
abbrev unquoted : PhraseValue (optional (bracketed (rule args))) → PhraseValue (optional (bracket ▸ quoted_or (rule args ▸ token (symbol CloseParenthesis))))
unquoted None = None
unquoted (Some (b, r)) = Some (b, inr r)

printed_named : (which : PhraseValue print_word) (a : PhraseValue (optional (bracketed (rule args)))) → printed_of (which, unquoted a) ≡ named_of (print_identifier which) a
printed_named which None = refl
printed_named which (Some a) = refl

-- a text of an atom by the form grammar that means a term
pub record Formed (n : ℕ) (t : Written) (m : ℕ) (ts us : List Marked) : Type 0 where
  pub value : PhraseValue (form atom)
  pub same : form_meaning atom value ≡ t
  pub spells : Spells form_grammar (form atom) n value m ts us

print_formed : {n k m : ℕ} {which : PhraseValue print_word} {a : PhraseValue (optional (bracketed (rule args)))} {ts us ws : List Marked}
    → Spells form_grammar print_word n which k ts us → Spells form_grammar (optional (bracketed (rule args))) k a m us ws → Formed n (named_of (print_identifier which) a) m ts ws
print_formed {which = which} {a = a} w r = record {
  value = inr (inr (inr (inr (inl (which, unquoted a)))));
  same = printed_named which a;
  spells = by_second (by_second (by_second (by_second (by_first (by_both w (behind r))))));
}
  where
    behind : {n m : ℕ} {a : PhraseValue (optional (bracketed (rule args)))} {ts us : List Marked} → Spells form_grammar (optional (bracketed (rule args))) n a m ts us → Spells form_grammar (optional (bracket ▸ quoted_or (rule args ▸ token (symbol CloseParenthesis)))) n (unquoted a) m ts us
    behind by_absence = by_absence
    behind (by_presence (by_both o r)) = by_presence (by_both o (by_unquoted r))

name_formed : {n k m : ℕ} {said : Identifier} {a : PhraseValue (optional (bracketed (rule args)))} {ts us ws : List Marked}
    → Spells form_grammar (token name) n said k ts us → Spells form_grammar (optional (bracketed (rule args))) k a m us ws → Formed n (named_of said a) m ts ws
name_formed {a = a} (by_token {t = t} {v = said} h) r = elim (name_told t said h) [
  | inl e ↦ print_formed {which = inl said} (by_first (by_token e)) r
  | inr (inl e) ↦ print_formed {which = inr said} (by_second (by_token e)) r
  | inr (inr e) ↦ record { value = inr (inr (inr (inr (inr (said, a))))); same = refl; spells = by_second (by_second (by_second (by_second (by_second (by_both (by_token e) r))))) }
]

say_formed : {n m : ℕ} {t : Written} {ts us : List Marked} → Spells form_grammar (rule say) n t m ts us → Formed n t m ts us
say_formed (by_rule (by_first {v = (which, (b, said))} (by_both w (by_both o q)))) = record {
  value = inr (inr (inr (inr (inl (which, Some (b, inl said.0))))));
  same = refl;
  spells = by_second (by_second (by_second (by_second (by_first (by_both w (by_presence (by_both o (by_quoted q))))))));
}
say_formed (by_rule (by_second {v = v} r)) = record { value = inr (inr (inr (inl v))); same = refl; spells = by_second (by_second (by_second (by_first r))) }

pub atom_formed : {n m : ℕ} {v : PhraseValue (production atom)} {ts us : List Marked} → Spells form_grammar (production atom) n v m ts us → Formed n (meaning atom v) m ts us
atom_formed (by_first (by_both w r)) = name_formed w r
atom_formed (by_second (by_first {v = (name, arguments)} r)) = record { value = inr (inl (name, arguments)); same = refl; spells = by_second (by_first r) }
atom_formed (by_second (by_second (by_first {v = v} r))) = record { value = inl v; same = refl; spells = by_first r }
atom_formed (by_second (by_second (by_second (by_first {v = v} r)))) = record { value = inr (inr (inl (v.0, inl v.1))); same = refl; spells = by_second (by_second (by_first (none_inside form_grammar r))) }
atom_formed (by_second (by_second (by_second (by_second (by_first {v = v} r))))) = record { value = inr (inr (inl (v.0, inr v.1))); same = refl; spells = by_second (by_second (by_first (one_inside form_grammar r))) }
atom_formed (by_second (by_second (by_second (by_second (by_second r))))) = say_formed r

-- a text of an atom by the grammar of programs that means a term
pub record Unformed (n : ℕ) (t : Written) (m : ℕ) (ts us : List Marked) : Type 0 where
  pub value : PhraseValue (production atom)
  pub same : meaning atom value ≡ t
  pub spells : Spells program_grammar (production atom) n value m ts us

print_name : {n m : ℕ} {which : PhraseValue print_word} {ts us : List Marked} → Spells program_grammar print_word n which m ts us → Spells program_grammar (token name) n (print_identifier which) m ts us
print_name (by_first (by_token {t = t} {v = v} e)) = by_token (any_name print_alone t v e)
print_name (by_second (by_token {t = t} {v = v} e)) = by_token (any_name println_alone t v e)

name_unformed : {n k m : ℕ} {said : Identifier} {a : PhraseValue (optional (bracketed (rule args)))} {ts us ws : List Marked}
    → Spells program_grammar (token name) n said k ts us → Spells program_grammar (optional (bracketed (rule args))) k a m us ws → Unformed n (named_of said a) m ts ws
name_unformed {said = said} {a = a} w r = record { value = inl (said, a); same = refl; spells = by_first (by_both w r) }

printed_unformed : {n m : ℕ} {v : PhraseValue printed} {ts us : List Marked} → Spells program_grammar printed n v m ts us → Unformed n (printed_of v) m ts us
printed_unformed (by_both w by_absence) = name_unformed (print_name w) by_absence
printed_unformed (by_both w (by_presence (by_both o (by_unquoted r)))) = name_unformed (print_name w) (by_presence (by_both o r))
printed_unformed (by_both {u = which} w (by_presence (by_both o (by_quoted {v = text} q)))) = record {
  value = inr (inr (inr (inr (inr (print_text (print_form which) text)))));
  same = refl;
  spells = by_second (by_second (by_second (by_second (by_second (by_rule (by_first (by_both w (by_both o q))))))));
}

pub atom_unformed : {n m : ℕ} {v : PhraseValue (form atom)} {ts us : List Marked} → Spells program_grammar (form atom) n v m ts us → Unformed n (form_meaning atom v) m ts us
atom_unformed (by_first {v = v} r) = record { value = inr (inr (inl v)); same = refl; spells = by_second (by_second (by_first r)) }
atom_unformed (by_second (by_first {v = (name, arguments)} r)) = record { value = inr (inl (name, arguments)); same = refl; spells = by_second (by_first r) }
atom_unformed (by_second (by_second (by_first (by_both {u = b} o (by_first {v = c} r))))) = record { value = inr (inr (inr (inl (b, c)))); same = refl; spells = by_second (by_second (by_second (by_first (by_both o r)))) }
atom_unformed (by_second (by_second (by_first (by_both {u = b} o (by_second {v = v} r))))) = record { value = inr (inr (inr (inr (inl (b, v))))); same = refl; spells = by_second (by_second (by_second (by_second (by_first (by_both o r))))) }
atom_unformed (by_second (by_second (by_second (by_first {v = (text, (dot, (which, e)))} r)))) = record {
  value = inr (inr (inr (inr (inr (print_text (print_form which) text)))));
  same = refl;
  spells = by_second (by_second (by_second (by_second (by_second (by_rule (by_second r))))));
}
atom_unformed (by_second (by_second (by_second (by_second (by_first r))))) = printed_unformed r
atom_unformed (by_second (by_second (by_second (by_second (by_second (by_both (by_token {t = t} {v = v} e) r)))))) = name_unformed (by_token (any_name but_print t v e)) r
