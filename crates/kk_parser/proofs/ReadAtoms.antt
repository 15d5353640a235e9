-- How an atom is read that is no number.
use Rattle.std.proofs.Common.{◌≡◌, false, refl, inl, inr}
use Rattle.kk_parser.specs.declared.parser.Parser.{Parser}
use Rattle.kk_parser.specs.Classes.{is_at}
use Rattle.kk_parser.specs.Forms.{form_meaning, in_brackets, spoken, spoken_of, printed}
use Rattle.kk_syntax.specs.Surface.{construct, writtens_of}
use Rattle.kk_parser.specs.Grammar.{arguments_of, named_of, bracketed}
use Rattle.kk_parser.specs.Kinds.{constructor, number, name_but_print}
use Rattle.kk_parser.specs.Phrases.{Phrase, PhraseValue, token, either, optional, rule, ◌▸◌, expr, atom, args}
use Rattle.kk_parser.specs.Reading.{first}
use Rattle.kk_parser.proofs.Steps.{Continues, continues_to, continues_rule, first_absent}

abbrev pub brackets : Phrase
brackets = in_brackets (rule expr)

abbrev pub construction : Phrase
construction = token constructor ▸ optional (bracketed (rule args))

abbrev pub other_name : Phrase
other_name = token name_but_print ▸ optional (bracketed (rule args))

-- an atom that is no number, no constructor and in no brackets
abbrev pub other_atom : Phrase
other_atom = either spoken (either printed other_name)

pub atom_but_number : (start here : Parser) → is_at (first (token number)) start.rest.now ≡ false → here.depth ≡ start.depth → here.rest.now ≡ start.rest.now → Continues (rule atom) (either construction (either brackets other_atom)) (λ v. form_meaning atom (inr v)) start here
atom_but_number start here h d e =
    continues_to (rule atom) (either construction (either brackets other_atom)) (λ v. form_meaning atom (inr v)) start start here d e (first_absent (continues_rule atom start) h)

pub construction-means : (v : PhraseValue construction) → form_meaning atom (inr (inl v)) ≡ construct v.0 (writtens_of (arguments_of v.1))
construction-means (name, arguments) = refl

pub spoken-means : (v : PhraseValue spoken) → form_meaning atom (inr (inr (inr (inl v)))) ≡ spoken_of v
spoken-means (text, (dot, (word, end))) = refl

pub named-means : (v : PhraseValue other_name) → form_meaning atom (inr (inr (inr (inr (inr v))))) ≡ named_of v.0 v.1
named-means (name, arguments) = refl
