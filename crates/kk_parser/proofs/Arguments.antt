-- Arguments in brackets, or none.
use Rattle.std.proofs.Common.{◌≡◌, true, List, [], ◌∷◌, ◌++◌, map, Option, Some, None, refl, ap, sym, ◌∙◌, append_assoc}
use Rattle.std.proofs.lemmas.List.{map-append}
use Rattle.std.specs.Global.{Vec}
use Rattle.kk_syntax.specs.declared.tree.Identifier.{Identifier}
use Rattle.kk_syntax.specs.declared.tree.SurfaceExpr.{SurfaceExpr}
use Rattle.kk_syntax.specs.declared.token.Symbol.TheVariants.{Comma, Dot}
use Rattle.kk_syntax.specs.Surface.{Written, written_expr, variable, call, dot_call, writtens_of}
use Rattle.kk_parser.specs.declared.parser.Parser.{Parser}
use Rattle.kk_parser.specs.Classes.{is_at}
use Rattle.kk_parser.specs.Grammar.{arguments_of, arguments_given, named_of, bracketed, dotted}
use Rattle.kk_parser.specs.Kinds.{symbol, name}
use Rattle.kk_parser.specs.Methods.{Read}
use Rattle.kk_parser.specs.Phrases.{Phrase, PhraseValue, token, opener, optional, many, rule, ◌▸◌, args, expr, post}
use Rattle.kk_parser.specs.Reading.{first as first_classes, finds_both}
use Rattle.kk_parser.specs.Views.{arguments_view}
use Rattle.kk_parser.proofs.Steps.{Continues, continues_as, continues_many}

pub given-some : (v : PhraseValue (optional (bracketed (rule args)))) (es : List Written) → arguments_given v ≡ Some es → arguments_of v ≡ es
given-some None es h = absurd (cc h)
given-some (Some (_, (arguments, _))) es h = cc

pub given-none : (v : PhraseValue (optional (bracketed (rule args)))) → arguments_given v ≡ None → arguments_of v ≡ []
given-none None h = refl
given-none (Some (_, (arguments, _))) h = absurd (cc h)

pub named-some : (name : Identifier) (v : PhraseValue (optional (bracketed (rule args)))) (es : List Written) → arguments_given v ≡ Some es → named_of name v ≡ call name (writtens_of es)
named-some name None es h = absurd (cc h)
named-some name (Some (_, (arguments, _))) es h = cc

pub named-none : (name : Identifier) (v : PhraseValue (optional (bracketed (rule args)))) → arguments_given v ≡ None → named_of name v ≡ variable name
named-none name None h = refl
named-none name (Some (_, (arguments, _))) h = absurd (cc h)

-- the same from what the parser holds
pub given-view-some : (v : PhraseValue (optional (bracketed (rule args)))) (o : Option (Vec SurfaceExpr)) (given : Vec SurfaceExpr) → arguments_given v ≡ arguments_view o → o ≡ Some given → arguments_of v ≡ map written_expr given.items
given-view-some v o given h e = given-some v (map written_expr given.items) (h ∙ ap arguments_view e)

pub given-view-none : (v : PhraseValue (optional (bracketed (rule args)))) (o : Option (Vec SurfaceExpr)) → arguments_given v ≡ arguments_view o → o ≡ None → arguments_of v ≡ []
given-view-none v o h e = given-none v (h ∙ ap arguments_view e)

-- one more dot call
abbrev pub dot : Phrase
dot = opener (symbol Dot) ▸ token name ▸ optional (bracketed (rule args))

pub continues_dot : (first : Written) (called : Identifier) (v : PhraseValue (optional (bracketed (rule args)))) (others : List Written) (made : Written) (start here a b next : Parser) → Continues (rule post) (many dot) (dotted first) start here → is_at (first_classes dot) here.rest.now ≡ true → Read (opener (symbol Dot)) tt here a → Read (token name) called a b → Read (optional (bracketed (rule args))) v b next → arguments_of v ≡ others → made ≡ dot_call first called (writtens_of others) → Continues (rule post) (many dot) (dotted made) start next
continues_dot first called v others made start here a b next c h r s t e d =
    continues_as (rule post) (many dot) (λ vs. dotted first ((tt, (called, v)) ∷ vs)) (dotted made) start next
    (λ vs. ap (λ f. dotted f vs) (ap (λ es. dot_call first called (writtens_of es)) e ∙ sym d))
    (continues_many (rule post) dot (dotted first) (tt, (called, v)) start here next c h (finds_both r (finds_both s t)))

-- what stands behind the first argument
abbrev pub more_args : Phrase
more_args = many (token (symbol Comma) ▸ rule expr)

-- one more expression behind others
pub one_more : (before after : List SurfaceExpr) (e : SurfaceExpr) (behind : List Written) → after ≡ before ++ e ∷ [] → map written_expr before ++ (written_expr e ∷ behind) ≡ map written_expr after ++ behind
one_more before after e behind is =
    sym (ap (λ es. map written_expr es ++ behind) is ∙ ap (λ es. es ++ behind) (map-append written_expr before (e ∷ [])) ∙ append_assoc (map written_expr before) (written_expr e ∷ []) behind)
