-- The declarations that are made.
use Rattle.std.proofs.Common.{◌≡◌, Some, None, Result, Ok, Err, refl, ap, inl, inr}
use Rattle.std.specs.Global.{Box}
use Rattle.kk_syntax.specs.declared.tree.Declaration.{Declaration}
use Rattle.kk_syntax.specs.Surface.{Written, written_declaration}
use Rattle.kk_parser.specs.declared.fault.Fault.{Fault}
use Rattle.kk_parser.specs.Forms.{form_meaning, head, head_of}
use Rattle.kk_parser.specs.Grammar.{declared_function, function_of}
use Rattle.kk_parser.specs.Methods.{Makes}
use Rattle.kk_parser.specs.Phrases.{PhraseValue, decl}
use Rattle.kk_parser.specs.Views.{declaration_of, boxed_declaration}

-- a function's declaration is that of its head and its body
pub of_head : (v : PhraseValue head) (body : Written) → function_of v body ≡ declaration_of (head_of v) body
of_head (inl (name, (ps, None))) body = refl
of_head (inl (name, (ps, Some r))) body = refl
of_head (inr (name, (ps, r))) body = refl

pub declaration_boxed : (r : Result (Box Declaration) Fault) (d : Declaration) → Makes (λ b. b.value) d r → Makes boxed_declaration
    (written_declaration d) r
declaration_boxed (Ok b) d h = ap written_declaration h
declaration_boxed (Err y) d h = h

-- a declaration of a function means what its head and its body mean
pub function-means : (v : PhraseValue declared_function) → form_meaning decl (inr v) ≡ function_of v.1.0 v.1.1
function-means (word, (given, body)) = refl
