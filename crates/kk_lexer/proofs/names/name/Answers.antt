use Rattle.std.proofs.Common.{◌≡◌, take, ◌+◌, subst, arith}
use Rattle.std.specs.Prelude.{string_bytes}
use Rattle.kk_lexer.specs.FirstLexemes.{IsNameOrKeyword}
use Rattle.kk_lexer.proofs.FirstBytes.{name_ascii, name_begins}
use Rattle.kk_lexer.proofs.names.name.Goals as goal

pub spelled-requires : goal.spelled-requires
spelled-requires c = name_ascii _ _ c.requires.text c.name_end-length.ensures (omega (arith, c.requires.letter))

pub returns : goal.returns
returns c = λ signed at.
    let spelling : string_bytes c.in-Ok.spelling ≡ take (1 + c.name_end-length.result) c.args.text.now = c.in-Ok.ensures in
    let token = subst (λ w. IsNameOrKeyword w c.name_or_keyword.result) spelling c.name_or_keyword.ensures in
    rw c.kept.ensures (name_begins _ _ c.requires.text c.name_end-length.ensures signed at c.requires.letter _ token)
