use Rattle.std.proofs.Common.{◌≡◌, take, ◌+◌, ◌∙◌, arith}
use Rattle.std.specs.Prelude.{string_bytes}
use Rattle.kk_lexer.proofs.FirstBytes.{name_ascii, constructor_begins}
use Rattle.kk_lexer.proofs.names.constructor_name.Goals as goal

pub spelled-requires : goal.spelled-requires
spelled-requires c = name_ascii _ _ c.requires.text c.name_end-length.ensures (omega (arith, c.requires.letter))

pub returns : goal.returns
returns c = λ signed at.
    let spelling : string_bytes c.in-Ok.spelling ≡ take (1 + c.name_end-length.result) c.args.text.now = c.in-Ok.ensures in
    rw c.kept.ensures (constructor_begins _ _ c.requires.text c.name_end-length.ensures signed at c.requires.letter _ (c.new.ensures ∙ spelling))
