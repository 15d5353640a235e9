use Rattle.std.proofs.Common.{ap, sym, ◌∙◌, subst, rules}
use Rattle.std.proofs.lemmas.Int.{to_z-of_z}
use mir.Syntax.{w32}
use mir.Val.{SFits}
use Rattle.kk_parser.specs.Kinds.{number, said_at}
use Rattle.kk_parser.specs.Methods.{Read}
use Rattle.kk_parser.specs.Phrases.{token}
use Rattle.kk_parser.proofs.Steps.{next_says-first, is_at-said, token_read}
use Rattle.kk_parser.proofs.parser.Parser.number.Goals as goal

pub returns-in-Number-clause-takes : goal.returns-in-Number-clause-takes
returns-in-Number-clause-takes c =
    let next = c.in-Some.next.now in
    let e = next_says-first number c.args.self.now.rest.now c.first.result c.in-Some.next c.first.ensures.value c.in-Some.is ∙ ap (λ t. said_at number t next.span.at) c.in-Number.is in
    let fits : SFits w32 c.in-Number.value = search rules in
    (is_at-said number _ _ e, subst (λ v. Read (token number) v c.args.self.now c.advance.new.self) (sym (to_z-of_z w32 c.in-Number.value fits)) (token_read number c.args.self.now c.advance.new.self _ e c.advance.ensures.rest c.advance.ensures.depth))
