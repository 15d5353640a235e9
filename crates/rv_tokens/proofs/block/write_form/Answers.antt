use Rattle.std.proofs.lemmas.Result.{on_ok_weaker}
use Rattle.rv_tokens.specs.Written.{facts_of}
use Rattle.rv_tokens.proofs.WrittenNodes.{value_of_form}
use Rattle.rv_tokens.proofs.block.write_form.Goals as goal

pub returns-in_default : goal.returns-in_default
returns-in_default c =
    on_ok_weaker c.form.result (λ wrote. value_of_form (facts_of c.args.known.now) c.args.into c.args.form c.args.arguments.now
    c.in_default.not-Construct wrote) c.form.ensures
