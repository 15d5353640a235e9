use Rattle.std.proofs.Common.{rules, arith}
use Rattle.std.proofs.lemmas.Grind.{common_steps}
use Rattle.kk_layout.proofs.TokenBounds.{few_are}
use Rattle.kk_layout.proofs.state.laid_out.Goals as goal

pub returns-clause-few : goal.returns-clause-few
returns-clause-few c = few_are c.args.tokens.now c.from_vec-2.result (first_of (search rules, grind (arith, common_steps)))
