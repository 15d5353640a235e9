use Rattle.std.proofs.Common.{sym, subst}
use Rattle.kk_counted.specs.KeptFields.{fields_in, KeepsKnown}
use Rattle.kk_emitter.specs.Emissions.{tokens_of}
use Rattle.kk_emitter.specs.TokenEmitting.{known_now}
use Rattle.kk_counted.proofs.KeptFields.{keeps_none}
use Rattle.kk_emitter.proofs.emitter.Emitter.construct_in.Goals as goal

pub fill-requires-clause-known : goal.fill-requires-clause-known
fill-requires-clause-known c =
    let fields = fields_in (known_now (tokens_of c.args.self.now)) c.args.spare.slot in
    let arguments = c.args.debts.variables.items in
    λ going. subst (λ kept. KeepsKnown 0 kept fields arguments) (sym c.new.ensures.items) (keeps_none 0 fields arguments)
