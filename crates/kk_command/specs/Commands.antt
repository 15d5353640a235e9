-- What a command asks for.
use Rattle.kk_command.specs.declared.command.Command.{Command}
use Rattle.kk_command.specs.declared.command.Command.TheVariants as OfCommand
use Rattle.kk_command.specs.Requests.{Request, check, build, run, sim, eval, bench}

-- what a command that was read asks for
abbrev pub request_read : Command → Request
request_read (OfCommand.Check file) = check file.now
request_read (OfCommand.Build file out sizes) = build file.now out.now sizes.cells sizes.depth
request_read (OfCommand.Run file options) = run file.now options.sizes.cells options.sizes.depth options.steps options.stats
request_read (OfCommand.Sim image steps) = sim image.now steps
request_read (OfCommand.Eval file sizes steps) = eval file.now sizes.cells sizes.depth steps
request_read (OfCommand.Bench generation sizes steps) = bench generation.seed generation.size sizes.cells sizes.depth steps
