use Rattle.std.specs.Prelude.{Ok}
use Rattle.kk_command.specs.Requests.{bare_app}
use Rattle.kk_command.proofs.Rules.{with_line}
use Rattle.kk_command.proofs.application.application.Goals as goal

pub returns : goal.returns
returns c =
    let check = with_line (Ok c.bare_application.result) c.check_command.result _ bare_app _ c.with_command-program.ensures c.bare_application.ensures.app c.check_command.ensures.app in
    let build = with_line c.with_command-program.result c.build_command.result _ _ _ c.with_command-program-2.ensures check c.build_command.ensures.app in
    let run = with_line c.with_command-program-2.result c.run_command.result _ _ _ c.with_command-program-3.ensures build c.run_command.ensures.app in
    let sim = with_line c.with_command-program-3.result c.sim_command.result _ _ _ c.with_command-program-4.ensures run c.sim_command.ensures.app in
    let eval = with_line c.with_command-program-4.result c.eval_command.result _ _ _ c.with_command-program-5.ensures sim c.eval_command.ensures.app in
    record { app = with_line c.with_command-program-5.result c.bench_command.result c.with_command.result _ _ c.with_command.ensures eval c.bench_command.ensures.app }
