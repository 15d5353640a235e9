use Rattle.std.proofs.Common.{List, ℕ}
use Rattle.std.proofs.lemmas.Result.{IfOk-weaker}
use Rattle.elf_image.specs.Loaded.{IsLoaded}
use Rattle.kk_perform.specs.declared.perform.Stopped.{Stopped}
use Rattle.kk_perform.specs.Internal.{HasStopped}
use Rattle.kk_perform.proofs.perform.run_built.Goals as goal

pub returns-in-Ok-clause-ran : goal.returns-in-Ok-clause-ran
returns-in-Ok-clause-ran g c =
    let Ran : List ℕ → Stopped → Type 0 = λ file stopped.
    HasStopped file c.args.steps stopped.halt stopped.machine (g.I.Source.state c.args.input.now) (g.I.Source.state c.run_image.new.input)
    (g.O.Sink.state c.args.out.now) (g.O.Sink.state c.run_image.new.out) in
    let RanEach : Stopped → Type 0 = λ stopped. (file : List ℕ) → IsLoaded file c.in-Ok.image.entry c.in-Ok.image.parts → Ran file stopped in
    IfOk-weaker c.run_image.result RanEach (Ran c.args.file.now) (λ stopped ran. ran c.args.file.now c.in-Ok.ensures.ok) c.run_image.ensures.ran
