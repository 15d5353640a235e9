use Rattle.kk_reuse.proofs.program.run.Goals as goal
