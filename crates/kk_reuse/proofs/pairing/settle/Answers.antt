use Rattle.kk_reuse.proofs.pairing.settle.Goals as goal
