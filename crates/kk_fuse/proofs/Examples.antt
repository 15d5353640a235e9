-- Fused code by computation.
use Rattle.std.proofs.Common.{◌≡◌, [], ◌∷◌, refl}
use Rattle.kk_syntax.specs.declared.program.Form.TheVariants.{ReadByte, Construct}
use Rattle.kk_counted.specs.CountedCodes.{give, tail_call, compute, read, if_unique, dup, drop}
use Rattle.kk_fuse.specs.Fused.{fuse}

-- A dup and the next drop of its variable both go.
cancelled : fuse (dup 0 (drop 0 (give 1))) ≡ give 1
cancelled = refl

-- They stay, where an opening between them asks for a count.
seen : fuse (dup 0 (if_unique 1 7 (2 ∷ []) (2 ∷ []) (drop 0 (give 2)))) ≡ dup 0 (if_unique 1 7 (2 ∷ []) (2 ∷ []) (drop 0 (give 2)))
seen = refl

-- They stay, where a form between them takes the variable, and where one makes a cell.
named : fuse (dup 0 (compute 1 (Construct 7) (0 ∷ []) (drop 0 (give 1))))
    ≡ dup 0 (compute 1 (Construct 7) (0 ∷ []) (drop 0 (give 1)))
named = refl

made : fuse (dup 0 (compute 2 (Construct 7) (1 ∷ []) (drop 0 (give 2))))
    ≡ dup 0 (compute 2 (Construct 7) (1 ∷ []) (drop 0 (give 2)))
made = refl

-- They go, where only another variable is read and dropped between them, and a form makes no cell.
passed : fuse (dup 0 (read 1 7 (2 ∷ 3 ∷ []) (dup 2 (compute 4 ReadByte [] (drop 1 (drop 0 (give 2)))))))
    ≡ read 1 7 (2 ∷ 3 ∷ []) (dup 2 (compute 4 ReadByte [] (drop 1 (give 2))))
passed = refl

-- Of two dups the last one cancels, and each of two with a drop of its own.
nearest : fuse (dup 0 (dup 0 (drop 0 (tail_call 5 (0 ∷ 0 ∷ []))))) ≡ dup 0 (tail_call 5 (0 ∷ 0 ∷ []))
nearest = refl

nested : fuse (dup 0 (dup 0 (drop 0 (drop 0 (give 0))))) ≡ give 0
nested = refl
