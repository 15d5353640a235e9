-- The registers that the routines change, by number. Every other register is kept.
use Rattle.std.specs.Prelude.{◌≢◌, ℕ, List, [], ◌∷◌, ◌++◌}
use Rattle.rv_isa.specs.declared.routine.Routine.{Routine}
use Rattle.rv_isa.specs.declared.routine.Routine.TheVariants.{Take, Drop, PrintInt, PrintText, ReadByte}
use Rattle.rv_isa.specs.declared.placed.Symbol.{Symbol}
use Rattle.rv_isa.specs.declared.placed.Symbol.TheVariants as symbol
use Rattle.rv_isa.specs.Routines.{spoilt_by}

-- of the registers that no value has: x8 is the chain of cells given back, x9 the held chain, x18 and x19 are the bounds of the cells never used
abbrev pub own_of : Routine → List ℕ
own_of Take = 8 ∷ 9 ∷ 18 ∷ []
own_of Drop = 8 ∷ []
own_of PrintInt = []
own_of PrintText = []
own_of ReadByte = []

-- what stands at a symbol of the runtime changes these
abbrev pub changed_by : Symbol → List ℕ
changed_by symbol.Start = 1 ∷ 2 ∷ 3 ∷ 8 ∷ 9 ∷ 18 ∷ 19 ∷ 20 ∷ []
changed_by (symbol.Routine routine) = own_of routine ++ spoilt_by routine
changed_by symbol.Stop = 10 ∷ 17 ∷ []
changed_by symbol.StackFull = 10 ∷ 17 ∷ []
changed_by (symbol.Function function) = []
changed_by (symbol.Local label) = []

-- a register is none of these
abbrev pub IsOutside : ℕ → List ℕ → Type 0
IsOutside x [] = Unit {0}
IsOutside x (y ∷ ys) = (x ≢ y) × IsOutside x ys

abbrev pub KeptBy : Symbol → ℕ → Type 0
KeptBy symbol x = IsOutside x (changed_by symbol)
