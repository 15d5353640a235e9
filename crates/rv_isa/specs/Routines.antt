-- The registers of the runtime's routines, by number: a table for the routines themselves, for those who call them, and for
-- who gives values their places.
use Rattle.std.specs.Prelude.{◌==◌, ℕ, List, [], ◌∷◌, Option, Some, None, Bool}
use Rattle.std.specs.List.{list_any}
use Rattle.rv_isa.specs.declared.routine.Routine.{Routine}

-- the registers in which a routine takes its arguments, in order
abbrev pub taken_by : Routine → List ℕ
taken_by Routine.Take = []
taken_by Routine.Drop = 10 ∷ []
taken_by Routine.PrintInt = 10 ∷ 11 ∷ []
taken_by Routine.PrintText = 10 ∷ 11 ∷ []
taken_by Routine.ReadByte = []

-- the register in which a routine gives its answer
abbrev pub given_by : Routine → Option ℕ
given_by Routine.Take = Some 5
given_by Routine.Drop = None
given_by Routine.PrintInt = None
given_by Routine.PrintText = None
given_by Routine.ReadByte = Some 10

-- the registers that a routine may change, beside those that no value has
abbrev pub spoilt_by : Routine → List ℕ
spoilt_by Routine.Take = 5 ∷ []
spoilt_by Routine.Drop = 5 ∷ 10 ∷ 11 ∷ 12 ∷ 13 ∷ []
spoilt_by Routine.PrintInt = 5 ∷ 6 ∷ 7 ∷ 10 ∷ 11 ∷ 12 ∷ 13 ∷ 17 ∷ 28 ∷ 29 ∷ 30 ∷ 31 ∷ []
spoilt_by Routine.PrintText = 5 ∷ 10 ∷ 11 ∷ 12 ∷ 13 ∷ 17 ∷ []
spoilt_by Routine.ReadByte = 5 ∷ 10 ∷ 11 ∷ 12 ∷ 13 ∷ 17 ∷ []

abbrev pub is_spoilt_by : Routine → ℕ → Bool
is_spoilt_by routine register = list_any (λ spoilt. spoilt == register) (spoilt_by routine)
