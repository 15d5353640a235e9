-- What a step of a machine does, over any configuration. The store machine and the machines of the forms that the program
-- is compiled to are all of this kind: they print, read, make cells and call alike, and differ in how they wait.
use Rattle.std.specs.Prelude.{ℕ, nat_le, List, [], ◌∷◌, Option, Some, None, if◌then◌else◌}
use Rattle.kk_base.specs.Trace.{output, input as taken, input_end}
use Rattle.kk_source.specs.Notes.{Note, seen, built, called}

-- goes: it leads to a configuration.
-- puts: it also puts a piece on the output, which is not empty.
-- takes: it takes the next byte of the input, or meets its end; what it has got decides where it leads to.
-- builds: it is a construction with fields, its arguments computed, and has found so many places live.
-- calls: it is a call that is no tail call, its arguments computed, and has found so many call frames.
pub data Action (C : Type 0) : Type 0 where
  goes : (to : C) → Action C
  puts : (piece : List ℕ) → (to : C) → Action C
  takes : (to : Option ℕ → C) → Action C
  builds : (found : ℕ) → (to : C) → Action C
  calls : (found : ℕ) → (to : C) → Action C

-- a print puts its piece at once, and no bytes are not put
abbrev pub print_step : {C : Type 0} → List ℕ → C → Action C
print_step [] to = goes to
print_step (byte ∷ bytes) to = puts (byte ∷ bytes) to

-- a construction with fields stops with a full heap exactly where as many places are live as there are cells
abbrev pub build_step : {C : Type 0} → (cells found : ℕ) → (full made : C) → Action C
build_step cells found full made = builds found (if nat_le cells found then full else made)

-- a call that is no tail call stops with a full stack exactly where as many call frames stand as the stack has
abbrev pub enter_step : {C : Type 0} → (depth found : ℕ) → (full entered : C) → Action C
enter_step depth found full entered = calls found (if nat_le depth found then full else entered)

-- a machine without the outside, and what is left of its input
pub record WithInput (C : Type 0) : Type 0 where
  pub machine : C
  pub input : List ℕ

-- what a step tells, and the state after it; where no input is left, a read meets its end, and it stays so
abbrev pub performed : {C : Type 0} → Action C → List ℕ → List Note × WithInput C
performed (goes to) input = ([], record { machine = to; input = input })
performed (puts piece to) input = (seen (output piece) ∷ [], record { machine = to; input = input })
performed (takes to) (byte ∷ rest) = (seen (taken byte) ∷ [], record { machine = to (Some byte); input = rest })
performed (takes to) [] = (seen input_end ∷ [], record { machine = to None; input = [] })
performed (builds found to) input = (built found ∷ [], record { machine = to; input = input })
performed (calls found to) input = (called found ∷ [], record { machine = to; input = input })
