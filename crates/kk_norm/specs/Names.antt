-- By which variables of the core form the variables of a source function go.
use Rattle.std.specs.Prelude.{ℕ, ◌==◌, List, [], ◌∷◌, Option, Some, None, if◌then◌else◌}

-- a variable of the source function, and the one of the core form that has its value
pub record Naming : Type 0 where
  pub variable : ℕ
  pub name : ℕ

-- the newest one first
abbrev pub Names : Type 0
Names = List Naming

-- the name of a variable; one that is not told of, as a parameter, goes by its own number
abbrev pub name_of : Names → ℕ → ℕ
name_of [] x = x
name_of (naming ∷ names) x = if naming.variable == x then naming.name else name_of names x

-- a statement's variable, if any, goes by that name
abbrev pub named : Option ℕ → ℕ → Names → Names
named None name names = names
named (Some x) name names = record { variable = x; name = name } ∷ names
