-- The fields of a word.
use Rattle.std.specs.Prelude.{ℕ, ◌+◌, ◌-◌, ◌/◌, ◌%◌, ◌^◌}

-- bits `high` down to `low` of a word, as a number
abbrev pub field : ℕ → ℕ → ℕ → ℕ
field word high low = word / 2 ^ low % 2 ^ (high + 1 - low)
