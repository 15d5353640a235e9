-- How many references a function may spend on a path, so that each cell's count fits in a word.
use Rattle.std.specs.Prelude.{ℕ, ◌-◌, ◌*◌, ◌/◌, ◌^◌}
use Rattle.kk_base.specs.Limits.{greatest_of}
use Rattle.kk_base.specs.Sizes.{greatest_cells, greatest_depth}
use Rattle.kk_base.specs.declared.limit.LimitKind.TheVariants.{Fields}

-- the most fields of all cells together
abbrev pub greatest_field_references : ℕ
greatest_field_references = greatest_of Fields * greatest_cells

-- The greatest number of references that a function may spend on a path. A count is at most what the functions of all open calls
-- spend and what the fields of all cells name; one more is to fit in a word of 32 bits too.
abbrev pub greatest_spent : ℕ
greatest_spent = (2 ^ 32 - 2 - greatest_field_references) / greatest_depth
