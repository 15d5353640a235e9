-- The numbers that texts write.
use Rattle.std.specs.Prelude.{ℕ, List, Bool, not, ◌&&◌, ◌==◌, nat_le, nat_lt, if◌then◌else◌, length, slice_index, Option, Some, None}
use Rattle.std.specs.List.{list_all}
use Rattle.std.specs.Char.{is_ascii_digit}
use Rattle.std.specs.Str.Parse.{digits_value}

-- decimal digits without a sign or a leading zero
abbrev pub has_leading_zero : List ℕ → Bool
has_leading_zero text = nat_lt 1 (length text) && slice_index text 0 == 48

abbrev pub is_number : List ℕ → Bool
is_number text = nat_lt 0 (length text) && (not (has_leading_zero text) && list_all is_ascii_digit text)

-- the number that a text writes, where it is in a range
abbrev pub number_in : ℕ → ℕ → List ℕ → Option ℕ
number_in least greatest text =
    let n = digits_value 10 text in
    if is_number text && nat_le least n && nat_le n greatest then Some n else None
