-- The generator on the seed 1: its numbers, and the text of size 1 from them.
use Rattle.std.proofs.Common.{◌≡◌, refl, ◌++◌}
use Rattle.kk_gen.specs.Generated.{number_at, kind_of, constant_of, function_line, lists, main_line, generated}

first_number : number_at 1 1 ≡ 1015568748
first_number = refl

first_kind : kind_of 1015568748 ≡ 0
first_kind = refl

first_constant : constant_of 1015568748 ≡ 65
first_constant = refl

whole : generated 1 1 ≡ lists ++ (function_line 1 1015568748 ++ main_line 1)
whole = refl
