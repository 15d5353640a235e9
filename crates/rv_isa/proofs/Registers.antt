-- Registers by their numbers.
use Rattle.std.proofs.Common.{lit<}
use Rattle.rv_isa.specs.declared.register.Register.{Register}

abbrev pub x0 : Register
x0 = record { number = 0; in_range = lit< tt }

abbrev pub x1 : Register
x1 = record { number = 1; in_range = lit< tt }

abbrev pub x2 : Register
x2 = record { number = 2; in_range = lit< tt }

abbrev pub x3 : Register
x3 = record { number = 3; in_range = lit< tt }

abbrev pub x5 : Register
x5 = record { number = 5; in_range = lit< tt }

abbrev pub x6 : Register
x6 = record { number = 6; in_range = lit< tt }

abbrev pub x7 : Register
x7 = record { number = 7; in_range = lit< tt }

abbrev pub x8 : Register
x8 = record { number = 8; in_range = lit< tt }

abbrev pub x9 : Register
x9 = record { number = 9; in_range = lit< tt }

abbrev pub x10 : Register
x10 = record { number = 10; in_range = lit< tt }

abbrev pub x11 : Register
x11 = record { number = 11; in_range = lit< tt }

abbrev pub x12 : Register
x12 = record { number = 12; in_range = lit< tt }

abbrev pub x13 : Register
x13 = record { number = 13; in_range = lit< tt }

abbrev pub x17 : Register
x17 = record { number = 17; in_range = lit< tt }

abbrev pub x18 : Register
x18 = record { number = 18; in_range = lit< tt }

abbrev pub x19 : Register
x19 = record { number = 19; in_range = lit< tt }
