-- The registers that placed code uses by itself, by their names in the RISC-V calling convention.
use Rattle.std.proofs.Common.{lit<}
use Rattle.rv_isa.specs.declared.register.Register.{Register}

-- always zero
abbrev pub zero_register : Register
zero_register = record { number = 0; in_range = lit< tt }

-- the return address
abbrev pub ra : Register
ra = record { number = 1; in_range = lit< tt }

-- the stack pointer
abbrev pub sp : Register
sp = record { number = 2; in_range = lit< tt }

-- a saved register: the first cell of the chain of free cells
abbrev pub s0 : Register
s0 = record { number = 8; in_range = lit< tt }

-- a saved register: the newest held token
abbrev pub s1 : Register
s1 = record { number = 9; in_range = lit< tt }

-- a saved register: the end of the cells
abbrev pub s3 : Register
s3 = record { number = 19; in_range = lit< tt }

-- the first register of arguments
abbrev pub a0 : Register
a0 = record { number = 10; in_range = lit< tt }

-- a temporary
abbrev pub t0 : Register
t0 = record { number = 5; in_range = lit< tt }
