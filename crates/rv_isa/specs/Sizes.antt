-- How large a frame can be. It follows from how far a load reaches: so many bytes down from its register, and as many up, where
-- the first one is that at the register's own address.
use Rattle.std.specs.Prelude.{ℕ, ◌-◌, ◌*◌}

-- A load and a store add 12 bits to the register, sign-extended (RISC-V Unprivileged ISA, 2.6).
abbrev pub reach_down : ℕ
reach_down = 2048

-- the most bytes of a frame whose words are all within reach from the first one
abbrev pub narrow_frame : ℕ
narrow_frame = reach_down - 4

-- the most bytes of a frame, which two additions give back
abbrev pub wide_frame : ℕ
wide_frame = 2 * narrow_frame
