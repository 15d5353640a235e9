-- The calls of the execution environment, which ECALL asks for: x17 holds the call's number, and x10 to x12 what it is given. This project's own,
-- with the numbers of Linux.
use Rattle.std.specs.Prelude.{ℕ, ◌+◌, ◌%◌, List, [], ◌∷◌, ◌++◌, Bool, ◌&&◌, if◌then◌else◌, nat_eq}
use Rattle.kk_base.specs.Trace.{output, input, input_end}
use Rattle.rv_isa.specs.Numbers.{read_call, write_call, exit_call, standard_input, standard_output, unknown_call}
use Rattle.rv_isa.specs.Bytes.{bytes_at, with_bytes}
use Rattle.rv_isa.specs.Processor.{Processor, Progress, goes, traps, exited, value, put, can_load, can_store}

-- one more instruction is executed, and the next one is at this address
abbrev pub stepped : ℕ → Processor → Processor
stepped next s = record s { pc = next; executed = s.executed + 1 }

-- read: x10 is the number of the standard input, and the x12 bytes from x11 on may be stored
abbrev pub is_read : Processor → Bool
is_read s =
    nat_eq (value s.registers 17) read_call && nat_eq (value s.registers 10) standard_input
    && can_store s.parts (value s.registers 11) (value s.registers 12)

-- write: x10 is the number of the standard output, and the x12 bytes from x11 on may be loaded
abbrev pub is_write : Processor → Bool
is_write s =
    nat_eq (value s.registers 17) write_call && nat_eq (value s.registers 10) standard_output
    && can_load s.parts (value s.registers 11) (value s.registers 12)

-- exit
abbrev pub is_exit : Processor → Bool
is_exit s = nat_eq (value s.registers 17) exit_call

-- a byte is asked for: the next one of the input comes to x11, and x10 is 1; at the end of the input x10 is 0
abbrev pub asks : List ℕ → ℕ → Processor → Processor
asks [] next s =
    record (stepped next s) { registers = put 10 0 s.registers; trace = s.trace ++ input_end ∷ [] }
asks (byte ∷ rest) next s =
    record (stepped next s) {
      registers = put 10 1 s.registers;
      memory = with_bytes (value s.registers 11) (byte ∷ []) s.memory;
      left = rest;
      trace = s.trace ++ input byte ∷ [];
    }

-- a read of no bytes asks for nothing
abbrev pub reads : ℕ → Processor → Processor
reads next s =
    if nat_eq (value s.registers 12) 0 then record (stepped next s) { registers = put 10 0 s.registers }
    else asks s.left next s

-- the bytes that a write names
abbrev pub written : Processor → List ℕ
written s = bytes_at s.memory (value s.registers 11) (value s.registers 12)

-- x10 becomes their number; they are put in one piece, and no bytes are not put
abbrev pub writes : ℕ → Processor → Processor
writes next s =
    let told = record (stepped next s) { registers = put 10 (value s.registers 12) s.registers }
    in if nat_eq (value s.registers 12) 0 then told else record told { trace = s.trace ++ output (written s) ∷ [] }

-- an exit is executed, and tells the lowest 8 bits of x10; any other ECALL traps
unfoldable pub calls : ℕ → ℕ → Processor → Progress
calls next word s =
    if is_read s then goes (reads next s)
    else if is_write s then goes (writes next s)
    else if is_exit s then record { processor = stepped next s; ending = exited (value s.registers 10 % 256) }
    else traps unknown_call word s
