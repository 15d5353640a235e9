use Rattle.std.proofs.Common.{◌≡◌, ◌-◌, ◌*◌, ◌≤◌, ◌++◌, length, filter}
use Rattle.elf_image.specs.Fields.{headers_of, is_load}
use Rattle.elf_image.proofs.segments.read_loads.Given as goal

-- the segments so far and those of what is left are those of all
abbrev pub invariant-loop : goal.invariant-loop
invariant-loop l = record {
  room : 32 * (l.count - l.counter) ≤ length l.rest;
  whole : l.loads.items ++ filter is_load (headers_of (l.count - l.counter) l.rest) ≡ filter is_load (headers_of l.count l.bytes);
}
