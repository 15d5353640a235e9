use Rattle.std.proofs.Common.{List, nat_le, ap, ◌∙◌, arith}
use Rattle.std.specs.List.{list_all}
use Rattle.elf_image.specs.declared.header.ProgramHeader.{ProgramHeader}
use Rattle.elf_image.proofs.Conditions.{loads_are, headers_tell, fails_headers}
use Rattle.elf_image.proofs.reading.loads.Goals as goal

pub returns-then-not-are_filled-clause-err : goal.returns-then-not-are_filled-clause-err
returns-then-not-are_filled-clause-err c =
    let are = loads_are c.args.bytes.now c.args.header.now _ c.from-count.result c.requires c.from-count.ensures c.in_ok-loads.ensures in
    let told = c.are_filled.ensures ∙ ap (λ (hs : List ProgramHeader). list_all (λ h. nat_le h.filesz h.memsz) hs) c.deref.ensures.value in
    let tell = headers_tell c.args.bytes.now c.args.header.now _ c.from-count.result c.from.result c.are_filled.result c.requires c.from-count.ensures c.if-header-ne-PROGRAM_HEADER_SIZE.false (omega arith) (omega arith) c.from.ensures (omega arith) are told in
    fails_headers c.args.bytes.now c.args.header.now c.requires (tell ∙ c.if-not-are_filled.true)

pub returns-clause-ok : goal.returns-clause-ok
returns-clause-ok c =
    let are = loads_are c.args.bytes.now c.args.header.now _ c.from-count.result c.requires c.from-count.ensures c.in_ok-loads.ensures in
    let told = c.are_filled.ensures ∙ ap (λ (hs : List ProgramHeader). list_all (λ h. nat_le h.filesz h.memsz) hs) c.deref.ensures.value in
    let tell = headers_tell c.args.bytes.now c.args.header.now _ c.from-count.result c.from.result c.are_filled.result c.requires c.from-count.ensures c.if-header-ne-PROGRAM_HEADER_SIZE.false (omega arith) (omega arith) c.from.ensures (omega arith) are told in
    record { readable = tell ∙ c.if-not-are_filled.false; loads_are = are }
