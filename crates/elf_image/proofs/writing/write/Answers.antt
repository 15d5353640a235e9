use Rattle.std.proofs.Common.{rules, List, get_or, ap, ◌∙◌}
use Rattle.elf_image.specs.declared.part.Part.{Part}
use Rattle.elf_image.proofs.ProgramFile.{written, reads_again}
use Rattle.elf_image.proofs.writing.write.Goals as goal

pub returns-clause-written : goal.returns-clause-written
returns-clause-written c =
    c.from_vec.ensures
    ∙ written c.args.image.now.entry c.args.image.now.parts c.text-item.result c.memory-item.result c.new-out.result.items c.put_file_header.new.out.items c.put_segment_header.new.out.items c.put_segment_header-2.new.out.items c.resize.new.self.items c.extend_from_slice.new.self.items c.as_slice-2.result.now _ c.requires (c.text-item.is ∙ ap (λ (ps : List Part). get_or ps 0 c.text-item.result) c.as_slice.ensures) (c.memory-item.is ∙ ap (λ (ps : List Part). get_or ps 1 c.memory-item.result) c.as_slice.ensures) c.new-out.ensures.items c.in_ok-put_file_header.ensures c.in_ok-put_segment_header.ensures c.in_ok-put_segment_header-2.ensures (search rules) c.in_ok-resize.ensures.items c.as_slice-2.ensures c.in_ok-extend_from_slice.ensures.items

pub returns-clause-read_again : goal.returns-clause-read_again
returns-clause-read_again c =
    reads_again c.args.image.now.entry c.args.image.now.parts c.from_vec.result c.requires c.args.image.now.begins c.args.image.now.apart c.args.image.now.in_reach (returns-clause-written c)
