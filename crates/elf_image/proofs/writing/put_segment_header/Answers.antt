use Rattle.std.proofs.Common.{append_assoc}
use Rattle.elf_image.specs.Program.{segment_header}
use Rattle.elf_image.proofs.writing.put_segment_header.Goals as goal

pub returns : goal.returns
unfolding segment_header
returns c =
    rw (c.in_ok-put_word-8.ensures, c.in_ok-put_word-7.ensures, c.in_ok-put_word-6.ensures, c.in_ok-put_word-5.ensures, c.in_ok-put_word-4.ensures, c.in_ok-put_word-3.ensures, c.in_ok-put_word-2.ensures, c.in_ok-put_word.ensures, c.len.ensures) (simp append_assoc)
