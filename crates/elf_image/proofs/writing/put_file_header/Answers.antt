use Rattle.std.proofs.Common.{append_assoc}
use Rattle.elf_image.specs.Program.{file_header}
use Rattle.elf_image.proofs.writing.put_file_header.Goals as goal

pub returns : goal.returns
unfolding file_header
returns c =
    rw (c.in_ok-put_half-8.ensures, c.in_ok-put_half-7.ensures, c.in_ok-put_half-6.ensures, c.in_ok-put_half-5.ensures, c.in_ok-put_half-4.ensures, c.in_ok-put_half-3.ensures, c.in_ok-put_word-5.ensures, c.in_ok-put_word-4.ensures, c.in_ok-put_word-3.ensures, c.in_ok-put_word-2.ensures, c.in_ok-put_word.ensures, c.in_ok-put_half-2.ensures, c.in_ok-put_half.ensures, c.in_ok-extend_from_slice-3.ensures.items, c.in_ok-extend_from_slice-2.ensures.items, c.in_ok-extend_from_slice.ensures.items) (simp append_assoc)
