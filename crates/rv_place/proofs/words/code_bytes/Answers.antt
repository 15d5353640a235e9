use Rattle.std.proofs.Common.{◌≡◌, ℕ, ◌+◌, List, [], ◌∷◌, ◌++◌, take, sym, ap, ◌∙◌}
use Rattle.std.proofs.lemmas.List.{take_more}
use Rattle.rv_isa.specs.Bytes.{lowest_bytes}
use Rattle.rv_isa.specs.declared.instr.Instr.{Instr}
use Rattle.rv_isa.proofs.Reading.{read_is}
use Rattle.rv_place.proofs.BootBytes.{words-append}
use Rattle.rv_place.proofs.words.code_bytes.Goals as goal

pub loop-instruction-preserved : goal.loop-instruction-preserved
loop-instruction-preserved c =
    let instructions = c.args.instructions.now in
    let n = c.loop-instruction.instruction-index in
    let instruction = c.instruction-item.result in
    let word = c.encode.result in
    let more : take (n + 1) instructions ≡ take n instructions ++ instruction ∷ [] =
    take_more instructions n instruction c.loop-instruction-test.true ∙ ap (λ (i : Instr). take n instructions ++ i ∷ []) (sym c.instruction-item.is) in
    let items : c.extend_from_slice.new.self.items ≡ c.loop-instruction.bytes.items ++ lowest_bytes 4 word =
    c.in_ok-extend_from_slice.ensures.items ∙ ap (λ (written : List ℕ). c.loop-instruction.bytes.items ++ written) c.write_u32.ensures in
    rw (more, items) (words-append (take n instructions) c.loop-instruction.bytes.items instruction word c.loop-instruction.invariant c.encode.type_inv (read_is instruction word c.encode.ensures.word))
