use Rattle.std.proofs.Common.{◌≡◌, ◌+◌, ◌*◌, ◌^◌, ◌<◌, ◌∙◌, arith}
use Rattle.rv_isa.specs.Field.{field}
use Rattle.rv_isa.proofs.Bits.{branch_upper_of, branch_lower_of}
use Rattle.rv_isa.proofs.encoding.b_word.Goals as goal

pub returns : goal.returns
returns c =
    let n = c.args.offset.word in
    let below : c.from.result < 2 ^ 5 = omega arith in
    let upper : field c.word.result 31 20 ≡ field n 12 12 * 2 ^ 11 + field n 10 5 * 2 ^ 5 + c.from.result =
    c.word.ensures.upper ∙ branch_upper_of n c.from.result below in
    let lower : field c.word.result 11 7 ≡ field n 4 1 * 2 + field n 11 11 = c.word.ensures.lower ∙ branch_lower_of n in
    record {
      sign_is = omega arith;
      upper_is = omega arith;
      rs2_is = omega arith;
      rs1_is = c.word.ensures.rs1;
      funct3_is = c.word.ensures.funct3;
      lower_is = omega arith;
      bit_11_is = omega arith;
      opcode_is = c.word.ensures.opcode;
    }
