use Rattle.kk_front.proofs.TextJudgements.{each_text_is_judged}
use Rattle.kk_front.proofs.judge.each_text_is_judged.Goals as goal

pub returns : goal.returns
returns c =
    each_text_is_judged c.each_text_is_read.ensures c.each_list_is_parsed.ensures.exactly_one c.each_tree_is_resolved.ensures c.each_program_is_checked.ensures.checked c.each_program_is_checked.ensures.principal c.each_typed_program_is_decided.ensures c.each_program_is_counted.ensures
