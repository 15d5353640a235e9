use Rattle.kk_parser.proofs.OutcomeUniqueness.{each_list_is_parsed}
use Rattle.kk_parser.proofs.Laws.{program_law}
use Rattle.kk_parser.proofs.Depths.{shallow}
use Rattle.kk_parser.proofs.program.each_list_is_parsed.Goals as goal

pub returns-clause-exactly_one : goal.returns-clause-exactly_one
returns-clause-exactly_one c = each_list_is_parsed

pub returns-clause-at_any_depth : goal.returns-clause-at_any_depth
returns-clause-at_any_depth c = program_law

pub returns-clause-by_levels : goal.returns-clause-by_levels
returns-clause-by_levels c = λ levels declarations ts h a. shallow levels h a
