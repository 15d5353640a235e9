-- How an answer ends a command.
use Rattle.std.specs.Prelude.{◌≡◌, [], Bool, true, if◌then◌else◌, None, unwrap_or}
use Rattle.kk_base.specs.Sink.{SinkState}
use Rattle.kk_base.specs.declared.status.Status.{Status}
use Rattle.kk_base.specs.declared.status.Status.TheVariants as OfStatus
use Rattle.kk_answer.specs.declared.answer.Answer.{Answer}
use Rattle.kk_answer.specs.Answer.{status_of}
use Rattle.kk_answer.specs.Line.{line_of}
use Rattle.kk_answer.specs.Puts.{Puts}

-- an answer ends a command with its status, where its line was put; or where putting the line failed, with an output fault. Where an answer
-- has no line, nothing is put
pub record EndsWith (answer : Answer) (status : Status) (err err' : SinkState) : Type 0 where
  pub whole : Bool
  pub line : Puts whole (unwrap_or (line_of answer) []) err err'
  pub told : status ≡ (if whole then status_of answer else OfStatus.OutputFault)
  pub silent : line_of answer ≡ None → (whole ≡ true) × (err' ≡ err)
