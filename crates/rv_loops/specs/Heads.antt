-- The head of a loop, as the code keeps it.
use Rattle.std.specs.Prelude.{◌≡◌, ◌≢◌, ◌≤◌, ℕ, List, length, map}
use Rattle.rv_isa.specs.PlacedCode.{PlacedLine, placed_line_of}
use Rattle.rv_loops.specs.declared.head.Head.{Head}
use Rattle.rv_loops.specs.declared.head.TheConstants.{AGAIN}
use Rattle.rv_loops.specs.Rotation.{Loop, AreStraight, returns_straight, most_before, code_of}

-- the loop of a head, behind which these lines stand
abbrev pub loop_of : Head → List PlacedLine → Loop
loop_of head behind = record {
  function = head.function;
  before = map placed_line_of head.before.items;
  alive = head.alive.items;
  condition = head.condition;
  exit = head.exit;
  args = head.args.items;
  behind = behind;
  again = AGAIN;
  stays = head.stays;
}

-- code begins with a head
pub record Begins (head : Head) (function : ℕ) (code : List PlacedLine) : Type 0 where
  pub behind : List PlacedLine
  pub code_is : code ≡ code_of (loop_of head behind)
  pub number : head.function ≡ function
  pub straight : AreStraight (map placed_line_of head.before.items)
  pub few : length (map placed_line_of head.before.items) ≤ most_before
  pub compares : length head.args.items ≢ 1
  pub leads : head.stays ≡ returns_straight head.exit code
