-- What the code's layout stands for.
use Rattle.std.specs.Prelude.{reverse}
use Rattle.kk_layout.specs.declared.state.Layout.{Layout}
use Rattle.kk_layout.specs.States.{State}

-- the code keeps the innermost block last
abbrev pub state_of : Layout → State
state_of l = record { laid = l.laid.items; base = l.base; blocks = reverse l.blocks.items; brackets = l.brackets }
