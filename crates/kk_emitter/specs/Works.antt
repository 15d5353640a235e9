-- What an emitter holds, as the drafts of a function.
use Rattle.std.specs.Prelude.{◌≡◌, ℕ, Bool, true, false, not, List, [], ◌∷◌, map, reverse, option_map, slice_index_or}
use Rattle.std.specs.Global.{Vec}
use Rattle.kk_syntax.specs.declared.positions.Ownership.TheVariants.{Owned}
use Rattle.kk_syntax.specs.PositionsOf.{PositionTable, lends}
use Rattle.kk_counted.specs.declared.shape.Parameter.{Parameter}
use Rattle.kk_emitter.specs.declared.work.Fork.{Fork}
use Rattle.kk_emitter.specs.declared.work.TokenArm.{TokenArm}
use Rattle.kk_emitter.specs.declared.work.Work.{Work}
use Rattle.kk_counted.specs.BareForms.{bare}
use Rattle.kk_counted.specs.CountedForms.{decisions_of}
use Rattle.kk_counted.specs.Marks.{CellMarks}
use Rattle.kk_counted.specs.Spending.{at_positions}
use Rattle.kk_counted.specs.TokenedForms.{tokened_move, tokened_last_code}
use Rattle.kk_emitter.specs.Drafts.{Split, Draft}
use Rattle.kk_emitter.specs.TokenDrafts.{EndedArm, TokenSplit, TokenDraft, bare_arm, bare_moves}

abbrev pub items_of : Vec ℕ → List ℕ
items_of v = v.items

-- ---- by the parameters of a function

-- whether a position is lent; one that is not told of is owned
abbrev pub lends_at : List Parameter → ℕ → Bool
lends_at parameters at = lends (slice_index_or (map (λ parameter. parameter.ownership) parameters) at Owned)

-- the arguments that are used up
abbrev pub used_at : List Parameter → List ℕ → List ℕ
used_at parameters arguments = at_positions (λ at. not (lends_at parameters at)) 0 arguments

-- whether a position is lent, or whether it is owned
abbrev pub passes : List Parameter → Bool → ℕ → Bool
passes parameters true at = lends_at parameters at
passes parameters false at = not (lends_at parameters at)

-- ---- drafts

-- a list from its end on, before what is done already
abbrev pub back_to_front : {A B : Type 0} → (A → B) → List A → List B → List B
back_to_front f [] done = done
back_to_front f (x ∷ xs) done = back_to_front f xs (f x ∷ done)

-- what is left for arms that are not entered, that of the next one first
abbrev pub left_in : List (Vec ℕ) → List (List ℕ)
left_in left = back_to_front items_of left []

-- an arm that is ended
abbrev pub arm_of : TokenArm → EndedArm
arm_of arm =
    record { moves = map tokened_move arm.steps.items; end = tokened_last_code arm.last; spare = reverse arm.spare.items }

-- a branch that is not joined: without tokens, and what is written of it with them
abbrev pub split_of : Fork → Split
split_of fork =
    record {
      on = fork.on;
      decisions = decisions_of fork.tests;
      rows = fork.tests.rows;
      before = bare_moves (map tokened_move fork.before.items);
      lent = fork.lent;
      kept = fork.kept.items;
      each = fork.each.items;
      left = left_in fork.left.items;
      arms = map bare_arm (map arm_of fork.arms.items);
      tails = fork.tails;
    }

abbrev pub token_split_of : Fork → TokenSplit
token_split_of fork =
    record {
      on = fork.on;
      decisions = decisions_of fork.tests;
      before = map tokened_move fork.before.items;
      each = reverse fork.spare.items;
      left = left_in fork.spare_left.items;
      arms = map arm_of fork.arms.items;
      tails = fork.tails;
    }

-- The draft of the code without tokens, and that of the code with them. The first one has the steps of the second, each without
-- its tokens.
abbrev pub draft : PositionTable → List ℕ → CellMarks → Work → Draft
draft positions field_counts marks work =
    record {
      positions = positions;
      field_counts = field_counts;
      marks = marks;
      instance = work.instance;
      parameters = work.parameters;
      next = work.next;
      failed = work.failed;
      inside = work.inside;
      steps = bare_moves (map tokened_move work.steps.items);
      owed = work.owed.items;
      uncalled = work.uncalled.items;
      lent = work.lent.items;
      splits = back_to_front split_of work.forks.items [];
      ending = option_map bare (option_map tokened_last_code work.ending);
    }

abbrev pub token_draft : Work → TokenDraft
token_draft work =
    record {
      moves = map tokened_move work.steps.items;
      spare = reverse work.spare.items;
      splits = back_to_front token_split_of work.forks.items [];
      ending = option_map tokened_last_code work.ending;
    }

-- a change of what an emitter holds, as one of its draft
abbrev pub Becomes : Work → Work → (Draft → Draft) → Type 0
Becomes old new change =
    (positions : PositionTable) (field_counts : List ℕ) (marks : CellMarks)
    → draft positions field_counts marks new ≡ change (draft positions field_counts marks old)
