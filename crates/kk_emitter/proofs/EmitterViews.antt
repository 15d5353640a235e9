-- A change of what an emitter holds, as its callers see it.
use Rattle.std.proofs.Common.{◌≡◌, ℕ, ◌+◌, true, false, not, List, [], ◌∷◌, map, length, arith, sym, ap, ◌∙◌, subst}
use Rattle.std.specs.Prelude.{slice_index_or}
use Rattle.kk_syntax.specs.declared.positions.Ownership.{Ownership}
use Rattle.kk_syntax.specs.declared.positions.Ownership.TheVariants.{Owned}
use Rattle.kk_syntax.specs.PositionsOf.{PositionTable, is_lent, lends}
use Rattle.kk_counted.specs.declared.shape.Parameter.{Parameter}
use Rattle.kk_emitter.specs.declared.work.Fork.{Fork}
use Rattle.kk_emitter.specs.declared.work.Work.{Work}
use Rattle.kk_emitter.specs.Drafts.{Split, Draft, AreNewest, fallen}
use Rattle.kk_emitter.specs.Emissions.{Emission, counted_of, tokens_of}
use Rattle.kk_emitter.specs.TokenDrafts.{TokenDraft}
use Rattle.kk_emitter.specs.TokenEmitting.{IsSoundEmission}
use Rattle.kk_counted.specs.Marks.{CellMarks}
use Rattle.kk_counted.specs.Spending.{at_positions}
use Rattle.kk_emitter.specs.Works.{back_to_front, split_of, draft, token_draft, used_at, Becomes}

module _ {positions : PositionTable} {counts : List ℕ} {marks : CellMarks} {work : Work} {now : Emission} (is : record { positions = positions; field_counts = counts; marks = marks; work = work } ≡ now) where
  -- what a call has changed
  pub seen : (change : Draft → Draft) (new : Work) → Becomes work new change → draft positions counts marks new ≡ change (counted_of now)
  seen change new becomes = becomes positions counts marks ∙ ap (λ e. change (counted_of e)) is

  pub written : (change : TokenDraft → TokenDraft) (new : Work) → token_draft new ≡ change (token_draft work) → token_draft new ≡ change (tokens_of now)
  written change new becomes = becomes ∙ ap (λ e. change (tokens_of e)) is

  pub going_now : work.failed ≡ false → (counted_of now).failed ≡ false
  going_now going = sym (ap (λ e. e.work.failed) is) ∙ going

  pub sound_then : IsSoundEmission (draft positions counts marks work) (token_draft work) → IsSoundEmission (counted_of now) (tokens_of now)
  sound_then sound = subst (λ e. IsSoundEmission (counted_of e) (tokens_of e)) is sound

  -- a call that has changed nothing
  pub sound_same : (new : Work) → Becomes work new (λ d. d) → token_draft new ≡ token_draft work → IsSoundEmission (draft positions counts marks work) (token_draft work)
      → IsSoundEmission (draft positions counts marks new) (token_draft new)
  sound_same new becomes same sound =
      subst (λ t. IsSoundEmission (draft positions counts marks new) t) (sym same)
      (subst (λ (d : Draft). IsSoundEmission d (token_draft work)) (sym (becomes positions counts marks)) sound)

  -- a call that has found no memory
  pub fell_now : (mid : Work) → Becomes work mid (λ d. d) → draft positions counts marks (record mid { failed = true }) ≡ fallen (counted_of now)
  fell_now mid same = ap fallen (seen (λ d. d) mid same)

  pub next_now : (x : ℕ) → x ≡ work.next → x ≡ now.work.next
  next_now x same = same ∙ ap (λ e. e.work.next) is

-- the arguments that are used up, by the parameters of an instance
pub used_same : (positions : PositionTable) (f : ℕ) (arguments : List ℕ) (parameters : List Parameter) → map (λ parameter. parameter.ownership) parameters ≡ slice_index_or positions f []
    → used_at parameters arguments ≡ at_positions (λ i. not (is_lent positions f i)) 0 arguments
used_same positions f arguments parameters is = ap (λ (all : List Ownership). at_positions (λ i. not (lends (slice_index_or all i Owned))) 0 arguments) is

back_length : {A B : Type 0} (f : A → B) (xs : List A) (done : List B) → length (back_to_front f xs done) ≡ length xs + length done
back_length f [] done = omega arith
back_length f (x ∷ xs) done = omega (arith, back_length f xs (f x ∷ done))

-- the branch that has just begun is the newest one
pub newest : (forks : List Fork) (split : Split) (older : List Split) (depth : ℕ) (left : List (List ℕ)) → back_to_front split_of forks [] ≡ split ∷ older → depth ≡ length forks → split.left ≡ left → AreNewest (back_to_front split_of forks []) depth left
newest forks split older depth left is many same =
    let long : length (back_to_front split_of forks []) ≡ length forks + 0 = back_length split_of forks [] in
    let deep : depth ≡ length (split ∷ older) = omega (arith, many, long, ap length is) in
    subst (λ (all : List Split). AreNewest all depth left) (sym is) (deep, same)
