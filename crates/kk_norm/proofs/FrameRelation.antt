-- How the frames of the source stand in the core machine: by recursion on the frames, what is left of each is the code
-- that waits for the value.
use Rattle.std.proofs.Common.{◌≡◌, ℕ, suc, ◌+◌, ◌<◌, ◌≤◌, true, false, List, [], ◌∷◌, ◌++◌, length, Option, map, refl, ap, ◌∙◌, arith}
use Rattle.kk_syntax.specs.declared.program.Form.{Form}
use Rattle.kk_syntax.specs.Trees.{Tree, Trees, no_tree, tree, Rows}
use Rattle.kk_syntax.specs.Shapes.{free, free_all, free_rows, nodes_of, nodes_of_all, nodes_of_rows, without}
use Rattle.kk_source.specs.State.{Value, Environment, Frame, arguments, branches, rows, statement, call}
use Rattle.kk_source.specs.Live.{value_of, awaited}
use Rattle.kk_source.specs.Step.{call_frames}
use Rattle.kk_core.specs.Codes.{Code, case, Arms}
use Rattle.kk_core.specs.RowChoice.{Decides}
use Rattle.kk_core.specs.Truths.{truth_case}
use Rattle.kk_core.specs.Decisions.{NodeTree}
use Rattle.kk_core.specs.CoreStates.{Join, CallFrame}
use Rattle.kk_norm.specs.Names.{Names, named}
use Rattle.kk_norm.specs.Normalized.{Then, final, next, size, size_all, size_rows, atom, atoms, after, within, joined, finish, patterns_in, IsCode, AreCodes, AreArms}
use Rattle.kk_norm.proofs.Bounds.{Bounds, OpensAtMost, AllOpenAtMost, RowsOpenAtMost}
use Rattle.kk_norm.proofs.Variables.{SameBelow, Stands, AllBelow, stands_later, values_later, all_below_more}

-- where a value goes: to the function that waits; or into a variable, and then more comes
pub data Goal : Type 0 where
  nowhere : Goal
  returns : Goal
  goes_on : (rest : Code) → (variable : ℕ) → (joins : List Join) → Goal

abbrev pub goal_of : Then → ℕ → List Join → Goal
goal_of (next rest) a joins = goes_on rest a joins
goal_of (final true) a [] = returns
goal_of (final true) a (join ∷ joins) = nowhere
goal_of (final false) a [] = nowhere
goal_of (final false) a (join ∷ joins) = goes_on join.rest join.variable joins

-- Numbers up to n are taken within, and all that comes after it is numbered from `top` on; the variable of a block inside
-- lies between.
abbrev pub Fresh : Then → List Join → ℕ → ℕ → Type 0
Fresh (next rest) joins n top = n ≤ top
Fresh (final true) joins n top = n ≤ top
Fresh (final false) [] n top = n ≤ top
Fresh (final false) (join ∷ joins) n top = (n ≤ join.variable) × (join.variable < top)

pub fresh_top : (k : Then) (joins : List Join) (n top : ℕ) → Fresh k joins n top → n ≤ top
fresh_top (next rest) joins n top fresh = fresh
fresh_top (final true) joins n top fresh = fresh
fresh_top (final false) [] n top fresh = fresh
fresh_top (final false) (join ∷ joins) n top fresh = omega (arith, fresh.0, fresh.1)

pub fresh_less : (k : Then) (joins : List Join) (m n top : ℕ) → m ≤ n → Fresh k joins n top → Fresh k joins m top
fresh_less (next rest) joins m n top le fresh = omega (arith, fresh)
fresh_less (final true) joins m n top le fresh = omega (arith, fresh)
fresh_less (final false) [] m n top le fresh = omega (arith, fresh)
fresh_less (final false) (join ∷ joins) m n top le fresh = (omega (arith, fresh.0), fresh.1)

-- Where an expression goes on behind its part: where its own value goes, the names, the number of its next variable, and
-- that of what comes after the expression.
pub record Place : Type 0 where
  pub k : Then
  pub names : Names
  pub n : ℕ
  pub top : ℕ

-- In the records: the variables that are read are below `low`, those that are still written from `high` on; the bounds
-- of the program hold.
pub record ArgumentsWait (given : Bounds) (form : Form) (vs : List Value) (es : Trees) (environment : Environment) (rest : Code)
    (a : ℕ) (joins : List Join) (core : Environment) (low high : ℕ) (Later : Goal → ℕ → Type 0) : Type 0 where
  pub at : Place
  pub m : ℕ
  pub held : List ℕ
  pub number_is : m ≡ at.n + size_all es
  pub values_are : map (value_of core) held ≡ vs
  pub held_low : AllBelow low held
  pub rest_is : AreCodes given.constructors at.names at.n es (finish at.k m form (held ++ (a ∷ atoms at.names at.n es))) rest
  pub stands : Stands at.names environment core low (free_all es)
  pub open_few : AllOpenAtMost given es
  pub small : nodes_of_all es + 1 ≤ given.most
  pub from : high ≤ at.n
  pub fresh : Fresh at.k joins (m + 1) at.top
  pub later : Later (goal_of at.k m joins) at.top

pub record BranchesWait (given : Bounds) (positive negative : Tree) (environment : Environment) (rest : Code) (a : ℕ)
    (joins : List Join) (core : Environment) (low high : ℕ) (Later : Goal → ℕ → Type 0) : Type 0 where
  pub at : Place
  pub first : Code
  pub second : Code
  pub first_is : IsCode given.constructors (within at.k) at.names at.n positive first
  pub second_is : IsCode given.constructors (within at.k) at.names (at.n + size positive) negative second
  pub rest_is : rest ≡ joined at.k (at.n + size positive + size negative) (truth_case a first second)
  pub stands : Stands at.names environment core low (free positive ++ free negative)
  pub positive_opens : OpensAtMost given positive
  pub negative_opens : OpensAtMost given negative
  pub small : nodes_of positive + nodes_of negative ≤ given.most
  pub from : high ≤ at.n
  pub fresh : Fresh at.k joins (at.n + size positive + size negative + 1) at.top
  pub later : Later (goal_of at.k (at.n + size positive + size negative) joins) at.top

pub record RowsWait (given : Bounds) (of : Rows) (environment : Environment) (rest : Code) (a : ℕ) (joins : List Join)
    (core : Environment) (low high : ℕ) (Later : Goal → ℕ → Type 0) : Type 0 where
  pub at : Place
  pub decisions : List NodeTree
  pub arms : Arms
  pub decide : Decides given.constructors (patterns_in of) decisions
  pub arms_are : AreArms given.constructors (within at.k) at.names a at.n of arms
  pub rest_is : rest ≡ joined at.k (at.n + size_rows of) (case a decisions arms)
  pub stands : Stands at.names environment core low (free_rows of)
  pub open_few : RowsOpenAtMost given of
  pub small : nodes_of_rows of ≤ given.most
  pub from : high ≤ at.n
  pub fresh : Fresh at.k joins (at.n + size_rows of + 1) at.top
  pub later : Later (goal_of at.k (at.n + size_rows of) joins) at.top

pub record StatementWait (given : Bounds) (w : Option ℕ) (e : Tree) (environment : Environment) (rest : Code) (a : ℕ)
    (joins : List Join) (core : Environment) (low high : ℕ) (Later : Goal → ℕ → Type 0) : Type 0 where
  pub at : Place
  pub rest_is : IsCode given.constructors at.k (named w a at.names) at.n e rest
  pub stands : Stands at.names environment core low (without (awaited w) (free e))
  pub open_few : OpensAtMost given e
  pub small : nodes_of e + 1 ≤ given.most
  pub from : high ≤ at.n
  pub fresh : Fresh at.k joins (at.n + size e) at.top
  pub later : Later (goal_of at.k (atom (named w a at.names) at.n e) joins) at.top

pub record CallWait (lent : List Value) (frame : CallFrame) (Later : Goal → ℕ → ℕ → Type 0) : Type 0 where
  pub k : Then
  pub low : ℕ
  pub top : ℕ
  pub lent_is : frame.lent ≡ lent
  pub rest_is : frame.rest ≡ after k frame.variable
  pub from : low ≤ frame.variable
  pub fresh : Fresh k frame.joins (frame.variable + 1) top
  pub later : Later (goal_of k frame.variable frame.joins) low top

-- Frames of the source wait for a value that goes there. The last function that waits is `main`'s caller, which is none, and
-- was lent nothing.
abbrev pub Waits : Bounds → List Frame → Goal → Environment → ℕ → ℕ → List CallFrame → Type 0
Waits given (arguments form vs es environment ∷ fs) (goes_on rest a joins) core low high frames =
    ArgumentsWait given form vs es environment rest a joins core low high (λ goal top. Waits given fs goal core low top frames)
Waits given (branches positive negative environment ∷ fs) (goes_on rest a joins) core low high frames =
    BranchesWait given positive negative environment rest a joins core low high
    (λ goal top. Waits given fs goal core low top frames)
Waits given (rows of environment ∷ fs) (goes_on rest a joins) core low high frames =
    RowsWait given of environment rest a joins core low high (λ goal top. Waits given fs goal core low top frames)
Waits given (statement w e environment ∷ fs) (goes_on rest a joins) core low high frames =
    StatementWait given w e environment rest a joins core low high (λ goal top. Waits given fs goal core low top frames)
Waits given (call lent ∷ fs) returns core low high [] = (fs ≡ []) × (lent ≡ [])
Waits given (call lent ∷ fs) returns core low high (frame ∷ frames) =
    CallWait lent frame (λ goal low top. Waits given fs goal frame.environment low top frames)
Waits given fs goal core low high frames = ⊥

-- the frames wait as well where more is bound, from `low` on
pub waits_move : (given : Bounds) (fs : List Frame) (goal : Goal) (core after_it : Environment) (low low_after high high_after : ℕ)
    (frames : List CallFrame)
    → SameBelow low core after_it → low ≤ low_after → high_after ≤ high
    → Waits given fs goal core low high frames → Waits given fs goal after_it low_after high_after frames
waits_move given (arguments form vs es environment ∷ fs)
    (goes_on rest a joins) core after_it low low_after high high_after frames same le ge waits =
    record {
      at = waits.at;
      m = waits.m;
      held = waits.held;
      number_is = waits.number_is;
      values_are = values_later core after_it low waits.held same waits.held_low ∙ waits.values_are;
      held_low = all_below_more low low_after waits.held le waits.held_low;
      rest_is = waits.rest_is;
      stands = stands_later waits.at.names environment core after_it low low_after (free_all es) same le waits.stands;
      open_few = waits.open_few;
      small = waits.small;
      from = omega (arith, waits.from);
      fresh = waits.fresh;
      later = waits_move given fs
          (goal_of waits.at.k waits.m joins) core after_it low low_after waits.at.top waits.at.top frames same le
          (omega arith) waits.later;
    }
waits_move given (branches positive negative environment ∷ fs)
    (goes_on rest a joins) core after_it low low_after high high_after frames same le ge waits =
    record {
      at = waits.at;
      first = waits.first;
      second = waits.second;
      first_is = waits.first_is;
      second_is = waits.second_is;
      rest_is = waits.rest_is;
      stands = stands_later waits.at.names environment core after_it low low_after
          (free positive ++ free negative) same le waits.stands;
      positive_opens = waits.positive_opens;
      negative_opens = waits.negative_opens;
      small = waits.small;
      from = omega (arith, waits.from);
      fresh = waits.fresh;
      later = waits_move given fs (goal_of waits.at.k (waits.at.n + size positive
          + size negative) joins) core after_it low low_after waits.at.top waits.at.top frames same le (omega arith) waits.later;
    }
waits_move given (rows of environment ∷ fs)
    (goes_on rest a joins) core after_it low low_after high high_after frames same le ge waits =
    record {
      at = waits.at;
      decisions = waits.decisions;
      arms = waits.arms;
      decide = waits.decide;
      arms_are = waits.arms_are;
      rest_is = waits.rest_is;
      stands = stands_later waits.at.names environment core after_it low low_after (free_rows of) same le waits.stands;
      open_few = waits.open_few;
      small = waits.small;
      from = omega (arith, waits.from);
      fresh = waits.fresh;
      later = waits_move given fs (goal_of waits.at.k (waits.at.n
          + size_rows of) joins) core after_it low low_after waits.at.top waits.at.top frames same le (omega arith) waits.later;
    }
waits_move given (statement w e environment ∷ fs)
    (goes_on rest a joins) core after_it low low_after high high_after frames same le ge waits =
    record {
      at = waits.at;
      rest_is = waits.rest_is;
      stands = stands_later waits.at.names environment core after_it low low_after
          (without (awaited w) (free e)) same le waits.stands;
      open_few = waits.open_few;
      small = waits.small;
      from = omega (arith, waits.from);
      fresh = waits.fresh;
      later = waits_move given fs
          (goal_of waits.at.k (atom
          (named w a waits.at.names) waits.at.n e) joins) core after_it low low_after waits.at.top waits.at.top frames same le
          (omega arith) waits.later;
    }
waits_move given (call lent ∷ fs) returns core after_it low low_after high high_after [] same le ge waits = waits
waits_move given (call lent ∷ fs) returns core after_it low low_after high high_after (frame ∷ frames) same le ge waits = waits
waits_move given [] goal core after_it low low_after high high_after frames same le ge waits = absurd waits
waits_move given (arguments form vs es environment
    ∷ fs) returns core after_it low low_after high high_after frames same le ge waits = absurd waits
waits_move given (arguments form vs es environment
    ∷ fs) nowhere core after_it low low_after high high_after frames same le ge waits = absurd waits
waits_move given (branches positive negative environment
    ∷ fs) returns core after_it low low_after high high_after frames same le ge waits = absurd waits
waits_move given (branches positive negative environment
    ∷ fs) nowhere core after_it low low_after high high_after frames same le ge waits = absurd waits
waits_move given (statement w e environment ∷ fs) returns core after_it low low_after high high_after frames same le ge waits =
    absurd waits
waits_move given (statement w e environment ∷ fs) nowhere core after_it low low_after high high_after frames same le ge waits =
    absurd waits
waits_move given (call lent ∷ fs) nowhere core after_it low low_after high high_after frames same le ge waits = absurd waits
waits_move given (call lent ∷ fs) (goes_on rest a joins) core after_it low low_after high high_after frames same le ge waits =
    absurd waits
waits_move given (rows of environment ∷ fs) returns core after_it low low_after high high_after frames same le ge waits =
    absurd waits
waits_move given (rows of environment ∷ fs) nowhere core after_it low low_after high high_after frames same le ge waits =
    absurd waits

-- no frames wait for a value that goes nowhere
pub waits_nowhere : (given : Bounds) (fs : List Frame) (core : Environment) (low high : ℕ) (frames : List CallFrame)
    → Waits given fs nowhere core low high frames → ⊥
waits_nowhere given [] core low high frames waits = waits
waits_nowhere given (arguments form vs es environment ∷ fs) core low high frames waits = waits
waits_nowhere given (branches positive negative environment ∷ fs) core low high frames waits = waits
waits_nowhere given (rows of environment ∷ fs) core low high frames waits = waits
waits_nowhere given (statement w e environment ∷ fs) core low high frames waits = waits
waits_nowhere given (call lent ∷ fs) core low high frames waits = waits

-- as many call frames stand: the running one, and those of the functions that wait
pub calls_are : (given : Bounds) (fs : List Frame) (goal : Goal) (core : Environment) (low high : ℕ) (frames : List CallFrame)
    → Waits given fs goal core low high frames → call_frames fs ≡ suc (length frames)
calls_are given [] goal core low high frames waits = absurd waits
calls_are given (arguments form vs es environment ∷ fs) (goes_on rest a joins) core low high frames waits =
    calls_are given fs (goal_of waits.at.k waits.m joins) core low waits.at.top frames waits.later
calls_are given (branches positive negative environment ∷ fs) (goes_on rest a joins) core low high frames waits =
    calls_are given fs (goal_of waits.at.k (waits.at.n + size positive
    + size negative) joins) core low waits.at.top frames waits.later
calls_are given (rows of environment ∷ fs) (goes_on rest a joins) core low high frames waits =
    calls_are given fs (goal_of waits.at.k (waits.at.n + size_rows of) joins) core low waits.at.top frames waits.later
calls_are given (statement w e environment ∷ fs) (goes_on rest a joins) core low high frames waits =
    calls_are given fs (goal_of waits.at.k
    (atom (named w a waits.at.names) waits.at.n e) joins) core low waits.at.top frames waits.later
calls_are given (call lent ∷ fs) returns core low high [] waits = rw waits.0 refl
calls_are given (call lent ∷ fs) returns core low high (frame ∷ frames) waits =
    ap suc (calls_are given fs
    (goal_of waits.k frame.variable frame.joins) frame.environment waits.low waits.top frames waits.later)
calls_are given (arguments form vs es environment ∷ fs) returns core low high frames waits = absurd waits
calls_are given (arguments form vs es environment ∷ fs) nowhere core low high frames waits = absurd waits
calls_are given (branches positive negative environment ∷ fs) returns core low high frames waits = absurd waits
calls_are given (branches positive negative environment ∷ fs) nowhere core low high frames waits = absurd waits
calls_are given (statement w e environment ∷ fs) returns core low high frames waits = absurd waits
calls_are given (statement w e environment ∷ fs) nowhere core low high frames waits = absurd waits
calls_are given (call lent ∷ fs) nowhere core low high frames waits = absurd waits
calls_are given (call lent ∷ fs) (goes_on rest a joins) core low high frames waits = absurd waits
calls_are given (rows of environment ∷ fs) returns core low high frames waits = absurd waits
calls_are given (rows of environment ∷ fs) nowhere core low high frames waits = absurd waits

-- the nodes of the expression that the newest frame goes on with at once, when it has its value
abbrev pub due : List Frame → ℕ
due (arguments form vs (tree e es) environment ∷ fs) = nodes_of e + 1
due (statement w e environment ∷ fs) = nodes_of e + 1
due fs = 0

pub due_small : (given : Bounds) (fs : List Frame) (goal : Goal) (core : Environment) (low high : ℕ) (frames : List CallFrame)
    → Waits given fs goal core low high frames → due fs ≤ given.most
due_small given [] goal core low high frames waits = absurd waits
due_small given (arguments form vs (tree e es) environment ∷ fs) (goes_on rest a joins) core low high frames waits =
    omega (arith, waits.small)
due_small given (arguments form vs (tree e es) environment ∷ fs) returns core low high frames waits = absurd waits
due_small given (arguments form vs (tree e es) environment ∷ fs) nowhere core low high frames waits = absurd waits
due_small given (arguments form vs no_tree environment ∷ fs) goal core low high frames waits = omega arith
due_small given (branches positive negative environment ∷ fs) goal core low high frames waits = omega arith
due_small given (rows of environment ∷ fs) goal core low high frames waits = omega arith
due_small given (statement w e environment ∷ fs) (goes_on rest a joins) core low high frames waits = omega (arith, waits.small)
due_small given (statement w e environment ∷ fs) returns core low high frames waits = absurd waits
due_small given (statement w e environment ∷ fs) nowhere core low high frames waits = absurd waits
due_small given (call lent ∷ fs) goal core low high frames waits = omega arith

pub due_returns : (given : Bounds) (fs : List Frame) (core : Environment) (low high : ℕ) (frames : List CallFrame)
    → Waits given fs returns core low high frames → due fs ≡ 0
due_returns given [] core low high frames waits = refl
due_returns given (arguments form vs es environment ∷ fs) core low high frames waits = absurd waits
due_returns given (branches positive negative environment ∷ fs) core low high frames waits = refl
due_returns given (rows of environment ∷ fs) core low high frames waits = refl
due_returns given (statement w e environment ∷ fs) core low high frames waits = absurd waits
due_returns given (call lent ∷ fs) core low high frames waits = refl
