-- Typed states of the core machine: what runs and what waits is typed by facts that are true of its variables.
use Rattle.std.proofs.Common.{◌≡◌, ℕ, ◌+◌, ◌≤◌, Bool, true, List, [], ◌∷◌, ◌++◌, arith}
use Rattle.kk_syntax.specs.GroundTyping.{Table}
use Rattle.kk_syntax.specs.Types.{TypeTree, unit_type}
use Rattle.kk_source.specs.State.{Store, Environment}
use Rattle.kk_core.specs.Codes.{Code}
use Rattle.kk_core.specs.CoreStates.{Join, CallFrame, CoreControl, running, stopped, CoreConfiguration}
use Rattle.kk_core.specs.CoreTyping.{Facts, typing, HasCodeType}
use Rattle.kk_core.specs.Sizes.{Ordered}
use Rattle.kk_core.proofs.VariableFacts.{Stand, SameBelow, stand_move, stand_longer}

module _ (table : Table) where
  -- A join waits for a value of type t, where the variables that are read are below `low`, and those that the code inside binds
  -- below `high`. `Later` says of its own code what waits behind it.
  pub record JoinWaits (store : Store) (join : Join) (joins : List Join) (environment : Environment) (low high : ℕ) (t : TypeTree)
      (Later : ℕ → TypeTree → Type 0) : Type 0 where
    pub facts : Facts
    pub names : List ℕ
    pub top : ℕ
    pub tail : Bool
    pub type : TypeTree
    pub stand : Stand table.constructors store facts environment low
    pub above : high ≤ join.variable
    pub ordered : Ordered names (join.variable + 1) join.rest top
    pub typed : HasCodeType table tail (typing join.variable t facts) join.rest type
    pub alone : tail ≡ true → joins ≡ []
    pub wait : Later top type

  -- joins wait for a value of type t, and the function gives one of type r
  abbrev pub JoinsWait : Store → Environment → ℕ → ℕ → List Join → TypeTree → TypeTree → Type 0
  JoinsWait store environment low high [] t r = t ≡ r
  JoinsWait store environment low high (join ∷ joins) t r =
      JoinWaits store join joins environment low high t (λ top type. JoinsWait store environment low top joins type r)

  -- a function waits for a call's value of type t, and gives one of type r
  pub record FrameWaits (store : Store) (frame : CallFrame) (t r : TypeTree) : Type 0 where
    pub facts : Facts
    pub names : List ℕ
    pub high : ℕ
    pub tail : Bool
    pub type : TypeTree
    pub stand : Stand table.constructors store facts frame.environment frame.variable
    pub ordered : Ordered names (frame.variable + 1) frame.rest high
    pub typed : HasCodeType table tail (typing frame.variable t facts) frame.rest type
    pub alone : tail ≡ true → frame.joins ≡ []
    pub wait : JoinsWait store frame.environment frame.variable high frame.joins type r

  -- functions wait for a value of a type; that of `main` is `()`
  abbrev pub FramesWait : Store → List CallFrame → TypeTree → Type 0
  FramesWait store [] t = t ≡ unit_type
  FramesWait store (frame ∷ older) t = (r : TypeTree) × FrameWaits store frame t r × FramesWait store older r

  -- a code runs in a function that gives a value of type r
  pub record Runs (store : Store) (code : Code) (environment : Environment) (joins : List Join) (r : TypeTree) : Type 0 where
    pub facts : Facts
    pub names : List ℕ
    pub low : ℕ
    pub high : ℕ
    pub tail : Bool
    pub type : TypeTree
    pub stand : Stand table.constructors store facts environment low
    pub ordered : Ordered names low code high
    pub typed : HasCodeType table tail facts code type
    pub alone : tail ≡ true → joins ≡ []
    pub wait : JoinsWait store environment low high joins type r

  abbrev pub ControlTyped : CoreControl → Store → List CallFrame → Type 0
  ControlTyped (running code environment joins) store frames =
      (r : TypeTree) × Runs store code environment joins r × FramesWait store frames r
  ControlTyped (stopped by) store frames = Unit {0}

  abbrev pub IsStateTyped : CoreConfiguration → Type 0
  IsStateTyped c = ControlTyped c.control c.store c.frames

  -- ---- where more is bound, and in a longer store

  -- A join waits in another store and with more bound, where its facts stand there and what is behind it waits.
  join_waits_on : (store later_store : Store) (environment later : Environment) (low low_after high high_after : ℕ) (join : Join)
      (joins : List Join) (t r : TypeTree) (waits : JoinsWait store environment low high (join ∷ joins) t r)
      → Stand table.constructors later_store waits.facts later low_after → high_after ≤ high
      → JoinsWait later_store later low_after waits.top joins waits.type r
      → JoinsWait later_store later low_after high_after (join ∷ joins) t r
  join_waits_on store later_store environment later low low_after high high_after join joins t r waits stand ge wait =
      record {
        facts = waits.facts;
        names = waits.names;
        top = waits.top;
        tail = waits.tail;
        type = waits.type;
        stand = stand;
        above = omega (arith, waits.above, ge);
        ordered = waits.ordered;
        typed = waits.typed;
        alone = waits.alone;
        wait = wait;
      }

  pub joins_move : (store : Store) (environment later : Environment) (low low_after high high_after : ℕ) (joins : List Join)
      (t r : TypeTree) → SameBelow low environment later → low ≤ low_after → high_after ≤ high
      → JoinsWait store environment low high joins t r → JoinsWait store later low_after high_after joins t r
  joins_move store environment later low low_after high high_after [] t r same le ge wait = wait
  joins_move store environment later low low_after high high_after (join ∷ joins) t r same le ge wait =
      join_waits_on store store environment later low low_after high high_after join joins t r wait
      (stand_move table.constructors store wait.facts environment later low low_after same le wait.stand) ge
      (joins_move store environment later low low_after wait.top wait.top joins wait.type r same le (omega arith) wait.wait)

  module _ (store more : Store) where
    pub joins_longer : (environment : Environment) (low high : ℕ) (joins : List Join) (t r : TypeTree)
        → JoinsWait store environment low high joins t r → JoinsWait (store ++ more) environment low high joins t r
    joins_longer environment low high [] t r wait = wait
    joins_longer environment low high (join ∷ joins) t r wait =
        join_waits_on store (store ++ more) environment environment low low high high join joins t r wait
        (stand_longer table.constructors store more wait.facts environment low wait.stand) (omega arith)
        (joins_longer environment low wait.top joins wait.type r wait.wait)

    frame_longer : (frame : CallFrame) (t r : TypeTree) → FrameWaits store frame t r → FrameWaits (store ++ more) frame t r
    frame_longer frame t r wait =
        record {
          facts = wait.facts;
          names = wait.names;
          high = wait.high;
          tail = wait.tail;
          type = wait.type;
          stand = stand_longer table.constructors store more wait.facts frame.environment frame.variable wait.stand;
          ordered = wait.ordered;
          typed = wait.typed;
          alone = wait.alone;
          wait = joins_longer frame.environment frame.variable wait.high frame.joins wait.type r wait.wait;
        }

    pub frames_longer : (frames : List CallFrame) (t : TypeTree) → FramesWait store frames t → FramesWait (store ++ more) frames t
    frames_longer [] t wait = wait
    frames_longer (frame ∷ older) t wait = (wait.0, frame_longer frame t wait.0 wait.1, frames_longer older wait.0 wait.2)
