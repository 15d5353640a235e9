-- When a state of the counted machine stands for one of the core machine.
use Rattle.std.proofs.Common.{◌≡◌, ℕ, ◌+◌, ◌*◌, ◌≤◌, false, List, [], ◌∷◌, ◌++◌, length, Option, Some, None}
use Rattle.kk_syntax.specs.Shapes.{is_among, without}
use Rattle.kk_syntax.specs.PositionsOf.{PositionTable}
use Rattle.kk_source.specs.State.{Value, Store, Environment}
use Rattle.kk_source.specs.Actions.{Action, performed}
use Rattle.kk_core.specs.Codes.{Code, FunctionCode}
use Rattle.kk_core.specs.CoreStates.{CoreSetting, Join, CallFrame, CoreControl, running, stopped, CoreConfiguration, CoreState}
use Rattle.kk_core.specs.Sizes.{forms, most_forms}
use Rattle.kk_counted.specs.Heaps.{Heap, forwards}
use Rattle.kk_counted.specs.CountedCosts.{drop_cost}
use Rattle.kk_counted.specs.CountedStates as Counted
use Rattle.kk_counted.specs.CountedStates.{CountedJoin, CountedFrame, CountedConfiguration, CountedState}
use Rattle.kk_counted.specs.References.{refs, IsSound}
use Rattle.kk_counted.specs.Spending.{AreApart, left_by}
use Rattle.kk_counted.specs.Keeping.{values_of, AreReached}
use Rattle.kk_insert.specs.Meaning.{inserted_setting, LeavesNone}
use Rattle.kk_insert.specs.Insertion.{dropping, owns, own, back, insert}
use Rattle.kk_insert.specs.Promise.{LendsOn}
use Rattle.kk_insert.proofs.Sets.{Part, among_next}
use Rattle.kk_insert.proofs.VariableBindings.{IsFine}
use Rattle.kk_insert.proofs.Spending.{at_tail}
use Rattle.kk_insert.proofs.Paths.{Priced, Passing, conf, PathBy}

module _ (positions : PositionTable) (source : List FunctionCode) where
  -- ---- by the lent variables of a function

  module _ (lent : List ℕ) where
    -- what the innermost block leaves to the code behind it
    abbrev pub left_of : List Join → Option (List ℕ)
    left_of [] = None
    left_of (join ∷ joins) =
        Some (without (join.variable ∷ []) (own positions lent (left_by (left_of joins)) join.rest))

    abbrev pub image_joins : List Join → List CountedJoin
    image_joins [] = []
    image_joins (join ∷ joins) =
        record {
          variable = join.variable;
          rest = dropping (join.variable ∷ []) (own positions lent (left_by (left_of joins)) join.rest)
              (insert positions lent (left_by (left_of joins)) join.rest);
        } ∷ image_joins joins

    -- a code in its place: what is bound before it, and what is left behind it
    pub record CodeOk (left : Option (List ℕ)) (code : Code) : Type 0 where
      pub bound : List ℕ
      pub fine : IsFine lent bound code
      pub lends_on : LendsOn positions source lent (at_tail left) code
      pub part : Part (left_by left) bound
      pub apart : AreApart (left_by left)
      pub small : forms code ≤ most_forms

    -- a code that waits for the value of a variable
    pub record RestOk (left : Option (List ℕ)) (x : ℕ) (rest : Code) : Type 0 where
      pub bound : List ℕ
      pub new : is_among bound x ≡ false
      pub unlent : is_among lent x ≡ false
      pub fine : IsFine lent (x ∷ bound) rest
      pub lends_on : LendsOn positions source lent (at_tail left) rest
      pub part : Part (left_by left) bound
      pub apart : AreApart (left_by left)
      pub small : forms rest ≤ most_forms

    abbrev pub JoinsOk : List Join → Type 0
    JoinsOk [] = Unit {0}
    JoinsOk (join ∷ joins) = RestOk (left_of joins) join.variable join.rest × JoinsOk joins

    pub rest_code : (left : Option (List ℕ)) (x : ℕ) (rest : Code) → RestOk left x rest → CodeOk left rest
    rest_code left x rest ok =
        record {
          bound = x ∷ ok.bound;
          fine = ok.fine;
          lends_on = ok.lends_on;
          part = λ y is. among_next x y ok.bound
              (ok.part y is);
          apart = ok.apart;
          small = ok.small;
        }

  -- ---- functions that wait

  abbrev pub image_frame : List ℕ → List ℕ → CallFrame → CountedFrame
  image_frame lent given frame =
      record {
        variable = frame.variable;
        rest = back lent given frame.variable (own positions lent (left_by (left_of lent frame.joins)) frame.rest)
            (insert positions lent (left_by (left_of lent frame.joins)) frame.rest);
        joins = image_joins lent frame.joins;
        environment = frame.environment;
      }

  -- the function's lent variables, and those that its call was lent; it owns the others that it lent, and what it needs then
  pub record FrameStands (store : Store) (frame : CallFrame) (c : CountedFrame) (below beneath : List Value) : Type 0 where
    pub lent : List ℕ
    pub given : List ℕ
    pub is : c ≡ image_frame lent given frame
    pub rest : RestOk lent (left_of lent frame.joins) frame.variable frame.rest
    pub new : is_among given frame.variable ≡ false
    pub joins : JoinsOk lent frame.joins
    pub owned : below ≡ values_of frame.environment
        (owns lent given (without (frame.variable ∷ []) (own positions lent (left_by (left_of lent frame.joins)) frame.rest))) ++
        beneath
    pub lends : (q : ℕ) → refs frame.lent q ≡ refs (values_of frame.environment given) q
    pub reached : AreReached store beneath frame.environment lent

  abbrev pub FramesStand : Store → List CallFrame → List CountedFrame → List Value → Type 0
  FramesStand store [] [] below = below ≡ []
  FramesStand store [] (c ∷ cs) below = ⊥
  FramesStand store (frame ∷ older) [] below = ⊥
  FramesStand store (frame ∷ older) (c ∷ cs) below =
      (beneath : List Value) × (FrameStands store frame c below beneath × FramesStand store older cs beneath)

  -- ---- states

  -- the cost of a drop is saved for each reference that the function that runs owns, and each of those that wait
  pub record Active (code : Code) (environment : Environment) (joins : List Join) (from : CoreConfiguration) (credit : ℕ)
      (c : CountedConfiguration) : Type 0 where
    pub lent : List ℕ
    pub below : List Value
    pub frames : List CountedFrame
    pub heap : Heap
    pub is : c ≡ conf (insert positions lent (left_by (left_of lent joins)) code) environment (image_joins lent joins) frames heap
    pub store : from.store ≡ forwards heap
    pub waits : FramesStand from.store from.frames frames below
    pub code_ok : CodeOk lent (left_of lent joins) code
    pub joins_ok : JoinsOk lent joins
    pub reached : AreReached from.store below environment lent
    pub sound : IsSound (values_of environment (own positions lent (left_by (left_of lent joins)) code) ++ below) heap
    pub saved : drop_cost * (length (own positions lent (left_by (left_of lent joins)) code) + length below) ≤ credit

  abbrev pub StandsAt : CoreControl → CoreConfiguration → ℕ → CountedConfiguration → Type 0
  StandsAt (running code environment joins) s credit c = Active code environment joins s credit c
  StandsAt (stopped by) s credit c = (c.control ≡ Counted.stopped by) × LeavesNone by c.heap

  abbrev pub Stands : CoreState → ℕ → CountedState → Type 0
  Stands s credit t = (t.input ≡ s.input) × StandsAt s.machine.control s.machine credit t.machine

  -- the counted machine does what an action of the core machine does, through states of a kind, at a cost of at most `most`
  abbrev pub FollowsBy : (CountedState → Type 0) → Priced → (least most : ℕ) → Action CoreConfiguration → List ℕ
      → CountedState → Type 0
  FollowsBy Q priced least most action input t =
      PathBy Q priced least most (performed action input).0 (Stands (performed action input).1) t

  -- through states that are not at a case
  abbrev pub Follows : Priced → (least most : ℕ) → Action CoreConfiguration → List ℕ → CountedState → Type 0
  Follows priced = FollowsBy (Passing priced.setting) priced

-- an inserted program with room
abbrev pub inserted_at : ℕ → CoreSetting → Priced
inserted_at room setting = record { setting = inserted_setting setting; room = room }
