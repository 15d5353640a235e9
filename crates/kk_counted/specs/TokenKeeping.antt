-- What is true of the tokens in each state of a run of code that spends them: each cell is free, a token or counted, each token
-- belongs to one slot, and the chain lists the held slots that are not null.
use Rattle.std.specs.Prelude.{◌≡◌, ℕ, ◌+◌, ◌≤◌, ◌<◌, Bool, true, List, [], ◌∷◌, map, length, if◌then◌else◌}
use Rattle.kk_base.specs.Machines.{state}
use Rattle.kk_syntax.specs.declared.program.Form.{Form}
use Rattle.kk_syntax.specs.declared.program.Form.TheVariants.{Call}
use Rattle.kk_syntax.specs.Shapes.{is_among, without}
use Rattle.kk_source.specs.Live.{value_of}
use Rattle.kk_counted.specs.Heaps.{Heap, count_at, fields_held, busy}
use Rattle.kk_counted.specs.Spending.{AreApart}
use Rattle.kk_counted.specs.TokenedCodes.{Tokened}
use Rattle.kk_counted.specs.Tokens.{Slot, spent, token, is_unspent, is_token, token_of, Link, Tokens, marked}
use Rattle.kk_counted.specs.TokenStates.{TokenSetting, TokenJoin, TokenFrame, TokenControl, TokenConfiguration, TokenState, token_first_state}
use Rattle.kk_counted.specs.TokenMachine.{filled, token_machine}
use Rattle.kk_counted.specs.TokenSpending.{SpendsTokens}

-- A slot has the token of a cell exactly where that cell's mark is of this slot. A cell that is a token is there and not counted.
-- Those that are counted and those that are tokens are together no more than there are cells.
pub record ArePooled (cells : ℕ) (heap : Heap) (tokens : Tokens) : Type 0 where
  pub marks : (f y p : ℕ) → tokens.slots f y ≡ token p → tokens.marks p ≡ token_of f y
  pub slots : (f y p : ℕ) → tokens.marks p ≡ token_of f y → tokens.slots f y ≡ token p
  pub uncounted : (f y p : ℕ) → tokens.marks p ≡ token_of f y → count_at heap p ≡ 0
  pub there : (f y p : ℕ) → tokens.marks p ≡ token_of f y → p < length heap
  pub room : busy heap + marked tokens.marks (length heap) ≤ cells

-- the held slots of a frame that have a token, the newest first, before other links
abbrev pub links_of : (ℕ → Slot) → ℕ → List ℕ → List Link → List Link
links_of slots f [] older = older
links_of slots f (y ∷ ys) older =
    if is_token (slots y) then record { frame = f; slot = y } ∷ links_of slots f ys older else links_of slots f ys older

-- the same of all frames, by the held slots of each, the newest frame first
abbrev pub chain_of : (ℕ → ℕ → Slot) → List (List ℕ) → List Link
chain_of slots [] = []
chain_of slots (held ∷ older) = links_of (slots (length older)) (length older) held (chain_of slots older)

-- The tokens of a state, by the held slots of each frame. No slot beyond the running frame has a token.
pub record AreTokens (cells : ℕ) (heap : Heap) (tokens : Tokens) (helds : List (List ℕ)) : Type 0 where
  pub pooled : ArePooled cells heap tokens
  pub chain : tokens.chain ≡ chain_of tokens.slots helds
  pub beyond : (f y : ℕ) → length helds ≤ f → tokens.slots f y ≡ spent

-- the code behind the innermost block spends what that block leaves, and so on; the body of a function leaves nothing
abbrev pub WaitTokens : List ℕ → List TokenJoin → Type 0
WaitTokens left [] = left ≡ []
WaitTokens left (join ∷ joins) = (outer : List ℕ) × (SpendsTokens outer left [] join.rest × WaitTokens outer joins)

-- the unspent slots of a frame
abbrev pub AreUnspent : (ℕ → Slot) → List ℕ → Type 0
AreUnspent slots unspent = (y : ℕ) → is_unspent (slots y) ≡ is_among unspent y

-- A function that waits for a call: its rest spends its tokens, which are all held.
pub record IsHeldFrame (slots : ℕ → Slot) (held : List ℕ) (frame : TokenFrame) : Type 0 where
  pub left : List ℕ
  pub unspent : List ℕ
  pub spends : SpendsTokens left unspent held frame.rest
  pub waits : WaitTokens left frame.joins
  pub slots_are : AreUnspent slots unspent
  pub all_held : (y : ℕ) → is_among unspent y ≡ true → is_among held y ≡ true
  pub apart : AreApart held

abbrev pub AreHeldFrames : (ℕ → ℕ → Slot) → List (List ℕ) → List TokenFrame → Type 0
AreHeldFrames slots [] [] = Unit {0}
AreHeldFrames slots (held ∷ helds) (frame ∷ frames) =
    IsHeldFrame (slots (length helds)) held frame × AreHeldFrames slots helds frames
AreHeldFrames slots _ _ = ⊥

-- A function that runs, at a code inside of blocks, by its lists: the slots that the block leaves, those that are unspent, those
-- that are held, and those that older frames hold.
pub record IsJudged (cells : ℕ) (left unspent held : List ℕ) (older : List (List ℕ)) (code : Tokened) (joins : List TokenJoin)
    (frames : List TokenFrame) (heap : Heap) (tokens : Tokens) : Type 0 where
  pub spends : SpendsTokens left unspent held code
  pub waits : WaitTokens left joins
  pub slots_are : AreUnspent (tokens.slots (length older)) unspent
  pub apart : AreApart held
  pub waiting : AreHeldFrames tokens.slots older frames
  pub are : AreTokens cells heap tokens (held ∷ older)

-- the lists by which a function that runs is judged
pub record Lists : Type 0 where
  pub left : List ℕ
  pub unspent : List ℕ
  pub held : List ℕ
  pub older : List (List ℕ)

abbrev pub AreKeptAt : ℕ → TokenConfiguration → TokenControl → Type 0
AreKeptAt cells c (TokenControl.running code environment joins) =
    (lists : Lists) × IsJudged cells lists.left lists.unspent lists.held lists.older code joins c.frames c.heap c.tokens
AreKeptAt cells c _ = (helds : List (List ℕ)) × AreTokens cells c.heap c.tokens helds

-- the tokens of a state are kept
abbrev pub AreKept : ℕ → TokenConfiguration → Type 0
AreKept cells c = AreKeptAt cells c c.control

-- ---- what the lists become at a step

-- a call begins without tokens, and what the caller holds is on the chain; else the lists stay
abbrev pub ListsAfterForm : Form → Lists → Lists → Type 0
ListsAfterForm (Call f) lists next = next ≡ record { left = []; unspent = []; held = []; older = lists.held ∷ lists.older }
ListsAfterForm _ lists next = next ≡ lists

-- By the code and the blocks that it is in: a block leaves its unspent tokens to the one around it; a function that gives back
-- leaves the lists of the older frames.
abbrev pub ListsAfter : Tokened → List TokenJoin → Lists → Lists → Type 0
ListsAfter (Tokened.give x) [] lists next = lists.older ≡ next.held ∷ next.older
ListsAfter (Tokened.give x) (join ∷ joins) lists next =
    (next.unspent ≡ lists.left) × ((next.held ≡ []) × (next.older ≡ lists.older))
ListsAfter (Tokened.tail_call f arguments) joins lists next =
    next ≡ record { left = []; unspent = []; held = []; older = lists.older }
ListsAfter (Tokened.compute x form arguments others rest) joins lists next = ListsAfterForm form lists next
ListsAfter (Tokened.inside x block rest) joins lists next =
    (next.unspent ≡ lists.unspent) × ((next.held ≡ []) × (next.older ≡ lists.older))
ListsAfter (Tokened.open_cell x c fields used y rest) joins lists next = next ≡ record lists { unspent = y ∷ lists.unspent }
ListsAfter (Tokened.if_unique x c fields used y rest) joins lists next = next ≡ record lists { unspent = y ∷ lists.unspent }
ListsAfter (Tokened.fill x y c first arguments kept others rest) joins lists next =
    next ≡ record lists { unspent = without (y ∷ []) lists.unspent }
ListsAfter (Tokened.free y rest) joins lists next = next ≡ record lists { unspent = without (y ∷ []) lists.unspent }
ListsAfter (Tokened.null y rest) joins lists next = next ≡ record lists { unspent = y ∷ lists.unspent }
ListsAfter (Tokened.move to of rest) joins lists next = next ≡ record lists { unspent = to ∷ without (of ∷ []) lists.unspent }
ListsAfter (Tokened.hold y rest) joins lists next = next ≡ record lists { held = y ∷ lists.held }
ListsAfter (Tokened.unhold y rest) joins lists next = lists ≡ record next { held = y ∷ next.held }
ListsAfter _ joins lists next = next ≡ lists

-- a state is kept, by lists of which something is true
abbrev pub AreKeptByAt : ℕ → (Lists → Type 0) → TokenConfiguration → TokenControl → Type 0
AreKeptByAt cells P c (TokenControl.running code environment joins) =
    (lists : Lists) × (P lists × IsJudged cells lists.left lists.unspent lists.held lists.older code joins c.frames c.heap c.tokens)
AreKeptByAt cells P c _ = (helds : List (List ℕ)) × AreTokens cells c.heap c.tokens helds

abbrev pub AreKeptBy : ℕ → (Lists → Type 0) → TokenConfiguration → Type 0
AreKeptBy cells P c = AreKeptByAt cells P c c.control

-- ---- constructions that leave fields

-- Where a construction fills a token's cell, leaving the fields that it is to keep gives what writing all of them gives.
abbrev pub FillsAt : Bool → TokenConfiguration → TokenControl → Type 0
FillsAt leaves c (TokenControl.running (Tokened.fill x y k first arguments kept others rest) environment joins) =
    (p : ℕ) → c.tokens.slots (length c.frames) y ≡ token p
    → filled leaves kept (fields_held c.heap p) (map (value_of environment) (first ∷ arguments))
    ≡ map (value_of environment) (first ∷ arguments)
FillsAt leaves c _ = Unit {0}

-- the machine after so many steps of a run
abbrev pub token_after : (TokenState → ℕ) → TokenSetting → List ℕ → ℕ → TokenConfiguration
token_after weight setting input n = (state (token_machine weight setting) n (token_first_state setting input)).machine

abbrev pub FillsAlways : (TokenState → ℕ) → TokenSetting → List ℕ → Type 0
FillsAlways weight setting input =
    (n : ℕ) → FillsAt setting.leaves (token_after weight setting input n) (token_after weight setting input n).control
