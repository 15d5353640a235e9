-- Call frames, of code in either form: `cells` are the values of a frame in the one, and the slots of its frame in the other.
use Rattle.std.specs.Prelude.{◌==◌, ℕ, List, [], ◌∷◌, Option, Some, None, Bool, cond, option_map}
use Rattle.std.specs.List.{list_any}

-- function: the number of its function
-- whole: the code of its function, with its labels
-- code: the code that is left
-- cells: the word of each cell that was written
-- held: the cells that hold a held token, the newest first
-- into: where the result goes of the call that the frame waits for
pub record Frame (C : Type 0) : Type 0 where
  pub function : ℕ
  pub whole : List C
  pub code : List C
  pub cells : ℕ → Option ℕ
  pub held : List ℕ
  pub into : Option ℕ

-- nothing was written
abbrev pub empty : ℕ → Option ℕ
empty cell = None

abbrev pub put : ℕ → Option ℕ → (ℕ → Option ℕ) → ℕ → Option ℕ
put at word cells cell = cond (cell == at) word (cells cell)

abbrev pub put_into : Option ℕ → ℕ → (ℕ → Option ℕ) → ℕ → Option ℕ
put_into None word cells = cells
put_into (Some at) word cells = put at (Some word) cells

-- each word, where all are there
abbrev pub all_of : List (Option ℕ) → Option (List ℕ)
all_of [] = Some []
all_of (None ∷ words) = None
all_of (Some word ∷ words) = option_map (λ rest. word ∷ rest) (all_of words)

abbrev pub only_of : {A : Type 0} → List A → Option A
only_of [] = None
only_of (a ∷ []) = Some a
only_of (a ∷ b ∷ more) = None

-- what stands there twice
abbrev pub twice_of : List ℕ → Option ℕ
twice_of (a ∷ b ∷ []) = cond (a == b) (Some a) None
twice_of _ = None

-- what a return gives: nothing, or a word
abbrev pub result_of : List ℕ → Option (Option ℕ)
result_of [] = Some None
result_of (word ∷ []) = Some (Some word)
result_of (word ∷ other ∷ more) = None

-- the cells of a frame that gets the result of its call
abbrev pub received : Option ℕ → Option ℕ → (ℕ → Option ℕ) → Option (ℕ → Option ℕ)
received None result cells = Some cells
received (Some at) None cells = None
received (Some at) (Some word) cells = Some (put at (Some word) cells)

-- the code from the first line on that is marked
abbrev pub found : {C : Type 0} → (C → Bool) → List C → Option (List C)
found marks [] = None
found marks (line ∷ code) = cond (marks line) (Some (line ∷ code)) (found marks code)

-- the newest held token
abbrev pub top_in : List ℕ → (ℕ → Option ℕ) → Option ℕ → Option ℕ
top_in [] cells below = below
top_in (cell ∷ more) cells below = cells cell

abbrev pub top : {C : Type 0} → List (Frame C) → Option ℕ
top [] = None
top (frame ∷ frames) = top_in frame.held frame.cells (top frames)

-- the frames from which the newest held token was taken: its cell becomes 0
abbrev pub taken_in : {C : Type 0} → List ℕ → Frame C → List (Frame C) → Option (List (Frame C)) → Option (List (Frame C))
taken_in [] frame frames below = option_map (λ later. frame ∷ later) below
taken_in (cell ∷ more) frame frames below = Some (record frame { cells = put cell (Some 0) frame.cells; held = more } ∷ frames)

abbrev pub top_taken : {C : Type 0} → List (Frame C) → Option (List (Frame C))
top_taken [] = None
top_taken (frame ∷ frames) = taken_in frame.held frame frames (top_taken frames)

abbrev pub taken_if : {C : Type 0} → Bool → List (Frame C) → Option (List (Frame C))
taken_if took frames = cond took (top_taken frames) (Some frames)

abbrev pub is_among : ℕ → List ℕ → Bool
is_among cell cells = list_any (λ other. other == cell) cells

-- Holding the token of a cell, if it is not null. It must not be on the chain.
abbrev pub holding : ℕ → ℕ → List ℕ → Option (List ℕ)
holding cell word held = cond (is_among cell held) None (cond (word == 0) (Some held) (Some (cell ∷ held)))

-- taking the newest one off
abbrev pub off_top : ℕ → List ℕ → Option (List ℕ)
off_top cell [] = None
off_top cell (newest ∷ held) = cond (newest == cell) (Some held) None

-- Taking back the token of a cell. It must be the newest one, or null and not on the chain.
abbrev pub unholding : ℕ → ℕ → List ℕ → Option (List ℕ)
unholding cell word held = cond (word == 0) (cond (is_among cell held) None (Some held)) (off_top cell held)
