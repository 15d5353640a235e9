-- The assembler lines of the counted forms that touch cells. Value x of a function's assembler code is variable x; the values
-- from `base` on are temporaries.
use Rattle.std.specs.Prelude.{◌≡◌, ◌⊎◌, ℕ, suc, ◌+◌, ◌*◌, ◌-◌, ◌^◌, Bool, true, false, List, [], ◌∷◌, ◌++◌, length, filter, Option, Some, None, not, nat_eq, if◌then◌else◌}
use Rattle.kk_syntax.specs.Shapes.{is_among}
use Rattle.rv_isa.specs.declared.asm.Action.TheVariants.{Compute, Label, Jump, Branch, Routine as Calls, Hold, Unhold}
use Rattle.rv_isa.specs.declared.asm.Condition.{Condition}
use Rattle.rv_isa.specs.declared.asm.Condition.TheVariants.{Equal, NotEqual}
use Rattle.rv_isa.specs.declared.asm.Operation.TheVariants as Op
use Rattle.rv_isa.specs.declared.asm.ImmediateOperation.TheVariants.{Addi}
use Rattle.rv_isa.specs.declared.immediate.Immediate.{Immediate}
use Rattle.rv_isa.specs.declared.routine.Routine.TheVariants.{Take, Drop}
use Rattle.rv_isa.specs.AsmCode.{Line}
use Rattle.rv_lower.specs.Lines.{computes, sets, copies_to, acts}
use Rattle.rv_cells.specs.Layout.{first_field}

-- ---- words of cells

-- word i of the cell of a value is loaded, and stored
abbrev pub Loads : ℕ → ℕ → ℕ → Line → Type 0
Loads cell i into line = (offset : Immediate) × (offset.word ≡ 4 * i) × (line ≡ computes (Op.Lw offset) (cell ∷ []) into)

abbrev pub Stores : ℕ → ℕ → ℕ → Line → Type 0
Stores cell i from line = (offset : Immediate) × (offset.word ≡ 4 * i) × (line ≡ acts (Compute (Op.Sw offset)) (cell ∷ from ∷ []))

-- values are loaded from the words of a cell, from word i on, and stored there
abbrev pub AllLoads : ℕ → ℕ → List ℕ → List Line → Type 0
AllLoads cell i [] lines = lines ≡ []
AllLoads cell i (x ∷ xs) lines = (first : Line) × (more : List Line) × Loads cell i x first × AllLoads cell (suc i) xs more
    × (lines ≡ first ∷ more)

abbrev pub AllStores : ℕ → ℕ → List ℕ → List Line → Type 0
AllStores cell i [] lines = lines ≡ []
AllStores cell i (x ∷ xs) lines = (first : Line) × (more : List Line) × Stores cell i x first × AllStores cell (suc i) xs more
    × (lines ≡ first ∷ more)

-- a value is stored in word i of a cell, or no line is there
abbrev pub StoresIf : Bool → ℕ → ℕ → ℕ → List Line → Type 0
StoresIf true cell i from lines = (store : Line) × Stores cell i from store × (lines ≡ store ∷ [])
StoresIf false cell i from lines = lines ≡ []

-- of these values, the first at `position`, those are stored whose position is taken
abbrev pub SomeStores : (ℕ → Bool) → ℕ → ℕ → ℕ → List ℕ → List Line → Type 0
SomeStores takes cell i position [] lines = lines ≡ []
SomeStores takes cell i position (x ∷ xs) lines =
    (first : List Line) × (more : List Line) × StoresIf (takes position) cell i x first
    × SomeStores takes cell (suc i) (suc position) xs more × (lines ≡ first ++ more)

-- a word is stored in a cell by a temporary, or no line is there
abbrev pub SetIf : Bool → ℕ → ℕ → ℕ → ℕ → List Line → Type 0
SetIf true base cell i word lines = (store : Line) × Stores cell i base store × (lines ≡ sets word base ∷ store ∷ [])
SetIf false base cell i word lines = lines ≡ []

-- the positions that are kept, and the others
abbrev pub is_kept : Bool → List ℕ → ℕ → Bool
is_kept true kept position = is_among kept position
is_kept false kept position = not (is_among kept position)

-- ---- references

-- A reference more of a variable, and one that is given up. A variable of a type without cells has none.
abbrev pub dup_lines : (ℕ → Bool) → ℕ → List Line
dup_lines holds x = if holds x then acts (Compute Op.Dup) (x ∷ []) ∷ [] else []

abbrev pub drop_lines : (ℕ → Bool) → ℕ → List Line
drop_lines holds x = if holds x then acts (Calls Drop) (x ∷ []) ∷ [] else []

abbrev pub dups_lines : (ℕ → Bool) → List ℕ → List Line
dups_lines holds [] = []
dups_lines holds (x ∷ xs) = dup_lines holds x ++ dups_lines holds xs

abbrev pub drops_lines : (ℕ → Bool) → List ℕ → List Line
drops_lines holds [] = []
drops_lines holds (x ∷ xs) = drop_lines holds x ++ drops_lines holds xs

-- ---- forms

-- A construction: variable x takes a cell, and its header, its fields and the count 1 are stored.
abbrev pub ConstructLines : ℕ → ℕ → ℕ → List ℕ → List Line → Type 0
ConstructLines base x header arguments lines =
    (head : Line) × (fields : List Line) × (count : Line) × Stores x 1 base head × AllStores x first_field arguments fields
    × Stores x 0 base count
    × (lines ≡ record { action = Calls Take; args = []; into = Some x } ∷ sets header base ∷ head ∷
    (fields ++ sets 1 base ∷ count ∷ []))

-- A Hold reads its token twice, in its slot and in a register. Where the token is read behind the call, its Unhold gives it to a register
-- again.
abbrev pub hold_line : ℕ → Line
hold_line token = acts Hold (token ∷ token ∷ [])

abbrev pub back_line : ℕ → Line
back_line token = record { action = Unhold; args = token ∷ []; into = Some token }

-- Tokens are held, the first of them last. They are taken back from the first one on.
abbrev pub hold_lines : List ℕ → List Line
hold_lines [] = []
hold_lines (token ∷ tokens) = hold_lines tokens ++ (hold_line token ∷ [])

abbrev pub unhold_lines : List ℕ → List Line
unhold_lines [] = []
unhold_lines (token ∷ tokens) = acts Unhold (token ∷ []) ∷ unhold_lines tokens

-- Words of a construction are stored: its header, the fields whose position is taken, and the count 1; the header and the count
-- only where these truths say so.
abbrev pub SomeWords : Bool → Bool → (ℕ → Bool) → ℕ → ℕ → ℕ → List ℕ → List Line → Type 0
SomeWords head count takes base x header arguments lines =
    (first : List Line) × (fields : List Line) × (last : List Line) × SetIf head base x 1 header first
    × SomeStores takes x first_field 0 arguments fields × SetIf count base x 0 1 last × (lines ≡ first ++ (fields ++ last))

-- A construction in the cell of a token: variable x has the token's word. Where that is 0 a cell is taken, while the other tokens
-- are held, so that they are tried in their order, and the words are stored that the token's cell has already: the fields at the
-- kept positions, and the header and the count where these truths say so. From label `filled` on the other words are stored.
abbrev pub FillLines : ℕ → ℕ → ℕ → List ℕ → ℕ → ℕ → List ℕ → List ℕ → Bool → Bool → List Line → Type 0
FillLines base x token others filled header arguments kept head count lines =
    (left : List Line) × (stores : List Line) × SomeWords head count (is_kept true kept) base x header arguments left
    × SomeWords (not head) (not count) (is_kept false kept) base x header arguments stores
    × (lines ≡ copies_to token x ∷ acts (Branch NotEqual filled) (x ∷ []) ∷
    (hold_lines others ++ (record { action = Calls Take; args = []; into = Some x } ∷
    (unhold_lines others ++ (left ++ (acts (Label filled) [] ∷ stores))))))

-- a value stands once in a list, between these others
abbrev pub StandsOnce : List ℕ → ℕ → List ℕ → List ℕ → Type 0
StandsOnce all value before after = (all ≡ before ++ (value ∷ after)) × (is_among (before ++ after) value ≡ false)

-- A field, which stands once among the fields, is loaded behind the others.
abbrev pub LoadsOneLast : ℕ → List ℕ → List Line → Type 0
LoadsOneLast x fields lines =
    (before : List ℕ) × (last : ℕ) × (after : List ℕ) × (first : List Line) × (others : List Line) × (load : Line)
    × StandsOnce fields last before after × AllLoads x first_field before first
    × AllLoads x (first_field + suc (length before)) after others × Loads x (first_field + length before) last load
    × (lines ≡ first ++ (others ++ (load ∷ [])))

-- A reading: the fields are loaded, in their order or one of them last.
abbrev pub ReadLines : ℕ → List ℕ → List Line → Type 0
ReadLines x fields lines = AllLoads x first_field fields lines ⊎ LoadsOneLast x fields lines

-- The way of a cell that has no other reference: the fields are loaded, those that are not in use are dropped, and the cell becomes
-- the token of a value.
abbrev pub alone_lines : (ℕ → Bool) → ℕ → List ℕ → List ℕ → ℕ → List Line → List Line
alone_lines holds x fields used token loads =
    loads ++ (drops_lines holds (filter (λ y. not (is_among used y)) fields) ++ (copies_to x token ∷ []))

-- The way of a cell that has other references: the fields are loaded, the count is lowered, the token is null, and the fields in use
-- get a reference more.
abbrev pub shared_lines : (ℕ → Bool) → List ℕ → List ℕ → ℕ → List Line → List Line → List Line
shared_lines holds fields used token loads lowers =
    loads ++ (lowers ++ (sets 0 token ∷ dups_lines holds (filter (is_among used) fields)))

-- The way of a shared cell stands first. So the other way, which is the common one, comes behind the opening without a jump. But where
-- a construction that fills this token's cell stands behind the opening, whose variable is given, the other way stands first: it leaves
-- the opening by a jump in any case.
abbrev pub first_way : Option ℕ → List Line → List Line → List Line
first_way None alone shared = shared
first_way (Some into) alone shared = alone

abbrev pub second_way : Option ℕ → List Line → List Line → List Line
second_way None alone shared = alone
second_way (Some into) alone shared = shared

-- The branch to the second way compares the count with 1.
abbrev pub goes_second : Option ℕ → Condition
goes_second None = Equal
goes_second (Some into) = NotEqual

-- The first way leads behind the opening, or behind the test of that construction, at its label `filled`.
abbrev pub leaving_lines : Option ℕ → ℕ → ℕ → ℕ → List Line
leaving_lines None token behind filled = acts (Jump behind) [] ∷ []
leaving_lines (Some into) token behind filled = copies_to token into ∷ acts (Jump filled) [] ∷ []

abbrev pub both_ways : Option ℕ → ℕ → ℕ → ℕ → ℕ → List Line → List Line → List Line
both_ways into second behind filled token alone shared =
    (first_way into alone shared ++ leaving_lines into token behind filled)
    ++ ((acts (Label second) [] ∷ second_way into alone shared) ++ (acts (Label behind) [] ∷ []))

-- An opening by the count of a cell: behind its test the fields are loaded on each way. A value is the cell's address then, as its
-- token; it is 0 where the cell has other references. The second way stands behind the label `second`.
abbrev pub TokenUniqueLines : ℕ → (ℕ → Bool) → ℕ → ℕ → ℕ → ℕ → List ℕ → List ℕ → ℕ → Option ℕ → List Line → Type 0
TokenUniqueLines base holds second behind filled x fields used token into lines =
    (test : Line) × (loads : List Line) × (count : Line) × (less : Immediate) × (store : Line)
    × Loads x 0 base test × AllLoads x first_field fields loads × Loads x 0 base count × (less.word ≡ 2 ^ 32 - 1)
    × Stores x 0 base store
    × (lines ≡ test ∷ sets 1 (base + 1) ∷ acts (Branch (goes_second into) second) (base ∷ (base + 1) ∷ []) ∷
    both_ways into second behind filled token (alone_lines holds x fields used token loads)
    (shared_lines holds fields used token loads (count ∷ computes (Op.Immediate Addi less) (base ∷ []) base ∷ store ∷ [])))

-- ---- tests

-- From a value to the one at a position: a temporary takes one field after the other, the first one from the value itself.
abbrev pub Walks : ℕ → ℕ → List ℕ → List Line → Type 0
Walks temporary value [] lines = lines ≡ []
Walks temporary value (field ∷ way) lines =
    (first : Line) × (more : List Line) × Loads value (first_field + field) temporary first × Walks temporary temporary way more
    × (lines ≡ first ∷ more)

-- which one then has the value at the position, and the first temporary that is free
abbrev pub walked : ℕ → ℕ → List ℕ → ℕ
walked temporary value [] = value
walked temporary value (field ∷ way) = temporary

abbrev pub spare : ℕ → List ℕ → ℕ
spare temporary [] = temporary
spare temporary (field ∷ way) = temporary + 1

-- to a label where a value has a word
abbrev pub equal_lines : ℕ → ℕ → ℕ → ℕ → List Line
equal_lines value word temporary label = sets word temporary ∷ acts (Branch Equal label) (value ∷ temporary ∷ []) ∷ []

-- to a label, unless that is the next one
abbrev pub jump_lines : ℕ → ℕ → List Line
jump_lines next label = if nat_eq label next then [] else (acts (Jump label) [] ∷ [])

-- to one label where a value has a word, and else to another one
abbrev pub either_lines : ℕ → ℕ → ℕ → ℕ → ℕ → ℕ → List Line
either_lines next value word temporary equal other =
    sets word temporary ∷ (if nat_eq equal next then acts (Branch NotEqual other) (value ∷ temporary ∷ []) ∷ []
    else (acts (Branch Equal equal) (value ∷ temporary ∷ []) ∷ jump_lines next other))
