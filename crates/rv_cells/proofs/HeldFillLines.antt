-- Constructions in the cells of tokens, as lines, where a cell is taken while the other tokens are held.
use Rattle.std.proofs.Common.{◌≡◌, ◌≢◌, ◌<◌, ◌≤◌, inl, inr, ℕ, zero, suc, ◌+◌, ◌==◌, Bool, cond, true, false, List, [], ◌∷◌, ◌++◌, length, Option, Some, None, refl, sym, ◌∙◌, ap, subst, arith}
use mathlib.Core.Path.{fun_ext}
use Rattle.kk_syntax.specs.Shapes.{is_among}
use Rattle.kk_counted.specs.Heaps.{busy}
use Rattle.rv_isa.specs.Processor.{exited}
use Rattle.rv_isa.specs.AsmCode.{Line}
use Rattle.rv_isa.specs.Frames.{Frame, top, top_in, top_taken, put, is_among as is_out}
use Rattle.rv_isa.specs.Primitives.{ended}
use Rattle.cell_heap.specs.Blocks.{Cells, nothing, request}
use Rattle.cell_runtime.specs.declared.process.Ending.TheVariants as OfEnding
use Rattle.cell_runtime.specs.Stops.{number_of}
use Rattle.cell_runtime.specs.World.{with_cells}
use Rattle.rv_lower.proofs.FormEffects.{put_same, put_other}
use Rattle.rv_cells.specs.Layout.{header_of}
use Rattle.rv_cells.specs.CountedCells.{Owner, nobody, in_hand, kept_aside, cell_of, Follows, with_owner, is_aside, set_aside}
use Rattle.rv_cells.specs.CellLines.{FillLines, hold_lines, unhold_lines}
use Rattle.rv_cells.proofs.NameContents.{some-is}
use Rattle.rv_cells.proofs.Owners.{chosen_by, chosen_same}
use Rattle.rv_cells.proofs.UsedCells.{same_aside}
use Rattle.rv_cells.proofs.Requests.{served, from_held, is_full}
use Rattle.rv_cells.proofs.Words.{hand_owned, aside_owned}
use Rattle.rv_cells.proofs.Runs.{left_at, turn_of, Runs, runs_then}
use Rattle.rv_cells.proofs.CellActions.{take_runs, full_runs}
use Rattle.rv_cells.proofs.HeldTokens.{take_own_runs, take_older_runs}
use Rattle.rv_cells.proofs.HeldRows.{IsToken, NoneHas, AreTokensIn, live, live_with, live_null, live_cell, either_false, as_held, one_turned, all_held, all_back, turned_cell, held_others, back_others, tokens_still, AllOut, hold_row, unhold_row}
use Rattle.rv_cells.proofs.Spots.{Spot, Known, Here}
use Rattle.rv_cells.proofs.LineCosts.{most_moves, row_cost}
use Rattle.rv_cells.proofs.Values.{HasValues, among_none, has_other}
use Rattle.rv_cells.proofs.ConstructionLines.{IsMaking}
use Rattle.rv_cells.proofs.FillLines.{takes, from_kept, test_cost, tests_null, named, with_values, Fills, AreSpared, ends_taken}

-- ---- tokens under other values

abbrev pub AllSame : (ℕ → Option ℕ) → (ℕ → Option ℕ) → List ℕ → Type 0
AllSame values later [] = Unit {0}
AllSame values later (z ∷ zs) = (later z ≡ values z) × AllSame values later zs

pub both_same : (values one two : ℕ → Option ℕ) (zs : List ℕ) → AllSame values one zs → AllSame values two zs → AllSame one two zs
both_same values one two [] first second = tt
both_same values one two (z ∷ zs) first second = (
  second.0 ∙ sym first.0,
  both_same values one two zs first.1 second.1,
)

none_moved : (values later : ℕ → Option ℕ) (at : ℕ) (zs : List ℕ) → AllSame values later zs → NoneHas values at zs
    → NoneHas later at zs
none_moved values later at [] same none = tt
none_moved values later at (z ∷ zs) same none = (
  λ e. none.0 (sym same.0 ∙ e),
  none_moved values later at zs same.1 none.1,
)

tokens_moved : (stands : (ℕ → Option ℕ) → Owner) (owners : ℕ → Owner) (values later : ℕ → Option ℕ) (zs : List ℕ)
    → AllSame values later zs → AreTokensIn stands owners values zs → AreTokensIn stands owners later zs
tokens_moved stands owners values later [] same are = tt
tokens_moved stands owners values later (z ∷ zs) same are = (
  subst (IsToken stands owners) (sym same.0) are.0,
  are.1,
  λ at some is. none_moved values later at zs same.1 (are.2 at some (sym same.0 ∙ is)),
  tokens_moved stands owners values later zs same.1 are.3,
)

live_moved : (values later : ℕ → Option ℕ) (zs : List ℕ) → AllSame values later zs → live later zs ≡ live values zs
live_moved values later [] same = refl
live_moved values later (z ∷ zs) same =
    ap (λ v. live_with v z (live later zs)) same.0 ∙ ap (live_with (values z) z) (live_moved values later zs same.1)

-- ---- once they are held

tokens_turned : (value : Option ℕ) (values : ℕ → Option ℕ) (zs : List ℕ) (owners : ℕ → Owner)
    → ((at : ℕ) → at ≢ 0 → value ≡ Some at → NoneHas values at zs) → AreTokensIn kept_aside owners values zs
    → AreTokensIn kept_aside (one_turned as_held value owners) values zs
tokens_turned None values zs owners apart are = are
tokens_turned (Some zero) values zs owners apart are = are
tokens_turned (Some (suc n)) values zs owners apart are =
    tokens_still kept_aside values zs (suc n) (as_held (owners (suc n))) owners (apart (suc n) (λ e. cc) refl) are

pub tokens_held : (owners : ℕ → Owner) (values : ℕ → Option ℕ) (zs : List ℕ) → AreTokensIn in_hand owners values zs
    → AreTokensIn kept_aside (all_held values zs owners) values zs
tokens_held owners values [] are = tt
tokens_held owners values (z ∷ zs) are = (
  by are.0,
  are.1,
  are.2,
  tokens_turned (values z) values zs (all_held values zs owners) are.2 (tokens_held owners values zs are.3),
)
  where
    by : IsToken in_hand owners (values z) → IsToken kept_aside (one_turned as_held (values z) (all_held values zs owners)) (values z)
    by (inl null) = inl null
    by (inr cell) =
        let later = all_held values zs owners in
        inr (
          cell.0,
          cell.1,
          cell.2,
          cell.3,
          ap (λ (o : ℕ → Owner). o cell.0) (turned_cell as_held (values z) cell.0 later cell.2 cell.3)
              ∙ chosen_same cell.0 cell.0 (as_held (later cell.0)) later refl
              ∙ ap as_held (held_others values zs cell.0 owners (are.2 cell.0 cell.3 cell.2) ∙ cell.4),
        )

aside_kept : (owner : Owner) → is_aside (as_held owner) ≡ is_aside owner
aside_kept nobody = refl
aside_kept (cell_of name) = refl
aside_kept (in_hand words) = refl
aside_kept (kept_aside words) = refl

pub aside_turned : (turn : Owner → Owner) → ((owner : Owner) → is_aside (turn owner) ≡ is_aside owner) → (value : Option ℕ)
    (owners : ℕ → Owner) (x : ℕ) → is_aside (one_turned turn value owners x) ≡ is_aside (owners x)
aside_turned turn keeps None owners x = refl
aside_turned turn keeps (Some zero) owners x = refl
aside_turned turn keeps (Some (suc n)) owners x =
    chosen_by (λ o. is_aside o ≡ is_aside (owners x)) x (suc n) (turn (owners (suc n))) owners
    (λ e. keeps (owners (suc n)) ∙ ap (λ y. is_aside (owners y)) (sym e)) (λ differ. refl)

-- the same cells are set aside
pub aside_held : (values : ℕ → Option ℕ) (zs : List ℕ) (owners : ℕ → Owner) (x : ℕ)
    → is_aside (all_held values zs owners x) ≡ is_aside (owners x)
aside_held values [] owners x = refl
aside_held values (z ∷ zs) owners x =
    aside_turned as_held aside_kept (values z) (all_held values zs owners) x ∙ aside_held values zs owners x

-- none of them has the cell of another owner
pub none_other : (stands : (ℕ → Option ℕ) → Owner) (owners : ℕ → Owner) (values : ℕ → Option ℕ) (zs : List ℕ) (at : ℕ) → at ≢ 0
    → ((words : ℕ → Option ℕ) → owners at ≢ stands words) → AreTokensIn stands owners values zs → NoneHas values at zs
none_other stands owners values [] at some other are = tt
none_other stands owners values (z ∷ zs) at some other are = (by are.0, none_other stands owners values zs at some other are.3)
  where
    by : IsToken stands owners (values z) → values z ≢ Some at
    by (inl null) = λ e. some (sym (some-is (sym null ∙ e)))
    by (inr cell) = λ e. other cell.1 (ap owners (some-is (sym e ∙ cell.2)) ∙ cell.4)

none_dead : (values : ℕ → Option ℕ) (zs : List ℕ) (at : ℕ) → at ≢ 0 → live values zs ≡ [] → NoneHas values at zs
none_dead values [] at some dead = tt
none_dead values (z ∷ zs) at some dead = by (values z) refl dead (λ later. none_dead values zs at some later)
  where
    by : (value : Option ℕ) → values z ≡ value → live_with value z (live values zs) ≡ []
        → (live values zs ≡ [] → NoneHas values at zs) → (values z ≢ Some at) × NoneHas values at zs
    by None is dead again = cc
    by (Some zero) is dead again = (λ e. some (sym (some-is (sym is ∙ e))), again dead)
    by (Some (suc n)) is dead again = cc

-- ---- lists of values

-- something is true of each of these values
abbrev pub AllAre : (ℕ → Type 0) → List ℕ → Type 0
AllAre P [] = Unit {0}
AllAre P (z ∷ zs) = P z × AllAre P zs

-- ---- the newest of them

out_same : (values : ℕ → Option ℕ) (y word : ℕ) (zs : List ℕ) → is_out y zs ≡ false → AllSame values (put y (Some word) values) zs
out_same values y word [] out = tt
out_same values y word (z ∷ zs) out =
    let parts = either_false (z == y) (is_out y zs) out in (
      put_other y z word values (λ e. let itself : (z == y) ≡ true = grind arith in let both = sym itself ∙ parts.0 in cc),
      out_same values y word zs parts.1,
    )

put_alike : (values later : ℕ → Option ℕ) (y word : ℕ) (zs : List ℕ) → AllSame values later zs
    → AllSame (put y (Some word) values) (put y (Some word) later) zs
put_alike values later y word [] same = tt
put_alike values later y word (z ∷ zs) same = (
  ap (λ v. cond (z == y) (Some word) v) same.0,
  put_alike values later y word zs same.1,
)

-- the first of these tokens that has a cell; and what they are once its value is 0 and its cell is in hand
pub record Newest (owners : ℕ → Owner) (values : ℕ → Option ℕ) (zs : List ℕ) (y : ℕ) (more : List ℕ) : Type 1 where
  pub at : ℕ
  pub words : ℕ → Option ℕ
  pub some : at ≢ 0
  pub value : values y ≡ Some at
  pub kept : owners at ≡ kept_aside words
  pub left : live (put y (Some 0) values) zs ≡ more
  pub tokens : AreTokensIn kept_aside (with_owner at (in_hand nothing) owners) (put y (Some 0) values) zs
  pub none : NoneHas (put y (Some 0) values) at zs
  pub differs : (z : ℕ) → is_out z zs ≡ false → z ≢ y
  pub spares : (z : ℕ) → is_among zs z ≡ false → z ≢ y
  pub of_all : (P : ℕ → Type 0) → AllAre P zs → P y

list_parts : {x y : ℕ} {xs ys : List ℕ} → x ∷ xs ≡ y ∷ ys → (x ≡ y) × (xs ≡ ys)
list_parts e = (cc, cc)

newest_of : (owners : ℕ → Owner) (values : ℕ → Option ℕ) (zs : List ℕ) (y : ℕ) (more : List ℕ)
    → AreTokensIn kept_aside owners values zs → live values zs ≡ y ∷ more → Newest owners values zs y more
newest_of owners values [] y more are is = cc
newest_of owners values (z ∷ zs) y more are is = by are.0 (λ later. newest_of owners values zs y more are.3 later)
  where
    by_null : values z ≡ Some 0 → Newest owners values zs y more → Newest owners values (z ∷ zs) y more
    by_null null one =
        let differ = one.differs z are.1 in
        let still : put y (Some 0) values z ≡ Some 0 = put_other y z 0 values differ ∙ null in
        record {
          at = one.at;
          words = one.words;
          some = one.some;
          value = one.value;
          kept = one.kept;
          left = live_null (put y (Some 0) values z) z (live (put y (Some 0) values) zs) still ∙ one.left;
          tokens = (
            inl still,
            are.1,
            λ at some has. absurd (some (sym (some-is (sym still ∙ has)))),
            one.tokens,
          );
          none = (λ e. one.some (sym (some-is (sym still ∙ e))), one.none);
          differs = λ w out. one.differs w (either_false (z == w) (is_out w zs) out).1;
          spares = λ w none. one.spares w (among_none z zs w none).1;
          of_all = λ P all. one.of_all P all.1;
        }

    by_cell : (at : ℕ) (words : ℕ → Option ℕ) → values z ≡ Some at → at ≢ 0 → owners at ≡ kept_aside words → z ≡ y
        → live values zs ≡ more → Newest owners values (z ∷ zs) y more
    by_cell at words value some kept same left =
        let out : is_out y zs ≡ false = subst (λ w. is_out w zs ≡ false) same are.1 in
        let null : put y (Some 0) values z ≡ Some 0 = ap (put y (Some 0) values) same ∙ put_same y 0 values in
        let alike = out_same values y 0 zs out in
        let have = are.2 at some value in
        record {
          at = at;
          words = words;
          some = some;
          value = ap values (sym same) ∙ value;
          kept = kept;
          left = live_null (put y (Some 0) values z) z (live (put y (Some 0) values) zs) null
              ∙ live_moved values (put y (Some 0) values) zs alike ∙ left;
          tokens = (
            inl null,
            are.1,
            λ other live has. absurd (live (sym (some-is (sym null ∙ has)))),
            tokens_moved kept_aside (with_owner at (in_hand nothing) owners) values (put y (Some 0) values) zs alike
                (tokens_still kept_aside values zs at (in_hand nothing) owners have are.3),
          );
          none = (λ e. some (sym (some-is (sym null ∙ e))), none_moved values (put y (Some 0) values) at zs alike have);
          differs = λ w free e.
              let parts = either_false (z == w) (is_out w zs) free in
              let itself : (z == w) ≡ true = let one = same in grind arith in let both = sym itself ∙ parts.0 in cc;
          spares = λ w none e. (among_none z zs w none).0 (e ∙ sym same);
          of_all = λ P all. subst P same all.0;
        }

    by : IsToken kept_aside owners (values z) → (live values zs ≡ y ∷ more → Newest owners values zs y more)
        → Newest owners values (z ∷ zs) y more
    by (inl null) again = by_null null (again (sym (live_null (values z) z (live values zs) null) ∙ is))
    by (inr cell) again =
        let parts = list_parts (sym (live_cell (values z) cell.0 z (live values zs) cell.2 cell.3) ∙ is) in
        by_cell cell.0 cell.1 cell.2 cell.3 cell.4 parts.0 parts.1

-- a value that is written again, also where another one was written in between
put_again : (x at old : ℕ) (values : ℕ → Option ℕ) → put x (Some at) (put x (Some old) values) ≡ put x (Some at) values
put_again x at old values = fun_ext (λ z. by z (z == x))
  where
    by : (z : ℕ) (b : Bool) → cond b (Some at) (cond b (Some old) (values z)) ≡ cond b (Some at) (values z)
    by z true = refl
    by z false = refl

put_round : (x y at word old : ℕ) (values : ℕ → Option ℕ)
    → put x (Some at) (put y (Some word) (put x (Some old) values)) ≡ put x (Some at) (put y (Some word) values)
put_round x y at word old values = fun_ext (λ z. by z (z == x) (z == y))
  where
    by : (z : ℕ) (b c : Bool)
        → cond b (Some at) (cond c (Some word) (cond b (Some old) (values z))) ≡ cond b (Some at) (cond c (Some word) (values z))
    by z true c = refl
    by z false c = refl

-- ---- constructions

-- values that are neither temporaries nor such a variable
abbrev pub AreApartFrom : ℕ → ℕ → List ℕ → Type 0
AreApartFrom base x zs = AllAre (λ z. (z < base) × (z ≢ x)) zs

pub puts_same : (base x other : ℕ) (values : ℕ → Option ℕ) (zs : List ℕ) → AreApartFrom base x zs
    → AllSame values (put x (Some other) values) zs
puts_same base x other values [] apart = tt
puts_same base x other values (z ∷ zs) apart = (
  put_other x z other values apart.0.1,
  puts_same base x other values zs apart.1,
)

module _ (known : Known) (rest : List Line) (fs : List (Frame Line)) (s : Spot) (x token c : ℕ) (others : List ℕ) (filled : ℕ)
    (arguments kept : List ℕ) (head count : Bool) (lines : List Line) (here : Here known s)
    (making : IsMaking known s x c arguments)
    (are : FillLines known.base x token others filled (header_of known.layout c) arguments kept head count lines)
    (null : s.frame.cells token ≡ Some 0) (tokens : AreTokensIn in_hand s.owners s.frame.cells others)
    (out : AllOut s.frame.held others) (apart : AreApartFrom known.base x others) (some : 0 < known.target.pool.first) where
  abbrev label : List Line
  label = from_kept known rest fs s x token c others filled arguments kept head count lines here making are

  abbrev back_lines : List Line
  back_lines = unhold_lines others ++ label

  abbrev take : Line
  take = takes known rest fs s x token c others filled arguments kept head count lines here making are

  abbrev pub values1 : ℕ → Option ℕ
  values1 = named known rest fs s x token c others filled arguments kept head count lines here making are s.frame.cells 0

  abbrev pub owners1 : ℕ → Owner
  owners1 = all_held values1 others s.owners

  abbrev with_all : (ℕ → Option ℕ) → List ℕ → Frame Line
  with_all values held = record s.frame { cells = values; held = held }

  abbrev held1 : List ℕ
  held1 = live values1 others ++ s.frame.held

  pub same1 : AllSame s.frame.cells values1 others
  same1 = puts_same known.base x 0 s.frame.cells others apart

  pub tokens1 : AreTokensIn in_hand s.owners values1 others
  tokens1 = tokens_moved in_hand s.owners s.frame.cells values1 others same1 tokens

  abbrev pub names : (ℕ → Option ℕ) → ℕ → ℕ → Option ℕ
  names values at = named known rest fs s x token c others filled arguments kept head count lines here making are values at

  abbrev pub Makes : List (Frame Line) → (ℕ → Owner) → (ℕ → Option ℕ) → ℕ → Type 0
  Makes gs owners values at =
      Fills known rest fs s x token c others filled arguments kept head count lines here making are gs owners values at

  -- the tokens are held
  pub row : (cells : Cells) × Runs known.target (row_cost others (most_moves + 9)) (length others)
      (turn_of (hold_lines others ++ (take ∷ back_lines)) (with_all values1 s.frame.held) fs s.world)
      (turn_of (take ∷ back_lines) (with_all values1 held1) fs (with_cells s.world cells))
      × Follows known.target.pool known.layout s.address owners1 s.heap cells
  row = hold_row known.target known.layout s.address s.heap fs others (take ∷ back_lines) (with_all values1 s.frame.held) s.owners
      s.world here.follows tokens1 out

  abbrev before : ℕ
  before = test_cost known rest fs s x token c others filled arguments kept head count lines here making are

  to_take : Runs known.target (before + row_cost others (most_moves + 9)) ((1 + 1) + length others)
      (turn_of (lines ++ rest) s.frame fs s.world)
      (turn_of (take ∷ back_lines) (with_all values1 held1) fs (with_cells s.world row.0))
  to_take =
      runs_then known.target before (row_cost others (most_moves + 9)) (1 + 1) (length others)
      (turn_of (lines ++ rest) s.frame fs s.world)
      (turn_of (hold_lines others ++ (take ∷ back_lines)) (with_all values1 s.frame.held) fs s.world)
      (turn_of (take ∷ back_lines) (with_all values1 held1) fs (with_cells s.world row.0))
      (tests_null known rest fs s x token c others filled arguments kept head count lines here making are null) row.1

  -- from the request on: the tokens are taken back, and the cell is made
  after_take : (gs : List (Frame Line)) (values : ℕ → Option ℕ) (owners : ℕ → Owner) (next : Cells) (at : ℕ)
      (words : ℕ → Option ℕ)
      → Runs known.target (most_moves + 10) 1 (turn_of (take ∷ back_lines) (with_all values1 held1) fs (with_cells s.world row.0))
      (turn_of back_lines (with_all (names values at) (live (names values at) others ++ s.frame.held)) gs (with_cells s.world next))
      → Follows known.target.pool known.layout s.address owners s.heap next
      → AreTokensIn kept_aside owners (names values at) others → NoneHas (names values at) at others → owners at ≡ in_hand words
      → HasValues known.layout s.address known.holds known.base (length s.heap) s.bound s.environment values
      → AreSpared known rest fs s x token c others filled arguments kept head count lines here making are values
      → Makes gs (all_back (names values at) others owners) values at
  after_take gs values owners next at words took follows tokens2 none hand has spared =
      let f = with_all (names values at) (live (names values at) others ++ s.frame.held) in
      let last = with_values known rest fs s x token c others filled arguments kept head count lines here making are
      (names values at) in
      let holds = row_cost others (most_moves + 9) in
      let unholds = row_cost others (most_moves + 7) in
      let back = unhold_row known.target known.layout s.address s.heap gs others label f s.frame.held owners
      (with_cells s.world next) refl follows tokens2 out in
      let t0 = turn_of (lines ++ rest) s.frame fs s.world in
      let t1 = turn_of (take ∷ back_lines) (with_all values1 held1) fs (with_cells s.world row.0) in
      let t2 = turn_of back_lines f gs (with_cells s.world next) in
      let t3 = turn_of label last gs (with_cells s.world back.0) in
      let behind = runs_then known.target (most_moves + 10) unholds 1 (length others) t1 t2 t3 took back.1 in
      ends_taken known rest fs s x token c others filled arguments kept head count lines here making are gs
      (all_back (names values at) others owners)
      values at ((before + holds) + ((most_moves + 10) + unholds))
      (((1 + 1) + length others) + (1 + length others)) words back.0
      (runs_then known.target (before + holds) ((most_moves + 10) + unholds) ((1 + 1) + length others) (1 + length others)
      t0 t1 t3 to_take behind)
      (omega arith) back.2 (back_others (names values at) others at owners none ∙ hand) has spared

  same_room : set_aside known.target.pool owners1 ≡ set_aside known.target.pool s.owners
  same_room = same_aside known.target.pool owners1 s.owners (aside_held values1 others s.owners)

  -- a cell that was taken, and of which x has the address, where no token's value has changed
  same_values : (gs : List (Frame Line)) (next : Cells) (at : ℕ) → (at ≢ 0 → NoneHas values1 at others)
      → Runs known.target (most_moves + 10) 1 (turn_of (take ∷ back_lines) (with_all values1 held1) fs (with_cells s.world row.0))
      (turn_of back_lines (with_all (put x (Some at) values1) held1) gs (with_cells s.world next))
      → Follows known.target.pool known.layout s.address (with_owner at (in_hand nothing) owners1) s.heap next
      → Makes gs (all_back (names s.frame.cells at) others (with_owner at (in_hand nothing) owners1)) s.frame.cells at
  same_values gs next at others_have took follows =
      let low = making.below in
      let owners2 = with_owner at (in_hand nothing) owners1 in
      let hand = chosen_same at at (in_hand nothing) owners1 refl in
      let far = (hand_owned follows at nothing hand).0.behind in
      let values2 = names s.frame.cells at in
      let same2 = puts_same known.base x at s.frame.cells others apart in
      let moved = both_same s.frame.cells values1 values2 others same1 same2 in
      let held = tokens_held s.owners values1 others tokens1 in
      let none = others_have (λ e. omega arith) in
      let tokens2 = tokens_moved kept_aside owners2 values1 values2 others moved
      (tokens_still kept_aside values1 others at (in_hand nothing) owners1 none held) in
      let values_are : put x (Some at) values1 ≡ values2 = put_again x at 0 s.frame.cells in
      let held_is : held1 ≡ live values2 others ++ s.frame.held =
      ap (λ l. l ++ s.frame.held) (sym (live_moved values1 values2 others moved)) in
      let t1 = turn_of (take ∷ back_lines) (with_all values1 held1) fs (with_cells s.world row.0) in
      after_take gs s.frame.cells owners2 next at nothing
      (subst (λ h. Runs known.target (most_moves + 10) 1 t1 (turn_of back_lines (with_all values2 h) gs (with_cells s.world next)))
      held_is
      (subst (λ v. Runs known.target (most_moves + 10) 1 t1 (turn_of back_lines (with_all v held1) gs (with_cells s.world next)))
      values_are took))
      follows tokens2 (none_moved values1 values2 at others moved none) hand here.values (λ z below free. refl)

  -- a free cell is taken
  pub fills_free : busy s.heap + set_aside known.target.pool s.owners < known.target.pool.cells
      → (at : ℕ) × (is_aside (s.owners at) ≡ false)
      × Makes fs (all_back (names s.frame.cells at) others (with_owner at (in_hand nothing) owners1)) s.frame.cells at
  fills_free room =
      let same = same_room in
      let took = served row.2 known.aligned (top (left_at back_lines (with_all values1 held1) ∷ fs)) (omega arith) in (
        took.at,
        sym (aside_held values1 others s.owners took.at) ∙ ap is_aside took.free,
        same_values fs took.next took.at
            (λ some. none_other kept_aside owners1 values1 others took.at some
            (λ words kept. let both : nobody ≡ kept_aside words = sym took.free ∙ kept in cc)
            (tokens_held s.owners values1 others tokens1))
            (take_runs known.target back_lines (with_all values1 held1) fs (with_cells s.world row.0) x took.at took.next took.is)
            took.holds,
      )

  -- no cell is free: the newest token of the frame is taken
  pub fills_newest : (y : ℕ) (more : List ℕ) → live values1 others ≡ y ∷ more → AllAre (λ z. is_among s.bound z ≡ false) others
      → known.target.pool.cells ≤ busy s.heap + set_aside known.target.pool s.owners
      → (at : ℕ) × (values1 y ≡ Some at)
      × Makes fs (all_back (names (put y (Some 0) s.frame.cells) at) others (with_owner at (in_hand nothing) owners1))
      (put y (Some 0) s.frame.cells) at
  fills_newest y more first unbound full =
      let same = same_room in
      let low = making.below in
      let one = newest_of owners1 values1 others y more (tokens_held s.owners values1 others tokens1) first in
      let at = one.at in
      let owners2 = with_owner at (in_hand nothing) owners1 in
      let took = from_held row.2 known.aligned at one.words one.kept (omega arith) in
      let placed = one.of_all (λ z. (z < known.base) × (z ≢ x)) apart in
      let values3 = put y (Some 0) s.frame.cells in
      let before = put y (Some 0) values1 in
      let behind = names values3 at in
      let moved = both_same values3 before behind others (put_alike s.frame.cells values1 y 0 others same1)
      (puts_same known.base x at values3 others apart) in
      let held_is : held1 ≡ y ∷ (more ++ s.frame.held) = ap (λ l. l ++ s.frame.held) first in
      let taking = take_own_runs known.target back_lines (with_all values1 held1) fs (with_cells s.world row.0) x at y
      (more ++ s.frame.held) took.next held_is one.value took.is in
      let values_are : put x (Some at) before ≡ behind = put_round x y at 0 0 s.frame.cells in
      let left : more ++ s.frame.held ≡ live behind others ++ s.frame.held =
      ap (λ l. l ++ s.frame.held) (sym (live_moved before behind others moved ∙ one.left)) in
      let t1 = turn_of (take ∷ back_lines) (with_all values1 held1) fs (with_cells s.world row.0) in
      let last = with_cells s.world took.next in (
        at,
        one.value,
        after_take fs values3 owners2 took.next at nothing
            (subst (λ h. Runs known.target (most_moves + 10) 1 t1 (turn_of back_lines (with_all behind h) fs last)) left
            (subst (λ v. Runs known.target (most_moves + 10) 1 t1
            (turn_of back_lines (with_all v (more ++ s.frame.held)) fs last)) values_are taking))
            took.holds
            (tokens_moved kept_aside owners2 before behind others moved one.tokens)
            (none_moved before behind at others moved one.none)
            (chosen_same at at (in_hand nothing) owners1 refl)
            (has_other here.values y 0 (one.of_all (λ z. is_among s.bound z ≡ false) unbound))
            (λ z below free. put_other y z 0 s.frame.cells (one.spares z (among_none token others z free).1)),
      )

  -- no token of the frame has a cell, and no cell is free: the newest token of an older frame is taken
  pub fills_held : (gs : List (Frame Line)) (at : ℕ) (words : ℕ → Option ℕ) → live values1 others ≡ [] → s.frame.held ≡ []
      → top fs ≡ Some at → top_taken fs ≡ Some gs → s.owners at ≡ kept_aside words
      → known.target.pool.cells ≤ busy s.heap + set_aside known.target.pool s.owners
      → Makes gs (all_back (names s.frame.cells at) others (with_owner at (in_hand nothing) owners1)) s.frame.cells at
  fills_held gs at words dead none newest taken kept full =
      let same = same_room in
      let held_is : held1 ≡ [] = ap (λ l. l ++ s.frame.held) dead ∙ none in
      let far = (aside_owned here.follows at words kept).0.behind in
      let have = none_dead values1 others at (λ e. omega arith) dead in
      let took = from_held row.2 known.aligned at words (held_others values1 others at s.owners have ∙ kept) (omega arith) in
      same_values gs took.next at (λ some. have)
      (take_older_runs known.target back_lines (with_all values1 held1) fs (with_cells s.world row.0) x at took.next gs held_is
      newest taken took.is)
      took.holds

  -- no token of the frame has a cell, and no cell is free: the heap is full where no older frame holds a token
  pub fills_none : live values1 others ≡ [] → s.frame.held ≡ [] → top fs ≡ None
      → known.target.pool.cells ≤ busy s.heap + set_aside known.target.pool s.owners
      → Runs known.target ((before + row_cost others (most_moves + 9)) + (most_moves + 10))
      (((1 + 1) + length others) + 1) (turn_of (lines ++ rest) s.frame fs s.world)
      (ended (exited (number_of OfEnding.HeapFull)) (with_cells s.world row.0))
  fills_none dead none no_token full =
      let same = same_room in
      let held_is : held1 ≡ [] = ap (λ l. l ++ s.frame.held) dead ∙ none in
      runs_then known.target (before + row_cost others (most_moves + 9)) (most_moves + 10) ((1 + 1) + length others) 1
      (turn_of (lines ++ rest) s.frame fs s.world)
      (turn_of (take ∷ back_lines) (with_all values1 held1) fs (with_cells s.world row.0))
      (ended (exited (number_of OfEnding.HeapFull)) (with_cells s.world row.0)) to_take
      (full_runs known.target back_lines (with_all values1 held1) fs (with_cells s.world row.0) x
      (ap (λ h. request known.target.pool (top_in h values1 (top fs)) row.0) held_is
      ∙ ap (λ t. request known.target.pool t row.0) no_token
      ∙ is_full row.2 known.aligned (omega arith)))
