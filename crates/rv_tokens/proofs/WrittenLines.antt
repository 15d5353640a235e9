-- Lines that were written one after the other are those of the forms that touch cells.
use Rattle.std.proofs.Common.{
  ◌≡◌,
  ℕ,
  suc,
  ◌+◌,
  ◌-◌,
  ◌≤◌,
  ◌<◌,
  Bool,
  true,
  not,
  List,
  [],
  ◌∷◌,
  ◌++◌,
  length,
  take,
  get_or,
  Option,
  Some,
  None,
  refl,
  sym,
  ap,
  subst,
  ◌∙◌,
  arith,
  append-nil,
  append_assoc,
  false,
}
use Rattle.std.specs.Prelude.{filter, map, drop, slice_range, option_to_list, is_some}
use Rattle.std.proofs.lemmas.List.{length-take-le, take_more, take_all, length-drop, drop-map}
use Rattle.kk_syntax.specs.Shapes.{is_among}
use Rattle.kk_core.specs.Decisions.{NodeTree, node_tree, tests}
use Rattle.kk_core.specs.declared.decisions.Answer.{Answer}
use Rattle.kk_core.specs.declared.decisions.Node.{Node}
use Rattle.kk_core.specs.declared.decisions.Edge.{Edge}
use Rattle.rv_isa.specs.declared.asm.Action.TheVariants.{Label, Branch}
use Rattle.rv_isa.specs.declared.asm.Condition.TheVariants.{NotEqual}
use Rattle.rv_isa.specs.declared.asm.Operation.TheVariants as Op
use Rattle.rv_isa.specs.declared.asm.ImmediateOperation.TheVariants.{Andi}
use Rattle.rv_isa.specs.declared.immediate.Immediate.{Immediate}
use Rattle.rv_isa.specs.AsmCode.{Line}
use Rattle.rv_lower.specs.declared.lowering.Lowering.{Lowering}
use Rattle.rv_lower.specs.Lines.{computes, sets, copies_to, acts}
use Rattle.rv_lower.specs.Written.{lines_written, Wrote, WroteLines, TookLabel}
use Rattle.rv_lower.proofs.WrittenLines.{wrote_then}
use Rattle.rv_lower.proofs.CodeGrowth.{grows_of, grows_took, grows_then, grows_more}
use Rattle.rv_cells.specs.Layout.{Layout, first_field}
use Rattle.rv_cells.specs.CellLines.{Loads, Stores, AllLoads, AllStores, StoresIf, SomeStores, is_kept, Walks, walked, spare, dups_lines, ConstructLines}
use Rattle.rv_cells.specs.CellLines.{SetIf, SomeWords, FillLines, hold_lines, unhold_lines, TokenUniqueLines}
use Rattle.rv_cells.specs.CellLines.{alone_lines, shared_lines, first_way, second_way, goes_second, leaving_lines, both_ways}
use Rattle.rv_cells.specs.CountedLines.{
  is_plain,
  answer_word,
  answer_tag,
  Ways,
  first_label,
  number_tests,
  last_lines,
  ChoiceLines,
  OddLines,
  DecideLines,
  AreTried,
  TestLines,
  NodeLines,
  NodesLines,
}
use Rattle.rv_tokens.specs.TokenedWritten.{take_line, request_lines, StoreLines, WroteFill}
use Rattle.rv_tokens.specs.Written.{TestsCount, WayLines, LowersCellCount, LoadsTag, WroteOpening}

pub three_same : {a b c d e f : Line} → a ≡ b → c ≡ d → e ≡ f → a ∷ c ∷ e ∷ [] ≡ b ∷ d ∷ f ∷ []
three_same {a} {b} {c} {d} {e} {f} first second third = cc (first, second, third)

length_taken : {A : Type 0} (xs : List A) (n : ℕ) → n < length xs → length (take n xs) ≡ n
length_taken xs n less = length-take-le n xs (omega (arith, less))

-- ---- a field more

more_loads : (cell i x : ℕ) (xs : List ℕ) (lines : List Line) (line : Line) → AllLoads cell i xs lines
    → Loads cell (i + length xs) x line
    → AllLoads cell i (xs ++ x ∷ []) (lines ++ line ∷ [])
more_loads cell i x [] lines line all one =
    (line, [], subst (λ n. Loads cell n x line) (omega arith) one, refl, ap (λ ls. ls ++ line ∷ []) all)
more_loads cell i x (y ∷ xs) lines line all one = (
  all.0,
  all.1 ++ line ∷ [],
  all.2,
  more_loads cell (suc i) x xs all.1 line all.3 (subst (λ n. Loads cell n x line) (omega arith) one),
  ap (λ ls. ls ++ line ∷ []) all.4,
)

more_stores : (cell i x : ℕ) (xs : List ℕ) (lines : List Line) (line : Line) → AllStores cell i xs lines
    → Stores cell (i + length xs) x line
    → AllStores cell i (xs ++ x ∷ []) (lines ++ line ∷ [])
more_stores cell i x [] lines line all one =
    (line, [], subst (λ n. Stores cell n x line) (omega arith) one, refl, ap (λ ls. ls ++ line ∷ []) all)
more_stores cell i x (y ∷ xs) lines line all one = (
  all.0,
  all.1 ++ line ∷ [],
  all.2,
  more_stores cell (suc i) x xs all.1 line all.3 (subst (λ n. Stores cell n x line) (omega arith) one),
  ap (λ ls. ls ++ line ∷ []) all.4,
)

pub loads_more : (cell n index : ℕ) (xs : List ℕ) (lines : List Line) (line : Line) → n < length xs → index ≡ first_field + n
    → AllLoads cell first_field (take n xs) lines → Loads cell index (get_or xs n 0) line
    → AllLoads cell first_field (take (n + 1) xs) (lines ++ line ∷ [])
loads_more cell n index xs lines line less is all one =
    subst (λ ys. AllLoads cell first_field ys (lines ++ line ∷ [])) (sym (take_more xs n 0 less))
    (more_loads cell 2 (get_or xs n 0) (take n xs) lines line all
    (subst (λ i. Loads cell i (get_or xs n 0) line) (is ∙ ap (λ m. 2 + m) (sym (length_taken xs n less))) one))

-- so are some of them
more_some : (takes : ℕ → Bool) (cell i position from : ℕ) (xs : List ℕ) (lines one : List Line)
    → SomeStores takes cell i position xs lines → StoresIf (takes (position + length xs)) cell (i + length xs) from one
    → SomeStores takes cell i position (xs ++ from ∷ []) (lines ++ one)
more_some takes cell i position from [] lines one all last = (
  one,
  [],
  subst (λ b. StoresIf b cell i from one) (ap takes (none_beside position))
      (subst (λ j. StoresIf (takes (position + 0)) cell j from one) (none_beside i) last),
  refl,
  ap (λ ls. ls ++ one) all ∙ sym (append-nil one),
)
  where
    none_beside : (n : ℕ) → n + 0 ≡ n
    none_beside n = omega arith
more_some takes cell i position from (x ∷ xs) lines one all last = (
  all.0,
  all.1 ++ one,
  all.2,
  more_some takes cell (suc i) (suc position) from xs all.1 one all.3
      (subst (λ b. StoresIf b cell (suc i + length xs) from one) (ap takes (one_on position (length xs)))
      (subst (λ j. StoresIf (takes (position + suc (length xs))) cell j from one) (one_on i (length xs)) last)),
  ap (λ ls. ls ++ one) all.4 ∙ append_assoc all.0 all.1 one,
)
  where
    one_on : (n k : ℕ) → n + suc k ≡ suc n + k
    one_on n k = omega arith

pub some_more : (takes : ℕ → Bool) (cell n index position : ℕ) (xs : List ℕ) (lines one : List Line) → n < length xs
    → index ≡ first_field + n → position ≡ n → SomeStores takes cell first_field 0 (take n xs) lines
    → StoresIf (takes position) cell index (get_or xs n 0) one
    → SomeStores takes cell first_field 0 (take (n + 1) xs) (lines ++ one)
some_more takes cell n index position xs lines one less is place all last =
    subst (λ ys. SomeStores takes cell first_field 0 ys (lines ++ one)) (sym (take_more xs n 0 less))
    (more_some takes cell 2 0 (get_or xs n 0) (take n xs) lines one all
    (subst (λ b. StoresIf b cell (2 + length (take n xs)) (get_or xs n 0) one)
    (ap takes (place ∙ sym (length_taken xs n less) ∙ none_before (length (take n xs))))
    (subst (λ i. StoresIf (takes position) cell i (get_or xs n 0) one)
    (is ∙ ap (λ m. 2 + m) (sym (length_taken xs n less))) last)))
  where
    none_before : (k : ℕ) → k ≡ 0 + k
    none_before k = omega arith

pub stores_more : (cell n index : ℕ) (xs : List ℕ) (lines : List Line) (line : Line) → n < length xs → index ≡ first_field + n
    → AllStores cell first_field (take n xs) lines → Stores cell index (get_or xs n 0) line
    → AllStores cell first_field (take (n + 1) xs) (lines ++ line ∷ [])
stores_more cell n index xs lines line less is all one =
    subst (λ ys. AllStores cell first_field ys (lines ++ line ∷ [])) (sym (take_more xs n 0 less))
    (more_stores cell 2 (get_or xs n 0) (take n xs) lines line all
    (subst (λ i. Stores cell i (get_or xs n 0) line) (is ∙ ap (λ m. 2 + m) (sym (length_taken xs n less))) one))

more_walk : (temporary value field : ℕ) (way : List ℕ) (lines : List Line) (line : Line) → Walks temporary value way lines
    → Loads (walked temporary value way) (first_field + field) temporary line
    → Walks temporary value (way ++ field ∷ []) (lines ++ line ∷ [])
more_walk temporary value field [] lines line walks one = (line, [], one, refl, ap (λ ls. ls ++ line ∷ []) walks)
more_walk temporary value field (first ∷ way) lines line walks one = (
  walks.0,
  walks.1 ++ line ∷ [],
  walks.2,
  more_walk temporary temporary field way walks.1 line walks.3
      (subst (λ cell. Loads cell (first_field + field) temporary line) (sym (walked_again temporary way)) one),
  ap (λ ls. ls ++ line ∷ []) walks.4,
)
  where
    walked_again : (temporary : ℕ) (way : List ℕ) → walked temporary temporary way ≡ temporary
    walked_again temporary [] = refl
    walked_again temporary (field ∷ way) = refl

pub walked_more : (temporary value n : ℕ) (xs : List ℕ) → n < length xs → walked temporary value (take (n + 1) xs) ≡ temporary
walked_more temporary value n xs less =
    ap (walked temporary value) (take_more xs n 0 less) ∙ behind (take n xs)
  where
    behind : (way : List ℕ) → walked temporary value (way ++ get_or xs n 0 ∷ []) ≡ temporary
    behind [] = refl
    behind (field ∷ way) = refl

pub walk_more : {n index cell : ℕ} {line : Line} {a b c : Lowering} (temporary value : ℕ) (xs : List ℕ) → n < length xs
    → index ≡ 2 + get_or xs n 0 → cell ≡ walked temporary value (take n xs)
    → WroteLines (Walks temporary value (take n xs)) a b → Loads cell index temporary line → Wrote (line ∷ []) b c
    → WroteLines (Walks temporary value (take (n + 1) xs)) a c
walk_more {n} {index} {cell} {line} {a} {b} {c} temporary value xs less is from wrote one more = record {
  lines = wrote.lines ++ line ∷ [];
  wrote = wrote_then wrote.wrote more;
  are = subst (λ ys. Walks temporary value ys (wrote.lines ++ line ∷ [])) (sym (take_more xs n 0 less))
      (more_walk temporary value (get_or xs n 0) (take n xs) wrote.lines line wrote.are
      (subst (λ i. Loads (walked temporary value (take n xs)) i temporary line) is
      (subst (λ from. Loads from index temporary line) from one)));
}

-- ---- an opening by the count of a cell

-- the way of a cell that has other references
pub shared_written : {a b c d e : Lowering} (holds : ℕ → Bool) (x : ℕ) (fields used : List ℕ) (token : ℕ) (loads : List Line)
    → Wrote loads a b → WroteLines (LowersCellCount b.base x) b c → Wrote (sets 0 token ∷ []) c d
    → Wrote (dups_lines holds (filter (is_among used) fields)) d e
    → WroteLines (WayLines false a.base holds x fields used token loads) a e
shared_written {a} {b} {c} {d} {e} holds x fields used token loads all less null dups = record {
  lines = shared_lines holds fields used token loads less.lines;
  wrote = wrote_then all (wrote_then less.wrote (wrote_then null dups));
  are = (less.lines, subst (λ n. LowersCellCount n x less.lines) all.base less.are, refl);
}

-- each way, by whether it is that of a cell that has no other reference
pub alone_written : {a b : Lowering} (holds : ℕ → Bool) (x : ℕ) (fields used : List ℕ) (token : ℕ) (loads : List Line) (alone : Bool)
    → alone ≡ true → Wrote (alone_lines holds x fields used token loads) a b
    → WroteLines (WayLines alone a.base holds x fields used token loads) a b
alone_written {a} {b} holds x fields used token loads alone is wrote =
    subst (λ (way : Bool). WroteLines (WayLines way a.base holds x fields used token loads) a b) (sym is)
    (record { lines = alone_lines holds x fields used token loads; wrote = wrote; are = refl })

pub other_written : {a b : Lowering} (holds : ℕ → Bool) (x : ℕ) (fields used : List ℕ) (token : ℕ) (loads : List Line) (alone : Bool)
    → alone ≡ false → WroteLines (WayLines false a.base holds x fields used token loads) a b
    → WroteLines (WayLines alone a.base holds x fields used token loads) a b
other_written {a} {b} holds x fields used token loads alone is wrote =
    subst (λ (way : Bool). WroteLines (WayLines way a.base holds x fields used token loads) a b) (sym is) wrote

-- both ways, by which of them stands first
record BothWays (into : Option ℕ) (base : ℕ) (holds : ℕ → Bool) (x : ℕ) (fields used : List ℕ) (token : ℕ)
    (loads first second : List Line) : Type 0 where
  pub lowers : List Line
  pub less : LowersCellCount base x lowers
  pub first_is : first
      ≡ first_way into (alone_lines holds x fields used token loads) (shared_lines holds fields used token loads lowers)
  pub second_is : second
      ≡ second_way into (alone_lines holds x fields used token loads) (shared_lines holds fields used token loads lowers)

ways_are : (into : Option ℕ) (base : ℕ) (holds : ℕ → Bool) (x : ℕ) (fields used : List ℕ) (token : ℕ)
    (loads first second : List Line) → WayLines (is_some into) base holds x fields used token loads first
    → WayLines (not (is_some into)) base holds x fields used token loads second
    → BothWays into base holds x fields used token loads first second
ways_are None base holds x fields used token loads first second first_is second_is = record {
  lowers = first_is.0;
  less = first_is.1;
  first_is = first_is.2;
  second_is = second_is;
}
ways_are (Some made) base holds x fields used token loads first second first_is second_is = record {
  lowers = second_is.0;
  less = second_is.1;
  first_is = first_is;
  second_is = second_is.2;
}

module _ {holds : ℕ → Bool} {x : ℕ} {fields used : List ℕ} {token : ℕ} {into : Option ℕ} where
  pub opening_written : {second behind : ℕ} (loads : List Line) {a b c d e f g h i : Lowering} → TookLabel second a b
      → TookLabel behind b c → AllLoads x first_field fields loads
      → WroteLines (TestsCount c.base (goes_second into) second x) c d
      → WroteLines (WayLines (is_some into) d.base holds x fields used token loads) d e
      → Wrote (leaving_lines into token behind (behind + 1)) e f → Wrote (acts (Label second) [] ∷ []) f g
      → WroteLines (WayLines (not (is_some into)) g.base holds x fields used token loads) g h
      → Wrote (acts (Label behind) [] ∷ []) h i
      → WroteOpening holds x fields used token into a i
  opening_written {second} {behind} loads {a} {b} {c} {d} {e} {f} {g} {h} {i} one two all test first leaves label other last =
      record {
        lines = lines;
        grows = grows_more (omega arith) (grows_then (grows_took one) (grows_then (grows_took two) (grows_of whole)));
        label = whole.label ∙ two.next ∙ ap (λ n. n + 1) one.next ∙ next_two a.next_label;
        are = subst (λ n. TokenUniqueLines a.base holds a.next_label (a.next_label + 1) n x fields used token into lines)
            (ap (λ n. n + 1) (two.is ∙ one.next) ∙ next_two a.next_label)
            (subst (λ n. TokenUniqueLines a.base holds a.next_label n (behind + 1) x fields used token into lines)
            (two.is ∙ one.next)
            (subst (λ n. TokenUniqueLines a.base holds n behind (behind + 1) x fields used token into lines) one.is (
              test_own.0,
              loads,
              ways.less.0,
              ways.less.1,
              ways.less.2,
              test_own.1,
              all,
              ways.less.3,
              ways.less.4,
              ways.less.5,
              ap (λ (ls : List Line). ls ++ ((first.lines ++ leaving) ++ ((acts (Label second) [] ∷ other.lines) ++ at_end)))
                  test_own.2
                  ∙ ap (λ (ls : List Line). tested ++ ((ls ++ leaving) ++ ((acts (Label second) [] ∷ other.lines) ++ at_end)))
                  ways.first_is
                  ∙ ap (λ (ls : List Line). tested
                  ++ ((first_way into alone (shared ways.lowers) ++ leaving) ++ ((acts (Label second) [] ∷ ls) ++ at_end)))
                  ways.second_is
                  ∙ ap (λ (ls : List Line). tested ++ both_ways into second behind (behind + 1) token alone (shared ls)) ways.less.6,
            )));
      }
    where
      next_two : (n : ℕ) → n + 1 + 1 ≡ n + 2
      next_two n = omega arith

      at_c : c.base ≡ a.base
      at_c = two.base ∙ one.base

      at_d : d.base ≡ a.base
      at_d = test.wrote.base ∙ at_c

      at_g : g.base ≡ a.base
      at_g = label.base ∙ leaves.base ∙ first.wrote.base ∙ at_d

      alone : List Line
      alone = alone_lines holds x fields used token loads

      shared : List Line → List Line
      shared lowers = shared_lines holds fields used token loads lowers

      leaving : List Line
      leaving = leaving_lines into token behind (behind + 1)

      at_end : List Line
      at_end = acts (Label behind) [] ∷ []

      test_own : TestsCount a.base (goes_second into) second x test.lines
      test_own = subst (λ n. TestsCount n (goes_second into) second x test.lines) at_c test.are

      ways : BothWays into a.base holds x fields used token loads first.lines other.lines
      ways = ways_are into a.base holds x fields used token loads first.lines other.lines
          (subst (λ n. WayLines (is_some into) n holds x fields used token loads first.lines) at_d first.are)
          (subst (λ n. WayLines (not (is_some into)) n holds x fields used token loads other.lines) at_g other.are)

      tested : List Line
      tested = test_own.0 ∷ sets 1 (a.base + 1) ∷ acts (Branch (goes_second into) second) (a.base ∷ (a.base + 1) ∷ []) ∷ []

      lines : List Line
      lines = test.lines ++ ((first.lines ++ leaving) ++ ((acts (Label second) [] ∷ other.lines) ++ at_end))

      whole : Wrote lines c i
      whole = wrote_then test.wrote
          (wrote_then (wrote_then first.wrote leaves) (wrote_then (wrote_then label other.wrote) last))

-- ---- constructions

pub construction_written : {a b c : Lowering} (x header : ℕ) (arguments : List ℕ) → Wrote (take_line x ∷ []) a b
    → WroteLines (StoreLines b.base x header arguments) b c → WroteLines (ConstructLines a.base x header arguments) a c
construction_written {a} {b} {c} x header arguments takes stores = record {
  lines = take_line x ∷ stores.lines;
  wrote = wrote_then takes stores.wrote;
  are = subst (λ n. ConstructLines n x header arguments (take_line x ∷ stores.lines)) takes.base stores.are;
}

-- a construction in the cell of a token
pub fill_written : {x token header filled : ℕ} {others arguments kept : List ℕ} {head count : Bool} {a b c d e f g : Lowering}
    → TookLabel filled a b
    → Wrote (copies_to token x ∷ acts (Branch NotEqual filled) (x ∷ []) ∷ []) b c → Wrote (request_lines x others) c d
    → WroteLines (SomeWords head count (is_kept true kept) d.base x header arguments) d e → Wrote (acts (Label filled) [] ∷ []) e f
    → WroteLines (SomeWords (not head) (not count) (is_kept false kept) f.base x header arguments) f g
    → WroteFill x token others header arguments kept head count a g
fill_written {x} {token} {header} {filled} {others} {arguments} {kept} {head} {count} {a} {b} {c} {d} {e} {f} {g} took test
    requests left labelled stores = record {
      lines = test_lines ++ (request_lines x others ++ behind);
      grows = grows_more (omega arith) (grows_then (grows_took took) (grows_of
          (wrote_then test (wrote_then requests (wrote_then left.wrote (wrote_then labelled stores.wrote))))));
      label = stores.wrote.label ∙ labelled.label ∙ left.wrote.label ∙ requests.label ∙ test.label ∙ took.next;
      are = subst (λ n. FillLines a.base x token others n header arguments kept head count
          (test_lines ++ (request_lines x others ++ behind))) took.is (
            left.lines,
            stores.lines,
            subst (λ n. SomeWords head count (is_kept true kept) n x header arguments left.lines)
                (requests.base ∙ test.base ∙ took.base) left.are,
            subst (λ n. SomeWords (not head) (not count) (is_kept false kept) n x header arguments stores.lines)
                (labelled.base ∙ left.wrote.base ∙ requests.base ∙ test.base ∙ took.base) stores.are,
            ap (λ (ls : List Line). test_lines ++ ls)
                (append_assoc (hold_lines others) (take_line x ∷ unhold_lines others) behind),
          );
    }
  where
    test_lines : List Line
    test_lines = copies_to token x ∷ acts (Branch NotEqual filled) (x ∷ []) ∷ []

    behind : List Line
    behind = left.lines ++ (acts (Label filled) [] ∷ stores.lines)

-- a word of a cell, and none
pub word_written : (cell i word : ℕ) {taken : Bool} {set_line store : Line} {a b : Lowering} → taken ≡ true
    → set_line ≡ sets word a.base → Stores cell i a.base store → Wrote (set_line ∷ store ∷ []) a b
    → WroteLines (SetIf taken a.base cell i word) a b
word_written cell i word {taken} {set_line} {store} {a} {b} is set_is stores wrote =
    subst (λ t. WroteLines (SetIf t a.base cell i word) a b) (sym is)
    (record { lines = set_line ∷ store ∷ []; wrote = wrote; are = (store, stores, ap (λ (l : Line). l ∷ store ∷ []) set_is) })

pub no_word_written : (a : Lowering) (cell i word : ℕ) {taken : Bool} → taken ≡ false
    → WroteLines (SetIf taken a.base cell i word) a a
no_word_written a cell i word {taken} is =
    subst (λ t. WroteLines (SetIf t a.base cell i word) a a) (sym is)
    (record {
      lines = [];
      wrote = record { code = sym (append-nil (lines_written a)); texts = refl; base = refl; label = refl };
      are = refl;
    })

-- some words of a construction
pub some_words_written : (x header : ℕ) (arguments : List ℕ) (head count : Bool) (takes : ℕ → Bool) {a b c d : Lowering}
    (fields : List Line) → SomeStores takes x first_field 0 arguments fields → WroteLines (SetIf head a.base x 1 header) a b
    → Wrote fields b c → WroteLines (SetIf count c.base x 0 1) c d
    → WroteLines (SomeWords head count takes a.base x header arguments) a d
some_words_written x header arguments head count takes {a} {b} {c} {d} fields stores first middle last = record {
  lines = first.lines ++ (fields ++ last.lines);
  wrote = wrote_then first.wrote (wrote_then middle last.wrote);
  are = (
    first.lines,
    fields,
    last.lines,
    first.are,
    stores,
    subst (λ n. SetIf count n x 0 1 last.lines) (middle.base ∙ first.wrote.base) last.are,
    refl,
  );
}

-- ---- tests

pub odd_lines : (value temporary node label : ℕ) (to : ℕ → ℕ) (otherwise : Option ℕ) (one : Immediate) (first second : Line)
    → otherwise ≡ Some node → label ≡ to node → one.word ≡ 1
    → first ≡ computes (Op.Immediate Andi one) (value ∷ []) temporary → second ≡ acts (Branch NotEqual label) (temporary ∷ [])
    → OddLines value temporary to otherwise (first ∷ second ∷ [])
odd_lines value temporary node label to otherwise one first second is label_is word first_is second_is =
    subst (λ other. OddLines value temporary to other (first ∷ second ∷ [])) (sym is)
    (one, word, cc (label_is, first_is, second_is))

-- the tests of a number, the last one apart
pub choice_written : {a b c : Lowering} (number : Answer → ℕ) (to : ℕ → ℕ) (next value temporary : ℕ) (edges some : List Edge)
    (last : Option Edge) (other : Option ℕ) → edges ≡ some ++ option_to_list last
    → Wrote (number_tests number to value temporary some) a b → Wrote (last_lines number to next value temporary last other) b c
    → WroteLines (ChoiceLines number to next value temporary edges other) a c
choice_written number to next value temporary edges some last other is first second = record {
  lines = number_tests number to value temporary some ++ last_lines number to next value temporary last other;
  wrote = wrote_then first second;
  are = (some, last, is, refl);
}

decide_lines : (layout : Layout) (to : ℕ → ℕ) (next value temporary : ℕ) (plain tagged : List Edge) (otherwise other : Option ℕ)
    (odd loads choice : List Line) → (tagged ≡ [] → ⊥) → OddLines value temporary to otherwise odd
    → LoadsTag value temporary loads → ChoiceLines (answer_tag layout) to next temporary (temporary + 1) tagged other choice
    → DecideLines layout to next value temporary plain tagged otherwise other
    (number_tests (answer_word layout) to value temporary plain ++ (odd ++ (loads ++ choice)))
decide_lines layout to next value temporary plain [] otherwise other odd loads choice some odds loaded chosen =
    absurd (some refl)
decide_lines layout to next value temporary plain (edge ∷ edges) otherwise other odd loads choice some odds loaded chosen = (
  odd,
  loaded.0,
  loaded.1,
  choice,
  odds,
  loaded.2,
  loaded.3,
  chosen,
  ap (λ (ls : List Line). number_tests (answer_word layout) to value temporary plain ++ (odd ++ (ls ++ choice))) loaded.4,
)

pub tags_written : {above : ℕ} {a b c d e : Lowering} (layout : Layout) (to : ℕ → ℕ) (next value temporary : ℕ)
    (plain tagged : List Edge) (otherwise other : Option ℕ) → (tagged ≡ [] → ⊥) → above ≡ temporary + 1
    → Wrote (number_tests (answer_word layout) to value temporary plain) a b
    → WroteLines (OddLines value temporary to otherwise) b c → WroteLines (LoadsTag value temporary) c d
    → WroteLines (ChoiceLines (answer_tag layout) to next temporary above tagged other) d e
    → WroteLines (DecideLines layout to next value temporary plain tagged otherwise other) a e
tags_written {above} layout to next value temporary plain tagged otherwise other some is words odd loads choice = record {
  lines = number_tests (answer_word layout) to value temporary plain ++ (odd.lines ++ (loads.lines ++ choice.lines));
  wrote = wrote_then words (wrote_then odd.wrote (wrote_then loads.wrote choice.wrote));
  are = decide_lines layout to next value temporary plain tagged otherwise other odd.lines loads.lines choice.lines some odd.are
      loads.are
      (subst (λ t. ChoiceLines (answer_tag layout) to next temporary t tagged other choice.lines) is choice.are);
}

pub words_written : {a b : Lowering} (layout : Layout) (to : ℕ → ℕ) (next value temporary : ℕ) (plain tagged : List Edge)
    (otherwise other : Option ℕ) → tagged ≡ [] → WroteLines (ChoiceLines (answer_word layout) to next value temporary plain other) a b
    → WroteLines (DecideLines layout to next value temporary plain tagged otherwise other) a b
words_written {a} {b} layout to next value temporary plain tagged otherwise other none wrote =
    subst (λ es. WroteLines (DecideLines layout to next value temporary plain es otherwise other) a b) (sym none)
    (record { lines = wrote.lines; wrote = wrote.wrote; are = wrote.are })

pub test_written : {value temporary : ℕ} {a b c : Lowering} (base : ℕ) (layout : Layout) (to : ℕ → ℕ) (next x : ℕ) (at : List ℕ)
    (edges : List Edge) (otherwise : Option ℕ) (plain tagged : List Edge) (other : Option ℕ)
    → WroteLines (Walks base x at) a b → value ≡ walked base x at → temporary ≡ spare base at
    → AreTried (filter (λ edge. is_plain layout edge.found) edges) (filter (λ edge. not (is_plain layout edge.found)) edges) otherwise
    plain tagged other
    → WroteLines (DecideLines layout to next value temporary plain tagged otherwise other) b c
    → WroteLines (TestLines layout base to next x at edges otherwise) a c
test_written {value} {temporary} {a} {b} {c} base layout to next x at edges otherwise plain tagged other walk value_is spare_is tried
    decided = record {
      lines = walk.lines ++ decided.lines;
      wrote = wrote_then walk.wrote decided.wrote;
      are = (
        walk.lines,
        decided.lines,
        plain,
        tagged,
        other,
        walk.are,
        tried,
        subst (λ v. DecideLines layout to next v (spare base at) plain tagged otherwise other decided.lines) value_is
            (subst (λ t. DecideLines layout to next value t plain tagged otherwise other decided.lines) spare_is decided.are),
        refl,
      );
    }

-- a test behind its label
pub labelled_test : {label behind : ℕ} {a b c : Lowering} (layout : Layout) (nodes : ℕ) (ways : Ways) (x k : ℕ) (at : List ℕ)
    (edges : List Edge) (otherwise : Option ℕ) → label ≡ nodes + k → behind ≡ ways.behind k → Wrote (acts (Label label) [] ∷ []) a b
    → WroteLines (TestLines layout b.base ways.to behind x at edges otherwise) b c
    → WroteLines (NodeLines layout a.base nodes ways x k (tests at edges otherwise)) a c
labelled_test {label} {behind} {a} {b} {c} layout nodes ways x k at edges otherwise is behind_is labelled test = record {
  lines = acts (Label (nodes + k)) [] ∷ test.lines;
  wrote = wrote_then (subst (λ n. Wrote (acts (Label n) [] ∷ []) a b) is labelled) test.wrote;
  are = (
    test.lines,
    subst (λ n. TestLines layout n ways.to (ways.behind k) x at edges otherwise test.lines) labelled.base
        (subst (λ n. TestLines layout b.base ways.to n x at edges otherwise test.lines) behind_is test.are),
    refl,
  );
}

more_nodes : (layout : Layout) (base nodes : ℕ) (ways : Ways) (x k : ℕ) (each : List NodeTree) (node : NodeTree)
    (lines first : List Line) → NodesLines layout base nodes ways x k each lines
    → NodeLines layout base nodes ways x (k + length each) node first
    → NodesLines layout base nodes ways x k (each ++ node ∷ []) (lines ++ first)
more_nodes layout base nodes ways x k [] node lines first all one = (
  first,
  [],
  subst (λ n. NodeLines layout base nodes ways x n node first) (none k) one,
  refl,
  ap (λ (ls : List Line). ls ++ first) all ∙ sym (append-nil first),
)
  where
    none : (n : ℕ) → n + 0 ≡ n
    none n = omega arith
more_nodes layout base nodes ways x k (other ∷ each) node lines first all one = (
  all.0,
  all.1 ++ first,
  all.2,
  more_nodes layout base nodes ways x (suc k) each node all.1 first all.3
      (subst (λ n. NodeLines layout base nodes ways x n node first) (one_more k (length each)) one),
  ap (λ (ls : List Line). ls ++ first) all.4 ∙ append_assoc all.0 all.1 first,
)
  where
    one_more : (n m : ℕ) → n + suc m ≡ suc n + m
    one_more n m = omega arith

pub nodes_more : {number : ℕ} {a b c : Lowering} (layout : Layout) (nodes : ℕ) (ways : Ways) (x : ℕ) (each : List NodeTree)
    (node : NodeTree) → number ≡ length each
    → WroteLines (NodesLines layout a.base nodes ways x 0 each) a b
    → WroteLines (NodeLines layout b.base nodes ways x number node) b c
    → WroteLines (NodesLines layout a.base nodes ways x 0 (each ++ node ∷ [])) a c
nodes_more {number} {a} {b} {c} layout nodes ways x each node is wrote one = record {
  lines = wrote.lines ++ one.lines;
  wrote = wrote_then wrote.wrote one.wrote;
  are = more_nodes layout a.base nodes ways x 0 each node wrote.lines one.lines wrote.are
      (subst (λ n. NodeLines layout a.base nodes ways x n node one.lines) (is ∙ none (length each))
      (subst (λ n. NodeLines layout n nodes ways x number node one.lines) wrote.wrote.base one.are));
}
  where
    none : (n : ℕ) → n ≡ 0 + n
    none n = omega arith

-- the first label of the nodes from one on
pub later_label : (nodes arms k : ℕ) (each rest : List Node) → rest ≡ slice_range each k (length each)
    → first_label nodes arms k (map node_tree rest) ≡ first_label nodes arms k (drop k (map node_tree each))
later_label nodes arms k each rest is =
    ap (λ ns. first_label nodes arms k (map node_tree ns)) (is ∙ take_all (length each - k) (drop k each) few)
    ∙ ap (first_label nodes arms k) (sym (drop-map node_tree k each))
  where
    few : length (drop k each) ≤ length each - k
    few = let left = length-drop k each in omega (arith, left)
