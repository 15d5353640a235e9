-- What calls of an emitter of code with tokens change of what it has written leaves it such code.
use Rattle.std.proofs.Common.{◌≡◌, ℕ, suc, ◌<◌, ◌==◌, ◌||◌, Bool, true, false, not, List, [], ◌∷◌, ◌++◌, map, reverse, length, append_assoc, arith, refl, sym, ap, ◌∙◌, subst}
use Rattle.std.specs.Prelude.{filter, if◌then◌else◌, Option, Some, None, option_map, slice_index_or}
use Rattle.std.proofs.lemmas.Grind.{reverse_onto}
use Rattle.std.proofs.lemmas.Bool.Decides.{nat_tests}
use Rattle.std.proofs.lemmas.List.{map-append}
use Rattle.std.specs.Global.{Vec}
use Rattle.kk_syntax.specs.declared.program.Form.{Form}
use Rattle.kk_syntax.specs.declared.program.Form.TheVariants.{Construct, Call}
use Rattle.kk_syntax.specs.declared.program.Form.TheVariants as OfForm
use Rattle.kk_syntax.specs.Shapes.{is_among, without}
use Rattle.kk_emitter.specs.declared.work.Work.{Work}
use Rattle.kk_counted.specs.declared.tokened.TokenedStep.{TokenedStep}
use Rattle.kk_counted.specs.declared.tokened.TokenedFun.{TokenedFun}
use Rattle.kk_syntax.specs.PositionsOf.{PositionTable}
use Rattle.kk_counted.specs.Arms.{HasArms}
use Rattle.kk_counted.specs.Marks.{CellMarks, CanBeMarked}
use Rattle.kk_counted.specs.Programs.{IsJudged}
use Rattle.kk_counted.proofs.CountChanges.{itself}
use Rattle.kk_counted.specs.CountedCodes.{Counted, tail_call, compute, inside, read, open_cell, if_unique, dup, drop}
use Rattle.kk_counted.specs.CountedForms.{computes, reads, dups, plug}
use Rattle.kk_counted.specs.Spending.{AreApart}
use Rattle.kk_counted.specs.TokenedCodes.{Tokened}
use Rattle.kk_counted.specs.TokenedForms.{TokenedMove, put_tokened, plug_tokened, tokened_move, tokened_code, tokened_function, opens_with, fills_with}
use Rattle.kk_counted.specs.TokenSpending.{SpendsTokens}
use Rattle.kk_counted.specs.BareForms.{bare, bare_function}
use Rattle.kk_counted.specs.KeptFields.{KnownFields, fields_in, forget_variable, forget_variables, KeepsKnown, LeavesKnown}
use Rattle.kk_emitter.specs.Drafts.{Split, Draft, begun, given, duplicated, dropped, unpacked, looked, fields_given, computed, opens_by, end_code, finished, IsPlain, Writes}
use Rattle.kk_emitter.specs.Emitting.{IsBody}
use Rattle.kk_counted.specs.VariableLists.{AreLow}
use Rattle.kk_emitter.specs.TokenDrafts.{TokenSplit, TokenDraft, no_tokens, tokened_end, tokens_finished, tokens_closed, next_slot, adds, gains, spends, under_holds, reads_with, bare_move, bare_moves}
use Rattle.kk_emitter.specs.Works.{token_draft}
use Rattle.kk_emitter.specs.TokenEmitting.{LeadsTokens, AreFalling, known_by, known_behind, AllLeave, first_spare, first_known, known_now, AreTokenSplits, IsTokened, KeepsTokens, IsTokenedFunctionOf, fields_at}
use Rattle.kk_emitter.proofs.ClosedBlocks.{body_ends, marked_ends}
use Rattle.kk_emitter.proofs.ClosedTokens.{TokensEnd, bare_ends, tokens_end, leaves_end, tokens_closed_end}

-- ---- steps without tokens

pub bare_more : (xs ys : List TokenedMove) → bare_moves (xs ++ ys) ≡ bare_moves xs ++ bare_moves ys
bare_more [] ys = refl
bare_more (x ∷ xs) ys = ap (λ moves. bare_move x ++ moves) (bare_more xs ys) ∙ sym (append_assoc (bare_move x) (bare_moves xs) (bare_moves ys))

pub bare_plug : (moves : List TokenedMove) (rest : Tokened) → bare (plug_tokened moves rest) ≡ plug (bare_moves moves) (bare rest)
bare_plug [] rest = refl
bare_plug (TokenedMove.computes x form arguments others ∷ moves) rest = ap (compute x form arguments) (bare_plug moves rest)
bare_plug (TokenedMove.runs x block ∷ moves) rest = ap (inside x (bare block)) (bare_plug moves rest)
bare_plug (TokenedMove.reads x c fields ∷ moves) rest = ap (read x c fields) (bare_plug moves rest)
bare_plug (TokenedMove.opens x c fields used y ∷ moves) rest = ap (open_cell x c fields used) (bare_plug moves rest)
bare_plug (TokenedMove.opens_unique x c fields used y ∷ moves) rest = ap (if_unique x c fields used) (bare_plug moves rest)
bare_plug (TokenedMove.dups x ∷ moves) rest = ap (dup x) (bare_plug moves rest)
bare_plug (TokenedMove.drops x ∷ moves) rest = ap (drop x) (bare_plug moves rest)
bare_plug (TokenedMove.fills x y c one arguments kept others ∷ moves) rest = ap (compute x (Construct c) (one ∷ arguments)) (bare_plug moves rest)
bare_plug (TokenedMove.frees y ∷ moves) rest = bare_plug moves rest
bare_plug (TokenedMove.nulls y ∷ moves) rest = bare_plug moves rest
bare_plug (TokenedMove.moves to of ∷ moves) rest = bare_plug moves rest
bare_plug (TokenedMove.holds y ∷ moves) rest = bare_plug moves rest
bare_plug (TokenedMove.unholds y ∷ moves) rest = bare_plug moves rest

-- ---- steps one behind the other

pub plug_more : (xs ys : List TokenedMove) (rest : Tokened) → plug_tokened (xs ++ ys) rest ≡ plug_tokened xs (plug_tokened ys rest)
plug_more [] ys rest = refl
plug_more (x ∷ xs) ys rest = ap (put_tokened x) (plug_more xs ys rest)

pub leads_then : (a b c : List ℕ) (xs ys : List TokenedMove) → LeadsTokens a b xs → LeadsTokens b c ys → LeadsTokens a c (xs ++ ys)
leads_then a b c xs ys one two left rest spent =
    subst (SpendsTokens left a []) (sym (plug_more xs ys rest)) (one left (plug_tokened ys rest) (two left rest spent))

-- ---- slots

pub append_nil : {A : Type 0} (xs : List A) → xs ++ [] ≡ xs
append_nil [] = refl
append_nil (x ∷ xs) = ap (λ ys. x ∷ ys) (append_nil xs)

filter_more : (test : ℕ → Bool) (xs ys : List ℕ) → filter test (xs ++ ys) ≡ filter test xs ++ filter test ys
filter_more test [] ys = refl
filter_more test (x ∷ xs) ys = by_test (test x) (filter_more test xs ys)
  where
    by_test : (b : Bool) → filter test (xs ++ ys) ≡ filter test xs ++ filter test ys
        → (if b then x ∷ filter test (xs ++ ys) else filter test (xs ++ ys)) ≡ (if b then x ∷ filter test xs else filter test xs) ++ filter test ys
    by_test true later = ap (λ zs. x ∷ zs) later
    by_test false later = later

filter_reverse : (test : ℕ → Bool) (xs : List ℕ) → reverse (filter test xs) ≡ filter test (reverse xs)
filter_reverse test [] = refl
filter_reverse test (x ∷ xs) = by_test (test x) (filter_reverse test xs) ∙ sym (ap (filter test) (reverse_onto xs x []) ∙ filter_more test (reverse xs) (x ∷ []))
  where
    by_test : (b : Bool) → reverse (filter test xs) ≡ filter test (reverse xs)
        → reverse (if b then x ∷ filter test xs else filter test xs) ≡ filter test (reverse xs) ++ (if b then x ∷ [] else [])
    by_test true later = reverse_onto (filter test xs) x [] ∙ ap (λ ys. ys ++ x ∷ []) later
    by_test false later = later ∙ sym (append_nil (filter test (reverse xs)))

filter_alike : (one two : ℕ → Bool) (xs : List ℕ) → ((x : ℕ) → one x ≡ two x) → filter one xs ≡ filter two xs
filter_alike one two [] same = refl
filter_alike one two (x ∷ xs) same =
    ap (λ b. if b then x ∷ filter one xs else filter one xs) (same x) ∙ ap (λ ys. if two x then x ∷ ys else ys) (filter_alike one two xs same)

other_slots : (slot y : ℕ) → not (y == slot) ≡ not (is_among (slot ∷ []) y)
other_slots slot y = ap not (same_test ∙ or_false (slot == y))
  where
    same_test : (y == slot) ≡ (slot == y)
    same_test = grind (arith, nat_tests)

    or_false : (t : Bool) → t ≡ (t || false)
    or_false true = refl
    or_false false = refl

pub without_is : (slot : ℕ) (slots : List ℕ) → filter (λ y. not (y == slot)) slots ≡ without (slot ∷ []) slots
without_is slot slots = filter_alike (λ y. not (y == slot)) (λ y. not (is_among (slot ∷ []) y)) slots (other_slots slot)

-- the slots but one, from their end on and from their beginning
pub without_back : (slot : ℕ) (slots : List ℕ) → reverse (filter (λ y. not (y == slot)) slots) ≡ without (slot ∷ []) (reverse slots)
without_back slot slots = filter_reverse (λ y. not (y == slot)) slots ∙ without_is slot (reverse slots)

among_filter : (test : ℕ → Bool) (xs : List ℕ) (x : ℕ) → is_among (filter test xs) x ≡ true → is_among xs x ≡ true
among_filter test [] x is = is
among_filter test (y ∷ ys) x is = by_test (test y) is (among_filter test ys x)
  where
    behind : (t : Bool) → is_among ys x ≡ true → (t || is_among ys x) ≡ true
    behind true there = refl
    behind false there = there

    both : (t : Bool) → (t || is_among (filter test ys) x) ≡ true → (is_among (filter test ys) x ≡ true → is_among ys x ≡ true) → (t || is_among ys x) ≡ true
    both true there later = refl
    both false there later = later there

    by_test : (b : Bool) → is_among (if b then y ∷ filter test ys else filter test ys) x ≡ true → (is_among (filter test ys) x ≡ true → is_among ys x ≡ true)
        → ((y == x) || is_among ys x) ≡ true
    by_test true there later = both (y == x) there later
    by_test false there later = behind (y == x) (later there)

pub above_all : (n : ℕ) (xs : List ℕ) → AreLow n xs → is_among xs n ≡ false
above_all n xs low = by_test (is_among xs n) refl
  where
    by_test : (t : Bool) → is_among xs n ≡ t → t ≡ false
    by_test false is = refl
    by_test true is = absurd (omega (arith, low n is))

pub falling_next : (spare : List ℕ) → AreFalling spare → AreFalling (next_slot spare ∷ spare)
falling_next [] falling = (λ x is. absurd (cc), tt)
falling_next (y ∷ ys) falling = (λ x is. by_test x (y == x) refl is, falling)
  where
    by_test : (x : ℕ) (t : Bool) → (y == x) ≡ t → (t || is_among ys x) ≡ true → x < suc y
    by_test x true one is = grind arith
    by_test x false one is = omega (arith, falling.0 x is)

pub falling_filter : (test : ℕ → Bool) (spare : List ℕ) → AreFalling spare → AreFalling (filter test spare)
falling_filter test [] falling = tt
falling_filter test (y ∷ ys) falling = by_test (test y) (falling_filter test ys falling.1)
  where
    by_test : (b : Bool) → AreFalling (filter test ys) → AreFalling (if b then y ∷ filter test ys else filter test ys)
    by_test true later = (λ x is. falling.0 x (among_filter test ys x is), later)
    by_test false later = later

pub falling_apart : (spare : List ℕ) → AreFalling spare → AreApart spare
falling_apart [] falling = tt
falling_apart (y ∷ ys) falling = (above_all y ys falling.0, falling_apart ys falling.1)

-- a step that spends a token is put behind the others
pub put_spent : (old : Work) (steps : Vec TokenedStep) (spare : Vec ℕ) (step : TokenedStep) (slot : ℕ) → steps.items ≡ old.steps.items ++ step ∷ []
    → spare.items ≡ filter (λ y. not (y == slot)) old.spare.items
    → token_draft (record old { steps = steps; spare = spare }) ≡ spends (token_draft old) (tokened_move step) slot
put_spent old steps spare step slot grown left =
    ap (λ (xs : List TokenedStep). record (token_draft old) { moves = map tokened_move xs; spare = reverse spare.items }) grown
    ∙ (ap (λ moves. record (token_draft old) { moves = moves; spare = reverse spare.items }) (map-append tokened_move old.steps.items (step ∷ []))
    ∙ ap (λ slots. record (token_draft old) { moves = map tokened_move old.steps.items ++ tokened_move step ∷ []; spare = slots }) (ap reverse left ∙ without_back slot old.spare.items))

-- ---- what steps lead to

pub leads_still : (spare : List ℕ) (x : ℕ) → LeadsTokens spare spare (TokenedMove.dups x ∷ [])
leads_still spare x left rest spent = (refl, spent)

pub leads_drop : (spare : List ℕ) (x : ℕ) → LeadsTokens spare spare (TokenedMove.drops x ∷ [])
leads_drop spare x left rest spent = spent

pub leads_open : (spare : List ℕ) (by_count : Bool) (x c : ℕ) (fields used : List ℕ) → AreFalling spare
    → LeadsTokens spare (next_slot spare ∷ spare) (opens_with by_count x c fields used (next_slot spare) ∷ [])
leads_open spare true x c fields used falling left rest spent = (refl, (above_all (next_slot spare) spare (falling_next spare falling).0, spent))
leads_open spare false x c fields used falling left rest spent = (refl, (above_all (next_slot spare) spare (falling_next spare falling).0, spent))

pub leads_construct : (spare : List ℕ) (x c : ℕ) (arguments : List ℕ) → AreFalling spare
    → LeadsTokens spare spare (TokenedMove.computes x (Construct c) arguments spare ∷ [])
leads_construct spare x c [] falling left rest spent = (refl, spent)
leads_construct spare x c (one ∷ arguments) falling left rest spent = ((refl, (falling_apart spare falling, λ y. refl)), spent)

pub leads_free : (spare : List ℕ) (y : ℕ) → is_among spare y ≡ true → LeadsTokens spare (without (y ∷ []) spare) (TokenedMove.frees y ∷ [])
leads_free spare y there left rest spent = (refl, (there, spent))

pub leads_fill : (spare : List ℕ) (x y c one : ℕ) (arguments kept : List ℕ) → AreFalling spare → is_among spare y ≡ true
    → LeadsTokens spare (without (y ∷ []) spare) (TokenedMove.fills x y c one arguments kept (without (y ∷ []) spare) ∷ [])
leads_fill spare x y c one arguments kept falling there left rest spent =
    (refl, (there, (falling_apart (without (y ∷ []) spare) (falling_filter (λ z. not (is_among (y ∷ []) z)) spare falling), (λ z. refl, spent))))

pub leads_fills : (spare : List ℕ) (x y c : ℕ) (arguments kept : List ℕ) → 0 < length arguments → AreFalling spare → is_among spare y ≡ true
    → LeadsTokens spare (without (y ∷ []) spare) (fills_with x y c arguments kept (without (y ∷ []) spare) ∷ [])
leads_fills spare x y c [] kept some falling there = absurd (omega (arith, some))
leads_fills spare x y c (one ∷ arguments) kept some falling there = leads_fill spare x y c one arguments kept falling there

pub bare_fills : (x y c : ℕ) (arguments kept others : List ℕ) → bare_moves (fills_with x y c arguments kept others ∷ []) ≡ computes x (Construct c) arguments ∷ []
bare_fills x y c [] kept others = refl
bare_fills x y c (one ∷ arguments) kept others = refl

leads_dups : (spare used : List ℕ) → LeadsTokens spare spare (map TokenedMove.dups used)
leads_dups spare [] left rest spent = spent
leads_dups spare (x ∷ used) left rest spent = (refl, leads_dups spare used left rest spent)

pub bare_open : (by_count : Bool) (x c : ℕ) (fields used : List ℕ) (slot : ℕ) → bare_moves (opens_with by_count x c fields used slot ∷ []) ≡ opens_by by_count x c fields used ∷ []
bare_open true x c fields used slot = refl
bare_open false x c fields used slot = refl

pub leads_reads : (spare : List ℕ) (x c : ℕ) (fields used : List ℕ) → LeadsTokens spare spare (reads_with x c fields used)
leads_reads spare x c fields used left rest spent = (refl, leads_dups spare used left rest spent)

bare_dups : (used : List ℕ) → bare_moves (map TokenedMove.dups used) ≡ map dups used
bare_dups [] = refl
bare_dups (x ∷ used) = ap (λ moves. dups x ∷ moves) (bare_dups used)

pub bare_reads : (x c : ℕ) (fields used : List ℕ) → bare_moves (reads_with x c fields used) ≡ reads x c fields ∷ map dups used
bare_reads x c fields used = ap (λ moves. reads x c fields ∷ moves) (bare_dups used)

pub leads_plain : (d : Draft) (spare : List ℕ) (x : ℕ) (form : Form) (arguments : List ℕ) → IsPlain d form arguments → AreFalling spare
    → LeadsTokens spare spare (TokenedMove.computes x form arguments spare ∷ [])
leads_plain d spare x (OfForm.Number n) arguments plain falling left rest spent = (refl, spent)
leads_plain d spare x OfForm.Unit arguments plain falling left rest spent = (refl, spent)
leads_plain d spare x OfForm.ReadByte arguments plain falling left rest spent = (refl, spent)
leads_plain d spare x (OfForm.PrintText form text) arguments plain falling left rest spent = (refl, spent)
leads_plain d spare x (OfForm.Unary operator) arguments plain falling left rest spent = (refl, spent)
leads_plain d spare x (OfForm.Binary operator) arguments plain falling left rest spent = (refl, spent)
leads_plain d spare x (OfForm.Print form) arguments plain falling left rest spent = (refl, spent)
leads_plain d spare x (OfForm.Construct c) arguments plain falling left rest spent = leads_construct spare x c arguments falling left rest spent
leads_plain d spare x (OfForm.Call f) arguments plain falling left rest spent = absurd plain

-- what is behind another slot is among both
behind : (ys : List ℕ) (t : Bool) (z : ℕ) → is_among ys z ≡ true → (t || is_among ys z) ≡ true
behind ys true z there = refl
behind ys false z there = there

-- the tokens are held, and taken back
module _ (left unspent : List ℕ) where
  holds_spend : (spare : List ℕ) (rest : Tokened) → ((y : ℕ) → is_among spare y ≡ true → is_among unspent y ≡ true) → AreApart spare
      → SpendsTokens left unspent spare rest → SpendsTokens left unspent [] (plug_tokened (map TokenedMove.holds (reverse spare)) rest)
  holds_spend [] rest all apart spent = spent
  holds_spend (y ∷ ys) rest all apart spent =
      subst (λ (moves : List TokenedMove). SpendsTokens left unspent [] (plug_tokened moves rest)) (sym (one_more y ys))
      (subst (SpendsTokens left unspent []) (sym (plug_more (map TokenedMove.holds (reverse ys)) (TokenedMove.holds y ∷ []) rest))
      (holds_spend ys (Tokened.hold y rest) (λ z is. all z (behind ys (y == z) z is)) apart.1 (all y (ap (λ b. b || is_among ys y) (itself y)), (apart.0, spent))))
    where
      one_more : (y : ℕ) (ys : List ℕ) → map TokenedMove.holds (reverse (y ∷ ys)) ≡ map TokenedMove.holds (reverse ys) ++ TokenedMove.holds y ∷ []
      one_more y ys = ap (map TokenedMove.holds) (reverse_onto ys y []) ∙ map-append TokenedMove.holds (reverse ys) (y ∷ [])

  unholds_spend : (spare : List ℕ) (rest : Tokened) → ((y : ℕ) → is_among spare y ≡ true → is_among unspent y ≡ true)
      → SpendsTokens left unspent [] rest → SpendsTokens left unspent spare (plug_tokened (map TokenedMove.unholds spare) rest)
  unholds_spend [] rest all spent = spent
  unholds_spend (y ∷ ys) rest all spent =
      (ys, (refl, (all y (ap (λ b. b || is_among ys y) (itself y)), unholds_spend ys rest (λ z is. all z (behind ys (y == z) z is)) spent)))

pub leads_call : (spare : List ℕ) (x f : ℕ) (arguments others : List ℕ) → AreFalling spare
    → LeadsTokens spare spare (under_holds spare (TokenedMove.computes x (Call f) arguments others))
leads_call spare x f arguments others falling left rest spent =
    subst (SpendsTokens left spare [])
    (sym (plug_more (map TokenedMove.holds (reverse spare)) (TokenedMove.computes x (Call f) arguments others ∷ map TokenedMove.unholds spare) rest))
    (holds_spend left spare spare (Tokened.compute x (Call f) arguments others (plug_tokened (map TokenedMove.unholds spare) rest)) (λ y is. is) (falling_apart spare falling)
    ((λ y is. is), unholds_spend left spare spare rest (λ y is. is) spent))

bare_held : (slots : List ℕ) (moves : List TokenedMove) → bare_moves (map TokenedMove.holds slots ++ moves) ≡ bare_moves moves
bare_held [] moves = refl
bare_held (y ∷ slots) moves = bare_held slots moves

bare_unheld : (slots : List ℕ) → bare_moves (map TokenedMove.unholds slots) ≡ []
bare_unheld [] = refl
bare_unheld (y ∷ slots) = bare_unheld slots

-- without its holds a call stands alone
pub bare_call : (spare : List ℕ) (call : TokenedMove) → bare_moves (under_holds spare call) ≡ bare_move call ++ []
bare_call spare call = bare_held (reverse spare) (call ∷ map TokenedMove.unholds spare) ∙ ap (λ moves. bare_move call ++ moves) (bare_unheld spare)

-- ---- fields that constructions leave

pub leaves_plug : (moves : List TokenedMove) (known : List KnownFields) (rest : Tokened) → AllLeave known moves → LeavesKnown (known_behind moves known) rest
    → LeavesKnown known (plug_tokened moves rest)
leaves_plug [] known rest all last = last
leaves_plug (TokenedMove.computes x form arguments others ∷ moves) known rest all last = leaves_plug moves _ rest all.1 last
leaves_plug (TokenedMove.runs x block ∷ moves) known rest all last = (all.0, leaves_plug moves _ rest all.1 last)
leaves_plug (TokenedMove.reads x c fields ∷ moves) known rest all last = leaves_plug moves _ rest all.1 last
leaves_plug (TokenedMove.opens x c fields used y ∷ moves) known rest all last = leaves_plug moves _ rest all.1 last
leaves_plug (TokenedMove.opens_unique x c fields used y ∷ moves) known rest all last = leaves_plug moves _ rest all.1 last
leaves_plug (TokenedMove.dups x ∷ moves) known rest all last = leaves_plug moves _ rest all.1 last
leaves_plug (TokenedMove.drops x ∷ moves) known rest all last = leaves_plug moves _ rest all.1 last
leaves_plug (TokenedMove.fills x y c one arguments kept others ∷ moves) known rest all last = (all.0, leaves_plug moves _ rest all.1 last)
leaves_plug (TokenedMove.frees y ∷ moves) known rest all last = leaves_plug moves _ rest all.1 last
leaves_plug (TokenedMove.nulls y ∷ moves) known rest all last = leaves_plug moves _ rest all.1 last
leaves_plug (TokenedMove.moves to of ∷ moves) known rest all last = leaves_plug moves _ rest all.1 last
leaves_plug (TokenedMove.holds y ∷ moves) known rest all last = leaves_plug moves _ rest all.1 last
leaves_plug (TokenedMove.unholds y ∷ moves) known rest all last = leaves_plug moves _ rest all.1 last

pub leaves_more : (xs ys : List TokenedMove) (known : List KnownFields) → AllLeave known xs → AllLeave (known_behind xs known) ys → AllLeave known (xs ++ ys)
leaves_more [] ys known all more = more
leaves_more (x ∷ xs) ys known all more = (all.0, leaves_more xs ys (known_by x known) all.1 more)

leaves_unholds : (known : List KnownFields) (slots : List ℕ) → AllLeave known (map TokenedMove.unholds slots)
leaves_unholds known [] = tt
leaves_unholds known (y ∷ slots) = (tt, leaves_unholds known slots)

leaves_held : (known : List KnownFields) (slots : List ℕ) (moves : List TokenedMove) → AllLeave known moves → AllLeave known (map TokenedMove.holds slots ++ moves)
leaves_held known [] moves all = all
leaves_held known (y ∷ slots) moves all = (tt, leaves_held known slots moves all)

pub leaves_call : (known : List KnownFields) (spare : List ℕ) (x : ℕ) (form : Form) (arguments others : List ℕ)
    → AllLeave known (under_holds spare (TokenedMove.computes x form arguments others))
leaves_call known spare x form arguments others =
    leaves_held known (reverse spare) (TokenedMove.computes x form arguments others ∷ map TokenedMove.unholds spare) (tt, leaves_unholds (forget_variable x known) spare)

pub leaves_open : (known : List KnownFields) (by_count : Bool) (x c : ℕ) (fields used : List ℕ) (y : ℕ) → AllLeave known (opens_with by_count x c fields used y ∷ [])
leaves_open known true x c fields used y = (tt, tt)
leaves_open known false x c fields used y = (tt, tt)

leaves_dups : (known : List KnownFields) (used : List ℕ) → AllLeave known (map TokenedMove.dups used)
leaves_dups known [] = tt
leaves_dups known (x ∷ used) = (tt, leaves_dups known used)

pub leaves_reads : (known : List KnownFields) (x c : ℕ) (fields used : List ℕ) → AllLeave known (reads_with x c fields used)
leaves_reads known x c fields used = (tt, leaves_dups (forget_variables fields known) used)

pub leaves_fills : (known : List KnownFields) (x y c : ℕ) (arguments kept others : List ℕ) → KeepsKnown 0 kept (fields_in known y) arguments
    → AllLeave known (fills_with x y c arguments kept others ∷ [])
leaves_fills known x y c [] kept others keeps = (tt, tt)
leaves_fills known x y c (one ∷ arguments) kept others keeps = (keeps, tt)

-- ---- a call

pub not_closed : (ending : Option Tokened) (code : Tokened) → option_map bare ending ≡ None → ending ≡ Some code → ⊥
not_closed None code none is = cc
not_closed (Some other) code none is = cc

-- steps are written of counted code, and with tokens
pub keeps_more : (d e : Draft) (t u : TokenDraft) (moves : List TokenedMove) (spare : List ℕ) → KeepsTokens d t → Writes d
    → (e.failed ≡ false → d.failed ≡ false) → e.steps ≡ d.steps ++ bare_moves moves → e.inside ≡ d.inside → e.splits ≡ d.splits → e.ending ≡ d.ending
    → (d.failed ≡ false → AreFalling t.spare → LeadsTokens t.spare spare moves × AreFalling spare)
    → (d.failed ≡ false → AllLeave (known_now t) moves)
    → u ≡ record t { moves = t.moves ++ moves; spare = spare } → KeepsTokens e u
keeps_more d e t u moves spare keeps writes going steps within splits ending leads leave is failed =
    let old : IsTokened d t = keeps (going failed) in
    let parts : LeadsTokens t.spare spare moves × AreFalling spare = leads (going failed) old.falling in
    let here : (d.inside ≡ true) × (d.ending ≡ None) = writes (going failed) in
    subst (IsTokened e) (sym is)
    (record {
      plain = bare_more t.moves moves ∙ (ap (λ xs. xs ++ bare_moves moves) old.plain ∙ sym steps);
      leads = λ in_block open_end. leads_then (first_spare t.splits) t.spare spare t.moves moves (old.leads here.0 here.1) parts.0;
      leaves = leaves_more t.moves moves (first_known t.splits) old.leaves (leave (going failed));
      falling = parts.1;
      splits = subst (λ (all : List Split). AreTokenSplits all t.splits) (sym splits) old.splits;
      ending = old.ending ∙ sym ending;
      closed = λ code ends. absurd (not_closed t.ending code (old.ending ∙ here.1) ends);
      quiet = λ out. absurd (inside_out (within ∙ here.0) out);
    })
  where
    inside_out : {b : Bool} → b ≡ true → b ≡ false → ⊥
    inside_out one two = cc

-- nothing is written with tokens
pub keeps_same : (d e : Draft) (t u : TokenDraft) → KeepsTokens d t → (e.failed ≡ false → d.failed ≡ false) → e.steps ≡ d.steps → e.inside ≡ d.inside → e.splits ≡ d.splits → e.ending ≡ d.ending → u ≡ t → KeepsTokens e u
keeps_same d e t u keeps going steps within splits ending is failed =
    let old : IsTokened d t = keeps (going failed) in
    subst (IsTokened e) (sym is)
    (record {
      plain = old.plain ∙ sym steps;
      leads = λ in_block open_end. old.leads (sym within ∙ in_block) (sym ending ∙ open_end);
      leaves = old.leaves;
      falling = old.falling;
      splits = subst (λ (all : List Split). AreTokenSplits all t.splits) (sym splits) old.splits;
      ending = old.ending ∙ sym ending;
      closed = old.closed;
      quiet = λ out. old.quiet (sym within ∙ out);
    })

-- ---- each call

-- an emitter begins without tokens
pub begun_keeps : (d : Draft) (t : TokenDraft) (positions : PositionTable) (counts : List ℕ) (marks : CellMarks) (instance : ℕ) → d ≡ begun positions counts marks instance → t ≡ no_tokens → KeepsTokens d t
begun_keeps d t positions counts marks instance is none going =
    subst (λ (x : Draft). IsTokened x t) (sym is)
    (subst (IsTokened (begun positions counts marks instance)) (sym none)
    (record {
      plain = refl;
      leads = λ within open_end left rest spent. spent;
      leaves = tt;
      falling = tt;
      splits = tt;
      ending = refl;
      closed = λ code ends. absurd (not_closed None code refl ends);
      quiet = λ out. absurd (never out);
    }))
  where
    never : true ≡ false → ⊥
    never out = cc

module _ {d e : Draft} {t u : TokenDraft} (keeps : KeepsTokens d t) (writes : Writes d) where
  -- a change that writes steps of counted code, and these with tokens
  wrote_keeps : (changed : Draft) (moves : List TokenedMove) (spare : List ℕ) → e ≡ changed → changed.failed ≡ d.failed
      → changed.steps ≡ d.steps ++ bare_moves moves → changed.inside ≡ d.inside → changed.splits ≡ d.splits → changed.ending ≡ d.ending
      → (d.failed ≡ false → AreFalling t.spare → LeadsTokens t.spare spare moves × AreFalling spare)
      → (d.failed ≡ false → AllLeave (known_now t) moves)
      → u ≡ record t { moves = t.moves ++ moves; spare = spare } → KeepsTokens e u
  wrote_keeps changed moves spare becomes failed steps within splits ending leads leave is =
      keeps_more d e t u moves spare keeps writes (λ going. sym (ap (λ (x : Draft). x.failed) becomes ∙ failed) ∙ going)
      (ap (λ (x : Draft). x.steps) becomes ∙ steps) (ap (λ (x : Draft). x.inside) becomes ∙ within) (ap (λ (x : Draft). x.splits) becomes ∙ splits) (ap (λ (x : Draft). x.ending) becomes ∙ ending) leads leave is

  pub given_keeps : (x : ℕ) → e ≡ given d x → u ≡ t → KeepsTokens e u
  given_keeps x becomes is =
      keeps_same d e t u keeps (λ going. sym (ap (λ (y : Draft). y.failed) becomes) ∙ going) (ap (λ (y : Draft). y.steps) becomes) (ap (λ (y : Draft). y.inside) becomes) (ap (λ (y : Draft). y.splits) becomes) (ap (λ (y : Draft). y.ending) becomes) is

  pub dup_keeps : (x : ℕ) → e ≡ duplicated d x → u ≡ adds t (TokenedMove.dups x ∷ []) → KeepsTokens e u
  dup_keeps x becomes is =
      wrote_keeps (duplicated d x) (TokenedMove.dups x ∷ []) t.spare becomes refl refl refl refl refl (λ going falling. (leads_still t.spare x, falling)) (λ going. (tt, tt)) is

  pub drop_keeps : (x : ℕ) → e ≡ dropped d x → u ≡ adds t (TokenedMove.drops x ∷ []) → KeepsTokens e u
  drop_keeps x becomes is =
      wrote_keeps (dropped d x) (TokenedMove.drops x ∷ []) t.spare becomes refl refl refl refl refl (λ going falling. (leads_drop t.spare x, falling)) (λ going. (tt, tt)) is

  pub open_keeps : (by_count : Bool) (x c used : ℕ) → e ≡ unpacked d by_count x c used
      → u ≡ gains t (opens_with by_count x c (fields_at d c) (fields_given d c used) (next_slot t.spare)) → KeepsTokens e u
  open_keeps by_count x c used becomes is =
      let fields : List ℕ = fields_at d c in
      let chosen : List ℕ = fields_given d c used in
      wrote_keeps (unpacked d by_count x c used) (opens_with by_count x c fields chosen (next_slot t.spare) ∷ []) (next_slot t.spare ∷ t.spare) becomes refl
      (ap (λ moves. d.steps ++ moves) (sym (bare_open by_count x c fields chosen (next_slot t.spare)))) refl refl refl
      (λ going falling. (leads_open t.spare by_count x c fields chosen falling, falling_next t.spare falling))
      (λ going. leaves_open (known_now t) by_count x c fields chosen (next_slot t.spare)) is

  pub reads_keeps : (x c used : ℕ) → e ≡ looked d x c used → u ≡ adds t (reads_with x c (fields_at d c) (fields_given d c used)) → KeepsTokens e u
  reads_keeps x c used becomes is =
      let fields : List ℕ = fields_at d c in
      let chosen : List ℕ = fields_given d c used in
      wrote_keeps (looked d x c used) (reads_with x c fields chosen) t.spare becomes refl
      (ap (λ moves. d.steps ++ moves) (sym (bare_reads x c fields chosen))) refl refl refl
      (λ going falling. (leads_reads t.spare x c fields chosen, falling)) (λ going. leaves_reads (known_now t) x c fields chosen) is

  pub construct_keeps : (c : ℕ) (arguments : List ℕ) → e ≡ computed d (Construct c) arguments arguments
      → u ≡ adds t (TokenedMove.computes d.next (Construct c) arguments t.spare ∷ []) → KeepsTokens e u
  construct_keeps c arguments becomes is =
      wrote_keeps (computed d (Construct c) arguments arguments) (TokenedMove.computes d.next (Construct c) arguments t.spare ∷ []) t.spare becomes refl refl refl refl refl
      (λ going falling. (leads_construct t.spare d.next c arguments falling, falling)) (λ going. (tt, tt)) is

  pub plain_keeps : (form : Form) (arguments : List ℕ) → IsPlain d form arguments → e ≡ computed d form arguments arguments
      → u ≡ adds t (TokenedMove.computes d.next form arguments t.spare ∷ []) → KeepsTokens e u
  plain_keeps form arguments plain becomes is =
      wrote_keeps (computed d form arguments arguments) (TokenedMove.computes d.next form arguments t.spare ∷ []) t.spare becomes refl refl refl refl refl
      (λ going falling. (leads_plain d t.spare d.next form arguments plain falling, falling)) (λ going. (tt, tt)) is

  pub call_keeps : (f : ℕ) (arguments used : List ℕ) → e ≡ computed d (Call f) arguments used
      → u ≡ adds t (under_holds t.spare (TokenedMove.computes d.next (Call f) arguments t.spare)) → KeepsTokens e u
  call_keeps f arguments used becomes is =
      let call : TokenedMove = TokenedMove.computes d.next (Call f) arguments t.spare in
      wrote_keeps (computed d (Call f) arguments used) (under_holds t.spare call) t.spare becomes refl
      (ap (λ moves. d.steps ++ moves) (sym (bare_call t.spare call))) refl refl refl
      (λ going falling. (leads_call t.spare d.next f arguments t.spare falling, falling))
      (λ going. leaves_call (known_now t) t.spare d.next (Call f) arguments t.spare) is

  pub fill_keeps : (slot c : ℕ) (arguments kept : List ℕ) → 0 < length arguments → (d.failed ≡ false → is_among t.spare slot ≡ true)
      → (d.failed ≡ false → KeepsKnown 0 kept (fields_in (known_now t) slot) arguments) → e ≡ computed d (Construct c) arguments arguments
      → u ≡ spends t (fills_with d.next slot c arguments kept (without (slot ∷ []) t.spare)) slot → KeepsTokens e u
  fill_keeps slot c arguments kept some there known becomes is =
      let others : List ℕ = without (slot ∷ []) t.spare in
      wrote_keeps (computed d (Construct c) arguments arguments) (fills_with d.next slot c arguments kept others ∷ []) others becomes refl
      (ap (λ moves. d.steps ++ moves) (sym (bare_fills d.next slot c arguments kept others))) refl refl refl
      (λ going falling. (leads_fills t.spare d.next slot c arguments kept some falling (there going), falling_filter (λ z. not (is_among (slot ∷ []) z)) t.spare falling))
      (λ going. leaves_fills (known_now t) d.next slot c arguments kept others (known going)) is

  pub free_keeps : (slot : ℕ) → (d.failed ≡ false → is_among t.spare slot ≡ true) → e ≡ d → u ≡ spends t (TokenedMove.frees slot) slot → KeepsTokens e u
  free_keeps slot there becomes is =
      wrote_keeps d (TokenedMove.frees slot ∷ []) (without (slot ∷ []) t.spare) becomes refl (sym (append_nil d.steps)) refl refl refl
      (λ going falling. (leads_free t.spare slot (there going), falling_filter (λ z. not (is_among (slot ∷ []) z)) t.spare falling)) (λ going. (tt, tt)) is

-- ---- the end of a function

-- a function whose code without tokens is judged
tokened_function_is : (positions : PositionTable) (f n : ℕ) (code : Counted) (made : TokenedFun) (body : Tokened) → n ≡ length (slice_index_or positions f [])
    → IsJudged positions f (record { parameters = n; body = code }) → HasArms code → code ≡ bare body → made.parameters ≡ n → tokened_code made.body ≡ body
    → SpendsTokens [] [] [] body → LeavesKnown [] body → IsTokenedFunctionOf positions f made
tokened_function_is positions f n code made body parameters judged arms plain many written spent leaves =
    let same : code ≡ bare (tokened_code made.body) = plain ∙ sym (ap bare written) in
    record {
      parameters = many ∙ parameters;
      judged =
          subst (λ k. IsJudged positions f (record { parameters = k; body = bare (tokened_code made.body) })) (sym many)
          (subst (λ (c : Counted). IsJudged positions f (record { parameters = n; body = c })) same judged);
      arms = subst HasArms same arms;
      tokens = subst (SpendsTokens [] [] []) (sym written) spent;
      leaves = subst (LeavesKnown []) (sym written) leaves;
    }

-- its variables are marked, too
tokened_marked : (marks : CellMarks) (f n : ℕ) (code : Counted) (made : TokenedFun) (body : Tokened)
    → CanBeMarked marks f (record { parameters = n; body = code }) → code ≡ bare body → made.parameters ≡ n
    → tokened_code made.body ≡ body → CanBeMarked marks f (bare_function (tokened_function made))
tokened_marked marks f n code made body marked plain many written =
    subst (λ k. CanBeMarked marks f (record { parameters = k; body = bare (tokened_code made.body) })) (sym many)
    (subst (λ (c : Counted). CanBeMarked marks f (record { parameters = n; body = c })) (plain ∙ sym (ap bare written)) marked)

none_open : (branches : List TokenSplit) (splits : List Split) → splits ≡ [] → AreTokenSplits splits branches → branches ≡ []
none_open [] splits none are = refl
none_open (branch ∷ branches) splits none are = absurd (subst (λ (all : List Split). AreTokenSplits all (branch ∷ branches)) none are)

-- a block whose branches are joined and whose tokens are spent, with its end
ends_spent : (d : Draft) (t : TokenDraft) (last : Tokened) → IsTokened d t → d.splits ≡ [] → d.inside ≡ true → d.ending ≡ None → t.spare ≡ []
    → SpendsTokens [] t.spare [] last → LeavesKnown (known_now t) last
    → SpendsTokens [] [] [] (plug_tokened t.moves last) × LeavesKnown [] (plug_tokened t.moves last)
ends_spent d t last is joined within open_end none spent leaves =
    let no_branch : t.splits ≡ [] = none_open t.splits d.splits joined is.splits in (
      subst (λ (all : List TokenSplit). SpendsTokens [] (first_spare all) [] (plug_tokened t.moves last)) no_branch (is.leads within open_end [] last spent),
      subst (λ (all : List TokenSplit). LeavesKnown (first_known all) (plug_tokened t.moves last)) no_branch (leaves_plug t.moves (first_known t.splits) last is.leaves leaves),
    )

closed_spent : (d : Draft) (t : TokenDraft) (code : Tokened) → IsTokened d t → d.splits ≡ [] → t.ending ≡ Some code
    → SpendsTokens [] [] [] (plug_tokened t.moves code) × LeavesKnown [] (plug_tokened t.moves code)
closed_spent d t code is joined ends =
    let no_branch : t.splits ≡ [] = none_open t.splits d.splits joined is.splits in
    let closed = is.closed code ends in (
      subst (λ (all : List TokenSplit). SpendsTokens [] (first_spare all) [] (plug_tokened t.moves code)) no_branch closed.1.0,
      subst (λ (all : List TokenSplit). LeavesKnown (first_known all) (plug_tokened t.moves code)) no_branch (leaves_plug t.moves (first_known t.splits) code is.leaves closed.1.1),
    )

-- the body without tokens, where the function gives a value, and where it ends by a call
finished_bare : (d : Draft) (t : TokenDraft) (x : ℕ) → IsTokened d t → finished d x ≡ bare (tokens_finished t x)
finished_bare d t x is =
    ap (λ moves. plug moves (end_code d.ending x)) (sym is.plain)
    ∙ (ap (λ e. plug (bare_moves t.moves) (end_code e x)) (sym is.ending)
    ∙ (ap (plug (bare_moves t.moves)) (bare_end t.ending) ∙ sym (bare_plug t.moves (tokened_end t.ending x))))
  where
    bare_end : (ending : Option Tokened) → end_code (option_map bare ending) x ≡ bare (tokened_end ending x)
    bare_end None = refl
    bare_end (Some last) = refl

called_bare : (d : Draft) (t : TokenDraft) (f : ℕ) (arguments : List ℕ) → IsTokened d t
    → plug d.steps (tail_call f arguments) ≡ bare (plug_tokened t.moves (Tokened.tail_call f arguments))
called_bare d t f arguments is =
    ap (λ moves. plug moves (tail_call f arguments)) (sym is.plain) ∙ sym (bare_plug t.moves (Tokened.tail_call f arguments))

pub given_function : (d : Draft) (t : TokenDraft) (made : TokenedFun) (x : ℕ) → IsTokened d t → t.spare ≡ [] → d.splits ≡ [] → d.inside ≡ true
    → IsBody d (finished d x) → made.parameters ≡ d.parameters → tokened_code made.body ≡ tokens_closed t x → IsTokenedFunctionOf d.positions d.instance made
given_function d t made x is none joined within written many code =
    let one = tokens_finished t x in
    let two = tokens_closed t x in
    let both = spent_by t.ending refl in
    let end : TokensEnd one two = tokens_closed_end t.moves t.ending x in
    let body : IsBody d (bare two) = body_ends d (bare one) (bare two) (bare_ends one two end) (subst (IsBody d) (finished_bare d t x is) written) in
    tokened_function_is d.positions d.instance d.parameters (bare two) made two body.parameters body.judged body.arms refl many code
    (tokens_end [] [] one two end both.0) (leaves_end [] one two end both.1)
  where
    spent_by : (ending : Option Tokened) → t.ending ≡ ending
        → SpendsTokens [] [] [] (plug_tokened t.moves (tokened_end ending x)) × LeavesKnown [] (plug_tokened t.moves (tokened_end ending x))
    spent_by None ends =
        ends_spent d t (Tokened.give x) is joined within (sym is.ending ∙ ap (option_map bare) ends) none (refl, λ y. ap (λ ys. is_among ys y) none) tt
    spent_by (Some last) ends = closed_spent d t last is joined ends

pub given_marked : (d : Draft) (t : TokenDraft) (made : TokenedFun) (x : ℕ) → IsTokened d t → CanBeMarked d.marks d.instance (record { parameters = d.parameters; body = finished d x })
    → made.parameters ≡ d.parameters → tokened_code made.body ≡ tokens_closed t x → CanBeMarked d.marks d.instance (bare_function (tokened_function made))
given_marked d t made x is marked many code =
    let one = tokens_finished t x in
    let two = tokens_closed t x in
    tokened_marked d.marks d.instance d.parameters (bare two) made two
    (marked_ends d.marks d.instance d.parameters (bare one) (bare two) (bare_ends one two (tokens_closed_end t.moves t.ending x))
    (subst (λ (c : Counted). CanBeMarked d.marks d.instance (record { parameters = d.parameters; body = c })) (finished_bare d t x is) marked))
    refl many code

pub called_function : (d : Draft) (t : TokenDraft) (made : TokenedFun) (f : ℕ) (arguments : List ℕ) → IsTokened d t → t.spare ≡ [] → d.splits ≡ [] → d.inside ≡ true → d.ending ≡ None
    → IsBody d (plug d.steps (tail_call f arguments)) → made.parameters ≡ d.parameters
    → tokened_code made.body ≡ plug_tokened t.moves (Tokened.tail_call f arguments) → IsTokenedFunctionOf d.positions d.instance made
called_function d t made f arguments is none joined within open_end body many code =
    let both = ends_spent d t (Tokened.tail_call f arguments) is joined within open_end none (refl, λ y. ap (λ ys. is_among ys y) none) tt in
    tokened_function_is d.positions d.instance d.parameters (plug d.steps (tail_call f arguments)) made (plug_tokened t.moves (Tokened.tail_call f arguments)) body.parameters body.judged body.arms
    (called_bare d t f arguments is) many code both.0 both.1

pub called_marked : (d : Draft) (t : TokenDraft) (made : TokenedFun) (f : ℕ) (arguments : List ℕ) → IsTokened d t → CanBeMarked d.marks d.instance (record { parameters = d.parameters; body = plug d.steps (tail_call f arguments) })
    → made.parameters ≡ d.parameters → tokened_code made.body ≡ plug_tokened t.moves (Tokened.tail_call f arguments) → CanBeMarked d.marks d.instance (bare_function (tokened_function made))
called_marked d t made f arguments is marked many code =
    tokened_marked d.marks d.instance d.parameters (plug d.steps (tail_call f arguments)) made (plug_tokened t.moves (Tokened.tail_call f arguments)) marked (called_bare d t f arguments is) many code
