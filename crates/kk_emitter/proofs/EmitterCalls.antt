-- What calls of an emitter leave of its draft works, by what they ask.
use Rattle.std.proofs.Common.{◌≡◌, ◌⊎◌, inl, inr, ℕ, zero, suc, ◌+◌, ◌≤◌, ◌<◌, ◌==◌, ◌||◌, Bool, true, false, not, List, [], ◌∷◌, ◌++◌, length, map, Some, None, arith, refl, sym, ap, ◌∙◌, subst}
use Rattle.std.specs.Prelude.{if◌then◌else◌, slice_index_or}
use Rattle.kk_syntax.specs.declared.program.Form.{Form}
use Rattle.kk_syntax.specs.declared.program.Form.TheVariants as OfForm
use Rattle.kk_syntax.specs.declared.positions.Ownership.{Ownership}
use Rattle.kk_syntax.specs.declared.positions.Ownership.TheVariants.{Owned}
use Rattle.kk_syntax.specs.Shapes.{is_among}
use Rattle.kk_syntax.specs.PositionsOf.{PositionTable, is_lent, lends}
use Rattle.kk_core.specs.Decisions.{NodeTree, AreOrderly}
use Rattle.kk_counted.specs.declared.shape.Parameter.{Parameter}
use Rattle.kk_counted.specs.declared.tokened.TokenedStep.{TokenedStep}
use Rattle.kk_emitter.specs.declared.work.Fork.{Fork}
use Rattle.std.proofs.lemmas.List.{length-map, append_assoc}
use Rattle.kk_counted.specs.CountedCodes.{Counted, tail_call}
use Rattle.kk_emitter.specs.Computing.{CanCompute}
use Rattle.kk_counted.specs.CountedForms.{reads, dups, drops, plug}
use Rattle.kk_counted.specs.TokenedForms.{tokened_move}
use Rattle.kk_counted.specs.Marks.{CellMarks}
use Rattle.kk_counted.specs.Spending.{total, AreEven, AllAmong, AreFresh, at_positions, numbers_from, lent_by}
use Rattle.kk_counted.specs.VariableLists.{minus_all, AreLow, AreIn}
use Rattle.kk_emitter.specs.Drafts.{chosen_of, Split, Draft, outside, all_owed, parameters_where, begun, given, duplicated, dropped, opened, read_of, computed, forked, entered, entered_in, entered_by, end_code, is_tail, ended_in, ended_by_value, ended_by_call, resumed_as, joined, joined_in, finished, Writes, Awaits, IsAtHand, Owns, OwnsAll, HoldsAll, IsPlain, Takes, used_in, lent_in, LendsAll, IsOnly, AreNewest, IsInArm, EndsByCall}
use Rattle.kk_counted.specs.Programs.{IsJudged}
use Rattle.kk_emitter.specs.Emitting.{IsBody, Spent, owned_parameters, parameter_count, IsWholeDraft, IsSoundBy, IsSoundDraft, Works, AreLater, first, first_of}
use Rattle.kk_emitter.specs.TokenDrafts.{bare_moves}
use Rattle.kk_emitter.specs.Works.{used_at, lends_at, passes, back_to_front, split_of}
use Rattle.kk_counted.proofs.CountChanges.{same}
use Rattle.kk_counted.proofs.Evenness.{among_front, among_behind, minus_all_even, low_up, low_both, low_numbers, total_append, in_both}
use Rattle.kk_counted.proofs.Variables.{among_cases}
use Rattle.kk_emitter.proofs.DraftSoundness.{sound_dup, sound_drop, sound_opened, sound_read, sound_computed, sound_forked, sound_entered, sound_given}
use Rattle.kk_emitter.proofs.CaseArms.{dups_inside, opening_inside, whole_more, whole_forked, whole_entered, whole_ended, whole_end, whole_joined, whole_body}
use Rattle.kk_emitter.proofs.DraftJoins.{sound_by_value, sound_by_call, joins_value, joins_end, judged, finished_spent, call_spent}

works_by : (d e f : Draft) → d.failed ≡ false → (IsSoundDraft d → IsSoundDraft f) → e ≡ f → Works d → Works e
works_by d e f going step is works = λ other. subst IsSoundDraft (sym is) (step (works going))

-- ---- what the function is lent

not_among : (xs : List ℕ) (x : ℕ) → (is_among xs x ≡ true → ⊥) → is_among xs x ≡ false
not_among xs x never = by_test (is_among xs x) refl
  where
    by_test : (t : Bool) → is_among xs x ≡ t → t ≡ false
    by_test false is = refl
    by_test true is = absurd (never is)

among_neither : (xs ys : List ℕ) (x : ℕ) → (is_among xs x ≡ true → ⊥) → (is_among ys x ≡ true → ⊥) → is_among (xs ++ ys) x ≡ true → ⊥
among_neither xs ys x one two is = by_case (among_cases xs ys x is)
  where
    by_case : (is_among xs x ≡ true) ⊎ (is_among ys x ≡ true) → ⊥
    by_case (inl left) = one left
    by_case (inr right) = two right

among_wider : (xs ys rest : List ℕ) (x : ℕ) → AreIn xs ys → is_among (xs ++ rest) x ≡ true → is_among (ys ++ rest) x ≡ true
among_wider xs ys rest x wider is = by_case (among_cases xs rest x is)
  where
    by_case : (is_among xs x ≡ true) ⊎ (is_among rest x ≡ true) → is_among (ys ++ rest) x ≡ true
    by_case (inl left) = among_front ys rest x (wider x left)
    by_case (inr right) = among_behind ys rest x right

all_wider : (zs xs ys : List ℕ) → ((x : ℕ) → is_among xs x ≡ true → is_among ys x ≡ true) → AllAmong zs xs → AllAmong zs ys
all_wider [] xs ys wider all = tt
all_wider (z ∷ zs) xs ys wider all = (wider z all.0, all_wider zs xs ys wider all.1)

-- by an instance of a table: of the parameters those at lent positions are lent
LendsOwn : PositionTable → ℕ → List ℕ → Type 0
LendsOwn positions f lent = (i : ℕ) → i < length (slice_index_or positions f []) → is_among lent i ≡ is_lent positions f i

lends_same : (d e : Draft) (lent : List ℕ) → e.positions ≡ d.positions → e.instance ≡ d.instance → LendsOwn d.positions d.instance lent → LendsOwn e.positions e.instance lent
lends_same d e lent one two own =
    subst (λ (p : PositionTable). LendsOwn p e.instance lent) (sym one) (subst (λ f. LendsOwn d.positions f lent) (sym two) own)

count_same : (d e : Draft) → e.positions ≡ d.positions → e.instance ≡ d.instance → parameter_count e ≡ parameter_count d
count_same d e one two =
    ap (λ (p : PositionTable). length (slice_index_or p e.instance [])) one ∙ ap (λ f. length (slice_index_or d.positions f [])) two

-- a change that leaves drafts sound by all that is lent, where new variables are not
leaves_sound : (d e : Draft) → e.positions ≡ d.positions → e.instance ≡ d.instance → d.next ≤ e.next → (IsWholeDraft d → IsWholeDraft e) → (sound : IsSoundDraft d)
    → ((lent : List ℕ) → ((x : ℕ) → d.next ≤ x → x < e.next → is_among lent x ≡ false) → IsSoundBy lent d → IsSoundBy lent e) → IsSoundDraft e
unfolding LendsOwn
leaves_sound d e one two less rows sound step =
    record {
      lent = sound.lent;
      sound = λ later from.
          step (later ++ sound.lent)
          (λ x least below. not_among (later ++ sound.lent) x
          (among_neither later sound.lent x (λ is. absurd (omega (arith, from x is, below))) (λ is. absurd (omega (arith, sound.low x is, least)))))
          (sound.sound later (λ x is. omega (arith, from x is, less)));
      low = low_up d.next e.next sound.lent less sound.low;
      own = lends_same d e sound.lent one two sound.own;
      parameters = omega (arith, count_same d e one two, sound.parameters, less);
      whole = rows sound.whole;
    }

-- the same of a change by which new variables are lent
lends_sound : (d e : Draft) (fields : List ℕ) → e.positions ≡ d.positions → e.instance ≡ d.instance → d.next ≤ e.next → AreLater d.next fields → AreLow e.next fields → (IsWholeDraft d → IsWholeDraft e) → (sound : IsSoundDraft d)
    → ((lent : List ℕ) → AreIn fields lent → IsSoundBy lent d → IsSoundBy lent e) → IsSoundDraft e
unfolding LendsOwn
lends_sound d e fields one two less above below rows sound step =
    record {
      lent = fields ++ sound.lent;
      sound = λ later from.
          step (later ++ (fields ++ sound.lent)) (λ x is. among_behind later (fields ++ sound.lent) x (among_front fields sound.lent x is))
          (subst (λ (lent : List ℕ). IsSoundBy lent d) (append_assoc later fields sound.lent)
          (sound.sound (later ++ fields) (later_both later (λ x is. omega (arith, from x is, less)))));
      low = low_both e.next fields sound.lent below (low_up d.next e.next sound.lent less sound.low);
      own = lends_same d e (fields ++ sound.lent) one two (λ i is. skipped i (omega (arith, is, sound.parameters)) ∙ sound.own i is);
      parameters = omega (arith, count_same d e one two, sound.parameters, less);
      whole = rows sound.whole;
    }
  where
    later_both : (later : List ℕ) → AreLater d.next later → AreLater d.next (later ++ fields)
    later_both later from x is = by_case (among_cases later fields x is)
      where
        by_case : (is_among later x ≡ true) ⊎ (is_among fields x ≡ true) → d.next ≤ x
        by_case (inl left) = from x left
        by_case (inr right) = above x right

    skipped : (i : ℕ) → i < d.next → is_among (fields ++ sound.lent) i ≡ is_among sound.lent i
    skipped i below = by_test (is_among sound.lent i) refl
      where
        by_test : (t : Bool) → is_among sound.lent i ≡ t → is_among (fields ++ sound.lent) i ≡ t
        by_test true is = among_behind fields sound.lent i is
        by_test false is =
            not_among (fields ++ sound.lent) i (among_neither fields sound.lent i (λ there. absurd (omega (arith, above i there, below))) (λ there. clash there is))
          where
            clash : is_among sound.lent i ≡ true → is_among sound.lent i ≡ false → ⊥
            clash left right = cc

-- by what is lent now
sound_now : (d : Draft) (sound : IsSoundDraft d) → IsSoundBy sound.lent d
sound_now d sound = sound.sound [] (λ x is. absurd (cc))

-- ---- steps are written

pub given_works : (d e : Draft) (x : ℕ) → d.failed ≡ false → Writes d → Awaits d x → e ≡ given d x → Works d → Works e
given_works d e x going writes waits is works =
    works_by d e (given d x) going
    (λ sound. leaves_sound d (given d x) refl refl (omega arith) (λ whole. whole) sound
    (λ lent free one. sound_given lent d x one (writes going).0 (writes going).1 (waits going).0 (waits going).1)) is works

pub duplicated_works : (d e : Draft) (x : ℕ) → d.failed ≡ false → Writes d → IsAtHand d x → e ≡ duplicated d x → Works d → Works e
duplicated_works d e x going writes there is works =
    works_by d e (duplicated d x) going
    (λ sound. leaves_sound d (duplicated d x) refl refl (omega arith) (whole_more d.inside d.splits d.steps (dups x ∷ []) d.ending (tt, tt)) sound
    (λ lent free one. sound_dup lent d x one (writes going).0 (writes going).1 (among_wider d.lent lent (all_owed d) x one.lends (there going))
    (low sound one.low (among_cases d.lent (all_owed d) x (there going))))) is works
  where
    low : IsSoundDraft d → AreLow d.next (all_owed d) → (is_among d.lent x ≡ true) ⊎ (is_among (all_owed d) x ≡ true) → x < d.next
    low sound owed (inl lent) = sound.low x ((sound_now d sound).lends x lent)
    low sound owed (inr own) = owed x own

pub dropped_works : (d e : Draft) (emitter x : ℕ) → d.failed ≡ false → Writes d → Owns d emitter x → e ≡ dropped d x → Works d → Works e
dropped_works d e emitter x going writes owns is works =
    works_by d e (dropped d x) going
    (λ sound. leaves_sound d (dropped d x) refl refl (omega arith) (whole_more d.inside d.splits d.steps (drops x ∷ []) d.ending (tt, tt)) sound
    (λ lent free one. sound_drop lent d x one (writes going).0 (writes going).1 (owns going).1)) is works

-- new variables are not lent
fields_free : (n count : ℕ) (xs : List ℕ) → ((x : ℕ) → n ≤ x → x < n + count → is_among xs x ≡ false) → AreFresh (numbers_from n count) xs
fields_free n zero xs free = tt
fields_free n (suc count) xs free =
    (free n (omega arith) (omega arith), fields_free (suc n) count xs (λ x least less. free x (omega (arith, least)) (omega (arith, less))))

pub unpacked_works : (d e : Draft) (by_count : Bool) (emitter x c count mask : ℕ) → d.failed ≡ false → Writes d → Owns d emitter x → e ≡ opened d by_count x c count mask → Works d → Works e
unpacked_works d e by_count emitter x c count mask going writes owns is works =
    works_by d e (opened d by_count x c count mask) going
    (λ sound. leaves_sound d (opened d by_count x c count mask) refl refl (omega arith) (whole_more d.inside d.splits d.steps _ d.ending (opening_inside by_count x c (numbers_from d.next count) (chosen_of mask (numbers_from d.next count)))) sound
    (λ lent free one. sound_opened lent d by_count x c count mask one (writes going).0 (writes going).1 (owns going).1 (fields_free d.next count lent free))) is works

later_numbers : (n count : ℕ) → AreLater n (numbers_from n count)
later_numbers n zero x is = absurd (cc)
later_numbers n (suc count) x is = by_case (later_numbers (suc n) count x) (among_cases (n ∷ []) (numbers_from (suc n) count) x is)
  where
    here : (t : Bool) → (n == x) ≡ t → (t || false) ≡ true → n ≡ x
    here true one there = same n x one
    here false one there = absurd (cc)

    by_case : (is_among (numbers_from (suc n) count) x ≡ true → suc n ≤ x) → (is_among (n ∷ []) x ≡ true) ⊎ (is_among (numbers_from (suc n) count) x ≡ true) → n ≤ x
    by_case later (inl one) = omega (arith, here (n == x) refl one)
    by_case later (inr rest) = omega (arith, later rest)

pub read_works : (d e : Draft) (x c count mask : ℕ) → d.failed ≡ false → Writes d → IsAtHand d x → e ≡ read_of d x c count mask → Works d → Works e
read_works d e x c count mask going writes there is works =
    works_by d e (read_of d x c count mask) going (λ sound. by_lent sound (is_among d.lent x) refl) is works
  where
    fields : List ℕ
    fields = numbers_from d.next count

    rows : IsWholeDraft d → IsWholeDraft (read_of d x c count mask)
    rows = whole_more d.inside d.splits d.steps (reads x c fields ∷ map dups (chosen_of mask fields)) d.ending (tt, dups_inside (chosen_of mask fields))

    reached : (t : Bool) → is_among d.lent x ≡ t → t ≡ false → is_among (all_owed d) x ≡ true
    reached false isnt known = by_case (among_cases d.lent (all_owed d) x (there going))
      where
        by_case : (is_among d.lent x ≡ true) ⊎ (is_among (all_owed d) x ≡ true) → is_among (all_owed d) x ≡ true
        by_case (inl one) = absurd (clash one isnt)
          where
            clash : is_among d.lent x ≡ true → is_among d.lent x ≡ false → ⊥
            clash left right = cc
        by_case (inr one) = one
    reached true isnt known = absurd (cc)

    by_lent : IsSoundDraft d → (t : Bool) → is_among d.lent x ≡ t → IsSoundDraft (record (read_of d x c count mask) { lent = d.lent ++ (if t then fields else []) })
    by_lent sound true known =
        lends_sound d (record (read_of d x c count mask) { lent = d.lent ++ fields }) fields refl refl (omega arith) (later_numbers d.next count) (low_numbers d.next count) rows sound
        (λ lent lends one. sound_read lent d x c count mask (d.lent ++ fields) one (writes going).0 (writes going).1 (inl (one.lends x known)) (in_both d.lent fields lent one.lends lends))
    by_lent sound false known =
        leaves_sound d (record (read_of d x c count mask) { lent = d.lent ++ [] }) refl refl (omega arith) rows sound
        (λ lent free one. sound_read lent d x c count mask (d.lent ++ []) one (writes going).0 (writes going).1
        (inr (reached false known refl, fields_free d.next count lent free)) (in_both d.lent [] lent one.lends (λ y is. absurd (nothing y is))))
      where
        nothing : (y : ℕ) → is_among [] y ≡ true → ⊥
        nothing y same = cc

-- without parameters that are told of, each position is owned
no_lent : (i : ℕ) → lends_at [] i ≡ false
no_lent zero = refl
no_lent (suc i) = refl

all_at_no : (next : ℕ) (xs : List ℕ) → at_positions (λ i. not (lends_at [] i)) next xs ≡ xs
all_at_no next [] = refl
all_at_no next (x ∷ xs) =
    ap (λ b. if not b then x ∷ at_positions (λ i. not (lends_at [] i)) (suc next) xs else at_positions (λ i. not (lends_at [] i)) (suc next) xs) (no_lent next) ∙ ap (λ ys. x ∷ ys) (all_at_no (suc next) xs)

pub all_used : (arguments : List ℕ) → used_at [] arguments ≡ arguments
all_used arguments = all_at_no 0 arguments

-- a form that is no call uses up all of its arguments
pub constructed_fits : (d : Draft) (c : ℕ) (arguments : List ℕ) → CanCompute d (OfForm.Construct c) arguments arguments
constructed_fits d c arguments = λ going functions. (refl, (tt, λ have. tt))

pub plain_fits : (d : Draft) (form : Form) (arguments : List ℕ) → IsPlain d form arguments → CanCompute d form arguments arguments
plain_fits d (OfForm.Number n) arguments plain = λ going functions. (refl, (tt, λ have. tt))
plain_fits d OfForm.Unit arguments plain = λ going functions. (refl, (tt, λ have. tt))
plain_fits d OfForm.ReadByte arguments plain = λ going functions. (refl, (tt, λ have. tt))
plain_fits d (OfForm.PrintText form text) arguments plain = λ going functions. (refl, (tt, λ have. tt))
plain_fits d (OfForm.Unary operator) arguments plain = λ going functions. (refl, (tt, λ have. tt))
plain_fits d (OfForm.Binary operator) arguments plain = λ going functions. (refl, (tt, λ have. tt))
plain_fits d (OfForm.Print form) arguments plain = λ going functions. (refl, (tt, λ have. tt))
plain_fits d (OfForm.Construct c) arguments plain = constructed_fits d c arguments
plain_fits d (OfForm.Call f) arguments plain = absurd plain

pub called_fits : (d : Draft) (f : ℕ) (arguments : List ℕ) → Takes d f arguments → LendsAll d f arguments → CanCompute d (OfForm.Call f) arguments (used_in d f arguments)
called_fits d f arguments takes lent = λ going functions. (refl, (lent going, λ have function there. have f function there ∙ takes.1))

pub computed_works : (d e : Draft) (form : Form) (arguments used : List ℕ) → d.failed ≡ false → Writes d → HoldsAll d used → CanCompute d form arguments used → e ≡ computed d form arguments used → Works d → Works e
computed_works d e form arguments used going writes holds fits is works =
    works_by d e (computed d form arguments used) going
    (λ sound. leaves_sound d (computed d form arguments used) refl refl (omega arith) (whole_more d.inside d.splits d.steps _ d.ending (tt, tt)) sound
    (λ lent free one. sound_computed lent d form arguments used one (writes going).0 (writes going).1 (holds going)
    (λ functions. (fits going functions).0)
    (λ functions. all_wider (lent_by d.positions functions form arguments) (d.lent ++ kept) (lent ++ kept) (λ x. among_wider d.lent lent kept x one.lends) (fits going functions).1.0)
    (λ functions. (fits going functions).1.1) (free d.next (omega arith) (omega arith)))) is works
  where
    kept : List ℕ
    kept = minus_all used d.owed ++ outside d.uncalled d.splits

-- ---- the start

at_among : (takes : ℕ → Bool) (next : ℕ) (xs : List ℕ) (x : ℕ) → is_among (at_positions takes next xs) x ≡ true → is_among xs x ≡ true
at_among takes next [] x is = is
at_among takes next (y ∷ xs) x is = by_position (takes next) is (at_among takes (suc next) xs x)
  where
    behind : (t : Bool) → is_among xs x ≡ true → (t || is_among xs x) ≡ true
    behind true there = refl
    behind false there = there

    under : (t : Bool) → (t || is_among (at_positions takes (suc next) xs) x) ≡ true → (is_among (at_positions takes (suc next) xs) x ≡ true → is_among xs x ≡ true) → (t || is_among xs x) ≡ true
    under true there later = refl
    under false there later = later there

    by_position : (b : Bool) → is_among (if b then y ∷ at_positions takes (suc next) xs else at_positions takes (suc next) xs) x ≡ true → (is_among (at_positions takes (suc next) xs) x ≡ true → is_among xs x ≡ true) → ((y == x) || is_among xs x) ≡ true
    by_position true there later = under (y == x) there later
    by_position false there later = behind (y == x) (later there)

parameters_low : (takes : ℕ → Bool) (count : ℕ) → AreLow count (parameters_where takes count)
parameters_low takes count = λ x is. subst (λ (n : ℕ). x < n) {x = 0 + count} {y = count} (omega arith) (low_numbers 0 count x (at_among takes 0 (numbers_from 0 count) x is))

numbered_low : (takes : ℕ → Bool) (n k i : ℕ) → i < n → is_among (at_positions takes n (numbers_from n k)) i ≡ false
numbered_low takes n zero i less = refl
numbered_low takes n (suc k) i less = by_position (takes n) (numbered_low takes (suc n) k i (omega (arith, less)))
  where
    apart : (n == i) ≡ false
    apart = grind arith

    by_position : (b : Bool) → is_among (at_positions takes (suc n) (numbers_from (suc n) k)) i ≡ false → is_among (if b then n ∷ at_positions takes (suc n) (numbers_from (suc n) k) else at_positions takes (suc n) (numbers_from (suc n) k)) i ≡ false
    by_position true later = ap (λ t. t || is_among (at_positions takes (suc n) (numbers_from (suc n) k)) i) apart ∙ later
    by_position false later = later

numbered_is : (takes : ℕ → Bool) (n k i : ℕ) → n ≤ i → i < n + k → is_among (at_positions takes n (numbers_from n k)) i ≡ takes i
numbered_is takes n zero i least less = absurd (omega (arith, least, less))
numbered_is takes n (suc k) i least less = by_test (n == i) refl (takes n) refl (λ more. numbered_is takes (suc n) k i more (omega (arith, less)))
  where
    by_test : (t : Bool) → (n == i) ≡ t → (b : Bool) → takes n ≡ b → (suc n ≤ i → is_among (at_positions takes (suc n) (numbers_from (suc n) k)) i ≡ takes i)
        → is_among (if b then n ∷ at_positions takes (suc n) (numbers_from (suc n) k) else at_positions takes (suc n) (numbers_from (suc n) k)) i ≡ takes i
    by_test true one true taken later = ap (λ t. t || is_among (at_positions takes (suc n) (numbers_from (suc n) k)) i) one ∙ (sym taken ∙ ap takes (same n i one))
    by_test true one false taken later = numbered_low takes (suc n) k i (omega (arith, same n i one)) ∙ (sym taken ∙ ap takes (same n i one))
    by_test false one true taken later = ap (λ t. t || is_among (at_positions takes (suc n) (numbers_from (suc n) k)) i) one ∙ later (above one)
      where
        above : (n == i) ≡ false → suc n ≤ i
        above two = grind arith
    by_test false one false taken later = later (above one)
      where
        above : (n == i) ≡ false → suc n ≤ i
        above two = grind arith

begun_by : (positions : PositionTable) (counts : List ℕ) (marks : CellMarks) (instance : ℕ) (lent : List ℕ) → AreIn (begun positions counts marks instance).lent lent → IsSoundBy lent (begun positions counts marks instance)
begun_by positions counts marks instance lent lends =
    record {
      splits = tt;
      steps = λ inside none left rest spent. spent;
      closed = λ code known. absurd (nothing code known);
      low = parameters_low (λ i. not (is_lent positions instance i)) (length (slice_index_or positions instance []));
      lends = lends;
      parameters = refl;
      quiet = λ out. absurd (never out);
    }
  where
    nothing : (code : Counted) → None ≡ Some code → ⊥
    nothing code same = cc

    never : true ≡ false → ⊥
    never same = cc

pub begun_sound : (positions : PositionTable) (counts : List ℕ) (marks : CellMarks) (instance : ℕ) → IsSoundDraft (begun positions counts marks instance)
begun_sound positions counts marks instance =
    let lent : List ℕ = (begun positions counts marks instance).lent in
    record {
      lent = lent;
      sound = λ later from. begun_by positions counts marks instance (later ++ lent) (λ x is. among_behind later lent x is);
      low = parameters_low (is_lent positions instance) (length (slice_index_or positions instance []));
      own = λ i less. numbered_is (is_lent positions instance) 0 (length (slice_index_or positions instance [])) i (omega arith) (omega (arith, less));
      parameters = omega arith;
      whole = record { branches = tt; written = tt; end = λ code known. absurd (nothing code known) };
    }
  where
    nothing : (code : Counted) → None ≡ Some code → ⊥
    nothing code same = cc

-- what an emitter begins with, by the parameters of its instance
pub begun_is : (positions : PositionTable) (counts : List ℕ) (marks : CellMarks) (instance count : ℕ) (parameters : List Parameter) (uncalled lent : List ℕ) (steps : List TokenedStep) (owed : List ℕ) (forks : List Fork)
    → map (λ parameter. parameter.ownership) parameters ≡ slice_index_or positions instance [] → count ≡ length parameters
    → uncalled ≡ at_positions (passes parameters false) 0 (numbers_from 0 (length parameters)) → lent ≡ at_positions (passes parameters true) 0 (numbers_from 0 (length parameters)) → steps ≡ [] → owed ≡ [] → forks ≡ []
    → record (begun positions counts marks instance) { parameters = count; next = count; steps = bare_moves (map tokened_move steps); owed = owed; uncalled = uncalled; lent = lent; splits = back_to_front split_of forks [] } ≡ begun positions counts marks instance
begun_is positions counts marks instance count parameters uncalled lent steps owed forks found many called others no_step no_owed no_fork =
    let d : Draft = begun positions counts marks instance in
    let passed : List Ownership = map (λ parameter. parameter.ownership) parameters in
    let long : length parameters ≡ length passed = sym (length-map parameters (λ parameter. parameter.ownership)) in
    ap (λ (xs : List TokenedStep). record d { parameters = count; next = count; steps = bare_moves (map tokened_move xs); owed = owed; uncalled = uncalled; lent = lent; splits = back_to_front split_of forks [] }) no_step
    ∙ (ap (λ xs. record d { parameters = count; next = count; owed = xs; uncalled = uncalled; lent = lent; splits = back_to_front split_of forks [] }) no_owed
    ∙ (ap (λ (xs : List Fork). record d { parameters = count; next = count; uncalled = uncalled; lent = lent; splits = back_to_front split_of xs [] }) no_fork
    ∙ (ap (λ n. record d { parameters = n; next = n; uncalled = uncalled; lent = lent }) (many ∙ long)
    ∙ (ap (λ xs. record d { parameters = length passed; next = length passed; uncalled = xs; lent = lent }) (called ∙ ap (λ n. at_positions (passes parameters false) 0 (numbers_from 0 n)) long)
    ∙ (ap (λ xs. record d { parameters = length passed; next = length passed; uncalled = at_positions (passes parameters false) 0 (numbers_from 0 (length passed)); lent = xs }) (others ∙ ap (λ n. at_positions (passes parameters true) 0 (numbers_from 0 n)) long)
    ∙ ap (λ (all : List Ownership). record d { parameters = length all; next = length all; uncalled = at_positions (λ i. not (lends (slice_index_or all i Owned))) 0 (numbers_from 0 (length all)); lent = at_positions (λ i. lends (slice_index_or all i Owned)) 0 (numbers_from 0 (length all)) }) found)))))

pub begun_works : (positions : PositionTable) (counts : List ℕ) (marks : CellMarks) (instance : ℕ) (e : Draft) → e ≡ begun positions counts marks instance → Works e
begun_works positions counts marks instance e is = λ going. subst IsSoundDraft (sym is) (begun_sound positions counts marks instance)

-- ---- branches

pub forked_works : (d e : Draft) (emitter on : ℕ) (decisions : List NodeTree) (each : List ℕ) (rows : ℕ) → d.failed ≡ false → Writes d → OwnsAll d emitter each → (d.failed ≡ false → is_among (d.lent ++ all_owed d) on ≡ true) → AreOrderly decisions rows
    → e ≡ forked d on decisions each rows → Works d → Works e
forked_works d e emitter on decisions each rows going writes owns there orderly is works =
    works_by d e (forked d on decisions each rows) going
    (λ sound. leaves_sound d (forked d on decisions each rows) refl refl (omega arith) (whole_forked d on decisions each rows (writes going).0 (writes going).1 orderly) sound
    (λ lent free one. sound_forked lent d on decisions each rows one (writes going).0 (writes going).1 (owns going).1 (among_wider d.lent lent (all_owed d) on one.lends (there going)))) is works

entered_sound : (d : Draft) → d.inside ≡ false → IsSoundDraft d → IsSoundDraft (entered d)
entered_sound d out sound = by_splits d.splits refl
  where
    by_left : (split : Split) (splits : List Split) → d.splits ≡ split ∷ splits → (left : List (List ℕ)) → split.left ≡ left → IsSoundDraft (entered_by d split splits left)
    by_left split splits is [] known = sound
    by_left split splits is (each ∷ left) known =
        leaves_sound d (entered_by d split splits (each ∷ left)) refl refl (omega arith) (whole_entered d split splits each left out is known) sound (λ lent free one. sound_entered lent d split splits each left one out is known)

    by_splits : (splits : List Split) → d.splits ≡ splits → IsSoundDraft (entered_in d splits)
    by_splits [] is = sound
    by_splits (split ∷ splits) is = by_left split splits is split.left refl

pub entered_works : (d e : Draft) → d.failed ≡ false → (d.failed ≡ false → d.inside ≡ false) → e ≡ entered d → Works d → Works e
entered_works d e going between is works = works_by d e (entered d) going (entered_sound d (between going)) is works

ended_sound : (d : Draft) (x : ℕ) → d.inside ≡ true → d.owed ≡ x ∷ [] → IsInArm d.splits → IsSoundDraft d → IsSoundDraft (ended_by_value d x)
ended_sound d x inside only arm sound = by_splits d.splits refl arm
  where
    by_splits : (splits : List Split) → d.splits ≡ splits → IsInArm splits → IsSoundDraft (ended_in d (end_code d.ending x) (is_tail d.ending) splits)
    by_splits [] is none = absurd none
    by_splits (split ∷ splits) is some =
        leaves_sound d (ended_in d (end_code d.ending x) (is_tail d.ending) (split ∷ splits)) refl refl (omega arith)
        (λ whole. whole_ended d split splits (end_code d.ending x) (is_tail d.ending) inside is (whole_end d.ending x whole.end) whole) sound (λ lent free one. sound_by_value lent d split splits x one inside is only)

pub ended_works : (d e : Draft) (emitter x : ℕ) → d.failed ≡ false → (d.failed ≡ false → d.inside ≡ true) → (d.failed ≡ false → IsInArm d.splits) → IsOnly d emitter x → e ≡ ended_by_value d x → Works d → Works e
ended_works d e emitter x going inside arm only is works = works_by d e (ended_by_value d x) going (ended_sound d x (inside going) (only going).1 (arm going)) is works

called_sound : (d : Draft) (f : ℕ) (arguments : List ℕ) → d.failed ≡ false → Writes d → Takes d f arguments → EndsByCall d f arguments → IsInArm d.splits → IsSoundDraft d → IsSoundDraft (ended_by_call d f arguments)
called_sound d f arguments going writes takes ends arm sound = by_splits d.splits refl arm
  where
    even : AreEven d.owed (used_in d f arguments)
    even = λ w. minus_all_even (used_in d f arguments) d.owed (ends going).0 w ∙ (ap (λ xs. total w (used_in d f arguments ++ xs)) (ends going).1.0 ∙ (total_append w (used_in d f arguments) [] ∙ omega arith))

    by_splits : (splits : List Split) → d.splits ≡ splits → IsInArm splits → IsSoundDraft (ended_in d (tail_call f arguments) true splits)
    by_splits [] is none = absurd none
    by_splits (split ∷ splits) is some =
        leaves_sound d (ended_in d (tail_call f arguments) true (split ∷ splits)) refl refl (omega arith) (whole_ended d split splits (tail_call f arguments) true (writes going).0 is tt) sound
        (λ lent free one. sound_by_call lent d split splits f arguments (used_in d f arguments) one (writes going).0 (writes going).1 is even
        (ap (outside d.uncalled) (sym is) ∙ (ends going).1.1.0)
        (λ functions. refl) (λ functions. all_wider (lent_in d f arguments) d.lent lent one.lends (ends going).1.1.1) (λ functions have function there. have f function there ∙ takes.1))

pub call_works : (d e : Draft) (f : ℕ) (arguments : List ℕ) → d.failed ≡ false → Writes d → Takes d f arguments → EndsByCall d f arguments → (d.failed ≡ false → IsInArm d.splits) → e ≡ ended_by_call d f arguments → Works d → Works e
call_works d e f arguments going writes takes ends arm is works =
    works_by d e (ended_by_call d f arguments) going (called_sound d f arguments going writes takes ends (arm going)) is works

joined_sound : (d : Draft) (depth : ℕ) → d.inside ≡ false → AreNewest d.splits depth [] → IsSoundDraft d → IsSoundDraft (joined d)
joined_sound d depth out newest sound = by_splits d.splits refl
  where
    none_left : (split : Split) (splits : List Split) → d.splits ≡ split ∷ splits → split.left ≡ []
    none_left split splits is = (subst (λ (all : List Split). AreNewest all depth []) is newest).1

    ends : IsSoundDraft d → d.ending ≡ None
    ends known = ((sound_now d known).quiet out).1.1

    by_tails : (split : Split) (splits : List Split) → d.splits ≡ split ∷ splits → (t : Bool) → split.tails ≡ t → IsSoundDraft (resumed_as (record d { next = d.next + 1; splits = splits }) split d.next t)
    by_tails split splits is false was =
        leaves_sound d (resumed_as (record d { next = d.next + 1; splits = splits }) split d.next false) refl refl (omega arith) (whole_joined d split splits (d.next + 1) d.next false out is (none_left split splits is) (ends sound)) sound
        (λ lent free one. joins_value lent d split splits one out is was (free d.next (omega arith) (omega arith)))
    by_tails split splits is true was =
        leaves_sound d (resumed_as (record d { next = d.next + 1; splits = splits }) split d.next true) refl refl (omega arith) (whole_joined d split splits (d.next + 1) d.next true out is (none_left split splits is) (ends sound)) sound
        (λ lent free one. joins_end lent d split splits one out is was)

    by_splits : (splits : List Split) → d.splits ≡ splits → IsSoundDraft (joined_in d splits)
    by_splits [] is = sound
    by_splits (split ∷ splits) is = by_tails split splits is split.tails refl

pub joined_works : (d e : Draft) (depth : ℕ) → d.failed ≡ false → (d.failed ≡ false → d.inside ≡ false) → (d.failed ≡ false → AreNewest d.splits depth []) → e ≡ joined d → Works d → Works e
joined_works d e depth going between newest is works = works_by d e (joined d) going (joined_sound d depth (between going) (newest going)) is works

-- a join leaves the instance
resumed_instance : (d : Draft) (split : Split) (x : ℕ) (tails : Bool) → (resumed_as d split x tails).instance ≡ d.instance
resumed_instance d split x true = refl
resumed_instance d split x false = refl

joined_same : (d : Draft) (splits : List Split) → (joined_in d splits).instance ≡ d.instance
joined_same d [] = refl
joined_same d (split ∷ splits) = resumed_instance (record d { next = d.next + 1; splits = splits }) split d.next split.tails

pub joined_instance : (d : Draft) → (joined d).instance ≡ d.instance
joined_instance d = joined_same d d.splits

-- ---- the end of a function

-- the body that gives a value, as it was written
pub finished_body : (d : Draft) (emitter x : ℕ) → d.failed ≡ false → (d.failed ≡ false → d.inside ≡ true) → (d.failed ≡ false → d.splits ≡ []) → (d.failed ≡ false → d.uncalled ≡ []) → IsOnly d emitter x → Works d
    → IsBody d (finished d x)
finished_body d emitter x going inside joins called only works =
    let sound : IsSoundDraft d = works going in
    let now : IsSoundBy sound.lent d = sound_now d sound in
    let spent : Spent d.positions sound.lent None (owned_parameters d) (finished d x) = finished_spent sound.lent d x now (inside going) (joins going) (called going) (only going).1 in
    record {
      parameters = now.parameters;
      judged =
          subst (λ n. IsJudged d.positions d.instance (record { parameters = n; body = finished d x })) (sym now.parameters) (judged sound.lent d (finished d x) spent sound.own);
      arms = whole_body d.steps (end_code d.ending x) sound.whole.written (whole_end d.ending x sound.whole.end);
    }

-- a function that ends by a tail call
tail_spent : (lent : List ℕ) (d : Draft) (f : ℕ) (arguments : List ℕ) → d.failed ≡ false → Writes d → (d.failed ≡ false → d.splits ≡ []) → Takes d f arguments → EndsByCall d f arguments → IsSoundBy lent d
    → Spent d.positions lent None (owned_parameters d) (plug d.steps (tail_call f arguments))
tail_spent lent d f arguments going writes joins takes ends sound =
    let even : AreEven (all_owed d) (used_in d f arguments) =
    λ w. total_append w d.owed (outside d.uncalled d.splits) ∙ (ap (λ xs. total w d.owed + total w xs) (ends going).1.1.0 ∙ (omega (arith, minus_all_even (used_in d f arguments) d.owed (ends going).0 w, total_append w (used_in d f arguments) (minus_all (used_in d f arguments) d.owed), ap (total w) (ends going).1.0))) in
    subst (λ (all : List Split). Spent d.positions lent None (first (owned_parameters d) d.uncalled all) (plug d.steps (tail_call f arguments))) (joins going)
    (call_spent d.positions lent (first_of d) (all_owed d) d.steps f arguments (used_in d f arguments) (sound.steps (writes going).0 (writes going).1) even
    (λ functions. refl) (λ functions. all_wider (lent_in d f arguments) d.lent lent sound.lends (ends going).1.1.1) (λ functions have function there. have f function there ∙ takes.1))

tail_judged : (d : Draft) (f : ℕ) (arguments : List ℕ) → d.failed ≡ false → Writes d → (d.failed ≡ false → d.splits ≡ []) → Takes d f arguments → EndsByCall d f arguments → Works d
    → IsJudged d.positions d.instance (record { parameters = d.parameters; body = plug d.steps (tail_call f arguments) })
tail_judged d f arguments going writes joins takes ends works =
    let sound : IsSoundDraft d = works going in
    let now : IsSoundBy sound.lent d = sound_now d sound in
    subst (λ n. IsJudged d.positions d.instance (record { parameters = n; body = plug d.steps (tail_call f arguments) })) (sym now.parameters)
    (judged sound.lent d (plug d.steps (tail_call f arguments)) (tail_spent sound.lent d f arguments going writes joins takes ends now) sound.own)

pub tail_body : (d : Draft) (f : ℕ) (arguments : List ℕ) → d.failed ≡ false → Writes d → (d.failed ≡ false → d.splits ≡ []) → Takes d f arguments → EndsByCall d f arguments → Works d
    → IsBody d (plug d.steps (tail_call f arguments))
tail_body d f arguments going writes joins takes ends works =
    record {
      parameters = (sound_now d (works going)).parameters;
      judged = tail_judged d f arguments going writes joins takes ends works;
      arms = whole_body d.steps (tail_call f arguments) (works going).whole.written tt;
    }
