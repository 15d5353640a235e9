-- Where a branch is joined, its arms leave tokens in the same slots.
use Rattle.std.proofs.Common.{◌≡◌, ℕ, zero, suc, ◌+◌, ◌-◌, ◌<◌, ◌≤◌, ◌==◌, ◌&&◌, ◌||◌, Bool, true, false, not, List, [], ◌∷◌}
use Rattle.std.proofs.Common.{◌++◌, map, reverse, length, Some, arith, refl, sym, ap, ◌∙◌, subst}
use Rattle.std.specs.Prelude.{if◌then◌else◌, max, option_map}
use Rattle.std.proofs.lemmas.Grind.{reverse_onto}
use Rattle.std.proofs.lemmas.Bool.Decides.{nat_tests}
use Rattle.kk_syntax.specs.Shapes.{is_among, without}
use Rattle.kk_counted.specs.CountedCodes.{Counted, case, arm}
use Rattle.kk_counted.specs.CountedForms.{runs, plug, arms_of}
use Rattle.kk_counted.specs.Spending.{numbers_from}
use Rattle.kk_counted.specs.TokenedCodes.{Tokened}
use Rattle.kk_counted.specs.TokenedForms.{TokenedMove, plug_tokened, tokened_arms}
use Rattle.kk_counted.specs.TokenSpending.{SpendsTokens, SpendAllTokens}
use Rattle.kk_counted.specs.BareForms.{bare, bare_arms}
use Rattle.kk_counted.specs.KeptFields.{KnownFields, LeavesKnown, LeaveKnown}
use Rattle.kk_emitter.specs.Drafts.{Split, Draft, joined, joined_in, resumed_as, IsBetween, AreNewest}
use Rattle.kk_emitter.specs.TokenDrafts.{EndedArm, TokenSplit, TokenDraft, bare_arm, bare_moves, next_slot, most_left, above_all}
use Rattle.kk_emitter.specs.TokenDrafts.{joined_slots, renames, renamed, joined_code, tokens_resumed, tokens_joined}
use Rattle.kk_emitter.specs.TokenDrafts.{tokens_joined_in}
use Rattle.kk_emitter.specs.TokenEmitting.{LeadsTokens, AreFalling, known_by, known_behind, AllLeave, first_spare, first_known}
use Rattle.kk_emitter.specs.TokenEmitting.{IsTokenArm, AreTokenArms, IsTokenSplit, AreTokenSplits, IsTokened}
use Rattle.kk_emitter.specs.TokenEmitting.{KeepsTokens}
use Rattle.kk_counted.specs.VariableLists.{AreLow}
use Rattle.kk_counted.proofs.CountChanges.{same as equal_slots, itself}
use Rattle.kk_counted.proofs.TokenForms.{among_without}
use Rattle.kk_emitter.proofs.TokenDraftChanges.{bare_more, bare_plug, plug_more, leads_then, append_nil, leaves_plug, leaves_more}
use Rattle.kk_emitter.proofs.TokenDraftChanges.{not_closed}
use Rattle.kk_emitter.proofs.TokenDraftBranches.{no_two}

-- ---- slots that fall

-- so many numbers from a first one on, the greatest first
abbrev down : ℕ → ℕ → List ℕ
down base zero = []
down base (suc n) = (base + n) ∷ down base n

down_end : (base n : ℕ) → down (suc base) n ++ base ∷ [] ≡ down base (suc n)
down_end base zero = ap (λ m. m ∷ []) {x = base} {y = base + 0} (omega arith)
down_end base (suc n) = ap (λ ms. (suc base + n) ∷ ms) (down_end base n) ∙ ap (λ m. m ∷ down base (suc n)) {x = suc base + n} {y = base + suc n} (omega arith)

down_is : (base n : ℕ) → reverse (numbers_from base n) ≡ down base n
down_is base zero = refl
down_is base (suc n) = reverse_onto (numbers_from (suc base) n) base [] ∙ (ap (λ ms. ms ++ base ∷ []) (down_is (suc base) n) ∙ down_end base n)

down_low : (base n w : ℕ) → is_among (down base n) w ≡ true → w < base + n
down_low base zero w is = absurd (cc)
down_low base (suc n) w is = by_test ((base + n) == w) refl is (down_low base n w)
  where
    by_test : (b : Bool) → ((base + n) == w) ≡ b → (b || is_among (down base n) w) ≡ true
        → (is_among (down base n) w ≡ true → w < base + n) → w < base + suc n
    by_test true same one later = grind (arith, nat_tests, same)
    by_test false other one later = omega (arith, later one)

falling_down : (base n : ℕ) → AreFalling (down base n)
falling_down base zero = tt
falling_down base (suc n) = (down_low base n, falling_down base n)

next_low : (y : ℕ) (ys : List ℕ) → AreLow y ys → next_slot ys ≤ y
next_low y [] low = omega arith
next_low y (z ∷ ys) low = omega (arith, low z (ap (λ b. b || is_among ys z) (itself z)))

-- ---- tokens are moved

-- a slot comes to the front
fronted : (t a b : Bool) → (a || (t || b)) ≡ ((t || a) || b)
fronted true true b = refl
fronted true false b = refl
fronted false a b = refl

module _ (x : ℕ) (left : List ℕ) (base : ℕ) where
  -- what is done of it: these slots are filled, and they are above all that are to be filled
  record Renaming (n : ℕ) (ys unspent done : List ℕ) : Type 0 where
    falling : AreFalling ys
    long : length ys ≤ n
    under : next_slot ys ≤ base + n
    now : (w : ℕ) → is_among unspent w ≡ (is_among done w || is_among ys w)
    above : (w : ℕ) → is_among done w ≡ true → base + n ≤ w
    last : (w : ℕ) → is_among left w ≡ (is_among done w || is_among (down base n) w)

  -- the slot that is to be filled next is not filled
  not_done : (n : ℕ) (done : List ℕ) → ((w : ℕ) → is_among done w ≡ true → base + suc n ≤ w) → is_among done (base + n) ≡ false
  not_done n done above = by_test (is_among done (base + n)) refl
    where
      by_test : (b : Bool) → is_among done (base + n) ≡ b → b ≡ false
      by_test true is = absurd (omega (arith, above (base + n) is))
      by_test false is = refl

  above_next : (n : ℕ) (done : List ℕ) → ((w : ℕ) → is_among done w ≡ true → base + suc n ≤ w) → (w : ℕ)
      → (((base + n) == w) || is_among done w) ≡ true → base + n ≤ w
  above_next n done above w is = by_test ((base + n) == w) refl is
    where
      by_test : (b : Bool) → ((base + n) == w) ≡ b → (b || is_among done w) ≡ true → base + n ≤ w
      by_test true same one = omega (arith, equal_slots (base + n) w same)
      by_test false other one = omega (arith, above w one)

  no_slots : (n : ℕ) (ys : List ℕ) → length ys ≤ 0 → ys ≡ []
  no_slots n [] long = refl
  no_slots n (y ∷ ys) long = absurd (omega (arith, long))

  renaming : (n : ℕ) (ys unspent done : List ℕ) → Renaming n ys unspent done
      → SpendsTokens left unspent [] (plug_tokened (renames ys (down base n)) (Tokened.give x))
  renaming zero ys unspent done is =
      (refl, λ w. is.now w ∙ (ap (λ zs. is_among done w || is_among zs w) (no_slots 0 ys is.long) ∙ sym (is.last w)))
  renaming (suc n) [] unspent done is = (
    refl,
    (
      is.now (base + n) ∙ ap (λ b. b || false) (not_done n done is.above),
      renaming n [] ((base + n) ∷ unspent) ((base + n) ∷ done)
          (record {
            falling = tt;
            long = omega arith;
            under = omega arith;
            now = λ w. ap (λ b. ((base + n) == w) || b) (is.now w) ∙ nulled ((base + n) == w) (is_among done w);
            above = above_next n done is.above;
            last = λ w. is.last w ∙ fronted ((base + n) == w) (is_among done w) (is_among (down base n) w);
          }),
    ),
  )
    where
      nulled : (t a : Bool) → (t || (a || false)) ≡ ((t || a) || false)
      nulled true a = refl
      nulled false a = refl
  renaming (suc n) (y ∷ ys) unspent done is =
      by_test (y == (base + n)) refl (λ unspent' done' more. renaming n ys unspent' done' more)
    where
      below : y ≤ base + n
      below = omega (arith, is.under)

      shorter : length ys ≤ n
      shorter = omega (arith, is.long)

      lower : next_slot ys ≤ base + n
      lower = omega (arith, below, next_low y ys is.falling.0)

      or_true : (a b : Bool) → (a || (true || b)) ≡ true
      or_true true b = refl
      or_true false b = refl

      there : is_among unspent y ≡ true
      there = is.now y ∙ (ap (λ t. is_among done y || (t || is_among ys y)) (itself y) ∙ or_true (is_among done y) (is_among ys y))

      -- it is not among the others, which are older
      not_older : is_among ys (base + n) ≡ false
      not_older = by_older (is_among ys (base + n)) refl
        where
          by_older : (b : Bool) → is_among ys (base + n) ≡ b → b ≡ false
          by_older true older = absurd (omega (arith, below, is.falling.0 (base + n) older))
          by_older false older = refl

      moved : (w : ℕ) → (t : Bool) → (y == w) ≡ t
          → (((base + n) == w) || ((is_among done w || (t || is_among ys w)) && not t)) ≡ ((((base + n) == w) || is_among done w) || is_among ys w)
      moved w true same =
          sym (ap (λ b. (((base + n) == w) || b) || is_among ys w) (gone_done w (equal_slots y w same)) ∙ (ap (λ b. (((base + n) == w) || false) || b) (gone_older w (equal_slots y w same)) ∙ plain ((base + n) == w) (is_among done w)))
        where
          gone_done : (w : ℕ) → y ≡ w → is_among done w ≡ false
          gone_done w one = by_done (is_among done w) refl
            where
              by_done : (b : Bool) → is_among done w ≡ b → b ≡ false
              by_done true filled = absurd (omega (arith, below, one, is.above w filled))
              by_done false filled = refl

          gone_older : (w : ℕ) → y ≡ w → is_among ys w ≡ false
          gone_older w one = by_older (is_among ys w) refl
            where
              by_older : (b : Bool) → is_among ys w ≡ b → b ≡ false
              by_older true older = absurd (omega (arith, one, is.falling.0 w older))
              by_older false older = refl

          plain : (t a : Bool) → ((t || false) || false) ≡ (t || ((a || true) && false))
          plain true a = refl
          plain false true = refl
          plain false false = refl
      moved w false other = still ((base + n) == w) (is_among done w) (is_among ys w)
        where
          still : (t a b : Bool) → (t || ((a || (false || b)) && true)) ≡ ((t || a) || b)
          still true a b = refl
          still false true b = refl
          still false false true = refl
          still false false false = refl

      by_test : (t : Bool) → (y == (base + n)) ≡ t
          → ((unspent' done' : List ℕ) → Renaming n ys unspent' done'
          → SpendsTokens left unspent' [] (plug_tokened (renames ys (down base n)) (Tokened.give x)))
          → SpendsTokens left unspent []
          (plug_tokened (if t then renames ys (down base n) else TokenedMove.moves (base + n) y ∷ renames ys (down base n)) (Tokened.give x))
      by_test true same more =
          more unspent ((base + n) ∷ done)
          (record {
            falling = is.falling.1;
            long = shorter;
            under = lower;
            now = λ w.
                is.now w ∙ (ap (λ z. is_among done w || ((z == w) || is_among ys w)) (equal_slots y (base + n) same)
                ∙ fronted ((base + n) == w) (is_among done w) (is_among ys w));
            above = above_next n done is.above;
            last = λ w. is.last w ∙ fronted ((base + n) == w) (is_among done w) (is_among (down base n) w);
          })
      by_test false other more = (
        refl,
        (
          there,
          (
            among_without y (base + n) unspent
                ∙ (ap (λ b. b && not (y == (base + n))) (is.now (base + n) ∙ (ap (λ b. b || ((y == (base + n)) || is_among ys (base + n))) (not_done n done is.above) ∙ (ap (λ b. b || is_among ys (base + n)) other ∙ not_older))) ∙ none (not (y == (base + n)))),
            more ((base + n) ∷ without (y ∷ []) unspent) ((base + n) ∷ done)
                (record {
                  falling = is.falling.1;
                  long = shorter;
                  under = lower;
                  now = λ w.
                      ap (λ b. ((base + n) == w) || b) (among_without y w unspent ∙ ap (λ b. b && not (y == w)) (is.now w)) ∙ moved w (y == w) refl;
                  above = above_next n done is.above;
                  last = λ w. is.last w ∙ fronted ((base + n) == w) (is_among done w) (is_among (down base n) w);
                }),
          ),
        ),
      )
        where
          none : (b : Bool) → (false && b) ≡ false
          none b = refl

-- tokens that fall are moved to slots that are not below them
pub renames_spend : (x base n : ℕ) (ys : List ℕ) → AreFalling ys → length ys ≤ n → next_slot ys ≤ base + n
    → SpendsTokens (reverse (numbers_from base n)) ys [] (plug_tokened (renames ys (reverse (numbers_from base n))) (Tokened.give x))
renames_spend x base n ys falling long under =
    subst (λ slots. SpendsTokens slots ys [] (plug_tokened (renames ys slots) (Tokened.give x))) (sym (down_is base n))
    (renaming x (down base n) base n ys ys []
    (record { falling = falling; long = long; under = under; now = λ w. refl; above = λ w is. absurd (no_slot is); last = λ w. refl }))
  where
    no_slot : false ≡ true → ⊥
    no_slot is = cc

-- ---- moves are quiet

pub bare_renames : (ys zs : List ℕ) → bare_moves (renames ys zs) ≡ []
bare_renames ys [] = refl
bare_renames [] (z ∷ zs) = bare_renames [] zs
bare_renames (y ∷ ys) (z ∷ zs) = by_test (y == z) (bare_renames ys zs)
  where
    by_test : (t : Bool) → bare_moves (renames ys zs) ≡ []
        → bare_moves (if t then renames ys zs else TokenedMove.moves z y ∷ renames ys zs) ≡ []
    by_test true rest = rest
    by_test false rest = rest

leaves_renames : (known : List KnownFields) (ys zs : List ℕ) → AllLeave known (renames ys zs)
leaves_renames known ys [] = tt
leaves_renames known [] (z ∷ zs) = (tt, leaves_renames (known_by (TokenedMove.nulls z) known) [] zs)
leaves_renames known (y ∷ ys) (z ∷ zs) = by_test (y == z) (leaves_renames known ys zs) (leaves_renames (known_by (TokenedMove.moves z y) known) ys zs)
  where
    by_test : (t : Bool) → AllLeave known (renames ys zs) → AllLeave (known_by (TokenedMove.moves z y) known) (renames ys zs)
        → AllLeave known (if t then renames ys zs else TokenedMove.moves z y ∷ renames ys zs)
    by_test true one other = one
    by_test false one other = (tt, other)

-- ---- the arms

-- an arm that leaves its tokens in other slots is the same without them
pub bare_renamed : (slots : List ℕ) (one : EndedArm) → bare (renamed slots one) ≡ bare_arm one
bare_renamed slots one =
    bare_plug (one.moves ++ renames one.spare slots) one.end
    ∙ ap (λ moves. plug moves (bare one.end)) (bare_more one.moves (renames one.spare slots) ∙ (ap (λ moves. bare_moves one.moves ++ moves) (bare_renames one.spare slots) ∙ append_nil (bare_moves one.moves)))

pub bare_all_renamed : (slots : List ℕ) (arms : List EndedArm) → bare_arms (tokened_arms (map (renamed slots) arms)) ≡ arms_of (map bare_arm arms)
bare_all_renamed slots [] = refl
bare_all_renamed slots (one ∷ arms) =
    ap (λ c. arm c (bare_arms (tokened_arms (map (renamed slots) arms)))) (bare_renamed slots one) ∙ ap (arm (bare_arm one)) (bare_all_renamed slots arms)

module _ (each : List ℕ) (known : List KnownFields) (slots : List ℕ) where
  bare_one : (tails : Bool) (one : EndedArm) (code : Counted) → IsTokenArm each known tails one code
      → bare (renamed slots one) ≡ code
  bare_one tails one code is = bare_renamed slots one ∙ is.plain

  pub bare_joined : (tails : Bool) (arms : List EndedArm) (codes : List Counted) → AreTokenArms each known tails arms codes
      → bare_arms (tokened_arms (map (renamed slots) arms)) ≡ arms_of codes
  bare_joined tails [] [] are = refl
  bare_joined tails [] (code ∷ codes) are = absurd are
  bare_joined tails (one ∷ arms) [] are = absurd are
  bare_joined tails (one ∷ arms) (code ∷ codes) are =
      ap (λ c. arm c (bare_arms (tokened_arms (map (renamed slots) arms)))) (bare_one tails one code are.0) ∙ ap (arm code) (bare_joined tails arms codes are.1)

  leaves_goes : (one : EndedArm) (code : Counted) → IsTokenArm each known false one code → LeavesKnown known (renamed slots one)
  leaves_goes one code is =
      leaves_plug (one.moves ++ renames one.spare slots) known one.end (leaves_more one.moves (renames one.spare slots) known is.leaves.0 (leaves_renames _ one.spare slots))
      (subst (LeavesKnown _) (sym (is.goes refl).1.0) tt)

  pub leaves_joined : (arms : List EndedArm) (codes : List Counted) → AreTokenArms each known false arms codes
      → LeaveKnown known (tokened_arms (map (renamed slots) arms))
  leaves_joined [] [] are = tt
  leaves_joined [] (code ∷ codes) are = absurd are
  leaves_joined (one ∷ arms) [] are = absurd are
  leaves_joined (one ∷ arms) (code ∷ codes) are = (leaves_goes one code are.0, leaves_joined arms codes are.1)

larger_one : (a b n : ℕ) → max a b ≤ n → (a ≤ n) × (b ≤ n)
larger_one a b n is = (omega (arith, is), omega (arith, is))

pub spends_joined : (each : List ℕ) (known : List KnownFields) (base n : ℕ) (arms : List EndedArm) (codes : List Counted)
    → AreTokenArms each known false arms codes → most_left arms ≤ n → above_all arms ≤ base + n
    → SpendAllTokens (reverse (numbers_from base n)) each (tokened_arms (map (renamed (reverse (numbers_from base n))) arms))
spends_joined each known base n [] [] are most above = tt
spends_joined each known base n [] (code ∷ codes) are most above = absurd are
spends_joined each known base n (one ∷ arms) [] are most above = absurd are
spends_joined each known base n (one ∷ arms) (code ∷ codes) are most above =
    let long = larger_one (length one.spare) (most_left arms) n most in
    let under = larger_one (next_slot one.spare) (above_all arms) (base + n) above in
    (spends_one (are.0.goes refl) long.0 under.0, spends_joined each known base n arms codes are.1 long.1 under.1)
  where
    slots : List ℕ
    slots = reverse (numbers_from base n)

    spends_one : (x : ℕ) × ((one.end ≡ Tokened.give x) × (LeadsTokens each one.spare one.moves × AreFalling one.spare))
        → length one.spare ≤ n → next_slot one.spare ≤ base + n
        → SpendsTokens slots each [] (plug_tokened (one.moves ++ renames one.spare slots) one.end)
    spends_one goes long under =
        subst (λ (end : Tokened). SpendsTokens slots each [] (plug_tokened (one.moves ++ renames one.spare slots) end)) (sym goes.1.0)
        (subst (SpendsTokens slots each []) (sym (plug_more one.moves (renames one.spare slots) (Tokened.give goes.0)))
        (goes.1.1.0 slots (plug_tokened (renames one.spare slots) (Tokened.give goes.0)) (renames_spend goes.0 base n one.spare goes.1.1.1 long under)))

-- arms of a branch with a tail call leave no token
none_left : (each : List ℕ) (known : List KnownFields) (arms : List EndedArm) (codes : List Counted)
    → AreTokenArms each known true arms codes → most_left arms ≡ 0
none_left each known [] [] are = refl
none_left each known [] (code ∷ codes) are = absurd are
none_left each known (one ∷ arms) [] are = absurd are
none_left each known (one ∷ arms) (code ∷ codes) are = omega (arith, ap length (are.0.stops refl).0, none_left each known arms codes are.1)

pub no_slots_left : (each : List ℕ) (known : List KnownFields) (arms : List EndedArm) (codes : List Counted)
    → AreTokenArms each known true arms codes → reverse (joined_slots arms) ≡ []
no_slots_left each known arms codes are = ap (λ n. reverse (numbers_from (above_all arms - n) n)) (none_left each known arms codes are)

-- without slots an arm is as it was
plain_arm : (one : EndedArm) → renamed [] one ≡ plug_tokened one.moves one.end
plain_arm one = ap (λ moves. plug_tokened moves one.end) (append_nil one.moves)

pub stops_joined : (each : List ℕ) (known : List KnownFields) (arms : List EndedArm) (codes : List Counted)
    → AreTokenArms each known true arms codes
    → SpendAllTokens [] each (tokened_arms (map (renamed []) arms)) × LeaveKnown known (tokened_arms (map (renamed []) arms))
stops_joined each known [] [] are = (tt, tt)
stops_joined each known [] (code ∷ codes) are = absurd are
stops_joined each known (one ∷ arms) [] are = absurd are
stops_joined each known (one ∷ arms) (code ∷ codes) are =
    let rest = stops_joined each known arms codes are.1 in (
      (subst (SpendsTokens [] each []) (sym (plain_arm one)) (are.0.stops refl).1, rest.0),
      (subst (LeavesKnown known) (sym (plain_arm one)) (leaves_plug one.moves known one.end are.0.leaves.0 are.0.leaves.1), rest.1),
    )

-- ---- a branch is joined

module _ (d : Draft) (t : TokenDraft) (is : IsTokened d t) (out : d.inside ≡ false) (x : ℕ)
    (split : Split) (splits : List Split) (branch : TokenSplit) (branches : List TokenSplit)
    (one : IsTokenSplit (first_spare branches) (first_known branches) split branch) (others : AreTokenSplits splits branches) where
  abbrev known : List KnownFields
  known = known_behind branch.before (first_known branches)

  abbrev slots : List ℕ
  slots = reverse (joined_slots branch.arms)

  bare_case : bare (joined_code branch) ≡ case split.on split.decisions (arms_of split.arms)
  bare_case =
      ap (λ y. case y branch.decisions (bare_arms (tokened_arms (map (renamed slots) branch.arms)))) one.on
      ∙ (ap (λ nodes. case split.on nodes (bare_arms (tokened_arms (map (renamed slots) branch.arms)))) one.decisions
      ∙ ap (case split.on split.decisions) (bare_joined branch.each known slots branch.tails branch.arms split.arms one.arms))

  joined_goes : branch.tails ≡ false
      → IsTokened (resumed_as (record d { next = d.next + 1; splits = splits }) split x false) (tokens_resumed (record t { splits = branches }) branch x false)
  joined_goes goes =
      let are : AreTokenArms branch.each known false branch.arms split.arms = subst (λ b. AreTokenArms branch.each known b branch.arms split.arms) goes one.arms in
      let most : ℕ = most_left branch.arms in
      let above : ℕ = above_all branch.arms in
      record {
        plain =
            bare_more branch.before (TokenedMove.runs x (joined_code branch) ∷ [])
            ∙ (ap (λ moves. moves ++ runs x (bare (joined_code branch)) ∷ []) one.plain ∙ ap (λ code. split.before ++ runs x code ∷ []) bare_case);
        leads = λ inside open_end.
            leads_then (first_spare branches) branch.each slots branch.before (TokenedMove.runs x (joined_code branch) ∷ []) one.leads
            (λ left rest spent. (slots, (refl, ((refl, spends_joined branch.each known (above - most) most branch.arms split.arms are (omega arith) (omega arith)), spent))));
        leaves =
            leaves_more branch.before (TokenedMove.runs x (joined_code branch) ∷ []) (first_known branches) one.leaves
            (leaves_joined branch.each known slots branch.arms split.arms are, tt);
        falling = subst AreFalling (sym (down_is (above - most) most)) (falling_down (above - most) most);
        splits = others;
        ending = is.ending;
        closed = λ code ends. absurd (not_closed t.ending code (ap (option_map bare) (is.quiet out).1) ends);
        quiet = λ no. no_two refl no;
      }

  joined_stops : branch.tails ≡ true
      → IsTokened (resumed_as (record d { next = d.next + 1; splits = splits }) split x true) (tokens_resumed (record t { splits = branches }) branch x true)
  joined_stops stops =
      let are : AreTokenArms branch.each known true branch.arms split.arms = subst (λ b. AreTokenArms branch.each known b branch.arms split.arms) stops one.arms in
      let none : slots ≡ [] = no_slots_left branch.each known branch.arms split.arms are in
      let both = stops_joined branch.each known branch.arms split.arms are in
      record {
        plain = one.plain;
        leads = λ inside open_end. absurd (not_closed (Some (joined_code branch)) (joined_code branch) (ap Some bare_case ∙ open_end) refl);
        leaves = one.leaves;
        falling = subst AreFalling (sym none) tt;
        splits = others;
        ending = ap Some bare_case;
        closed = λ code ends. (
          none,
          subst (λ (c : Tokened). SpendsTokens [] (first_spare branches) [] (plug_tokened branch.before c) × LeavesKnown known c) (the_same (joined_code branch) code ends)
              (subst (λ (ys : List ℕ). SpendsTokens [] (first_spare branches) [] (plug_tokened branch.before (Tokened.case branch.on branch.decisions (tokened_arms (map (renamed ys) branch.arms)))) × LeavesKnown known (Tokened.case branch.on branch.decisions (tokened_arms (map (renamed ys) branch.arms)))) (sym none)
              (one.leads [] (Tokened.case branch.on branch.decisions (tokened_arms (map (renamed []) branch.arms))) (refl, both.0), both.1)),
        );
        quiet = λ no. no_two refl no;
      }
    where
      the_same : (a b : Tokened) → Some a ≡ Some b → a ≡ b
      the_same a b is = cc

  joined_one : IsTokened (resumed_as (record d { next = d.next + 1; splits = splits }) split x split.tails) (tokens_resumed (record t { splits = branches }) branch x branch.tails)
  joined_one =
      subst (λ b. IsTokened (resumed_as (record d { next = d.next + 1; splits = splits }) split x b) (tokens_resumed (record t { splits = branches }) branch x branch.tails)) one.tails
      (by_tails branch.tails refl)
    where
      by_tails : (b : Bool) → branch.tails ≡ b
          → IsTokened (resumed_as (record d { next = d.next + 1; splits = splits }) split x b) (tokens_resumed (record t { splits = branches }) branch x b)
      by_tails false is = joined_goes is
      by_tails true is = joined_stops is

joined_all : (d : Draft) (t : TokenDraft) → IsTokened d t → d.inside ≡ false
    → (depth : ℕ) (splits : List Split) (branches : List TokenSplit) → AreTokenSplits splits branches → AreNewest splits depth []
    → IsTokened (joined_in d splits) (tokens_joined_in t d.next branches)
joined_all d t is out depth [] branches are newest = absurd newest
joined_all d t is out depth (split ∷ splits) [] are newest = absurd are
joined_all d t is out depth (split ∷ splits) (branch ∷ branches) are newest = joined_one d t is out d.next split splits branch branches are.0 are.1

pub joined_keeps : (d e : Draft) (t u : TokenDraft) (depth : ℕ) → KeepsTokens d t → (e.failed ≡ false → d.failed ≡ false)
    → IsBetween d → (d.failed ≡ false → AreNewest d.splits depth []) → e ≡ joined d → u ≡ tokens_joined t d.next → KeepsTokens e u
joined_keeps d e t u depth keeps going between newest becomes is failed =
    let on : d.failed ≡ false = going failed in
    let old : IsTokened d t = keeps on in
    subst (IsTokened e) (sym is) (subst (λ (y : Draft). IsTokened y (tokens_joined t d.next)) (sym becomes)
    (joined_all d t old (between on) depth d.splits t.splits old.splits (newest on)))
