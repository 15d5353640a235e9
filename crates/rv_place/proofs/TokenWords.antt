-- Tokens that are held or taken back: where their words stand, and what the chain and the blocks of their cells become.
use Rattle.std.proofs.Common.{◌≡◌, ◌≢◌, ◌==◌, ◌⊎◌, inl, inr, ℕ, List, [], ◌∷◌, map, Option, Some, None, Bool, true, false, cond}
use Rattle.std.proofs.Common.{refl, sym, ap, ◌∙◌, subst}
use Rattle.std.proofs.lemmas.Bool.{and_parts, eqb-true, eqb-false}
use Rattle.rv_isa.specs.declared.register.Register.{Register}
use Rattle.rv_isa.specs.declared.asm.Action.TheVariants.{Hold}
use Rattle.rv_isa.specs.declared.placed.Place.{Place}
use Rattle.rv_isa.specs.declared.placed.Place.TheVariants.{Register as register, Slot as slot}
use Rattle.rv_isa.specs.declared.placed.Operand.{Operand}
use Rattle.rv_isa.specs.Primitives.{by_token}
use Rattle.rv_isa.specs.Conventions.{is_register, takes_at, take_from}
use Rattle.rv_isa.specs.Frames.{all_of, only_of, twice_of, holding, unholding, off_top, is_among}
use Rattle.rv_isa.specs.PlacedMachine.{read_at, only_slot, first_slot, slot_of}
use Rattle.cell_heap.specs.Blocks.{Block, no_block, unused, own, kept, past_links, held_as, unheld_as}
use Rattle.cell_runtime.specs.World.{World}
use Rattle.rv_place.specs.Lines.{register_into, token_from}
use Rattle.rv_place.proofs.ArgumentWords.{some_cons}

-- ---- the words of a token

pub only_first : (args : List Operand) (k : ℕ) → only_slot args ≡ Some k → first_slot args ≡ Some k
only_first [] k is = cc
only_first (arg ∷ []) k is = is
only_first (arg ∷ other ∷ more) k is = cc

twice_alike : (a b word : ℕ) (same : Bool) → (a == b) ≡ same → cond same (Some a) None ≡ Some word → (a ≡ word) × (b ≡ word)
twice_alike a b word true test is = let first : a ≡ word = cc in (first, sym (eqb-true a b test) ∙ first)
twice_alike a b word false test is = cc

twice_there : (a b word : ℕ) (more : List ℕ) → twice_of (a ∷ b ∷ more) ≡ Some word → (a ≡ word) × (b ≡ word)
twice_there a b word [] twice = twice_alike a b word (a == b) refl twice
twice_there a b word (c ∷ more) twice = cc

-- a token that stands in its slot and in a register
pub record Twice (known cells : ℕ → Option ℕ) (args : List Operand) (k word : ℕ) : Type 0 where
  pub token : Register
  pub token_is : token_from args ≡ Some token
  pub in_slot : cells k ≡ Some word
  pub in_register : known token.number ≡ Some word

module _ (known cells : ℕ → Option ℕ) where
  abbrev reads : List Operand → List (Option ℕ)
  reads args = map (λ (arg : Operand). read_at known cells arg.place) args

  at_slot : (place : Place) (k word : ℕ) → slot_of place ≡ Some k → read_at known cells place ≡ Some word → cells k ≡ Some word
  at_slot (register r) k word is read = cc is
  at_slot (slot j) k word is read = let e : j ≡ k = cc in subst (λ i. cells i ≡ Some word) e read

  at_register : (value_of : ℕ) (place : Place) (word : ℕ) → is_register place ≡ true → read_at known cells place ≡ Some word
      → (r : Register) × (register_into (Some (record { value = value_of; place = place })) ≡ Some r) × (known r.number ≡ Some word)
  at_register value_of (register r) word is read = (r, refl, read)
  at_register value_of (slot j) word is read = cc is

  -- the word of a token that is taken back is that of its slot
  pub slot_word_is : (args : List Operand) (words : List ℕ) (k word : ℕ) → only_slot args ≡ Some k → all_of (reads args) ≡ Some words
      → only_of words ≡ Some word → cells k ≡ Some word
  slot_word_is [] words k word slot_is words_are only = cc
  slot_word_is (arg ∷ other ∷ more) words k word slot_is words_are only = cc
  slot_word_is (arg ∷ []) words k word slot_is words_are only =
      let split = some_cons (read_at known cells arg.place) [] words words_are in
      let alone : [] ≡ split.1 = cc (split.3) in
      let one : words ≡ split.0 ∷ [] = split.4 ∙ ap (λ ws. split.0 ∷ ws) (sym alone) in
      let same : Some split.0 ≡ Some word = ap only_of (sym one) ∙ only in
      at_slot arg.place k word slot_is (split.2 ∙ same)

  -- that of one that is held is in its slot, and in the register too
  pub twice_is : (args : List Operand) (words : List ℕ) (k word : ℕ) → take_from Hold 0 args ≡ true → first_slot args ≡ Some k
      → all_of (reads args) ≡ Some words → twice_of words ≡ Some word → Twice known cells args k word
  twice_is [] words k word taken slot_is words_are twice = cc
  twice_is (arg ∷ []) words k word taken slot_is words_are twice =
      let split = some_cons (read_at known cells arg.place) [] words words_are in
      let alone : [] ≡ split.1 = cc (split.3) in
      let one : words ≡ split.0 ∷ [] = split.4 ∙ ap (λ ws. split.0 ∷ ws) (sym alone) in
      let none : None ≡ Some word = ap twice_of (sym one) ∙ twice in
      cc
  twice_is (arg ∷ other ∷ more) words k word taken slot_is words_are twice =
      let first = some_cons (read_at known cells arg.place) (reads (other ∷ more)) words words_are in
      let second = some_cons (read_at known cells other.place) (reads more) first.1 first.3 in
      let all : words ≡ first.0 ∷ second.0 ∷ second.1 = first.4 ∙ ap (λ ws. first.0 ∷ ws) second.4 in
      let alike = twice_there first.0 second.0 word second.1 (ap twice_of (sym all) ∙ twice) in
      let later = and_parts (takes_at Hold 0 arg.place) (take_from Hold 1 (other ∷ more)) taken in
      let there = and_parts (takes_at Hold 1 other.place) (take_from Hold 2 more) later.1 in
      let in_register = at_register other.value other.place word there.0 (second.2 ∙ ap (λ w. Some w) alike.1) in
      record {
        token = in_register.0;
        token_is = in_register.1;
        in_slot = at_slot arg.place k word slot_is (first.2 ∙ ap (λ w. Some w) alike.0);
        in_register = in_register.2;
      }

-- ---- chains and blocks

-- a token that may be held, or one that is null
pub holding_by : (k word : ℕ) (held next : List ℕ) → holding k word held ≡ Some next
    → (is_among k held ≡ false) × (((word ≡ 0) × (next ≡ held)) ⊎ ((word ≢ 0) × (next ≡ k ∷ held)))
holding_by k word held next is = by (is_among k held) refl (word == 0) refl is
  where
    by : (among : Bool) → is_among k held ≡ among → (null : Bool) → (word == 0) ≡ null
        → cond among None (cond null (Some held) (Some (k ∷ held))) ≡ Some next
        → (is_among k held ≡ false) × (((word ≡ 0) × (next ≡ held)) ⊎ ((word ≢ 0) × (next ≡ k ∷ held)))
    by true among null null_is is = cc
    by false among true null_is is = (among, inl (eqb-true word 0 null_is, cc))
    by false among false null_is is = (among, inr (eqb-false word 0 null_is, cc))

pub unholding_by : (k word : ℕ) (held next : List ℕ) → unholding k word held ≡ Some next
    → ((word ≡ 0) × (next ≡ held)) ⊎ ((word ≢ 0) × (held ≡ k ∷ next))
unholding_by k word held next is = by (word == 0) refl is
  where
    top : (j : ℕ) (more : List ℕ) (same : Bool) → (j == k) ≡ same → cond same (Some more) None ≡ Some next → j ∷ more ≡ k ∷ next
    top j more true test is = let e : j ≡ k = eqb-true j k test in let rest : more ≡ next = cc in cc
    top j more false test is = cc

    off : (held : List ℕ) → off_top k held ≡ Some next → held ≡ k ∷ next
    off [] is = cc
    off (j ∷ more) is = top j more (j == k) refl is

    quiet : (among : Bool) → cond among None (Some held) ≡ Some next → next ≡ held
    quiet true is = cc
    quiet false is = cc

    by : (null : Bool) → (word == 0) ≡ null → cond null (cond (is_among k held) None (Some held)) (off_top k held) ≡ Some next
        → ((word ≡ 0) × (next ≡ held)) ⊎ ((word ≢ 0) × (held ≡ k ∷ next))
    by true test is = inl (eqb-true word 0 test, quiet (is_among k held) is)
    by false test is = inr (eqb-false word 0 test, off held is)

pub null_token : (act : ℕ → World → Option World) (word : ℕ) (world next : World) → word ≡ 0 → by_token act word world ≡ Some next
    → next ≡ world
null_token act word world next null is = by (word == 0) refl is
  where
    by : (b : Bool) → (word == 0) ≡ b → cond b (Some world) (act word world) ≡ Some next → next ≡ world
    by true test is = cc
    by false test is = absurd (eqb-false word 0 test null)

pub some_token : (act : ℕ → World → Option World) (word : ℕ) (world next : World) → word ≢ 0 → by_token act word world ≡ Some next
    → act word world ≡ Some next
some_token act word world next some is = by (word == 0) refl is
  where
    by : (b : Bool) → (word == 0) ≡ b → cond b (Some world) (act word world) ≡ Some next → act word world ≡ Some next
    by true test is = absurd (some (eqb-true word 0 test))
    by false test is = is

pub held_own : (block next : Block) → held_as block ≡ Some next → (words : ℕ → Option ℕ) × (block ≡ own words) × (next ≡ kept words)
held_own (own words) next is = (words, refl, cc)
held_own no_block next is = cc
held_own unused next is = cc
held_own (kept words) next is = cc

pub unheld_kept : (block next : Block) → unheld_as block ≡ Some next
    → (words : ℕ → Option ℕ) × (block ≡ kept words) × (next ≡ own (past_links words))
unheld_kept (kept words) next is = (words, refl, cc)
unheld_kept no_block next is = cc
unheld_kept unused next is = cc
unheld_kept (own words) next is = cc
