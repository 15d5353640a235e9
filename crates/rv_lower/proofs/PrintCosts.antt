-- What is printed, and how long it takes.
use Rattle.std.proofs.Common.{◌≡◌, ◌+◌, ◌-◌, ◌^◌, ◌<◌, ◌≤◌, ◌&&◌, ℕ, zero, suc, ℤ, pos, negsuc, List, [], ◌∷◌, length, take, drop, Some, None, Bool, true, false, nat_le, nat_lt, slice_get, refl, ◌∙◌, ap, subst, arith, length-append, lt-ltb, le-leb}
use Rattle.std.specs.Prelude.{if◌then◌else◌}
use Rattle.std.specs.Fmt.{signed_decimal}
use Rattle.std.proofs.Math.Seq.{take-append_seam, drop-append-add}
use Rattle.std.proofs.lemmas.List.{append-nil}
use Rattle.std.proofs.lemmas.Fmt.{length_signed_le, length-decimal-le, decimal_nonempty}
use Rattle.std.specs.Int.Signed.{mag}
use Rattle.kk_base.specs.Trace.{output}
use Rattle.kk_syntax.specs.declared.operator.PrintForm.{PrintForm}
use Rattle.kk_syntax.specs.declared.operator.PrintForm.TheVariants as OfPrint
use Rattle.rv_isa.specs.Arithmetic.{signed}
use Rattle.rv_isa.specs.Processor.{Ending}
use Rattle.rv_isa.specs.Primitives.{Reply, answers, fails}
use Rattle.cell_runtime.specs.Prints.{int_piece, int_count}
use Rattle.cell_runtime.specs.Operations.{all_bytes, address_in, bytes_at}
use Rattle.cell_runtime.specs.World.{World, told_more, print_int}
use Rattle.rv_lower.specs.Lines.{choice_of}
use Rattle.rv_lower.proofs.Runs.{longest_number, routine_cost}
use Rattle.rv_lower.proofs.Words.{signed_fits}
use Rattle.kk_source.specs.FormEffects.{piece_of}

-- ---- numbers

pub some_digits : (w : ℕ) → w < 2 ^ 32 → 1 ≤ length (signed_decimal (signed w))
some_digits w less = some (signed w) (signed_fits w less).sfits
  where
    some : (z : ℤ) → mag z < 2 ^ 31 → 1 ≤ length (signed_decimal z)
    some (pos n) small = decimal_nonempty n (omega (arith, small))
    some (negsuc n) small = omega arith

few_steps : (z : ℤ) → mag z < 2 ^ 31 → length (signed_decimal z) ≤ longest_number → int_count z ≤ routine_cost
few_steps (pos n) small few = omega (arith, length-decimal-le 10 n (omega arith) (omega (arith, small)) (omega (arith, small)))
few_steps (negsuc n) small few = omega (arith, few)

pub few_steps_of : (w : ℕ) → w < 2 ^ 32 → int_count (signed w) ≤ routine_cost
few_steps_of w less =
    let small = (signed_fits w less).sfits in
    few_steps (signed w) small (length_signed_le 10 (signed w) (omega (arith, small)) (omega (arith, small)))

-- what the routine prints is what the language says
pub same_piece : (w : ℕ) (form : PrintForm) → int_piece w (choice_of form) ≡ piece_of form (signed_decimal (signed w))
same_piece w OfPrint.Print = append-nil (signed_decimal (signed w))
same_piece w OfPrint.PrintLine = refl

pub some_piece : (form : PrintForm) (text : List ℕ) → 1 ≤ length text → 1 ≤ length (piece_of form text)
some_piece OfPrint.Print text some = some
some_piece OfPrint.PrintLine text some = omega (arith, some, length-append text (10 ∷ []))

pub is_choice : (form : PrintForm) → nat_le (choice_of form) 1 ≡ true
is_choice OfPrint.Print = refl
is_choice OfPrint.PrintLine = refl

prints_if : (a b : Bool) (reply other : Reply World Ending) → a ≡ true → b ≡ true → (if a && b then reply else other) ≡ reply
prints_if true true reply other yes_a yes_b = refl
prints_if true false reply other yes_a yes_b = cc yes_b
prints_if false b reply other yes_a yes_b = cc yes_a

pub int_printed : (w : ℕ) (form : PrintForm) (world : World) → w < 2 ^ 32
    → print_int w (choice_of form) world ≡ answers 0 (told_more (output (piece_of form (signed_decimal (signed w))) ∷ []) world) false
int_printed w form world less =
    prints_if (nat_lt w (2 ^ 32)) (nat_le (choice_of form) 1) (answers 0 (told_more (output (int_piece w (choice_of form)) ∷ []) world) false) fails (lt-ltb w (2 ^ 32) less) (is_choice form)
    ∙ ap (λ piece. answers 0 (told_more (output piece ∷ []) world) false) (same_piece w form)

-- ---- texts

-- a text stands among the bytes of all texts
record StandsAt (first : ℕ) (texts : List (List ℕ)) (index : ℕ) (text : List ℕ) : Type 0 where
  at : ℕ
  before : ℕ
  at_is : address_in first texts index ≡ Some at
  behind : at ≡ first + before
  within : before + length text ≤ length (all_bytes texts)
  bytes : take (length text) (drop before (all_bytes texts)) ≡ text

same_text : (text other : List ℕ) → Some text ≡ Some other → text ≡ other
same_text text other same = cc same

stands_at : (first : ℕ) (texts : List (List ℕ)) (index : ℕ) (text : List ℕ) → slice_get texts index ≡ Some text → StandsAt first texts index text
stands_at first [] index text is = absurd (cc is)
stands_at first (other ∷ texts) zero text is =
    let same : other ≡ text = same_text other text is in
    subst (λ t. StandsAt first (other ∷ texts) 0 t) same
    (record {
      at = first;
      before = 0;
      at_is = refl;
      behind = omega arith;
      within = omega (arith, length-append other (all_bytes texts));
      bytes = take-append_seam other (all_bytes texts);
    })
stands_at first (other ∷ texts) (suc index) text is =
    let there : StandsAt (first + length other) texts index text = stands_at (first + length other) texts index text is in
    record {
      at = there.at;
      before = length other + there.before;
      at_is = there.at_is;
      behind = omega (arith, there.behind);
      within = omega (arith, there.within, length-append other (all_bytes texts));
      bytes = ap (take (length text)) (drop-append-add other (all_bytes texts) there.before) ∙ there.bytes;
    }

bytes_if : (a b : Bool) (bytes : List ℕ) → a ≡ true → b ≡ true → (if a && b then Some bytes else None) ≡ Some bytes
bytes_if true true bytes yes_a yes_b = refl
bytes_if true false bytes yes_a yes_b = cc yes_b
bytes_if false b bytes yes_a yes_b = cc yes_a

pub text_found : (first : ℕ) (texts : List (List ℕ)) (index : ℕ) (text : List ℕ) → slice_get texts index ≡ Some text
    → (at : ℕ) × (address_in first texts index ≡ Some at) × (bytes_at (record { first = first; texts = texts }) at (length text) ≡ Some text)
text_found first texts index text is =
    let there : StandsAt first texts index text = stands_at first texts index text is in
    let all : List ℕ = all_bytes texts in
    let back : there.at - first ≡ there.before = omega (arith, there.behind) in (
      there.at,
      there.at_is,
      bytes_if (nat_le first there.at) (nat_le (there.at + length text) (first + length all)) (take (length text) (drop (there.at - first) all))
          (le-leb first there.at (omega (arith, there.behind))) (le-leb (there.at + length text) (first + length all) (omega (arith, there.behind, there.within)))
          ∙ ap (λ o. Some (take (length text) (drop o all))) back ∙ ap (λ (bytes : List ℕ). Some bytes) there.bytes,
    )
