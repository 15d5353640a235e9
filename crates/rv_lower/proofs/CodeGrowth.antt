-- Code that grows: the lines and the texts of parts make those of the whole.
use Rattle.std.proofs.Common.{◌≡◌, ℕ, ◌+◌, ◌≤◌, List, [], ◌∷◌, ◌++◌, length, refl, sym, ap, ◌∙◌, arith, append_assoc, append-nil, length-append}
use Rattle.rv_isa.specs.AsmCode.{Line}
use Rattle.cell_runtime.specs.Operations.{all_bytes}
use Rattle.rv_lower.specs.declared.lowering.Lowering.{Lowering}
use Rattle.rv_lower.specs.Written.{lines_written, texts_written, Wrote, TookLabel, Grows}

pub all_bytes_append : (xs ys : List (List ℕ)) → length (all_bytes (xs ++ ys)) ≡ length (all_bytes xs) + length (all_bytes ys)
all_bytes_append [] ys = omega arith
all_bytes_append (x ∷ xs) ys =
    let more = all_bytes_append xs ys in
    let whole = length-append x (all_bytes (xs ++ ys)) in
    let part = length-append x (all_bytes xs) in omega (arith, more, whole, part)

pub grows_of : {lines : List Line} {a b : Lowering} → Wrote lines a b → Grows 0 lines a b
grows_of {lines} {a} {b} wrote = record { code = wrote.code; base = wrote.base; more = []; texts = wrote.texts ∙ sym (append-nil (texts_written a)); few = omega arith }

pub grows_took : {label : ℕ} {a b : Lowering} → TookLabel label a b → Grows 0 [] a b
grows_took {label} {a} {b} took = record {
  code = took.code ∙ sym (append-nil (lines_written a));
  base = took.base;
  more = [];
  texts = took.texts ∙ sym (append-nil (texts_written a));
  few = omega arith;
}

pub grows_none : (a : Lowering) → Grows 0 [] a a
grows_none a = record { code = sym (append-nil (lines_written a)); base = refl; more = []; texts = sym (append-nil (texts_written a)); few = omega arith }

pub grows_then : {n m : ℕ} {first second : List Line} {a b c : Lowering} → Grows n first a b → Grows m second b c → Grows (n + m) (first ++ second) a c
grows_then {n} {m} {first} {second} {a} {b} {c} grown later = record {
  code = later.code ∙ ap (λ (lines : List Line). lines ++ second) grown.code ∙ append_assoc (lines_written a) first second;
  base = later.base ∙ grown.base;
  more = grown.more ++ later.more;
  texts = later.texts ∙ ap (λ (texts : List (List ℕ)). texts ++ later.more) grown.texts ∙ append_assoc (texts_written a) grown.more later.more;
  few = let size = all_bytes_append grown.more later.more in let few_first = grown.few in let few_later = later.few in omega (arith, size, few_first, few_later);
}

pub grows_more : {n m : ℕ} {lines : List Line} {a b : Lowering} → n ≤ m → Grows n lines a b → Grows m lines a b
grows_more le grows = record { code = grows.code; base = grows.base; more = grows.more; texts = grows.texts; few = let few = grows.few in omega (arith, few, le) }

pub later_texts : {n : ℕ} {lines : List Line} {a b : Lowering} (grows : Grows n lines a b) (later : List (List ℕ)) → texts_written a ++ (grows.more ++ later) ≡ texts_written b ++ later
later_texts {n} {lines} {a} {b} grows later = sym (ap (λ (texts : List (List ℕ)). texts ++ later) grows.texts ∙ append_assoc (texts_written a) grows.more later)
