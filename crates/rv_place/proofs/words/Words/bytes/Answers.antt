use Rattle.std.proofs.Common.{rules, arith, ℕ, List, ◌++◌, get_or, Fits, w8, subst, ap, ◌∙◌}
use Rattle.rv_place.specs.Bytes.{AreWordsOf}
use Rattle.rv_place.proofs.BootBytes.{AreBytes, are-bytes, text-of}
use Rattle.rv_place.proofs.words.Words.bytes.Goals as goal

pub returns : goal.returns
returns c =
    let constants = c.as_slice-constants.result.now in
    let fit : (k : ℕ) → Fits w8 (get_or constants k 0) = λ k. first_of (search rules, grind arith, omega arith) in
    text-of c.args.self.now c.in_ok-text.text.items c.extend_from_slice.new.self.items
    (subst (λ is. AreWordsOf is c.in_ok-text.text.items) c.as_slice.ensures.value c.in_ok-text.ensures)
    (subst AreBytes c.as_slice-constants.ensures.value (are-bytes constants fit))
    (c.in_ok-extend_from_slice.ensures.items ∙ ap (λ (back : List ℕ). c.in_ok-text.text.items ++ back) c.as_slice-constants.ensures.value)
