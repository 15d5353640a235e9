-- Code that begins with a head, and the rotated code.
use Rattle.std.proofs.Common.{◌≡◌, ℕ, ◌+◌, List, ◌∷◌, ◌++◌, None, length, map, drop, sym, ap, ◌∙◌}
use Rattle.std.proofs.Math.Seq.{drop-append-add}
use Rattle.std.proofs.lemmas.List.{drop-map, length-map}
use Rattle.rv_isa.specs.declared.placed.Item.{Item}
use Rattle.rv_isa.specs.Frames.{found}
use Rattle.rv_isa.specs.PlacedCode.{PlacedLine, placed_line_of}
use Rattle.rv_isa.specs.PlacedMachine.{is_label_line}
use Rattle.rv_loops.specs.declared.head.Head.{Head}
use Rattle.rv_loops.specs.declared.head.TheConstants.{AGAIN}
use Rattle.rv_loops.specs.Rotation.{test, code_of, rotated_code, IsRotated}
use Rattle.rv_loops.specs.Heads.{loop_of, Begins}

-- what stands behind a head is what its code has behind so many lines
behind_head : (head : Head) (number : ℕ) (code : List Item) (begins : Begins head number (map placed_line_of code))
    → map placed_line_of (drop (length head.before.items + 1) code) ≡ begins.behind
behind_head head number code begins =
    let before : List PlacedLine = map placed_line_of head.before.items in
    let long : length before ≡ length head.before.items = length-map head.before.items placed_line_of in
    sym (drop-map placed_line_of (length head.before.items + 1) code) ∙ ap (drop (length head.before.items + 1)) begins.code_is
    ∙ ap (λ (n : ℕ). drop (n + 1) (before ++ (test (loop_of head begins.behind) ∷ begins.behind))) (sym long)
    ∙ drop-append-add before (test (loop_of head begins.behind) ∷ begins.behind) 1

pub rotates : (head : Head) (number count : ℕ) (code : List Item) (new : List PlacedLine)
    → Begins head number (map placed_line_of code)
    → count ≡ length head.before.items → found (is_label_line AGAIN) (map placed_line_of code) ≡ None
    → new ≡ rotated_code (loop_of head (map placed_line_of (drop (count + 1) code)))
    → IsRotated number (map placed_line_of code) new
rotates head number count code new begins count_is fresh new_is =
    let behind : map placed_line_of (drop (count + 1) code) ≡ begins.behind
    = ap (λ (n : ℕ). map placed_line_of (drop (n + 1) code)) count_is ∙ behind_head head number code begins in
    record {
      loop = loop_of head (map placed_line_of (drop (count + 1) code));
      number = begins.number;
      old_is = begins.code_is ∙ ap (λ (lines : List PlacedLine). code_of (loop_of head lines)) (sym behind);
      new_is = new_is;
      straight = begins.straight;
      few = begins.few;
      compares = begins.compares;
      fresh = fresh;
      leads = begins.leads;
    }
