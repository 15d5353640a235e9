use Rattle.std.proofs.Common.{[], map, ap, ◌∙◌, inl, inr, arith}
use Rattle.std.proofs.lemmas.List.{length-map}
use Rattle.kk_syntax.specs.Programs.{constructor_tree}
use Rattle.kk_mono.specs.KeyTrees.{keys_in, viewed}
use Rattle.kk_mono.specs.Siblings.{keys_of}
use Rattle.kk_mono.specs.Views.{types_in}
use Rattle.kk_mono.proofs.InstanceUses.{searching_starts}
use Rattle.kk_mono.proofs.search.search.Goals as goal
use Rattle.kk_mono.proofs.search.search.Goals.{then-loop-found-test+else-len-greatest, else-loop-found-test}

pub loop-found-init : goal.loop-found-init
loop-found-init c = searching_starts c.args.typed.now c.requires (record { types = c.in_ok-new.field-0; keys = c.in_ok-with_main.field-0; constructors = c.in_ok-constructors_of_bool.field-0; looked = c.new-2.result }) c.in_ok-with_main.ensures (c.in_ok-constructors_of_bool.ensures ∙ ap (λ cs. keys_of (map constructor_tree cs) 0 []) c.deref.ensures.value) c.new-2.ensures.items

pub returns : goal.returns
returns c =
    let keys = keys_in c.loop-found.found.keys in
    let known = length-map keys (viewed (types_in c.loop-found.found.types)) in
    let looked = c.loop-found.found.looked.ok.0 in
    record {
      searching = c.loop-found.invariant;
      ends = elim c.loop-found-test.branch [ then-loop-found-test+else-len-greatest w ↦ inr (omega (arith, known)) | else-loop-found-test w ↦ inl (omega (arith, known, looked)) ];
    }
