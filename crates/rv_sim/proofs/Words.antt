-- A word that may be loaded lies in one part.
use Rattle.std.proofs.Common.{◌≡◌, ℕ, ◌%◌, ◌==◌, ◌&&◌, List, true, Option, Some, None, if◌then◌else◌, refl, ◌∙◌}
use Rattle.kk_base.specs.Memory.{Part, covers}
use Rattle.rv_isa.specs.Processor.{can_load, lies_in_part}
use Rattle.rv_isa.proofs.Cases.{and-right}
use Rattle.rv_sim.proofs.AreaSearch.{list_any-weaker}

-- what may be loaded lies in one part
load-lies : (parts : List Part) (at count : ℕ) → can_load parts at count ≡ true → lies_in_part parts at count ≡ true
load-lies parts at count allowed =
    list_any-weaker (λ part. part.readable && covers part at count) (λ part. covers part at count)
    (λ part e. and-right part.readable (covers part at count) e) parts allowed

-- so the word that is found there is the one that a load gets
pub word-loaded : (parts : List Part) (at v : ℕ) (found : Option ℕ) → at % 4 ≡ 0 → can_load parts at 4 ≡ true → found ≡ (if lies_in_part parts at 4 then Some v else None) → found ≡ (if (at % 4 == 0) && can_load parts at 4 then Some v else None)
word-loaded parts at v found aligned allowed is = is ∙ rw (load-lies parts at 4 allowed, aligned, allowed) refl
