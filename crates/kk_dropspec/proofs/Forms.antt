-- Specialised code as its steps, its arms and its end.
use Rattle.std.proofs.Common.{◌≡◌, ℕ, List, [], ◌∷◌, map, refl, sym, ap, ◌∙◌}
use Rattle.std.specs.Global.{Vec}
use Rattle.kk_core.specs.declared.decisions.Decisions.{Decisions}
use Rattle.kk_counted.specs.declared.form.Block.{Block}
use Rattle.kk_counted.specs.declared.form.Last.{Last}
use Rattle.kk_counted.specs.declared.form.Last.TheVariants as OfLast
use Rattle.kk_counted.specs.CountedCodes.{Counted, arm, case}
use Rattle.kk_counted.specs.CountedForms.{Move, computes, runs, reads, opens, opens_unique, dups, drops, put, plug, arms_of}
use Rattle.kk_counted.specs.CountedForms.{step_move, last_code, block_code, decisions_of}
use Rattle.kk_counted.proofs.FormViews.{block_is, case_code}
use Rattle.kk_dropspec.specs.Specialised.{special, special_arms}
use Rattle.kk_dropspec.specs.SpecialForms.{special_move}

special_put : (move : Move) (rest : Counted) → special (put move rest) ≡ put (special_move move) (special rest)
special_put (computes x form arguments) rest = refl
special_put (runs x block) rest = refl
special_put (reads x c fields) rest = refl
special_put (opens x c fields used) rest = refl
special_put (opens_unique x c fields used) rest = refl
special_put (dups x) rest = refl
special_put (drops x) rest = refl

pub special_plug : (moves : List Move) (last : Counted) → special (plug moves last) ≡ plug (map special_move moves) (special last)
special_plug [] last = refl
special_plug (move ∷ moves) last = special_put move (plug moves last) ∙ ap (put (special_move move)) (special_plug moves last)

pub special_arms_of : (codes : List Counted) → special_arms (arms_of codes) ≡ arms_of (map special codes)
special_arms_of [] = refl
special_arms_of (code ∷ codes) = ap (arm (special code)) (special_arms_of codes)

pub block_special : (block made : Block) → map step_move made.steps.items ≡ map special_move (map step_move block.steps.items)
    → last_code made.last ≡ special (last_code block.last) → block_code made ≡ special (block_code block)
block_special block made steps last =
    block_is made ∙ ap (λ moves. plug moves (last_code made.last)) steps
    ∙ ap (plug (map special_move (map step_move block.steps.items))) last
    ∙ sym (special_plug (map step_move block.steps.items) (last_code block.last)) ∙ ap special (sym (block_is block))

pub case_special : (of made : Last) (x : ℕ) (d e : Decisions) (arms others : Vec Block) → of ≡ OfLast.Case x d arms
    → made ≡ OfLast.Case x e others → decisions_of e ≡ decisions_of d
    → map block_code others.items ≡ map special (map block_code arms.items) → last_code made ≡ special (last_code of)
case_special of made x d e arms others is made_is decisions bodies =
    ap last_code made_is ∙ case_code x e others
    ∙ ap (λ ds. case x ds (arms_of (map block_code others.items))) decisions
    ∙ ap (λ cs. case x (decisions_of d) (arms_of cs)) bodies
    ∙ ap (case x (decisions_of d)) (sym (special_arms_of (map block_code arms.items)))
    ∙ ap special (sym (case_code x d arms)) ∙ ap (λ (l : Last). special (last_code l)) (sym is)
