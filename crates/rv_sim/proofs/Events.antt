-- What events take, put and leave, in two parts, is what they do together.
use Rattle.std.proofs.Common.{◌≡◌, ◌<◌, ℕ, List, [], ◌∷◌, ◌++◌, All, true, false, Option, Some, None, option_map, refl, sym, ap, subst, ◌∙◌, append_assoc, append-nil}
use Rattle.std.proofs.lemmas.List.Elements.{All-nil}
use Rattle.kk_base.specs.Source.{SourceState}
use Rattle.kk_base.specs.Trace.{Event, output, input, input_end, output_of, TakesFrom}
use Rattle.kk_base.proofs.Traces.{TakesFrom-join, TakesBytes-append, output_of-append, once-join}
use Rattle.std.proofs.lemmas.Bool.{true≢false}
use Rattle.rv_sim.specs.Devices.{GivesContent, GivesEvents}

-- a source, told or not
content-none : (left : Option (List ℕ)) → GivesContent [] left left
content-none None = tt
content-none (Some left) = refl

content-join : (es fs : List Event) (before mid after : Option (List ℕ)) → GivesContent es before mid → GivesContent fs mid after → GivesContent (es ++ fs) before after
content-join es fs None None None first second = tt
content-join es fs (Some before) (Some mid) (Some after) first second = TakesFrom-join es fs before mid after first second
content-join es fs None None (Some after) first second = second
content-join es fs None (Some mid) after first second = absurd first
content-join es fs (Some before) None after first second = absurd first
content-join es fs (Some before) (Some mid) None first second = second

pub GivesEvents-none : (s : SourceState) → GivesEvents [] s s
GivesEvents-none s = record { content = content-none s.left; once = λ e. e; bytes = All-nil (λ byte. byte < 256) }

pub GivesEvents-join : (es fs : List Event) (before mid after : SourceState) → GivesEvents es before mid → GivesEvents fs mid after → GivesEvents (es ++ fs) before after
GivesEvents-join es fs before mid after first second = record {
  content = content-join es fs before.left mid.left after.left first.content second.content;
  once = once-join es fs before.ended mid.ended after.ended first.once second.once;
  bytes = TakesBytes-append es fs first.bytes second.bytes;
}

-- a sink, told or not
pub held-none : (held : Option (List ℕ)) → held ≡ option_map (λ before. before ++ ([] ++ [])) held
held-none None = refl
held-none (Some held) = ap Some (sym (append-nil held))

pub held-join : (es fs : List Event) (cut : List ℕ) (before mid after : Option (List ℕ)) → mid ≡ option_map (λ held. held ++ (output_of es ++ [])) before
    → after ≡ option_map (λ held. held ++ (output_of fs ++ cut)) mid → after ≡ option_map (λ held. held ++ (output_of (es ++ fs) ++ cut)) before
held-join es fs cut None mid after first second = second ∙ ap (option_map (λ held. held ++ (output_of fs ++ cut))) first
held-join es fs cut (Some held) mid after first second =
    second ∙ ap (option_map (λ held. held ++ (output_of fs ++ cut))) first
    ∙ ap Some (rw (append-nil, output_of-append) (rw (append_assoc held (output_of es) (output_of fs ++ cut), append_assoc (output_of es) (output_of fs) cut) refl))

-- ---- what a source gives

content_byte : (byte : ℕ) (after before : Option (List ℕ)) → before ≡ option_map (λ rest. (byte ∷ []) ++ rest) after → GivesContent (input byte ∷ []) before after
content_byte byte None before is = subst (λ (b : Option (List ℕ)). GivesContent (input byte ∷ []) b None) (sym is) tt
content_byte byte (Some rest) before is = subst (λ (b : Option (List ℕ)). GivesContent (input byte ∷ []) b (Some rest)) (sym is) (refl, refl)

content_none : (after before : Option (List ℕ)) → before ≡ option_map (λ rest. [] ++ rest) after → GivesContent [] before after
content_none None before is = subst (λ (b : Option (List ℕ)). GivesContent [] b None) (sym is) tt
content_none (Some rest) before is = subst (λ (b : Option (List ℕ)). GivesContent [] b (Some rest)) (sym is) refl

content_end : (after before : Option (List ℕ)) → before ≡ option_map (λ rest. [] ++ rest) after → ((rest : List ℕ) → before ≡ Some rest → rest ≡ []) → GivesContent (input_end ∷ []) before after
content_end None before is end = subst (λ (b : Option (List ℕ)). GivesContent (input_end ∷ []) b None) (sym is) tt
content_end (Some rest) before is end =
    let none = end rest is in
    subst (λ (b : Option (List ℕ)). GivesContent (input_end ∷ []) b (Some rest)) (sym is) (subst (λ (xs : List ℕ). TakesFrom (input_end ∷ []) xs xs) (sym none) refl)

pub gives_byte : (byte : ℕ) (after before : SourceState) → before.left ≡ option_map (λ rest. (byte ∷ []) ++ rest) after.left → before.ended ≡ false → All (λ b. b < 256) (byte ∷ []) → GivesEvents (input byte ∷ []) before after
gives_byte byte after before is open_still small = record { content = content_byte byte after.left before.left is; once = (open_still, λ e. absurd (true≢false (sym e))); bytes = small }

pub gives_none : (after before : SourceState) → before.left ≡ option_map (λ rest. [] ++ rest) after.left → after.ended ≡ before.ended → GivesEvents [] before after
gives_none after before is same = record { content = content_none after.left before.left is; once = λ e. same ∙ e; bytes = All-nil (λ byte. byte < 256) }

pub gives_end : (after before : SourceState) → before.left ≡ option_map (λ rest. [] ++ rest) after.left → ((rest : List ℕ) → before.left ≡ Some rest → rest ≡ []) → after.ended ≡ true → GivesEvents (input_end ∷ []) before after
gives_end after before is end met = record { content = content_end after.left before.left is end; once = λ e. met; bytes = All-nil (λ byte. byte < 256) }

content_put : (piece : List ℕ) (left : Option (List ℕ)) → GivesContent (output piece ∷ []) left left
content_put piece None = tt
content_put piece (Some left) = refl

pub gives_put : (piece : List ℕ) (supply : SourceState) → GivesEvents (output piece ∷ []) supply supply
gives_put piece supply = record { content = content_put piece supply.left; once = λ e. e; bytes = All-nil (λ byte. byte < 256) }
