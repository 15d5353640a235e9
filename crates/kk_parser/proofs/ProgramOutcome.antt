-- From the reading of a program to what its tokens come to.
use Rattle.std.proofs.Common.{◌≡◌, ℕ, ◌+◌, true, List, [], ◌∷◌, ◌++◌, refl, sym, ap, ◌∙◌, subst, inl, inr, append_assoc, arith}
use Rattle.std.proofs.lemmas.List.{append_cancel_right, append-nil}
use Rattle.kk_syntax.specs.declared.token.LocatedToken.{LocatedToken}
use Rattle.kk_syntax.specs.Surface.{WrittenDeclaration}
use Rattle.kk_parser.specs.Phrases.{program, Phrase, rule}
use Rattle.kk_parser.specs.Spells.{Marked, tokens_of, Spells}
use Rattle.kk_parser.specs.Reading.{Finds, Failure, unexpected, too_deep, ReadingFails}
use Rattle.kk_parser.specs.Parses.{SpellsProgram, AtMost, HasTree, GoesOn, IsUnexpected, IsTooDeep}
use Rattle.kk_parser.specs.Grammar.{program_grammar}
use Rattle.kk_parser.proofs.Spelling.{formed, unformed}
use Rattle.kk_parser.proofs.Completeness.{Within, all_within, one_within, Opens, Read, read}
use Rattle.kk_parser.proofs.Soundness.{Fronts, no_front, one_front, spelled, onward_calm, rest_of, Opened, Reaches, there, behind, begun}
use Rattle.kk_parser.proofs.Determinism.{same_finds, never_both, same_fails}
use Rattle.kk_parser.proofs.Locality.{SameNext, no_next, one_next, Turns, turns_here, turns_behind, finds_alike, fails_alike}
use Rattle.kk_parser.specs.Depths.{most_levels}

pub tokens_of-append : (xs ys : List Marked) → tokens_of (xs ++ ys) ≡ tokens_of xs ++ tokens_of ys
tokens_of-append [] ys = refl
tokens_of-append (x ∷ xs) ys = ap (λ ts. x.token ∷ ts) (tokens_of-append xs ys)

-- marked tokens, cut where the tokens alone are
pub record Cut (limit : ℕ) (xs zs : List Marked) (ts us : List LocatedToken) : Type 0 where
  pub front : List Marked
  pub marked : xs ≡ front ++ zs
  pub tokens : ts ≡ tokens_of front ++ us
  pub shallow : AtMost limit front

cut_front : {limit : ℕ} {xs zs : List Marked} {ts us : List LocatedToken} → Fronts limit xs zs ts us → Cut limit xs zs ts us
cut_front no_front = record { front = []; marked = refl; tokens = refl; shallow = tt }
cut_front (one_front {x = x} h r) =
    let c = cut_front r in
    record { front = x ∷ c.front; marked = ap (λ ys. x ∷ ys) c.marked; tokens = ap (λ ys. x.token ∷ ys) c.tokens; shallow = (h, c.shallow) }

record Reached (limit : ℕ) (xs : List Marked) (ts : List LocatedToken) (f : Failure) : Type 0 where
  pub rest : List Marked
  pub cut : Cut limit xs rest ts (rest_of f)
  pub opened : Opened limit f rest

reached : {limit : ℕ} {xs : List Marked} {ts : List LocatedToken} {f : Failure} → Reaches limit xs ts f → Reached limit xs ts f
reached (there {xs = xs} e o) = record { rest = xs; cut = record { front = []; marked = refl; tokens = e; shallow = tt }; opened = o }
reached (behind {x = x} h r) =
    let s = reached r in
    let c = s.cut in
    record { rest = s.rest; cut = record { front = x ∷ c.front; marked = ap (λ ys. x ∷ ys) c.marked; tokens = ap (λ ys. x.token ∷ ys) c.tokens; shallow = (h, c.shallow) }; opened = s.opened }

-- what is found whole has a tree
pub has_tree : {declarations : List WrittenDeclaration} {m : ℕ} {ts : List LocatedToken} → Finds most_levels (rule program) 0 ts declarations m [] → HasTree ts declarations
has_tree {declarations} {m} {ts} r =
    let s = spelled most_levels r (omega arith) refl [] (onward_calm refl) in
    let c = cut_front s.2 in
    record {
      marked = c.front;
      tokens_are = sym (c.tokens ∙ append-nil (tokens_of c.front));
      shallow = c.shallow;
      program = (m, subst (λ xs. Spells program_grammar (rule program) 0 declarations m xs []) (c.marked ∙ append-nil c.front) (unformed s.1));
    }

-- a program whose tokens go on behind some as others do at first
record Continued (before us : List LocatedToken) : Type 0 where
  pub declarations : List WrittenDeclaration
  pub marked : List Marked
  pub program : SpellsProgram declarations marked
  pub rest : List LocatedToken
  pub next : SameNext us rest
  pub tokens : tokens_of marked ≡ before ++ rest

continued : (before us : List LocatedToken) → GoesOn before us → Continued before us
continued before [] g = record { declarations = g.0; marked = g.1; program = g.2; rest = []; next = no_next; tokens = g.3 ∙ sym (append-nil before) }
continued before (t ∷ us) g =
    let front = g.0 in
    let later = g.1.1 in
    record {
      declarations = g.1.0;
      marked = front ++ later;
      program = g.1.2;
      rest = t ∷ tokens_of later;
      next = one_next;
      tokens = tokens_of-append front later ∙ ap (λ ts. ts ++ tokens_of later) g.2 ∙ append_assoc before (t ∷ []) (tokens_of later);
    }

turned : {ts us ts' us' : List LocatedToken} → Turns ts us ts' us' → (front : List LocatedToken) × (ts ≡ front ++ us) × (ts' ≡ front ++ us')
turned (turns_here h) = ([], refl, refl)
turned (turns_behind {t = t} r) = let s = turned r in (t ∷ s.0, ap (λ ts. t ∷ ts) s.1, ap (λ ts. t ∷ ts) s.2)

-- the same tokens before others, where a reading is cut in front of them
pub turned_tokens : (before us rest : List LocatedToken) (other : List LocatedToken) → Turns (before ++ us) us other rest → other ≡ before ++ rest
turned_tokens before us rest other r =
    let t = turned r in
    t.2 ∙ ap (λ front. front ++ rest) (sym (append_cancel_right before t.0 us t.1))

-- the reading of a program
pub program_read : {declarations : List WrittenDeclaration} {ts : List Marked} → SpellsProgram declarations ts → (limit : ℕ) → (m : ℕ) × Read limit (rule program) 0 declarations m ts []
program_read p limit = (p.0, read limit (formed p.1) [] true refl (inr (refl, refl)) (omega arith))

unmoved : {p : Phrase} {n : ℕ} {ts us : List LocatedToken} {f : Failure} → ts ≡ us → ReadingFails most_levels p n ts f → ReadingFails most_levels p n us f
unmoved {p} {n} {ts} {us} {f} e r = subst (λ x. ReadingFails most_levels p n x f) e r

-- where a reading fails since a token is unexpected, no program goes on with it
stuck_fails : (before us : List LocatedToken) → ReadingFails most_levels (rule program) 0 (before ++ us) (unexpected us) → GoesOn before us → ⊥
stuck_fails before us r g =
    let c = continued before us g in
    let a = fails_alike most_levels r refl c.next in
    let s : ReadingFails most_levels (rule program) 0 (tokens_of c.marked) (unexpected c.rest) = unmoved (turned_tokens before us c.rest a.before a.turns ∙ sym c.tokens) a.fails in
    elim (program_read c.program most_levels).1 [ inl w ↦ never_both most_levels w.finds s | inr q ↦ absurd (cc (same_fails most_levels q.fails s)) ]

no_rest : (t : LocatedToken) (us rest : List LocatedToken) → SameNext (t ∷ us) rest → [] ≡ rest → ⊥
no_rest t us (u ∷ rest) h e = cc e
no_rest t us [] h e = elim h [ ]

-- where a program is found before other tokens, no program goes on with the first of them
stuck_finds : (before : List LocatedToken) (t : LocatedToken) (us : List LocatedToken) {declarations : List WrittenDeclaration} {m : ℕ} → Finds most_levels (rule program) 0 (before ++ t ∷ us) declarations m (t ∷ us) → GoesOn before (t ∷ us) → ⊥
stuck_finds before t us {declarations} {m} r g =
    let c = continued before (t ∷ us) g in
    let a = finds_alike most_levels r refl c.next in
    let s : Finds most_levels (rule program) 0 (tokens_of c.marked) declarations m c.rest = subst (λ x. Finds most_levels (rule program) 0 x declarations m c.rest) (turned_tokens before (t ∷ us) c.rest a.before a.turns ∙ sym c.tokens) a.finds in
    elim (program_read c.program most_levels).1 [ inl w ↦ no_rest t us c.rest c.next ((same_finds most_levels w.finds s).rest) | inr q ↦ never_both most_levels s q.fails ]

-- where tokens of a program are cut, and no program goes on behind the cut, the token there is unexpected
cut_unexpected : {xs zs : List Marked} {ts us : List LocatedToken} (declarations : List WrittenDeclaration) (m : ℕ) → Cut most_levels xs zs ts us → Spells program_grammar (rule program) 0 declarations m xs [] → ((before : List LocatedToken) → ts ≡ before ++ us → GoesOn before us → ⊥) → (before : List LocatedToken) × (before ++ us ≡ ts) × IsUnexpected before us
cut_unexpected {xs} {zs} {ts} {us} declarations m c p stuck =
    let before = tokens_of c.front in (
      before,
      sym c.tokens,
      record {
        front = c.front;
        tokens_are = refl;
        shallow = c.shallow;
        begins = (declarations, zs, (m, subst (λ ys. Spells program_grammar (rule program) 0 declarations m ys []) c.marked p));
        stuck = stuck before c.tokens;
      },
    )

-- where the reading of a program fails since a token is unexpected, it is the first such token
pub fails_unexpected : {ts us : List LocatedToken} → ReadingFails most_levels (rule program) 0 ts (unexpected us) → (before : List LocatedToken) × (before ++ us ≡ ts) × IsUnexpected before us
fails_unexpected {ts} {us} r =
    let b = begun most_levels r (omega arith) refl in
    let x = b.text [] refl in
    cut_unexpected b.value b.levels (reached x.2).cut (unformed x.1) (λ before e. stuck_fails before us (unmoved e r))

-- where the reading of a program leaves tokens, the first of them is unexpected
pub finds_unexpected : {declarations : List WrittenDeclaration} {m : ℕ} {ts : List LocatedToken} {t : LocatedToken} {us : List LocatedToken} → Finds most_levels (rule program) 0 ts declarations m (t ∷ us) → (before : List LocatedToken) × (before ++ t ∷ us ≡ ts) × IsUnexpected before (t ∷ us)
finds_unexpected {declarations} {m} {ts} {t} {us} r =
    let s = spelled most_levels r (omega arith) refl [] (onward_calm refl) in
    cut_unexpected declarations m (cut_front s.2) (unformed s.1) (λ before e. stuck_finds before t us (subst (λ x. Finds most_levels (rule program) 0 x declarations m (t ∷ us)) e r))

-- where the reading of a program fails for depth, the token there opens the first level too many
pub fails_too_deep : {ts us : List LocatedToken} → ReadingFails most_levels (rule program) 0 ts (too_deep us) → (before : List LocatedToken) × (before ++ us ≡ ts) × IsTooDeep before us
fails_too_deep {ts} {us} r =
    let b = begun most_levels r (omega arith) refl in
    let x = b.text [] refl in
    let s = reached x.2 in
    (tokens_of s.cut.front, sym s.cut.tokens, deep b.value b.levels s.cut.front s.rest s.opened s.cut.shallow (subst (λ xs. Spells program_grammar (rule program) 0 b.value b.levels xs []) s.cut.marked (unformed x.1)))
  where
    deep : (declarations : List WrittenDeclaration) (m : ℕ) (front rest : List Marked) → Opened most_levels (too_deep us) rest → AtMost most_levels front → Spells program_grammar (rule program) 0 declarations m (front ++ rest) [] → IsTooDeep (tokens_of front) us
    deep declarations m front [] o h s = absurd o
    deep declarations m front (x ∷ rest) o h s = record {
      front = front;
      opener = x;
      later = o.1;
      tokens_are = refl;
      next_is = o.2;
      shallow = h;
      begins = (declarations, rest, (m, subst (λ xs. Spells program_grammar (rule program) 0 declarations m xs []) (sym (append_assoc front (x ∷ []) rest)) s));
      opens = o.0;
    }

too_many : {limit : ℕ} {ts us : List Marked} → Within limit ts us → Opens limit us → AtMost limit ts → ⊥
too_many {limit} (all_within {us = us}) o h = here us o h
  where
    here : (us : List Marked) → Opens limit us → AtMost limit us → ⊥
    here [] o h = o
    here (u ∷ us) o h = omega (arith, h.0, o)
too_many (one_within l r) o h = too_many r o h.1

-- a program at whose tokens no more than `limit` levels are open is found
program_found : (limit : ℕ) {declarations : List WrittenDeclaration} {ts : List Marked} → SpellsProgram declarations ts → AtMost limit ts → (m : ℕ) × Finds limit (rule program) 0 (tokens_of ts) declarations m []
program_found limit p h =
    let r = program_read p limit in
    (r.0, elim r.1 [ inl w ↦ w.finds | inr q ↦ absurd (too_many q.within q.opens h) ])

-- what has a tree is found whole
pub tree_found : {declarations : List WrittenDeclaration} {ts : List LocatedToken} → HasTree ts declarations → (m : ℕ) × Finds most_levels (rule program) 0 ts declarations m []
tree_found {declarations} {ts} h =
    let r = program_found most_levels h.program h.shallow in
    (r.0, subst (λ x. Finds most_levels (rule program) 0 x declarations r.0 []) h.tokens_are r.1)

-- a number of levels that suffices
abbrev all_levels : List Marked → ℕ
all_levels [] = 0
all_levels (t ∷ ts) = t.levels + all_levels ts

at_most_all : (ts : List Marked) (more : ℕ) → AtMost (all_levels ts + more) ts
at_most_all [] more = tt
at_most_all (t ∷ ts) more = (omega arith, subst (λ limit. AtMost limit ts) (omega arith) (at_most_all ts (t.levels + more)))

-- tokens spell one program, however deep it is nested
pub one_program : {declarations others : List WrittenDeclaration} {ts us : List Marked} → SpellsProgram declarations ts → SpellsProgram others us → tokens_of ts ≡ tokens_of us → declarations ≡ others
one_program {declarations} {others} {ts} {us} p q e =
    let limit = all_levels ts + all_levels us in
    let a = program_found limit p (at_most_all ts (all_levels us)) in
    let b = program_found limit q (subst (λ limit. AtMost limit us) (omega arith) (at_most_all us (all_levels ts))) in
    (same_finds limit a.1 (subst (λ x. Finds limit (rule program) 0 x others b.0 []) (sym e) b.1)).value
