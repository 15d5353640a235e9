-- What is spelled is read, up to the first token at which too many levels are open.
use Rattle.std.proofs.Common.{◌≡◌, ℕ, ◌+◌, ◌<◌, ◌≤◌, Bool, true, false, refl, ◌⊎◌, List, [], ◌∷◌, ◌++◌, Some, inl, inr, arith}
use Rattle.std.proofs.lemmas.Bool.{cases_lt}
use Rattle.kk_syntax.specs.declared.token.LocatedToken.{LocatedToken}
use Rattle.kk_parser.specs.Classes.{Class, is_at}
use Rattle.kk_parser.specs.Kinds.{Kind, Said, says, string, classes_of}
use Rattle.kk_parser.specs.Phrases.{Nonterminal, Phrase, token, opener, ◌▸◌, either, many, optional, level, rule, each, perhaps, quoted_or, PhraseValue}
use Rattle.kk_parser.specs.Forms.{form, form_meaning, form_grammar}
use Rattle.kk_parser.specs.Spells.{Marked, tokens_of, Spells, by_token, by_opener, by_both, by_first, by_second, by_none, by_more, by_absence, by_presence, by_level, by_rule, by_no_more, by_each, by_nothing, by_something, by_quoted, by_unquoted}
use Rattle.kk_parser.specs.Reading.{first, nullable, quoted, is_quoted, Finds, finds_token, finds_opener, finds_both, finds_first, finds_second, finds_none, finds_more, finds_absence, finds_presence, finds_level, finds_rule, finds_no_more, finds_each, finds_nothing, finds_something, finds_quoted, finds_unquoted, too_deep, ReadingFails, fails_deep, fails_front, fails_behind, fails_first, fails_second, fails_one, fails_more, fails_presence, fails_level, fails_rule, fails_each_deep, fails_each, fails_each_more, fails_something, fails_quoted, fails_unquoted}
use Rattle.kk_parser.proofs.ClassDisjointness.{is_at-one, cond_parts, apart-is_at}
use Rattle.kk_parser.proofs.FirstTokens.{begins}
use Rattle.kk_parser.proofs.Tables.{follow_of, end_of}
use Rattle.kk_parser.proofs.Lookahead.{Follows, decided, decided-production, follows_both, follows_more, follows_rule, stops, begins_by, is_quoted-quoted, is_quoted-other}

-- no more than `limit` levels are open at the tokens of ts up to us
pub data Within (limit : ℕ) : List Marked → List Marked → Type 0 where
  all_within : {us : List Marked} → Within limit us us
  one_within : {t : Marked} {ts us : List Marked} → t.levels ≤ limit → Within limit ts us → Within limit (t ∷ ts) us

pub within_both : {limit : ℕ} {ts us ws : List Marked} → Within limit ts us → Within limit us ws → Within limit ts ws
within_both all_within s = s
within_both (one_within h r) s = one_within h (within_both r s)

-- at the first of these tokens too many levels are open
abbrev pub Opens : ℕ → List Marked → Type 0
Opens limit [] = ⊥
Opens limit (t ∷ ts) = t.levels ≡ limit + 1

module _ (limit : ℕ) where
  -- a text is read whole
  pub record Whole (p : Phrase) (n : ℕ) (v : PhraseValue p) (m : ℕ) (ts us : List Marked) : Type 0 where
    pub finds : Finds limit p n (tokens_of ts) v m (tokens_of us)
    pub within : Within limit ts us
    pub levels : m ≤ limit

  -- a text is read up to a token at which too many levels are open
  pub record Part (p : Phrase) (n : ℕ) (ts : List Marked) : Type 0 where
    pub rest : List Marked
    pub fails : ReadingFails limit p n (tokens_of ts) (too_deep (tokens_of rest))
    pub within : Within limit ts rest
    pub opens : Opens limit rest

  abbrev pub Read : (p : Phrase) → ℕ → PhraseValue p → ℕ → List Marked → List Marked → Type 0
  Read p n v m ts us = Whole p n v m ts us ⊎ Part p n ts

  read_token : {k : Kind} {t : LocatedToken} {v : Said k} {n : ℕ} {us : List Marked} → says k t ≡ Some v → n ≤ limit → Read (token k) n v n (record { token = t; levels = n } ∷ us) us
  read_token h l = inl (record { finds = finds_token h; within = one_within l all_within; levels = l })

  read_opener : {k : Kind} {t : LocatedToken} {v : Said k} {n : ℕ} {us : List Marked} → says k t ≡ Some v → n ≤ limit → Read (opener k) n v (n + 1) (record { token = t; levels = n + 1 } ∷ us) us
  read_opener {k} {t} {v} {n} {us} h l = elim (cases_lt n limit) [
    | inl a ↦ inl (record { finds = finds_opener h a; within = one_within (omega arith) all_within; levels = omega arith })
    | inr b ↦ inr (record { rest = record { token = t; levels = n + 1 } ∷ us; fails = fails_deep (is_at-one k t (tokens_of us) v h) b; within = all_within; opens = omega arith })
  ]

  read_both : {a b : Phrase} {n k m : ℕ} {u : PhraseValue a} {v : PhraseValue b} {ts us ws : List Marked} → Read a n u k ts us → (k ≤ limit → Read b k v m us ws) → Read (a ▸ b) n (u, v) m ts ws
  read_both (inr s) r = inr (record { rest = s.rest; fails = fails_front s.fails; within = s.within; opens = s.opens })
  read_both {a} {b} {n} {k} {m} {u} {v} {ts} {us} {ws} (inl s) r = behind (r s.levels)
    where
      behind : Read b k v m us ws → Read (a ▸ b) n (u, v) m ts ws
      behind (inl w) = inl (record { finds = finds_both s.finds w.finds; within = within_both s.within w.within; levels = w.levels })
      behind (inr w) = inr (record { rest = w.rest; fails = fails_behind s.finds w.fails; within = within_both s.within w.within; opens = w.opens })

  read_first : {a b : Phrase} {n m : ℕ} {v : PhraseValue a} {ts us : List Marked} → is_at (first a) (tokens_of ts) ≡ true → Read a n v m ts us → Read (either a b) n (inl v) m ts us
  read_first h (inl s) = inl (record { finds = finds_first h s.finds; within = s.within; levels = s.levels })
  read_first h (inr s) = inr (record { rest = s.rest; fails = fails_first h s.fails; within = s.within; opens = s.opens })

  read_second : {a b : Phrase} {n m : ℕ} {v : PhraseValue b} {ts us : List Marked} → is_at (first a) (tokens_of ts) ≡ false → Read b n v m ts us → Read (either a b) n (inr v) m ts us
  read_second h (inl s) = inl (record { finds = finds_second h s.finds; within = s.within; levels = s.levels })
  read_second h (inr s) = inr (record { rest = s.rest; fails = fails_second h s.fails; within = s.within; opens = s.opens })

  read_more : {a : Phrase} {n k m : ℕ} {u : PhraseValue a} {vs : List (PhraseValue a)} {ts us ws : List Marked} → is_at (first a) (tokens_of ts) ≡ true → Read a n u k ts us → (k ≤ limit → Read (many a) k vs m us ws) → Read (many a) n (u ∷ vs) m ts ws
  read_more h (inr s) r = inr (record { rest = s.rest; fails = fails_one h s.fails; within = s.within; opens = s.opens })
  read_more {a} {n} {k} {m} {u} {vs} {ts} {us} {ws} h (inl s) r = behind (r s.levels)
    where
      behind : Read (many a) k vs m us ws → Read (many a) n (u ∷ vs) m ts ws
      behind (inl w) = inl (record { finds = finds_more h s.finds w.finds; within = within_both s.within w.within; levels = w.levels })
      behind (inr w) = inr (record { rest = w.rest; fails = fails_more h s.finds w.fails; within = within_both s.within w.within; opens = w.opens })

  read_presence : {a : Phrase} {n m : ℕ} {v : PhraseValue a} {ts us : List Marked} → is_at (first a) (tokens_of ts) ≡ true → Read a n v m ts us → Read (optional a) n (Some v) m ts us
  read_presence h (inl s) = inl (record { finds = finds_presence h s.finds; within = s.within; levels = s.levels })
  read_presence h (inr s) = inr (record { rest = s.rest; fails = fails_presence h s.fails; within = s.within; opens = s.opens })

  read_level : {a : Phrase} {n m : ℕ} {v : PhraseValue a} {ts us : List Marked} → n ≤ limit → Read a n v m ts us → Read (level a) n v n ts us
  read_level h (inl s) = inl (record { finds = finds_level s.finds; within = s.within; levels = h })
  read_level h (inr s) = inr (record { rest = s.rest; fails = fails_level s.fails; within = s.within; opens = s.opens })

  read_rule : {x : Nonterminal} {n m : ℕ} {v : PhraseValue (form x)} {ts us : List Marked} → Read (form x) n v m ts us → Read (rule x) n (form_meaning x v) m ts us
  read_rule (inl s) = inl (record { finds = finds_rule s.finds; within = s.within; levels = s.levels })
  read_rule (inr s) = inr (record { rest = s.rest; fails = fails_rule s.fails; within = s.within; opens = s.opens })

  -- a token that opens a level, one too many or not, and a phrase behind it; and more of these
  read_each : {l : Kind} {a : Phrase} {n k m : ℕ} {t : LocatedToken} {w : Said l} {u : PhraseValue a} {vs : List (PhraseValue a)} {ts us ws : List Marked} → says l t ≡ Some w → n ≤ limit → (n + 1 ≤ limit → Read a (n + 1) u k ts us) → (k ≤ limit → Read (each l a) k vs m us ws) → Read (each l a) n (u ∷ vs) m (record { token = t; levels = n + 1 } ∷ ts) ws
  read_each {l} {a} {n} {k} {m} {t} {w} {u} {vs} {ts} {us} {ws} h d r s = elim (cases_lt n limit) [
    | inl e ↦ one_read e (r (omega arith))
    | inr e ↦ inr (record { rest = record { token = t; levels = n + 1 } ∷ ts; fails = fails_each_deep (is_at-one l t (tokens_of ts) w h) e; within = all_within; opens = omega arith })
  ]
    where
      all_read : n < limit → Whole a (n + 1) u k ts us → Read (each l a) k vs m us ws → Read (each l a) n (u ∷ vs) m (record { token = t; levels = n + 1 } ∷ ts) ws
      all_read e x (inl y) = inl (record { finds = finds_each h e x.finds y.finds; within = one_within (omega arith) (within_both x.within y.within); levels = y.levels })
      all_read e x (inr y) = inr (record { rest = y.rest; fails = fails_each_more h e x.finds y.fails; within = one_within (omega arith) (within_both x.within y.within); opens = y.opens })

      one_read : n < limit → Read a (n + 1) u k ts us → Read (each l a) n (u ∷ vs) m (record { token = t; levels = n + 1 } ∷ ts) ws
      one_read e (inl x) = all_read e x (s x.levels)
      one_read e (inr x) = inr (record { rest = x.rest; fails = fails_each h e x.fails; within = one_within (omega arith) x.within; opens = x.opens })

  read_something : {k : Kind} {a : Phrase} {n m : ℕ} {t : LocatedToken} {w : Said k} {v : PhraseValue a} {ts us : List Marked} → says k t ≡ Some w → n ≤ limit → Read a n v m ts us → Read (perhaps k a) n (Some v) m (record { token = t; levels = n } ∷ ts) us
  read_something h l (inl s) = inl (record { finds = finds_something h s.finds; within = one_within l s.within; levels = s.levels })
  read_something h l (inr s) = inr (record { rest = s.rest; fails = fails_something h s.fails; within = one_within l s.within; opens = s.opens })

  read_quoted : {a : Phrase} {n m : ℕ} {v : Said string} {ts us : List Marked} → is_quoted (tokens_of ts) ≡ true → Read quoted n (v, tt) m ts us → Read (quoted_or a) n (inl v) m ts us
  read_quoted h (inl s) = inl (record { finds = finds_quoted h s.finds; within = s.within; levels = s.levels })
  read_quoted h (inr s) = inr (record { rest = s.rest; fails = fails_quoted h s.fails; within = s.within; opens = s.opens })

  read_unquoted : {a : Phrase} {n m : ℕ} {v : PhraseValue a} {ts us : List Marked} → is_quoted (tokens_of ts) ≡ false → Read a n v m ts us → Read (quoted_or a) n (inr v) m ts us
  read_unquoted h (inl s) = inl (record { finds = finds_unquoted h s.finds; within = s.within; levels = s.levels })
  read_unquoted h (inr s) = inr (record { rest = s.rest; fails = fails_unquoted h s.fails; within = s.within; opens = s.opens })

  pub read : {p : Phrase} {n m : ℕ} {v : PhraseValue p} {ts us : List Marked} → Spells form_grammar p n v m ts us → (cs : List Class) (end : Bool) → decided p cs end ≡ true → Follows cs end us → n ≤ limit → Read p n v m ts us
  read (by_token h) cs end d f l = read_token h l
  read (by_opener h) cs end d f l = read_opener h l
  read (by_both {a = a} {b = b} {us = us} {ws = ws} r s) cs end d f l =
      let e = cond_parts _ _ d in
      read_both (read r _ _ e.0 (follows_both (nullable b) end cs (first b) us ws (begins s) f) l) (λ k. read s cs end e.1 f k)
  read (by_first {a = a} {ts = ts} {us = us} r) cs end d f l =
      let e = cond_parts _ _ d in
      let e' = cond_parts _ _ (cond_parts _ _ (cond_parts _ _ e.1).1).1 in
      read_first (begins_by a ts us e.0 (begins r)) (read r cs end e'.0 f l)
  read (by_second {a = a} {b = b} {ts = ts} {us = us} r) cs end d f l =
      let e = cond_parts _ _ (cond_parts _ _ d).1 in
      let e' = cond_parts _ _ e.1 in
      read_second (apart-is_at (first b) (first a) (tokens_of ts) e'.0 (begins_by b ts us e.0 (begins r))) (read r cs end (cond_parts _ _ e'.1).1 f l)
  read (by_none {a = a} {ts = ts}) cs end d f l =
      inl (record { finds = finds_none (stops end cs (first a) ts (cond_parts _ _ (cond_parts _ _ d).1).0 f); within = all_within; levels = l })
  read (by_more {a = a} {ts = ts} {us = us} {ws = ws} r s) cs end d f l =
      let e = cond_parts _ _ d in
      let e' = cond_parts _ _ e.1 in
      read_more (begins_by a ts us e.0 (begins r)) (read r (first a ++ cs) end e'.1 (follows_more end cs (first a) us ws (begins s) f) l) (λ k. read s cs end d f k)
  read (by_absence {a = a} {ts = ts}) cs end d f l =
      inl (record { finds = finds_absence (stops end cs (first a) ts (cond_parts _ _ (cond_parts _ _ d).1).0 f); within = all_within; levels = l })
  read (by_presence {a = a} {ts = ts} {us = us} r) cs end d f l =
      let e = cond_parts _ _ d in
      read_presence (begins_by a ts us e.0 (begins r)) (read r cs end (cond_parts _ _ e.1).1 f l)
  read (by_level r) cs end d f l = read_level l (read r cs end d f l)
  read (by_rule {x = x} {us = us} r) cs end d f l =
      let e = cond_parts _ _ d in
      read_rule (read r (follow_of x) (end_of x) (decided-production x) (follows_rule end (end_of x) cs (follow_of x) us e.0 e.1 f) l)
  read (by_no_more h) cs end d f l = inl (record { finds = finds_no_more h; within = all_within; levels = l })
  read (by_each {l = q} {us = us} {ws = ws} h r s) cs end d f l =
      read_each h l (λ k. read r (classes_of q ++ cs) end d (follows_more end cs (classes_of q) us ws (begins s) f) k) (λ k. read s cs end d f k)
  read (by_nothing h) cs end d f l = inl (record { finds = finds_nothing h; within = all_within; levels = l })
  read (by_something h r) cs end d f l = read_something h l (read r cs end d f l)
  read (by_quoted r) cs end d f l = read_quoted (is_quoted-quoted r) (read r cs end refl f l)
  read (by_unquoted r) cs end d f l =
      let e = cond_parts _ _ d in
      let e' = cond_parts _ _ e.1 in
      read_unquoted (is_quoted-other r e.0 e'.0) (read r cs end e'.1 f l)
