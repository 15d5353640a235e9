-- The forms that only tokens have change nothing but the tokens, which are kept.
use Rattle.std.proofs.Common.{◌≡◌, ℕ, Bool, true, false, List, [], ◌∷◌, length, Option, Some, None, arith, refl, sym, ap, ◌∙◌, subst}
use Rattle.std.specs.Prelude.{if◌then◌else◌}
use Rattle.kk_syntax.specs.Shapes.{is_among, without}
use Rattle.kk_source.specs.State.{Environment}
use Rattle.kk_source.specs.Actions.{Action, goes}
use Rattle.kk_counted.specs.Spending.{AreApart}
use Rattle.kk_counted.specs.TokenedCodes.{Tokened}
use Rattle.kk_counted.specs.Tokens.{Slot, spent, null, is_token, plain, Link, Tokens, blanked, released, gained, freed, moved, is_linked, unlinked, with_chain, hold_link, held, unheld}
use Rattle.kk_counted.specs.TokenStates.{TokenSetting, TokenJoin, TokenControl, TokenConfiguration}
use Rattle.kk_counted.specs.TokenMachine.{at_code, to_tokens, token_code_step}
use Rattle.kk_counted.specs.TokenSpending.{SpendsTokens}
use Rattle.kk_counted.specs.TokenKeeping.{links_of, chain_of, WaitTokens, IsJudged, Lists, ListsAfter, AreKeptByAt}
use Rattle.kk_counted.proofs.SlotMarks.{mark_here, released_room, by_null, by_cell}
use Rattle.kk_counted.proofs.CountChanges.{itself}
use Rattle.kk_counted.proofs.TokenChain.{frames_many, not_linked}
use Rattle.kk_counted.proofs.CellRequests.{pooled_chain}
use Rattle.kk_counted.proofs.TokenForms.{AreNow, Has, is_null, has_cell, unspent_has, nulled_now, spent_null_now, spent_now, gained_now}
use Rattle.kk_counted.proofs.TokenSteps.{lists_of, judged_now, now_of}

-- an action that leads to a rest of the code, with other tokens
pub record IsStill (cells : ℕ) (P : Lists → Type 0) (action : Action TokenConfiguration) (rest : Tokened)
    (environment : Environment) (joins : List TokenJoin) (from : TokenConfiguration) : Type 0 where
  pub tokens : Tokens
  pub is : action ≡ goes (record (at_code rest environment joins from) { tokens = tokens })
  pub kept : AreKeptByAt cells P (record from { tokens = tokens }) (TokenControl.running rest environment joins)

module _ (setting : TokenSetting) (environment : Environment) (joins : List TokenJoin) (from : TokenConfiguration) where
  still_by : (P : Lists → Type 0) (result : Option Tokens) (after : Tokens) (rest : Tokened) → result ≡ Some after
      → AreKeptByAt setting.cells P (record from { tokens = after }) (TokenControl.running rest environment joins)
      → IsStill setting.cells P (goes (to_tokens result from (at_code rest environment joins from))) rest environment joins from
  still_by P result after rest is kept =
      record { tokens = after; is = ap (λ r. goes (to_tokens r from (at_code rest environment joins from))) is; kept = kept }

  -- the slot's token where none is held
  kept_by : (P : Lists → Type 0) (left unspent : List ℕ) (older : List (List ℕ)) (rest : Tokened) (after : Tokens)
      → P (lists_of left unspent [] older) → SpendsTokens left unspent [] rest → WaitTokens left joins
      → AreNow setting.cells unspent older from.frames from.heap after
      → AreKeptByAt setting.cells P (record from { tokens = after }) (TokenControl.running rest environment joins)
  kept_by P left unspent older rest after next spends waits now = (
    lists_of left unspent [] older,
    (
      next,
      judged_now setting.cells left unspent older rest joins from.frames from.heap after
          spends waits now,
    ),
  )

  module _ (left unspent held_slots : List ℕ) (older : List (List ℕ)) where
    abbrev lists : Lists
    lists = lists_of left unspent held_slots older

    many : (code : Tokened) → IsJudged setting.cells left unspent held_slots older code joins from.frames from.heap from.tokens
        → length from.frames ≡ length older
    many code judged = frames_many from.tokens.slots older from.frames judged.waiting

    has_slot : (code : Tokened) (y : ℕ) → IsJudged setting.cells left unspent held_slots older code joins from.frames from.heap
        from.tokens → is_among unspent y ≡ true → Has (from.tokens.slots (length older) y)
    has_slot code y judged among = unspent_has (from.tokens.slots (length older) y) (judged.slots_are y ∙ among)

    free_one : (y : ℕ) (rest : Tokened) → IsJudged setting.cells left unspent held_slots older (Tokened.free y rest) joins
        from.frames from.heap from.tokens
        → IsStill setting.cells (ListsAfter (Tokened.free y rest) joins lists)
        (goes (to_tokens (freed (length from.frames) y from.tokens) from (at_code rest environment joins from))) rest environment
        joins from
    free_one y rest judged = by_has (has_slot (Tokened.free y rest) y judged judged.spends.1.0)
      where
        now : AreNow setting.cells unspent older from.frames from.heap from.tokens
        now =
            now_of setting.cells left unspent held_slots older (Tokened.free y rest) joins from.frames from.heap from.tokens
            judged.spends.0 judged

        by_has : Has (from.tokens.slots (length older) y)
            → IsStill setting.cells (ListsAfter (Tokened.free y rest) joins lists)
            (goes (to_tokens (freed (length from.frames) y from.tokens) from (at_code rest environment joins from))) rest
            environment joins from
        by_has (is_null is) =
            still_by (ListsAfter (Tokened.free y rest) joins lists) (freed (length from.frames) y from.tokens)
            (blanked (length older) y spent from.tokens) rest
            (ap (λ d. freed d y from.tokens) (many (Tokened.free y rest) judged)
            ∙ by_null setting.cells None (Some (blanked (length older) y spent from.tokens))
            (λ p. Some (released (length older) y p spent from.tokens)) (length older) y from.tokens is)
            (kept_by (ListsAfter (Tokened.free y rest) joins lists) left (without (y ∷ []) unspent) older rest
            (blanked (length older) y spent from.tokens)
            (ap (λ h. lists_of left (without (y ∷ []) unspent) h older) (sym judged.spends.0)) judged.spends.1.1
            judged.waits
            (spent_null_now setting.cells unspent older from.frames from.heap from.tokens now y is))
        by_has (has_cell p is) =
            still_by (ListsAfter (Tokened.free y rest) joins lists) (freed (length from.frames) y from.tokens)
            (released (length older) y p spent from.tokens) rest
            (ap (λ d. freed d y from.tokens) (many (Tokened.free y rest) judged)
            ∙ by_cell setting.cells None (Some (blanked (length older) y spent from.tokens))
            (λ p. Some (released (length older) y p spent from.tokens)) (length older) y p from.heap from.tokens now.are.pooled
            is)
            (kept_by (ListsAfter (Tokened.free y rest) joins lists) left (without (y ∷ []) unspent) older rest
            (released (length older) y p spent from.tokens)
            (ap (λ h. lists_of left (without (y ∷ []) unspent) h older) (sym judged.spends.0)) judged.spends.1.1
            judged.waits
            (spent_now setting.cells unspent older from.frames from.heap from.tokens now y p is))

    null_one : (y : ℕ) (rest : Tokened) → IsJudged setting.cells left unspent held_slots older (Tokened.null y rest) joins
        from.frames from.heap from.tokens
        → IsStill setting.cells (ListsAfter (Tokened.null y rest) joins lists)
        (goes (to_tokens (Some (blanked (length from.frames) y null from.tokens)) from (at_code rest environment joins from))) rest
        environment joins from
    null_one y rest judged =
        still_by (ListsAfter (Tokened.null y rest) joins lists) (Some (blanked (length from.frames) y null from.tokens))
        (blanked (length older) y null from.tokens) rest
        (ap (λ d. Some (blanked d y null from.tokens)) (many (Tokened.null y rest) judged))
        (kept_by (ListsAfter (Tokened.null y rest) joins lists) left (y ∷ unspent) older rest
        (blanked (length older) y null from.tokens) (ap (λ h. lists_of left (y ∷ unspent) h older) (sym judged.spends.0))
        judged.spends.1.1 judged.waits
        (nulled_now setting.cells unspent older from.frames from.heap from.tokens
        (now_of setting.cells left unspent held_slots older (Tokened.null y rest) joins from.frames from.heap from.tokens
        judged.spends.0 judged) y judged.spends.1.0))

    move_one : (to of : ℕ) (rest : Tokened) → IsJudged setting.cells left unspent held_slots older (Tokened.move to of rest) joins
        from.frames from.heap from.tokens
        → IsStill setting.cells (ListsAfter (Tokened.move to of rest) joins lists)
        (goes (to_tokens (moved (length from.frames) to of from.tokens) from (at_code rest environment joins from))) rest
        environment joins from
    move_one to of rest judged = by_has (has_slot (Tokened.move to of rest) of judged judged.spends.1.0)
      where
        now : AreNow setting.cells unspent older from.frames from.heap from.tokens
        now =
            now_of setting.cells left unspent held_slots older (Tokened.move to of rest) joins from.frames from.heap from.tokens
            judged.spends.0 judged

        nothing : Tokens
        nothing = blanked (length older) of spent from.tokens

        from_cell : ℕ → Tokens
        from_cell p = released (length older) of p spent from.tokens

        by_has : Has (from.tokens.slots (length older) of)
            → IsStill setting.cells (ListsAfter (Tokened.move to of rest) joins lists)
            (goes (to_tokens (moved (length from.frames) to of from.tokens) from (at_code rest environment joins from))) rest
            environment joins from
        by_has (is_null is) =
            still_by (ListsAfter (Tokened.move to of rest) joins lists) (moved (length from.frames) to of from.tokens)
            (blanked (length older) to null nothing) rest
            (ap (λ d. moved d to of from.tokens) (many (Tokened.move to of rest) judged)
            ∙ by_null setting.cells None (Some (blanked (length older) to null nothing))
            (λ p. Some (gained (length older) to p (from_cell p))) (length older) of from.tokens is)
            (kept_by (ListsAfter (Tokened.move to of rest) joins lists) left (to ∷ without (of ∷ []) unspent) older rest
            (blanked (length older) to null nothing)
            (ap (λ h. lists_of left (to ∷ without (of ∷ []) unspent) h older) (sym judged.spends.0)) judged.spends.1.1.1
            judged.waits
            (nulled_now setting.cells (without (of ∷ []) unspent) older from.frames from.heap nothing
            (spent_null_now setting.cells unspent older from.frames from.heap from.tokens now of is) to judged.spends.1.1.0))
        by_has (has_cell p is) =
            let mark = now.are.pooled.marks (length older) of p is in
            still_by (ListsAfter (Tokened.move to of rest) joins lists) (moved (length from.frames) to of from.tokens)
            (gained (length older) to p (from_cell p)) rest
            (ap (λ d. moved d to of from.tokens) (many (Tokened.move to of rest) judged)
            ∙ by_cell setting.cells None (Some (blanked (length older) to null nothing))
            (λ p. Some (gained (length older) to p (from_cell p))) (length older) of p from.heap from.tokens now.are.pooled is)
            (kept_by (ListsAfter (Tokened.move to of rest) joins lists) left (to ∷ without (of ∷ []) unspent) older rest
            (gained (length older) to p (from_cell p))
            (ap (λ h. lists_of left (to ∷ without (of ∷ []) unspent) h older) (sym judged.spends.0)) judged.spends.1.1.1
            judged.waits
            (gained_now setting.cells (without (of ∷ []) unspent) older from.frames from.heap (from_cell p)
            (spent_now setting.cells unspent older from.frames from.heap from.tokens now of p is) to p judged.spends.1.1.0
            (mark_here p plain from.tokens.marks) (now.are.pooled.uncounted (length older) of p mark)
            (now.are.pooled.there (length older) of p mark)
            (omega (
              arith,
              released_room setting.cells (length older) of p spent from.heap from.tokens is now.are.pooled,
              now.are.pooled.room,
            ))))

    -- the chain with and without the slot y
    abbrev row : ℕ → List ℕ → Slot → List Link
    row y ys slot =
        if is_token slot then record { frame = length older; slot = y } ∷ links_of (from.tokens.slots (length older)) (length older)
        ys (chain_of from.tokens.slots older)
        else links_of (from.tokens.slots (length older)) (length older) ys (chain_of from.tokens.slots older)

    rechained : (P : Lists → Type 0) (code rest : Tokened) (links : List Link) (ys : List ℕ)
        → IsJudged setting.cells left unspent held_slots older code joins from.frames from.heap from.tokens
        → P (lists_of left unspent ys older) → SpendsTokens left unspent ys rest → AreApart ys
        → links ≡ chain_of from.tokens.slots (ys ∷ older)
        → AreKeptByAt setting.cells P (record from { tokens = record from.tokens { chain = links } })
        (TokenControl.running rest environment joins)
    rechained P code rest links ys judged next spends apart is = (
      lists_of left unspent ys older,
      (
        next,
        record {
          spends = spends;
          waits = judged.waits;
          slots_are = judged.slots_are;
          apart = apart;
          waiting = judged.waiting;
          are =
              record {
                pooled = pooled_chain setting.cells from.heap from.tokens links judged.are.pooled;
                chain = is;
                beyond = judged.are.beyond;
              };
        },
      ),
    )

    hold_one : (y : ℕ) (rest : Tokened) → IsJudged setting.cells left unspent held_slots older (Tokened.hold y rest) joins
        from.frames from.heap from.tokens
        → IsStill setting.cells (ListsAfter (Tokened.hold y rest) joins lists)
        (goes (to_tokens (held (length from.frames) y from.tokens) from (at_code rest environment joins from))) rest environment
        joins from
    hold_one y rest judged = by_has (has_slot (Tokened.hold y rest) y judged judged.spends.0)
      where
        by_has : Has (from.tokens.slots (length older) y)
            → IsStill setting.cells (ListsAfter (Tokened.hold y rest) joins lists)
            (goes (to_tokens (held (length from.frames) y from.tokens) from (at_code rest environment joins from))) rest environment
            joins from
        by_has (is_null is) =
            still_by (ListsAfter (Tokened.hold y rest) joins lists) (held (length from.frames) y from.tokens)
            (record from.tokens { chain = from.tokens.chain }) rest
            (ap (λ d. held d y from.tokens) (many (Tokened.hold y rest) judged)
            ∙ by_null setting.cells None (Some from.tokens)
            (λ p. hold_link (length older) y from.tokens)
            (length older) y from.tokens is)
            (rechained (ListsAfter (Tokened.hold y rest) joins lists) (Tokened.hold y rest) rest from.tokens.chain (y ∷ held_slots)
            judged refl judged.spends.1.1 (judged.spends.1.0, judged.apart)
            (judged.are.chain ∙ sym (ap (row y held_slots) is)))
        by_has (has_cell p is) =
            still_by (ListsAfter (Tokened.hold y rest) joins lists) (held (length from.frames) y from.tokens)
            (record from.tokens { chain = record { frame = length older; slot = y } ∷ from.tokens.chain }) rest
            (ap (λ d. held d y from.tokens) (many (Tokened.hold y rest) judged)
            ∙ by_cell setting.cells None (Some from.tokens)
            (λ p. hold_link (length older) y from.tokens)
            (length older) y p from.heap from.tokens judged.are.pooled is
            ∙ ap (λ t. if t then None else Some (record from.tokens { chain = record { frame = length older; slot = y } ∷ from.tokens.chain }))
            (ap (is_linked (length older) y) judged.are.chain
            ∙ not_linked from.tokens.slots held_slots older y judged.spends.1.0))
            (rechained (ListsAfter (Tokened.hold y rest) joins lists) (Tokened.hold y rest) rest
            (record { frame = length older; slot = y } ∷ from.tokens.chain) (y ∷ held_slots) judged refl judged.spends.1.1
            (judged.spends.1.0, judged.apart)
            (ap (λ links. record { frame = length older; slot = y } ∷ links) judged.are.chain ∙ sym (ap (row y held_slots) is)))

    unhold_one : (y : ℕ) (rest : Tokened) → IsJudged setting.cells left unspent held_slots older (Tokened.unhold y rest) joins
        from.frames from.heap from.tokens
        → IsStill setting.cells (ListsAfter (Tokened.unhold y rest) joins lists)
        (goes (to_tokens (unheld (length from.frames) y from.tokens) from (at_code rest environment joins from))) rest environment
        joins from
    unhold_one y rest judged = by_has (has_slot (Tokened.unhold y rest) y judged judged.spends.1.1.0)
      where
        others : List ℕ
        others = judged.spends.0

        apart : AreApart (y ∷ others)
        apart = subst AreApart judged.spends.1.0 judged.apart

        chain : from.tokens.chain ≡ row y others (from.tokens.slots (length older) y)
        chain = judged.are.chain ∙ ap (λ h. chain_of from.tokens.slots (h ∷ older)) judged.spends.1.0

        by_has : Has (from.tokens.slots (length older) y)
            → IsStill setting.cells (ListsAfter (Tokened.unhold y rest) joins lists)
            (goes (to_tokens (unheld (length from.frames) y from.tokens) from (at_code rest environment joins from))) rest
            environment joins from
        by_has (is_null is) =
            still_by (ListsAfter (Tokened.unhold y rest) joins lists) (unheld (length from.frames) y from.tokens)
            (record from.tokens { chain = from.tokens.chain }) rest
            (ap (λ d. unheld d y from.tokens) (many (Tokened.unhold y rest) judged)
            ∙ by_null setting.cells None (Some from.tokens) (λ p. with_chain from.tokens (unlinked (length older) y from.tokens.chain))
            (length older) y from.tokens is)
            (rechained (ListsAfter (Tokened.unhold y rest) joins lists) (Tokened.unhold y rest) rest from.tokens.chain others judged
            (ap (λ h. lists_of left unspent h older) judged.spends.1.0) judged.spends.1.1.1 apart.1
            (chain ∙ ap (row y others) is))
        by_has (has_cell p is) =
            still_by (ListsAfter (Tokened.unhold y rest) joins lists) (unheld (length from.frames) y from.tokens)
            (record from.tokens { chain = links_of (from.tokens.slots (length older)) (length older) others (chain_of from.tokens.slots older) }) rest
            (ap (λ d. unheld d y from.tokens) (many (Tokened.unhold y rest) judged)
            ∙ by_cell setting.cells None (Some from.tokens) (λ p. with_chain from.tokens (unlinked (length older) y from.tokens.chain))
            (length older) y p from.heap from.tokens judged.are.pooled is
            ∙ (ap (λ links. with_chain from.tokens (unlinked (length older) y links)) (chain ∙ ap (row y others) is)
            ∙ rw (itself (length older)) (rw (itself y) refl)))
            (rechained (ListsAfter (Tokened.unhold y rest) joins lists) (Tokened.unhold y rest) rest
            (links_of (from.tokens.slots (length older)) (length older) others (chain_of from.tokens.slots older))
            others judged (ap (λ h. lists_of left unspent h older) judged.spends.1.0) judged.spends.1.1.1 apart.1 refl)

  pub free_still : (lists : Lists) (y : ℕ) (rest : Tokened)
      → IsJudged setting.cells lists.left lists.unspent lists.held lists.older (Tokened.free y rest) joins from.frames from.heap
      from.tokens
      → IsStill setting.cells (ListsAfter (Tokened.free y rest) joins lists)
      (token_code_step setting (Tokened.free y rest) environment joins from) rest environment joins from
  free_still lists y rest judged = free_one lists.left lists.unspent lists.held lists.older y rest judged

  pub null_still : (lists : Lists) (y : ℕ) (rest : Tokened)
      → IsJudged setting.cells lists.left lists.unspent lists.held lists.older (Tokened.null y rest) joins from.frames from.heap
      from.tokens
      → IsStill setting.cells (ListsAfter (Tokened.null y rest) joins lists)
      (token_code_step setting (Tokened.null y rest) environment joins from) rest environment joins from
  null_still lists y rest judged = null_one lists.left lists.unspent lists.held lists.older y rest judged

  pub move_still : (lists : Lists) (to of : ℕ) (rest : Tokened)
      → IsJudged setting.cells lists.left lists.unspent lists.held lists.older (Tokened.move to of rest) joins from.frames from.heap
      from.tokens
      → IsStill setting.cells (ListsAfter (Tokened.move to of rest) joins lists)
      (token_code_step setting (Tokened.move to of rest) environment joins from) rest environment joins from
  move_still lists to of rest judged = move_one lists.left lists.unspent lists.held lists.older to of rest judged

  pub hold_still : (lists : Lists) (y : ℕ) (rest : Tokened)
      → IsJudged setting.cells lists.left lists.unspent lists.held lists.older (Tokened.hold y rest) joins from.frames from.heap
      from.tokens
      → IsStill setting.cells (ListsAfter (Tokened.hold y rest) joins lists)
      (token_code_step setting (Tokened.hold y rest) environment joins from) rest environment joins from
  hold_still lists y rest judged = hold_one lists.left lists.unspent lists.held lists.older y rest judged

  pub unhold_still : (lists : Lists) (y : ℕ) (rest : Tokened)
      → IsJudged setting.cells lists.left lists.unspent lists.held lists.older (Tokened.unhold y rest) joins from.frames from.heap
      from.tokens
      → IsStill setting.cells (ListsAfter (Tokened.unhold y rest) joins lists)
      (token_code_step setting (Tokened.unhold y rest) environment joins from) rest environment joins from
  unhold_still lists y rest judged = unhold_one lists.left lists.unspent lists.held lists.older y rest judged

  -- a branch goes on by the way of its slot, and the lists stay
  way_still : (lists : Lists) (y : ℕ) (there absent : Tokened) (test : Bool)
      → IsJudged setting.cells lists.left lists.unspent lists.held lists.older (Tokened.if_token y there absent) joins from.frames
      from.heap from.tokens
      → SpendsTokens lists.left lists.unspent lists.held (if test then there else absent)
      → is_token (from.tokens.slots (length from.frames) y) ≡ test
      → IsStill setting.cells (ListsAfter (Tokened.if_token y there absent) joins lists)
      (token_code_step setting (Tokened.if_token y there absent) environment joins from) (if test then there else absent) environment
      joins from
  way_still lists y there absent test judged spends is =
      record {
        tokens = from.tokens;
        is = ap (λ b. goes (at_code (if b then there else absent) environment joins from)) is;
        kept = (
          lists,
          (
            refl,
            record {
              spends = spends;
              waits = judged.waits;
              slots_are = judged.slots_are;
              apart = judged.apart;
              waiting = judged.waiting;
              are = judged.are;
            },
          ),
        );
      }

  pub there_still : (lists : Lists) (y : ℕ) (there absent : Tokened)
      → IsJudged setting.cells lists.left lists.unspent lists.held lists.older (Tokened.if_token y there absent) joins from.frames
      from.heap from.tokens
      → is_token (from.tokens.slots (length from.frames) y) ≡ true
      → IsStill setting.cells (ListsAfter (Tokened.if_token y there absent) joins lists)
      (token_code_step setting (Tokened.if_token y there absent) environment joins from) there environment joins from
  there_still lists y there absent judged = way_still lists y there absent true judged judged.spends.1.1.0

  pub absent_still : (lists : Lists) (y : ℕ) (there absent : Tokened)
      → IsJudged setting.cells lists.left lists.unspent lists.held lists.older (Tokened.if_token y there absent) joins from.frames
      from.heap from.tokens
      → is_token (from.tokens.slots (length from.frames) y) ≡ false
      → IsStill setting.cells (ListsAfter (Tokened.if_token y there absent) joins lists)
      (token_code_step setting (Tokened.if_token y there absent) environment joins from) absent environment joins from
  absent_still lists y there absent judged = way_still lists y there absent false judged judged.spends.1.1.1
