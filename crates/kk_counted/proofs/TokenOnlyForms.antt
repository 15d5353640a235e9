-- The forms that only tokens have are not seen by the counted machine.
use Rattle.std.proofs.Common.{◌≡◌, Bool, true, false, List, map, length, refl, ap}
use Rattle.kk_source.specs.State.{Environment}
use Rattle.kk_counted.specs.CountedCodes.{Counted}
use Rattle.kk_counted.specs.CountedStates.{CountedControl, CountedConfiguration}
use Rattle.kk_counted.specs.TokenedCodes.{Tokened}
use Rattle.kk_counted.specs.BareForms.{bare}
use Rattle.kk_counted.specs.Tokens.{is_token}
use Rattle.kk_counted.specs.TokenStates.{TokenSetting, TokenJoin, TokenConfiguration, bare_join, bare_frame, bare_configuration}
use Rattle.kk_counted.specs.TokenMachine.{at_code, token_code_step}
use Rattle.kk_counted.specs.TokenKeeping.{IsJudged, Lists, ListsAfter}
use Rattle.kk_counted.specs.TokenRuns.{is_quiet, IsUnseen}
use Rattle.kk_counted.proofs.StillForms.{IsStill, free_still, null_still, move_still, hold_still, unhold_still, there_still, absent_still}

module _ (setting : TokenSetting) (lists : Lists) (environment : Environment) (joins : List TokenJoin) (from : TokenConfiguration)
  where
    abbrev bare_at : Counted → CountedConfiguration
    bare_at code =
        record {
          control = CountedControl.running code environment (map bare_join joins);
          frames = map bare_frame from.frames;
          heap = from.heap;
        }

    unseen_by : (code rest : Tokened) → bare rest ≡ bare code
        → IsStill setting.cells (ListsAfter code joins lists) (token_code_step setting code environment joins from) rest environment
        joins from
        → IsUnseen setting.cells (ListsAfter code joins lists) (token_code_step setting code environment joins from)
        (bare_configuration (at_code code environment joins from))
    unseen_by code rest same still =
        record {
          to = record (at_code rest environment joins from) { tokens = still.tokens };
          is = still.is;
          alike = ap bare_at same;
          keeps = still.kept;
        }

    pub unseen : (code : Tokened) → IsJudged setting.cells lists.left lists.unspent lists.held lists.older code joins from.frames
        from.heap from.tokens → is_quiet code ≡ true
        → IsUnseen setting.cells (ListsAfter code joins lists) (token_code_step setting code environment joins from)
        (bare_configuration (at_code code environment joins from))
    unseen (Tokened.free y rest) judged quiet =
        unseen_by (Tokened.free y rest) rest refl (free_still setting environment joins from lists y rest judged)
    unseen (Tokened.null y rest) judged quiet =
        unseen_by (Tokened.null y rest) rest refl (null_still setting environment joins from lists y rest judged)
    unseen (Tokened.move to of rest) judged quiet =
        unseen_by (Tokened.move to of rest) rest refl (move_still setting environment joins from lists to of rest judged)
    unseen (Tokened.hold y rest) judged quiet =
        unseen_by (Tokened.hold y rest) rest refl (hold_still setting environment joins from lists y rest judged)
    unseen (Tokened.unhold y rest) judged quiet =
        unseen_by (Tokened.unhold y rest) rest refl (unhold_still setting environment joins from lists y rest judged)
    unseen (Tokened.if_token y there absent) judged quiet = by_test (is_token (from.tokens.slots (length from.frames) y)) refl
      where
        by_test : (t : Bool) → is_token (from.tokens.slots (length from.frames) y) ≡ t
            → IsUnseen setting.cells (ListsAfter (Tokened.if_token y there absent) joins lists)
            (token_code_step setting (Tokened.if_token y there absent) environment joins from)
            (bare_configuration (at_code (Tokened.if_token y there absent) environment joins from))
        by_test true test =
            unseen_by (Tokened.if_token y there absent) there refl
            (there_still setting environment joins from lists y there absent judged test)
        by_test false test =
            unseen_by (Tokened.if_token y there absent) absent judged.spends.1.0
            (absent_still setting environment joins from lists y there absent judged test)
    unseen (Tokened.give x) judged quiet = absurd (cc)
    unseen (Tokened.tail_call f arguments) judged quiet = absurd (cc)
    unseen (Tokened.case x decisions arms) judged quiet = absurd (cc)
    unseen (Tokened.compute x form arguments others rest) judged quiet = absurd (cc)
    unseen (Tokened.inside x block rest) judged quiet = absurd (cc)
    unseen (Tokened.read x c fields rest) judged quiet = absurd (cc)
    unseen (Tokened.open_cell x c fields used y rest) judged quiet = absurd (cc)
    unseen (Tokened.if_unique x c fields used y rest) judged quiet = absurd (cc)
    unseen (Tokened.dup x rest) judged quiet = absurd (cc)
    unseen (Tokened.drop x rest) judged quiet = absurd (cc)
    unseen (Tokened.fill x y c first arguments left others rest) judged quiet = absurd (cc)
