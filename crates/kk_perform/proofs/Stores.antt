-- A store over two calls, of which the first kept its files.
use Rattle.std.proofs.Common.{ℕ, List, true, false, Option, Some, None, refl, ◌∙◌, subst}
use Rattle.kk_base.specs.Faults.{Counts, Rises}
use Rattle.kk_base.specs.Store.{Files, StoreState, SameFiles, SameOthers, HasFile, Remembers}
use Rattle.kk_base.specs.declared.outside.StoreCall.{StoreCall}
use Rattle.kk_base.specs.declared.outside.StoreCall.TheVariants.{Writing}
use Rattle.kk_perform.specs.Outside.{KeepsFiles, FailsToWrite, WritesAlone}

pub same_files : (files : Option Files) → SameFiles files files
same_files None = tt
same_files (Some files) = λ name. refl

same_twice : (a b c : Option Files) → SameFiles a b → SameFiles b c → SameFiles a c
same_twice None None None h g = tt
same_twice None None (Some c) h g = absurd g
same_twice None (Some b) c h g = absurd h
same_twice (Some a) None c h g = absurd h
same_twice (Some a) (Some b) None h g = absurd g
same_twice (Some a) (Some b) (Some c) h g = λ name. g name ∙ h name

same_then_others : (name : List ℕ) (a b c : Option Files) → SameFiles a b → SameOthers name b c → SameOthers name a c
same_then_others name None None None h g = tt
same_then_others name None None (Some c) h g = absurd g
same_then_others name None (Some b) c h g = absurd h
same_then_others name (Some a) None c h g = absurd h
same_then_others name (Some a) (Some b) None h g = absurd g
same_then_others name (Some a) (Some b) (Some c) h g = λ other apart. g other apart ∙ h other

module _ (call : StoreCall) (first second third : StoreState) (kept : KeepsFiles first second) where
  pub then_kept : SameFiles second.files third.files → Counts false second.faults third.faults → Remembers false call second.last_failed third.last_failed → KeepsFiles first third
  then_kept same counts remembers = record {
    files = same_twice first.files second.files third.files kept.files same;
    last_failed = remembers.stays refl ∙ kept.last_failed;
    faults = counts.rises ∙ kept.faults;
  }

  pub then_written : (name bytes : List ℕ) → SameOthers name second.files third.files × HasFile name bytes third.files → Counts false second.faults third.faults → Remembers false call second.last_failed third.last_failed → WritesAlone name bytes first third
  then_written name bytes wrote counts remembers = record {
    written = wrote.1;
    others = same_then_others name first.files second.files third.files kept.files wrote.0;
    last_failed = remembers.stays refl ∙ kept.last_failed;
    faults = counts.rises ∙ kept.faults;
  }

pub then_unwritten : (name : List ℕ) (first second third : StoreState) → KeepsFiles first second → SameOthers name second.files third.files → Counts true second.faults third.faults → Remembers true (Writing name) second.last_failed third.last_failed → FailsToWrite name first third
then_unwritten name first second third kept others counts remembers = record {
  fails = record { last_failed = remembers.told refl; faults = let P : ℕ → Type 0 = λ n. Rises true n third.faults in subst P kept.faults counts.rises };
  others = same_then_others name first.files second.files third.files kept.files others;
}
