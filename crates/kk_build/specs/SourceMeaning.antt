-- What a program means, by the store machine of the source, and the numbers with which its image tells each of its ends.
pub use Rattle.kk_source.specs.Ends.{exit_of}
pub use Rattle.kk_source.specs.Notes.{events_of}
pub use Rattle.kk_source.specs.Settings.{IsRun}
pub use Rattle.kk_source.specs.SourceAfter.{After, source_after, store_machine, first_state}
pub use Rattle.kk_source.specs.State.{Setting, End, ended, heap_full, stack_full}
