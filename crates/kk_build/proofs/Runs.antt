-- A program is run with one setting.
pub use Rattle.kk_source.proofs.Settings.{one_setting}
