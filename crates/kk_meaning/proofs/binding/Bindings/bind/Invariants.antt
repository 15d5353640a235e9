use Rattle.std.proofs.Common.{◌≡◌, ◌≤◌, ◌+◌, ◌-◌, drop, take, map, length, vec_len}
use Rattle.std.specs.Prelude.{vec_capacity}
use Rattle.kk_meaning.specs.View.{bound_view, environment_of, pushed}
use Rattle.kk_meaning.proofs.binding.Bindings.bind.Given as goal

abbrev pub invariant-loop-added : goal.invariant-loop-added
invariant-loop-added l = record {
  newest : l.newest ≤ vec_len l.self.links;
  longer : l.kept ≤ vec_len l.self.links;
  kept : take l.kept l.self.links.items ≡ take l.kept l.fn.self.links.items;
  room : vec_len l.self.links + (length l.bound - l.added-index) ≤ vec_capacity l.self.links;
  pushed : pushed (map bound_view (drop l.added-index l.bound)) (environment_of l.self.links.items l.newest) ≡ pushed (map bound_view l.bound) (environment_of l.fn.self.links.items l.environment);
}
