use Rattle.rv_cells.proofs.Requests.{served, from_held, is_full}
use Rattle.rv_cells.proofs.law.requests_find_free_cells.Goals as goal

pub returns : goal.returns
returns c = record {
  served = λ pool layout address owners heap cells aligned follows top room. served follows aligned top room;
  from_held = λ pool layout address owners heap cells aligned follows at words is full. from_held follows aligned at words is full;
  full = λ pool layout address owners heap cells aligned follows full. is_full follows aligned full;
}
