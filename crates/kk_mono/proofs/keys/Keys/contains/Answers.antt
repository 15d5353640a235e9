use Rattle.kk_mono.proofs.SearchKeys.{key_known}
use Rattle.kk_mono.proofs.keys.Keys.contains.Goals as goal

pub returns : goal.returns
returns c = key_known c.args.self.now.keys.keys c.args.key.now c.contains.result c.contains.ensures
