-- A line of words and what it asks for, and one that is no command. More stand in examples/, and are tried on the built program.
use Rattle.std.proofs.Common.{◌≡◌, [], ◌∷◌, codes, Some, None, refl}
use Rattle.clap.proofs.OnLiterals.{clap_on_literals}
use Rattle.kk_command.specs.Requests.{request_of, build, bench}

builds : request_of (codes "kokarv" ∷ codes "build" ∷ codes "-o" ∷ codes "b" ∷ codes "a.kk" ∷ codes "--cells=3" ∷ codes "--depth" ∷ codes "1" ∷ []) ≡ Some (build (codes "a.kk") (codes "b") 3 1)
unfolding clap_on_literals
builds = refl

no_help : request_of (codes "kokarv" ∷ codes "--help" ∷ []) ≡ None
unfolding clap_on_literals
no_help = refl

benches : request_of (codes "kokarv" ∷ codes "bench" ∷ codes "4294967295" ∷ codes "--steps" ∷ codes "7" ∷ codes "100" ∷ [])
    ≡ Some (bench 4294967295 100 65536 4096 7)
unfolding clap_on_literals
benches = refl

no_greater_size : request_of (codes "kokarv" ∷ codes "bench" ∷ codes "1" ∷ codes "101" ∷ []) ≡ None
unfolding clap_on_literals
no_greater_size = refl
