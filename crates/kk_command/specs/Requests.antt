-- What the program is asked for, and the words that ask for it: those that clap takes for the line below, whose numbers are in their ranges.
use Rattle.std.specs.Prelude.{ℕ, ◌^◌, ◌-◌, List, Bool, true, false, if◌then◌else◌, Option, Some, None, option_and_then, codes, bytes_eq}
use Rattle.clap.specs.Words.{App, Row, Rule, Text, fault_of, first_of, new_app, new_rule, subcommand_of, with_rule, with_subcommand}
use Rattle.clap.specs.Walk.{is_empty}
use Rattle.clap.specs.declared.builder.action.ArgAction.TheVariants.{SetTrue}
use Rattle.kk_base.specs.Sizes.{greatest_cells, greatest_depth}
use Rattle.kk_number.specs.Numbers.{number_in}
use Rattle.kk_command.specs.ProgramSizes.{least_size, greatest_size}

-- what the program is asked for: to judge the text in a file; to build its image into another; to build its image and run it, and
-- perhaps to tell what the run took; to run the image in a file; to run the text in a file by its definition; to build the image of
-- a program that is generated, to run it and to tell what that took
pub data Request : Type 0 where
  check : (file : List ℕ) → Request
  build : (file out : List ℕ) (cells depth : ℕ) → Request
  run : (file : List ℕ) (cells depth steps : ℕ) (stats : Bool) → Request
  sim : (image : List ℕ) (steps : ℕ) → Request
  eval : (file : List ℕ) (cells depth steps : ℕ) → Request
  bench : (seed size cells depth steps : ℕ) → Request

-- the file that it reads; none where the text is generated
abbrev pub file_of : Request → Option Text
file_of (check file) = Some file
file_of (build file out cells depth) = Some file
file_of (run file cells depth steps stats) = Some file
file_of (sim image steps) = Some image
file_of (eval file cells depth steps) = Some file
file_of (bench seed size cells depth steps) = None

-- ---- the line, for clap

-- an argument that has to be there; one that may be given as `--name VALUE`; and a flag, which may be given as `--name`
abbrev pub required : Text → Rule
required id = record (new_rule id) { required = true }

abbrev pub optional : Text → Rule
optional name = record (new_rule name) { long = Some name }

abbrev pub flag : Text → Rule
flag name = record (new_rule name) { long = Some name; action = Some SetTrue }

-- FILE, IMAGE, SEED, SIZE and `-o OUT`; then the commands, with `--cells N`, `--depth N`, `--steps N` and `--stats`
abbrev pub file_rule : Rule
file_rule = required (codes "file")

abbrev pub image_rule : Rule
image_rule = required (codes "image")

abbrev pub seed_rule : Rule
seed_rule = required (codes "seed")

abbrev pub size_rule : Rule
size_rule = required (codes "size")

abbrev pub steps_rule : Rule
steps_rule = optional (codes "steps")

abbrev pub out_rule : Rule
out_rule = record (required (codes "out")) { short = Some 111 }

abbrev pub check_app : App
check_app = with_rule (new_app (codes "check")) file_rule

abbrev pub with_sizes : App → App
with_sizes app = with_rule (with_rule app (optional (codes "cells"))) (optional (codes "depth"))

abbrev pub build_app : App
build_app = with_sizes (with_rule (with_rule (new_app (codes "build")) file_rule) out_rule)

abbrev pub run_app : App
run_app = with_rule (with_rule (with_sizes (with_rule (new_app (codes "run")) file_rule)) steps_rule) (flag (codes "stats"))

abbrev pub sim_app : App
sim_app = with_rule (with_rule (new_app (codes "sim")) image_rule) steps_rule

abbrev pub eval_app : App
eval_app = with_rule (with_sizes (with_rule (new_app (codes "eval")) file_rule)) steps_rule

abbrev pub bench_app : App
bench_app = with_rule (with_sizes (with_rule (with_rule (new_app (codes "bench")) seed_rule) size_rule)) steps_rule

-- the program, without help or version; one of its commands has to be there
abbrev pub bare_app : App
bare_app =
    let app = new_app (codes "kokarv") in
    record app { top = record app.top { disable_help_flag = true; disable_help_subcommand = true; subcommand_required = true } }

-- with the commands that run a file
abbrev pub with_run_commands : App → App
with_run_commands app = with_subcommand (with_subcommand (with_subcommand app run_app.top) sim_app.top) eval_app.top

abbrev pub line_app : App
line_app =
    with_subcommand (with_run_commands (with_subcommand (with_subcommand bare_app check_app.top) build_app.top)) bench_app.top

-- ---- the numbers

-- the value of an option: of its text where it was given, or else its default
abbrev pub option_in : ℕ → ℕ → ℕ → Option Text → Option ℕ
option_in default least greatest None = Some default
option_in default least greatest (Some text) = number_in least greatest text

abbrev pub cells_in : List Row → Option ℕ
cells_in rows = option_in 65536 0 greatest_cells (first_of (codes "cells") rows)

abbrev pub depth_in : List Row → Option ℕ
depth_in rows = option_in 4096 1 greatest_depth (first_of (codes "depth") rows)

abbrev pub steps_in : List Row → Option ℕ
steps_in rows = option_in 1000000000 0 (2 ^ 63 - 1) (first_of (codes "steps") rows)

-- whether a flag is there: clap gives it the text `true` where it was given, or else `false`
abbrev pub is_true : Option Text → Bool
is_true None = false
is_true (Some text) = bytes_eq text (codes "true")

abbrev pub stats_in : List Row → Bool
stats_in rows = is_true (first_of (codes "stats") rows)

-- ---- what the words ask for

infixl 10 ◌>>=◌
abbrev pub ◌>>=◌ : {A B : Type 0} → Option A → (A → Option B) → Option B
o >>= f = option_and_then f o

abbrev pub check_in : List Row → Option Request
check_in rows = do
  file ← first_of (codes "file") rows
  Some (check file)

abbrev pub build_in : List Row → Option Request
build_in rows = do
  file ← first_of (codes "file") rows
  out ← first_of (codes "out") rows
  cells ← cells_in rows
  depth ← depth_in rows
  Some (build file out cells depth)

abbrev pub run_in : List Row → Option Request
run_in rows = do
  file ← first_of (codes "file") rows
  cells ← cells_in rows
  depth ← depth_in rows
  steps ← steps_in rows
  Some (run file cells depth steps (stats_in rows))

abbrev pub sim_in : List Row → Option Request
sim_in rows = do
  image ← first_of (codes "image") rows
  steps ← steps_in rows
  Some (sim image steps)

abbrev pub eval_in : List Row → Option Request
eval_in rows = do
  file ← first_of (codes "file") rows
  cells ← cells_in rows
  depth ← depth_in rows
  steps ← steps_in rows
  Some (eval file cells depth steps)

abbrev pub seed_in : List Row → Option ℕ
seed_in rows = do
  seed ← first_of (codes "seed") rows
  number_in 0 (2 ^ 32 - 1) seed

abbrev pub size_in : List Row → Option ℕ
size_in rows = do
  size ← first_of (codes "size") rows
  number_in least_size greatest_size size

abbrev pub bench_in : List Row → Option Request
bench_in rows = do
  seed ← seed_in rows
  size ← size_in rows
  cells ← cells_in rows
  depth ← depth_in rows
  steps ← steps_in rows
  Some (bench seed size cells depth steps)

-- what a command of this name asks for, by the matches of its arguments
abbrev pub request_named : Text → List Row → Option Request
request_named name rows =
    if bytes_eq name (codes "check") then check_in rows
    else if bytes_eq name (codes "build") then build_in rows
    else if bytes_eq name (codes "run") then run_in rows
    else if bytes_eq name (codes "sim") then sim_in rows
    else if bytes_eq name (codes "eval") then eval_in rows
    else if bytes_eq name (codes "bench") then bench_in rows
    else None

abbrev pub entered_request : Option (Text × List Row) → Option Request
entered_request None = None
entered_request (Some entered) = request_named entered.0 entered.1

-- what the words of a line ask for, of which the first is the program's name
abbrev pub request_of : List Text → Option Request
request_of words = if is_empty (fault_of line_app words) then entered_request (subcommand_of line_app words) else None
