-- What follows from the contract of a run alone. That several runs are one run is `HasRun-then`, of RunComposition.
use Rattle.std.proofs.Common.{◌≡◌, ◌≢◌, ℕ, ◌-◌, List, [], ◌++◌, false, Option, Some, None, option_map, refl, sym, ap, subst, ◌∙◌, append-nil}
use Rattle.kk_base.specs.Memory.{Part}
use Rattle.kk_base.specs.Source.{SourceState}
use Rattle.kk_base.specs.Sink.{SinkState}
use Rattle.kk_base.specs.Trace.{Event, TakesFrom, output_of}
use Rattle.rv_isa.specs.Processor.{going, Progress, goes, start}
use Rattle.rv_isa.specs.InstructionSet.{go_on}
use Rattle.rv_isa.specs.Execution.{run, image_after}
use Rattle.rv_sim.specs.Simulation.{Simulation, progress_of}
use Rattle.rv_sim.specs.declared.halt.Halt.{Halt}
use Rattle.rv_sim.specs.declared.halt.Halt.TheVariants.{Exit, StepsSpent, Trap, InputFault, OutputFault}
use Rattle.rv_sim.specs.Devices.{halt_of, ending_at, is_fault, length_of, GivesContent, DeviceFails, HasRun}
use Rattle.rv_sim.proofs.RunComposition.{HasRun-stays}

told : (answer : Halt) → ending_at answer ≢ going → answer ≡ halt_of (ending_at answer)
told (Exit n) ended = refl
told StepsSpent ended = absurd (ended refl)
told (Trap c p w) ended = refl
told InputFault ended = absurd (ended refl)
told OutputFault ended = absurd (ended refl)

uncut : (answer : Halt) (cut : List ℕ) (s : Simulation) → ending_at answer ≢ going → DeviceFails answer cut s → cut ≡ []
uncut (Exit n) cut s ended fails = fails
uncut StepsSpent cut s ended fails = fails
uncut (Trap c p w) cut s ended fails = fails
uncut InputFault cut s ended fails = absurd (ended refl)
uncut OutputFault cut s ended fails = absurd (ended refl)

gives-nothing : (l l' : Option (List ℕ)) → GivesContent [] l l' → l' ≡ l
gives-nothing None None given = refl
gives-nothing (Some xs) (Some ys) given = ap Some (sym given)
gives-nothing None (Some ys) given = absurd given
gives-nothing (Some xs) None given = absurd given

holds-the-same : (h : Option (List ℕ)) → option_map (λ before. before ++ ([] ++ [])) h ≡ h
holds-the-same None = refl
holds-the-same (Some xs) = ap Some (append-nil xs)

-- a machine that had ended answers its end again: it is as it was, and so are the devices
pub HasRun-again : (answer : Halt) (steps : ℕ) (old new : Simulation) (l l' : SourceState) (h h' : SinkState) → HasRun answer steps old new l l' h h' → old.ending ≢ going
    → (answer ≡ halt_of old.ending) × ((left : List ℕ) (trace : List Event) → progress_of new left trace ≡ progress_of old left trace) × (l'.left ≡ l.left) × (h'.held ≡ h.held)
HasRun-again answer steps old new l l' h h' ran ended =
    let same = HasRun-stays answer steps old new l l' h h' ran ended in
    let ending : ending_at answer ≡ old.ending = sym ran.ending ∙ ap (λ (a : Progress). a.ending) (same [] []) in
    let still : ending_at answer ≢ going = λ is. ended (sym ending ∙ is) in
    let none = ran.stays ended in (
      told answer still ∙ ap halt_of ending,
      same,
      gives-nothing l.left l'.left (subst (λ (es : List Event). GivesContent es l.left l'.left) none ran.given.content),
      ran.held
          ∙ ap (λ (es : List Event). option_map (λ before. before ++ (output_of es ++ ran.cut)) h.held) none
          ∙ ap (λ (cut : List ℕ). option_map (λ before. before ++ ([] ++ cut)) h.held) (uncut answer ran.cut new still ran.fails)
          ∙ holds-the-same h.held,
    )

length-whole : (answer : Halt) (steps executed : ℕ) → is_fault answer ≡ false → length_of answer steps executed ≡ steps
length-whole (Exit n) steps executed sound = refl
length-whole StepsSpent steps executed sound = refl
length-whole (Trap c p w) steps executed sound = refl
length-whole InputFault steps executed sound = cc
length-whole OutputFault steps executed sound = cc

-- a machine at the start of an image comes to what the image comes to, on each input that the events can have taken
pub HasRun-image : (answer : Halt) (steps : ℕ) (old new : Simulation) (l l' : SourceState) (h h' : SinkState) (parts : List Part) (entry : ℕ)
    → ((input : List ℕ) → progress_of old input [] ≡ goes (start parts entry input)) → (ran : HasRun answer steps old new l l' h h') → is_fault answer ≡ false
    → (input rest : List ℕ) → TakesFrom ran.events input rest → image_after parts entry input steps ≡ progress_of new rest ran.events
HasRun-image answer steps old new l l' h h' parts entry starts ran sound input rest takes =
    ap (λ (a : Progress). go_on a (run steps)) (sym (starts input))
    ∙ ap (λ n. go_on (progress_of old input []) (run n)) (sym (length-whole answer steps (new.executed - old.executed) sound))
    ∙ ran.comes input rest [] takes
