-- The examples, computed.
use Rattle.std.proofs.Common.{refl, [], ◌∷◌, codes}
use Rattle.clap.proofs.OnLiterals.{clap_on_literals}
use Rattle.ae_cli.specs.declared.options.Mode.TheVariants.{Prove, Check, Demo}
use Rattle.ae_cli.specs.Examples.{IsRefusedByClap, SomeWords, StateNothing, some_options}
use Rattle.ae_cli.specs.Program.{States}

none : States [] (some_options 20000 6 0 Prove)
unfolding clap_on_literals
none = record { taken = refl; say = refl }

steps : States (codes "--steps-bound" ∷ codes "5" ∷ []) (some_options 5 6 0 Prove)
unfolding clap_on_literals
steps = record { taken = refl; say = refl }

steps_joined : States (codes "--steps-bound=1000000" ∷ codes "--gen-bound=0" ∷ []) (some_options 1000000 0 0 Prove)
unfolding clap_on_literals
steps_joined = record { taken = refl; say = refl }

last : States (codes "--pick" ∷ codes "last" ∷ []) (some_options 20000 6 1 Prove)
unfolding clap_on_literals
last = record { taken = refl; say = refl }

check : States (codes "--check" ∷ []) (some_options 20000 6 0 Check)
unfolding clap_on_literals
check = record { taken = refl; say = refl }

demo : States (codes "--demo" ∷ codes "10" ∷ codes "--pick=mixed" ∷ []) (some_options 20000 6 2 (Demo 10))
unfolding clap_on_literals
demo = record { taken = refl; say = refl }

other_pick : StateNothing (codes "--pick" ∷ codes "best" ∷ [])
unfolding clap_on_literals
other_pick = record { taken = refl; none = refl }

both : StateNothing (codes "--check" ∷ codes "--demo" ∷ codes "1" ∷ [])
unfolding clap_on_literals
both = record { taken = refl; none = refl }

no_steps : IsRefusedByClap (codes "--steps-bound" ∷ codes "0" ∷ [])
unfolding clap_on_literals
no_steps = λ e. cc

many_generations : IsRefusedByClap (codes "--gen-bound=21" ∷ [])
unfolding clap_on_literals
many_generations = λ e. cc

twice : IsRefusedByClap (codes "--check" ∷ codes "--check" ∷ [])
unfolding clap_on_literals
twice = λ e. cc

help : IsRefusedByClap (codes "--help" ∷ [])
unfolding clap_on_literals
help = λ e. cc

file : IsRefusedByClap (codes "problem.ae" ∷ [])
unfolding clap_on_literals
file = λ e. cc

pub some_words : SomeWords
some_words = record {
  none = none;
  steps = steps;
  steps_joined = steps_joined;
  last = last;
  check = check;
  demo = demo;
  other_pick = other_pick;
  both = both;
  no_steps = no_steps;
  many_generations = many_generations;
  twice = twice;
  help = help;
  file = file;
}
