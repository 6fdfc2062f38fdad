-- Some words with what they state.
use Rattle.std.specs.Prelude.{ℕ, List, [], ◌∷◌, ◌≡◌, ◌≢◌, None, codes}
use Rattle.clap.specs.Words.{Text, fault_of, matches_of}
use Rattle.ae_cli.specs.declared.options.Mode.{Mode}
use Rattle.ae_cli.specs.declared.options.Mode.TheVariants.{Prove, Check, Demo}
use Rattle.ae_cli.specs.declared.options.Options.{Options}
use Rattle.ae_cli.specs.Program.{States, program, stated}

abbrev pub some_options : ℕ → ℕ → ℕ → Mode → Options
some_options steps generations which mode = record { limits = record { steps = steps; generations = generations }; which = which; mode = mode }

-- clap takes the words, but one of their values, or two of them together, are wrong
pub record StateNothing (words : List Text) : Type 0 where
  pub taken : fault_of program words ≡ []
  pub none : stated (matches_of program words) ≡ None

abbrev pub IsRefusedByClap : List Text → Type 0
IsRefusedByClap words = fault_of program words ≢ []

pub record SomeWords : Type 0 where
  pub none : States [] (some_options 20000 6 0 Prove)
  pub steps : States (codes "--steps-bound" ∷ codes "5" ∷ []) (some_options 5 6 0 Prove)
  pub steps_joined : States (codes "--steps-bound=1000000" ∷ codes "--gen-bound=0" ∷ []) (some_options 1000000 0 0 Prove)
  pub last : States (codes "--pick" ∷ codes "last" ∷ []) (some_options 20000 6 1 Prove)
  pub check : States (codes "--check" ∷ []) (some_options 20000 6 0 Check)
  pub demo : States (codes "--demo" ∷ codes "10" ∷ codes "--pick=mixed" ∷ []) (some_options 20000 6 2 (Demo 10))
  pub other_pick : StateNothing (codes "--pick" ∷ codes "best" ∷ [])
  pub both : StateNothing (codes "--check" ∷ codes "--demo" ∷ codes "1" ∷ [])
  pub no_steps : IsRefusedByClap (codes "--steps-bound" ∷ codes "0" ∷ [])
  pub many_generations : IsRefusedByClap (codes "--gen-bound=21" ∷ [])
  pub twice : IsRefusedByClap (codes "--check" ∷ codes "--check" ∷ [])
  pub help : IsRefusedByClap (codes "--help" ∷ [])
  pub file : IsRefusedByClap (codes "problem.ae" ∷ [])
