-- Which words of the command line are right, and what they state. Nothing here is clap's.
use Rattle.std.specs.Prelude.{◌≡◌, ◌≢◌, ◌<◌, ◌≤◌, ℕ, zero, suc, List, [], ◌∷◌, ◌++◌, Option, Some, None, codes}
use Rattle.std.specs.List.{AllByRecursion}
use Rattle.std.specs.Option.{unwrap_or}
use Rattle.std.specs.Str.Parse.{IsNumeral, digits_value}
use Rattle.ae_cli.specs.declared.options.Mode.{Mode}
use Rattle.ae_cli.specs.declared.options.Mode.TheVariants.{Prove, Check, Demo}
use Rattle.ae_cli.specs.declared.options.Options.{Options}

abbrev pub Text : Type 0
Text = List ℕ

-- an option with its value: a number as it is written, or the place of a name in `first`, `last`, `mixed`
pub data Use : Type 0 where
  steps_bound : Text → Use
  gen_bound : Text → Use
  pick : ℕ → Use
  check : Use
  demo : Text → Use

-- ---- how it is written
abbrev pub name_of : Use → Text
name_of (steps_bound number) = codes "steps-bound"
name_of (gen_bound number) = codes "gen-bound"
name_of (pick which) = codes "pick"
name_of check = codes "check"
name_of (demo number) = codes "demo"

abbrev pub pick_name : ℕ → Text
pick_name zero = codes "first"
pick_name (suc zero) = codes "last"
pick_name (suc (suc n)) = codes "mixed"

abbrev pub value_of : Use → Option Text
value_of (steps_bound number) = Some number
value_of (gen_bound number) = Some number
value_of (pick which) = Some (pick_name which)
value_of check = None
value_of (demo number) = Some number

-- `--name`, `--name value` in two words, or `--name=value`
pub data IsWritten (u : Use) : List Text → Type 0 where
  alone : value_of u ≡ None → IsWritten u ((codes "--" ++ name_of u) ∷ [])
  apart : (value : Text) → value_of u ≡ Some value → IsWritten u ((codes "--" ++ name_of u) ∷ value ∷ [])
  joined : (value : Text) → value_of u ≡ Some value → IsWritten u ((codes "--" ++ name_of u ++ codes "=" ++ value) ∷ [])

-- one after another
abbrev pub AreWritten : List Use → List Text → Type 0
AreWritten [] words = words ≡ []
AreWritten (u ∷ us) words = (first : List Text) × (rest : List Text) × (words ≡ first ++ rest) × IsWritten u first × AreWritten us rest

-- ---- which values are in range
-- one digit or more, and a number from least to most
pub record IsNumberIn (least most : ℕ) (number : Text) : Type 0 where
  pub digits : IsNumeral 10 number
  pub at_least : least ≤ digits_value 10 number
  pub at_most : digits_value 10 number ≤ most

abbrev pub IsInRange : Use → Type 0
IsInRange (steps_bound number) = IsNumberIn 1 1000000 number
IsInRange (gen_bound number) = IsNumberIn 0 20 number
IsInRange (pick which) = which < 3
IsInRange check = Unit {0}
IsInRange (demo number) = IsNumberIn 1 10000 number

-- ---- which go together
-- what an option is about; checking and the program's own goals are two modes
pub data Topic : Type 0 where
  steps : Topic
  generations : Topic
  picks : Topic
  modes : Topic

abbrev pub topic_of : Use → Topic
topic_of (steps_bound number) = steps
topic_of (gen_bound number) = generations
topic_of (pick which) = picks
topic_of check = modes
topic_of (demo number) = modes

-- no two of them are about one thing
abbrev pub AllDifferent : List Use → Type 0
AllDifferent [] = Unit {0}
AllDifferent (u ∷ us) = AllByRecursion (λ v. topic_of u ≢ topic_of v) us × AllDifferent us

-- ---- what they state
abbrev pub steps_in : Use → Option ℕ
steps_in (steps_bound number) = Some (digits_value 10 number)
steps_in _ = None

abbrev pub generations_in : Use → Option ℕ
generations_in (gen_bound number) = Some (digits_value 10 number)
generations_in _ = None

abbrev pub picks_in : Use → Option ℕ
picks_in (pick which) = Some which
picks_in _ = None

abbrev pub mode_in : Use → Option Mode
mode_in check = Some Check
mode_in (demo number) = Some (Demo (digits_value 10 number))
mode_in _ = None

-- what the first of them that says something says, and the default where none does
abbrev pub said : {X : Type 0} → (Use → Option X) → X → List Use → X
said in_use default [] = default
said in_use default (u ∷ us) = unwrap_or (in_use u) (said in_use default us)

abbrev pub options_of : List Use → Options
options_of us = record {
  limits = record { steps = said steps_in 20000 us; generations = said generations_in 6 us };
  which = said picks_in 0 us;
  mode = said mode_in Prove us;
}

-- the words are right, and state these options
pub record AreRight (words : List Text) (options : Options) : Type 0 where
  pub uses : List Use
  pub written : AreWritten uses words
  pub in_range : AllByRecursion IsInRange uses
  pub different : AllDifferent uses
  pub stated : options ≡ options_of uses
