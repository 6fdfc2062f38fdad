-- The program's options, as the rules by which clap reads words, and what their values state.
use Rattle.std.specs.Prelude.{◌≡◌, ◌≢◌, ◌⊎◌, ℕ, ◌^◌, ◌&&◌, Bool, true, false, cond, nat_lt, List, [], Option, Some, None, codes}
use Rattle.std.specs.Str.{bytes_eq}
use Rattle.std.specs.Str.Parse.{digits_value, without_leading_plus}
use Rattle.ae_base.specs.Options.{◌>>=◌, when}
use Rattle.clap.specs.ValueTests.{is_numeral}
use Rattle.clap.specs.Words.{App, Row, Rule, Text, fault_of, first_of, matches_of, new_app, new_rule, one_of, with_rule}
use Rattle.clap.specs.declared.builder.action.ArgAction.TheVariants.{Set, SetTrue}
use Rattle.clap.specs.declared.builder.value_parser.ValueParser.TheVariants.{Unsigned}
use Rattle.ae_cli.specs.declared.options.Mode.{Mode}
use Rattle.ae_cli.specs.declared.options.Mode.TheVariants.{Prove, Check, Demo}
use Rattle.ae_cli.specs.declared.options.Options.{Options}

-- ---- the options
-- an option of a number from least to most
abbrev pub numbered : Text → ℕ → ℕ → Rule
numbered name least most = record (new_rule name) { long = Some name; action = Some Set; parser = Some (Unsigned least most) }

abbrev pub named : Text → Rule
named name = record (new_rule name) { long = Some name; action = Some Set }

abbrev pub flag : Text → Rule
flag name = record (new_rule name) { long = Some name; action = Some SetTrue }

-- the words don't begin with the program's name
abbrev pub nameless : App → App
nameless a = record a { top = record (a.top) { no_binary_name = true } }

abbrev pub program : App
program =
    with_rule (with_rule (with_rule (with_rule (with_rule (nameless (new_app (codes "altac"))) (numbered (codes "steps-bound") 1 1000000)) (numbered (codes "gen-bound") 0 20))
    (named (codes "pick"))) (flag (codes "check"))) (numbered (codes "demo") 1 10000)

-- ---- what values state
-- the number of decimal digits after an optional plus sign, where it is below 2 ^ bits
abbrev pub number_in : ℕ → Text → Option ℕ
number_in bits text =
    when (is_numeral (without_leading_plus text) && nat_lt (digits_value 10 (without_leading_plus text)) (2 ^ bits)) (digits_value 10 (without_leading_plus text))

abbrev pub number_or : ℕ → ℕ → Option Text → Option ℕ
number_or bits default None = Some default
number_or bits default (Some text) = number_in bits text

abbrev pub pick_named : Text → Option ℕ
pick_named name = cond (bytes_eq name (codes "first")) (Some 0) (cond (bytes_eq name (codes "last")) (Some 1) (cond (bytes_eq name (codes "mixed")) (Some 2) None))

abbrev pub pick_or_first : Option Text → Option ℕ
pick_or_first None = Some 0
pick_or_first (Some name) = pick_named name

abbrev pub is_yes : Option Text → Bool
is_yes None = false
is_yes (Some text) = bytes_eq text (codes "true")

-- checking and the program's own goals don't go together
abbrev pub mode_of : Bool → Option Text → Option Mode
mode_of check None = Some (cond check Check Prove)
mode_of check (Some text) = number_in 32 text >>= λ goals. cond check None (Some (Demo goals))

-- what the four state together; nothing, where one of them is wrong
abbrev pub joined_options : Option ℕ → Option ℕ → Option ℕ → Option Mode → Option Options
joined_options steps generations which mode =
    steps >>= λ s. generations >>= λ g. which >>= λ w. mode >>= λ m. Some (record { limits = record { steps = s; generations = g }; which = w; mode = m })

-- what the values of the options state
abbrev pub stated : List Row → Option Options
stated rows =
    joined_options
    (number_or 64 20000 (one_of (codes "steps-bound") rows))
    (number_or 32 6 (one_of (codes "gen-bound") rows))
    (pick_or_first (first_of (codes "pick") rows))
    (mode_of (is_yes (first_of (codes "check") rows)) (one_of (codes "demo") rows))

-- ---- what words state
-- clap takes the words, and the values of its matches state these options
pub record States (words : List Text) (options : Options) : Type 0 where
  pub taken : fault_of program words ≡ []
  pub say : stated (matches_of program words) ≡ Some options

-- clap refuses the words, or a value of its matches is wrong, or two of them together are
abbrev pub AreRefused : List Text → Type 0
AreRefused words = (fault_of program words ≢ []) ⊎ (stated (matches_of program words) ≡ None)
