-- Words state from 1 to 1,000,000 steps.
use Rattle.std.specs.Prelude.{ℕ, ◌≤◌, ◌^◌, ◌&&◌, Bool, true, false, nat_le, nat_lt, List, [], ◌∷◌, ◌≡◌, Option, Some, None, codes, find, option_and_then, option_map, slice_get, if◌then◌else◌}
use Rattle.std.specs.List.{AllByRecursion}
use Rattle.std.specs.Str.{bytes_eq}
use Rattle.std.specs.Str.Parse.{digits_value, without_leading_plus}
use Rattle.std.proofs.Common.{refl, sym, ap, ◌∙◌, subst, arith}
use Rattle.std.proofs.lemmas.Bool.{and_parts, leb-true}
use Rattle.std.proofs.lemmas.Option.{none-some, same_Some}
use Rattle.ae_base.proofs.Tests.{false_true}
use Rattle.ae_base.specs.Options.{when}
use Rattle.clap.specs.Faults.{entered_fault, fault_of, settle_fault, walk_fault}
use Rattle.clap.specs.Simple.{Shape, argument_words, built, matches_of, names_of}
use Rattle.clap.specs.ValueTests.{is_numeral}
use Rattle.clap.specs.Values.{read_as}
use Rattle.clap.specs.Walk.{Names, Row, Rule, Text, first_of, nothing_held, one_of, row_text, settled, walk, walk_from}
use Rattle.clap.specs.declared.builder.value_parser.Reading.TheVariants.{AsWritten}
use Rattle.ae_cli.specs.Program.{States, is_yes, joined_options, mode_of, number_in, number_or, pick_or_first, program}
use Rattle.ae_cli.specs.declared.options.Mode.{Mode}
use Rattle.ae_cli.specs.declared.options.Options.{Options}
use Rattle.ae_step_bounds.proofs.Rows.{AllPass, Fits, IsAccepted, IsOfSteps, Passes, all_accepted, defaults_pass, none_both}
use Rattle.ae_step_bounds.proofs.Walking.{settles, walk_passes}

abbrev shape : Shape
shape = (built program).top

abbrev rules : List Rule
rules = shape.rules

abbrev names : Names
names = names_of (built program)

-- ---- the rows
not_steps : {P : Type 0} → false ≡ true → P
not_steps e = absurd (false_true e)

rules_fit : AllByRecursion Fits rules
rules_fit = ((λ o. (refl, refl, refl, refl, (λ vs e. all_accepted vs e))), ((λ o. not_steps o), ((λ o. not_steps o), ((λ o. not_steps o), ((λ o. not_steps o), ((λ o. not_steps o), tt))))))

rows_pass : (words : List Text) → fault_of program words ≡ [] → AllPass (matches_of program words)
rows_pass words e =
    let given = argument_words program words in
    let end = (walk rules names nothing_held given).held in
    let stop = (walk rules names nothing_held given).stopped in
    let walking = none_both (walk_fault shape names (walk_from nothing_held) given) _ e in
    let below = none_both (entered_fault (built program) stop) _ walking.1 in
    let settling = none_both (settle_fault shape.rules shape.args_override_self end) _ below.1 in
    defaults_pass rules (settled rules end).rows rules_fit
    (settles rules shape.args_override_self rules_fit end settling.0 (walk_passes shape names rules_fit given (walk_from nothing_held) walking.0 tt))

-- ---- the number
pub record IsBounded (n : ℕ) : Type 0 where
  pub least : 1 ≤ n
  pub most : n ≤ 1000000

number_bounded : (v : Text) (n : ℕ) → IsAccepted v → number_in 64 v ≡ Some n → IsBounded n
number_bounded v n a e =
    let number = digits_value 10 (without_leading_plus v) in
    let digits = and_parts (is_numeral (without_leading_plus v)) (nat_lt number (2 ^ 64) && (nat_le 1 number && nat_le number 1000000)) a in
    let small = and_parts (nat_lt number (2 ^ 64)) (nat_le 1 number && nat_le number 1000000) digits.1 in
    let both = and_parts (nat_le 1 number) (nat_le number 1000000) small.1 in
    subst IsBounded (told (is_numeral (without_leading_plus v) && nat_lt number (2 ^ 64)) number n e) (record { least = leb-true 1 number both.0; most = leb-true number 1000000 both.1 })
  where
    told : (b : Bool) (number n : ℕ) → when b number ≡ Some n → number ≡ n
    told true number n e = same_Some number n e
    told false number n e = absurd (none-some n e)

default_bounded : (n : ℕ) → Some 20000 ≡ Some n → IsBounded n
default_bounded n e = subst IsBounded (same_Some 20000 n e) (record { least = omega arith; most = omega arith })

values_bounded : (vs : List Text) (n : ℕ) → AllByRecursion IsAccepted vs → number_or 64 20000 (option_map (read_as AsWritten) (slice_get vs 0)) ≡ Some n → IsBounded n
values_bounded [] n a e = default_bounded n e
values_bounded (v ∷ vs) n a e = number_bounded v n a.0 e

row_bounded : (r : Row) (n : ℕ) → IsOfSteps r.id → Passes r → number_or 64 20000 (row_text r) ≡ Some n → IsBounded n
row_bounded r n o p e = let here = p o in values_bounded r.values n here.1 (ap (λ how. number_or 64 20000 (option_map (read_as how) (slice_get r.values 0))) (sym here.0) ∙ e)

first_bounded : (b : Bool) (r : Row) (rest : Option Row) (n : ℕ) → bytes_eq r.id (codes "steps-bound") ≡ b → Passes r → (number_or 64 20000 (option_and_then row_text rest) ≡ Some n → IsBounded n)
    → number_or 64 20000 (option_and_then row_text (if b then Some r else rest)) ≡ Some n → IsBounded n
first_bounded true r rest n is p on e = row_bounded r n is p e
first_bounded false r rest n is p on e = on e

rows_bounded : (rs : List Row) (n : ℕ) → AllPass rs → number_or 64 20000 (one_of (codes "steps-bound") rs) ≡ Some n → IsBounded n
rows_bounded [] n a e = default_bounded n e
rows_bounded (r ∷ rs) n a e =
    first_bounded (bytes_eq r.id (codes "steps-bound")) r (find (λ (q : Row). bytes_eq q.id (codes "steps-bound")) rs) n refl a.0 (λ rest. rows_bounded rs n a.1 rest) e

joined_steps : (steps generations which : Option ℕ) (mode : Option Mode) (o : Options) → joined_options steps generations which mode ≡ Some o → steps ≡ Some o.limits.steps
joined_steps None generations which mode o e = absurd (none-some o e)
joined_steps (Some s) None which mode o e = absurd (none-some o e)
joined_steps (Some s) (Some g) None mode o e = absurd (none-some o e)
joined_steps (Some s) (Some g) (Some w) None o e = absurd (none-some o e)
joined_steps (Some s) (Some g) (Some w) (Some m) o e = ap (λ (x : Options). Some x.limits.steps) (same_Some _ o e)

steps_bounded : (words : List Text) (o : Options) → States words o → IsBounded o.limits.steps
steps_bounded words o s =
    let rows = matches_of program words in
    rows_bounded rows o.limits.steps (rows_pass words s.taken)
    (joined_steps (number_or 64 20000 (one_of (codes "steps-bound") rows)) (number_or 32 6 (one_of (codes "gen-bound") rows)) (pick_or_first (first_of (codes "pick") rows))
    (mode_of (is_yes (first_of (codes "check") rows)) (one_of (codes "demo") rows)) o s.say)

pub at_least_one : (words : List Text) (o : Options) → States words o → 1 ≤ o.limits.steps
at_least_one words o s = (steps_bounded words o s).least

pub at_most_million : (words : List Text) (o : Options) → States words o → o.limits.steps ≤ 1000000
at_most_million words o s = (steps_bounded words o s).most
