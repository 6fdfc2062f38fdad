-- Words state one of three ways of picking.
use Rattle.std.proofs.Common.{◌≡◌, ◌<◌, ℕ, Bool, true, false, cond, ap, arith, List, Option, Some, None, codes}
use Rattle.std.specs.Str.{bytes_eq}
use Rattle.std.proofs.lemmas.Option.{none-some, same_Some}
use Rattle.clap.specs.Words.{Text, first_of, matches_of, one_of}
use Rattle.ae_cli.specs.declared.options.Mode.{Mode}
use Rattle.ae_cli.specs.declared.options.Options.{Options}
use Rattle.ae_cli.specs.Program.{States, is_yes, joined_options, mode_of, number_or, pick_or_first, program}

three_at_most : (a b c : Bool) (w : ℕ) → cond a (Some 0) (cond b (Some 1) (cond c (Some 2) None)) ≡ Some w → w < 3
three_at_most true b c w e = let s = same_Some 0 w e in omega (arith, s)
three_at_most false true c w e = let s = same_Some 1 w e in omega (arith, s)
three_at_most false false true w e = let s = same_Some 2 w e in omega (arith, s)
three_at_most false false false w e = absurd (none-some w e)

picked_below : (name : Option Text) (w : ℕ) → pick_or_first name ≡ Some w → w < 3
picked_below None w e = let s = same_Some 0 w e in omega (arith, s)
picked_below (Some name) w e = three_at_most (bytes_eq name (codes "first")) (bytes_eq name (codes "last")) (bytes_eq name (codes "mixed")) w e

joined_way : (steps generations which : Option ℕ) (mode : Option Mode) (o : Options) → joined_options steps generations which mode ≡ Some o → which ≡ Some o.which
joined_way None generations which mode o e = absurd (none-some o e)
joined_way (Some s) None which mode o e = absurd (none-some o e)
joined_way (Some s) (Some g) None mode o e = absurd (none-some o e)
joined_way (Some s) (Some g) (Some w) None o e = absurd (none-some o e)
joined_way (Some s) (Some g) (Some w) (Some m) o e = ap (λ (x : Options). Some x.which) (same_Some _ o e)

pub way_below_three : (words : List Text) (o : Options) → States words o → o.which < 3
way_below_three words o s =
    let rows = matches_of program words in
    picked_below (first_of (codes "pick") rows) o.which
    (joined_way (number_or 64 20000 (one_of (codes "steps-bound") rows)) (number_or 32 6 (one_of (codes "gen-bound") rows)) (pick_or_first (first_of (codes "pick") rows))
    (mode_of (is_yes (first_of (codes "check") rows)) (one_of (codes "demo") rows)) o s.say)
