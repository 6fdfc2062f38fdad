use Rattle.std.proofs.Common.{◌≡◌, ◌∙◌, ap, sym, codes, rules, None, Some}
use Rattle.clap.proofs.WalkLemmas.{first_value-rows}
use Rattle.clap.specs.Words.{first_of, first_value, found_of, one_of, rows_of}
use Rattle.ae_cli.specs.Program.{is_yes, mode_of, number_or, pick_or_first}
use Rattle.ae_cli.proofs.Clap.{all_said, no_mode, no_which}
use Rattle.ae_cli.proofs.reading.stated.Goals as goal

pub returns-in_err-which : goal.returns-in_err-which
returns-in_err-which c =
    let rows = rows_of (found_of c.args.matches.now) in
    let a : number_or 64 20000 (one_of (codes "steps-bound") rows) ≡ Some c.in_ok-steps.field-0 = search rules in
    let b : number_or 32 6 (one_of (codes "gen-bound") rows) ≡ Some c.in_ok-generations.field-0 = search rules in
    let w : pick_or_first (first_value (found_of c.args.matches.now) (codes "pick")) ≡ None = search rules in
    let none : c.from_residual-in_err-which.result ≡ None = search rules in
    let which : pick_or_first (first_of (codes "pick") rows) ≡ None = ap pick_or_first (sym (first_value-rows (found_of c.args.matches.now) (codes "pick"))) ∙ w in
    none ∙ no_which _ _ _ (mode_of (is_yes (first_of (codes "check") rows)) (one_of (codes "demo") rows)) _ _ a b which

pub returns-in_err-mode : goal.returns-in_err-mode
returns-in_err-mode c =
    let rows = rows_of (found_of c.args.matches.now) in
    let a : number_or 64 20000 (one_of (codes "steps-bound") rows) ≡ Some c.in_ok-steps.field-0 = search rules in
    let b : number_or 32 6 (one_of (codes "gen-bound") rows) ≡ Some c.in_ok-generations.field-0 = search rules in
    let w : pick_or_first (first_value (found_of c.args.matches.now) (codes "pick")) ≡ Some c.in_ok-which.field-0 = search rules in
    let m : mode_of (is_yes (first_value (found_of c.args.matches.now) (codes "check"))) (one_of (codes "demo") rows) ≡ None = search rules in
    let none : c.from_residual-in_err-mode.result ≡ None = search rules in
    let which : pick_or_first (first_of (codes "pick") rows) ≡ Some c.in_ok-which.field-0 = ap pick_or_first (sym (first_value-rows (found_of c.args.matches.now) (codes "pick"))) ∙ w in
    let mode : mode_of (is_yes (first_of (codes "check") rows)) (one_of (codes "demo") rows) ≡ None =
    ap (λ o. mode_of (is_yes o) (one_of (codes "demo") rows)) (sym (first_value-rows (found_of c.args.matches.now) (codes "check"))) ∙ m in
    none ∙ no_mode _ _ _ _ _ _ _ a b which mode

pub returns : goal.returns
returns c =
    let rows = rows_of (found_of c.args.matches.now) in
    let a : number_or 64 20000 (one_of (codes "steps-bound") rows) ≡ Some c.in_ok-steps.field-0 = search rules in
    let b : number_or 32 6 (one_of (codes "gen-bound") rows) ≡ Some c.in_ok-generations.field-0 = search rules in
    let w : pick_or_first (first_value (found_of c.args.matches.now) (codes "pick")) ≡ Some c.in_ok-which.field-0 = search rules in
    let m : mode_of (is_yes (first_value (found_of c.args.matches.now) (codes "check"))) (one_of (codes "demo") rows) ≡ Some c.in_ok-mode.field-0 = search rules in
    let which : pick_or_first (first_of (codes "pick") rows) ≡ Some c.in_ok-which.field-0 = ap pick_or_first (sym (first_value-rows (found_of c.args.matches.now) (codes "pick"))) ∙ w in
    let mode : mode_of (is_yes (first_of (codes "check") rows)) (one_of (codes "demo") rows) ≡ Some c.in_ok-mode.field-0 =
    ap (λ o. mode_of (is_yes o) (one_of (codes "demo") rows)) (sym (first_value-rows (found_of c.args.matches.now) (codes "check"))) ∙ m in
    all_said _ _ _ _ _ _ _ _ a b which mode
