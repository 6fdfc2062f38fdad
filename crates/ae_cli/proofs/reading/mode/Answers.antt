use Rattle.std.proofs.Common.{◌≡◌, ◌∙◌, ap, sym, codes, rules, true, false, None, Some}
use Rattle.std.specs.Prelude.{Ok, Err}
use Rattle.std.specs.declared.num.ParseIntError.{ParseIntError}
use Rattle.clap.specs.Words.{first_value, found_of}
use Rattle.ae_cli.specs.Program.{is_yes}
use Rattle.ae_cli.proofs.Clap.{goals_tried, mode_answer}
use Rattle.ae_cli.proofs.reading.mode.Goals as goal

pub returns-in-Err : goal.returns-in-Err
returns-in-Err c =
    let yes = is_yes (first_value (found_of c.args.matches.now) (codes "check")) in
    let is : c.try_get_one.result ≡ Err c.in-Err.field-0 = search rules in
    sym (ap (mode_answer yes) is) ∙ goals_tried yes (found_of c.args.matches.now) (codes "demo") c.try_get_one.result c.try_get_one.ensures.none c.try_get_one.ensures.value

pub returns-then-is_check : goal.returns-then-is_check
returns-then-is_check c =
    let yes = is_yes (first_value (found_of c.args.matches.now) (codes "check")) in
    let is : c.try_get_one.result ≡ Ok None = search rules in
    let check : true ≡ yes = search rules in
    ap (λ b. mode_answer {E = ParseIntError} b (Ok None)) check
    ∙ (sym (ap (mode_answer yes) is) ∙ goals_tried yes (found_of c.args.matches.now) (codes "demo") c.try_get_one.result c.try_get_one.ensures.none c.try_get_one.ensures.value)

pub returns-else-is_check : goal.returns-else-is_check
returns-else-is_check c =
    let yes = is_yes (first_value (found_of c.args.matches.now) (codes "check")) in
    let is : c.try_get_one.result ≡ Ok None = search rules in
    let check : false ≡ yes = search rules in
    ap (λ b. mode_answer {E = ParseIntError} b (Ok None)) check
    ∙ (sym (ap (mode_answer yes) is) ∙ goals_tried yes (found_of c.args.matches.now) (codes "demo") c.try_get_one.result c.try_get_one.ensures.none c.try_get_one.ensures.value)

pub returns-in-Ok-Some : goal.returns-in-Ok-Some
returns-in-Ok-Some c =
    let yes = is_yes (first_value (found_of c.args.matches.now) (codes "check")) in
    let is : c.try_get_one.result ≡ Ok (Some c.in-Ok-Some.field-0-0) = search rules in
    let check : true ≡ yes = search rules in
    ap (λ b. mode_answer {E = ParseIntError} b (Ok (Some c.in-Ok-Some.field-0-0))) check
    ∙ (sym (ap (mode_answer yes) is) ∙ goals_tried yes (found_of c.args.matches.now) (codes "demo") c.try_get_one.result c.try_get_one.ensures.none c.try_get_one.ensures.value)

pub returns-in-Ok-Some-2 : goal.returns-in-Ok-Some-2
returns-in-Ok-Some-2 c =
    let yes = is_yes (first_value (found_of c.args.matches.now) (codes "check")) in
    let is : c.try_get_one.result ≡ Ok (Some c.in-Ok-Some.field-0-0) = search rules in
    let check : false ≡ yes = search rules in
    ap (λ b. mode_answer {E = ParseIntError} b (Ok (Some c.in-Ok-Some.field-0-0))) check
    ∙ (sym (ap (mode_answer yes) is) ∙ goals_tried yes (found_of c.args.matches.now) (codes "demo") c.try_get_one.result c.try_get_one.ensures.none c.try_get_one.ensures.value)
