use Rattle.std.proofs.Common.{codes, ap, sym, rules, ◌∙◌, ◌≡◌, None, Some}
use Rattle.std.specs.Prelude.{Ok, Err}
use Rattle.clap.specs.Words.{found_of}
use Rattle.ae_cli.proofs.Clap.{answer_of, number_tried}
use Rattle.ae_cli.proofs.reading.steps.Goals as goal

pub returns-in-Ok-Some : goal.returns-in-Ok-Some
returns-in-Ok-Some c =
    let is : c.try_get_one.result ≡ Ok (Some c.in-Ok-Some.number) = search rules in
    sym (ap (answer_of 20000) is) ∙ number_tried 64 20000 (found_of c.args.matches.now) (codes "steps-bound") c.try_get_one.result c.try_get_one.ensures.none c.try_get_one.ensures.value

pub returns-in-Ok-None : goal.returns-in-Ok-None
returns-in-Ok-None c =
    let is : c.try_get_one.result ≡ Ok None = search rules in
    sym (ap (answer_of 20000) is) ∙ number_tried 64 20000 (found_of c.args.matches.now) (codes "steps-bound") c.try_get_one.result c.try_get_one.ensures.none c.try_get_one.ensures.value

pub returns-in-Err : goal.returns-in-Err
returns-in-Err c =
    let is : c.try_get_one.result ≡ Err c.in-Err.field-0 = search rules in
    sym (ap (answer_of 20000) is) ∙ number_tried 64 20000 (found_of c.args.matches.now) (codes "steps-bound") c.try_get_one.result c.try_get_one.ensures.none c.try_get_one.ensures.value
