use Rattle.std.proofs.Common.{◌≡◌, ◌∙◌, ap₂, codes, rules}
use Rattle.std.proofs.lemmas.Result.{IfOk-weaker}
use Rattle.clap.specs.Words.{app_of, new_app, with_rule}
use Rattle.ae_cli.specs.Program.{flag, named, nameless}
use Rattle.ae_cli.proofs.command.command.Goals as goal

pub returns : goal.returns
returns c =
    let start : app_of c.no_binary_name.result ≡ nameless (new_app (codes "altac")) = search rules in
    let one = c.in_ok-arg.ensures.shape c.bounded.ensures.local ∙ ap₂ with_rule start c.bounded.ensures.rule in
    let two = c.in_ok-arg-2.ensures.shape c.bounded-2.ensures.local ∙ ap₂ with_rule one c.bounded-2.ensures.rule in
    let three = c.in_ok-arg-3.ensures.shape c.named.ensures.local ∙ ap₂ with_rule two c.named.ensures.rule in
    let four = c.in_ok-arg-4.ensures.shape c.flag.ensures.local ∙ ap₂ with_rule three c.flag.ensures.rule in
    IfOk-weaker c.arg-5.result _ _ (λ m h. h.shape c.bounded-3.ensures.local ∙ ap₂ with_rule four c.bounded-3.ensures.rule) c.arg-5.ensures
