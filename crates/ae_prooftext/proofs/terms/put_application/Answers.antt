use Rattle.std.proofs.Common.{◌++◌, sym, ap, ◌∙◌}
use Rattle.std.proofs.lemmas.Result.{on_ok_weaker}
use Rattle.ae_prooftext.specs.Inner.Pieces.{opening_bytes, args_bytes}
use Rattle.ae_prooftext.proofs.Pieces.{application_lone, application_opens, closed}
use Rattle.ae_prooftext.proofs.terms.put_application.Goals as goal

pub returns-then-is_lone : goal.returns-then-is_lone
returns-then-is_lone c =
    on_ok_weaker c.put_head.result (λ e. e ∙ ap (λ z. c.args.out.now.items ++ z) (sym (application_lone c.args.signature.now c.args.head c.args.sorts.now c.args.args.now (sym c.is_lone.ensures ∙ c.if-is_lone.true)))) c.put_head.ensures

pub returns : goal.returns
returns c =
    on_ok_weaker c.put_args.result (λ e. closed c.args.out.now.items _ _ (opening_bytes c.args.signature.now c.args.head c.args.sorts.now) (args_bytes c.args.signature.now c.args.args.now) _
    c.in_ok-put_opening.ensures (application_opens c.args.signature.now c.args.head c.args.sorts.now c.args.args.now (sym c.is_lone.ensures ∙ c.if-is_lone.false)) e) c.put_args.ensures
