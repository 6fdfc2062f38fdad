use Rattle.std.proofs.Common.{[], ◌∷◌, ◌++◌, sym, ap, ◌∙◌}
use Rattle.std.proofs.lemmas.Result.{on_ok_weaker}
use Rattle.ae_prooftext.specs.Texts.{trigger_text}
use Rattle.ae_prooftext.specs.Inner.Pieces.{spaced_triggers}
use Rattle.ae_prooftext.proofs.Pieces.{listed_empty, listed_first, closed_twice}
use Rattle.ae_prooftext.proofs.terms.put_triggers.Goals as goal

pub returns-in-None : goal.returns-in-None
returns-in-None c = on_ok_weaker c.put.result (λ e. e ∙ ap (λ z. c.args.out.now.items ++ z) (sym (listed_empty (trigger_text c.args.signature.now) 93 c.args.triggers.now c.in-None.ensures.cases))) c.put.ensures

pub returns-in_ok-put_spaced_triggers-in-Some : goal.returns-in_ok-put_spaced_triggers-in-Some
returns-in_ok-put_spaced_triggers-in-Some c =
    on_ok_weaker c.put-in-Some.result (λ e. closed_twice c.args.out.now.items _ _ _ (trigger_text c.args.signature.now c.in-Some.first.now) (spaced_triggers c.args.signature.now c.in-Some.rest.now) (93 ∷ []) _
    c.in_ok-put_trigger-in-Some.ensures c.in_ok-put_spaced_triggers-in-Some.ensures (listed_first (trigger_text c.args.signature.now) 93 c.args.triggers.now c.in-Some.first.now c.in-Some.rest.now c.in-Some.ensures.cases.0) e) c.put-in-Some.ensures
