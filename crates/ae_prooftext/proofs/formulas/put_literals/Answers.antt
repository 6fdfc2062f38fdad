use Rattle.std.proofs.Common.{[], ◌∷◌, ◌++◌, sym, ap, ◌∙◌}
use Rattle.std.proofs.lemmas.Result.{on_ok_weaker}
use Rattle.ae_prooftext.specs.Texts.{literal_text}
use Rattle.ae_prooftext.specs.Inner.Pieces.{spaced_literals}
use Rattle.ae_prooftext.proofs.Pieces.{listed_empty, listed_first, closed_twice}
use Rattle.ae_prooftext.proofs.formulas.put_literals.Goals as goal

pub returns-in-None : goal.returns-in-None
returns-in-None c = on_ok_weaker c.put.result (λ e. e ∙ ap (λ z. c.args.out.now.items ++ z) (sym (listed_empty (literal_text c.args.signature.now) 93 c.args.lits.now c.in-None.ensures.cases))) c.put.ensures

pub returns-in_ok-put_spaced_literals-in-Some : goal.returns-in_ok-put_spaced_literals-in-Some
returns-in_ok-put_spaced_literals-in-Some c =
    on_ok_weaker c.put-in-Some.result (λ e. closed_twice c.args.out.now.items _ _ _ (literal_text c.args.signature.now c.in-Some.first.now) (spaced_literals c.args.signature.now c.in-Some.rest.now) (93 ∷ []) _
    c.in_ok-put_literal-in-Some.ensures c.in_ok-put_spaced_literals-in-Some.ensures (listed_first (literal_text c.args.signature.now) 93 c.args.lits.now c.in-Some.first.now c.in-Some.rest.now c.in-Some.ensures.cases.0) e) c.put-in-Some.ensures
