use Rattle.std.proofs.Common.{[], ◌∷◌, ◌++◌, sym, ap, ◌∙◌}
use Rattle.std.proofs.lemmas.Result.{on_ok_weaker}
use Rattle.ae_prooftext.specs.Texts.{sort_text}
use Rattle.ae_prooftext.specs.Words.{type_names}
use Rattle.ae_prooftext.specs.Inner.Pieces.{spaced_sorts}
use Rattle.ae_prooftext.proofs.Pieces.{listed_empty, listed_first, closed_twice}
use Rattle.ae_prooftext.proofs.sorts.put_sorts.Goals as goal

pub returns-in-None : goal.returns-in-None
returns-in-None c = on_ok_weaker c.put.result (λ e. e ∙ ap (λ z. c.args.out.now.items ++ z) (sym (listed_empty (sort_text (type_names c.args.signature.now)) 93 c.args.sorts.now c.in-None.ensures.cases))) c.put.ensures

pub returns-in_ok-put_spaced_sorts-in-Some : goal.returns-in_ok-put_spaced_sorts-in-Some
returns-in_ok-put_spaced_sorts-in-Some c =
    on_ok_weaker c.put-in-Some.result (λ e. closed_twice c.args.out.now.items _ _ _ (sort_text (type_names c.args.signature.now) c.in-Some.first.now) (spaced_sorts c.args.signature.now c.in-Some.rest.now) (93 ∷ []) _
    c.in_ok-put_sort-in-Some.ensures c.in_ok-put_spaced_sorts-in-Some.ensures (listed_first (sort_text (type_names c.args.signature.now)) 93 c.args.sorts.now c.in-Some.first.now c.in-Some.rest.now c.in-Some.ensures.cases.0) e) c.put-in-Some.ensures
