use Rattle.std.proofs.Common.{◌++◌, ◌∷◌, [], codes, ◌∙◌, append_assoc}
use Rattle.std.specs.List.{flat_map}
use Rattle.std.proofs.lemmas.Result.{on_ok_weaker}
use Rattle.ae_prooftext.proofs.Pieces.{closed_twice}
use Rattle.ae_statetext.proofs.ValueTexts.{text_fields}
use Rattle.ae_valuetext.specs.Texts.{value_text}
use Rattle.ae_statetext.proofs.values.+put_value.Goals as goal

pub put_fields-returns : goal.put_fields-returns
put_fields-returns t c =
    on_ok_weaker c.put-2.result (λ e. closed_twice c.args.out.now.items _ _ _ (40 ∷ 58 ∷ []) (flat_map (λ v. codes " " ++ value_text v) c.args.values.now) (41 ∷ []) _
    c.in_ok-put.ensures c.in_ok-put_values.ensures
    (text_fields c.args.values.now ∙ append_assoc (40 ∷ 58 ∷ []) (flat_map (λ v. codes " " ++ value_text v) c.args.values.now) (41 ∷ [])) e) c.put-2.ensures
