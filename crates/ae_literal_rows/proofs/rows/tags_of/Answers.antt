use Rattle.std.specs.Prelude.{ℕ, [], ◌∷◌, ◌++◌, List}
use Rattle.std.proofs.Common.{ap, ◌∙◌}
use Rattle.ae_literal_rows.proofs.rows.tags_of.Goals as goal

pub returns : goal.returns
returns c =
    c.in_ok-add_all-2.ensures
    ∙ ap (λ (ks : List ℕ). ks ++ c.args.upper.now)
    (c.in_ok-add_all.ensures ∙ ap (λ (ks : List ℕ). ks ++ c.args.lower.now) (c.in_ok-push.ensures.ok ∙ ap (λ (ks : List ℕ). ks ++ c.args.tag ∷ []) c.new-tags.ensures))
