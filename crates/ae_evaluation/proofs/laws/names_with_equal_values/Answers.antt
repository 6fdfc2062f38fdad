use Rattle.std.specs.Prelude.{Some}
use mathlib.Core.Path.{ap, ◌∙◌}
use Rattle.ae_evaluation.specs.Consequences.{Stated}
use Rattle.ae_journal.specs.Evaluate.{plainly}
use Rattle.ae_evaluation.proofs.Main.{equal_values}
use Rattle.ae_evaluation.proofs.Exact.{equal_by_consequence, equal_by_plain_consequence}
use Rattle.ae_evaluation.proofs.laws.names_with_equal_values.Goals as goal

pub returns-clause-consequences : goal.returns-clause-consequences
returns-clause-consequences c = λ sig y lawful completed ls. equal_values sig y lawful completed plainly (Stated ls)

pub returns-clause-exactly : goal.returns-clause-exactly
returns-clause-exactly c = λ sig y lawful completed ls holds plain derived s t o v w a b p q. (
  λ e. equal_by_plain_consequence sig y lawful completed (Stated ls) plain derived o w p.0 q.0
      (record { term = s; is = p.1; sort = a; value = p.2 ∙ ap (λ u. Some u) e }) (record { term = t; is = q.1; sort = b; value = q.2 }),
  λ d. equal_values sig y lawful completed plainly (Stated ls) holds s t v w d p q,
)

pub returns-clause-any_names : goal.returns-clause-any_names
returns-clause-any_names c = λ sig y lawful completed ls derived s t o v a b p q.
    equal_by_consequence sig y lawful completed (Stated ls) derived o v p.0 q.0
    (record { term = s; is = p.1; sort = a; value = p.2 }) (record { term = t; is = q.1; sort = b; value = q.2 })
