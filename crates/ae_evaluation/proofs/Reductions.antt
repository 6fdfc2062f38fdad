-- The answer of the rules of a completed system: one for multisets with the same elements, and a part may be reduced first.
use Rattle.std.specs.Prelude.{ℕ, List, ◌≡◌}
use Rattle.std.specs.List.Sorted.{IsNonDecreasing}
use Rattle.ae_multiset.specs.Rewriting.{ReducesTo, IsReduced, Decreases}
use Rattle.ae_multiset.proofs.NormalForms.{linked_from, nf_only, nf_same, nf_first, nf_second}
use Rattle.ae_core.specs.declared.terms.Sort.{Sort}
use Rattle.ae_core.specs.declared.terms.Head.{Head}
use Rattle.ae_core.specs.declared.problems.Signature.{Signature}
use Rattle.ae_journal.specs.Systems.{IsCompleted, IsRule}
use Rattle.ae_journal.specs.Evaluation.{Reduction}
use Rattle.ae_evaluation.proofs.Facts.{Reduces}
use Rattle.ae_journal.specs.declared.systems.System.{System}

module _ (sig : Signature) (y : System) (completed : IsCompleted sig y) (reduce : Head → List Sort → List ℕ → List ℕ)
    (reduces : Reduction y reduce) (h : Head) (ss : List Sort) where
  falls : Decreases (IsRule y h ss)
  falls l r rule = (completed.rules_fit rule.0 _ rule.1).falls

  pub only : (a b : List ℕ) → ReducesTo (IsRule y h ss) a b → IsReduced (IsRule y h ss) b → IsNonDecreasing b → reduce h ss a ≡ b
  only a b f r w =
      nf_only (IsRule y h ss) falls (completed.overlaps h ss) (reduce h ss) (reduces h ss) a b (linked_from (IsRule y h ss) f) r w

  pub reduction_laws : Reduces (reduce h ss)
  reduction_laws = record {
    alike = nf_same (IsRule y h ss) falls (completed.overlaps h ss) (reduce h ss) (reduces h ss);
    first = nf_first (IsRule y h ss) falls (completed.overlaps h ss) (reduce h ss) (reduces h ss);
    second = nf_second (IsRule y h ss) falls (completed.overlaps h ss) (reduce h ss) (reduces h ss);
  }
