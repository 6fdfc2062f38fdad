-- The hypotheses of goals without inequality.
use Rattle.std.specs.Prelude.{ℕ, ◌<◌, nat_eq, nat_lt, List, ◌≡◌, length, slice_get, Option, Some, None}
use Rattle.std.proofs.Common.{◌∙◌, subst, arith}
use Rattle.std.proofs.lemmas.Bool.Decides.{nat_tests}
use Rattle.ae_base.specs.Options.{only}
use Rattle.ae_base.proofs.Options.{bind_some, never_some, only_some, when_some}
use Rattle.ae_core.specs.Putting.{instance}
use Rattle.ae_core.specs.declared.formulas.Formula.{Formula}
use Rattle.ae_core.specs.declared.problems.Item.{Item}
use Rattle.ae_core.specs.declared.problems.Item.TheVariants.{Axiom, Goal}
use Rattle.ae_core.specs.declared.problems.Problem.{Problem}
use Rattle.ae_core.specs.declared.terms.Sort.{Sort}
use Rattle.ae_rules.specs.Instances.{axiom_with, hypothesis}
use Rattle.ae_orderless.specs.Orderless.{IsOrderlessGoal}
use Rattle.ae_orderless.proofs.Forms.{IsOrderless, orderless_instance}

module _ (p : Problem) (g : ℕ) where
  abbrev of_item : List Sort → Item → Option Formula
  of_item ss i = elim i as (λ _. Option Formula) [ Axiom n v h ↦ axiom_with v h ss | Goal n v h ↦ None ]

  pub hypothesis_orderless : (k : ℕ) (ss : List Sort) (f : Formula) → IsOrderlessGoal p g → hypothesis p g k ss ≡ Some f → IsOrderless f
  hypothesis_orderless k ss f w e =
      let b = bind_some (only (nat_lt k g) (slice_get p.items k)) (of_item ss) f e in
      let o = only_some (nat_lt k g) (slice_get p.items k) b.0 b.1 in
      by_item b.0 o.1 b.2 (let t = o.0 in grind (arith, nat_tests, t))
    where
      by_item : (i : Item) → slice_get p.items k ≡ Some i → of_item ss i ≡ Some f → k < g → IsOrderless f
      by_item (Axiom n v h) at i l = subst IsOrderless (when_some (nat_eq (length ss) v) (instance ss h) f i).1 (orderless_instance ss h ∙ w.axioms k n v h l at)
      by_item (Goal n v h) at i l = never_some f i
