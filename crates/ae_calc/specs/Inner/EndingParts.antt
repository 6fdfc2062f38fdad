-- What the endings by constructors and by a predicate ask of terms and of formulas.
use Rattle.std.specs.Prelude.{ℕ, List, [], ◌≡◌, ◌≢◌}
use Rattle.ae_rules.specs.Lines.{Equated}
use Rattle.ae_rules.specs.Derivations.{IsConstructor}
use Rattle.ae_core.specs.declared.terms.Sort.{Sort}
use Rattle.ae_core.specs.declared.terms.Term.{Term, Apply}
use Rattle.ae_core.specs.declared.terms.Head.{Head}
use Rattle.ae_core.specs.declared.formulas.Formula.{Formula, Pred}
use Rattle.ae_core.specs.declared.problems.Signature.{Signature}
use Rattle.ae_core.specs.declared.proofs.EqLine.{EqLine}

-- the two terms are different constructors
abbrev pub AreDifferentConstructors : Signature → Term → Term → Type 0
AreDifferentConstructors sig s t =
    (h : Head) × (i : Head) × (s ≡ Apply h [] []) × (t ≡ Apply i [] []) × IsConstructor sig h × IsConstructor sig i × (h ≢ i)

-- the two formulas apply one predicate, with one list of sorts, to arguments that the lines equate
abbrev pub AppliesBoth : List EqLine → Formula → Formula → List ℕ → Type 0
AppliesBoth lines f g ks =
    (p : ℕ) × (ss : List Sort) × (us : List Term) × (vs : List Term) × (f ≡ Pred p ss us) × (g ≡ Pred p ss vs) × Equated lines ks us vs
