-- Evaluation in a completed system of a lawful signature: shapes of values, and consequence within the plain terms.
use Rattle.std.specs.Prelude.{ℕ, Bool, true, false, ◌≡◌, ◌⊎◌, Some}
use Rattle.std.proofs.Common.{inl, inr}
use mathlib.Core.Path.{refl, sym, ap, ◌∙◌, subst}
use Rattle.ae_core.specs.Sorts.{sort_of}
use Rattle.ae_rules.specs.Lines.{equal, plain_ok, PlainConseq, Equations}
use Rattle.ae_core.specs.Signatures.{IsLawful}
use Rattle.ae_rules.specs.Valuations.{RespectsRules, Respects}
use Rattle.ae_rules.proofs.Respects.{respects}
use Rattle.ae_core.specs.declared.terms.Sort.{Sort}
use Rattle.ae_core.specs.declared.terms.Term.{Term}
use Rattle.ae_core.specs.declared.terms.Head.TheVariants as head
use Rattle.ae_core.specs.declared.formulas.Formula.{Formula, Eq, Lt, Le}
use Rattle.ae_core.specs.declared.formulas.Lit.{Lit}
use Rattle.ae_core.specs.declared.problems.Signature.{Signature}
use Rattle.ae_journal.specs.Values.{Val}
use Rattle.ae_journal.specs.Systems.{IsCompleted, ValueOf}
use Rattle.ae_journal.specs.Inner.Numbering.{numbering}
use Rattle.ae_journal.specs.Evaluate.{reduced_by, Assignment, unassigned, value, IsAssignment}
use Rattle.ae_evaluation.proofs.Facts.{Shapes}
use Rattle.ae_evaluation.proofs.Depth.{some_field}
use Rattle.ae_evaluation.proofs.Rules.{reduction}
use Rattle.ae_evaluation.proofs.Reductions.{reduction_laws}
use Rattle.ae_evaluation.proofs.Sane.{IsSane, ev_sane, counts}
use Rattle.ae_evaluation.proofs.Shape.{HasShape, IsGood, fine, shapes}
use Rattle.ae_evaluation.proofs.Respect.{respects_rules, fits, is_known}
use Rattle.ae_evaluation.proofs.Evaluates.{names_evaluate}
use Rattle.ae_rules.proofs.Congruence.{conseq_sorted, plain_is_conseq}
use Rattle.ae_journal.specs.declared.systems.System.{System}

pub nothing_assigned : (n : ℕ) (s : Sort) (v : Val) → unassigned n s ≡ Some v → ⊥
nothing_assigned n s v e = cc

module _ (sig : Signature) (y : System) (lawful : IsLawful sig) (completed : IsCompleted sig y) (choosing : Bool) where
  plain_sane : (t : Term) → IsSane sig y numbering (reduced_by y) choosing completed (value sig y choosing unassigned t)
  plain_sane =
      ev_sane sig y numbering (reduced_by y) choosing completed (some_field sig lawful) (reduction sig y completed) unassigned
      (λ n s v e. absurd (nothing_assigned n s v e))

  plain_fine : (t : Term) (s : Sort) → sort_of sig t ≡ Some s
      → HasShape sig s (value sig y choosing unassigned t) × IsGood sig lawful y numbering (reduced_by y) choosing completed
      (reduction sig y completed) (value sig y choosing unassigned t)
  plain_fine =
      fine sig lawful y numbering (reduced_by y) choosing completed (reduction sig y completed) unassigned
      (λ n s v e. absurd (nothing_assigned n s v e))

  module _ (assigned : Assignment) (assigns : IsAssignment sig y choosing assigned) where
    pub assigned_fine : (n : ℕ) (s : Sort) (v : Val) → assigned n s ≡ Some v
        → HasShape sig s v × IsGood sig lawful y numbering (reduced_by y) choosing completed (reduction sig y completed) v
    assigned_fine n s v e =
        let a = assigns n s v e in
        let f = plain_fine a.0 s a.1 in (
          subst (HasShape sig s) (sym a.2) f.0,
          subst
              (IsGood sig lawful y numbering (reduced_by y) choosing completed (reduction sig y completed)) (sym a.2) f.1,
        )

    pub value_shapes : Shapes sig y numbering (reduced_by y) choosing assigned
    value_shapes = shapes sig lawful y numbering (reduced_by y) choosing completed (reduction sig y completed) assigned assigned_fine

    pub value_shape : (t : Term) (s : Sort) → sort_of sig t ≡ Some s → HasShape sig s (value sig y choosing assigned t)
    value_shape t s e =
        (fine sig lawful y numbering (reduced_by y) choosing completed (reduction sig y completed) assigned assigned_fine t s e).0

    pub value_counts : (n : ℕ) (s : Sort) (v : Val) → assigned n s ≡ Some v → IsSane sig y numbering (reduced_by y) choosing completed v
    value_counts n s v e =
        let a = assigns n s v e in subst (IsSane sig y numbering (reduced_by y) choosing completed) (sym a.2) (plain_sane a.0)

    pub value_rules : RespectsRules sig (plain_ok sig) (value sig y choosing assigned) (λ _ _. true) (λ _ _. false)
    value_rules =
        respects_rules sig y numbering (reduced_by y) choosing assigned value_shapes
        (counts sig y numbering (reduced_by y) choosing completed (some_field sig lawful) (reduction sig y completed) assigned value_counts)
        (λ n ss. reduction_laws sig y completed (reduced_by y) (reduction sig y completed) (head.Symbol n) ss) lawful

    -- what follows by lines over plain terms alone from equations that evaluate alike evaluates alike
    pub consequence : (E : Term → Term → Type 0)
        → ((s t : Term) → E s t → plain_ok sig (equal s t) ≡ true → value sig y choosing assigned s ≡ value sig y choosing assigned t)
        → (s t : Term) → PlainConseq sig E s t → value sig y choosing assigned s ≡ value sig y choosing assigned t
    consequence E holds s t d =
        respects sig (plain_ok sig) (Equations E) (value sig y choosing assigned) (λ _ _. true) (λ _ _. false) laws d
      where
        sides : (u v s t : Term) → Eq u v ≡ Eq s t → (u ≡ s) × (v ≡ t)
        sides u v s t e = (cc, cc)

        not_lt : (a b u v : Term) → Lt a b ≡ Eq u v → ⊥
        not_lt a b u v e = cc

        hyp_case : (s t : Term) → Equations E (record { positive = true; formula = Eq s t }) → plain_ok sig (equal s t) ≡ true
            → value sig y choosing assigned s ≡ value sig y choosing assigned t
        hyp_case s t e o =
            let z = sides e.0 e.1 s t (sym (ap (λ (m : Lit). m.formula) e.3)) in
            holds s t (subst (λ (w : Term × Term). E w.0 w.1) (λ i. (z.0 i, z.1 i)) e.2) o

        not_signed : (f : Formula) → Equations E (record { positive = false; formula = f }) → ⊥
        not_signed f e = let z = ap (λ (m : Lit). m.positive) e.3 in cc

        laws : Respects sig (plain_ok sig) (Equations E) (value sig y choosing assigned) (λ _ _. true) (λ _ _. false)
        laws = record {
          hyp = λ s t h o. hyp_case s t h o;
          le_hyp = λ s t h o. refl;
          lt_hyp = λ s t h o. absurd (lt_case s t h);
          rules = value_rules;
        }
          where
            lt_case : (s t : Term)
                → Equations E (record { positive = true; formula = Lt s t }) ⊎ Equations E (record { positive = false; formula = Le t s })
                → ⊥
            lt_case s t (inl e) = not_lt s t e.0 e.1 (ap (λ (m : Lit). m.formula) e.3)
            lt_case s t (inr e) = not_signed (Le t s) e

  -- what is proved of names with equal values
  pub no_assignment : (n : ℕ) (s : Sort) (v : Val) → unassigned n s ≡ Some v
      → (t : Term) × (sort_of sig t ≡ Some s) × (v ≡ value sig y choosing unassigned t)
  no_assignment n s v e = absurd (nothing_assigned n s v e)

  pub names_have_values : (t : Term) (s : Sort) (v : Val) → sort_of sig t ≡ Some s → ValueOf y t v → value sig y choosing unassigned t ≡ v
  names_have_values t s v e o =
      names_evaluate sig lawful y numbering (reduced_by y) choosing completed (reduction sig y completed) unassigned
      (λ n s v w e. absurd (nothing_assigned n s v e)) t s v e o

  pub equal_values : (E : Term → Term → Type 0)
      → ((s t : Term) → E s t → plain_ok sig (equal s t) ≡ true → (v : Val) × ValueOf y s v × ValueOf y t v)
      → (s t : Term) (v w : Val) → PlainConseq sig E s t → ValueOf y s v → ValueOf y t w → v ≡ w
  equal_values E holds s t v w d p q =
      let sorted = conseq_sorted sig E s t (plain_is_conseq sig E s t d) in
      let k = is_known (sort_of sig s) sorted.0 in
      sym (names_have_values s k.0 v k.1 p)
      ∙ consequence unassigned no_assignment E (λ a b e o.
      let h = holds a b e o in
      let f = fits sig a b o in
      names_have_values a (f.0).sort h.0 (f.0).sorted h.1 ∙ sym (names_have_values b (f.1).sort h.0 (f.1).sorted h.2)) s t d
      ∙ names_have_values t k.0 w (sym sorted.1 ∙ k.1) q
