-- What is brought at a generation of the journal leaves no generation too small.
use Rattle.std.specs.Prelude.{ℕ, zero, suc, ◌<◌, ◌≤◌, List, ◌≡◌}
use Rattle.std.specs.List.{Contains}
use Rattle.std.proofs.Common.{sym, ap, ◌∙◌, arith, inl, inr}
use Rattle.ae_core.specs.declared.formulas.Formula.{Formula}
use Rattle.ae_core.specs.declared.problems.Signature.{Signature}
use Rattle.ae_core.specs.declared.terms.Term.{Term}
use Rattle.ae_goal_names.specs.Named.{StandsIn, itself, argument, field}
use Rattle.ae_journal.specs.InstanceLines.{TermFrom, HasGeneration}
use Rattle.ae_journal.specs.InstanceLines.FormulaFrom.{of_part}
use Rattle.ae_journal.specs.InstanceLines.TermFrom.{stands as from_formula, part as from_part, field as from_field}
use Rattle.ae_journal.specs.Standing.{Setting, parts_of}
use Rattle.ae_journal.specs.States.{outside}
use Rattle.ae_journal.specs.Systems.{record_fields}
use Rattle.ae_journal.specs.declared.lines.Line.{Line}
use Rattle.ae_core.specs.Sorts.{sort_of}
use Rattle.ae_owed.specs.Generations.{IsJustified}
use Rattle.ae_owed.proofs.Rising.{rise_to}
use Rattle.ae_store.specs.Stores.{Stored}
use Rattle.ae_ages.specs.Interned.{IsBrought}
use Rattle.ae_ages.specs.Laws.{AreJustifiedAges, BringingJustifies}
use Rattle.ae_ages.specs.declared.entries.Aged.{Aged}
use Rattle.ae_ages.proofs.Parts.{quantified_down}

part_so : (x : Setting) (js : List Line) (n : ℕ) (f h : Formula) → HasGeneration x js n f → Contains (parts_of f) h → HasGeneration x js n h
part_so x js zero f h a c = of_part f h a c
part_so x js (suc n) f h a c = of_part f h a c

module _ (x : Setting) (bound g : ℕ) (js : List Line) (old : Stored) (es : List Aged) (new : Stored) (fs : List Aged) (f : Formula) (same : old.signature ≡ x.problem.signature)
    (b : IsBrought g old es new fs f) (has : g < bound → HasGeneration x js g f) where
  module _ (n : ℕ) (lt : n < bound) (le : g ≤ n) where
    its : HasGeneration x js n f
    its = rise_to x js g n f le (has (omega (arith, lt, le)))

    term_from : (t : Term) → StandsIn old.signature (outside f) t → TermFrom x (HasGeneration x js n) t
    term_from t (itself c) = from_formula f t its c
    term_from t (argument h ss us a c) = from_part h ss us t (term_from _ a) c
    term_from t (field s ss u a e r c) =
        from_field s ss u t (term_from u a) (ap (λ (z : Signature). sort_of z u) (sym same) ∙ e) (ap (λ (z : Signature). record_fields z s) (sym same) ∙ r) c

  terms_so : IsJustified x bound old js → IsJustified x bound new js
  terms_so right n t lt y =
      elim (b.terms.only n t y) as (λ _. TermFrom x (HasGeneration x js n) t) [ inl o ↦ right n t lt o | inr s ↦ term_from n lt s.0 t s.1 ]

  ages_so : AreJustifiedAges x bound es js → AreJustifiedAges x bound fs js
  ages_so right n h lt a =
      elim (b.formulas.only n h a) as (λ _. HasGeneration x js n h) [ inl o ↦ right n h lt o | inr s ↦ quantified_down (HasGeneration x js n) (part_so x js n) f (its n lt s.0) h s.1 ]

pub bringing_justifies : BringingJustifies
bringing_justifies x bound g js old es new fs f same b has terms ages = (terms_so x bound g js old es new fs f same b has terms, ages_so x bound g js old es new fs f same b has ages)
