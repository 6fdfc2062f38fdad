-- The system of the equation b = a meets what the laws on equal names ask for.
use Rattle.std.specs.Prelude.{ℕ, zero, suc, ◌≡◌, Bool, true, ◌&&◌, [], ◌∷◌, Option, Some, None}
use Rattle.std.proofs.lemmas.Option.{same_Some}
use mathlib.Core.Path.{refl, sym, ap, subst, ◌∙◌}
use Rattle.ae_core.specs.Sorts.{sort_of, same_known}
use Rattle.ae_core.specs.declared.formulas.Formula.{Eq, out-Formula}
use Rattle.ae_core.specs.declared.formulas.Formula.TheOpen as formula_layer
use Rattle.ae_core.specs.declared.formulas.Formula.TheVariants.{outs-Eq}
use Rattle.ae_core.specs.declared.formulas.Lit.{Lit}
use Rattle.ae_core.specs.declared.terms.Head.TheVariants as head
use Rattle.ae_core.specs.declared.terms.Term.{Term, Apply}
use Rattle.ae_rules.specs.Clauses.{is_true}
use Rattle.ae_rules.specs.Linear.{is_plain}
use Rattle.ae_rules.specs.Lines.{Fact, Follows, Equations, equal, fact_ok, plain_ok}
use Rattle.ae_rules.specs.Lines.Follows.{by_hyp, by_refl}
use Rattle.ae_num.specs.declared.forms.Lin.{Lin}
use Rattle.ae_num.specs.declared.forms.Value.{Leaf, Number}
use Rattle.ae_journal.specs.Values.{Val, leaf}
use Rattle.ae_journal.specs.Systems.{IsEquation, IsName, ValueOf, forms_in, value_at}
use Rattle.ae_journal.specs.Systems.IsEquation.{of_number, of_leaf, of_rule}
use Rattle.ae_evaluation.specs.Consequences.{MakesTrue, NamesArePlain, Stated}
use Rattle.ae_evaluation.proofs.Decisions.{yes_sort}
use Rattle.ae_evaluation.proofs.Exact.{forms-Number}
use Rattle.ae_evaluation.proofs.ExampleSystem.{leaf_forms, no_entry}
use Rattle.ae_evaluation.proofs.Plainness.{plain-Apply}
use Rattle.ae_system_checks.specs.Examples.{signature, T, a, b, equated, equation}
use Rattle.ae_system_checks.specs.Laws.{EquationsFollow, EquationsFollowPlainly}
use Rattle.ae_system_checks.proofs.Entries.{of_one, of_two}
use Rattle.ae_system_checks.proofs.Facts.{a_sort, b_sort}
use Rattle.ae_system_checks.proofs.Pairs.{first_value, second_value}
use Rattle.ae_system_checks.proofs.Symbols.{leaf_tells}

sides : (s t : Term) → is_true (Eq b a) ≡ is_true (Eq s t) → (b ≡ s) × (a ≡ t)
sides s t e =
    let z : formula_layer.Eq b a ≡ formula_layer.Eq s t = sym (outs-Eq b a) ∙ ap (λ (l : Lit). out-Formula l.formula) e ∙ outs-Eq s t in (cc, cc)

pub makes_true : MakesTrue signature equated equation
makes_true s t (k, e) ok =
    let z = of_one (is_true (Eq b a)) (λ k l. is_true (Eq b a) ≡ l) refl k (is_true (Eq s t)) e in
    let d = sides s t z in (
      leaf 0,
      subst (λ w. ValueOf equated w (leaf 0)) d.0 (1, refl, second_value 0 0 []),
      subst (λ w. ValueOf equated w (leaf 0)) d.1 (0, refl, first_value 0 0 []),
    )

plain_constant : (n : ℕ) → is_plain (Apply (head.Symbol n) [] []) ≡ true
plain_constant n = plain-Apply (head.Symbol n) [] []

pub names_are_plain : NamesArePlain signature equated
names_are_plain n t s i e = of_two a b (λ k t. is_plain t ≡ true) (plain_constant 0) (plain_constant 1) n t i

same_sorted : (s t : Term) → sort_of signature s ≡ Some T → sort_of signature t ≡ Some T → fact_ok signature (equal s t) ≡ true
same_sorted s t d e = (λ i. same_known (d i) (e i)) ∙ yes_sort T

plainly_same : (m n : ℕ) → fact_ok signature (equal (Apply (head.Symbol m) [] []) (Apply (head.Symbol n) [] [])) ≡ true
    → plain_ok signature (equal (Apply (head.Symbol m) [] []) (Apply (head.Symbol n) [] [])) ≡ true
plainly_same m n e = λ i. e i && plain_constant m i && plain_constant n i

-- the equations are those of a and a, and of b and a
follow : (ok : Fact → Bool) → ok (equal a a) ≡ true → ok (equal b a) ≡ true → (s t : Term) → IsEquation signature equated s t
    → Follows signature ok (Equations (Stated equation)) (equal s t)
follow ok first second s t (of_number n p q o v f i e g h w) =
    absurd (of_two (Leaf 0) (Leaf 0) (λ k v. (f : Lin) → v ≡ Number f → ⊥) not_number not_number n v g f h)
  where
    not_number : (f : Lin) → Leaf 0 ≡ Number f → ⊥
    not_number f e = let z : [] ≡ f ∷ [] = sym (leaf_forms 0) ∙ ap forms_in e ∙ forms-Number f in cc
follow ok first second s t (of_leaf n m p q i j e) = by_name n p i (subst (λ k. IsName equated k q) (sym (is_zero n e)) j)
  where
    is_zero : (n : ℕ) → value_at equated n ≡ Some (leaf m) → 0 ≡ m
    is_zero zero e = leaf_tells 0 m (same_Some (leaf 0) (leaf m) (sym (first_value 0 0 []) ∙ e))
    is_zero (suc zero) e = leaf_tells 0 m (same_Some (leaf 0) (leaf m) (sym (second_value 0 0 []) ∙ e))
    is_zero (suc (suc n)) e = absurd (none e)
      where
        none : ◌≡◌ {A = Option Val} None (Some (leaf m)) → ⊥
        none e = cc

    by_name : (n : ℕ) (p : Term) → IsName equated n p → IsName equated 0 q → Follows signature ok (Equations (Stated equation)) (equal p q)
    by_name n p i j =
        subst (λ w. Follows signature ok (Equations (Stated equation)) (equal p w)) (same_Some a q j)
        (of_two a b (λ k w. Follows signature ok (Equations (Stated equation)) (equal w a)) (by_refl first) (by_hyp (b, a, (0, refl), refl) second) n p i)
follow ok first second s t (of_rule h ss l r p q i j k) = absurd (no_entry i.0 _ i.1)

pub follow_plainly : EquationsFollowPlainly
follow_plainly =
    follow (plain_ok signature) (plainly_same 0 0 (same_sorted a a a_sort a_sort)) (plainly_same 1 0 (same_sorted b a b_sort a_sort))

pub follow_generally : EquationsFollow
follow_generally = follow (fact_ok signature) (same_sorted a a a_sort a_sort) (same_sorted b a b_sort a_sort)
