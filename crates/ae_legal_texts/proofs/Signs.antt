-- The literal of a formula, by a sign, has no negation: a negation turns the sign.
use Rattle.std.specs.Prelude.{Bool, true, false, not, [], ◌∷◌, ◌≡◌}
use Rattle.std.proofs.Common.{refl, ap, ◌∙◌}
use Rattle.std.proofs.lemmas.Bool.{and_from}
use Rattle.ae_core.specs.Inner.Induction.{by_formulas}
use Rattle.ae_core.specs.declared.formulas.Formula.{Formula, out-Formula}
use Rattle.ae_core.specs.declared.formulas.Formula.TheVariants.{outs-True, outs-False, outs-Eq, outs-Lt, outs-Le, outs-Pred, outs-And, outs-Or, outs-Xor, outs-Iff, outs-All, outs-Ex}
use Rattle.ae_core.specs.declared.formulas.Lit.{Lit}
use Rattle.ae_rules.proofs.ClauseLaws.{literal_true, literal_false, literal_eq, literal_lt, literal_le, literal_pred, literal_not, literal_and, literal_or, literal_xor, literal_iff, literal_all, literal_ex}
use Rattle.ae_rules.specs.Clauses.{literal, yes_of, no_of}
use Rattle.ae_legal_texts.specs.Writable.{is_negation, no_negations}

abbrev IsDirect : Formula → Type 0
IsDirect f = is_negation (out-Formula f) ≡ false

literal_direct : (f : Formula) (sign : Bool) → IsDirect (literal sign f).formula
literal_direct =
    let same : (l m : Lit) → l ≡ m → IsDirect m.formula → IsDirect l.formula = λ l m e h. ap (λ x. is_negation (out-Formula x.formula)) e ∙ h in
    by_formulas (λ f. (sign : Bool) → IsDirect (literal sign f).formula) (λ q. Unit {0})
    (λ s. same _ _ (literal_true s) (ap is_negation outs-True))
    (λ s. same _ _ (literal_false s) (ap is_negation outs-False))
    (λ a b s. same _ _ (literal_eq s a b) (ap is_negation (outs-Eq a b)))
    (λ a b s. same _ _ (literal_lt s a b) (ap is_negation (outs-Lt a b)))
    (λ a b s. same _ _ (literal_le s a b) (ap is_negation (outs-Le a b)))
    (λ p os us s. same _ _ (literal_pred s p os us) (ap is_negation (outs-Pred p os us)))
    (λ a h s. same _ _ (literal_not s a) (h (not s)))
    (λ a b h k s. same _ _ (literal_and s a b) (ap is_negation (outs-And a b)))
    (λ a b h k s. same _ _ (literal_or s a b) (ap is_negation (outs-Or a b)))
    (λ a b h k s. same _ _ (literal_xor s a b) (ap is_negation (outs-Xor a b)))
    (λ a b h k s. same _ _ (literal_iff s a b) (ap is_negation (outs-Iff a b)))
    (λ q h s. same _ _ (literal_all s q) (ap is_negation (outs-All q)))
    (λ q h s. same _ _ (literal_ex s q) (ap is_negation (outs-Ex q)))
    (λ q h. tt)

-- what is said of a formula, either way
pub said_direct : (f : Formula) → no_negations (yes_of f ∷ no_of f ∷ []) ≡ true
said_direct f =
    and_from (not (is_negation (out-Formula (yes_of f).formula))) (no_negations (no_of f ∷ [])) (ap not (literal_direct f true))
    (and_from (not (is_negation (out-Formula (no_of f).formula))) true (ap not (literal_direct f false)) refl)
