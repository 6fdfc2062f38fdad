-- The clause of a block for a literal that asks for its terms, and the sorts of its constants.
use Rattle.std.specs.Prelude.{ℕ, Bool, true, false, not, [], ◌∷◌, ◌≡◌, Some}
use Rattle.std.proofs.Common.{refl, sym, ap, ◌∙◌}
use Rattle.std.proofs.lemmas.Option.{same_Some}
use Rattle.ae_base.proofs.Options.{never_some, when_some}
use Rattle.ae_base.proofs.Tests.{not_not}
use Rattle.ae_core.specs.Putting.{put_formula}
use Rattle.ae_core.specs.Sorts.{formula_ok, is_closed_sort}
use Rattle.ae_core.proofs.SortLaws.{formula_in_all, formula_in_ex}
use Rattle.ae_core.specs.declared.formulas.Formula.{Formula, Formula-F, All, Ex, out-Formula, roll-Formula, roll-out-Formula}
use Rattle.ae_core.specs.declared.formulas.Formula.TheOpen as layer
use Rattle.ae_core.specs.declared.formulas.Formula.TheVariants.{rolls-All, rolls-Ex}
use Rattle.ae_core.specs.declared.formulas.Lit.{Lit}
use Rattle.ae_core.specs.declared.formulas.Quant.{Quant}
use Rattle.ae_core.specs.declared.problems.Signature.{Signature}
use Rattle.ae_journal.specs.States.{is_universal, is_universal_by, quant_of}
use Rattle.ae_rules.specs.Clauses.{Clause, literal, opposite, yes_of, no_of, is_true, is_false}
use Rattle.ae_rules.specs.Instances.{fresh_clause, count_from, are_numbered, block_sorts}

pub its_sorts : (f : Formula) (q : Quant) → quant_of (out-Formula f) ≡ Some q → block_sorts (out-Formula f) ≡ q.sorts
its_sorts f q e = from (out-Formula f) e
  where
    from : (o : Formula-F Formula Quant) → quant_of o ≡ Some q → block_sorts o ≡ q.sorts
    from (layer.All r) i = ap (λ (z : Quant). z.sorts) (same_Some r q i)
    from (layer.Ex r) i = ap (λ (z : Quant). z.sorts) (same_Some r q i)
    from layer.True i = never_some q i
    from layer.False i = never_some q i
    from (layer.Eq x y) i = never_some q i
    from (layer.Lt x y) i = never_some q i
    from (layer.Le x y) i = never_some q i
    from (layer.Pred p ss us) i = never_some q i
    from (layer.Not x) i = never_some q i
    from (layer.And x y) i = never_some q i
    from (layer.Or x y) i = never_some q i
    from (layer.Xor x y) i = never_some q i
    from (layer.Iff x y) i = never_some q i

-- its block as a closed one, which is well sorted where the formula is
pub as_all : (sig : Signature) (f : Formula) (q : Quant) → quant_of (out-Formula f) ≡ Some q → formula_ok sig f ≡ true → formula_ok sig (All q) ≡ true
as_all sig f q e ok = from (out-Formula f) refl e
  where
    is : (o : Formula-F Formula Quant) → out-Formula f ≡ o → roll-Formula o ≡ f
    is o h = ap roll-Formula (sym h) ∙ roll-out-Formula f

    from : (o : Formula-F Formula Quant) → out-Formula f ≡ o → quant_of o ≡ Some q → formula_ok sig (All q) ≡ true
    from (layer.All r) o i = ap (formula_ok sig) (ap All (sym (same_Some r q i)) ∙ sym (rolls-All r) ∙ is (layer.All r) o) ∙ ok
    from (layer.Ex r) o i =
        formula_in_all sig (is_closed_sort sig) [] q ∙ sym (formula_in_ex sig (is_closed_sort sig) [] q)
        ∙ ap (formula_ok sig) (ap Ex (sym (same_Some r q i)) ∙ sym (rolls-Ex r) ∙ is (layer.Ex r) o) ∙ ok
    from layer.True o i = never_some q i
    from layer.False o i = never_some q i
    from (layer.Eq x y) o i = never_some q i
    from (layer.Lt x y) o i = never_some q i
    from (layer.Le x y) o i = never_some q i
    from (layer.Pred p ss us) o i = never_some q i
    from (layer.Not x) o i = never_some q i
    from (layer.And x y) o i = never_some q i
    from (layer.Or x y) o i = never_some q i
    from (layer.Xor x y) o i = never_some q i
    from (layer.Iff x y) o i = never_some q i

-- a block's other literal, or that of its body
abbrev either : Formula → ℕ → Bool → Quant → Clause
either f m b r = record { positive = not b; formula = f } ∷ literal b (put_formula (count_from m r.sorts) r.body) ∷ []

moved : (f : Formula) (m : ℕ) (a b : Bool) (r q : Quant) → a ≡ b → r ≡ q → either f m a q ≡ either f m b r
moved f m a b r q s t = λ i. either f m (s i) (sym t i)

pub its_clause : (l : Lit) (m : ℕ) (c : Clause) (q : Quant) → is_universal l ≡ false → quant_of (out-Formula l.formula) ≡ Some q → fresh_clause l.formula m (out-Formula l.formula) ≡ Some c
    → opposite l ∷ literal l.positive (put_formula (count_from m q.sorts) q.body) ∷ [] ≡ c
its_clause l m c q u e h = from (out-Formula l.formula) u e h
  where
    from : (o : Formula-F Formula Quant) → is_universal_by l.positive o ≡ false → quant_of o ≡ Some q → fresh_clause l.formula m o ≡ Some c → either l.formula m l.positive q ≡ c
    from (layer.All r) u e h =
        moved l.formula m l.positive false r q u (same_Some r q e) ∙ (when_some (are_numbered m r.sorts) (is_true l.formula ∷ no_of (put_formula (count_from m r.sorts) r.body) ∷ []) c h).1
    from (layer.Ex r) u e h =
        moved l.formula m l.positive true r q (sym (not_not l.positive) ∙ ap not u) (same_Some r q e)
        ∙ (when_some (are_numbered m r.sorts) (is_false l.formula ∷ yes_of (put_formula (count_from m r.sorts) r.body) ∷ []) c h).1
    from layer.True u e h = never_some q e
    from layer.False u e h = never_some q e
    from (layer.Eq x y) u e h = never_some q e
    from (layer.Lt x y) u e h = never_some q e
    from (layer.Le x y) u e h = never_some q e
    from (layer.Pred p ss us) u e h = never_some q e
    from (layer.Not x) u e h = never_some q e
    from (layer.And x y) u e h = never_some q e
    from (layer.Or x y) u e h = never_some q e
    from (layer.Xor x y) u e h = never_some q e
    from (layer.Iff x y) u e h = never_some q e
