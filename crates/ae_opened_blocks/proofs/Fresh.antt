-- The literals of the clause of a block, and the block's line, have numerals and signs as the block has them.
use Rattle.std.specs.Prelude.{ℕ, Bool, true, not, [], ◌∷◌, ◌≡◌, ◌⊎◌, Some}
use Rattle.std.specs.List.{Contains}
use Rattle.std.proofs.Common.{refl, sym, subst, inl, inr}
use Rattle.std.proofs.lemmas.Bool.{and_parts}
use Rattle.ae_base.proofs.AllOf.{all_append}
use Rattle.ae_base.proofs.Options.{never_some, when_some}
use Rattle.ae_between_rounds.specs.Fine.{IsFineFormula, IsFineLine}
use Rattle.ae_core.specs.Putting.{put_formula}
use Rattle.ae_core.specs.declared.formulas.Formula.{Formula, Formula-F, out-Formula}
use Rattle.ae_core.specs.declared.formulas.Formula.TheOpen as layer
use Rattle.ae_core.specs.declared.formulas.Lit.{Lit}
use Rattle.ae_core.specs.declared.formulas.Quant.{Quant}
use Rattle.ae_core.specs.declared.proofs.ClauseLine.{ClauseLine}
use Rattle.ae_core.specs.declared.proofs.ClauseLine.TheVariants.{Fresh}
use Rattle.ae_journal.proofs.Splits.{contains_cases, contains_one}
use Rattle.ae_legal_texts.proofs.Signs.{said_direct}
use Rattle.ae_legal_texts.specs.Numbers.{count, formula_numbers}
use Rattle.ae_legal_texts.specs.Writable.{is_negation, no_negations}
use Rattle.ae_numerals_kept.proofs.Lowest.{fresh_lowest}
use Rattle.ae_rules.specs.Clauses.{Clause, yes_of, no_of, is_true, is_false}
use Rattle.ae_rules.specs.Instances.{are_numbered, count_from, fresh_clause}
use Rattle.ae_writable.specs.Numbers.{IsValueWithin}

abbrev is_direct : Formula → Bool
is_direct f = not (is_negation (out-Formula f))

direct_yes : (f : Formula) → is_direct (yes_of f).formula ≡ true
direct_yes f = (and_parts (not (is_negation (out-Formula (yes_of f).formula))) (no_negations (no_of f ∷ [])) (said_direct f)).0

direct_no : (f : Formula) → is_direct (no_of f).formula ≡ true
direct_no f =
    (and_parts (not (is_negation (out-Formula (no_of f).formula))) true
    (and_parts (not (is_negation (out-Formula (yes_of f).formula))) (no_negations (no_of f ∷ [])) (said_direct f)).1).0

-- a literal is of the block itself, or says of a formula that it is true or false
module _ (f : Formula) (k : ℕ) (c : Clause) (l : Lit) (i : Contains c l) where
  abbrev IsSaid : Type 0
  IsSaid = (l.formula ≡ f) ⊎ (is_direct l.formula ≡ true)

  two : (a b : Lit) → a.formula ≡ f → is_direct b.formula ≡ true → a ∷ b ∷ [] ≡ c → IsSaid
  two a b own other q = elim (contains_cases a (b ∷ []) l (subst (λ (w : Clause). Contains w l) (sym q) i)) as (λ _. IsSaid) [
    | inl r ↦ inl (subst (λ (x : Lit). x.formula ≡ f) r own)
    | inr r ↦ inr (subst (λ (x : Lit). is_direct x.formula ≡ true) (contains_one b l r) other)
  ]

  said_of : fresh_clause f k (out-Formula f) ≡ Some c → IsSaid
  said_of e = from (out-Formula f) e
    where
      from : (o : Formula-F Formula Quant) → fresh_clause f k o ≡ Some c → IsSaid
      from (layer.Ex q) h =
          let body = put_formula (count_from k q.sorts) q.body in
          two (is_false f) (yes_of body) refl (direct_yes body) (when_some (are_numbered k q.sorts) (is_false f ∷ yes_of body ∷ []) c h).1
      from (layer.All q) h =
          let body = put_formula (count_from k q.sorts) q.body in
          two (is_true f) (no_of body) refl (direct_no body) (when_some (are_numbered k q.sorts) (is_true f ∷ no_of body ∷ []) c h).1
      from layer.True h = never_some c h
      from layer.False h = never_some c h
      from (layer.Eq x y) h = never_some c h
      from (layer.Lt x y) h = never_some c h
      from (layer.Le x y) h = never_some c h
      from (layer.Pred p ss us) h = never_some c h
      from (layer.Not x) h = never_some c h
      from (layer.And x y) h = never_some c h
      from (layer.Or x y) h = never_some c h
      from (layer.Xor x y) h = never_some c h
      from (layer.Iff x y) h = never_some c h

pub fresh_fine : (f : Formula) (k : ℕ) (c : Clause) → IsFineFormula f → fresh_clause f k (out-Formula f) ≡ Some c → (l : Lit) → Contains c l → IsFineFormula l.formula
fresh_fine f k c fine e l i = (
  fresh_lowest f k fine.0 c e l i,
  elim (said_of f k c l i e) as (λ _. not (is_negation (out-Formula l.formula)) ≡ true) [
    | inl q ↦ subst (λ (x : Formula). not (is_negation (out-Formula x)) ≡ true) (sym q) fine.1
    | inr d ↦ d
  ],
)

pub fresh_line_fine : (f : Formula) (k : ℕ) (l : ClauseLine) → IsFineFormula f → l ≡ Fresh f k → IsFineLine l
fresh_line_fine f k l fine e = subst IsFineLine (sym e) (all_append IsValueWithin (formula_numbers f) (count k ∷ []) fine.0 (tt, tt), refl)
