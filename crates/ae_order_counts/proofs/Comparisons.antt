-- The comparisons of formulas by their head, of parts, and of clauses.
use Rattle.std.specs.Prelude.{◌≡◌, List, [], ◌∷◌, ◌++◌}
use Rattle.std.specs.List.{Contains, flat_map}
use Rattle.std.proofs.Common.{refl, sym, ap, ◌∙◌, subst, arith, inl, inr}
use Rattle.std.proofs.lemmas.List.Elements.{Contains-append_left, Contains-append_right}
use Rattle.ae_block_counts.proofs.Blocks.{in_flat}
use Rattle.ae_core.specs.declared.formulas.Formula.{Formula, Formula-F, Eq, Lt, map-Formula, out-Formula, roll-Formula, roll-out-Formula, para-roll-Formula}
use Rattle.ae_core.specs.declared.formulas.Formula.TheOpen as layer
use Rattle.ae_core.specs.declared.formulas.Formula.TheVariants.{outs-Eq, outs-Lt}
use Rattle.ae_core.specs.declared.formulas.Lit.{Lit}
use Rattle.ae_core.specs.declared.formulas.Quant.{Quant, para-Quant}
use Rattle.ae_core.specs.declared.terms.Term.{Term}
use Rattle.ae_first_clauses.proofs.Subformulas.{keeps_to}
use Rattle.ae_journal.proofs.Splits.{contains_one, contains_here, contains_cases}
use Rattle.ae_journal.specs.Standing.{parts_by, parts_of}
use Rattle.ae_kept_blocks.proofs.Members.{one_of, contained, from_flat}
use Rattle.ae_kept_blocks.specs.Kept.{GoesOnOver}
use Rattle.ae_order_counts.specs.Counts.{comparisons_step, comparisons_of, comparisons_in}
use Rattle.ae_rules.specs.Clauses.{Clause}
use Rattle.ae_sat.specs.Standing.{IsOneOf}

-- ---- by the head
abbrev mark : Quant → Unit {0}
mark = para-Quant (List Formula) (Unit {0}) comparisons_step (λ q. tt)

abbrev by_head : Formula-F Formula Quant → List Formula
by_head o = comparisons_step (map-Formula Formula Quant (Formula × List Formula) (Quant × Unit {0}) (λ f. (f, comparisons_of f)) (λ q. (q, mark q)) o)

comparisons_by : (f : Formula) (o : Formula-F Formula Quant) → out-Formula f ≡ o → comparisons_of f ≡ by_head o
unfolding comparisons_of
comparisons_by f o e = ap comparisons_of (sym (roll-out-Formula f) ∙ ap roll-Formula e) ∙ para-roll-Formula (List Formula) (Unit {0}) comparisons_step (λ q. tt) o

pub own_equation : (s u : Term) → Contains (comparisons_of (Eq s u)) (Eq s u)
own_equation s u = subst (λ (w : List Formula). Contains w (Eq s u)) (sym (comparisons_by (Eq s u) (layer.Eq s u) (outs-Eq s u))) (contains_here (Eq s u) [])

pub own_order : (s u : Term) → Contains (comparisons_of (Lt s u)) (Lt s u)
own_order s u = subst (λ (w : List Formula). Contains w (Lt s u)) (sym (comparisons_by (Lt s u) (layer.Lt s u) (outs-Lt s u))) (contains_here (Lt s u) [])

-- it has no other
pub of_equation : (s u : Term) (f : Formula) → Contains (comparisons_of (Eq s u)) f → Eq s u ≡ f
of_equation s u f h = contains_one (Eq s u) f (subst (λ (w : List Formula). Contains w f) (comparisons_by (Eq s u) (layer.Eq s u) (outs-Eq s u)) h)

pub of_order : (s u : Term) (f : Formula) → Contains (comparisons_of (Lt s u)) f → Lt s u ≡ f
of_order s u f h = contains_one (Lt s u) f (subst (λ (w : List Formula). Contains w f) (comparisons_by (Lt s u) (layer.Lt s u) (outs-Lt s u)) h)

-- ---- parts
module _ (h k : Formula) where
  either : (x y : Formula) → Contains (comparisons_of h) k → Contains (x ∷ y ∷ []) h → Contains (comparisons_of x ++ comparisons_of y) k
  either x y c i = elim (contains_cases x (y ∷ []) h i) as (λ _. Contains (comparisons_of x ++ comparisons_of y) k) [
    | inl e ↦ Contains-append_left (comparisons_of x) (comparisons_of y) k (subst (λ (z : Formula). Contains (comparisons_of z) k) (sym e) c)
    | inr r ↦ Contains-append_right (comparisons_of x) (comparisons_of y) k (subst (λ (z : Formula). Contains (comparisons_of z) k) (sym (contains_one y h r)) c)
  ]

  part_comparisons : (f : Formula) → Contains (parts_of f) h → Contains (comparisons_of h) k → Contains (comparisons_of f) k
  part_comparisons f i c = subst (λ (w : List Formula). Contains w k) (sym (comparisons_by f (out-Formula f) refl)) (from (out-Formula f) i)
    where
      from : (o : Formula-F Formula Quant) → Contains (parts_by o) h → Contains (by_head o) k
      from (layer.Not x) i = subst (λ (z : Formula). Contains (comparisons_of z) k) (sym (contains_one x h i)) c
      from (layer.And x y) i = either x y c i
      from (layer.Or x y) i = either x y c i
      from (layer.Xor x y) i = either x y c i
      from (layer.Iff x y) i = either x y c i
      from layer.True i = absurd (omega (arith, i.1))
      from layer.False i = absurd (omega (arith, i.1))
      from (layer.Eq x y) i = absurd (omega (arith, i.1))
      from (layer.Lt x y) i = absurd (omega (arith, i.1))
      from (layer.Le x y) i = absurd (omega (arith, i.1))
      from (layer.Pred p ss us) i = absurd (omega (arith, i.1))
      from (layer.All q) i = absurd (omega (arith, i.1))
      from (layer.Ex q) i = absurd (omega (arith, i.1))

-- ---- clauses
abbrev pub clause_comparisons : Clause → List Formula
clause_comparisons c = flat_map (λ (l : Lit). comparisons_of l.formula) c

pub comparison_in : (clauses : List Clause) (c : Clause) (l : Lit) (f : Formula) → Contains clauses c → Contains c l → Contains (comparisons_of l.formula) f → Contains (comparisons_in clauses) f
comparison_in clauses c l f h k i = in_flat clause_comparisons clauses c f h (in_flat (λ (m : Lit). comparisons_of m.formula) c l f k i)

module _ (old new : List Clause) (among : GoesOnOver old new) where
  -- each comparison of the formula is one of the old clauses
  abbrev IsOld : Formula → Type 0
  IsOld h = (f : Formula) → Contains (comparisons_of h) f → Contains (comparisons_in old) f

  old_part : (h a : Formula) → IsOld h → Contains (parts_of h) a → IsOld a
  old_part h a o i f j = o f (part_comparisons a f h i j)

  old_first : (c : Clause) (l : Lit) → IsOneOf old c → Contains c l → IsOld l.formula
  old_first c l o i f j = comparison_in old c l f (contained old c o) i j

  pub old_comparisons : (f : Formula) → Contains (comparisons_in new) f → Contains (comparisons_in old) f
  old_comparisons f h =
      let c = from_flat clause_comparisons new f h in
      let l = from_flat (λ (m : Lit). comparisons_of m.formula) c.0 f c.2 in
      keeps_to IsOld old_part old new old_first among c.0 l.0 (one_of new c.0 c.1) l.1 f l.2
