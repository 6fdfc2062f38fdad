-- Whether an order is open, as a truth value.
use Rattle.std.specs.Prelude.{zero, suc, ◌≡◌, true, false, not, ◌||◌, List, [], ◌∷◌, Option, Some, None}
use Rattle.std.proofs.Common.{refl, sym, ap, ◌∙◌, arith}
use Rattle.std.proofs.lemmas.Bool.{not-true, not_from_false, or_from, or_left, or_parts, or_right}
use Rattle.ae_base.proofs.Decided.{decided_of, decided_yes}
use Rattle.ae_base.proofs.Tests.{by_bool, by_either, false_true, true_false}
use Rattle.ae_base.specs.Decided.{decided}
use Rattle.ae_base.specs.Options.{◌>>=◌, or_else}
use Rattle.ae_core.specs.Decided.{Lit_discrete}
use Rattle.ae_core.specs.declared.formulas.Formula.{Formula, Eq, Lt, out-Formula}
use Rattle.ae_core.specs.declared.formulas.Formula.TheVariants.{outs-Eq, outs-Lt}
use Rattle.ae_core.specs.declared.formulas.Lit.{Lit}
use Rattle.ae_core.specs.declared.terms.Term.{Term}
use Rattle.ae_explain.specs.declared.trail.Assigned.{Assigned}
use Rattle.ae_order_counts.specs.Counts.{IsOrderOpen, compared, has_order, holds_in, is_open_in}
use Rattle.ae_propagation.specs.Settled.{Holds}
use Rattle.ae_rules.specs.Clauses.{is_true}

-- ---- a literal of a trail
truth_holds : (t : List Assigned) (l : Lit) → holds_in t l ≡ true → Holds t l
truth_holds [] l e = false_true e
truth_holds (a ∷ t) l e =
    by_either (decided (Lit_discrete a.lit l)) (holds_in t l) e (λ y. (0, omega arith, decided_yes (Lit_discrete a.lit l) y))
    (λ r. let h = truth_holds t l r in (suc h.0, (let k = h.1 in omega (arith, k)), h.2))

holds_truth : (t : List Assigned) (l : Lit) → Holds t l → holds_in t l ≡ true
holds_truth [] l h = absurd (let k = h.1 in omega (arith, k))
holds_truth (a ∷ t) l (zero, k, e) = or_left (decided (Lit_discrete a.lit l)) (holds_in t l) (decided_of (Lit_discrete a.lit l) e)
holds_truth (a ∷ t) l (suc j, k, e) = or_right (decided (Lit_discrete a.lit l)) (holds_in t l) (holds_truth t l (j, omega (arith, k), e))

module _ (t : List Assigned) where
  without : (l : Lit) → holds_in t l ≡ false → ¬ Holds t l
  without l e h = true_false (sym (holds_truth t l h) ∙ e)

  untrue : (l : Lit) → ¬ Holds t l → holds_in t l ≡ false
  untrue l n = by_bool (holds_in t l) (λ y. absurd (n (truth_holds t l y))) (λ e. e)

  -- ---- the order of two terms
  no_order : (s u : Term) → has_order t s u ≡ false → IsOrderOpen t s u
  no_order s u e =
      let a = or_parts (holds_in t (is_true (Eq s u)) || holds_in t (is_true (Eq u s)) || holds_in t (is_true (Lt s u))) (holds_in t (is_true (Lt u s))) e in
      let b = or_parts (holds_in t (is_true (Eq s u)) || holds_in t (is_true (Eq u s))) (holds_in t (is_true (Lt s u))) a.0 in
      let c = or_parts (holds_in t (is_true (Eq s u))) (holds_in t (is_true (Eq u s))) b.0 in
      record { equal = without (is_true (Eq s u)) c.0; turned = without (is_true (Eq u s)) c.1; below = without (is_true (Lt s u)) b.1; above = without (is_true (Lt u s)) a.1 }

  open_order : (s u : Term) → IsOrderOpen t s u → has_order t s u ≡ false
  open_order s u o =
      or_from (holds_in t (is_true (Eq s u)) || holds_in t (is_true (Eq u s)) || holds_in t (is_true (Lt s u))) (holds_in t (is_true (Lt u s)))
      (or_from (holds_in t (is_true (Eq s u)) || holds_in t (is_true (Eq u s))) (holds_in t (is_true (Lt s u)))
      (or_from (holds_in t (is_true (Eq s u))) (holds_in t (is_true (Eq u s))) (untrue (is_true (Eq s u)) o.equal) (untrue (is_true (Eq u s)) o.turned))
      (untrue (is_true (Lt s u)) o.below)) (untrue (is_true (Lt u s)) o.above)

  abbrev OpenFor : Option (Term × Term) → Type 0
  OpenFor o = or_else (o >>= λ p. Some (not (has_order t p.0 p.1))) false ≡ true

  of_two : (s u : Term) → OpenFor (Some (s, u)) → IsOrderOpen t s u
  of_two s u e = no_order s u (not-true (has_order t s u) e)

  for_two : (s u : Term) → IsOrderOpen t s u → OpenFor (Some (s, u))
  for_two s u o = not_from_false (has_order t s u) (open_order s u o)

  pub open_by : (f : Formula) (s u : Term) → compared (out-Formula f) ≡ Some (s, u) → is_open_in t f ≡ true → IsOrderOpen t s u
  open_by f s u c e = of_two s u (sym (ap (λ o. or_else (o >>= λ p. Some (not (has_order t p.0 p.1))) false) c) ∙ e)

  pub open_for_two : (f : Formula) (s u : Term) → compared (out-Formula f) ≡ Some (s, u) → IsOrderOpen t s u → is_open_in t f ≡ true
  open_for_two f s u c o = ap (λ o. or_else (o >>= λ p. Some (not (has_order t p.0 p.1))) false) c ∙ for_two s u o

pub compared_equation : (s u : Term) → compared (out-Formula (Eq s u)) ≡ Some (s, u)
compared_equation s u = ap compared (outs-Eq s u)

pub compared_order : (s u : Term) → compared (out-Formula (Lt s u)) ≡ Some (s, u)
compared_order s u = ap compared (outs-Lt s u)

pub turned_open : (t : List Assigned) (s u : Term) → IsOrderOpen t s u → IsOrderOpen t u s
turned_open t s u o = record { equal = o.turned; turned = o.equal; below = o.above; above = o.below }

-- what is open was open before
pub open_before : (t t2 : List Assigned) → ((l : Lit) → Holds t l → Holds t2 l) → (f : Formula) → is_open_in t2 f ≡ true → is_open_in t f ≡ true
open_before t t2 more f e = from (compared (out-Formula f)) refl
  where
    from : (o : Option (Term × Term)) → compared (out-Formula f) ≡ o → is_open_in t f ≡ true
    from None c = false_true (sym (ap (λ o. or_else (o >>= λ p. Some (not (has_order t2 p.0 p.1))) false) c) ∙ e)
    from (Some p) c =
        let o = open_by t2 f p.0 p.1 c e in
        open_for_two t f p.0 p.1 c record {
          equal = λ h. o.equal (more (is_true (Eq p.0 p.1)) h);
          turned = λ h. o.turned (more (is_true (Eq p.1 p.0)) h);
          below = λ h. o.below (more (is_true (Lt p.0 p.1)) h);
          above = λ h. o.above (more (is_true (Lt p.1 p.0)) h);
        }
