-- What stands in parts of a formula stands in the formula.
use Rattle.std.specs.Prelude.{ℕ, List, [], ◌∷◌, ◌++◌, ◌≡◌, Some}
use Rattle.std.specs.List.{Contains}
use Rattle.std.proofs.Common.{sym, ap, ◌∙◌, subst, arith, inl, inr}
use Rattle.std.proofs.lemmas.List.Elements.{Contains-append_left, Contains-append_right, Contains-append_cases}
use Rattle.ae_base.proofs.Options.{never_some}
use Rattle.ae_core.specs.Inner.Induction.{by_formulas}
use Rattle.ae_core.specs.declared.formulas.Formula.{Formula, True, False, Eq, Lt, Le, Pred, Not, And, Or, Xor, Iff, All, Ex, out-Formula}
use Rattle.ae_core.specs.declared.formulas.Formula.TheVariants.{outs-True, outs-False, outs-Eq, outs-Lt, outs-Le, outs-Pred, outs-Not, outs-And, outs-Or, outs-Xor, outs-Iff, outs-All, outs-Ex}
use Rattle.ae_core.specs.declared.terms.Term.{Term}
use Rattle.ae_goal_names.proofs.Outer.{outside_not, outside_and, outside_or, outside_xor, outside_iff}
use Rattle.ae_journal.proofs.Splits.{contains_cases, contains_here, contains_later, contains_one}
use Rattle.ae_journal.specs.Standing.{parts_by, parts_of}
use Rattle.ae_journal.specs.States.{outside}
use Rattle.ae_rules.specs.Clauses.{Clause}
use Rattle.ae_rules.specs.Instances.{fresh_clause}
use Rattle.ae_ages.specs.Ages.{quantified}
use Rattle.ae_ages.proofs.Quantified.{quantified_not, quantified_and, quantified_or, quantified_xor, quantified_iff, quantified_all, quantified_ex, quantified_true, quantified_false, quantified_eq, quantified_lt, quantified_le, quantified_pred}

module _ {A : Type 0} (stand : Formula → List A) (of_not : (a : Formula) → stand (Not a) ≡ stand a) (of_and : (a b : Formula) → stand (And a b) ≡ stand a ++ stand b) (of_or : (a b : Formula) → stand (Or a b) ≡ stand a ++ stand b)
    (of_xor : (a b : Formula) → stand (Xor a b) ≡ stand a ++ stand b) (of_iff : (a b : Formula) → stand (Iff a b) ≡ stand a ++ stand b) where
  abbrev Holds : Formula → Type 0
  Holds f = (h : Formula) → Contains (parts_of f) h → (y : A) → Contains (stand h) y → Contains (stand f) y

  none : (f : Formula) → parts_of f ≡ [] → Holds f
  none f e h c y i = let d : Contains [] h = subst (λ (w : List Formula). Contains w h) e c in let l = d.1 in absurd (omega (arith, l))

  one : (f a : Formula) → parts_of f ≡ a ∷ [] → stand f ≡ stand a → Holds f
  one f a e o h c y i =
      let s : a ≡ h = contains_one a h (subst (λ (w : List Formula). Contains w h) e c) in
      subst (λ (w : List A). Contains w y) (sym o) (subst (λ (w : Formula). Contains (stand w) y) (sym s) i)

  two : (f a b : Formula) → parts_of f ≡ a ∷ b ∷ [] → stand f ≡ stand a ++ stand b → Holds f
  two f a b e o h c y i =
      subst (λ (w : List A). Contains w y) (sym o)
      (elim (contains_cases a (b ∷ []) h (subst (λ (w : List Formula). Contains w h) e c)) as (λ _. Contains (stand a ++ stand b) y) [
        | inl s ↦ Contains-append_left (stand a) (stand b) y (subst (λ (w : Formula). Contains (stand w) y) (sym s) i)
        | inr r ↦ Contains-append_right (stand a) (stand b) y (subst (λ (w : Formula). Contains (stand w) y) (sym (contains_one b h r)) i)
      ])

  in_whole : (f : Formula) → Holds f
  in_whole =
      by_formulas Holds (λ q. Unit {0})
      (none True (ap parts_by outs-True))
      (none False (ap parts_by outs-False))
      (λ a b. none (Eq a b) (ap parts_by (outs-Eq a b)))
      (λ a b. none (Lt a b) (ap parts_by (outs-Lt a b)))
      (λ a b. none (Le a b) (ap parts_by (outs-Le a b)))
      (λ q os us. none (Pred q os us) (ap parts_by (outs-Pred q os us)))
      (λ a h. one (Not a) a (ap parts_by (outs-Not a)) (of_not a))
      (λ a b h k. two (And a b) a b (ap parts_by (outs-And a b)) (of_and a b))
      (λ a b h k. two (Or a b) a b (ap parts_by (outs-Or a b)) (of_or a b))
      (λ a b h k. two (Xor a b) a b (ap parts_by (outs-Xor a b)) (of_xor a b))
      (λ a b h k. two (Iff a b) a b (ap parts_by (outs-Iff a b)) (of_iff a b))
      (λ q h. none (All q) (ap parts_by (outs-All q)))
      (λ q h. none (Ex q) (ap parts_by (outs-Ex q)))
      (λ q h. tt)

pub outside_parts : (f h : Formula) → Contains (parts_of f) h → (t : Term) → Contains (outside h) t → Contains (outside f) t
outside_parts = in_whole outside outside_not outside_and outside_or outside_xor outside_iff

pub quantified_parts : (f h : Formula) → Contains (parts_of f) h → (q : Formula) → Contains (quantified h) q → Contains (quantified f) q
quantified_parts = in_whole quantified quantified_not quantified_and quantified_or quantified_xor quantified_iff

-- a formula that has a `fresh` clause is its own quantified part
abbrev Opens : Formula → Type 0
Opens f = (m : ℕ) (c : Clause) → fresh_clause f m (out-Formula f) ≡ Some c → Contains (quantified f) f

pub own_part : (f : Formula) → Opens f
own_part =
    by_formulas Opens (λ q. Unit {0})
    (λ m c e. never_some c (sym (ap (fresh_clause True m) outs-True) ∙ e))
    (λ m c e. never_some c (sym (ap (fresh_clause False m) outs-False) ∙ e))
    (λ a b m c e. never_some c (sym (ap (fresh_clause (Eq a b) m) (outs-Eq a b)) ∙ e))
    (λ a b m c e. never_some c (sym (ap (fresh_clause (Lt a b) m) (outs-Lt a b)) ∙ e))
    (λ a b m c e. never_some c (sym (ap (fresh_clause (Le a b) m) (outs-Le a b)) ∙ e))
    (λ q os us m c e. never_some c (sym (ap (fresh_clause (Pred q os us) m) (outs-Pred q os us)) ∙ e))
    (λ a h m c e. never_some c (sym (ap (fresh_clause (Not a) m) (outs-Not a)) ∙ e))
    (λ a b h k m c e. never_some c (sym (ap (fresh_clause (And a b) m) (outs-And a b)) ∙ e))
    (λ a b h k m c e. never_some c (sym (ap (fresh_clause (Or a b) m) (outs-Or a b)) ∙ e))
    (λ a b h k m c e. never_some c (sym (ap (fresh_clause (Xor a b) m) (outs-Xor a b)) ∙ e))
    (λ a b h k m c e. never_some c (sym (ap (fresh_clause (Iff a b) m) (outs-Iff a b)) ∙ e))
    (λ q h m c e. subst (λ (w : List Formula). Contains w (All q)) (sym (quantified_all q)) (contains_here (All q) []))
    (λ q h m c e. subst (λ (w : List Formula). Contains w (Ex q)) (sym (quantified_ex q)) (contains_here (Ex q) []))
    (λ q h. tt)

-- what holds of a formula and so of its parts holds of its quantified parts
module _ (S : Formula → Type 0) (closed : (f h : Formula) → S f → Contains (parts_of f) h → S h) where
  abbrev Down : Formula → Type 0
  Down f = S f → (h : Formula) → Contains (quantified f) h → S h

  nothing : (f : Formula) → quantified f ≡ [] → Down f
  nothing f e s h c = let d : Contains [] h = subst (λ (w : List Formula). Contains w h) e c in let l = d.1 in absurd (omega (arith, l))

  itself : (f : Formula) → quantified f ≡ f ∷ [] → Down f
  itself f e s h c = subst S (contains_one f h (subst (λ (w : List Formula). Contains w h) e c)) s

  by_one : (f a : Formula) → parts_of f ≡ a ∷ [] → quantified f ≡ quantified a → Down a → Down f
  by_one f a p e d s h c = d (closed f a s (subst (λ (w : List Formula). Contains w a) (sym p) (contains_here a []))) h (subst (λ (w : List Formula). Contains w h) e c)

  by_two : (f a b : Formula) → parts_of f ≡ a ∷ b ∷ [] → quantified f ≡ quantified a ++ quantified b → Down a → Down b → Down f
  by_two f a b p e d k s h c =
      elim (Contains-append_cases (quantified a) (quantified b) h (subst (λ (w : List Formula). Contains w h) e c)) as (λ _. S h) [
        | inl l ↦ d (closed f a s (subst (λ (w : List Formula). Contains w a) (sym p) (contains_here a (b ∷ [])))) h l
        | inr r ↦ k (closed f b s (subst (λ (w : List Formula). Contains w b) (sym p) (contains_later a (b ∷ []) b (contains_here b [])))) h r
      ]

  pub quantified_down : (f : Formula) → Down f
  quantified_down =
      by_formulas Down (λ q. Unit {0})
      (nothing True quantified_true)
      (nothing False quantified_false)
      (λ a b. nothing (Eq a b) (quantified_eq a b))
      (λ a b. nothing (Lt a b) (quantified_lt a b))
      (λ a b. nothing (Le a b) (quantified_le a b))
      (λ q os us. nothing (Pred q os us) (quantified_pred q os us))
      (λ a h. by_one (Not a) a (ap parts_by (outs-Not a)) (quantified_not a) h)
      (λ a b h k. by_two (And a b) a b (ap parts_by (outs-And a b)) (quantified_and a b) h k)
      (λ a b h k. by_two (Or a b) a b (ap parts_by (outs-Or a b)) (quantified_or a b) h k)
      (λ a b h k. by_two (Xor a b) a b (ap parts_by (outs-Xor a b)) (quantified_xor a b) h k)
      (λ a b h k. by_two (Iff a b) a b (ap parts_by (outs-Iff a b)) (quantified_iff a b) h k)
      (λ q h. itself (All q) (quantified_all q))
      (λ q h. itself (Ex q) (quantified_ex q))
      (λ q h. tt)
