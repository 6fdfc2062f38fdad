-- The cases that are held, at each variant.
use Rattle.std.proofs.Common.{◌≡◌, ◌∙◌, List, ◌++◌, refl, sym, ap, subst}
use Rattle.std.specs.Prelude.{IfOk, Result}
use Rattle.std.proofs.lemmas.Result.{IfOk-weaker}
use Rattle.ae_core.specs.declared.terms.Term.{Term}
use Rattle.ae_core.specs.declared.formulas.Formula.{Formula}
use Rattle.ae_lifting.specs.declared.cases.Cases as held
use Rattle.ae_lifting.specs.declared.cases.Cases.{Leaf, Branch, fold-roll-Cases}
use Rattle.ae_lifting.specs.declared.cases.Cases.TheOpen as layer
use Rattle.ae_lifting.specs.declared.cases.Cases.TheVariants.{rolls-Leaf, rolls-Branch}
use Rattle.ae_elab.specs.Elaboration.{Cases, leaf, branch, ◌|>◌, either_way, formula_of}
use Rattle.ae_lifting.specs.Lifting.{cases_of, cases_step}
use Rattle.ae_lifting.specs.Inner.Answered.{IsChoice, IsEitherWay}

pub cases_leaf : (us : List Term) → cases_of (Leaf us) ≡ leaf us
unfolding cases_of
cases_leaf us = ap cases_of (sym (rolls-Leaf us)) ∙ fold-roll-Cases (Cases (List Term)) cases_step (layer.Leaf us)

pub cases_branch : (c : Formula) (a b : held.Cases) → cases_of (Branch c a b) ≡ branch c (cases_of a) (cases_of b)
unfolding cases_of
cases_branch c a b = ap cases_of (sym (rolls-Branch c a b)) ∙ fold-roll-Cases (Cases (List Term)) cases_step (layer.Branch c a b)

pub ruleset held_cases = (cases_leaf, cases_branch)

-- ---- what goes on with the terms of each case
module _ {B : Type 0} (next : List Term → Cases B) (whole : held.Cases) where
  pub at_leaf : (us : List Term) (w : Cases B) → whole ≡ Leaf us → w ≡ next us → w ≡ (cases_of whole |> next)
  at_leaf us w e f = f ∙ sym (ap (λ z. cases_of z |> next) e ∙ ap (λ z. z |> next) (cases_leaf us))

  split : (c : Formula) (a b : held.Cases) → whole ≡ Branch c a b → (cases_of whole |> next) ≡ branch c (cases_of a |> next) (cases_of b |> next)
  split c a b e = ap (λ z. cases_of z |> next) e ∙ ap (λ z. z |> next) (cases_branch c a b)

  pub at_branch : (c : Formula) (a b p n : held.Cases) (y m w : Cases B) → whole ≡ Branch c a b → p ≡ a → n ≡ b
      → y ≡ (cases_of p |> next) → m ≡ (cases_of n |> next) → w ≡ branch c y m → w ≡ (cases_of whole |> next)
  at_branch c a b p n y m w e f g h i j =
      j ∙ ap (λ z. branch c z m) (h ∙ ap (λ z. cases_of z |> next) f) ∙ ap (branch c (cases_of a |> next)) (i ∙ ap (λ z. cases_of z |> next) g)
      ∙ sym (split c a b e)

-- ---- an atom under the conditions of its cases
module _ (next : List Term → Cases Formula) (whole : held.Cases) where
  pub formula_at_leaf : (us : List Term) (w : Formula) → whole ≡ Leaf us → w ≡ formula_of (next us) → w ≡ formula_of (cases_of whole |> next)
  formula_at_leaf us w e f = f ∙ ap formula_of (at_leaf next whole us (next us) e refl)

  pub formula_at_branch : (c : Formula) (a b p n : held.Cases) (y m w : Formula) → whole ≡ Branch c a b → p ≡ a → n ≡ b
      → y ≡ formula_of (cases_of p |> next) → m ≡ formula_of (cases_of n |> next) → w ≡ either_way c y m → w ≡ formula_of (cases_of whole |> next)
  formula_at_branch c a b p n y m w e f g h i j =
      j ∙ ap (λ z. either_way c z m) (h ∙ ap (λ z. formula_of (cases_of z |> next)) f)
      ∙ ap (either_way c (formula_of (cases_of a |> next))) (i ∙ ap (λ z. formula_of (cases_of z |> next)) g)
      ∙ sym (ap formula_of (split next whole c a b e))

-- ---- the same of what is answered
module _ {E : Type 0} (next : List Term → Cases (List Term)) (whole : held.Cases) (r : Result held.Cases E) where
  pub answer_at_leaf : (us : List Term) (v : Cases (List Term)) → whole ≡ Leaf us → v ≡ next us → IfOk r (λ w. cases_of w ≡ v) → IfOk r (λ w. cases_of w ≡ (cases_of whole |> next))
  answer_at_leaf us v e f h =
      IfOk-weaker r (λ w. cases_of w ≡ v) (λ w. cases_of w ≡ (cases_of whole |> next)) (λ w i. at_leaf next whole us (cases_of w) e (i ∙ f)) h

  pub answer_at_branch : (c : Formula) (a b p n : held.Cases) (taken denied : Result held.Cases E) → whole ≡ Branch c a b → p ≡ a → n ≡ b
      → IfOk taken (λ w. cases_of w ≡ (cases_of p |> next)) → IfOk denied (λ w. cases_of w ≡ (cases_of n |> next)) → IfOk r (IsChoice c taken denied)
      → IfOk r (λ w. cases_of w ≡ (cases_of whole |> next))
  answer_at_branch c a b p n taken denied e f g h i j =
      IfOk-weaker r (IsChoice c taken denied) (λ w. cases_of w ≡ (cases_of whole |> next))
      (λ w k. at_branch next whole c a b p n (cases_of k.0) (cases_of k.1) (cases_of w) e f g
      (subst (λ (z : Result held.Cases E). IfOk z (λ w. cases_of w ≡ (cases_of p |> next))) k.2.0 h)
      (subst (λ (z : Result held.Cases E). IfOk z (λ w. cases_of w ≡ (cases_of n |> next))) k.2.1 i) k.3) j

module _ {E : Type 0} (next : List Term → Cases Formula) (whole : held.Cases) (r : Result Formula E) where
  pub formula_answer_at_leaf : (us : List Term) → whole ≡ Leaf us → IfOk r (λ w. w ≡ formula_of (next us)) → IfOk r (λ w. w ≡ formula_of (cases_of whole |> next))
  formula_answer_at_leaf us e h =
      IfOk-weaker r (λ w. w ≡ formula_of (next us)) (λ w. w ≡ formula_of (cases_of whole |> next)) (λ w i. formula_at_leaf next whole us w e i) h

  pub formula_answer_at_branch : (c : Formula) (a b p n : held.Cases) (taken denied : Result Formula E) → whole ≡ Branch c a b → p ≡ a → n ≡ b
      → IfOk taken (λ w. w ≡ formula_of (cases_of p |> next)) → IfOk denied (λ w. w ≡ formula_of (cases_of n |> next)) → IfOk r (IsEitherWay c taken denied)
      → IfOk r (λ w. w ≡ formula_of (cases_of whole |> next))
  formula_answer_at_branch c a b p n taken denied e f g h i j =
      IfOk-weaker r (IsEitherWay c taken denied) (λ w. w ≡ formula_of (cases_of whole |> next))
      (λ w k. formula_at_branch next whole c a b p n k.0 k.1 w e f g
      (subst (λ (z : Result Formula E). IfOk z (λ w. w ≡ formula_of (cases_of p |> next))) k.2.0 h)
      (subst (λ (z : Result Formula E). IfOk z (λ w. w ≡ formula_of (cases_of n |> next))) k.2.1 i) k.3) j

-- ---- the conditions of one value, and then those of the next
same_next : {A B : Type 0} (f g : A → Cases B) → ((x : A) → f x ≡ g x) → (c : Cases A) → (c |> f) ≡ (c |> g)
same_next f g h (leaf x) = h x
same_next f g h (branch c a b) = ap (λ z. branch c z (b |> f)) (same_next f g h a) ∙ ap (branch c (a |> g)) (same_next f g h b)

in_turn : {A B C : Type 0} (f : A → Cases B) (g : B → Cases C) (c : Cases A) → ((c |> f) |> g) ≡ (c |> λ x. f x |> g)
in_turn f g (leaf x) = refl
in_turn f g (branch c a b) =
    ap (λ z. branch c z ((b |> f) |> g)) (in_turn f g a) ∙ ap (branch c (a |> λ x. f x |> g)) (in_turn f g b)

pub of_both : {A B : Type 0} (first next : Cases (List A)) (g : List A → Cases B)
    → ((first |> λ us. next |> λ vs. leaf (us ++ vs)) |> g) ≡ (first |> λ us. next |> λ vs. g (us ++ vs))
of_both first next g =
    in_turn (λ us. next |> λ vs. leaf (us ++ vs)) g first
    ∙ same_next (λ us. (next |> λ vs. leaf (us ++ vs)) |> g) (λ us. next |> λ vs. g (us ++ vs)) (λ us. in_turn (λ vs. leaf (us ++ vs)) g next) first
