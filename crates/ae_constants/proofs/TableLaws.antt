-- The forms of names: of the earlier ones, of the next one by its node, and one more.
use Rattle.std.specs.Prelude.{ℕ, ℤ, zero, suc, ◌<◌, ◌≤◌, ◌≡◌, List, [], ◌∷◌, ◌++◌, map, length, slice_get, Some}
use Rattle.std.specs.List.{AllByRecursion}
use Rattle.std.proofs.Common.{get_or, refl, subst, sym, ap, ◌∙◌, arith, length-append, inl, inr}
use Rattle.std.proofs.lemmas.List.{append_assoc, length-map}
use Rattle.std.proofs.lemmas.Option.{slice_get-get_or, slice_get_within}
use Rattle.ae_base.proofs.AllOf.{all_weaker}
use Rattle.ae_base.proofs.ListFacts.{get_map, value_at}
use Rattle.ae_core.specs.Sorts.{same_sort}
use Rattle.ae_core.specs.declared.terms.Sort.{Real}
use Rattle.ae_core.specs.declared.terms.Head.{Head}
use Rattle.ae_core.specs.declared.terms.Term.{Term, Num, Fresh, Apply}
use Rattle.ae_core.specs.declared.problems.Signature.{Signature}
use Rattle.ae_math.specs.Fractions.{ℚ, ratio}
use Rattle.ae_math.specs.Forms.{number, single}
use Rattle.ae_rules.specs.Linear.{form, IsSame, ruled, rule_of}
use Rattle.ae_rules.proofs.LinearLaws.{form-Apply, form-Num, form-Fresh}
use Rattle.ae_store.specs.declared.nodes.Node.{Node}
use Rattle.ae_store.specs.declared.nodes.NodeHead.{NodeHead}
use Rattle.ae_store.specs.declared.nodes.NodeHead.TheVariants as node
use Rattle.ae_store.specs.Growing.{IsFront}
use Rattle.ae_store.specs.Shapes.{shapes, shape_of}
use Rattle.ae_store.specs.Stores.{IsStore}
use Rattle.ae_store.specs.Terms.{named, terms, IsPlaced, Keeps}
use Rattle.ae_store.proofs.Gets.{get_pushed}
use Rattle.ae_store.proofs.StoreLaws.{number_term, fresh_term, applied_term_at, name_term}
use Rattle.ae_store.proofs.TermLaws.{length_terms}
use Rattle.ae_constants.specs.declared.forms.ExactForm.{ExactForm}
use Rattle.ae_constants.specs.declared.rules.Computed.{Computed}
use Rattle.ae_constants.specs.Forms.{meaning, over_terms, IsExact}
use Rattle.ae_constants.specs.Rules.{IsHeadOf, standing_for}
use Rattle.ae_constants.specs.Tables.{AreForms, with_form}
use Rattle.ae_constants.proofs.ExactLaws.{exact_wider}

-- an earlier name's form, over names up to the next one
pub form_at : (ts : List Term) (fs : List ExactForm) (a : ℕ) (f d : ExactForm) → AreForms ts fs → a < length fs → f ≡ get_or fs a d → IsExact ts (suc (length fs)) (form (named ts a)) (meaning f)
form_at ts fs a f d e l is =
    exact_wider ts (suc a) (suc (length fs)) (form (named ts a)) (meaning f) (omega arith) (e.each a f (slice_get-get_or fs a d l ∙ ap Some (sym is)))

-- ---- the term of a name, by its node
pub count_terms : (ns : List Node) → length (terms (shapes ns)) ≡ length ns
count_terms ns = length_terms (shapes ns) ∙ length-map ns shape_of

module _ (sig : Signature) (ns : List Node) (s : IsStore sig ns) where
  placed : IsPlaced (shapes ns)
  placed = record { args = λ i x e. (s.sound.places i x e).args }

  by_head : (a : ℕ) (x : Node) → slice_get ns a ≡ Some x → (h : NodeHead) → x.head ≡ h → IsHeadOf h (named (terms (shapes ns)) a)
  by_head a x e (node.Of h) i =
      let us = map (named (terms (shapes ns))) x.args in
      (x.sorts, us, name_term (terms (shapes ns)) a (Apply h x.sorts us) (applied_term_at ns placed a x e h x.sorts us i refl refl))
  by_head a x e (node.Num p q) i =
      let real = same_sort x.sort Real in (real, name_term (terms (shapes ns)) a (Num p q real) (number_term ns placed a x e p q (Num p q real) i refl))
  by_head a x e (node.Fresh k) i = (x.sort, name_term (terms (shapes ns)) a (Fresh k x.sort) (fresh_term ns placed a x e k x.sort i refl))

  pub head_of_name : (a : ℕ) (x : Node) → slice_get ns a ≡ Some x → IsHeadOf x.head (named (terms (shapes ns)) a)
  head_of_name a x e = by_head a x e x.head refl

  pub args_below : (a : ℕ) (x : Node) → slice_get ns a ≡ Some x → AllByRecursion (λ b. b < a) x.args
  args_below a x e = placed.args a (shape_of x) (get_map shape_of ns a x e)

  forms_of : (ts : List Term) (names : List ℕ) → map (λ t. (t, form t)) (map (named ts) names) ≡ map (with_form ts) names
  forms_of ts [] = refl
  forms_of ts (a ∷ names) = λ i. with_form ts a ∷ forms_of ts names i

  pub applied_form : (a : ℕ) (x : Node) (h : Head) (k : Computed) → slice_get ns a ≡ Some x → x.head ≡ node.Of h → rule_of h (map (with_form (terms (shapes ns))) x.args) ≡ standing_for (with_form (terms (shapes ns))) k
      → form (named (terms (shapes ns)) a) ≡ ruled (named (terms (shapes ns)) a) (standing_for (with_form (terms (shapes ns))) k)
  applied_form a x h k e i r =
      let ts = terms (shapes ns) in
      let us = map (named ts) x.args in
      let term : named ts a ≡ Apply h x.sorts us = name_term ts a (Apply h x.sorts us) (applied_term_at ns placed a x e h x.sorts us i refl refl) in
      ap form term ∙ form-Apply h x.sorts us ∙ ap (λ ps. ruled (Apply h x.sorts us) (rule_of h ps)) (forms_of ts x.args) ∙ ap (ruled (Apply h x.sorts us)) r
      ∙ ap (λ t. ruled t (standing_for (with_form ts) k)) (sym term)

pub numeral_form : (t : Term) (p q : ℤ) → IsHeadOf (node.Num p q) t → form t ≡ number (ratio p q)
numeral_form t p q j = ap form j.1 ∙ form-Num p q j.0

pub fresh_form : (t : Term) (k : ℕ) → IsHeadOf (node.Fresh k) t → form t ≡ single t
fresh_form t k j = ap form j.1 ∙ form-Fresh k j.0 ∙ ap single (sym j.1)

-- ---- one form more
pub forms_push : (ts : List Term) (fs : List ExactForm) (f : ExactForm) → AreForms ts fs → length fs < length ts → IsExact ts (suc (length fs)) (form (named ts (length fs))) (meaning f)
    → AreForms ts (fs ++ f ∷ [])
forms_push ts fs f e l x = record {
  within = omega (arith, length-append fs (f ∷ []));
  each = λ n g h. elim (get_pushed fs f n g h) [
    | inl old ↦ e.each n g old
    | inr new ↦ subst (λ m. IsExact ts (suc m) (form (named ts m)) (meaning g)) (sym new.0) (subst (λ k. IsExact ts (suc (length fs)) (form (named ts (length fs))) (meaning k)) new.1 x)
  ];
}

pub front_more : (old new : List ExactForm) (f : ExactForm) → IsFront old new → IsFront old (new ++ f ∷ [])
front_more old new f w = (w.0 ++ f ∷ [], ap (λ xs. xs ++ f ∷ []) w.1 ∙ append_assoc old w.0 (f ∷ []))

-- ---- where each term keeps its name
module _ (old new : List Term) (k : Keeps old new) where
  keeps_count : (n : ℕ) → n ≤ length old → n ≤ length new
  keeps_count zero h = omega arith
  keeps_count (suc n) h = let g = value_at old n (omega arith) in omega (arith, slice_get_within new n g.0 (k n g.0 g.1))

  same_named : (a : ℕ) → a < length old → named new a ≡ named old a
  same_named a h = let g = value_at old a h in name_term new a g.0 (k a g.0 g.1) ∙ sym (name_term old a g.0 g.1)

  same_parts : (ps : List (ℕ × ℚ)) → AllByRecursion (λ p. p.0 < length old) ps → map {B = Term × ℚ} (λ p. (named new p.0, p.1)) ps ≡ map (λ p. (named old p.0, p.1)) ps
  same_parts [] u = refl
  same_parts (p ∷ ps) u = λ i. (same_named p.0 u.0 i, p.1) ∷ same_parts ps u.1 i

  pub forms_stay : (fs : List ExactForm) → AreForms old fs → AreForms new fs
  forms_stay fs e = record {
    within = keeps_count (length fs) e.within;
    each = λ n f at.
        let x = e.each n f at in
        let l : suc n ≤ length old = omega (arith, slice_get_within fs n f at, e.within) in
        let under = all_weaker (λ p. p.0 < suc n) (λ p. p.0 < length old) (λ p h. omega arith) (meaning f).parts x.within in
        let over : over_terms new (meaning f) ≡ over_terms old (meaning f) = λ i. record { parts = same_parts (meaning f).parts under i; constant = (meaning f).constant } in
        record {
          settled = x.settled;
          within = x.within;
          means = subst (λ g. IsSame g (form (named new n))) (sym over) (subst (IsSame (over_terms old (meaning f))) (ap form (sym (same_named n l))) x.means);
        };
  }
