-- The quantifiers of formulas that weren't seen: how they change with the list, and with what was seen.
use Rattle.std.specs.Prelude.{◌+◌, ◌≤◌, ◌≡◌, ◌≢◌, Bool, true, false, cond, ◌||◌, List, [], ◌∷◌, ◌++◌, map, sum_by}
use Rattle.std.specs.List.{Contains}
use Rattle.std.proofs.Common.{refl, sym, ap, ◌∙◌, subst, arith, inl, inr}
use Rattle.std.proofs.lemmas.List.Sums.{sum_by-cons}
use Rattle.ae_base.specs.Decided.{decided}
use Rattle.ae_base.proofs.Decided.{decided_of, decided_not}
use Rattle.ae_base.proofs.Tests.{true_false, by_bool, or_swap}
use Rattle.ae_block_constants.specs.declared.opened.Opened.{Opened}
use Rattle.ae_core.specs.Decided.{Formula_discrete}
use Rattle.ae_core.specs.declared.formulas.Formula.{Formula}
use Rattle.ae_journal.proofs.Splits.{contains_here, contains_later, contains_cases}
use Rattle.ae_block_counts.specs.Counts.{quantifiers, is_among, unseen_quantifiers}

-- ---- being among formulas
abbrev same : Formula → Formula → Bool
same h f = decided (Formula_discrete h f)

pub among_here : (s : List Formula) (f : Formula) → is_among (f ∷ s) f ≡ true
among_here s f = ap (λ b. b || is_among s f) (decided_of (Formula_discrete f f) refl)

among_rest : (s : List Formula) (h f : Formula) → h ≢ f → is_among (h ∷ s) f ≡ is_among s f
among_rest s h f n = ap (λ b. b || is_among s f) (decided_not (Formula_discrete h f) n)

not_among : (s : List Formula) (h f : Formula) → is_among (h ∷ s) f ≡ false → (h ≢ f) × (is_among s f ≡ false)
not_among s h f e =
    let n : h ≢ f = λ q. true_false (sym (ap (λ b. b || is_among s f) (decided_of (Formula_discrete h f) q)) ∙ e) in
    (n, sym (among_rest s h f n) ∙ e)

abbrev HaveSame : List Formula → List Formula → Type 0
HaveSame s t = (x : Formula) → is_among s x ≡ is_among t x

pub same_unseen : (fs s t : List Formula) → HaveSame s t → unseen_quantifiers s fs ≡ unseen_quantifiers t fs
same_unseen [] s t e = refl
same_unseen (f ∷ fs) s t e = λ i. cond (e f i) (same_unseen fs s t e i) (quantifiers f + same_unseen fs (f ∷ s) (f ∷ t) (λ x. ap (λ b. same f x || b) (e x)) i)

-- ---- a formula more
module _ (s : List Formula) (f : Formula) (fs : List Formula) where
  pub seen_already : is_among s f ≡ true → unseen_quantifiers s (f ∷ fs) ≡ unseen_quantifiers s fs
  seen_already e = ap (λ b. cond b (unseen_quantifiers s fs) (quantifiers f + unseen_quantifiers (f ∷ s) fs)) e

  pub unseen_yet : is_among s f ≡ false → unseen_quantifiers s (f ∷ fs) ≡ quantifiers f + unseen_quantifiers (f ∷ s) fs
  unseen_yet e = ap (λ b. cond b (unseen_quantifiers s fs) (quantifiers f + unseen_quantifiers (f ∷ s) fs)) e

-- what seeing a formula of the list takes away
pub taken : (gs s : List Formula) (f : Formula) → Contains gs f → is_among s f ≡ false → unseen_quantifiers s gs ≡ quantifiers f + unseen_quantifiers (f ∷ s) gs
taken [] s f c n = absurd (omega (arith, c.1))
taken (h ∷ gs) s f c n =
    elim (Formula_discrete h f) as (λ _. unseen_quantifiers s (h ∷ gs) ≡ quantifiers f + unseen_quantifiers (f ∷ s) (h ∷ gs)) [
      | yes e ↦ subst (λ (z : Formula). unseen_quantifiers s (z ∷ gs) ≡ quantifiers f + unseen_quantifiers (f ∷ s) (z ∷ gs)) (sym e)
          (unseen_yet s f gs n ∙ ap (λ v. quantifiers f + v) (sym (seen_already (f ∷ s) f gs (among_here s f))))
      | no d ↦
          let r : Contains gs f = elim (contains_cases h gs f c) as (λ _. Contains gs f) [ inl e ↦ absurd (d e) | inr r ↦ r ] in
          let o : is_among (f ∷ s) h ≡ is_among s h = among_rest s f h (λ e. d (sym e)) in
          by_bool (is_among s h)
          (λ e. seen_already s h gs e ∙ taken gs s f r n ∙ ap (λ v. quantifiers f + v) (sym (seen_already (f ∷ s) h gs (o ∙ e))))
          (λ e. let a = unseen_yet s h gs e in
          let b = unseen_yet (f ∷ s) h gs (o ∙ e) in
          let k = taken gs (h ∷ s) f r (among_rest s h f d ∙ n) in
          let w = same_unseen gs (f ∷ h ∷ s) (h ∷ f ∷ s) (λ x. or_swap (same f x) (same h x) (is_among s x)) in
          omega (arith, a, b, k, w))
    ]

-- ---- lists with more
pub within : (fs gs s t : List Formula) → ((x : Formula) → Contains fs x → is_among s x ≡ false → Contains gs x × (is_among t x ≡ false)) → unseen_quantifiers s fs ≤ unseen_quantifiers t gs
within [] gs s t h = omega arith
within (f ∷ fs) gs s t h =
    by_bool (is_among s f)
    (λ e. let k = within fs gs s t (λ x c n. h x (contains_later f fs x c) n) in
    let a = seen_already s f fs e in
    omega (arith, k, a))
    (λ e. let w = h f (contains_here f fs) e in
    let k = within fs gs (f ∷ s) (f ∷ t) (λ x c n. let d = not_among s f x n in let g = h x (contains_later f fs x c) d.1 in (g.0, among_rest t f x d.0 ∙ g.1)) in
    let a = unseen_yet s f fs e in
    let b = taken gs t f w.0 w.1 in
    omega (arith, k, a, b))

pub joined : (fs gs s : List Formula) → unseen_quantifiers s (fs ++ gs) ≤ unseen_quantifiers s fs + unseen_quantifiers s gs
joined [] gs s = omega arith
joined (f ∷ fs) gs s =
    by_bool (is_among s f)
    (λ e. let k = joined fs gs s in
    let a = seen_already s f (fs ++ gs) e in
    let b = seen_already s f fs e in
    omega (arith, k, a, b))
    (λ e. let k = joined fs gs (f ∷ s) in
    let m = within gs gs (f ∷ s) s (λ x c n. (c, (not_among s f x n).1)) in
    let a = unseen_yet s f (fs ++ gs) e in
    let b = unseen_yet s f fs e in
    omega (arith, k, m, a, b))

pub at_most_all : (fs s : List Formula) → unseen_quantifiers s fs ≤ sum_by quantifiers fs
at_most_all [] s = omega arith
at_most_all (f ∷ fs) s =
    let t = sum_by-cons quantifiers f fs in
    by_bool (is_among s f)
    (λ e. let k = at_most_all fs s in let a = seen_already s f fs e in omega (arith, t, k, a))
    (λ e. let k = at_most_all fs (f ∷ s) in let a = unseen_yet s f fs e in omega (arith, t, k, a))

-- ---- what was opened
abbrev pub block_of : Opened → Formula
block_of o = o.formula

pub opened_more : (opened : List Opened) (o : Opened) → HaveSame (map block_of (opened ++ o ∷ [])) (o.formula ∷ map block_of opened)
opened_more [] o x = refl
opened_more (e ∷ opened) o x = ap (λ b. same e.formula x || b) (opened_more opened o x) ∙ or_swap (same e.formula x) (same o.formula x) (is_among (map block_of opened) x)

pub not_opened : (opened : List Opened) (f : Formula) → ((e : Opened) → Contains opened e → e.formula ≢ f) → is_among (map block_of opened) f ≡ false
not_opened [] f n = refl
not_opened (e ∷ opened) f n = among_rest (map block_of opened) e.formula f (n e (contains_here e opened)) ∙ not_opened opened f (λ d c. n d (contains_later e opened d c))
