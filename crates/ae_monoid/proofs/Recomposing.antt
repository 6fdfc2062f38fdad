-- A rule gets another right side.
use Rattle.std.specs.Prelude.{◌≡◌, ℕ, ◌<◌, List, length, Option, Some}
use Rattle.std.proofs.Common.{refl, sym, ap, ◌∙◌, subst, arith}
use native.Mathlib.Decide.{ℕ_discrete}
use Rattle.ae_multiset.specs.Multisets.{IsLess, count, rising}
use Rattle.ae_multiset.proofs.Counts.{same, back, length_same, less_same}
use Rattle.ae_multiset.proofs.Rising.{rising_rises}
use Rattle.ae_pmap.specs.Pairs.{with_at}
use Rattle.ae_pmap.proofs.PairLemmas.{at_same, at_other}
use Rattle.ae_monoid.specs.declared.chains.Link.{Link}
use Rattle.ae_monoid.specs.declared.rules.Kept.{Kept}
use Rattle.ae_monoid.specs.Rules.{IsWellKept, IsLargest}
use Rattle.ae_monoid.specs.Changes.{with_right}
use Rattle.ae_monoid.specs.Inner.Indexes.{AreIndexed}
use Rattle.ae_monoid.proofs.Orienting.{spelling_same}

pub well_with : (rule : Kept) (right : List ℕ) (just : ℕ) → IsWellKept rule → 0 < length right → IsLess right rule.entry.left → IsWellKept (with_right rule right just)
well_with rule right just w some l =
    let y = length_same (rising right) right (spelling_same right) in
    record {
      left_rises = w.left_rises;
      right_rises = rising_rises right;
      falls = less_same (back (spelling_same right)) (same rule.entry.left) l;
      some = omega (arith, some, y);
      two = w.two;
    }

module _ (kept after : ℕ → Option Kept) (number : ℕ) (rule new : Kept) (right : List ℕ) (just : ℕ) (there : kept number ≡ Some rule) (is : new ≡ with_right rule right just) (some : 0 < length right)
    (smaller : IsLess right rule.entry.left) (at : (n : ℕ) → after n ≡ with_at kept number (Some new) n) where
  -- each rule has the left side that it had
  pub record HasLeft (n : ℕ) (k : Kept) : Type 0 where
    pub old : Kept
    pub stood : kept n ≡ Some old
    pub left : old.entry.left ≡ k.entry.left

  has_left : (n : ℕ) (k : Kept) → after n ≡ Some k → HasLeft n k
  has_left n k e = by_same (ℕ_discrete n number)
    where
      by_same : Dec (n ≡ number) → HasLeft n k
      by_same (yes s) =
          let c : Some new ≡ Some k = sym (at_same kept number (Some new)) ∙ sym (at number) ∙ sym (ap after s) ∙ e in
          let f : new ≡ k = cc in
          record { old = rule; stood = ap kept s ∙ there; left = sym (ap (λ (j : Kept). j.entry.left) is) ∙ ap (λ (j : Kept). j.entry.left) f }
      by_same (no d) = record { old = k; stood = sym (at_other kept number (Some new) n d) ∙ sym (at n) ∙ e; left = refl }

  pub indexed_composed : (next : ℕ) (largest elements : ℕ → Option ℕ) (links : List Link) → AreIndexed kept next largest elements links → AreIndexed after next largest elements links
  indexed_composed next largest elements links i = record {
    are_rules = record {
      well = λ n k e. well_by n k e (ℕ_discrete n number);
      below = λ n k e. let h = has_left n k e in i.are_rules.below n h.old h.stood;
    };
    room = i.room;
    are_linked = i.are_linked;
    largest_heads = i.largest_heads;
    elements_heads = i.elements_heads;
    by_largest = λ n x k e y. let h = has_left n k e in i.by_largest n x h.old h.stood (subst (λ (l : List ℕ). IsLargest x l) (sym h.left) y);
    by_element = λ n x k e c. let h = has_left n k e in i.by_element n x h.old h.stood (subst (λ (l : List ℕ). 0 < count x l) (sym h.left) c);
    only_element = λ n x k e o. let h = has_left n k e in subst (λ (l : List ℕ). 0 < count x l) h.left (i.only_element n x h.old h.stood o);
    only_largest = λ n x k e o. let h = has_left n k e in subst (λ (l : List ℕ). IsLargest x l) h.left (i.only_largest n x h.old h.stood o);
    largest_given = i.largest_given;
    elements_given = i.elements_given;
  }
    where
      well_by : (n : ℕ) (k : Kept) → after n ≡ Some k → Dec (n ≡ number) → IsWellKept k
      well_by n k e (yes s) =
          let c : Some new ≡ Some k = sym (at_same kept number (Some new)) ∙ sym (at number) ∙ sym (ap after s) ∙ e in
          let f : new ≡ k = cc in
          subst IsWellKept (sym is ∙ f) (well_with rule right just (i.are_rules.well number rule there) some smaller)
      well_by n k e (no d) = i.are_rules.well n k (sym (at_other kept number (Some new) n d) ∙ sym (at n) ∙ e)

  pub composed_rule : (old : Kept) → kept number ≡ Some old → after number ≡ Some (with_right old right just)
  composed_rule old e =
      let c : Some rule ≡ Some old = sym there ∙ e in
      let f : rule ≡ old = cc in
      at number ∙ at_same kept number (Some new) ∙ ap Some (is ∙ ap (λ (j : Kept). with_right j right just) f)
