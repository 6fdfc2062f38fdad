-- What every normal form function of rules that decrease and whose overlaps join does.
use Rattle.std.proofs.Common.{◌≡◌, ℕ, List, ◌++◌, sym, ◌∙◌, arith}
use Rattle.std.specs.List.Sorted.{IsNonDecreasing}
use Rattle.ae_multiset.specs.Multisets.{IsSame}
use Rattle.ae_multiset.specs.Rewriting.{ReducesTo, IsLinked, IsReduced, Decreases, OverlapsJoin, IsNormalForm}
use Rattle.ae_multiset.specs.Rewriting.ReducesTo.{done, more}
use Rattle.ae_multiset.specs.Rewriting.IsLinked.{alike, down, up}
use Rattle.ae_multiset.proofs.Counts.{count-append, back}
use Rattle.ae_multiset.proofs.Rising.{one_spelling}
use Rattle.ae_multiset.proofs.Confluence.{only_answer, wider}

pub linked_from : (R : List ℕ → List ℕ → Type 0) {a b : List ℕ} → ReducesTo R a b → IsLinked R a b
linked_from R (done p) = alike p
linked_from R (more s f) = down s (linked_from R f)

pub linked_then : (R : List ℕ → List ℕ → Type 0) {a b c : List ℕ} → IsLinked R a b → ReducesTo R b c → IsLinked R a c
linked_then R {a} {b} {c} (alike p) (done q) = alike (record { each = λ x. p.each x ∙ q.each x })
linked_then R (alike p) (more s f) =
    down (record { left = s.left; right = s.right; rule = s.rule; rest = s.rest; before = record { each = λ x. p.each x ∙ s.before.each x }; after = s.after }) (linked_from R f)
linked_then R (down s l) f = down s (linked_then R l f)
linked_then R (up s l) f = up s (linked_then R l f)

module _ (R : List ℕ → List ℕ → Type 0) (decreases : Decreases R) (overlaps : OverlapsJoin R) (nf : List ℕ → List ℕ) (normal : IsNormalForm R nf) where
  -- the one reduced multiset that is linked to it, in its one rising spelling
  pub nf_only : (a b : List ℕ) → IsLinked R a b → IsReduced R b → IsNonDecreasing b → nf a ≡ b
  nf_only a b l r w = one_spelling (nf a) b (normal.rises a) w (back (only_answer R overlaps decreases a b (nf a) (normal.follows a) (normal.reduced a) r l))

  pub nf_linked : (a b : List ℕ) → IsLinked R a b → nf a ≡ nf b
  nf_linked a b l = nf_only a (nf b) (linked_then R l (normal.follows b)) (normal.reduced b) (normal.rises b)

  pub nf_same : (a b : List ℕ) → IsSame a b → nf a ≡ nf b
  nf_same a b s = nf_linked a b (alike s)

  -- a part may be reduced first
  pub nf_first : (a b : List ℕ) → nf (nf a ++ b) ≡ nf (a ++ b)
  nf_first a b = sym (nf_linked (a ++ b) (nf a ++ b) (linked_from R (wider R b (normal.follows a))))

  swapped : (a b : List ℕ) → IsSame (a ++ b) (b ++ a)
  swapped a b = record { each = λ x. omega (arith, count-append x a b, count-append x b a) }

  pub nf_second : (a b : List ℕ) → nf (a ++ nf b) ≡ nf (a ++ b)
  nf_second a b = nf_same (a ++ nf b) (nf b ++ a) (swapped a (nf b)) ∙ nf_first b a ∙ nf_same (b ++ a) (a ++ b) (swapped b a)

  -- another one is the same function
  pub nf_one : (other : List ℕ → List ℕ) → IsNormalForm R other → (a : List ℕ) → nf a ≡ other a
  nf_one other o a = nf_only a (other a) (linked_from R (o.follows a)) (o.reduced a) (o.rises a)
