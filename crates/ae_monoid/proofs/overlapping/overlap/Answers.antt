use Rattle.std.specs.Prelude.{◌≡◌, ℕ, List, [], ◌∷◌, ◌++◌, length, ◌==◌, true, false}
use Rattle.std.specs.List.Sorted.{IsNonDecreasing}
use Rattle.std.proofs.Common.{sym, ap, ◌∙◌, subst}
use Rattle.ae_multiset.specs.Multisets.{IsSame, minus, common}
use Rattle.ae_monoid.proofs.Deducing.{shares_nothing, deduced, none_of_length, some_of_length}
use Rattle.ae_monoid.proofs.overlapping.overlap.Goals as goal

spelled : (one : List ℕ) (l m : List ℕ) → l ≡ m → IsSame one l → IsSame one m
spelled one l m e s = subst (λ (x : List ℕ). IsSame one x) e s

pub returns-then-is_empty-clause-none : goal.returns-then-is_empty-clause-none
returns-then-is_empty-clause-none c =
    shares_nothing c.args.first.now c.args.second.now c.in_ok-both.both.items
    (spelled c.in_ok-both.both.items _ _ (λ i. common (c.as_slice.ensures i) (c.as_slice-2.ensures i)) c.in_ok-both.ensures.names)
    (none_of_length c.in_ok-both.both.items (subst (λ (l : List ℕ). true ≡ (length l == 0)) c.as_slice-shared.ensures.value c.if-is_empty.ensures))

pub returns-clause-some : goal.returns-clause-some
returns-clause-some c =
    let first = c.args.first.now in
    let second = c.args.second.now in
    let both = c.in_ok-both.both.items in
    deduced first second both (spelled both _ _ (λ i. common (c.as_slice.ensures i) (c.as_slice-2.ensures i)) c.in_ok-both.ensures.names)
    (some_of_length both (subst (λ (l : List ℕ). false ≡ (length l == 0)) c.as_slice-shared.ensures.value c.if-is_empty.ensures)) _ c.in_ok-copy_symbol.ensures
    (subst (λ (l : List ℕ). IsSame l (first.entry.right ++ minus second.entry.left both)) (sym c.from_vec.ensures)
    (subst (λ (s : List ℕ). IsSame c.in_ok-left.left.items (first.entry.right ++ minus second.entry.left s)) c.as_slice-shared.ensures.value c.in_ok-left.ensures.names))
    (subst (λ (l : List ℕ). IsSame l (second.entry.right ++ minus first.entry.left both)) (sym c.from_vec-2.ensures)
    (subst (λ (s : List ℕ). IsSame c.in_ok-right.right.items (second.entry.right ++ minus first.entry.left s)) c.as_slice-shared.ensures.value c.in_ok-right.ensures.names))
    (subst IsNonDecreasing (sym c.from_vec.ensures) c.in_ok-left.ensures.rises) (subst IsNonDecreasing (sym c.from_vec-2.ensures) c.in_ok-right.ensures.rises)
    (c.in_ok-push-2.ensures.ok ∙ ap (λ (l : List ℕ). l ++ second.just ∷ []) (c.in_ok-push.ensures.ok ∙ ap (λ (l : List ℕ). l ++ first.just ∷ []) c.new-justs.ensures))
