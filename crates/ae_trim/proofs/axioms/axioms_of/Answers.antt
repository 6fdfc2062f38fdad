use Rattle.std.proofs.Common.{◌∙◌, sym, ap, subst}
use Rattle.std.specs.List.{Contains}
use Rattle.std.specs.List.Sorted.{IsStrictlyIncreasing}
use Rattle.std.proofs.lemmas.List.Filters.{dedup_is}
use Rattle.std.proofs.lemmas.List.Kept.{Contains-dedup_nat, Contains-from_dedup}
use Rattle.std.proofs.lemmas.List.Sorted.{Contains-permutation, IsPermutation-sym}
use Rattle.std.proofs.lemmas.Map.Keys.{IsStrictlyIncreasing-dedup}
use Rattle.ae_trim.specs.Axioms.{axioms_in}
use Rattle.ae_trim.proofs.axioms.axioms_of.Goals as goal

pub returns : goal.returns
returns c =
    let named = c.in_ok-places.ensures ∙ ap axioms_in c.as_slice.ensures in
    let is = dedup_is _ _ _ c.dedup.ensures.filtered in
    let moved = c.sort_unstable.ensures.permutation in
    let out = c.from_vec.ensures ∙ is in
    record {
      rising = subst IsStrictlyIncreasing (sym out) (IsStrictlyIncreasing-dedup _ c.sort_unstable.ensures.sorted);
      each = λ k. (
        λ h. subst (λ z. Contains z k) named (Contains-permutation _ _ k (IsPermutation-sym _ _ moved) (Contains-from_dedup _ _ k (subst (λ z. Contains z k) out h))),
        λ h. subst (λ z. Contains z k) (sym out) (Contains-dedup_nat _ k (Contains-permutation _ _ k moved (subst (λ z. Contains z k) (sym named) h))),
      );
    }
