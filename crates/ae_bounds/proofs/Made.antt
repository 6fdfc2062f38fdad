-- The combination of two rows at places of a list.
use Rattle.std.specs.Prelude.{ℕ, ◌<◌, ◌≡◌, List, Some, None, length, slice_get}
use Rattle.std.specs.List.{AllByRecursion}
use Rattle.std.proofs.Common.{sym, ap, ◌∙◌, subst, get_or}
use Rattle.std.proofs.lemmas.Option.{get_or_from_slice_get, slice_get-get_or}
use Rattle.ae_num.specs.Forms.{IsNormal, first_wide, combine_steps}
use Rattle.ae_journal.specs.declared.answers.WideAt.{WideAt}
use Rattle.ae_journal.proofs.Splits.{all_contained}
use Rattle.ae_bounds.specs.declared.rows.Row.{Row}
use Rattle.ae_bounds.specs.declared.rows.Origin.TheVariants.{Combined}
use Rattle.ae_bounds.specs.declared.combining.Opposed.{Opposed}
use Rattle.ae_bounds.specs.Combinations.{AreOpposed, IsCombinationOf, IsCombined, IsWideIn}
use Rattle.ae_bounds.specs.Inner.Pairs.{HaveLast, IsCombineWide, IsMadeOf}
use Rattle.ae_bounds.proofs.Closing.{opposed_lower, opposed_upper, one_opposed}

-- the row at a place
same_row : (rows : List Row) (i : ℕ) (p q : Row) → p ≡ get_or rows i p → slice_get rows i ≡ Some q → p ≡ q
same_row rows i p q e f = e ∙ get_or_from_slice_get rows i q p f

module _ (rows : List Row) (i j : ℕ) (p q : Row) (normal : AllByRecursion (λ (r : Row). IsNormal r.lin) rows) (li : i < length rows) (lj : j < length rows) (ei : p ≡ get_or rows i p) (ej : q ≡ get_or rows j q) where
  pub first_normal : IsNormal p.lin
  first_normal = all_contained (λ (r : Row). IsNormal r.lin) rows p normal (i, li, sym ei)

  pub second_normal : IsNormal q.lin
  second_normal = all_contained (λ (r : Row). IsNormal r.lin) rows q normal (j, lj, sym ej)

  opposed : (o : Opposed) → HaveLast p.lin q.lin o → AreOpposed rows i j p q o.name
  opposed o a = record {
    first_at = slice_get-get_or rows i p li ∙ ap Some (sym ei);
    second_at = slice_get-get_or rows j q lj ∙ ap Some (sym ej);
    below = opposed_lower p.lin q.lin o first_normal a;
    above = opposed_upper p.lin q.lin o second_normal a;
    normal = (first_normal, second_normal);
  }

  pub wide_in : (o : Opposed) (w : WideAt) → HaveLast p.lin q.lin o → IsCombineWide p.lin q.lin o.name w → IsWideIn rows w
  wide_in o w a h = record {
    name = o.name;
    lower = i;
    upper = j;
    first = p;
    second = q;
    opposed = opposed o a;
    step = h.step;
    left = h.left;
    key = h.key;
    right = h.right;
    wide = h.wide;
  }

  pub combined_in : (o : Opposed) (r : Row) → HaveLast p.lin q.lin o → r.from ≡ Combined i j → IsCombinationOf p q o.name r → first_wide (combine_steps p.lin o.name q.lin) ≡ None → IsCombined rows r
  combined_in o r a e m f = record { name = o.name; lower = i; upper = j; first = p; second = q; opposed = opposed o a; from = e; of = m; fits = f }

  pub made_of : (o : Opposed) (r : Row) → HaveLast p.lin q.lin o → IsCombinationOf p q o.name r → IsMadeOf rows i j r
  made_of o r a m = record {
    each = λ s t u f g h.
        let x : p ≡ s = same_row rows i p s ei f in
        let y : q ≡ t = same_row rows j q t ej g in
        let back : HaveLast p.lin q.lin u = subst (λ (k : Row). HaveLast k.lin q.lin u) (sym x) (subst (λ (k : Row). HaveLast s.lin k.lin u) (sym y) h) in
        let n : o.name ≡ u.name = one_opposed p.lin q.lin o u a back in
        subst (λ (k : ℕ). IsCombinationOf s t k r) n (subst (λ (k : Row). IsCombinationOf k t o.name r) x (subst (λ (k : Row). IsCombinationOf p k o.name r) y m));
  }

  pub not_opposed : ((o : Opposed) → ¬ HaveLast p.lin q.lin o) → (s t : Row) (u : Opposed) → slice_get rows i ≡ Some s → slice_get rows j ≡ Some t → HaveLast s.lin t.lin u → ⊥
  not_opposed none s t u f g h =
      let x : p ≡ s = same_row rows i p s ei f in
      let y : q ≡ t = same_row rows j q t ej g in
      none u (subst (λ (k : Row). HaveLast k.lin q.lin u) (sym x) (subst (λ (k : Row). HaveLast s.lin k.lin u) (sym y) h))
