-- Rows of some numbers, one by one.
use Rattle.std.specs.Prelude.{ℕ, zero, suc, List, [], ◌∷◌, ◌++◌, ◌≡◌, ◌<◌, Option, map, take, length}
use Rattle.std.specs.List.{AllByRecursion, Contains, flat_map}
use Rattle.std.proofs.Common.{refl, sym, ap, ◌∙◌, subst, get_or}
use Rattle.std.proofs.Math.Seq.{take-suc}
use Rattle.std.proofs.lemmas.Option.{same_Some}
use Rattle.ae_base.proofs.AllOf.{all_weaker}
use Rattle.ae_core.specs.declared.formulas.Lit.{Lit}
use Rattle.ae_journal.proofs.Splits.{contains_here, contains_later}
use Rattle.ae_ineq.specs.declared.solving.Inequality.{Inequality}
use Rattle.ae_ineq.specs.Sums.{Share}
use Rattle.ae_store.specs.Stores.{Stored}
use Rattle.ae_theory.specs.Noting.{IsBlockOf}
use Rattle.ae_theory.specs.Tagged.{Tagged}
use Rattle.ae_bounds.specs.declared.rows.Row.{Row as Kept}
use Rattle.ae_bound_blocks.specs.Ancestors.{hyps_of}
use Rattle.ae_bound_blocks.specs.Tight.{IsGivenRow, with_row, inequality_of, inequalities_at, AreTight}
use Rattle.ae_inequalities.specs.declared.rows.Row.{Row}
use Rattle.ae_inequalities.specs.Held.{Held, AreOfTags}
use Rattle.ae_inequalities.specs.Tight.{inequality, IsRowAt, AreTightRows}
use Rattle.ae_inequalities.specs.Inner.Numbered.{AreRowsAt}
use Rattle.ae_inequalities.proofs.Sources.{joined_tags}

module _ (s : Stored) (b : Held) where
  one_more : (ks : List ℕ) (rs : List Row) (k : ℕ) (r : Row) → AreRowsAt s b ks rs → IsRowAt s b k r → AreRowsAt s b (ks ++ k ∷ []) (rs ++ r ∷ [])
  one_more [] [] k r a i = (i, tt)
  one_more [] (x ∷ rs) k r a i = absurd a
  one_more (j ∷ ks) [] k r a i = absurd a
  one_more (j ∷ ks) (x ∷ rs) k r a i = (a.0, one_more ks rs k r a.1 i)

  pub rows_more : (all : List ℕ) (n it : ℕ) → n < length all → it ≡ get_or all n it → (old new : List Row) (r : Row) → AreRowsAt s b (take n all) old → IsRowAt s b it r → new ≡ old ++ r ∷ []
      → AreRowsAt s b (take (suc n) all) new
  rows_more all n it l e old new r a i p =
      subst (AreRowsAt s b (take (suc n) all)) (sym p)
      (subst (λ (ks : List ℕ). AreRowsAt s b ks (old ++ r ∷ [])) (ap (λ (w : ℕ). take n all ++ w ∷ []) e ∙ sym (take-suc all n it l)) (one_more (take n all) old it r a i))

  -- ---- the sum of the rows is that of the kept ones
  same_row : (k : ℕ) (r : Row) (i : IsRowAt s b k r) → inequality r ≡ inequality_of i.kept
  same_row k r i = λ j. record { lin = i.lin j; strict = i.strict j }

  same_rows : (ks : List ℕ) (rs : List Row) → AreRowsAt s b ks rs → map inequality rs ≡ inequalities_at b.rows ks
  same_rows [] [] a = refl
  same_rows [] (x ∷ rs) a = absurd a
  same_rows (k ∷ ks) [] a = absurd a
  same_rows (k ∷ ks) (r ∷ rs) a = (λ j. same_row k r a.0 j ∷ same_rows ks rs a.1 j) ∙ ap (λ (o : Option Kept). with_row o (inequalities_at b.rows ks)) (sym (a.0).at)

  each_row : (P : Row → Type 0) (numbers : List ℕ) → ((k : ℕ) (r : Row) → Contains numbers k → IsRowAt s b k r → P r) → (ks : List ℕ) (rs : List Row) → ((k : ℕ) → Contains ks k → Contains numbers k) → AreRowsAt s b ks rs
      → AllByRecursion P rs
  each_row P numbers f [] [] among a = tt
  each_row P numbers f [] (x ∷ rs) among a = absurd a
  each_row P numbers f (k ∷ ks) [] among a = absurd a
  each_row P numbers f (k ∷ ks) (r ∷ rs) among a = (f k r (among k (contains_here k ks)) a.0, each_row P numbers f ks rs (λ j c. among j (contains_later k ks j c)) a.1)

  pub tight_rows : (ks : List ℕ) (rs : List Row) → AreTight b.rows ks → AreRowsAt s b ks rs → AreTightRows s b rs
  tight_rows ks rs t a =
      let sum = t.tight.sum in
      record {
        each = each_row (λ (r : Row). (k : ℕ) × (i : IsRowAt s b k r) × IsGivenRow i.kept) ks (λ k r c i. let g = t.given k c in (k, i, subst IsGivenRow (same_Some g.0 i.kept (sym g.1 ∙ i.at)) g.2)) ks rs (λ k c. c) a;
        tight = record {
          form = t.tight.form;
          sum = record {
            shares = sum.shares;
            among = subst (λ (xs : List Inequality). AllByRecursion (λ (u : Share). Contains xs u.row) sum.shares) (sym (same_rows ks rs a)) sum.among;
            positive = sum.positive;
            same = sum.same;
            is_strict = sum.is_strict;
          };
          zero = t.tight.zero;
          some = t.tight.some;
        };
        shares = each_row (λ (r : Row). (u : Share) × Contains sum.shares u × (u.row ≡ inequality r)) ks (λ k r c i. let u = t.shares k i.kept c i.at in (u.0, u.1, u.2 ∙ sym (same_row k r i))) ks rs (λ k c. c) a;
      }

  -- ---- the hypotheses are the literals of the tags
  pub tight_literals : (assumed : List Tagged) (rs : List Row) → AreOfTags assumed b → AreTightRows s b rs → AllByRecursion (λ (r : Row). IsBlockOf assumed r.from.deriv.hyps r.from.tags) rs
  tight_literals assumed rs all t =
      all_weaker (λ (r : Row). (k : ℕ) × (i : IsRowAt s b k r) × IsGivenRow i.kept) (λ (r : Row). IsBlockOf assumed r.from.deriv.hyps r.from.tags)
      (λ r w.
      let i = w.1 in
      subst (λ (ls : List Lit). IsBlockOf assumed ls r.from.tags) (sym i.hyps) (subst (λ (ts : List ℕ). IsBlockOf assumed (flat_map (hyps_of b.given) i.used) ts) (sym i.tags) (joined_tags assumed b.given b.tags all i.used))) rs t.each
