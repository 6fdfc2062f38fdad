-- Rows that are added one after the other until one can't hold.
use Rattle.std.specs.Prelude.{ℕ, ◌+◌, ◌<◌, ◌≡◌, List, [], ◌∷◌, ◌++◌, length, take}
use Rattle.std.specs.List.{Contains}
use Rattle.std.proofs.Common.{arith, sym, ap, ◌∙◌, subst, inl, inr, length-append}
use Rattle.std.proofs.lemmas.List.{take-append-le}
use Rattle.std.proofs.lemmas.List.Elements.{Contains-append_cases}
use Rattle.std.proofs.Math.Seq.{take-append_seam}
use native.Mathlib.Decide.{dec_lt}
use Rattle.ae_num.specs.Forms.{meaning}
use Rattle.ae_journal.specs.declared.lines.Line.{Line}
use Rattle.ae_journal.proofs.Splits.{contains_one}
use Rattle.ae_ineq.specs.Sums.{IsRefuted}
use Rattle.ae_bounds.specs.declared.rows.Row.{Row}
use Rattle.ae_bounds.specs.Combinations.{IsExtended}
use Rattle.ae_bounds.specs.Findings.{NoneIsRefuted, StopsAtRefuted}
use Rattle.ae_bounds.specs.Inner.Pairs.{IsOneMore}
use Rattle.ae_bounds.proofs.Closing.{grown}

pub stops_same : (rows : List Row) → StopsAtRefuted rows rows
stops_same rows k l m = absurd (omega (arith, l, m))

pub stops_one : (rows new : List Row) → NoneIsRefuted rows → IsOneMore rows new → StopsAtRefuted rows new
stops_one rows new none (inl e) k l m = absurd (let n : length new ≡ length rows = ap (λ (w : List Row). length w) e in omega (arith, l, m, n))
stops_one rows new none (inr (r, e)) k l m =
    let n : length new ≡ length (rows ++ r ∷ []) = ap (λ (w : List Row). length w) e in
    let a : length (rows ++ r ∷ []) ≡ length rows + 1 = length-append rows (r ∷ []) in
    let s : k ≡ length rows = omega (arith, l, m, n, a) in
    subst (λ (w : List Row). NoneIsRefuted w) (sym (ap (λ (w : List Row). take k w) e ∙ ap (λ (i : ℕ). take i (rows ++ r ∷ [])) s ∙ take-append_seam rows (r ∷ []))) none

pub stops_on : (a b d : List Row) (js ks : List Line) → IsExtended b js d ks → StopsAtRefuted a b → StopsAtRefuted b d → StopsAtRefuted a d
stops_on a b d js ks e f g k l m = by_place (dec_lt k (length b))
  where
    by_place : Dec (k < length b) → NoneIsRefuted (take k d)
    by_place (yes n) =
        let h = grown b js d ks e in
        subst (λ (w : List Row). NoneIsRefuted w) (sym (ap (λ (w : List Row). take k w) h.1 ∙ take-append-le k b h.0 (omega (arith, n)))) (f k l n)
    by_place (no n) = g k (omega (arith, n)) m

-- the last row is looked at
pub possible_one : (rows new : List Row) → NoneIsRefuted rows → IsOneMore rows new → ((front : List Row) (r : Row) → new ≡ front ++ r ∷ [] → IsRefuted r.strict (meaning r.lin) → ⊥) → NoneIsRefuted new
possible_one rows new none (inl e) last t c h = none t (subst (λ (w : List Row). Contains w t) e c) h
possible_one rows new none (inr (r, e)) last t c h =
    elim (Contains-append_cases rows (r ∷ []) t (subst (λ (w : List Row). Contains w t) e c)) [
      | inl a ↦ none t a h
      | inr a ↦ last rows r e (subst (λ (y : Row). IsRefuted y.strict (meaning y.lin)) (sym (contains_one r t a)) h)
    ]
