-- A row that was noted and added, or not.
use Rattle.std.specs.Prelude.{ℕ, pos, ◌≡◌, ◌≢◌, List, [], ◌∷◌, ◌++◌, Result, Ok, Err, OnOk, OnErr}
use Rattle.std.proofs.Common.{sym, ap, subst, inl, inr}
use Rattle.std.proofs.lemmas.List.Elements.{Contains-append_right}
use native.Mathlib.Decide.{ℕ_discrete}
use Rattle.ae_math.specs.Fractions.{one_ℚ}
use Rattle.ae_math.proofs.FormLaws.{scale_one}
use Rattle.ae_num.specs.Forms.{meaning, IsNormal}
use Rattle.ae_rows.proofs.Choosing.{positive_one}
use Rattle.ae_journal.specs.Noted.{Noted}
use Rattle.ae_journal.specs.declared.lines.Line.{Line}
use Rattle.ae_journal.specs.declared.lines.Line.TheVariants as line
use Rattle.ae_journal.proofs.Splits.{contains_here}
use Rattle.ae_ineq.specs.Sums.{IsZero}
use Rattle.ae_bounds.specs.declared.rows.Row.{Row}
use Rattle.ae_bounds.specs.declared.rows.Origin.TheVariants.{Combined}
use Rattle.ae_theory.specs.declared.theory.Fail.{Fail}
use Rattle.ae_bounds.specs.Combinations.{IsThere, IsCombined, IsExtended, HasZero, IsHeld}
use Rattle.ae_bounds.specs.Inner.Pairs.{IsMadeOf, IsPairThere, IsOneMore}
use Rattle.ae_bounds.proofs.OwnForms.{own_combined}
use Rattle.ae_bounds.proofs.Zeros.{form_zero}
use Rattle.ae_bounds.specs.Combinations.IsExtended.{as_it_was, one_more, zero_more}

there_last : (rows : List Row) (r : Row) (i j : ℕ) → r.from ≡ Combined i j → IsThere (rows ++ r ∷ []) (meaning r.lin)
there_last rows r i j e =
    record { row = r; among = Contains-append_right rows (r ∷ []) r (contains_here r []); form = r.lin; of = own_combined r i j e; times = one_ℚ; positive = positive_one; same = scale_one ℕ_discrete (meaning r.lin) }

zero_last : (rows : List Row) (r : Row) (i j : ℕ) → r.from ≡ Combined i j → IsZero (meaning r.lin) → HasZero (rows ++ r ∷ [])
zero_last rows r i j e z = record { row = r; among = Contains-append_right rows (r ∷ []) r (contains_here r []); zero = z; lower = i; upper = j; from = e }

held_last : (rows : List Row) (r : Row) (i j : ℕ) → r.from ≡ Combined i j → IsHeld (rows ++ r ∷ []) (meaning r.lin)
held_last rows r i j e = record { there = there_last rows r i j e; zero = λ z. zero_last rows r i j e z }

pub held_noted : {T : Type 0} (rows new : List Row) (r : Row) (i j : ℕ) (result : Result T Fail) → r.from ≡ Combined i j → OnOk result (new ≡ rows ++ r ∷ []) → OnOk result (IsHeld new (meaning r.lin))
held_noted rows new r i j (Ok x) f e = subst (λ (rs : List Row). IsHeld rs (meaning r.lin)) (sym e) (held_last rows r i j f)
held_noted rows new r i j (Err x) f e = tt

pub held_added : (rows new : List Row) (r : Row) (i j : ℕ) → r.from ≡ Combined i j → new ≡ rows ++ r ∷ [] → IsHeld new (meaning r.lin)
held_added rows new r i j f e = subst (λ (rs : List Row). IsHeld rs (meaning r.lin)) (sym e) (held_last rows r i j f)

pub held_seen : (rows new : List Row) (r : Row) → new ≡ rows → IsNormal r.lin → IsThere rows (meaning r.lin) → (r.lin.parts ≡ [] → r.lin.constant ≢ pos 0) → IsHeld new (meaning r.lin)
held_seen rows new r e n t h =
    subst (λ (rs : List Row). IsHeld rs (meaning r.lin)) (sym e) (record { there = t; zero = λ z. absurd (let g = form_zero r.lin n z in h g.0 g.1) })

pub extended_added : (rows new : List Row) (js : List Line) (r : Row) → IsCombined rows r → IsZero (meaning r.lin) → new ≡ rows ++ r ∷ [] → IsExtended rows js new js
extended_added rows new js r c z e = subst (λ (rs : List Row). IsExtended rows js rs js) (sym e) (zero_more rows js r as_it_was c z)

pub extended_noted : {T : Type 0} (rows new : List Row) (j k : Noted) (r : Row) (result : Result T Fail) → IsCombined rows r → ¬ IsThere rows (meaning r.lin) → OnOk result (new ≡ rows ++ r ∷ [])
    → OnOk result (k ≡ record j { lines = j.lines ++ line.Combine r.strict r.lin ∷ [] }) → OnErr result ((new ≡ rows) × (k ≡ j)) → IsExtended rows j.lines new k.lines
extended_noted rows new j k r (Ok x) c n e f g =
    subst (λ (rs : List Row). IsExtended rows j.lines rs k.lines) (sym e)
    (subst (λ (ls : List Line). IsExtended rows j.lines (rows ++ r ∷ []) ls) (sym (ap (λ (m : Noted). m.lines) f)) (one_more rows j.lines r as_it_was c n))
extended_noted rows new j k r (Err x) c n e f g =
    subst (λ (rs : List Row). IsExtended rows j.lines rs k.lines) (sym g.0) (subst (λ (ls : List Line). IsExtended rows j.lines rows ls) (sym (ap (λ (m : Noted). m.lines) g.1)) as_it_was)

pub one_noted : {T : Type 0} (rows new : List Row) (j k : Noted) (r : Row) (result : Result T Fail) → OnOk result (new ≡ rows ++ r ∷ []) → OnErr result ((new ≡ rows) × (k ≡ j)) → IsOneMore rows new
one_noted rows new j k r (Ok x) e g = inr (r, e)
one_noted rows new j k r (Err x) e g = inl g.0

pub pair_done : {T : Type 0} (rows : List Row) (i j : ℕ) (new : List Row) (r : Row) (result : Result T Fail) → IsMadeOf rows i j r → OnOk result (IsHeld new (meaning r.lin)) → OnOk result (IsPairThere rows i j new)
pair_done rows i j new r (Ok x) m h = λ p q o a b c. record { row = r; of = m.each p q o a b c; held = h }
pair_done rows i j new r (Err x) m h = tt
