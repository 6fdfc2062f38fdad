-- Forms that are positive multiples of one another have one direction.
use Rattle.std.specs.Prelude.{ℕ, false, ◌≡◌, List}
use Rattle.std.specs.List.{Contains}
use Rattle.std.proofs.Common.{sym, ◌∙◌, subst, inl, inr}
use Rattle.ae_math.specs.Forms.{Form}
use native.Mathlib.Decide.{ℕ_discrete}
use Rattle.ae_math.specs.Fractions.{one_ℚ}
use Rattle.ae_math.proofs.FormLaws.{scale_one}
use Rattle.ae_num.specs.declared.forms.Lin.{Lin}
use Rattle.ae_num.specs.Forms.{meaning}
use Rattle.ae_rows.proofs.Choosing.{positive_one}
use Rattle.ae_ineq.specs.declared.rows.Row.{Row as Directed}
use Rattle.ae_ineq.specs.Inner.Sets.{IsMultiple, IsRow}
use Rattle.ae_ineq.proofs.RowSets.{multiples_meet, one_direction}
use Rattle.ae_bounds.specs.declared.rows.Row.{Row}
use Rattle.ae_bounds.specs.declared.directions.Direction.{Direction}
use Rattle.ae_bounds.specs.Combinations.{IsThere}
use Rattle.ae_bounds.specs.Inner.Directions.{IsOfSome, IsDirectionOf, AreIndexed}
use Rattle.ae_bounds.proofs.Zeros.{nothing_times, zero_is_nothing, form_is_some, zeros_same, directed}

pub turned : (f g : Form ℕ) → IsMultiple f g → IsMultiple g f
turned f g m = multiples_meet g f g (record { times = one_ℚ; positive = positive_one; same = scale_one ℕ_discrete g }) m

abbrev with_direction : Lin → Lin → Directed
with_direction l d = record { lin = l; strict = false; direction = d }

is_row : (l d : Lin) → IsOfSome l d → IsRow (with_direction l d)
is_row l d i = record { normal = i.normal; directed = i.directed; direction_normal = i.direction_normal; primitive = i.primitive }

pub direction_equal : (l d k e : Lin) → IsDirectionOf l d → IsDirectionOf k e → IsMultiple (meaning l) (meaning k) → e ≡ d
direction_equal l d k e (inl i) (inl j) m = one_direction (with_direction l d) (with_direction k e) (is_row l d i) (is_row k e j) m
direction_equal l d k e (inl i) (inr z) m = absurd (form_is_some l d i (nothing_times (meaning k) (meaning l) (turned (meaning l) (meaning k) m) (zero_is_nothing k z.bare z.constant)))
direction_equal l d k e (inr z) (inl j) m = absurd (form_is_some k e j (nothing_times (meaning l) (meaning k) m (zero_is_nothing l z.bare z.constant)))
direction_equal l d k e (inr y) (inr z) m = z.own ∙ zeros_same k l z.normal y.normal z.bare z.constant y.bare y.constant ∙ sym y.own

direction_same : (d e : Direction) → d.form ≡ e.form → d ≡ e
direction_same d e h = λ i. record { form = h i }

-- a form of a direction that is there is a positive multiple of a row's, and the other way round
pub there_by_direction : (rows : List Row) (ds : List Direction) (l : Lin) (d : Direction) → AreIndexed rows ds → IsDirectionOf l d.form → Contains ds d → IsThere rows (meaning l)
there_by_direction rows ds l d x i c =
    let o = x.own d c in
    let k = multiples_meet (meaning o.1) (meaning l) (meaning d.form) (directed o.1 d.form o.4) (directed l d.form i) in
    record { row = o.0; among = o.2; form = o.1; of = o.3; times = k.times; positive = k.positive; same = k.same }

pub direction_by_there : (rows : List Row) (ds : List Direction) (l : Lin) (d : Direction) → AreIndexed rows ds → IsDirectionOf l d.form → IsThere rows (meaning l) → Contains ds d
direction_by_there rows ds l d x i t =
    let e = x.each t.row t.form t.among t.of in
    let h : d.form ≡ (e.0).form = direction_equal t.form (e.0).form l d.form e.2 i (record { times = t.times; positive = t.positive; same = t.same }) in
    subst (λ (z : Direction). Contains ds z) (sym (direction_same d e.0 h)) e.1
