use Rattle.std.specs.Prelude.{◌≡◌, ◌≢◌, ℕ, ◌<◌, ◌≤◌, length, pos, Bool, true, false, None, List, slice_index_or}
use Rattle.std.proofs.Common.{refl, sym, subst, arith}
use Rattle.ae_num.specs.declared.forms.Part.{Part}
use Rattle.ae_num.specs.Forms.{has_key}
use Rattle.ae_linear.specs.Rows.{row_at}
use Rattle.ae_linear.proofs.Links.{key_place}
use Rattle.ae_linear_tests.proofs.tests.is_free.Goals as goal

abbrev blank : Part
blank = record { key = 0; factor = pos 0 }

pub returns-clause-free : goal.returns-clause-free
returns-clause-free c = λ t key h.
    let place = key_place c.as_slice-part-items.result.now key (subst (λ (ps : List Part). has_key ps key ≡ true) (sym c.as_slice-part-items.ensures) h) in
    subst (λ (k : ℕ). row_at c.args.rows.now k ≡ None) (place.2 blank) (c.loop-part.invariant.none place.0 blank (omega (arith, place.1, c.loop-part-test.false)))

lacks : (ps : List Part) (key i : ℕ) → ((j : ℕ) (d : Part) → j < i → (slice_index_or ps j d).key ≢ key) → length ps ≤ i → has_key ps key ≡ false
lacks ps key i other over = by_test (has_key ps key) refl
  where
    by_test : (b : Bool) → has_key ps key ≡ b → has_key ps key ≡ false
    by_test true h = let place = key_place ps key h in absurd (other place.0 blank (omega (arith, place.1, over)) (place.2 blank))
    by_test false h = h

pub returns-clause-absent : goal.returns-clause-absent
returns-clause-absent c = λ t.
    subst (λ (ps : List Part). has_key ps c.args.name ≡ false) c.as_slice-part-items.ensures
    (lacks c.as_slice-part-items.result.now c.args.name c.loop-part.part-index c.loop-part.invariant.other (omega (arith, c.loop-part-test.false)))
