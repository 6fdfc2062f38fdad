-- What is found among the names of a system has the value of one of them.
use Rattle.std.specs.Prelude.{ℕ, suc, Bool, true, false, cond, List, [], ◌∷◌, ◌≡◌, slice_get, Some}
use mathlib.Core.Path.{refl}
use Rattle.ae_base.specs.Decided.{pick}
use Rattle.ae_core.specs.Decided.{Term_discrete}
use Rattle.ae_core.specs.declared.problems.Signature.{Signature}
use Rattle.ae_core.specs.declared.terms.Head.{Head}
use Rattle.ae_core.specs.declared.terms.Sort.{Sort}
use Rattle.ae_core.specs.declared.terms.Term.{Term, out-Term}
use Rattle.ae_num.specs.declared.forms.Value.{Value}
use Rattle.ae_journal.specs.Evaluation.{is_application, named_among, value_in}
use Rattle.ae_journal.specs.Keys.{Numbering}
use Rattle.ae_journal.specs.Values.{Val, meaning}
use Rattle.ae_journal.specs.declared.systems.System.{System}

module _ (sig : Signature) (y : System) (num : Numbering) (reduce : Head → List Sort → List ℕ → List ℕ) (choosing : Bool) where
  pub found_value : (ts : List Term) (ws : List Value) (t : Term) (v : Val) → value_in sig y num reduce choosing ts ws t ≡ Some v
      → (m : ℕ) × (w : Value) × (slice_get ws m ≡ Some w) × (meaning w ≡ v)
  found_value [] ws t v e = absurd (cc)
  found_value (u ∷ us) [] t v e = absurd (cc)
  found_value (u ∷ us) (w ∷ ws) t v e = by_test (found_value us ws t v) (Term_discrete u t) e
    where
      by_test : (value_in sig y num reduce choosing us ws t ≡ Some v → (m : ℕ) × (x : Value) × (slice_get ws m ≡ Some x) ×
          (meaning x ≡ v))
          → (d : Dec (u ≡ t))
          → pick d (Some (meaning w)) (value_in sig y num reduce choosing us ws t) ≡ Some v
          → (m : ℕ) × (x : Value) × (slice_get (w ∷ ws) m ≡ Some x) × (meaning x ≡ v)
      by_test ih (yes d) e = let f : meaning w ≡ v = cc in (0, w, refl, f)
      by_test ih (no d) e = let r = ih e in (suc r.0, r.1, r.2, r.3)

  pub found_named : (h : Head) (ss : List Sort) (vs : List Val) (ts : List Term) (ws : List Value) (v : Val)
      → named_among sig y num reduce choosing h ss vs ts ws ≡ Some v → (m : ℕ) × (w : Value) × (slice_get ws m ≡ Some w) × (meaning w ≡ v)
  found_named h ss vs [] ws v e = absurd (cc)
  found_named h ss vs (u ∷ us) [] v e = absurd (cc)
  found_named h ss vs (u ∷ us) (w ∷ ws) v e =
      by_test (found_named h ss vs us ws v) (is_application sig y num reduce choosing h ss vs (out-Term u)) e
    where
      by_test : (named_among sig y num reduce choosing h ss vs us ws ≡ Some v → (m : ℕ) × (x : Value) × (slice_get ws m ≡ Some x) ×
          (meaning x ≡ v))
          → (b : Bool)
          → cond b (Some (meaning w)) (named_among sig y num reduce choosing h ss vs us ws) ≡ Some v
          → (m : ℕ) × (x : Value) × (slice_get (w ∷ ws) m ≡ Some x) × (meaning x ≡ v)
      by_test ih true e = let f : meaning w ≡ v = cc in (0, w, refl, f)
      by_test ih false e = let r = ih e in (suc r.0, r.1, r.2, r.3)
