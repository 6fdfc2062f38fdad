-- Literals of a trail, and the marks of those that surely stand.
use Rattle.std.specs.Prelude.{ℕ, ◌≡◌, Bool, true, false, List, slice_get, Some}
use Rattle.std.specs.List.{Contains}
use Rattle.std.proofs.Common.{arith, sym, ap, ◌∙◌, subst}
use Rattle.std.proofs.lemmas.Option.{get_or_from_slice_get, slice_get-get_or, slice_get_within}
use Rattle.ae_base.proofs.ListFacts.{value_at}
use Rattle.ae_core.specs.declared.formulas.Lit.{Lit}
use Rattle.ae_explain.specs.Trail.{at, nothing}
use Rattle.ae_explain.specs.declared.trail.Assigned.{Assigned}
use Rattle.ae_journal.specs.Standing.{Setting, SurelyStands}
use Rattle.ae_journal.specs.declared.lines.Line.{Line}
use Rattle.ae_kept_orders.proofs.Passed.{placed, there}
use Rattle.ae_kept_orders.specs.Rows.{AreMarked, literals_from}
use Rattle.ae_propagation.specs.Settled.{Holds}
use Rattle.ae_sure_literals.specs.Sure.{AreSure}

-- what stands at a place
pub at_is : (t : List Assigned) (k : ℕ) (a : Assigned) → slice_get t k ≡ Some a → at t k ≡ a
at_is t k a e = get_or_from_slice_get t k a nothing e

pub holds_at : (t : List Assigned) (k : ℕ) (a : Assigned) → slice_get t k ≡ Some a → Holds t a.lit
holds_at t k a e = (k, slice_get_within t k a e, ap (λ (b : Assigned). b.lit) (at_is t k a e))

pub listed : (t : List Assigned) (l : Lit) → Holds t l → Contains (literals_from t 0) l
listed t l (j, lt, e) =
    let a = value_at t j lt in
    subst (Contains (literals_from t 0)) (sym (ap (λ (b : Assigned). b.lit) (at_is t j a.0 a.1)) ∙ e) (there t 0 j a.0 (omega arith) a.1)

pub is_true : (t : List Assigned) (l : Lit) → Contains (literals_from t 0) l → Holds t l
is_true t l c = let p = placed t 0 l c in subst (Holds t) p.4 (holds_at t p.0 p.1 p.3)

pub are_marked : (x : Setting) (js : List Line) (t : List Assigned) (flags : List Bool) → AreSure x js t flags → AreMarked x js t flags
are_marked x js t flags s = record {
  sure = λ k a e m.
      subst (λ (b : Assigned). SurelyStands x js b.lit) (at_is t k a e) ((s.exact k (slice_get_within t k a e)).0 (get_or_from_slice_get flags k true false m));
  all = λ k a e h.
      let lt = slice_get_within t k a e in
      let one = s.one_each in
      slice_get-get_or flags k false (omega (arith, lt, one)) ∙ ap (λ (b : Bool). Some b) ((s.exact k lt).1 (subst (λ (b : Assigned). SurelyStands x js b.lit) (sym (at_is t k a e)) h));
}
