-- Combinations that were added leave the assumed rows as they were.
use Rattle.std.specs.Prelude.{ℕ, ◌≡◌, List, [], ◌∷◌, ◌++◌}
use Rattle.std.specs.List.{Contains}
use Rattle.std.proofs.Common.{sym, ap, ◌∙◌, inl, inr}
use Rattle.std.proofs.lemmas.List.Elements.{Contains-append_cases}
use Rattle.ae_core.specs.declared.terms.Term.{Term}
use Rattle.ae_core.specs.declared.problems.Signature.{Signature}
use Rattle.ae_journal.specs.declared.lines.Line.{Line}
use Rattle.ae_journal.proofs.Splits.{contains_one}
use Rattle.ae_bounds.specs.declared.rows.Row.{Row}
use Rattle.ae_bounds.specs.declared.rows.Origin.{Origin}
use Rattle.ae_bounds.specs.declared.rows.Origin.TheVariants.{Assumed, Combined}
use Rattle.ae_bounds.specs.Combinations.{IsCombined, IsExtended}
use Rattle.ae_bounds.specs.Combinations.IsExtended.{as_it_was, one_more, zero_more}
use Rattle.ae_bound_blocks.specs.declared.given.Given.{Given}
use Rattle.ae_bound_solve.specs.Given.{AreAllGiven, IsWholeName, AreOpaqueNames}

not_last : (rs : List Row) (r x : Row) (tag : ℕ) → IsCombined rs r → x.from ≡ Assumed tag → Contains (rs ++ r ∷ []) x → Contains rs x
not_last rs r x tag c e h = elim (Contains-append_cases rs (r ∷ []) x h) [
  | inl a ↦ a
  | inr b ↦ absurd (let z : ◌≡◌ {A = Origin} (Combined c.lower c.upper) (Assumed tag) = sym c.from ∙ ap (λ (y : Row). y.from) (contains_one r x b) ∙ e in cc)
]

assumed_before : (rows : List Row) (js : List Line) (rs : List Row) (ks : List Line) → IsExtended rows js rs ks → (x : Row) (tag : ℕ) → Contains rs x → x.from ≡ Assumed tag → Contains rows x
assumed_before rows js _ _ as_it_was x tag h e = h
assumed_before rows js _ _ (one_more rs ks r d c n) x tag h e = assumed_before rows js rs ks d x tag (not_last rs r x tag c e h) e
assumed_before rows js _ _ (zero_more rs ks r d c z) x tag h e = assumed_before rows js rs ks d x tag (not_last rs r x tag c e h) e

module _ (rows : List Row) (js : List Line) (rs : List Row) (ks : List Line) (extended : IsExtended rows js rs ks) where
  pub given_on : (sig : Signature) (ts : List Term) (given : List Given) → AreAllGiven sig ts rows given → AreAllGiven sig ts rs given
  given_on sig ts given all r tag c e = all r tag (assumed_before rows js rs ks extended r tag c e) e

  name_before : (n : ℕ) → IsWholeName rs n → IsWholeName rows n
  name_before n w = record {
    row = w.row;
    among = assumed_before rows js rs ks extended w.row w.tag w.among w.from;
    tag = w.tag;
    from = w.from;
    integral = w.integral;
    part = w.part;
    in_row = w.in_row;
    is = w.is;
  }

  pub names_on : (ts : List Term) → AreOpaqueNames ts rows → AreOpaqueNames ts rs
  names_on ts o = record { opaque = λ n w. o.opaque n (name_before n w); apart = λ n m w v e. o.apart n m (name_before n w) (name_before m v) e }
