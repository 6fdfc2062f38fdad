-- The lines of the combinations of rows, and of those that were left, are legal.
use Rattle.std.specs.Prelude.{ℕ, List, [], ◌∷◌, ◌++◌, ◌≡◌}
use Rattle.std.proofs.Common.{sym, ap, ◌∙◌, subst, inl, inr, append_assoc}
use Rattle.std.proofs.lemmas.List.{append-nil}
use Rattle.ae_journal.specs.Legal.{AreLegal}
use Rattle.ae_journal.specs.Standing.{Setting}
use Rattle.ae_journal.specs.declared.lines.Line.{Line}
use Rattle.ae_bounds.specs.declared.rows.Row.{Row}
use Rattle.ae_bounds.specs.Combinations.{IsExtended}
use Rattle.ae_bound_lines.proofs.Legal.{extended}
use Rattle.ae_bound_rest.specs.Laws.{AreAgreed}
use Rattle.ae_bound_rest.proofs.Agreed.{agreed_kept}
use Rattle.ae_bound_rest.proofs.Ending.{rest_legal}
use Rattle.ae_bound_solve.specs.Widths.{AreNotedOrNone}

legal_both : (x : Setting) (bound : ℕ) (before a b : List Line) → AreLegal x bound before a → AreLegal x bound (before ++ a) b → AreLegal x bound before (a ++ b)
legal_both x bound before [] b l h = subst (λ (w : List Line). AreLegal x bound w b) (append-nil before) h
legal_both x bound before (k ∷ a) b l h = (l.0, legal_both x bound (before ++ k ∷ []) a b l.1 (subst (λ (w : List Line). AreLegal x bound w b) (sym (append_assoc before (k ∷ []) a)) h))

pub all_legal : (x : Setting) (bound : ℕ) (rows rs : List Row) (before js ks : List Line) → AreAgreed x before rows → IsExtended rows before rs js → AreNotedOrNone rs js ks
    → (added : List Line) × (ks ≡ before ++ added) × AreLegal x bound before added
all_legal x bound rows rs before js ks a e n = by_noted n
  where
    first : (added : List Line) × (js ≡ before ++ added) × AreLegal x bound before added
    first = (extended x bound rows rs before js a.standing e).0

    by_noted : AreNotedOrNone rs js ks → (added : List Line) × (ks ≡ before ++ added) × AreLegal x bound before added
    by_noted (inl s) = (first.0, s ∙ first.1, first.2)
    by_noted (inr m) =
        let second = rest_legal x bound rs js ks (agreed_kept x rows rs before js a e) m.0 m.1 in (
          first.0 ++ second.0,
          second.1 ∙ ap (λ (w : List Line). w ++ second.0) first.1 ∙ append_assoc before first.0 second.0,
          legal_both x bound before first.0 second.0 first.2 (subst (λ (w : List Line). AreLegal x bound w second.0) first.1 second.2),
        )
