-- The lines that were noted are combinations.
use Rattle.std.specs.Prelude.{List, [], ◌∷◌, ◌++◌, ◌≡◌}
use Rattle.std.proofs.Common.{refl, sym, ap, ◌∙◌, inl, inr, append_assoc, append-nil}
use Rattle.ae_bound_rest.specs.Rest.{IsGrown}
use Rattle.ae_bound_solve.specs.Widths.{AreNotedOrNone}
use Rattle.ae_bounds.specs.Combinations.{IsExtended}
use Rattle.ae_bounds.specs.Combinations.IsExtended.{as_it_was, one_more, zero_more}
use Rattle.ae_bounds.specs.declared.rows.Row.{Row}
use Rattle.ae_combine_lines.proofs.Lists.{only_more}
use Rattle.ae_journal.specs.Journals.{OnlyCombines}
use Rattle.ae_journal.specs.declared.lines.Line.{Line}
use Rattle.ae_journal.specs.declared.lines.Line.TheVariants as line

abbrev pub HasCombined : List Line → List Line → Type 0
HasCombined js ks = (added : List Line) × (ks ≡ js ++ added) × OnlyCombines added

pub none_noted : (js ks : List Line) → ks ≡ js → HasCombined js ks
none_noted js ks e = ([], e ∙ sym (append-nil js), tt)

one_noted : (js ks : List Line) (r : Row) → HasCombined js ks → HasCombined js (ks ++ line.Combine r.strict r.lin ∷ [])
one_noted js ks r h =
    (h.0 ++ line.Combine r.strict r.lin ∷ [], ap (λ (ls : List Line). ls ++ line.Combine r.strict r.lin ∷ []) h.1 ∙ append_assoc js h.0 (line.Combine r.strict r.lin ∷ []), only_more h.0 r.strict r.lin h.2)

extended_lines : (start : List Line) (rows : List Row) (js : List Line) (rs : List Row) (ks : List Line) → HasCombined start js → IsExtended rows js rs ks → HasCombined start ks
extended_lines start rows js _ _ h as_it_was = h
extended_lines start rows js _ _ h (one_more rs ks r e c none) = one_noted start ks r (extended_lines start rows js rs ks h e)
extended_lines start rows js _ _ h (zero_more rs ks r e c zero) = extended_lines start rows js rs ks h e

grown_lines : (start : List Line) (rows : List Row) (js : List Line) (sure : List Row) (ks : List Line) → HasCombined start js → IsGrown rows js sure ks → HasCombined start ks
grown_lines start rows js _ _ h IsGrown.as_it_was = h
grown_lines start rows js _ _ h (IsGrown.one_more sure ks r g made normal none) = one_noted start ks r (grown_lines start rows js sure ks h g)

pub all_combined : (js : List Line) (rows rs : List Row) (middle ks : List Line) → IsExtended rows js rs middle → AreNotedOrNone rs middle ks → HasCombined js ks
all_combined js rows rs middle ks more (inl e) = let h = extended_lines js rows js rs middle (none_noted js js refl) more in (h.0, e ∙ h.1, h.2)
all_combined js rows rs middle ks more (inr n) = grown_lines js _ middle (n.1).sure ks (extended_lines js rows js rs middle (none_noted js js refl) more) (n.1).grown
