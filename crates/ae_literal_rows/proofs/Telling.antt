-- Literals of a trail that a state was told.
use Rattle.std.specs.Prelude.{ℕ, ◌+◌, ◌≡◌, Bool, List, [], slice_get, length, Some}
use Rattle.std.specs.List.{Contains}
use Rattle.std.proofs.Common.{arith, sym, subst}
use Rattle.ae_core.specs.declared.terms.Term.{Term}
use Rattle.ae_explain.specs.declared.trail.Assigned.{Assigned}
use Rattle.ae_journal.specs.States.{inequality}
use Rattle.ae_journal.specs.Standing.{Setting}
use Rattle.ae_journal.specs.declared.lines.Line.{Line}
use Rattle.ae_store.specs.Stores.{Stored}
use Rattle.ae_theory.specs.Tagged.{Tagged}
use Rattle.ae_sat.specs.Marked.{atoms}
use Rattle.ae_bounds.specs.declared.rows.Row.{Row as Kept}
use Rattle.ae_state.specs.declared.holding.Holding.{Holding}
use Rattle.ae_state.specs.Names.{assumed_in}
use Rattle.ae_inequalities.specs.Held.{Held, AreOfTags}
use Rattle.ae_agreed_rows.specs.Kept.{AreKeptFor}
use Rattle.ae_literal_rows.specs.Beside.{IsBeside, IsTold}
use Rattle.ae_literal_rows.specs.Trails.{AreAdded, AreMarked, literals_from}
use Rattle.ae_literal_rows.proofs.Adding.{added_rows_are_kept}
use Rattle.ae_literal_rows.proofs.Places.{atom_there}
use Rattle.ae_literal_rows.proofs.Sides.{sides_atom}

pub told_here : (o : Holding) (s : Stored) (t : List Assigned) → IsTold o s t → (k : ℕ) (a : Assigned) → slice_get t k ≡ Some a → (u w : Term) (strict : Bool) → inequality a.lit ≡ Some (u, w, strict)
    → Contains (assumed_in o) (record { lit = a.lit; tag = k })
told_here o s t told k a at u w strict is =
    let number : 0 + k ≡ k = omega arith in
    subst (λ (ts : List Tagged). Contains ts (record { lit = a.lit; tag = k })) (sym told.assumed)
    (subst (λ (n : ℕ). Contains (atoms t) (record { lit = a.lit; tag = n })) number (atom_there t 0 k a at (sides_atom a.lit u w strict is)))

abbrev pub empty : Held
empty = record { rows = []; given = []; tags = [] }

pub of_no_tags : (o : Holding) (b : Held) → b ≡ empty → AreOfTags (assumed_in o) b
of_no_tags o b e = subst (AreOfTags (assumed_in o)) (sym e) (λ k. tt)

-- where the rows of all literals were added to none
pub all_kept : (s : Stored) (o : Holding) (t : List Assigned) (marks : List Bool) (b : Held) → AreAdded s o t marks 0 (length t) empty b → (x : Setting) (js : List Line) → IsBeside x js s o → AreMarked x js t marks
    → AreKeptFor x js (literals_from t 0) b.rows
all_kept s o t marks b a x js beside marked = subst (λ (rs : List Kept). AreKeptFor x js (literals_from t 0) rs) (sym a.rows) (added_rows_are_kept s o t marks 0 empty b a x js beside marked)
