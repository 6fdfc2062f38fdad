-- Rows of the first literals of a trail, with those of the others beside them.
use Rattle.std.specs.Prelude.{ℕ, zero, suc, ◌≡◌, Bool, List, [], ◌∷◌, ◌++◌, length}
use Rattle.std.specs.List.{AllByRecursion, Contains}
use Rattle.std.proofs.Common.{refl, sym, ap, ◌∙◌, subst}
use Rattle.std.proofs.lemmas.List.Elements.{Contains-append_right}
use Rattle.ae_base.proofs.AllOf.{all_append, all_from_places}
use Rattle.ae_agreed_rows.specs.Kept.{AreKeptFor, AreRowsOf, AreStandingLiterals, NoneCombined}
use Rattle.ae_agreed_rows.proofs.Agreed.{first_rows_agree, more_rows_agree}
use Rattle.ae_agreed_rows.proofs.Assumed.{rows_are_of_more}
use Rattle.ae_bound_rest.specs.Laws.{AreAgreed}
use Rattle.ae_bounds.specs.declared.rows.Row.{Row}
use Rattle.ae_core.specs.declared.formulas.Lit.{Lit}
use Rattle.ae_explain.specs.declared.trail.Assigned.{Assigned}
use Rattle.ae_inequalities.specs.Held.{Held}
use Rattle.ae_journal.proofs.Splits.{all_contained, contains_at}
use Rattle.ae_journal.specs.Standing.{Setting}
use Rattle.ae_journal.specs.declared.lines.Line.{Line}
use Rattle.ae_kept_rows.specs.Kept.{literals_to, AreInStepWith}
use Rattle.ae_kept_rows.specs.declared.kept.KeptRows.{KeptRows}
use Rattle.ae_literal_rows.proofs.Adding.{added_rows_are_kept}
use Rattle.ae_literal_rows.specs.Beside.{IsBeside}
use Rattle.ae_literal_rows.specs.Trails.{literals_from, AreAdded, AreMarked}
use Rattle.ae_num.specs.Forms.{IsNormal}
use Rattle.ae_state.specs.declared.holding.Holding.{Holding}
use Rattle.ae_store.specs.Stores.{Stored}

abbrev pub lit_of : Assigned → Lit
lit_of a = a.lit

-- the first literals, and the others
pub both_parts : (t : List Assigned) (n : ℕ) → literals_to t n ++ literals_from t n ≡ literals_from t 0
both_parts [] zero = refl
both_parts [] (suc n) = refl
both_parts (a ∷ t) zero = refl
both_parts (a ∷ t) (suc n) = ap (λ (ls : List Lit). a.lit ∷ ls) (both_parts t n)

-- all of them
pub all_of : (t : List Assigned) → literals_to t (length t) ≡ literals_from t 0
all_of [] = refl
all_of (a ∷ t) = ap (λ (ls : List Lit). a.lit ∷ ls) (all_of t)

abbrev pub AreNormal : List Row → Type 0
AreNormal rows = AllByRecursion (λ (r : Row). IsNormal r.lin) rows

abbrev pub AreAll : Setting → List Line → List Assigned → List Row → Type 0
AreAll x js t rows = AreRowsOf x js (literals_from t 0) rows × AreAgreed x js rows × AreNormal rows

-- rows that were kept for literals are in the normal form
kept_normal : (x : Setting) (js : List Line) (ls : List Lit) (rows : List Row) → AreKeptFor x js ls rows → AreNormal rows
kept_normal x js ls rows kept = all_from_places (λ (r : Row). IsNormal r.lin) rows (λ i r at. let k = kept.each r (contains_at rows i r at) in ((k.2).kept).normal)

module _ (x : Setting) (js : List Line) (s : Stored) (o : Holding) (t : List Assigned) (marks : List Bool) (beside : IsBeside x js s o) (marked : AreMarked x js t marks) (stand : AreStandingLiterals x js (literals_from t 0)) where
  later : (n : ℕ) (l : Lit) → Contains (literals_from t n) l → Contains (literals_from t 0) l
  later n l c = subst (λ (ls : List Lit). Contains ls l) (both_parts t n) (Contains-append_right (literals_to t n) (literals_from t n) l c)

  -- rows that are kept, with the rows of the literals since
  pub going_on : (k : KeptRows) (new : Held) → AreInStepWith x js t k → AreAdded s o t marks k.literals (length t) k.bounds new → AreAll x js t new.rows
  going_on k new was added =
      let kept = added_rows_are_kept s o t marks k.literals k.bounds new added x js beside marked in
      let rows = rows_are_of_more x js (literals_to t k.literals) (literals_from t k.literals) (k.bounds).rows added.more was.rows kept in
      let agreed = more_rows_agree x js (literals_from t k.literals) (k.bounds).rows added.more was.agreed kept (λ l c. stand.may l (later k.literals l c)) in (
        subst (λ (z : List Lit × List Row). AreRowsOf x js z.0 z.1) (λ i. (both_parts t k.literals i, sym added.rows i)) rows,
        subst (AreAgreed x js) (sym added.rows) agreed,
        subst AreNormal (sym added.rows) (all_append (λ (r : Row). IsNormal r.lin) (k.bounds).rows added.more was.normal (kept_normal x js (literals_from t k.literals) added.more kept)),
      )

  no_rows : AreRowsOf x js [] []
  no_rows = record {
    each = λ r tag c e. absurd (all_contained (λ (z : Row). ⊥) [] r tt c);
    all = λ l u w strict c e. absurd (all_contained (λ (z : Lit). ⊥) [] l tt c);
  }

  -- all rows made anew
  pub beginning : (old new : Held) → old ≡ record { rows = []; given = []; tags = [] } → NoneCombined js → AreAdded s o t marks 0 (length t) old new → AreAll x js t new.rows
  beginning old new empty none added =
      let kept = added_rows_are_kept s o t marks 0 old new added x js beside marked in
      let is : new.rows ≡ added.more = added.rows ∙ ap (λ (b : Held). b.rows ++ added.more) empty in (
        subst (AreRowsOf x js (literals_from t 0)) (sym is) (rows_are_of_more x js [] (literals_from t 0) [] added.more no_rows kept),
        subst (AreAgreed x js) (sym is) (first_rows_agree x js (literals_from t 0) added.more kept stand none),
        subst AreNormal (sym is) (kept_normal x js (literals_from t 0) added.more kept),
      )
