-- The lines of the rows of which a row is made end by one that says it.
use Rattle.std.specs.Prelude.{ℕ, zero, suc, ◌+◌, ◌<◌, ◌≡◌, Bool, true, List, [], ◌∷◌, ◌++◌, length, take, slice_get, get_or, Some}
use Rattle.std.specs.List.{AllByRecursion}
use Rattle.std.proofs.Common.{arith, refl, sym, ap, ◌∙◌, subst, take_all}
use Rattle.std.proofs.lemmas.List.{length-take-le}
use Rattle.std.proofs.lemmas.Option.{slice_get_within, same_Some}
use Rattle.ae_base.proofs.AllOf.{all_at}
use Rattle.ae_base.proofs.ListFacts.{get_front}
use Rattle.ae_core.specs.declared.terms.Term.{Term}
use Rattle.ae_core.specs.declared.problems.Signature.{Signature}
use Rattle.ae_core.specs.declared.proofs.EqLine.{EqLine}
use Rattle.ae_core.specs.declared.proofs.Deriv.{Deriv}
use Rattle.ae_num.specs.Forms.{meaning, IsNormal}
use Rattle.ae_rules.specs.Lines.{Fact, Stated, states, HaveSort}
use Rattle.ae_row_lines.specs.Says.{Says}
use Rattle.ae_store.specs.Terms.{named}
use Rattle.ae_state_steps.specs.ValueSteps.{sort_for}
use Rattle.ae_bounds.specs.declared.rows.Row.{Row}
use Rattle.ae_journal.proofs.Splits.{contains_at}
use Rattle.ae_bounds.specs.Rounding.{AreRounded}
use Rattle.ae_bounds.specs.Findings.{AreFounded}
use Rattle.ae_trim.specs.Inner.Marks.{MarkUsed}
use Rattle.ae_bound_blocks.specs.declared.given.Given.{Given}
use Rattle.ae_bound_blocks.specs.declared.emitting.Emitted.{Emitted}
use Rattle.ae_bound_blocks.specs.Ancestors.{itself, tags_of, AreTagsOf}
use Rattle.ae_bound_blocks.specs.Said.{kept, row_fact, IsGiven, AreGiven, AreOpaqueRounded}
use Rattle.ae_bound_blocks.specs.Inner.Marks.{as_lines}
use Rattle.ae_bound_blocks.specs.Inner.Emitting.{IsSaid, AreReady, AreEmitted}
use Rattle.ae_bound_blocks.proofs.Marking.{get_within, founded_first, exactly, marks_closed, marks_long, tags_first}
use Rattle.ae_bound_blocks.proofs.Saying.{says_row}
use Rattle.ae_bound_blocks.proofs.Sorting.{row_sorted}

-- the last of some lines
last_of : (lines : List EqLine) (k : ℕ) (f : Fact) → suc k ≡ length lines → Stated lines k f → (front : List EqLine) × (l : EqLine) × (lines ≡ front ++ l ∷ []) × (states l ≡ f)
last_of [] k f e s = absurd (omega (arith, e))
last_of (x ∷ []) zero f e s = ([], x, refl, same_Some (states x) f s)
last_of (x ∷ []) (suc k) f e s = absurd (omega (arith, e))
last_of (x ∷ y ∷ rest) zero f e s = absurd (omega (arith, e))
last_of (x ∷ y ∷ rest) (suc k) f e s = let r = last_of (y ∷ rest) k f (omega (arith, e)) s in (x ∷ r.0, r.1, ap (λ ls. x ∷ ls) r.2, r.3)

-- what gives a row by its own form
abbrev pub lines_from : Deriv → Bool → Row → Given
lines_from d real r = record { deriv = d; multiple = r.lin.den; real = real }

module _ (sig : Signature) (ts : List Term) (real : Bool) (rows : List Row) (place : ℕ) (given : List Given) (normal : AllByRecursion (λ (r : Row). IsNormal r.lin) rows) (founded : AreFounded rows) (row : Row)
    (at_place : slice_get rows place ≡ Some row) (are_given : AreGiven sig ts real rows place given) (were : AreRounded rows) (opaque : AreOpaqueRounded ts real rows place) where
  within : place < length rows
  within = slice_get_within rows place row at_place

  abbrev first : List Row
  first = take (place + 1) rows

  first_long : length first ≡ place + 1
  first_long = let l = within in length-take-le (place + 1) rows (omega (arith, l))

  module _ (ms : List Bool) (m : MarkUsed (as_lines true first) ms) where
    pub ready : AreReady sig ts real first given ms
    ready = record {
      size = marks_long true rows place within founded ms m ∙ sym first_long;
      normal = λ k r e. all_at (λ (x : Row). IsNormal x.lin) rows k r normal (get_front rows (place + 1) k r e).0;
      founded = founded_first (place + 1) rows founded;
      roundable = λ k r w e u f.
          let at = (get_front rows (place + 1) k r e).0 in
          let o = opaque k r u ((exactly true rows place within founded ms m k).0 w) at f in
          (were r u (contains_at rows k r at) f, o.0, o.1);
      closed = marks_closed true rows place within founded ms m;
      each_given = λ k tag r w e h. are_given k tag r ((exactly true rows place within founded ms m k).0 w) (get_front rows (place + 1) k r e).0 h;
    }

    module _ (e : Emitted) (emitted : AreEmitted sig ts real first given ms (length first) e) where
      last_said : IsSaid sig ts real e.deriv.lines (get_or e.places place 0) (kept row)
      last_said =
          emitted.said place row (let b = first_long in omega (arith, b)) ((exactly true rows place within founded ms m place).1 itself)
          (get_within (place + 1) rows place (omega arith) ∙ at_place)

      -- the last line says the row
      pub last_given : IsGiven sig ts real (kept row) (lines_from e.deriv real row)
      last_given =
          let n : suc (get_or e.places place 0) ≡ length e.deriv.lines = emitted.last place (let b = first_long in omega (arith, b)) ((exactly true rows place within founded ms m place).1 itself) in
          let w = last_of e.deriv.lines (get_or e.places place 0) (row_fact ts real row.strict row.lin) n last_said.stated in
          let o = all_at (λ (x : Row). IsNormal x.lin) rows place row normal at_place in
          record {
            allowed = emitted.allowed;
            front = w.0;
            last = w.1;
            lines = w.2;
            relation = ap (λ (f : Fact). f.relation) w.3;
            says = subst (Says (named ts) row.lin.den (meaning row.lin)) (sym w.3) (says_row ts real row.strict row.lin o);
            sorted = subst (HaveSort sig (sort_for real)) (sym w.3) (row_sorted sig ts real row.strict row.lin o last_said.numbers);
            numbers = last_said.numbers;
            integers = last_said.integers;
            fits = o.within.0;
            built = emitted.built;
          }

      pub tags_are : AreTagsOf rows place e.tags
      tags_are = record {
        marks = ms;
        exactly = exactly true rows place within founded ms m;
        are =
            let long = marks_long true rows place within founded ms m in
            emitted.tags ∙ ap (λ xs. tags_of xs first) (take_all (length first) ms (let b = first_long in omega (arith, long, b))) ∙ tags_first (place + 1) ms rows (omega (arith, long));
      }
