-- The rows of a trail, one after another.
use Rattle.std.specs.Prelude.{ℕ, ◌+◌, ◌≤◌, ◌≡◌, Bool, true, List, [], ◌∷◌, ◌++◌, length, slice_get, Some, None}
use Rattle.std.proofs.Common.{arith, sym, ap, ◌∙◌, subst, inl, inr, append_assoc, length-append}
use Rattle.std.proofs.lemmas.Bool.{cases_eq}
use Rattle.std.proofs.lemmas.List.{append-nil}
use Rattle.std.proofs.lemmas.List.Elements.{Contains-append_left, Contains-append_right, Contains-append_cases}
use Rattle.std.proofs.lemmas.Option.{same_Some, none-some, slice_get_within}
use Rattle.ae_base.proofs.ListFacts.{get_append, get_seam}
use Rattle.ae_core.specs.declared.formulas.Lit.{Lit}
use Rattle.ae_explain.specs.declared.trail.Assigned.{Assigned}
use Rattle.ae_journal.specs.States.{inequality}
use Rattle.ae_journal.specs.Standing.{Setting}
use Rattle.ae_journal.specs.declared.lines.Line.{Line}
use Rattle.ae_journal.proofs.Splits.{contains_one, contains_here, all_contained}
use Rattle.ae_store.specs.Stores.{Stored}
use Rattle.ae_state.specs.declared.holding.Holding.{Holding}
use Rattle.ae_bounds.specs.declared.rows.Row.{Row as Kept}
use Rattle.ae_inequalities.specs.declared.rows.Row.{Row}
use Rattle.ae_inequalities.specs.Rows.{given_by}
use Rattle.ae_inequalities.specs.Held.{Held, IsAdded}
use Rattle.ae_agreed_rows.specs.Kept.{IsFormOf, IsKeptFor}
use Rattle.ae_literal_rows.specs.Beside.{IsBeside}
use Rattle.ae_literal_rows.specs.Trails.{IsRowOfPlace, AreAdded, AreMarked}
use Rattle.ae_literal_rows.specs.Laws.{AddedRowsAreKept}
use Rattle.ae_literal_rows.specs.Inner.Adding.{IsRowAdded}
use Rattle.ae_literal_rows.specs.Inner.Adding.IsRowAdded.{no_inequality, its_row}
use Rattle.ae_literal_rows.proofs.Places.{placed, there}

module _ (s : Stored) (o : Holding) (t : List Assigned) (marks : List Bool) (from : ℕ) (old : Held) where
  pub none_added : (until : ℕ) → until ≤ from → AreAdded s o t marks from until old old
  none_added until none = record {
    more = [];
    rows = sym (append-nil old.rows);
    each = λ r c. absurd (all_contained (λ (z : Kept). ⊥) [] r tt c);
    all = λ k a u w strict h l at is. absurd (omega (arith, h, l, none));
  }

  -- behind the last place nothing comes
  pub added_to_end : (until : ℕ) (new : Held) → length t ≤ until → AreAdded s o t marks from until old new → AreAdded s o t marks from (length t) old new
  added_to_end until new end added = record {
    more = added.more;
    rows = added.rows;
    each = λ r c. let p = added.each r c in record {
      place = p.place;
      later = p.later;
      earlier = slice_get_within t p.place p.assigned p.at;
      assigned = p.assigned;
      at = p.at;
      number = p.number;
      comes = p.comes;
      others = p.others;
      first = p.first;
      kept = p.kept;
    };
    all = λ k a u w strict h l at is. added.all k a u w strict h (omega (arith, l, end)) at is;
  }

  module _ (until : ℕ) (mid : Held) (added : AreAdded s o t marks from until old mid) where
    -- a row stays with more tags and more places
    row_stays : (tags : List (List ℕ)) (more : List (List ℕ)) (r : Kept) → tags ≡ mid.tags ++ more → IsRowOfPlace s o t marks from until mid.tags r → IsRowOfPlace s o t marks from (until + 1) tags r
    row_stays tags more r e p = let l = p.earlier in record {
      place = p.place;
      later = p.later;
      earlier = omega (arith, l);
      assigned = p.assigned;
      at = p.at;
      number = p.number;
      comes = p.comes;
      others = p.others;
      first = ap (λ (ks : List (List ℕ)). slice_get ks p.number) e ∙ get_append mid.tags more p.number (p.place ∷ p.others) p.first;
      kept = p.kept;
    }

    module _ (a : Assigned) (counts : Bool) (at : slice_get t until ≡ Some a) (mark : slice_get marks until ≡ Some counts) (later : from ≤ until) (new : Held) where
      -- ---- no inequality
      nothing_more : inequality a.lit ≡ None → new ≡ mid → AreAdded s o t marks from (until + 1) old new
      nothing_more none same = record {
        more = added.more;
        rows = ap (λ (b : Held). b.rows) same ∙ added.rows;
        each = λ r c. row_stays new.tags [] r (ap (λ (b : Held). b.tags) same ∙ sym (append-nil mid.tags)) (added.each r c);
        all = λ k b u w strict h l there_is is. elim (cases_eq k until) [
          | inl e ↦
              (let z : a ≡ b = same_Some a b (sym at ∙ ap (slice_get t) (sym e) ∙ there_is) in
              absurd (none-some (u, w, strict) (sym none ∙ ap (λ (c : Assigned). inequality c.lit) z ∙ is)))
          | inr d ↦ added.all k b u w strict h (omega (arith, l, d)) there_is is
        ];
      }

      -- ---- its row
      module _ (r : Row) (form : (x : Setting) (js : List Line) → IsBeside x js s o → IsFormOf x js a.lit r.lin r.strict r.integral) (others : List ℕ) (first : r.from.tags ≡ until ∷ others) (one : IsAdded mid r counts new)
          (even : length mid.tags ≡ length mid.given) where
        kept_for : (x : Setting) (js : List Line) → IsBeside x js s o → AreMarked x js t marks → IsKeptFor x js a.lit one.kept
        kept_for x js b m = record {
          form = r.lin;
          strict = r.strict;
          integral = r.integral;
          number = length mid.given;
          of = form x js b;
          kept = one.assumed;
          sure = λ e. m.sure until a at (mark ∙ ap (λ (z : Bool). Some z) (sym one.marked ∙ e));
          counting = λ h. one.marked ∙ same_Some counts true (sym mark ∙ m.all until a at h);
        }

        own_place : IsRowOfPlace s o t marks from (until + 1) new.tags one.kept
        own_place = record {
          place = until;
          later = later;
          earlier = omega arith;
          assigned = a;
          at = at;
          number = length mid.given;
          comes = (one.assumed).from;
          others = others;
          first = ap (λ (ks : List (List ℕ)). slice_get ks (length mid.given)) one.tags ∙ ap (slice_get (mid.tags ++ r.from.tags ∷ [])) (sym even) ∙ get_seam mid.tags [] r.from.tags ∙ ap (λ (ks : List ℕ). Some ks) first;
          kept = kept_for;
        }

        one_more : AreAdded s o t marks from (until + 1) old new
        one_more = record {
          more = added.more ++ one.kept ∷ [];
          rows = one.rows ∙ ap (λ (rs : List Kept). rs ++ one.kept ∷ []) added.rows ∙ append_assoc old.rows added.more (one.kept ∷ []);
          each = λ q c. elim (Contains-append_cases added.more (one.kept ∷ []) q c) [
            | inl h ↦ row_stays new.tags (r.from.tags ∷ []) q one.tags (added.each q h)
            | inr h ↦ subst (IsRowOfPlace s o t marks from (until + 1) new.tags) (contains_one one.kept q h) own_place
          ];
          all = λ k b u w strict h l there_is is. elim (cases_eq k until) [
            | inl e ↦
                (let z : a ≡ b = same_Some a b (sym at ∙ ap (slice_get t) (sym e) ∙ there_is) in (
                  one.kept,
                  Contains-append_right added.more (one.kept ∷ []) one.kept (contains_here one.kept []),
                  λ x js y m. subst (λ (c : Assigned). IsKeptFor x js c.lit one.kept) z (kept_for x js y m),
                ))
            | inr d ↦ (let q = added.all k b u w strict h (omega (arith, l, d)) there_is is in (q.0, Contains-append_left added.more (one.kept ∷ []) q.0 q.1, q.2))
          ];
        }

      pub more_added : IsRowAdded s o a.lit until counts mid new → length mid.tags ≡ length mid.given → AreAdded s o t marks from (until + 1) old new
      more_added (no_inequality none same) even = nothing_more none same
      more_added (its_row r form others first one) even = one_more r form others first one even

-- tags and derivations stay as many
pub still_even : (s : Stored) (o : Holding) (l : Lit) (tag : ℕ) (counts : Bool) (old new : Held) → IsRowAdded s o l tag counts old new → length old.tags ≡ length old.given → length new.tags ≡ length new.given
still_even s o l tag counts old new (no_inequality none same) even = ap (λ (b : Held). length b.tags) same ∙ even ∙ sym (ap (λ (b : Held). length b.given) same)
still_even s o l tag counts old new (its_row r form others first one) even =
    let p = ap length one.tags ∙ length-append old.tags (r.from.tags ∷ []) in
    let q = ap length one.given ∙ length-append old.given (given_by r ∷ []) in
    omega (arith, p, q, even)

-- ---- the rows of the literals
pub added_rows_are_kept : AddedRowsAreKept
added_rows_are_kept s o t marks from old new a x js b m = record {
  each = λ r c. let p = a.each r c in ((p.assigned).lit, there t from p.place p.assigned p.later p.at, p.kept x js b m);
  all = λ l u w strict c is.
      let p = placed t from l c in
      let q = a.all p.0 p.1 u w strict p.2 (slice_get_within t p.0 p.1 p.3) p.3 (ap inequality p.4 ∙ is) in
      (q.0, q.1, subst (λ (n : Lit). IsKeptFor x js n q.0) p.4 (q.2 x js b m));
}
