-- What a search shows that has nothing left to do is a saturated state.
use Rattle.std.specs.Prelude.{ℕ, ◌≡◌, false, List, [], ◌∷◌, Option, Some}
use Rattle.std.specs.List.{Contains}
use Rattle.std.proofs.Common.{sym, ap, ◌∙◌, subst, arith, inl, inr}
use Rattle.ae_base.specs.Options.{◌>>=◌, or_else}
use Rattle.ae_between_rounds.specs.Finished.{IsFinishedAt, shown_at}
use Rattle.ae_between_rounds.specs.Held.{HaveConstants}
use Rattle.ae_between_rounds.specs.declared.search.Search.{Search}
use Rattle.ae_block_constants.proofs.Numbers.{agrees, first_of}
use Rattle.ae_block_constants.specs.Blocks.{opened_pairs}
use Rattle.ae_block_constants.specs.declared.opened.Opened.{Opened}
use Rattle.ae_core.specs.Putting.{put_formula}
use Rattle.ae_core.specs.declared.formulas.Formula.{Formula, out-Formula}
use Rattle.ae_core.specs.declared.formulas.Lit.{Lit}
use Rattle.ae_core.specs.declared.formulas.Quant.{Quant}
use Rattle.ae_core.specs.declared.problems.Problem.{Problem}
use Rattle.ae_finished_rounds.proofs.Standing.{completed, equal, firsts_stand, have_names, holds, lawful, literal_sorted, name_exhausted, never_both, predicate_fails, predicate_holds, rows_stand, satisfied, unequal}
use Rattle.ae_finished_rounds.proofs.Taken.{is_in_list, is_listed, listed_is}
use Rattle.ae_journal.proofs.Splits.{contains_cases, contains_here, contains_later}
use Rattle.ae_journal.specs.States.{IsSaturated, IsSaturatedBy, Selection, is_universal, quant_of}
use Rattle.ae_journal.specs.declared.systems.PointAt.{PointAt}
use Rattle.ae_open_states.proofs.Trails.{place_of}
use Rattle.ae_open_states.specs.Shown.{trail_literals}
use Rattle.ae_opening.proofs.Asked.{asking}
use Rattle.ae_opening.specs.Asking.{asks_for_terms}
use Rattle.ae_owed.proofs.Saturated.{none_is_owed}
use Rattle.ae_owed.specs.Owed.{IsOpened, IsTaken}
use Rattle.ae_rules.specs.Clauses.{Clause, literal, opposite}
use Rattle.ae_rules.specs.Instances.{count_from, fresh_clause}
use Rattle.ae_served_blocks.proofs.Bodies.{its_clause, its_sorts}
use Rattle.ae_served_blocks.proofs.Served.{are_served}
use Rattle.ae_served_blocks.specs.Served.{AreServed, opened_body}
use Rattle.ae_value_table.specs.Alike.{alike}

-- each block with its first constant is among the pairs
pair_of : (os : List Opened) (e : Opened) → Contains os e → Contains (opened_pairs os) (e.formula, e.first)
pair_of [] e c = absurd (omega (arith, c.1))
pair_of (d ∷ os) e c = elim (contains_cases d os e c) as (λ _. Contains (opened_pairs (d ∷ os)) (e.formula, e.first)) [
  | inl q ↦ subst (λ (w : Opened). Contains ((d.formula, d.first) ∷ opened_pairs os) (w.formula, w.first)) q (contains_here (d.formula, d.first) (opened_pairs os))
  | inr r ↦ contains_later (d.formula, d.first) (opened_pairs os) (e.formula, e.first) (pair_of os e r)
]

module _ (p : Problem) (g bound : ℕ) (o : Search) (point : List PointAt) (done : IsFinishedAt p g bound o point) where
  abbrev opened : List Opened
  opened = o.blocks.opened

  -- ---- blocks
  abbrev fresh : Formula → ℕ
  fresh = first_of o.blocks.next opened

  have : HaveConstants p g o.blocks.next opened o.store o.lines.items o.solver.propagation.clauses
  have = (holds p g bound o point done).constants

  served : AreServed p o.solver.propagation.trail (opened_body fresh)
  served =
      are_served p o.solver.propagation.trail o.solver.propagation.clauses opened fresh (agrees o.blocks.next opened have.apart) have.added done.served (lawful p g bound o point done).apart
      done.is_open.all_true (literal_sorted p g bound o point done)

  abbrev takes : Selection
  takes = record { body = opened_body fresh; instances = is_listed done.instantiated.0 }

  body_opened : (l : Lit) (q : Quant) → Contains (trail_literals o.solver.propagation.trail) l → is_universal l ≡ false → quant_of (out-Formula l.formula) ≡ Some q
      → IsOpened (opened_pairs opened) l (opened_body fresh l)
  body_opened l q h u e =
      let place = place_of o.solver.propagation.trail l h in
      let w = subst (λ (m : Lit). (b : Opened) × Contains opened b × (b.formula ≡ m.formula)) place.2 (done.served place.0 place.1 (ap asks_for_terms place.2 ∙ asking l q u e)) in
      let first : ℕ = (w.0).first in
      let body : Lit = literal l.positive (put_formula (count_from first q.sorts) q.body) in
      let first_is : fresh l.formula ≡ first = ap fresh (sym w.2) ∙ agrees o.blocks.next opened have.apart w.0 w.1 in
      let a = have.added w.0 w.1 in
      let states : fresh_clause l.formula first (out-Formula l.formula) ≡ Some a.0 = ap (λ (f : Formula). fresh_clause f first (out-Formula f)) (sym w.2) ∙ a.1 in
      let taken : opened_body fresh l ≡ body =
      (λ i. or_else (quant_of (out-Formula l.formula) >>= λ r. Some (literal l.positive (put_formula (count_from (first_is i) (its_sorts l.formula q e i)) r.body))) l)
      ∙ ap (λ (z : Option Quant). or_else (z >>= λ r. Some (literal l.positive (put_formula (count_from first q.sorts) r.body))) l) e in
      record {
        first = first;
        clause = a.0;
        among = subst (λ (f : Formula). Contains (opened_pairs opened) (f, first)) w.2 (pair_of opened w.0 w.1);
        states = states;
        has = subst (λ (c : Clause). Contains c (opened_body fresh l)) (its_clause l first a.0 q u e states)
            (subst (Contains (opposite l ∷ body ∷ [])) (sym taken) (contains_later (opposite l) (body ∷ []) body (contains_here body [])));
      }

  taken_so : IsTaken (trail_literals o.solver.propagation.trail) (opened_pairs opened) done.instantiated.0 takes
  taken_so = record { only = listed_is done.instantiated.0; all = is_in_list done.instantiated.0; bodies = body_opened }

  saturated_by : IsSaturatedBy p g (shown_at o point) takes bound
  saturated_by = record {
    consistent = never_both p g bound o point done;
    completed = completed p g bound o point done;
    named = have_names p g bound o point done;
    firsts = firsts_stand p g bound o point done;
    taken_apart = rows_stand p g bound o point done;
    equal = equal p g bound o point done;
    unequal = unequal p g bound o point done;
    constructors = (satisfied p g bound o point done).constructors;
    predicates = λ q ss ts us h i. (satisfied p g bound o point done).predicates q ss ts us (predicate_holds p g bound o point done q ss ts h) (predicate_fails p g bound o point done q ss us i);
    exhausted = name_exhausted p g bound o point done;
    whole = (satisfied p g bound o point done).whole;
    inequalities = done.inequalities;
    blocks = served;
    instances = none_is_owed p g bound (shown_at o point) o.store (alike o.solver.theory.values) (opened_pairs opened) done.instantiated.0 takes done.instantiated.1 taken_so;
  }

pub saturated : (p : Problem) (g bound : ℕ) (o : Search) (point : List PointAt) → IsFinishedAt p g bound o point → IsSaturated p g (shown_at o point) bound
saturated p g bound o point done = (takes p g bound o point done, saturated_by p g bound o point done)
