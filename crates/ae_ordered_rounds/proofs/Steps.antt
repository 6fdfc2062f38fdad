-- What a round comes to, by what its steps come to.
use Rattle.std.specs.Prelude.{ℕ, ◌≤◌, ◌≡◌, List, [], ◌∷◌, ◌++◌, length, Result, Ok, Err, IsErrAnd}
use Rattle.std.proofs.Common.{arith, refl, sym, ap, ◌∙◌, subst, inl, inr}
use Rattle.std.proofs.lemmas.Bool.{cases_lt}
use Rattle.std.proofs.lemmas.Result.{err_from_is_err_and}
use Rattle.ae_between_rounds.specs.Between.{IsStopped}
use Rattle.ae_between_rounds.specs.declared.search.Search.{Search}
use Rattle.ae_core.specs.declared.problems.Problem.{Problem}
use Rattle.ae_explain.specs.declared.trail.Assigned.{Assigned}
use Rattle.ae_journal.proofs.Counting.{counted-append}
use Rattle.ae_journal.specs.Journals.{counted_in}
use Rattle.ae_journal.specs.Licences.{IsLicensed}
use Rattle.ae_journal.specs.Standing.{Setting}
use Rattle.ae_journal.specs.declared.answers.WideAt.{WideAt}
use Rattle.ae_journal.specs.declared.lines.Line.{Line}
use Rattle.ae_order_counts.specs.Counts.{IsOrderOpen}
use Rattle.ae_ordered_rounds.specs.Comes.{Advances, HasOrdered, IsAsked}
use Rattle.ae_ordered_rounds.specs.declared.ordering.Ordered.{Ordered}
use Rattle.ae_ordered_rounds.specs.declared.ordering.Ordered.TheVariants as ordered
use Rattle.ae_ordered_rounds.specs.declared.orders.Orders.{Orders}
use Rattle.ae_searching.specs.Told.{IsToldIn}
use Rattle.ae_solved_orders.specs.Same.{IsSameButJournal}
use Rattle.ae_theory.specs.declared.theory.Fail.{Fail}
use Rattle.ae_theory.specs.declared.theory.Fail.TheVariants as fail

pub same_itself : (o : Search) → IsSameButJournal o o
same_itself o = record { store = refl; solver = refl; lines = refl; blocks = refl; ages = refl; known = refl; looked = refl; owners = refl; instances = refl }

same_more : (a b c : Search) → IsSameButJournal a b → IsSameButJournal b c → IsSameButJournal a c
same_more a b c x y = record {
  store = y.store ∙ x.store;
  solver = y.solver ∙ x.solver;
  lines = y.lines ∙ x.lines;
  blocks = y.blocks ∙ x.blocks;
  ages = y.ages ∙ x.ages;
  known = y.known ∙ x.known;
  looked = y.looked ∙ x.looked;
  owners = y.owners ∙ x.owners;
  instances = y.instances ∙ x.instances;
}

-- lines behind count no fewer
pub more_counted : (js ks added : List Line) → ks ≡ js ++ added → counted_in js ≤ counted_in ks
more_counted js ks added e = let n = ap counted_in e in omega (arith, n, counted-append js added)

-- ---- after a step that has changed nothing but the journal
module _ (p : Problem) (old mid new : Search) (s : IsSameButJournal old mid) where
  asked_before : IsAsked p mid new → IsAsked p old new
  asked_before a = record {
    left = a.left;
    right = a.right;
    clause = a.clause;
    is = a.is;
    clauses = a.clauses ∙ ap (λ w. w.propagation.clauses ++ a.clause ∷ []) s.solver;
    trail = a.trail ∙ ap (λ w. w.propagation.trail) s.solver;
    blocks = a.blocks ∙ s.blocks;
    is_open = subst (λ (t : List Assigned). IsOrderOpen t a.left a.right) (ap (λ w. w.propagation.trail) s.solver) a.is_open;
  }

  advances_before : counted_in old.journal.lines ≤ counted_in mid.journal.lines → Advances p mid new → Advances p old new
  advances_before m (inl l) = inl (omega (arith, l, m))
  advances_before m (inr (e, a)) = elim (cases_lt (counted_in old.journal.lines) (counted_in mid.journal.lines)) as (λ _. Advances p old new) [
    | inl l ↦ inl (omega (arith, l, e))
    | inr n ↦ inr (omega (arith, n, m, e), asked_before a)
  ]

module _ (p : Problem) (g bound : ℕ) where
  -- after a step that has changed nothing but the journal
  pub later : (old mid new : Search) (k : Orders) (r : Result Ordered Fail) → IsSameButJournal old mid → counted_in old.journal.lines ≤ counted_in mid.journal.lines
      → HasOrdered p g bound mid new k r → HasOrdered p g bound old new k r
  later old mid new k (Ok ordered.Refuted) s m h = h
  later old mid new k (Ok ordered.Added) s m h = (h.0, (let e = ap (λ v. length v.items) s.lines in let l = h.1 in omega (arith, e, l)), h.2, advances_before p old mid new s m h.3)
  later old mid new k (Ok (ordered.Point made)) s m h = record { between = h.between; is_open = h.is_open; point = h.point; orders = h.orders; written = h.written; same = same_more old mid new s h.same; counted = (let n = h.counted in omega (arith, m, n)) }
  later old mid new k (Err fail.Steps) s m h = h
  later old mid new k (Err (fail.Number wide)) s m h = h
  later old mid new k (Err (fail.Memory failed)) s m h = tt

  -- by what a call says of its refusals
  pub failed_by : (old new : Search) (k : Orders) (e : Fail) → (e ≡ fail.Steps → IsStopped p g bound new × (counted_in new.journal.lines ≡ new.journal.limit))
      → ((wide : WideAt) → e ≡ fail.Number wide → IsStopped p g bound new × ((x : Setting) → IsToldIn p g new.store new.blocks.opened x → IsLicensed x new.journal.lines wide)) → HasOrdered p g bound old new k (Err e)
  failed_by old new k fail.Steps steps number = steps refl
  failed_by old new k (fail.Number wide) steps number = number wide refl
  failed_by old new k (fail.Memory failed) steps number = tt

  -- what holds of a refusal holds of what is passed on
  pub passed_on : (old new : Search) (k : Orders) (r : Result Ordered Fail) (e : Fail) → IsErrAnd r (λ x. x ≡ e) → HasOrdered p g bound old new k (Err e) → HasOrdered p g bound old new k r
  passed_on old new k r e h same = let q = err_from_is_err_and r h in subst (λ (z : Result Ordered Fail). HasOrdered p g bound old new k z) (sym (q.1 ∙ ap (λ (x : Fail). Err x) q.2)) same
