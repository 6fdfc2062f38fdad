-- A search whose journal got combinations of rows.
use Rattle.std.specs.Prelude.{ℕ, ◌≡◌, Bool, List, [], ◌∷◌, ◌++◌, length, Result, Ok, Err, IfOk, Some}
use Rattle.std.specs.List.{Contains}
use Rattle.std.proofs.Common.{arith, sym, ap, ◌∙◌, subst, inl, inr}
use Rattle.std.proofs.lemmas.Option.{same_Some}
use Rattle.ae_base.proofs.ListFacts.{cons_tail}
use Rattle.ae_kept_orders.proofs.Passed.{instances_lines, some_told, system_value}
use Rattle.ae_kept_orders.specs.Searches.{IsBetweenRounds, IsOpenSearch, IsPointOf, IsSearchingBelow, Search}
use Rattle.ae_core.specs.declared.formulas.Lit.{Lit}
use Rattle.ae_core.specs.declared.problems.Problem.{Problem}
use Rattle.ae_core.specs.declared.terms.Term.{Term}
use Rattle.ae_journal.proofs.Splits.{contains_cases}
use Rattle.ae_journal.specs.Journals.{OnlyCombines}
use Rattle.ae_journal.specs.Legal.{AreLegal}
use Rattle.ae_journal.specs.Noted.{Noted}
use Rattle.ae_journal.specs.Standing.{Setting, value_now}
use Rattle.ae_journal.specs.States.{HoldsAt, inequality}
use Rattle.ae_journal.specs.Values.{Val, minus_val, sum_in}
use Rattle.ae_journal.specs.declared.lines.Line.{Line}
use Rattle.ae_journal.specs.declared.lines.Line.TheVariants as line
use Rattle.ae_journal.specs.declared.systems.PointAt.{PointAt}
use Rattle.ae_kept_orders.specs.Orders.{AreOrdersOf}
use Rattle.ae_kept_orders.specs.Rows.{AreInStepWith, AreRowsFor, KeptRows, literals_from}
use Rattle.ae_open_states.proofs.Trails.{place_of}
use Rattle.ae_propagation.specs.Settled.{last_level}
use Rattle.ae_searching.specs.Steps.{IsInstanceLine}
use Rattle.ae_searching.specs.Told.{IsToldIn}
use Rattle.ae_solved_orders.proofs.Standing.{all_taken, stands_beside}
use Rattle.ae_solved_orders.proofs.Trails.{listed}

-- combinations are no instances
no_instance : (added : List Line) → OnlyCombines added → (j : Line) → Contains added j → ¬ IsInstanceLine j
no_instance [] o j c = absurd (omega (arith, c.1))
no_instance (line.Combine b h ∷ js) o j c = elim (contains_cases (line.Combine b h) js j c) as (λ _. ¬ IsInstanceLine j) [
  | inl e ↦ subst (λ (k : Line). ¬ IsInstanceLine k) e (λ z. z)
  | inr d ↦ no_instance js o j d
]
no_instance (line.Decide l ∷ js) o j c = absurd o
no_instance (line.Orient u ∷ js) o j c = absurd o
no_instance (line.Drop u ∷ js) o j c = absurd o
no_instance (line.Pair u a d ∷ js) o j c = absurd o
no_instance (line.Learn k ∷ js) o j c = absurd o
no_instance (line.TypeInstance k ss ∷ js) o j c = absurd o
no_instance (line.TermInstance f ts ∷ js) o j c = absurd o
no_instance (line.Back n ∷ js) o j c = absurd o

-- the search with another journal
abbrev pub with_journal : Search → Noted → Search
with_journal o j = record {
  store = o.store;
  solver = o.solver;
  journal = j;
  lines = o.lines;
  blocks = o.blocks;
  ages = o.ages;
  known = o.known;
  looked = o.looked;
  owners = o.owners;
  instances = o.instances;
}

-- three facts of a value make a fourth
pub all_three : {T E : Type 0} (r : Result T E) (P Q R S : T → Type 0) → ((x : T) → P x → Q x → R x → S x) → IfOk r P → IfOk r Q → IfOk r R → IfOk r S
all_three (Ok x) P Q R S f p q u = f x p q u
all_three (Err e) P Q R S f p q u = tt

rest_same : (js a b : List Line) → js ++ a ≡ js ++ b → a ≡ b
rest_same [] a b e = e
rest_same (j ∷ js) a b e = rest_same js a b (cons_tail j j (js ++ a) (js ++ b) e)

module _ (p : Problem) (g bound : ℕ) (o : Search) (between : IsBetweenRounds p g bound o) (j : Noted) (added : List Line) (lines : j.lines ≡ o.journal.lines ++ added) (only : OnlyCombines added) where
  pub between_after : IsSearchingBelow p g bound (last_level o.solver.propagation.trail) (with_journal o (record { lines = o.journal.lines ++ added; limit = j.limit })) → IsBetweenRounds p g bound (with_journal o j)
  between_after searching =
      let h = between.holds in
      record {
        searching = subst (λ (ls : List Line). IsSearchingBelow p g bound (last_level o.solver.propagation.trail) (with_journal o (record { lines = ls; limit = j.limit }))) (sym lines) searching;
        looked = between.looked;
        holds = record {
          store = h.store;
          firsts = h.firsts;
          constants = h.constants;
          instances = instances_lines p g bound o.store o.blocks.opened o.owners o.instances.made o.instances.taken.taken o.ages o.journal.lines h.instances j.lines
              (record { added = added; is = lines; none = no_instance added only });
          choices = h.choices;
          heads = h.heads;
          fine = h.fine;
          orderless = h.orderless;
        };
      }

  -- the combinations are legal, so the search goes on
  pub grown : ((x : Setting) → IsToldIn p g o.store o.blocks.opened x → (a : List Line) × (j.lines ≡ o.journal.lines ++ a) × AreLegal x bound o.journal.lines a)
      → (((x : Setting) → IsToldIn p g o.store o.blocks.opened x → AreLegal x bound o.journal.lines added) → IsSearchingBelow p g bound (last_level o.solver.propagation.trail) o
      → IsSearchingBelow p g bound (last_level o.solver.propagation.trail) (with_journal o (record { lines = o.journal.lines ++ added; limit = j.limit })))
      → IsBetweenRounds p g bound (with_journal o j)
  grown legal grow = between_after (grow
      (λ x told. let l = legal x told in subst (AreLegal x bound o.journal.lines) (rest_same o.journal.lines l.0 added (sym l.1 ∙ lines)) l.2)
      between.searching)

  module _ (after : IsBetweenRounds p g bound (with_journal o j)) (is_open : IsOpenSearch o) where
    -- the search has nothing left to do still: what says so doesn't speak of the journal
    pub open_after : IsOpenSearch (with_journal o j)
    open_after = record { all_true = is_open.all_true; told = is_open.told; complete = is_open.complete }

    -- a point by the values of the journal is one by those of the system
    pub point_after : (made : List PointAt)
        → ((x : Setting) → IsToldIn p g o.store o.blocks.opened x → (l : Lit) (u w : Term) (strict : Bool) → Contains (literals_from o.solver.propagation.trail 0) l → inequality l ≡ Some (u, w, strict)
        → HoldsAt made strict (sum_in (minus_val (value_now x j.lines u) (value_now x j.lines w)))) → IsPointOf (with_journal o j) made
    point_after made holds l u w strict v z c e first second =
        let told = some_told p g o.blocks.next o.store o.blocks.opened between.holds.constants.apart in
        let x = told.0 in
        let beside = stands_beside p g bound (with_journal o j) after open_after x told.1 in
        let taken = all_taken p g bound (with_journal o j) after open_after in
        let a = system_value o.solver.theory o.store taken x j.lines beside u v first in
        let b = system_value o.solver.theory o.store taken x j.lines beside w z second in
        subst (λ (y : Val × Val). HoldsAt made strict (sum_in (minus_val y.0 y.1))) (λ i. (a i, b i)) (holds x told.1 l u w strict (listed o.solver.propagation.trail l (place_of o.solver.propagation.trail l c)) e)

  -- rows that were kept at these lines
  pub orders_after : (k : KeptRows) → k.lines ≡ length j.lines → AreRowsFor o.store o.solver.propagation.trail k
      → ((x : Setting) → IsToldIn p g o.store o.blocks.opened x → AreInStepWith x j.lines o.solver.propagation.trail k) → AreOrdersOf p g (with_journal o j) (Some k)
  orders_after k long rows step = record {
    kept = λ e. rows;
    past = λ r e. let s = ap (λ (q : KeptRows). q.lines) (sym (same_Some k r e)) ∙ long in omega (arith, s);
    agree = λ x told. (λ e. step x told, λ d. absurd (d long));
  }
