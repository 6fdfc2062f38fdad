-- A batch at its end: where nothing came, and where the search goes back.
use Rattle.std.specs.Prelude.{ℕ, ◌<◌, ◌≡◌, ◌⊎◌, List, [], ◌∷◌, ◌++◌, length}
use Rattle.std.specs.List.{Contains}
use Rattle.std.proofs.Common.{sym, ap, ◌∙◌, subst, arith, inl, inr, length-append}
use Rattle.ae_between_rounds.proofs.Growing.{instances_lines}
use Rattle.ae_between_rounds.specs.Between.{Holds, IsBetweenRounds, IsSearchingBelow, IsStopped}
use Rattle.ae_between_rounds.specs.Fine.{AreFine, AreOrderless}
use Rattle.ae_between_rounds.specs.Finished.{IsOpenSearch}
use Rattle.ae_between_rounds.specs.Held.{HasFirstOnes, HaveChoices, HaveConstants}
use Rattle.ae_between_rounds.specs.declared.search.Search.{Search}
use Rattle.ae_between_rounds.specs.Rewriting.{IsMarkOf}
use Rattle.ae_between_rounds.specs.Rewriting.{Mark}
use Rattle.ae_core.specs.declared.problems.Problem.{Problem}
use Rattle.ae_core.specs.declared.proofs.ClauseLine.{ClauseLine}
use Rattle.ae_core.specs.declared.terms.Term.{Term}
use Rattle.ae_journal.proofs.Counting.{counted_push}
use Rattle.ae_journal.specs.Journals.{counted_in}
use Rattle.ae_journal.specs.Noted.{Noted}
use Rattle.ae_journal.specs.declared.lines.Line.{Line}
use Rattle.ae_journal.specs.declared.lines.Line.TheVariants as line
use Rattle.ae_made_instances.specs.Inner.Beside.{IsInBatch}
use Rattle.ae_made_instances.specs.Inner.Noting.{Came, GoesOn}
use Rattle.ae_made_instances.specs.Inner.Noting.Came.{nothing, some}
use Rattle.ae_opening.specs.declared.opening.OpenedBlocks.{OpenedBlocks}
use Rattle.ae_propagation.specs.Settled.{last_level}
use Rattle.ae_sat.specs.Search.{IsOpen}
use Rattle.ae_sat.specs.declared.solver.Solver.{Solver}
use Rattle.ae_searching.proofs.Combinations.{none_back, none_more}
use Rattle.ae_searching.proofs.Searching.{searching_named}
use Rattle.ae_searching.specs.Searching.{IsLawfulSoFar, IsSearching}
use Rattle.ae_searching.specs.Steps.{Grows, HasNews, NotesNoCombination, NotesNoInstance}
use Rattle.ae_state.proofs.Standing.{larger_fit}
use Rattle.ae_state.specs.Complete.{IsComplete}
use Rattle.ae_state.specs.Fitting.{FitsStore}
use Rattle.ae_state.specs.Names.{assumed_in, terms_now}
use Rattle.ae_state.specs.Stepping.{IsInStep}
use Rattle.ae_state.specs.declared.holding.Holding.{Holding}
use Rattle.ae_theory.specs.Names.{terms_in}

-- ---- where nothing came
module _ (p : Problem) (g bound level : ℕ) (o o2 : Search) (y : GoesOn o o2) (es : o2.solver ≡ o.solver) (ej : o2.journal ≡ o.journal) (ei : o2.lines.items ≡ o.lines.items) (et : terms_in o2.store ≡ terms_in o.store)
    (s : IsSearchingBelow p g bound level o) where
  grown : Grows p g o.store o2.store o.blocks.opened o.blocks.opened o.journal.lines
  grown = record { extends = y.extends; opened_still = λ e i. i; entered = λ x told t i. inl (subst (λ (z : List Term). Contains z t) et i) }

  pub searching_still : IsSearchingBelow p g bound level o2
  searching_still =
      subst (λ (z : OpenedBlocks). IsSearching FitsStore assumed_in IsMarkOf IsInStep p g bound o2.store z.opened level o2.solver o2.lines.items o2.journal.lines) (sym y.blocks)
      (subst (λ (z : Solver Holding Mark). IsSearching FitsStore assumed_in IsMarkOf IsInStep p g bound o2.store o.blocks.opened level z o2.lines.items o2.journal.lines) (sym es)
      (subst (λ (z : List ClauseLine). IsSearching FitsStore assumed_in IsMarkOf IsInStep p g bound o2.store o.blocks.opened level o.solver z o2.journal.lines) (sym ei)
      (subst (λ (z : Noted). IsSearching FitsStore assumed_in IsMarkOf IsInStep p g bound o2.store o.blocks.opened level o.solver o.lines.items z.lines) (sym ej)
      (searching_named FitsStore assumed_in IsMarkOf IsInStep p g bound o.store o2.store o.blocks.opened o.blocks.opened level o.solver o.lines.items o.journal.lines
      (λ f. larger_fit o.solver.theory o.store o2.store y.extends f) grown s))))

-- no line came, so nothing did
pub came_nothing : (o o2 : Search) → length o2.lines.items ≡ length o.lines.items → Came o o2 → (o2.solver ≡ o.solver) × (o2.journal ≡ o.journal) × (o2.lines ≡ o.lines) × (o2.lines.items ≡ o.lines.items) × (terms_in o2.store ≡ terms_in o.store)
came_nothing o o2 e (nothing s j l i t) = (s, j, l, i, t)
came_nothing o o2 e (some news later more counted) = absurd (omega (arith, e, more))

-- a line came
pub came_some : (o o2 : Search) → ¬ (length o2.lines.items ≡ length o.lines.items) → Came o o2
    → HasNews o2.journal.lines × (length o.lines.items < length o2.lines.items) × (length o.journal.lines < length o2.journal.lines) × (counted_in o.journal.lines < counted_in o2.journal.lines)
came_some o o2 n (nothing s j l i t) = absurd (n (ap (λ (z : List ClauseLine). length z) i))
came_some o o2 n (some news later more counted) = (news, more, later, counted)

module _ (p : Problem) (g bound level : ℕ) (o o2 : Search) (b : IsBetweenRounds p g bound o) (y : GoesOn o o2) (m : IsInBatch p g bound level o2) (e : length o2.lines.items ≡ length o.lines.items) (c : Came o o2) where
  pub between_still : IsBetweenRounds p g bound o2
  between_still =
      let n = came_nothing o o2 e c in
      record {
        searching = subst (λ (z : Solver Holding Mark). IsSearchingBelow p g bound (last_level z.propagation.trail) o2) (sym n.0) (searching_still p g bound (last_level o.solver.propagation.trail) o o2 y n.0 n.1 n.3 n.4 b.searching);
        looked = m.looked;
        holds = m.holds;
      }

  pub open_still : IsOpenSearch o → IsOpenSearch o2
  open_still w =
      let n = came_nothing o o2 e c in
      record {
        all_true = subst (λ (z : Solver Holding Mark). IsOpen z.propagation.trail z.propagation.clauses) (sym n.0) w.all_true;
        told = subst (λ (z : Solver Holding Mark). z.handed ≡ length z.propagation.trail) (sym n.0) w.told;
        complete = (subst (λ (z : Solver Holding Mark). IsComplete z.theory) (sym n.0) w.complete.0, ap (λ (z : Solver Holding Mark). terms_now z.theory) n.0 ∙ (w.complete.1 ∙ sym n.4));
      }

-- ---- where the search goes back
module _ (p : Problem) (g bound : ℕ) (o : Search) (solver : Solver Holding Mark) (journal : Noted) (h : Holds p g bound o) where
  pub holds_returned : solver.propagation.clauses ≡ o.solver.propagation.clauses → NotesNoInstance o.journal.lines journal.lines → Holds p g bound (record o { solver = solver; journal = journal })
  holds_returned ec none = record {
    store = h.store;
    firsts = subst (HasFirstOnes p g) (sym ec) h.firsts;
    constants = subst (HaveConstants p g o.blocks.next o.blocks.opened o.store o.lines.items) (sym ec) h.constants;
    instances = instances_lines p g bound o.store o.blocks.opened o.owners o.instances.made o.instances.taken.taken o.ages o.journal.lines h.instances journal.lines none;
    choices = subst (HaveChoices p.signature o.store o.looked) (sym ec) h.choices;
    heads = h.heads;
    fine = λ low. subst (AreFine o.store o.lines.items) (sym ec) (h.fine low);
    orderless = λ w. subst AreOrderless (sym ec) (h.orderless w);
  }

  pub stopped_returned : p.signature ≡ o.store.signature → IsLawfulSoFar p g bound o.store o.blocks.opened o.lines.items journal.lines → IsStopped p g bound (record o { solver = solver; journal = journal })
  stopped_returned same w = record { lawful = w; apart = h.constants.apart; signature = sym same; store = h.store }

pub limit_returned : (old new : Noted) (n : ℕ) → (new ≡ old) ⊎ (new ≡ record old { lines = old.lines ++ line.Back n ∷ [] }) → new.limit ≡ old.limit
limit_returned old new n (inl q) = ap (λ (z : Noted). z.limit) q
limit_returned old new n (inr q) = ap (λ (z : Noted). z.limit) q

-- lines of instances came, and perhaps a `Back` line
pub noted_batch : (o o2 : Search) (journal : Noted) (n : ℕ) → GoesOn o o2 → length o.journal.lines < length o2.journal.lines
    → (journal ≡ o2.journal) ⊎ (journal ≡ record o2.journal { lines = o2.journal.lines ++ line.Back n ∷ [] })
    → NotesNoCombination o.journal.lines journal.lines × (length o.journal.lines < length journal.lines)
noted_batch o o2 journal n y later back =
    let b = none_back o2.journal journal n back in (
      none_more o.journal.lines o2.journal.lines journal.lines (record { added = y.added; is = y.is; none = y.plain }) b,
      omega (arith, later, ap (λ (w : List Line). length w) b.is, length-append o2.journal.lines b.added),
    )

-- a `Back` line isn't counted
pub counted_batch : (old now new : Noted) (n : ℕ) → counted_in old.lines < counted_in now.lines → (new ≡ now) ⊎ (new ≡ record now { lines = now.lines ++ line.Back n ∷ [] }) → counted_in old.lines < counted_in new.lines
counted_batch old now new n lt (inl e) = omega (arith, lt, ap (λ (z : Noted). counted_in z.lines) e)
counted_batch old now new n lt (inr e) = omega (arith, lt, ap (λ (z : Noted). counted_in z.lines) e, counted_push now.lines (line.Back n))
