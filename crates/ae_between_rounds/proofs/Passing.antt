-- What may come between two looks at the rows, step after step.
use Rattle.std.specs.Prelude.{◌≡◌, List, [], ◌∷◌, ◌++◌, length}
use Rattle.std.specs.List.{AllByRecursion, Contains}
use Rattle.std.proofs.Common.{refl, sym, ap, ◌∙◌, subst, arith, append-nil, length-append, true}
use Rattle.ae_between_rounds.specs.Passing.{Passes}
use Rattle.ae_between_rounds.specs.Passing.Passes.{notes, rests}
use Rattle.ae_between_rounds.specs.declared.search.Search.{Search}
use Rattle.ae_journal.specs.Journals.{counted_in}
use Rattle.ae_journal.specs.declared.lines.Line.{Line}
use Rattle.ae_opening.specs.declared.opening.OpenedBlocks.{OpenedBlocks}
use Rattle.ae_sat.proofs.Resting.{lengthens_more, lengthens_none}
use Rattle.ae_sat.specs.Search.{Keeps, Lengthens, is_own_line}
use Rattle.ae_searching.proofs.Combinations.{none_more, none_of_own}
use Rattle.ae_searching.specs.Steps.{NotesNoCombination}
use Rattle.ae_store.specs.Stores.{Stored}
use Rattle.ae_theory.specs.Names.{Extends}

pub extends_same : (s : Stored) → Extends s s
extends_same s = record { signature = refl; keeps = λ i t h. h }

pub extends_more : (a b c : Stored) → Extends a b → Extends b c → Extends a c
extends_more a b c x y = record { signature = y.signature ∙ x.signature; keeps = λ i t h. y.keeps i t (x.keeps i t h) }

pub passes_same : (o : Search) → Passes o o
passes_same o = rests refl (lengthens_none o.solver.propagation.trail o.solver.propagation.trail refl) (extends_same o.store) (λ e i. i)

pub passes_more : (a b c : Search) → Passes a b → Passes b c → Passes a c
passes_more a b c (rests j t s o) (rests j2 t2 s2 o2) =
    rests (j2 ∙ j) (lengthens_more a.solver.propagation.trail b.solver.propagation.trail c.solver.propagation.trail t t2) (extends_more a.store b.store c.store s s2) (λ e i. o2 e (o e i))
passes_more a b c (rests j t s o) (notes n lt) = notes (subst (λ (js : List Line). NotesNoCombination js c.journal.lines) j n) (omega (arith, lt, ap (λ (js : List Line). length js) j))
passes_more a b c (notes n lt) (rests j2 t2 s2 o2) = notes (subst (NotesNoCombination a.journal.lines) (sym j2) n) (omega (arith, lt, ap (λ (js : List Line). length js) j2))
passes_more a b c (notes n lt) (notes n2 lt2) = notes (none_more a.journal.lines b.journal.lines c.journal.lines n n2) (omega (arith, lt, lt2))

-- a run of the solver
module _ (o n : Search) (store : n.store ≡ o.store) (blocks : n.blocks ≡ o.blocks)
    (still : counted_in n.journal.lines ≡ counted_in o.journal.lines → Lengthens o.solver.propagation.trail n.solver.propagation.trail) where
  by_added : (added : List Line) → n.journal.lines ≡ o.journal.lines ++ added → AllByRecursion (λ j. is_own_line j ≡ true) added → Passes o n
  by_added [] is own =
      let same : n.journal.lines ≡ o.journal.lines = is ∙ append-nil o.journal.lines in
      rests same (still (ap counted_in same)) (subst (Extends o.store) (sym store) (extends_same o.store)) (λ e i. subst (λ (z : OpenedBlocks). Contains z.opened e) (sym blocks) i)
  by_added (j ∷ js) is own =
      notes (none_of_own o.journal.lines n.journal.lines (j ∷ js, is, own)) (omega (arith, ap (λ (ls : List Line). length ls) is, length-append o.journal.lines (j ∷ js)))

  pub passes_run : Keeps o.journal n.journal → Passes o n
  passes_run k = by_added (k.own).0 (k.own).1 (k.own).2
