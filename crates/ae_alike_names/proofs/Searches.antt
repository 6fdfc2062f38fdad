-- What is assumed in a search may stand, and so names that are alike are equal.
use Rattle.std.specs.Prelude.{ℕ, ◌<◌, List, ◌≡◌, length, take, min}
use Rattle.std.specs.List.{Contains}
use Rattle.std.proofs.Common.{sym, ap, ◌∙◌, subst, arith}
use Rattle.std.proofs.lemmas.List.{length-take}
use Rattle.ae_alike_names.proofs.EqualNow.{alike_names_are_equal_now}
use Rattle.ae_alike_names.specs.Alike.{AlikeNamesAreEqualInSearches, AssumedLiteralsMayStand, IsSearchingNow}
use Rattle.ae_block_constants.specs.declared.opened.Opened.{Opened}
use Rattle.ae_combine.specs.declared.state.Mark.{Mark}
use Rattle.ae_core.specs.declared.problems.Problem.{Problem}
use Rattle.ae_core.specs.declared.proofs.ClauseLine.{ClauseLine}
use Rattle.ae_exact_names.specs.Exact.{PredicatesAreThemselvesAlone, SameIsConsequence}
use Rattle.ae_explain.specs.Trail.{at as place}
use Rattle.ae_explain.specs.declared.trail.Assigned.{Assigned}
use Rattle.ae_journal.specs.Standing.{Setting, MayStand}
use Rattle.ae_journal.specs.declared.lines.Line.{Line}
use Rattle.ae_sat.proofs.Cutting.{at_take}
use Rattle.ae_sat.proofs.Learning.{trail_may_stand}
use Rattle.ae_sat.proofs.Saturating.{atoms_stand}
use Rattle.ae_sat.specs.declared.solver.Solver.{Solver}
use Rattle.ae_searching.specs.Told.{IsToldIn}
use Rattle.ae_state.specs.Names.{assumed_in}
use Rattle.ae_state.specs.declared.holding.Holding.{Holding}
use Rattle.ae_store.specs.Stores.{Stored}
use Rattle.ae_theory.specs.Noting.{MayAll, literals}
use Rattle.ae_theory.specs.Tagged.{Tagged}

module _ (p : Problem) (g bound level : ℕ) (s : Stored) (opened : List Opened) (o : Solver Holding Mark) (lines : List ClauseLine) (js : List Line)
    (h : IsSearchingNow p g bound level s opened o lines js) (x : Setting) (told : IsToldIn p g s opened x) where
  abbrev t : List Assigned
  t = o.propagation.trail

  stands : (j : ℕ) → j < length t → MayStand x js (place t j).lit
  stands = trail_may_stand x t o.propagation.clauses js h.alive.running.lawful h.alive.running.decided (h.lawful x told).possible

  stands_before : (j : ℕ) → j < length (take o.handed t) → MayStand x js (place (take o.handed t) j).lit
  stands_before j w =
      let long : length (take o.handed t) ≡ min o.handed (length t) = length-take o.handed t in
      subst (λ (a : Assigned). MayStand x js a.lit) (sym (at_take t o.handed j (omega (arith, w, long)))) (stands j (omega (arith, w, long)))

  pub may_all : MayAll x (literals (assumed_in o.theory)) js
  may_all l k = atoms_stand (MayStand x js) 0 (take o.handed t) stands_before l (subst (λ (ts : List Tagged). Contains (literals ts) l) h.alive.running.told_all k)

pub assumed_literals_may_stand : AssumedLiteralsMayStand
assumed_literals_may_stand p g bound level s opened o lines js h x told = may_all p g bound level s opened o lines js h x told

pub alike_names_are_equal_in_searches : SameIsConsequence → PredicatesAreThemselvesAlone → AlikeNamesAreEqualInSearches
alike_names_are_equal_in_searches law alone p g bound level s more opened o lines js t grows h x told =
    alike_names_are_equal_now law alone x o.theory s more js (ap (λ (q : Problem). q.signature) told.problem ∙ h.signature ∙ grows.signature) t grows
    (may_all p g bound level more opened o lines js h x told)
