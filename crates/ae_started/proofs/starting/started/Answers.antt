use Rattle.std.proofs.Common.{rules, [], ◌∷◌, ◌++◌, ◌<◌, ◌≡◌, sym, ap, subst, ◌∙◌, take, length, Some}
use Rattle.std.proofs.lemmas.List.{take_more}
use Rattle.std.proofs.lemmas.Option.{slice_get-get_or, get_or_from_slice_get}
use Rattle.std.specs.List.{Contains}
use Rattle.ae_rules.specs.Clauses.{Clause}
use Rattle.ae_started.specs.Started.{AreOwn}
use Rattle.ae_started.proofs.Owning.{none_own, one_more}
use Rattle.ae_started.proofs.starting.started.Goals as goal

pub loop-number-init : goal.loop-number-init
loop-number-init g c = record {
  alive = λ store js f s d n. c.new-solver.ensures.alive store js f s d;
  clauses = c.new-solver.ensures.clauses;
  places = subst (AreOwn 0) (sym c.new-solver.ensures.places) none_own;
  trail = c.new-solver.ensures.trail;
  expanded = c.new-solver.ensures.expanded;
  theory = c.new-solver.ensures.theory;
}

pub loop-number-preserved : goal.loop-number-preserved
loop-number-preserved g c =
    let n = c.loop-number.number in
    let xs = c.args.clauses.now in
    let h : n < length xs = search rules in
    let x = c.index-clauses-number.result in
    let same : c.in_ok-clause.clause ≡ x = c.in_ok-clause.ensures ∙ c.as_slice.ensures in
    let i = c.loop-number.invariant in
    let e = c.in_ok-add.ensures in
    let at = get_or_from_slice_get xs n x [] (slice_get-get_or xs n x h ∙ ap (λ (z : Clause). Some z) (sym c.index-clauses-number.is)) in
    record {
      alive = λ store js f s d named. e.alive store js (i.alive store js f s d named) (λ l k. named x l (n, h, at) (subst (λ (w : Clause). Contains w l) same k));
      clauses = e.clauses ∙ (λ j. i.clauses j ++ same j ∷ []) ∙ ap (λ (y : Clause). take n xs ++ y ∷ []) c.index-clauses-number.is ∙ sym (take_more xs n x h);
      places = one_more n c.loop-number.solver.places c.add.new.self.places i.places e.places;
      trail = e.trail ∙ i.trail;
      expanded = e.expanded ∙ i.expanded;
      theory = e.theory ∙ i.theory;
    }
