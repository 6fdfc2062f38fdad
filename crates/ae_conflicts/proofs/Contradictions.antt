-- Assumed literals of which there is a conflict can't hold together.
use Rattle.std.specs.Prelude.{ℕ, zero, suc, Bool, true, false, cond, List, [], ◌∷◌, ◌≡◌, slice_get, Some}
use Rattle.std.specs.List.{AllByRecursion, Contains, list_all, filter}
use Rattle.std.proofs.Common.{refl, ap, ◌∙◌, subst}
use Rattle.std.proofs.lemmas.Bool.{and_from}
use Rattle.std.proofs.lemmas.Option.{slice_get-get_or}
use Rattle.ae_base.proofs.AllOf.{all_weaker}
use Rattle.ae_base.proofs.ListFacts.{get_map}
use Rattle.ae_core.specs.Sorts.{formula_ok}
use Rattle.ae_core.specs.declared.terms.Term.{Term, Apply}
use Rattle.ae_core.specs.declared.formulas.Formula.{Eq, Pred}
use Rattle.ae_core.specs.declared.formulas.Lit.{Lit}
use Rattle.ae_core.specs.declared.problems.Signature.{Signature}
use Rattle.ae_core.specs.declared.proofs.EqLine.{EqLine}
use Rattle.ae_core.specs.declared.proofs.Ending.{Ending}
use Rattle.ae_core.specs.declared.proofs.Ending.TheVariants as ending
use Rattle.ae_rules.specs.Clauses.{is_true, is_false}
use Rattle.ae_rules.specs.Derivations.{AreContradictory, Ends}
use Rattle.ae_rules.specs.Lines.{Fact, equal, fact_ok, Among, AllAllowed, Follows}
use Rattle.ae_rules.proofs.Written.{written, ShownAll, all_more}
use Rattle.ae_journal.proofs.Splits.{contains_here, contains_later}
use Rattle.ae_just.specs.declared.steps.Step.{Step}
use Rattle.ae_just.specs.Steps.{literal, Fits}
use Rattle.ae_follows.specs.Assuming.{AssumesOnly}
use Rattle.ae_follows.proofs.Following.{step_follows}
use Rattle.ae_theory.specs.Tagged.{Tagged}
use Rattle.ae_theory.specs.Noting.{literals}
use Rattle.ae_conflicts.specs.declared.assumed.Assumed.{Assumed}
use Rattle.ae_conflicts.specs.declared.conflicts.Conflict.{Conflict}
use Rattle.ae_conflicts.specs.declared.conflicts.Conflict.TheVariants as conflict
use Rattle.ae_conflicts.specs.Saying.{tagged, IsAssumedAt, RestsOnAssumed, SaysEqual, SayEqual}
use Rattle.ae_conflicts.specs.Conflicting.{IsConflict}
use Rattle.ae_conflicts.proofs.Assumptions.{assumed_contains}
use Rattle.ae_conflicts.proofs.Resting.{equation_sorted, literal_sorted}
use Rattle.ae_conflicts.proofs.Blocks.{says_sorted}

-- ---- literals that pass a test
among_here : (b : Bool) (x : Lit) (ys : List Lit) → b ≡ true → Among (cond b (x ∷ ys) ys) x
among_here true x ys e = (0, refl)
among_here false x ys e = cc e

among_later : (b : Bool) (x : Lit) (ys : List Lit) (l : Lit) → Among ys l → Among (cond b (x ∷ ys) ys) l
among_later true x ys l a = (suc a.0, a.1)
among_later false x ys l a = a

kept_among : (test : Lit → Bool) (xs : List Lit) (i : ℕ) (l : Lit) → slice_get xs i ≡ Some l → test l ≡ true → Among (filter test xs) l
kept_among test [] i l e o = cc e
kept_among test (x ∷ xs) zero l e o = let q : x ≡ l = cc e in subst (λ z. Among (filter test (x ∷ xs)) z) q (among_here (test x) x (filter test xs) (ap test q ∙ o))
kept_among test (x ∷ xs) (suc i) l e o = among_later (test x) x (filter test xs) l (kept_among test xs i l e o)

passes_by : (test : Lit → Bool) (x : Lit) (ys : List Lit) (b : Bool) → test x ≡ b → list_all test ys ≡ true → list_all test (cond b (x ∷ ys) ys) ≡ true
passes_by test x ys true e a = and_from (test x) (list_all test ys) e a
passes_by test x ys false e a = a

kept_pass : (test : Lit → Bool) (xs : List Lit) → list_all test (filter test xs) ≡ true
kept_pass test [] = refl
kept_pass test (x ∷ xs) = passes_by test x (filter test xs) (test x) refl (kept_pass test xs)

contains_by : (x : Lit) (xs ys : List Lit) (b : Bool) → AllByRecursion (Contains xs) ys → AllByRecursion (Contains (x ∷ xs)) (cond b (x ∷ ys) ys)
contains_by x xs ys true a = (contains_here x xs, all_weaker (Contains xs) (Contains (x ∷ xs)) (λ l c. contains_later x xs l c) ys a)
contains_by x xs ys false a = all_weaker (Contains xs) (Contains (x ∷ xs)) (λ l c. contains_later x xs l c) ys a

kept_contained : (test : Lit → Bool) (xs : List Lit) → AllByRecursion (Contains xs) (filter test xs)
kept_contained test [] = tt
kept_contained test (x ∷ xs) = contains_by x xs (filter test xs) (test x) (kept_contained test xs)

-- ---- the literals that are well sorted
module _ (sig : Signature) (ts : List Term) (steps : List Step) (held : List (ℕ × Assumed)) (fits : Fits sig ts steps) where
  abbrev assumptions : List Lit
  assumptions = literals (tagged held)

  abbrev is_sorted : Lit → Bool
  is_sorted l = formula_ok sig l.formula

  abbrev hyps : List Lit
  hyps = filter is_sorted assumptions

  held_among : (place : ℕ) (lit : Lit) (tag : ℕ) → IsAssumedAt held place lit tag → formula_ok sig lit.formula ≡ true → Among hyps lit
  held_among place lit tag a o =
      let t : Tagged = record { lit = lit; tag = tag } in
      let c = assumed_contains held place lit tag a in
      let at : slice_get (tagged held) c.0 ≡ Some t = slice_get-get_or (tagged held) c.0 t c.1 ∙ ap Some c.2 in
      kept_among is_sorted assumptions c.0 lit (get_map (λ (x : Tagged). x.lit) (tagged held) c.0 t at) o

  assumes : (id : ℕ) → RestsOnAssumed ts steps held id → AssumesOnly ts steps (Among hyps) id
  assumes id r = record { each = λ k tag s q e h. let a = r.each k tag s q e h in held_among a.0 (literal ts s) tag a.1 (literal_sorted sig ts steps fits k s e) }

  says_follow : (id : ℕ) (s t : Term) → SaysEqual ts steps held id s t → Follows sig (fact_ok sig) (Among hyps) (equal s t)
  says_follow id s t says = subst (λ (f : Fact). Follows sig (fact_ok sig) (Among hyps) f) says.states (step_follows sig (Among hyps) ts steps fits id says.step says.is (assumes id says.rests))

  say_shown : (ids : List ℕ) (us vs : List Term) → SayEqual ts steps held ids us vs → ShownAll sig (fact_ok sig) hyps us vs
  say_shown [] [] [] s = record { lines = []; all = tt; at = []; are = tt }
  say_shown (k ∷ ks) (u ∷ us) (v ∷ vs) s = all_more sig (fact_ok sig) hyps u v us vs (written sig (fact_ok sig) hyps (says_follow k u v s.0)) (say_shown ks us vs s.1)
  say_shown [] [] (v ∷ vs) s = absurd s
  say_shown [] (u ∷ us) vs s = absurd s
  say_shown (k ∷ ks) [] vs s = absurd s
  say_shown (k ∷ ks) (u ∷ us) [] s = absurd s

  ended : (lines : List EqLine) (e : Ending) → AllAllowed sig (fact_ok sig) hyps [] lines → Ends sig hyps lines e → AreContradictory sig assumptions
  ended lines e all ends =
      record {
        block = record { deriv = record { hyps = hyps; lines = lines }; ending = e };
        sorted = kept_pass is_sorted assumptions;
        among = kept_contained is_sorted assumptions;
        contradictory = (all, ends);
      }

  pub contradictory : (c : Conflict) → IsConflict sig ts steps held c → AreContradictory sig assumptions
  contradictory (conflict.Differ place id) own =
      let x = written sig (fact_ok sig) hyps (says_follow id own.left own.right own.says) in
      let a = held_among place (is_false (Eq own.left own.right)) own.tag own.denied (equation_sorted sig own.left own.right (says_sorted sig ts steps held fits id own.left own.right own.says)) in
      ended x.lines (ending.Neq x.at a.0) x.all (own.left, own.right, x.is, a.1)
  contradictory (conflict.Opposed positive negative ids) own =
      let x = say_shown ids own.args own.others own.say in
      let a = held_among positive (is_true (Pred own.predicate own.sorts own.args)) own.tag own.holds own.sorted in
      let b = held_among negative (is_false (Pred own.predicate own.sorts own.others)) own.other_tag own.fails own.others_sorted in
      ended x.lines (ending.Pred a.0 b.0 x.at) x.all (own.predicate, own.sorts, own.args, own.others, a.1, b.1, x.are)
  contradictory (conflict.Mixed id) own =
      let x = written sig (fact_ok sig) hyps (says_follow id (Apply own.first [] []) (Apply own.second [] []) own.says) in
      ended x.lines (ending.Clash x.at) x.all (own.first, own.second, x.is, own.first_is, own.second_is, own.differ)
  contradictory (conflict.Constant id) own =
      let x = written sig (fact_ok sig) hyps (says_follow id own.left own.right own.says) in
      ended x.lines (ending.Const x.at) x.all (own.left, own.right, x.is, own.numbers, own.number, own.other)
  contradictory (conflict.Unsolvable id) own =
      let x = written sig (fact_ok sig) hyps (says_follow id own.left own.right own.says) in
      ended x.lines (ending.Gcd x.at) x.all (own.left, own.right, x.is, own.integers, own.unsolvable)
