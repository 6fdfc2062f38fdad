-- How many lines may be noted: nothing, one line, and steps one after another.
use Rattle.std.specs.Prelude.{ℕ, zero, suc, ◌+◌, ◌<◌, ◌≤◌, List, [], ◌∷◌, ◌++◌, ◌≡◌, ◌≢◌, map, take, length, Result, Err, OnOk, IsErrAnd, Option, Some, None}
use Rattle.std.proofs.Common.{refl, sym, ap, ◌∙◌, subst, arith}
use Rattle.std.proofs.lemmas.Option.{none-some}
use Rattle.std.proofs.lemmas.Result.{on_ok_weaker, err_from_is_err_and}
use Rattle.ae_base.specs.Relations.{Pairwise}
use Rattle.ae_base.proofs.AllOf.{all_weaker}
use Rattle.ae_base.proofs.Results.{on_ok_always}
use Rattle.ae_journal.specs.Journals.{counted_in}
use Rattle.ae_journal.specs.Noted.{Noted}
use Rattle.ae_journal.specs.declared.lines.Line.{Line}
use Rattle.ae_journal.specs.declared.systems.RuleEntry.{RuleEntry}
use Rattle.ae_journal.proofs.Counting.{counted-append}
use Rattle.ae_store.specs.Stores.{Stored}
use Rattle.ae_theory.specs.declared.theory.Fail.{Fail}
use Rattle.ae_theory.specs.declared.theory.Fail.TheVariants.{Steps as OutOfSteps, Memory}
use Rattle.std.specs.declared.alloc.AllocError.{AllocError}
use Rattle.ae_monoid.specs.Changes.{AreTakenOut, IsEquationOf}
use Rattle.ae_monoid.specs.Reductions.{AreAtMost}
use Rattle.ae_monoid.specs.Rules.{rule_at}
use Rattle.ae_monoid.specs.declared.pending.PendingPair.{PendingPair}
use Rattle.ae_monoid.specs.declared.rules.Kept.{Kept}
use Rattle.ae_equations.specs.Held.{Contents as Equations}
use Rattle.ae_equations.specs.Queued.{waiting, equation_of}
use Rattle.ae_rule_passes.specs.Passes.{drop_line}
use Rattle.ae_value_table.specs.Table.{Contents}
use Rattle.ae_state.specs.declared.holding.Holding.{Holding}
use Rattle.ae_turns.specs.Inner.Drops.{IsDropNoted}
use Rattle.ae_turns.specs.Budget.{IsUnsolved, HasLeft, MayNote, Spends, KeepsWithin}

-- ---- how many numbers meet something
pub at_most_weaker : (P Q : ℕ → Type 0) → ((k : ℕ) → Q k → P k) → (n : ℕ) → AreAtMost n P → AreAtMost n Q
at_most_weaker P Q h n most = record { bound = λ ks apart each. most.bound ks apart (all_weaker Q P h ks each) }

module _ (P : ℕ → Type 0) (x : ℕ) (there : P x) where
  pub some_at_most : (n : ℕ) → AreAtMost n P → 0 < n
  some_at_most n most = let one : length (x ∷ []) ≤ n = most.bound (x ∷ []) (tt, tt) (there, tt) in omega (arith, one)

  -- one of them meets it no longer
  module _ (Q : ℕ → Type 0) (h : (k : ℕ) → Q k → P k × (k ≢ x)) where
    more : (n : ℕ) → AreAtMost (suc n) P → AreAtMost n Q
    more n most =
        record {
          bound = λ ks apart each.
              let long : length (x ∷ ks) ≤ suc n =
              most.bound (x ∷ ks) (all_weaker Q (λ k. x ≢ k) (λ k q e. (h k q).1 (sym e)) ks each, apart) (there, all_weaker Q P (λ k q. (h k q).0) ks each) in
              omega (arith, long);
        }

    pub one_fewer : (n : ℕ) → AreAtMost n P → (m : ℕ) × AreAtMost m Q × (m + 1 ≤ n)
    one_fewer zero most = let l = some_at_most zero most in absurd (omega (arith, l))
    one_fewer (suc n) most = (n, more n most, omega arith)

-- ---- what may be noted
-- where as many names are left to solve, or fewer, and there is no rule and no equation
pub left_still : (s : Stored) (c d : Contents) (e f : Equations) → ((k : ℕ) → IsUnsolved s d k → IsUnsolved s c k) → (((k : ℕ) → rule_at e.rules k ≡ None) → (k : ℕ) → rule_at f.rules k ≡ None)
    → (((k : ℕ) → rule_at e.rules k ≡ None) → waiting e.queue ≡ [] → waiting f.queue ≡ []) → (n : ℕ) → HasLeft s c e n → HasLeft s d f n
left_still s c d e f names rules queue n h =
    record {
      no_joins = h.no_joins;
      no_rules = rules h.no_rules;
      none_waits = queue h.no_rules h.none_waits;
      unsolved = at_most_weaker (IsUnsolved s c) (IsUnsolved s d) names n h.unsolved;
    }

-- where the rules are some of before, and no equation waits
pub rules_still : (s : Stored) (c : Contents) (e f : Equations) → ((k : ℕ) (rule : Kept) → rule_at f.rules k ≡ Some rule → (old : Kept) × (rule_at e.rules k ≡ Some old))
    → (((k : ℕ) → rule_at e.rules k ≡ None) → waiting e.queue ≡ [] → waiting f.queue ≡ []) → (n : ℕ) → HasLeft s c e n → HasLeft s c f n
rules_still s c e f some queue n h = left_still s c c e f (λ k u. u) (λ none k. by_rule none k (rule_at f.rules k) refl) queue n h
  where
    by_rule : ((k : ℕ) → rule_at e.rules k ≡ None) → (k : ℕ) (o : Option Kept) → rule_at f.rules k ≡ o → rule_at f.rules k ≡ None
    by_rule none k None at = at
    by_rule none k (Some rule) at = let q = some k rule at in absurd (none-some q.0 (sym (none k) ∙ q.1))

-- no equation comes where there is no rule that goes
pairs_none : (old : ℕ → Option Kept) → ((k : ℕ) → old k ≡ None) → (ns : List ℕ) (ps : List PendingPair) → Pairwise (λ n p. IsEquationOf (old n) p) ns ps → ps ≡ []
pairs_none old none [] [] w = refl
pairs_none old none [] (p ∷ ps) w = absurd w
pairs_none old none (n ∷ ns) [] w = refl
pairs_none old none (n ∷ ns) (p ∷ ps) w = absurd (none-some (w.0).rule (sym (none n) ∙ (w.0).there))

pub none_comes : (e f : Equations) (P : ℕ → Type 0) (pairs : List PendingPair) → AreTakenOut (λ k. rule_at e.rules k) (λ k. rule_at f.rules k) P pairs → waiting f.queue ≡ waiting e.queue ++ map equation_of pairs
    → ((k : ℕ) → rule_at e.rules k ≡ None) → waiting e.queue ≡ [] → waiting f.queue ≡ []
none_comes e f P pairs out queue none waits =
    queue ∙ (λ i. waits i ++ map equation_of (pairs_none (λ k. rule_at e.rules k) none out.numbers pairs out.equations i))

-- ---- a step that notes no counted line
module _ (s : Stored) (o p : Holding) (before after : List Line) (same : counted_in after ≡ counted_in before) where
  pub spends_nothing : ((n : ℕ) → MayNote o s n → MayNote p s n) → Spends s o before p after
  spends_nothing still n h = (n, still n h, omega (arith, same))

  pub within_still : (T : Type 0) (r : Result T Fail) → OnOk r ((n : ℕ) → MayNote o s n → MayNote p s n) → (r ≡ Err OutOfSteps → ⊥) → KeepsWithin T s o before r p after
  within_still T r still full =
      record {
        most = λ n h. omega (arith, same);
        left = on_ok_weaker r spends_nothing still;
        fewer = λ e n h. absurd (full e);
      }

  -- it is refused, where a name is left to solve
  pub within_refused : (T : Type 0) (x : ℕ) → IsUnsolved s o.values x → (r : Result T Fail) (e : Fail) → IsErrAnd r (λ f. f ≡ e) → KeepsWithin T s o before r p after
  within_refused T x there r e h =
      let q = err_from_is_err_and r h in
      record {
        most = λ n h. omega (arith, same);
        left = subst (λ (z : Result T Fail). OnOk z (Spends s o before p after)) (sym q.1) tt;
        fewer = λ full n h. let l = some_at_most (IsUnsolved s o.values) x there n h.unsolved in omega (arith, same, l);
      }

  -- for want of memory
  pub within_memory : (T : Type 0) (r : Result T Fail) (e : AllocError) → IsErrAnd r (λ f. f ≡ Memory e) → KeepsWithin T s o before r p after
  within_memory T r e h =
      let q = err_from_is_err_and r h in
      subst (λ (z : Result T Fail). KeepsWithin T s o before z p after) (sym (q.1 ∙ ap (λ (f : Fail). Err f) q.2)) (within_still T (Err (Memory e)) tt (λ z. cc z))

-- ---- a step that notes a line, which solves a name
module _ (s : Stored) (o p : Holding) (before after : List Line) (one : counted_in after ≡ counted_in before + 1) (x : ℕ) (there : IsUnsolved s o.values x) where
  pub spends_one : ((k : ℕ) → IsUnsolved s p.values k → IsUnsolved s o.values k × (k ≢ x)) → p.equations ≡ o.equations → Spends s o before p after
  spends_one solved same n h =
      let f = one_fewer (IsUnsolved s o.values) x there (IsUnsolved s p.values) solved n h.unsolved in
      let may : HasLeft s p.values o.equations f.0 = record { no_joins = h.no_joins; no_rules = h.no_rules; none_waits = h.none_waits; unsolved = f.1 } in
      let l = f.2 in
      (f.0, subst (λ (e : Equations). HasLeft s p.values e f.0) (sym same) may, omega (arith, one, l))

  pub within_one : (T : Type 0) (r : Result T Fail) → OnOk r (((k : ℕ) → IsUnsolved s p.values k → IsUnsolved s o.values k × (k ≢ x)) × (p.equations ≡ o.equations)) → (r ≡ Err OutOfSteps → ⊥)
      → KeepsWithin T s o before r p after
  within_one T r solved full =
      record {
        most = λ n h. let l = some_at_most (IsUnsolved s o.values) x there n h.unsolved in omega (arith, one, l);
        left = on_ok_weaker r (λ z. spends_one z.0 z.1) solved;
        fewer = λ e n h. absurd (full e);
      }

-- ---- steps one after another
pub spends_then : (s : Stored) (o p q : Holding) (j k l : List Line) → Spends s o j p k → Spends s p k q l → Spends s o j q l
spends_then s o p q j k l a b n h =
    let x = a n h in
    let y = b x.0 x.1 in
    let m = x.2 in
    let r = y.2 in
    (y.0, y.1, omega (arith, m, r))

pub within_then : (T : Type 0) (s : Stored) (o p q : Holding) (j k l : List Line) (r : Result T Fail) → Spends s o j p k → KeepsWithin T s p k r q l → KeepsWithin T s o j r q l
within_then T s o p q j k l r a b =
    record {
      most = λ n h. let x = a n h in let m = x.2 in let z = b.most x.0 x.1 in omega (arith, m, z);
      left = on_ok_weaker r (spends_then s o p q j k l a) b.left;
      fewer = λ e n h. let x = a n h in let m = x.2 in let z = b.fewer e x.0 x.1 in omega (arith, m, z);
    }

-- what was refused is refused by what goes on from it
pub within_handed_on : (S T : Type 0) (s : Stored) (o p : Holding) (j k : List Line) (e : Fail) → KeepsWithin S s o j (Err e) p k → KeepsWithin T s o j (Err e) p k
within_handed_on S T s o p j k e w =
    record {
      most = w.most;
      left = tt;
      fewer = λ z n h. let f : e ≡ OutOfSteps = cc z in w.fewer (ap (λ (x : Fail). Err x) f) n h;
    }

-- where nothing may be noted at all
pub within_never : (T : Type 0) (s : Stored) (o p : Holding) (j k : List Line) (r : Result T Fail) → ((n : ℕ) → MayNote o s n → ⊥) → KeepsWithin T s o j r p k
within_never T s o p j k r none =
    record {
      most = λ n h. absurd (none n h);
      left = on_ok_always r (λ n h. absurd (none n h));
      fewer = λ e n h. absurd (none n h);
    }

-- ---- lines that drop rules aren't counted
counted_drops : (rs : List RuleEntry) → counted_in (map drop_line rs) ≡ 0
counted_drops [] = refl
counted_drops (r ∷ rs) = let e : counted_in (map drop_line (r ∷ rs)) ≡ 0 + counted_in (map drop_line rs) = refl in omega (arith, e, counted_drops rs)

pub drops_uncounted : (j k : Noted) (rs : List RuleEntry) → IsDropNoted j k rs → counted_in k.lines ≡ counted_in j.lines
drops_uncounted j k rs d =
    let lines : counted_in k.lines ≡ counted_in (j.lines ++ map drop_line (take d.many rs)) = ap (λ (z : Noted). counted_in z.lines) d.is in
    omega (arith, lines, counted-append j.lines (map drop_line (take d.many rs)), counted_drops (take d.many rs))
