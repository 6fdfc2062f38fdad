-- What is done to flags in one step, and in two.
use Rattle.std.specs.Prelude.{ℕ, ◌+◌, ◌<◌, ◌≤◌, ◌≡◌, Bool, true, false, List, length, take, get_or}
use Rattle.std.specs.List.{AllByRecursion}
use Rattle.std.proofs.Common.{refl, ap, ◌∙◌, subst, arith}
use Rattle.std.proofs.lemmas.List.{take_all}
use Rattle.ae_base.proofs.Tests.{false_true, true_false}
use Rattle.ae_explain.specs.declared.trail.Assigned.{Assigned}
use Rattle.ae_journal.specs.Standing.{Setting}
use Rattle.ae_journal.specs.declared.lines.Line.{Line}
use Rattle.ae_sure_literals.proofs.Flags.{all_next}
use Rattle.ae_sure_literals.specs.Inner.Closing.{AreRight, Passes, either, how_many}

both_false : (p q : Bool) → either p q ≡ false → (p ≡ false) × (q ≡ false)
both_false true q e = true_false e
both_false false q e = (refl, e)

module _ (t : List Assigned) where
  -- nothing is done
  pub nothing_passes : (fair : Setting → List Line → Type 0) (Done : List Bool → Type 0) (fs : List Bool) → Done fs → Passes t fair Done fs fs false
  nothing_passes fair Done fs d = record { long = refl; still = λ e. refl; more = λ e. false_true e; kept = λ k f. f; right = λ x js h r. r; done = λ e. d }

  -- less is said to be done, or more is asked
  pub weaker : (fair other : Setting → List Line → Type 0) (D E : List Bool → Type 0) (old new : List Bool) (b : Bool) → ((x : Setting) (js : List Line) → other x js → AreRight x js t old → fair x js)
      → ((fs : List Bool) → D fs → E fs) → Passes t fair D old new b → Passes t other E old new b
  weaker fair other D E old new b link less h = record {
    long = h.long;
    still = h.still;
    more = h.more;
    kept = h.kept;
    right = λ x js o r. h.right x js (link x js o r) r;
    done = λ e. less old (h.done e);
  }

  grows : (fair : Setting → List Line → Type 0) (D : List Bool → Type 0) (old new : List Bool) (b : Bool) → Passes t fair D old new b → how_many old ≤ how_many new
  grows fair D old new true h = omega (arith, h.more refl)
  grows fair D old new false h = omega (arith, ap how_many (h.still refl))

  module _ (fair then : Setting → List Line → Type 0) (D E : List Bool → Type 0) (a b c : List Bool) where
    more_by : (p q : Bool) → Passes t fair D a b p → Passes t then E b c q → either p q ≡ true → how_many a < how_many c
    more_by true q f s e = omega (arith, f.more refl, grows then E b c q s)
    more_by false q f s e = omega (arith, grows fair D a b false f, s.more e)

    -- one after the other
    pub passes_on : (p q : Bool) → ((x : Setting) (js : List Line) → fair x js → AreRight x js t b → then x js) → Passes t fair D a b p → Passes t then E b c q → Passes t fair (λ fs. D fs × E fs) a c (either p q)
    passes_on p q link first second = record {
      long = second.long ∙ first.long;
      still = λ e. let z = both_false p q e in second.still z.1 ∙ first.still z.0;
      more = more_by p q first second;
      kept = λ k f. second.kept k (first.kept k f);
      right = λ x js h r. let mid = first.right x js h r in second.right x js (link x js h mid) mid;
      done = λ e. let z = both_false p q e in (first.done z.0, subst E (first.still z.0) (second.done z.1));
    }

  -- ---- one thing after the other of a list
  module _ {X : Type 0} (fair then : Setting → List Line → Type 0) (P : List Bool → X → Type 0) (xs : List X) where
    pub list_none : (fs : List Bool) → Passes t fair (λ gs. AllByRecursion (P gs) (take 0 xs)) fs fs false
    list_none fs = nothing_passes fair (λ gs. AllByRecursion (P gs) (take 0 xs)) fs tt

    pub list_next : (i : ℕ) (x : X) (a b c : List Bool) (p q : Bool) → i < length xs → x ≡ get_or xs i x → ((y : Setting) (js : List Line) → fair y js → then y js)
        → Passes t fair (λ fs. AllByRecursion (P fs) (take i xs)) a b p → Passes t then (λ fs. P fs x) b c q → Passes t fair (λ fs. AllByRecursion (P fs) (take (i + 1) xs)) a c (either p q)
    list_next i x a b c p q l e link first second =
        weaker fair fair (λ fs. AllByRecursion (P fs) (take i xs) × P fs x) (λ fs. AllByRecursion (P fs) (take (i + 1) xs)) a c (either p q) (λ y js h r. h)
        (λ fs d. all_next (P fs) xs i x l e d.0 d.1) (passes_on fair then (λ fs. AllByRecursion (P fs) (take i xs)) (λ fs. P fs x) a b c p q (λ y js h r. link y js h) first second)

    pub list_end : (i : ℕ) (a b : List Bool) (p : Bool) → length xs ≤ i → Passes t fair (λ fs. AllByRecursion (P fs) (take i xs)) a b p → Passes t fair (λ fs. AllByRecursion (P fs) xs) a b p
    list_end i a b p l h = subst (λ (ys : List X). Passes t fair (λ fs. AllByRecursion (P fs) ys) a b p) (take_all i xs l) h
