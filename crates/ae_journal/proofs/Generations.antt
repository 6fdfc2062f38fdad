-- Generations of a state are the least numbers that follow their rules.
use Rattle.std.proofs.Common.{◌≡◌, ℕ, zero, suc, List, Bool, true}
use Rattle.ae_core.specs.declared.terms.Sort.{Sort}
use Rattle.ae_core.specs.declared.terms.Term.{Term}
use Rattle.ae_core.specs.declared.formulas.Lit.{Lit}
use Rattle.ae_core.specs.declared.problems.Problem.{Problem}
use Rattle.ae_journal.specs.States.{Stands, IsFirst, Comes, TermComes, Owner, of_literal, of_axiom, OwnerComes, Matches, Begins, HasGeneration, AreSame, Selection}
use Rattle.ae_journal.specs.States.Comes.{first, by_row, by_block}
use Rattle.ae_journal.specs.States.TermComes.{stands, part, field}
use Rattle.ae_journal.specs.States.Begins.{first_of_all, of_match}
use Rattle.ae_journal.specs.Laws.{FollowsRules, LeastGenerations, GenerationsRise}
use Rattle.ae_journal.proofs.Matching.{match_more}
use Rattle.ae_journal.specs.declared.systems.Saturated.{Saturated}

module _ (p : Problem) (g : ℕ) (st : Saturated) (takes : Selection) where
  module _ (few many : Lit → Type 0) (wider : (l : Lit) → few l → many l) where
    pub come_more : (l : Lit) → Comes p g st takes few l → Comes p g st takes many l
    come_more _ (first a s) = first (wider _ a) s
    come_more _ (by_row r c a e o i d s) = by_row r c (come_more _ a) e o i d s
    come_more _ (by_block q a e u s) = by_block q (come_more _ a) e u s

    term_more : (t : Term) → TermComes p g st takes few t → TermComes p g st takes many t
    term_more _ (stands l a i) = stands l (come_more l a) i
    term_more _ (part h ss us a i) = part h ss us (term_more _ a) i
    term_more _ (field s ss a e r i) = field s ss (term_more _ a) e r i

    owner_more : (o : Owner) → OwnerComes p g st takes few o → OwnerComes p g st takes many o
    owner_more (of_literal l) a = come_more l a
    owner_more (of_axiom k) a = a

    pub matches_more : (o : Owner) (us : List Sort) (ts : List Term) → Matches p g st takes few o us ts → Matches p g st takes many o us ts
    matches_more o us ts m = record {
      owner_comes = owner_more o m.owner_comes;
      pattern = m.pattern;
      of_owner = m.of_owner;
      trigger = m.trigger;
      chosen = m.chosen;
      matches = match_more p.signature (TermComes p g st takes few) (TermComes p g st takes many) term_more (AreSame p.signature st.system) us ts m.pattern.type_vars m.pattern.vars m.trigger m.matches;
    }

    begin_more : (l : Lit) → Begins p g st takes few l → Begins p g st takes many l
    begin_more _ (first_of_all i) = first_of_all i
    begin_more _ (of_match o us ts m e c) = of_match o us ts (matches_more o us ts m) e c

  rise : (n : ℕ) (l : Lit) → HasGeneration p g st takes n l → HasGeneration p g st takes (suc n) l
  rise zero = come_more (IsFirst p g st) (Begins p g st takes (HasGeneration p g st takes zero)) (λ l i. first_of_all i)
  rise (suc n) =
      come_more (Begins p g st takes (HasGeneration p g st takes n)) (Begins p g st takes (HasGeneration p g st takes (suc n)))
      (begin_more (HasGeneration p g st takes n) (HasGeneration p g st takes (suc n)) (rise n))

  module _ (holds : ℕ → Lit → Bool) (rules : FollowsRules p g st takes holds) where
    closed : (from : Lit → Type 0) (n : ℕ) → ((l : Lit) → from l → Stands p g st l → holds n l ≡ true) → (l : Lit) → Comes p g st takes from l → holds n l ≡ true
    closed from n begin _ (first a s) = begin _ a s
    closed from n begin _ (by_row r c a e o i d s) = rules.by_row n _ _ r c (closed from n begin _ a) e o i d s
    closed from n begin _ (by_block q a e u s) = rules.by_block n _ q (closed from n begin _ a) e u s

    least : (n : ℕ) (l : Lit) → HasGeneration p g st takes n l → holds n l ≡ true
    least zero = closed (IsFirst p g st) zero (rules.first zero)
    least (suc n) = closed (Begins p g st takes (HasGeneration p g st takes n)) (suc n) (begun n (least n))
      where
        begun : (n : ℕ) → ((l : Lit) → HasGeneration p g st takes n l → holds n l ≡ true) → (l : Lit) → Begins p g st takes (HasGeneration p g st takes n) l → Stands p g st l → holds (suc n) l ≡ true
        begun n h _ (first_of_all i) s = rules.first (suc n) _ i s
        begun n h _ (of_match o us ts m e c) s = rules.of_match n _ o us ts (matches_more (HasGeneration p g st takes n) (λ m. holds n m ≡ true) h o us ts m) e c s

pub generations_rise : GenerationsRise
generations_rise p g st takes n l h = rise p g st takes n l h

pub least_generations : LeastGenerations
least_generations p g st takes holds rules n l h = least p g st takes holds rules n l h
