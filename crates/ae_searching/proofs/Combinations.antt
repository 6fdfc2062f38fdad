-- Lines that are no combinations of rows.
use Rattle.std.proofs.Common.{◌≡◌, ◌∙◌, ℕ, ◌<◌, ◌⊎◌, Bool, true, List, [], ◌∷◌, ◌++◌, length, sym, ap, subst, arith, inl, inr, append_assoc, append-nil, length-append, true≢false}
use Rattle.std.specs.List.{AllByRecursion}
use Rattle.ae_base.proofs.AllOf.{all_append, all_back, all_weaker}
use Rattle.ae_journal.specs.Journals.{OnlyCombines}
use Rattle.ae_journal.specs.Noted.{Noted}
use Rattle.ae_journal.specs.declared.lines.Line.{Line}
use Rattle.ae_journal.specs.declared.lines.Line.TheVariants as line
use Rattle.ae_num.specs.declared.forms.Lin.{Lin}
use Rattle.ae_sat.specs.Search.{AddsOwnLines, is_own_line}
use Rattle.ae_searching.specs.Steps.{IsCombination, IsInstanceLine, NotesNoCombination}

-- ---- which lines are none
own_is_none : (j : Line) → is_own_line j ≡ true → ¬ IsCombination j
own_is_none (line.Combine b f) h c = true≢false (sym h)
own_is_none (line.TypeInstance k ss) h c = c
own_is_none (line.TermInstance f ts) h c = c
own_is_none (line.Learn d) h c = c
own_is_none (line.Decide l) h c = c
own_is_none (line.Orient o) h c = c
own_is_none (line.Drop o) h c = c
own_is_none (line.Pair u l m) h c = c
own_is_none (line.Back n) h c = c

pub instance_is_none : (j : Line) → IsInstanceLine j → ¬ IsCombination j
instance_is_none (line.TypeInstance k ss) h c = c
instance_is_none (line.TermInstance f ts) h c = c
instance_is_none (line.Combine b f) h c = h
instance_is_none (line.Learn d) h c = h
instance_is_none (line.Decide l) h c = h
instance_is_none (line.Orient o) h c = h
instance_is_none (line.Drop o) h c = h
instance_is_none (line.Pair u l m) h c = h
instance_is_none (line.Back n) h c = h

-- ---- lines that were noted
pub none_same : (js : List Line) → NotesNoCombination js js
none_same js = record { added = []; is = sym (append-nil js); none = tt }

pub none_more : (js ks ls : List Line) → NotesNoCombination js ks → NotesNoCombination ks ls → NotesNoCombination js ls
none_more js ks ls x y = record {
  added = x.added ++ y.added;
  is = y.is ∙ ap (λ (w : List Line). w ++ y.added) x.is ∙ append_assoc js x.added y.added;
  none = all_append (λ (j : Line). ¬ IsCombination j) x.added y.added x.none y.none;
}

pub none_of_own : (js ks : List Line) → AddsOwnLines js ks → NotesNoCombination js ks
none_of_own js ks a = record { added = a.0; is = a.1; none = all_weaker (λ (j : Line). is_own_line j ≡ true) (λ (j : Line). ¬ IsCombination j) own_is_none a.0 a.2 }

pub none_back : (old new : Noted) (n : ℕ) → (new ≡ old) ⊎ (new ≡ record old { lines = old.lines ++ line.Back n ∷ [] }) → NotesNoCombination old.lines new.lines
none_back old new n (inl q) = subst (NotesNoCombination old.lines) (sym (ap (λ (k : Noted). k.lines) q)) (none_same old.lines)
none_back old new n (inr q) = record { added = line.Back n ∷ []; is = ap (λ (k : Noted). k.lines) q; none = ((λ c. c), tt) }

-- ---- the last line
only_back : (xs ys : List Line) → OnlyCombines (xs ++ ys) → OnlyCombines ys
only_back [] ys o = o
only_back (line.Combine b f ∷ xs) ys o = only_back xs ys o
only_back (line.TypeInstance k ss ∷ xs) ys o = absurd o
only_back (line.TermInstance f ts ∷ xs) ys o = absurd o
only_back (line.Learn d ∷ xs) ys o = absurd o
only_back (line.Decide l ∷ xs) ys o = absurd o
only_back (line.Orient q ∷ xs) ys o = absurd o
only_back (line.Drop q ∷ xs) ys o = absurd o
only_back (line.Pair u l m ∷ xs) ys o = absurd o
only_back (line.Back n ∷ xs) ys o = absurd o

only_first : (j : Line) (js : List Line) → OnlyCombines (j ∷ js) → IsCombination j
only_first (line.Combine b f) js o = tt
only_first (line.TypeInstance k ss) js o = o
only_first (line.TermInstance f ts) js o = o
only_first (line.Learn d) js o = o
only_first (line.Decide l) js o = o
only_first (line.Orient q) js o = o
only_first (line.Drop q) js o = o
only_first (line.Pair u l m) js o = o
only_first (line.Back n) js o = o

not_only : (js : List Line) → AllByRecursion (λ (j : Line). ¬ IsCombination j) js → 0 < length js → ¬ OnlyCombines js
not_only [] a some o = absurd (omega (arith, some))
not_only (j ∷ js) a some o = a.0 (only_first j js o)

abbrev rest_of : List Line → List Line
rest_of [] = []
rest_of (j ∷ js) = js

module _ (added after : List Line) (b : Bool) (f : Lin) (none : AllByRecursion (λ (j : Line). ¬ IsCombination j) added) (some : 0 < length added) where
  parted : (old before : List Line) → old ++ added ≡ before ++ line.Combine b f ∷ after → ¬ OnlyCombines after
  parted [] before e o = (all_back (λ (j : Line). ¬ IsCombination j) before (line.Combine b f ∷ after) (subst (AllByRecursion (λ (j : Line). ¬ IsCombination j)) e none)).0 tt
  parted (j ∷ old) [] e o = not_only added none some (only_back old added (subst OnlyCombines (sym (ap rest_of e)) o))
  parted (j ∷ old) (k ∷ before) e o = parted old before (ap rest_of e) o

-- where lines were noted, none of them a combination, the last line is none
pub last_is_none : (old new : List Line) → NotesNoCombination old new → length old < length new → (before after : List Line) (b : Bool) (f : Lin) → new ≡ before ++ line.Combine b f ∷ after
    → ¬ OnlyCombines after
last_is_none old new n more before after b f e =
    parted n.added after b f n.none (omega (arith, more, ap (λ (w : List Line). length w) n.is, length-append old n.added)) old before (sym n.is ∙ e)
