-- An AC application has the value of all that it joins.
use Rattle.std.specs.Prelude.{ℕ, ◌+◌, ℤ, Bool, List, [], ◌∷◌, ◌++◌, ◌≡◌, map}
use Rattle.std.specs.List.{AllByRecursion, sum_by}
use Rattle.std.specs.List.Sorted.{IsPermutation}
use Rattle.std.proofs.Common.{append_assoc, append-nil}
use Rattle.std.proofs.lemmas.List.Sorted.{sum_by-IsPermutation}
use Rattle.std.proofs.lemmas.List.Sums.{sum_by-cons}
use mathlib.Core.Path.{refl, sym, ap, ◌∙◌, subst}
use Rattle.ae_base.specs.Decided.{pick}
use Rattle.ae_core.specs.Decided.{Head_discrete, Sorts_discrete}
use Rattle.ae_core.specs.Inner.Induction.{by_terms}
use Rattle.ae_rules.specs.Lines.{flat, flat_step}
use Rattle.ae_core.specs.declared.terms.Sort.{Sort}
use Rattle.ae_core.specs.declared.terms.Term.{Term, Bound, Num, Fresh, Apply, para-roll-Term}
use Rattle.ae_core.specs.declared.terms.Term.TheOpen as layer
use Rattle.ae_core.specs.declared.terms.Term.TheVariants.{rolls-Apply, rolls-Bound, rolls-Num, rolls-Fresh}
use Rattle.ae_core.specs.declared.terms.Head.{Head}
use Rattle.ae_multiset.specs.Multisets.{count}
use Rattle.ae_multiset.proofs.Counts.{count-append}
use Rattle.ae_journal.specs.Values.{Val}
use Rattle.ae_evaluation.proofs.Linear.{firsts}
use Rattle.ae_evaluation.proofs.Facts.{Reduces}

-- ---- what an AC symbol joins in a term
pub flat-Bound : (h : Head) (ss : List Sort) (n : ℕ) → flat h ss (Bound n) ≡ Bound n ∷ []
unfolding flat
flat-Bound h ss n = ap (flat h ss) (sym (rolls-Bound n)) ∙ para-roll-Term (List Term) (flat_step h ss) (layer.Bound n)

pub flat-Num : (h : Head) (ss : List Sort) (a b : ℤ) (r : Bool) → flat h ss (Num a b r) ≡ Num a b r ∷ []
unfolding flat
flat-Num h ss a b r = ap (flat h ss) (sym (rolls-Num a b r)) ∙ para-roll-Term (List Term) (flat_step h ss) (layer.Num a b r)

pub flat-Fresh : (h : Head) (ss : List Sort) (n : ℕ) (s : Sort) → flat h ss (Fresh n s) ≡ Fresh n s ∷ []
unfolding flat
flat-Fresh h ss n s = ap (flat h ss) (sym (rolls-Fresh n s)) ∙ para-roll-Term (List Term) (flat_step h ss) (layer.Fresh n s)

pub flat-Apply : (h : Head) (ss : List Sort) (i : Head) (us : List Sort) (ts : List Term)
    → flat h ss (Apply i us ts) ≡ flat_step h ss (layer.Apply i us (map (λ t. (t, flat h ss t)) ts))
unfolding flat
flat-Apply h ss i us ts = ap (flat h ss) (sym (rolls-Apply i us ts)) ∙ para-roll-Term (List Term) (flat_step h ss) (layer.Apply i us ts)

-- `value` gives a term its value, `members` what a value counts as, `joined` the value of what is joined
module _ (h : Head) (ss : List Sort) (value : Term → Val) (members : Val → List ℕ) (whole : List ℕ → Val) (reduce : List ℕ → List ℕ)
    (laws : Reduces reduce)
    (joined_is : (a b : Term) → value (Apply h ss (a ∷ b ∷ [])) ≡ whole (reduce (members (value a) ++ members (value b))))
    (counts : (a b : Term) → members (whole (reduce (members (value a) ++ members (value b)))) ≡ reduce
    (members (value a) ++ members (value b))) where
  pub all_members : List Term → List ℕ
  all_members [] = []
  all_members (t ∷ ts) = members (value t) ++ all_members ts

  all_members-append : (us vs : List Term) → all_members (us ++ vs) ≡ all_members us ++ all_members vs
  unfolding all_members
  all_members-append [] vs = refl
  all_members-append (u ∷ us) vs =
      ap (λ w. members (value u) ++ w) (all_members-append us vs) ∙ sym (append_assoc (members (value u)) (all_members us) (all_members vs))

  abbrev pub Flattens : Term → Type 0
  Flattens t = reduce (members (value t)) ≡ reduce (all_members (flat h ss t))

  alone : (t : Term) → flat h ss t ≡ t ∷ [] → Flattens t
  unfolding all_members
  alone t e = ap reduce (sym (append-nil (members (value t)))) ∙ ap (λ us. reduce (all_members us)) (sym e)

  twice : (a : List ℕ) → reduce (reduce a) ≡ reduce a
  twice a = ap reduce (sym (append-nil (reduce a))) ∙ laws.first a [] ∙ ap reduce (append-nil a)

  both : (a b : List ℕ) (c d : List ℕ) → reduce a ≡ reduce c → reduce b ≡ reduce d → reduce (a ++ b) ≡ reduce (c ++ d)
  both a b c d e f =
      sym (laws.first a b) ∙ ap (λ w. reduce (w ++ b)) e ∙ laws.first c b ∙ sym (laws.second c b) ∙ ap (λ w. reduce (c ++ w)) f
      ∙ laws.second c d

  pair : (a b : Term) → Flattens a → Flattens b
      → reduce (members (value (Apply h ss (a ∷ b ∷ [])))) ≡ reduce (all_members (flat h ss a ++ flat h ss b))
  pair a b p q =
      ap (λ v. reduce (members v)) (joined_is a b) ∙ ap reduce (counts a b) ∙ twice _ ∙ both _ _ _ _ p q ∙ ap reduce
      (sym (all_members-append (flat h ss a) (flat h ss b)))

  two_case : (i : Head) (us : List Sort) (a b : Term) (d : Dec (h ≡ i)) (e : Dec (ss ≡ us)) → Flattens a → Flattens b
      → flat h ss (Apply i us (a ∷ b ∷ [])) ≡ pick d (pick e (flat h ss a ++ flat h ss b) (Apply i us (a ∷ b ∷ []) ∷ []))
      (Apply i us (a ∷ b ∷ []) ∷ [])
      → Flattens (Apply i us (a ∷ b ∷ []))
  two_case i us a b (no n) e p q f = alone _ f
  two_case i us a b (yes d) (no n) p q f = alone _ f
  two_case i us a b (yes d) (yes e) p q f =
      subst (λ (j : Head). reduce (members (value (Apply j us (a ∷ b ∷ [])))) ≡ reduce (all_members (flat h ss a ++ flat h ss b))) d
      (subst (λ (vs : List Sort). reduce (members (value (Apply h vs (a ∷ b ∷ [])))) ≡ reduce (all_members (flat h ss a ++ flat h ss b))) e
      (pair a b p q))
      ∙ ap (λ us. reduce (all_members us)) (sym f)

  applied_case : (i : Head) (us : List Sort) (ts : List Term) → AllByRecursion Flattens ts → Flattens (Apply i us ts)
  applied_case i us [] is = alone _ (flat-Apply h ss i us [])
  applied_case i us (a ∷ []) is = alone _ (flat-Apply h ss i us (a ∷ []))
  applied_case i us (a ∷ b ∷ []) is =
      two_case i us a b (Head_discrete h i) (Sorts_discrete ss us) is.0 (is.1).0 (flat-Apply h ss i us (a ∷ b ∷ []))
  applied_case i us (a ∷ b ∷ c ∷ ts) is =
      alone _ (flat-Apply h ss i us (a ∷ b ∷ c ∷ ts) ∙ ap (λ vs. Apply i us (a ∷ b ∷ c ∷ vs) ∷ []) (firsts (flat h ss) ts))

  pub flattens : (t : Term) → Flattens t
  flattens =
      by_terms Flattens (λ n. alone _ (flat-Bound h ss n)) (λ a b r. alone _ (flat-Num h ss a b r))
      (λ n s. alone _ (flat-Fresh h ss n s)) applied_case

  times-all : (x : ℕ) (ts : List Term) → count x (all_members ts) ≡ sum_by (λ t. count x (members (value t))) ts
  unfolding all_members
  times-all x [] = refl
  times-all x (t ∷ ts) =
      count-append x (members (value t)) (all_members ts) ∙ ap (λ (w : ℕ). count x (members (value t)) + w) (times-all x ts) ∙ sym
      (sum_by-cons (λ t. count x (members (value t))) t ts)

  -- the value of a join depends on what it joins alone, in any order
  pub joined_of_flat : (a b : Term) → value (Apply h ss (a ∷ b ∷ [])) ≡ whole (reduce (all_members (flat h ss (Apply h ss (a ∷ b ∷ [])))))
  joined_of_flat a b =
      joined_is a b
      ∙ ap whole (sym (twice _) ∙ ap reduce (sym (counts a b) ∙ ap members (sym (joined_is a b))) ∙ flattens (Apply h ss (a ∷ b ∷ [])))

  pub ac_alike : (a b c d : Term) → IsPermutation (flat h ss (Apply h ss (a ∷ b ∷ []))) (flat h ss (Apply h ss (c ∷ d ∷ [])))
      → value (Apply h ss (a ∷ b ∷ [])) ≡ value (Apply h ss (c ∷ d ∷ []))
  ac_alike a b c d p =
      joined_of_flat a b
      ∙ ap whole (laws.alike _ _ (record {
        each = λ x. times-all x (flat h ss (Apply h ss (a ∷ b ∷ [])))
            ∙
            (sym (sum_by-IsPermutation (λ t. count x (members (value t))) (flat h ss (Apply h ss (a ∷ b ∷ [])))
            (flat h ss (Apply h ss (c ∷ d ∷ []))) p)
            ∙ sym (times-all x (flat h ss (Apply h ss (c ∷ d ∷ [])))));
      }))
      ∙ sym (joined_of_flat c d)
