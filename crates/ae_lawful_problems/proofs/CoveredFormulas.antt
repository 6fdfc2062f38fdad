-- Where its conditions are met, a rule gives trees whose triggers may stand: formulas and blocks.
use Rattle.std.proofs.Common.{arith, ◌≡◌, ◌∙◌, ◌<◌, ◌≤◌, ℕ, suc, true, false, not, ◌&&◌, nat_eq, List, [], ◌∷◌, ◌++◌, map, reverse}
use Rattle.std.proofs.Common.{refl, sym, subst, None}
use Rattle.std.specs.List.{AllByRecursion, IsDistinct}
use Rattle.std.proofs.lemmas.Bool.{ne_eqb}
use Rattle.std.proofs.lemmas.List.{length-map, map-append}
use Rattle.ae_base.proofs.AllOf.{all_always, all_weaker, all_both, all_append, all_front, all_back, all_reversed}
use Rattle.ae_core.specs.declared.terms.Sort.{Sort}
use Rattle.ae_core.specs.declared.terms.Head.{Head}
use Rattle.ae_core.specs.declared.terms.Head.TheVariants as head
use Rattle.ae_core.specs.declared.problems.SymbolEntry.{SymbolEntry}
use Rattle.ae_syntax.specs.declared.spans.Span.{Span}
use Rattle.ae_syntax.specs.declared.exprs.Group.{Group}
use Rattle.ae_syntax.specs.declared.exprs.Quantifier.{Quantifier}
use Rattle.ae_elab.specs.declared.faults.TypeFault.TheVariants as fault
use Rattle.ae_elab.specs.declared.grounds.Ground.TheVariants as ground
use Rattle.ae_elab.specs.declared.numbers.Numbers.TheVariants.{IntOrReal}
use Rattle.ae_elab.specs.Conditions.{test, is_bool}
use Rattle.ae_elab.specs.Trees.{Tree, Trees, Patterns, Claim, Relation, none, more, no_pattern, and_pattern, variable, numeral, apply, operation}
use Rattle.ae_elab.specs.Trees.{build, update, choice}
use Rattle.ae_elab.specs.Trees.{truth, falsity, relation, predicate, distinct, holds, negation, conjunction, disjunction, exclusion, equivalence}
use Rattle.ae_elab.specs.Trees.{implication}
use Rattle.ae_elab.specs.Trees.{conditional, quantified, claim_of, claim_of_head, pattern_of, has_choice, is_application}
use Rattle.ae_elab.specs.Scope.{Scope, Class, formula, either, term, Meaning, a_variable, a_term, a_formula, name_at}
use Rattle.ae_elab.specs.Rules.{Passed, Rule, give, ◌>>◌, all_of, each, Typed, Around, Part, as_term, as_formula, wanted}
use Rattle.ae_elab.specs.WrittenTypes.{type_rule}
use Rattle.ae_elab.specs.Terms.{application_rule, operands}
use Rattle.ae_elab.specs.Formulas.{truth_rule, equation_rule, inequality_rule, of_one_sort, distinct_rule, connective_rule, conditional_rule}
use Rattle.ae_elab.specs.Formulas.{predicate_rule}
use Rattle.ae_elab.specs.Formulas.{Bound, local_of, with_block, all_new, groups_rule, variable_of, merged_with, covering, untested, pattern_rule}
use Rattle.ae_elab.specs.Formulas.{patterns_rule}
use Rattle.ae_elab.specs.Formulas.{first_place_of, triggers_rule, around_body, block_rule}
use Rattle.ae_typed_laws.proofs.ParsedTrees.{IsGroup}
use Rattle.ae_typed_laws.proofs.MetConditions.{Gives, gives_value, gives_then, gives_after, gives_after_all, Grows, grows_then}
use Rattle.ae_lawful_problems.proofs.CoveredTrees.{bound_in, around_of, AreApplied, CoveredTerm, CoveredTerms, CoveredTriggers, Covered, IsAlone}
use Rattle.ae_lawful_problems.proofs.CoveredRules.{Avoids, ClaimCovered, alone, TypedCovered, TreeCovered, ListCovered, MeaningCovered}
use Rattle.ae_lawful_problems.proofs.CoveredRules.{LocalCovered}
use Rattle.ae_lawful_problems.proofs.CoveredRules.{Stands, below_later, stands_later, CoveredPart, covers_formula, covers_wanted}
use Rattle.ae_lawful_problems.proofs.CoveredRules.{BothCovered}
use Rattle.ae_lawful_problems.proofs.CoveredRules.{covers_operands, AppliedCovered, covers_application, grows_written}

-- ---- numbers without two that are equal
pub distinct_append : (xs ys : List ℕ) → IsDistinct nat_eq xs → IsDistinct nat_eq ys → Avoids xs ys → IsDistinct nat_eq (xs ++ ys)
unfolding IsDistinct
distinct_append [] ys d e a = e
distinct_append (x ∷ xs) ys d e a = (all_append (λ (y : ℕ). nat_eq x y ≡ false) xs ys d.0 a.0, distinct_append xs ys d.1 e a.1)

pub distinct_none : IsDistinct nat_eq []
unfolding IsDistinct
distinct_none = tt

one_distinct : (x : ℕ) → IsDistinct nat_eq (x ∷ [])
unfolding IsDistinct
one_distinct x = (tt, tt)

lower_apart : (low : ℕ) (outer xs : List ℕ) → AllByRecursion (λ s. s < low) outer → AllByRecursion (λ x. low ≤ x) xs → Avoids outer xs
lower_apart low outer xs a b =
    all_weaker (λ (s : ℕ). s < low) (λ (s : ℕ). AllByRecursion (λ x. nat_eq s x ≡ false) xs)
    (λ s h. all_weaker (λ (x : ℕ). low ≤ x) (λ (x : ℕ). nat_eq s x ≡ false) (λ x k. ne_eqb s x (λ e. omega (arith, h, k, e))) xs b) outer a

higher_apart : (low : ℕ) (outer xs : List ℕ) → AllByRecursion (λ s. low ≤ s) outer → AllByRecursion (λ x. x < low) xs → Avoids outer xs
higher_apart low outer xs a b =
    all_weaker (λ (s : ℕ). low ≤ s) (λ (s : ℕ). AllByRecursion (λ x. nat_eq s x ≡ false) xs)
    (λ s h. all_weaker (λ (x : ℕ). x < low) (λ (x : ℕ). nat_eq s x ≡ false) (λ x k. ne_eqb s x (λ e. omega (arith, h, k, e))) xs b) outer a

-- ---- formulas that are no blocks
pub plainly : {outer : List ℕ} {around : Around} {f : Claim} {q : Passed} → bound_in f ≡ [] → Covered around f → ClaimCovered outer around f q
plainly {outer} {around} {f} {q} e h = record {
  covered = h;
  distinct = subst (IsDistinct nat_eq) (sym e) distinct_none;
  below = subst (AllByRecursion (λ (x : ℕ). x < q.next)) (sym e) tt;
  apart = subst (Avoids outer) (sym e) (all_always (λ (s : ℕ). AllByRecursion (λ x. nat_eq s x ≡ false) []) (λ s. tt) outer);
}

head_covered : (outer : List ℕ) (around : Around) (q : Passed) (h : Head) (t : Tree) → CoveredTerm t → ClaimCovered outer around (claim_of_head h (holds t)) q
head_covered outer around q head.True t k = plainly refl tt
head_covered outer around q head.False t k = plainly refl tt
head_covered outer around q (head.Symbol n) t k = plainly refl k
head_covered outer around q (head.Build n) t k = plainly refl k
head_covered outer around q (head.Field n i) t k = plainly refl k
head_covered outer around q (head.Int o) t k = plainly refl k
head_covered outer around q (head.Real o) t k = plainly refl k
head_covered outer around q head.Void t k = plainly refl k

-- a term of sort `bool`
term_claim : (outer : List ℕ) (around : Around) (q : Passed) (t : Tree) → CoveredTerm t → ClaimCovered outer around (claim_of t) q
term_claim outer around q (variable x) k = plainly refl k
term_claim outer around q (numeral a b r) k = plainly refl k
term_claim outer around q (apply h ss us) k = head_covered outer around q h (apply h ss us) k
term_claim outer around q (operation o s us) k = plainly refl k
term_claim outer around q (build of ss n ps us) k = plainly refl k
term_claim outer around q (update of ss n b ps us) k = plainly refl k
term_claim outer around q (choice c s t) k = plainly refl (k.0, alone (term_claim outer None q s k.1), alone (term_claim outer None q t k.2))

-- a predicate's application in a trigger
pattern_covered : (f : Claim) → Covered None f → CoveredTerm (pattern_of f)
pattern_covered (predicate k ss us) h = h
pattern_covered truth h = tt
pattern_covered falsity h = tt
pattern_covered (relation r s t) h = tt
pattern_covered (distinct us) h = tt
pattern_covered (holds t) h = tt
pattern_covered (negation a) h = tt
pattern_covered (conjunction a b) h = tt
pattern_covered (disjunction a b) h = tt
pattern_covered (exclusion a b) h = tt
pattern_covered (equivalence a b) h = tt
pattern_covered (implication a b) h = tt
pattern_covered (conditional c a b) h = tt
pattern_covered (quantified q xs ss ps f) h = tt

-- ---- the variables of a block
abbrev pub numbers_of : List Bound → List ℕ
numbers_of bs = map (λ b. b.number) bs

-- new numbers
pub record NewNumbers (low : ℕ) (bs : List Bound) (q : Passed) : Type 0 where
  pub above : AllByRecursion (λ x. low ≤ x) (numbers_of bs)
  pub below : AllByRecursion (λ x. x < q.next) (numbers_of bs)
  pub distinct : IsDistinct nat_eq (numbers_of bs)

module _ (m : ℕ → Sort) (text : List ℕ) where
  abbrev P : Part → Type 0
  P e = CoveredPart m text e

  pub no_numbers : (p : Passed) → NewNumbers p.next [] p
  no_numbers p = record { above = tt; below = tt; distinct = distinct_none }

  -- new ones behind others
  pub more_numbers : (low : ℕ) (bs cs : List Bound) (q r : Passed) → low ≤ q.next → Grows m q r → NewNumbers low bs q → NewNumbers q.next cs r → NewNumbers low (bs ++ cs) r
  more_numbers low bs cs q r l g h k =
      let are : numbers_of bs ++ numbers_of cs ≡ numbers_of (bs ++ cs) = sym (map-append (λ (b : Bound). b.number) bs cs) in
      record {
        above = subst (AllByRecursion (λ (x : ℕ). low ≤ x)) are
            (all_append (λ (x : ℕ). low ≤ x) (numbers_of bs) (numbers_of cs) h.above
            (all_weaker (λ (x : ℕ). q.next ≤ x) (λ (x : ℕ). low ≤ x) (λ x a. omega (arith, l, a)) (numbers_of cs) k.above));
        below = subst (AllByRecursion (λ (x : ℕ). x < r.next)) are
            (all_append (λ (x : ℕ). x < r.next) (numbers_of bs) (numbers_of cs) (below_later m text q r (numbers_of bs) g h.below) k.below);
        distinct = subst (IsDistinct nat_eq) are
            (distinct_append (numbers_of bs) (numbers_of cs) h.distinct k.distinct (lower_apart q.next (numbers_of bs) (numbers_of cs) h.below k.above));
      }

  -- one new number
  pub one_number : (b : Bound) (p q : Passed) → b.number ≡ p.next → q.next ≡ suc p.next → NewNumbers p.next (b ∷ []) q
  one_number b p q e s = record { above = (omega (arith, e), tt); below = (omega (arith, e, s), tt); distinct = one_distinct b.number }

  each_number : (sc : Scope) (s : Sort) (xs : List Span) (p : Passed) → Gives m p (NewNumbers p.next) (each (variable_of sc s) xs)
  each_number sc s [] p = gives_value m (NewNumbers p.next) [] p (no_numbers p)
  each_number sc s (x ∷ xs) p =
      gives_then m (λ b q. (b.number ≡ p.next) × (q.next ≡ suc p.next)) (NewNumbers p.next) (variable_of sc s x) (λ y. each (variable_of sc s) xs >> λ ys. give (y ∷ ys)) p
      (record { by = λ c. record { grows = record { next = omega arith; written = omega arith }; value = (refl, refl) } })
      (λ b q g i. gives_then m (NewNumbers q.next) (NewNumbers p.next) (each (variable_of sc s) xs) (λ ys. give (b ∷ ys)) q (each_number sc s xs q)
      (λ bs r j k. gives_value m (NewNumbers p.next) (b ∷ bs) r (more_numbers p.next (b ∷ []) bs q r (let n = g.next in n) j (one_number b p q i.0 i.1) k)))

  -- from a lower number
  pub lower_numbers : (low next : ℕ) (bs : List Bound) (q : Passed) → low ≤ next → NewNumbers next bs q → NewNumbers low bs q
  lower_numbers low next bs q l h = record {
    above = all_weaker (λ (x : ℕ). next ≤ x) (λ (x : ℕ). low ≤ x) (λ x a. omega (arith, l, a)) (numbers_of bs) h.above;
    below = h.below;
    distinct = h.distinct;
  }

  group_numbers : (outer : List ℕ) (seen : List (List ℕ)) (gs : List Group) (sc : Scope) (p : Passed) → Stands m text outer p sc → AllByRecursion (IsGroup text) gs
      → Gives m p (NewNumbers p.next) (groups_rule seen gs sc)
  group_numbers outer seen [] sc p l a = gives_value m (NewNumbers p.next) [] p (no_numbers p)
  group_numbers outer seen (g ∷ gs) sc p l a =
      gives_then m (λ s q. p.next ≤ q.next) (NewNumbers p.next) (all_of (all_new seen g.names sc) (type_rule g.sort ground.Free sc)) _ p
      (gives_after_all m (λ s q. p.next ≤ q.next) (all_new seen g.names sc) (type_rule g.sort ground.Free sc) p
      (λ c. record { by = λ d. let x = (grows_written m text outer sc g.sort p l a.0.sort).by d in record { grows = x.grows; value = x.grows.next } }))
      (λ s q u f. gives_then m (NewNumbers q.next) (NewNumbers p.next) (each (variable_of sc s) g.names) _ q (each_number sc s g.names q)
      (λ bs r i h. gives_then m (NewNumbers r.next) (NewNumbers p.next) (groups_rule (map (name_at sc) g.names ++ seen) gs sc) (λ cs. give (bs ++ cs)) r
      (group_numbers outer (map (name_at sc) g.names ++ seen) gs sc r (stands_later m text outer p r sc (grows_then m p q r u i) l) a.1)
      (λ cs t j k. gives_value m (NewNumbers p.next) (bs ++ cs) t
      (more_numbers p.next bs cs r t (let x = u.next in let y = i.next in omega (arith, x, y)) j (lower_numbers p.next q.next bs r f h) k))))

  -- ---- what is known in a block
  block_locals : (outer : List ℕ) (p : Passed) (bs : List Bound) → AllByRecursion (LocalCovered outer p) (map local_of bs)
  block_locals outer p [] = tt
  block_locals outer p (b ∷ bs) = (tt, block_locals outer p bs)

  meaning_inside : (outer xs : List ℕ) (p q : Passed) → Grows m p q → AllByRecursion (λ x. p.next ≤ x) xs → (k : Meaning) → MeaningCovered outer p k → MeaningCovered (xs ++ outer) q k
  meaning_inside outer xs p q g n (a_variable x s) h = tt
  meaning_inside outer xs p q g n (a_term c t s) h = h
  meaning_inside outer xs p q g n (a_formula f) h = record {
    covered = h.covered;
    distinct = h.distinct;
    below = below_later m text p q (bound_in f) g h.below;
    apart = all_append (λ (s : ℕ). AllByRecursion (λ x. nat_eq s x ≡ false) (bound_in f)) xs outer (higher_apart p.next xs (bound_in f) n h.below) h.apart;
  }

  pub inside_block : (outer : List ℕ) (bs : List Bound) (sc : Scope) (p q : Passed) → Grows m p q → Stands m text outer p sc → NewNumbers p.next bs q
      → Stands m text (numbers_of bs ++ outer) q (with_block bs sc)
  inside_block outer bs sc p q g l n =
      let xs = numbers_of bs in
      record {
        text_is = l.text_is;
        locals = all_append (LocalCovered (xs ++ outer) q) (reverse (map local_of bs)) sc.locals
            (all_reversed (LocalCovered (xs ++ outer) q) (map local_of bs) (block_locals (xs ++ outer) q bs))
            (all_weaker (LocalCovered outer p) (LocalCovered (xs ++ outer) q) (λ x h. meaning_inside outer xs p q g n.above x.meaning h) sc.locals l.locals);
        below = all_append (λ (s : ℕ). s < q.next) xs outer n.below (below_later m text p q outer g l.below);
      }

  -- ---- a block
  pub block_covered : (outer : List ℕ) (around : Around) (quantifier : Quantifier) (bs : List Bound) (ps : Patterns) (f : Claim) (p q r : Passed)
      → AllByRecursion (λ s. s < p.next) outer → Grows m q r → NewNumbers p.next bs q
      → CoveredTriggers (merged_with quantifier around ++ numbers_of bs) ps
      → ClaimCovered (numbers_of bs ++ outer) (around_of quantifier (merged_with quantifier around ++ numbers_of bs) ps) f r
      → ClaimCovered outer around (quantified quantifier (numbers_of bs) (map (λ b. b.sort) bs) ps f) r
  block_covered outer around quantifier bs ps f p q r low g n t h =
      let xs = numbers_of bs in
      let Apart = λ (s : ℕ). AllByRecursion (λ x. nat_eq s x ≡ false) (bound_in f) in
      record {
        covered = (length-map bs (λ (b : Bound). b.number) ∙ sym (length-map bs (λ (b : Bound). b.sort)), t, h.covered);
        distinct = distinct_append xs (bound_in f) n.distinct h.distinct (all_front Apart xs outer h.apart);
        below = all_append (λ (x : ℕ). x < r.next) xs (bound_in f) (below_later m text q r xs g n.below) h.below;
        apart = all_both (λ (s : ℕ). AllByRecursion (λ x. nat_eq s x ≡ false) xs) Apart (λ (s : ℕ). AllByRecursion (λ x. nat_eq s x ≡ false) (xs ++ bound_in f))
            (λ s a b. all_append (λ (x : ℕ). nat_eq s x ≡ false) xs (bound_in f) a b) outer (lower_apart p.next outer xs low n.above) (all_back Apart xs outer h.apart);
      }

  module _ (outer : List ℕ) (sc : Scope) where
    abbrev L : Passed → Type 0
    L p = Stands m text outer p sc

    abbrev C : Around → Claim → Passed → Type 0
    C around = ClaimCovered outer around

    later : (p q : Passed) → Grows m p q → L p → L q
    later p q g l = stands_later m text outer p q sc g l

    in_term : (e : Part) (p : Passed) → L p → P e → Gives m p TypedCovered (as_term sc e)
    in_term e p l h = h.term outer sc p l e.place

    in_formula : (e : Part) (p : Passed) → L p → P e → Gives m p (C None) (as_formula sc e)
    in_formula e p l h = covers_formula m text outer sc e p l h

    in_wanted : (s : Sort) (e : Part) (p : Passed) → L p → P e → Gives m p TreeCovered (wanted sc s e)
    in_wanted s e p l h = covers_wanted m text outer sc s e p l h

    pub covers_truth : (around : Around) (place : Span) (r : Rule Typed) (p : Passed) → Gives m p TypedCovered r → Gives m p (C around) (truth_rule place r)
    covers_truth around place r p h =
        gives_then m TypedCovered (C around) r _ p h
        (λ t q g x. gives_after m (C around) (is_bool place t.sort) (give (claim_of t.tree)) q (λ c. gives_value m (C around) (claim_of t.tree) q (term_claim outer around q t.tree x)))

    pub covers_equation : (around : Around) (x : Relation) (a b : Part) (p : Passed) → L p → P a → P b → Gives m p (C around) (equation_rule x a b sc)
    covers_equation around x a b p l h k =
        gives_then m TypedCovered (C around) (as_term sc a) _ p (in_term a p l h)
        (λ s q g y. gives_then m TreeCovered (C around) (wanted sc s.sort b) _ q (in_wanted s.sort b q (later p q g l) k)
        (λ t r i z. gives_value m (C around) (relation x s.tree t) r (plainly refl (y, z))))

    pub covers_inequality : (around : Around) (x : Relation) (a b : Part) (p : Passed) → L p → P a → P b → Gives m p (C around) (inequality_rule x a b sc)
    covers_inequality around x a b p l h k =
        gives_then m BothCovered (C around) (operands sc IntOrReal a b) _ p (covers_operands m text outer sc IntOrReal a b p l h k)
        (λ st q g y. gives_value m (C around) (relation x st.0.tree st.1) q (plainly refl y))

    one_sort : (s : Sort) (es : List Part) (p : Passed) → L p → AllByRecursion P es → Gives m p ListCovered (of_one_sort sc s es)
    one_sort s [] p l a = gives_value m ListCovered none p tt
    one_sort s (e ∷ es) p l a =
        gives_then m TreeCovered ListCovered (wanted sc s e) _ p (in_wanted s e p l a.0)
        (λ t q g x. gives_then m ListCovered ListCovered (of_one_sort sc s es) (λ ts. give (more t ts)) q (one_sort s es q (later p q g l) a.1)
        (λ ts r i y. gives_value m ListCovered (more t ts) r (x, y)))

    pub covers_distinct : (around : Around) (es : List Part) (p : Passed) → L p → AllByRecursion P es → Gives m p (C around) (distinct_rule es sc)
    covers_distinct around [] p l a = gives_value m (C around) (distinct none) p (plainly refl tt)
    covers_distinct around (e ∷ es) p l a =
        gives_then m TypedCovered (C around) (as_term sc e) _ p (in_term e p l a.0)
        (λ t q g x. gives_then m ListCovered (C around) (of_one_sort sc t.sort es) _ q (one_sort t.sort es q (later p q g l) a.1)
        (λ ts r i y. gives_value m (C around) (distinct (more t.tree ts)) r (plainly refl (x, y))))

    pub covers_connective : (around : Around) (join : Claim → Claim → Claim) → ((f g : Claim) (q : Passed) → IsAlone f → IsAlone g → C around (join f g) q)
        → (a b : Part) (p : Passed) → L p → P a → P b → Gives m p (C around) (connective_rule join a b sc)
    covers_connective around join j a b p l h k =
        gives_then m (C None) (C around) (as_formula sc a) _ p (in_formula a p l h)
        (λ f q g x. gives_then m (C None) (C around) (as_formula sc b) _ q (in_formula b q (later p q g l) k)
        (λ u r i y. gives_value m (C around) (join f u) r (j f u r (alone x) (alone y))))

    pub covers_negation : (around : Around) (a : Part) (p : Passed) → L p → P a → Gives m p (C around) (as_formula sc a >> λ f. give (negation f))
    covers_negation around a p l h =
        gives_then m (C None) (C around) (as_formula sc a) (λ f. give (negation f)) p (in_formula a p l h)
        (λ f q g x. gives_value m (C around) (negation f) q (plainly refl (alone x)))

    pub covers_conditional : (around : Around) (c a b : Part) (p : Passed) → L p → P c → P a → P b → Gives m p (C around) (conditional_rule c a b sc)
    covers_conditional around c a b p l h i j =
        gives_then m (C None) (C around) (as_formula sc c) _ p (in_formula c p l h)
        (λ f q g x. gives_then m (C None) (C around) (as_formula sc a) _ q (in_formula a q (later p q g l) i)
        (λ u r k y. gives_then m (C None) (C around) (as_formula sc b) _ r (in_formula b r (later p r (grows_then m p q r g k) l) j)
        (λ v w n z. gives_value m (C around) (conditional f u v) w (plainly refl (alone x, alone y, alone z)))))

    pub covers_predicate : (around : Around) (name : Span) (k : ℕ) (e : SymbolEntry) (args : List Part) (p : Passed) → L p → AllByRecursion P args
        → Gives m p (C around) (predicate_rule name k e args sc)
    covers_predicate around name k e args p l a =
        gives_then m AppliedCovered (C around) (application_rule name e args sc) _ p (covers_application m text outer sc name e args p l a)
        (λ x q g h. gives_value m (C around) (predicate k x.sorts x.args) q (plainly refl h))

    -- ---- triggers
    covers_untested : (k : Class) (e : Part) (p : Passed) → L p → P e → Gives m p TreeCovered (untested k e sc)
    covers_untested formula e p l h =
        gives_then m (C None) TreeCovered (as_formula sc e) _ p (in_formula e p l h) (λ f q g x. gives_value m TreeCovered (pattern_of f) q (pattern_covered f x.covered))
    covers_untested either e p l h = gives_then m TypedCovered TreeCovered (as_term sc e) _ p (in_term e p l h) (λ t q g x. gives_value m TreeCovered t.tree q x)
    covers_untested term e p l h = gives_then m TypedCovered TreeCovered (as_term sc e) _ p (in_term e p l h) (λ t q g x. gives_value m TreeCovered t.tree q x)

    abbrev TermApplied : Tree → Passed → Type 0
    TermApplied t q = (is_application t && not (has_choice t) ≡ true) × CoveredTerm t

    covers_pattern : (e : Part) (p : Passed) → L p → P e → Gives m p TermApplied (pattern_rule sc e)
    covers_pattern e p l h =
        gives_then m TreeCovered TermApplied (untested (e.class sc) e sc) _ p (covers_untested (e.class sc) e p l h)
        (λ t q g x. gives_after m TermApplied (test (is_application t && not (has_choice t)) (fault.BadTrigger e.place.from e.place.to)) (give t) q
        (λ c. gives_value m TermApplied t q (c, x)))

    abbrev ListApplied : Trees → Passed → Type 0
    ListApplied us q = AreApplied us × CoveredTerms us

    covers_patterns : (es : List Part) (p : Passed) → L p → AllByRecursion P es → Gives m p ListApplied (patterns_rule sc es)
    covers_patterns [] p l a = gives_value m ListApplied none p (tt, tt)
    covers_patterns (e ∷ es) p l a =
        gives_then m TermApplied ListApplied (pattern_rule sc e) _ p (covers_pattern e p l a.0)
        (λ t q g x. gives_then m ListApplied ListApplied (patterns_rule sc es) (λ ts. give (more t ts)) q (covers_patterns es q (later p q g l) a.1)
        (λ ts r i y. gives_value m ListApplied (more t ts) r ((x.0, y.0), (x.1, y.1))))

    -- the triggers, and the block that the body would be merged with
    record TriggersCovered (xs : List ℕ) (ts : List (List Part)) (ps : Patterns) (q : Passed) : Type 0 where
      pub covered : CoveredTriggers xs ps
      pub around : (quantifier : Quantifier) → around_body quantifier xs ts ≡ around_of quantifier xs ps

    covers_triggers : (xs : List ℕ) (ts : List (List Part)) (p : Passed) → L p → AllByRecursion (AllByRecursion P) ts → Gives m p (TriggersCovered xs ts) (triggers_rule xs ts sc)
    covers_triggers xs [] p l a = gives_value m (TriggersCovered xs []) no_pattern p (record { covered = tt; around = λ quantifier. refl })
    covers_triggers xs (es ∷ ts) p l a =
        let Q = TriggersCovered xs (es ∷ ts) in
        gives_then m ListApplied Q (patterns_rule sc es) _ p (covers_patterns es p l a.0)
        (λ us q g x. gives_after m Q (covering xs us (first_place_of es)) _ q
        (λ c. gives_then m (TriggersCovered xs ts) Q (triggers_rule xs ts sc) (λ ps. give (and_pattern (first_place_of es) us ps)) q (covers_triggers xs ts q (later p q g l) a.1)
        (λ ps r i y. gives_value m Q (and_pattern (first_place_of es) us ps) r (record {
          covered = (record { fine = x.1; applied = x.0; covers = c }, y.covered);
          around = λ quantifier. refl;
        }))))

  pub covers_block : (quantifier : Quantifier) (gs : List Group) (ts : List (List Part)) (body : Part) (outer : List ℕ) (sc : Scope) (around : Around) (p : Passed)
      → Stands m text outer p sc → AllByRecursion (IsGroup text) gs → AllByRecursion (AllByRecursion P) ts → P body
      → Gives m p (ClaimCovered outer around) (block_rule quantifier gs ts body sc around)
  covers_block quantifier gs ts body outer sc around p l g a h =
      gives_then m (NewNumbers p.next) (ClaimCovered outer around) (groups_rule [] gs sc) _ p (group_numbers outer [] gs sc p l g)
      (λ bs r u n. let inner = with_block bs sc in
      let xs = numbers_of bs in
      let merged = merged_with quantifier around ++ xs in
      let k = inside_block outer bs sc p r u l n in
      gives_then m (TriggersCovered (xs ++ outer) inner merged ts) (ClaimCovered outer around) (triggers_rule merged ts inner) _ r
      (covers_triggers (xs ++ outer) inner merged ts r k a)
      (λ ps t i x. gives_then m (ClaimCovered (xs ++ outer) (around_body quantifier merged ts)) (ClaimCovered outer around)
      (body.formula inner (around_body quantifier merged ts) body.place) (λ f. give (quantified quantifier xs (map (λ b. b.sort) bs) ps f)) t
      (h.formula (xs ++ outer) inner t (stands_later m text (xs ++ outer) r t inner i k) (around_body quantifier merged ts) body.place)
      (λ f v j y. gives_value m (ClaimCovered outer around) (quantified quantifier xs (map (λ b. b.sort) bs) ps f) v
      (block_covered outer around quantifier bs ps f p r v l.below (grows_then m r t v i j) n x.covered
      (subst (λ (z : Around). ClaimCovered (xs ++ outer) z f v) (x.around quantifier) y)))))
