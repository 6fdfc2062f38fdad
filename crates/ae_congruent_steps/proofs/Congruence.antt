-- The step of two applications of one head whose arguments steps equate is allowed.
use Rattle.std.specs.Prelude.{ℕ, suc, true, List, [], ◌∷◌, ◌≡◌, map, length, slice_get, Option, Some}
use Rattle.std.proofs.Common.{refl, sym, ap, ◌∙◌, arith}
use Rattle.std.specs.List.{list_all}
use Rattle.ae_base.specs.Options.{◌>>=◌, only, all_known, known}
use Rattle.ae_core.proofs.SortFacts.{same_known_is, same_known_of}
use Rattle.ae_core.proofs.SortLaws.{sort_in_apply}
use Rattle.ae_core.specs.Sorts.{sort_of, head_sort, is_closed_sort}
use Rattle.ae_core.specs.declared.terms.Sort.{Sort}
use Rattle.ae_core.specs.declared.terms.Term.{Term, Apply}
use Rattle.ae_core.specs.declared.terms.Head.{Head}
use Rattle.ae_core.specs.declared.problems.Signature.{Signature}
use Rattle.ae_rules.specs.Lines.{equal, Stated, Equated}
use Rattle.ae_store.specs.Shapes.{shapes}
use Rattle.ae_store.specs.Stores.{IsStore}
use Rattle.ae_store.specs.Terms.{terms, named}
use Rattle.ae_store.specs.declared.nodes.Node.{Node}
use Rattle.ae_store.specs.declared.nodes.NodeHead.TheVariants.{Of}
use Rattle.ae_store.proofs.StoreLaws.{name_term}
use Rattle.ae_just.specs.declared.steps.Rule.TheVariants as rule
use Rattle.ae_just.specs.declared.steps.Side.TheVariants as side
use Rattle.ae_just.specs.declared.steps.Step.{Step}
use Rattle.ae_just.specs.Steps.{Fits, IsAllowedStep, own_line}
use Rattle.ae_multiset_steps.specs.Equating.{AreEquated}
use Rattle.ae_state_steps.specs.ManySteps.{StatesNames}
use Rattle.ae_state_steps.proofs.Stated.{stated_by}
use Rattle.ae_strips.proofs.FieldTerms.{term_there}
use Rattle.ae_congruent_steps.specs.Congruent.{AreCongruent}

-- ---- names that steps equate, one by one
module _ (sig : Signature) (ts : List Term) (steps : List Step) (fits : Fits sig ts steps) where
  abbrev step_of : (id x y : ℕ) → StatesNames steps id x y → Step
  step_of id x y s = record { left = side.Name x; right = side.Name y; rule = s.by }

  line_of : (id x y : ℕ) → StatesNames steps id x y → Stated (map (own_line ts) steps) id (equal (named ts x) (named ts y))
  line_of id x y s = stated_by ts steps id (step_of id x y s) s.there

  of_one_sort : (id x y : ℕ) → StatesNames steps id x y → sort_of sig (named ts x) ≡ sort_of sig (named ts y)
  of_one_sort id x y s = (same_known_is (sort_of sig (named ts x)) (sort_of sig (named ts y)) ((fits.allowed).each id (step_of id x y s) s.there).sorted).1

  rest : (x y k : ℕ) (xs ys ids : List ℕ) → AreEquated steps (x ∷ xs) (y ∷ ys) (k ∷ ids) → AreEquated steps xs ys ids
  rest x y k xs ys ids e =
      let m : suc (length ys) ≡ suc (length xs) = e.as_many in
      let n : suc (length ids) ≡ suc (length xs) = e.one_each in
      record { as_many = omega (arith, m); one_each = omega (arith, n); each = λ i a b id p q r. e.each (suc i) a b id p q r }

  equated : (xs ys ids : List ℕ) → AreEquated steps xs ys ids → Equated (map (own_line ts) steps) ids (map (named ts) xs) (map (named ts) ys)
  equated [] [] [] e = tt
  equated [] [] (k ∷ ids) e = let m : suc (length ids) ≡ 0 = e.one_each in absurd (omega (arith, m))
  equated [] (y ∷ ys) ids e = let m : suc (length ys) ≡ 0 = e.as_many in absurd (omega (arith, m))
  equated (x ∷ xs) [] ids e = let m : 0 ≡ suc (length xs) = e.as_many in absurd (omega (arith, m))
  equated (x ∷ xs) (y ∷ ys) [] e = let m : 0 ≡ suc (length xs) = e.one_each in absurd (omega (arith, m))
  equated (x ∷ xs) (y ∷ ys) (k ∷ ids) e = (line_of k x y (e.each 0 x y k refl refl refl), equated xs ys ids (rest x y k xs ys ids e))

  sorts_same : (xs ys ids : List ℕ) → AreEquated steps xs ys ids → ◌≡◌ {A = List (Option Sort)} (map (sort_of sig) (map (named ts) xs)) (map (sort_of sig) (map (named ts) ys))
  sorts_same [] [] ids e = refl
  sorts_same [] (y ∷ ys) ids e = let m : suc (length ys) ≡ 0 = e.as_many in absurd (omega (arith, m))
  sorts_same (x ∷ xs) [] ids e = let m : 0 ≡ suc (length xs) = e.as_many in absurd (omega (arith, m))
  sorts_same (x ∷ xs) (y ∷ ys) [] e = let m : 0 ≡ suc (length xs) = e.one_each in absurd (omega (arith, m))
  sorts_same (x ∷ xs) (y ∷ ys) (k ∷ ids) e = λ i. of_one_sort k x y (e.each 0 x y k refl refl refl) i ∷ sorts_same xs ys ids (rest x y k xs ys ids e) i

-- ---- the two applications
module _ (sig : Signature) (ts : List Term) (steps : List Step) (fits : Fits sig ts steps) (left right : ℕ) (ids : List ℕ) (c : AreCongruent ts steps left right ids) where
  abbrev us : List Term
  us = map (named ts) c.first

  abbrev vs : List Term
  vs = map (named ts) c.second

  abbrev sort_with : List (Option Sort) → Option Sort
  sort_with os = only (list_all (is_closed_sort sig) c.sorts) (all_known os) >>= head_sort sig c.head c.sorts

  one_sort : sort_of sig (named ts left) ≡ sort_of sig (named ts right)
  one_sort =
      ap (sort_of sig) c.left_is ∙ sort_in_apply sig (is_closed_sort sig) [] c.head c.sorts us ∙ ap sort_with (sorts_same sig ts steps fits c.first c.second ids c.equated)
      ∙ sym (sort_in_apply sig (is_closed_sort sig) [] c.head c.sorts vs) ∙ sym (ap (sort_of sig) c.right_is)

  pub congruent_step : known (sort_of sig (named ts left)) ≡ true → IsAllowedStep sig ts steps (record { left = side.Name left; right = side.Name right; rule = rule.Cong ids })
  congruent_step k =
      record {
        sorted = same_known_of (sort_of sig (named ts left)) (sort_of sig (named ts right)) k one_sort;
        allowed = (c.head, c.sorts, us, vs, c.left_is, c.right_is, equated sig ts steps fits c.first c.second ids c.equated);
      }

-- ---- by the nodes of a store
module _ (sig : Signature) (nodes : List Node) (store : IsStore sig nodes) (steps : List Step) (left right : ℕ) (ids : List ℕ) where
  abbrev names : List Term
  names = terms (shapes nodes)

  term_is : (n : ℕ) (p : Node) (h : Head) → slice_get nodes n ≡ Some p → p.head ≡ Of h → named names n ≡ Apply h p.sorts (map (named names) p.args)
  term_is n p h at e = name_term names n (Apply h p.sorts (map (named names) p.args)) (term_there sig nodes store n p h at e)

  -- two nodes that apply one head at the same sorts to names that steps equate are congruent
  pub congruent_nodes : (p q : Node) (h : Head) → slice_get nodes left ≡ Some p → slice_get nodes right ≡ Some q → p.head ≡ Of h → q.head ≡ Of h → p.sorts ≡ q.sorts → AreEquated steps p.args q.args ids
      → AreCongruent names steps left right ids
  congruent_nodes p q h at there e f sorts equal =
      record {
        head = h;
        sorts = p.sorts;
        first = p.args;
        second = q.args;
        left_is = term_is left p h at e;
        right_is = term_is right q h there f ∙ ap (λ (ss : List Sort). Apply h ss (map (named names) q.args)) (sym sorts);
        equated = equal;
      }
