-- The bound names as a scope has them: with more nodes, with one name more, and with one less.
use Rattle.std.proofs.Common.{◌≡◌, ◌∙◌, List, [], ◌∷◌, ◌++◌, Option, Some, None, inl, inr, refl, sym, ap, subst, Bool, true, false, ◌+◌, ◌<◌, ◌≤◌, ℕ, take, get_or, length}
use Rattle.std.specs.List.{AllByRecursion}
use Rattle.std.specs.Str.{bytes_eq}
use Rattle.std.proofs.lemmas.List.{take_more, take_all}
use Rattle.ae_base.proofs.AllOf.{all_front}
use Rattle.ae_base.proofs.ListFacts.{get_append}
use Rattle.ae_elab.specs.declared.environment.Local as code
use Rattle.ae_elab.specs.declared.environment.Meaning.{Meaning}
use Rattle.ae_elab.specs.declared.environment.Meaning.TheVariants.{Variable, Term, Formula, Untyped}
use Rattle.ae_elab.specs.Environments.{class_in, meaning_in, IsMeaning, FindsAmong, local_in, locals_inside}
use Rattle.ae_elab.specs.Inner.Locals.{DropsLast}
use Rattle.ae_elab.specs.Nodes.{Entry, a_tree, a_claim, tree_at, claim_at, IsTree, IsClaim}
use Rattle.ae_elab.specs.Scope.{Local, Named, named, look_up, bound, a_term, a_formula}
use Rattle.ae_elab.proofs.NodeLaws.{tree_is, claim_is}

-- ---- with more nodes
module _ (es more : List Entry) where
  pub still_meaning : (m : Meaning) → IsMeaning es m → IsMeaning (es ++ more) m
  still_meaning (Variable x s) h = tt
  still_meaning (Term c n s) h =
      let there = get_append es more n (a_tree (tree_at es n)) h in
      subst (λ t. IsTree (es ++ more) n t) (sym (tree_is (es ++ more) n (tree_at es n) there)) there
  still_meaning (Formula n) h =
      let there = get_append es more n (a_claim (claim_at es n)) h in
      subst (λ f. IsClaim (es ++ more) n f) (sym (claim_is (es ++ more) n (claim_at es n) there)) there
  still_meaning (Untyped c) h = tt

  pub same_meaning : (m : Meaning) → IsMeaning es m → meaning_in (es ++ more) m ≡ meaning_in es m
  same_meaning (Variable x s) h = refl
  same_meaning (Term c n s) h = ap (λ t. a_term (class_in c) t s) (tree_is (es ++ more) n (tree_at es n) (get_append es more n (a_tree (tree_at es n)) h))
  same_meaning (Formula n) h = ap a_formula (claim_is (es ++ more) n (claim_at es n) (get_append es more n (a_claim (claim_at es n)) h))
  same_meaning (Untyped c) h = refl

  pub still_meanings : (ls : List code.Local) → AllByRecursion (λ l. IsMeaning es l.meaning) ls → AllByRecursion (λ l. IsMeaning (es ++ more) l.meaning) ls
  still_meanings [] h = tt
  still_meanings (l ∷ ls) h = (still_meaning l.meaning h.0, still_meanings ls h.1)

  pub same_locals : (outer : List Local) (ls : List code.Local) → AllByRecursion (λ l. IsMeaning es l.meaning) ls → locals_inside (es ++ more) outer ls ≡ locals_inside es outer ls
  same_locals outer [] h = refl
  same_locals outer (l ∷ ls) h =
      ap (λ m. locals_inside (es ++ more) (named l.name.now m ∷ outer) ls) (same_meaning l.meaning h.0) ∙ same_locals (local_in es l ∷ outer) ls h.1

-- ---- with one name more, or one less
module _ (es : List Entry) where
  pub one_more : (outer : List Local) (ls : List code.Local) (l : code.Local) → locals_inside es outer (ls ++ l ∷ []) ≡ local_in es l ∷ locals_inside es outer ls
  one_more outer [] l = refl
  one_more outer (m ∷ ls) l = one_more (local_in es m ∷ outer) ls l

  abbrev tail_of : List Local → List Local
  tail_of [] = []
  tail_of (l ∷ ls) = ls

  pub one_less : (old new : List code.Local) → DropsLast old new → (l : Local) (ls : List Local) → locals_inside es [] old ≡ l ∷ ls → locals_inside es [] new ≡ ls
  one_less old new (inl h) l ls e = ap (locals_inside es []) h.1 ∙ ap tail_of (sym (ap (locals_inside es []) h.0) ∙ e)
  one_less old new (inr h) l ls e = ap tail_of (sym (ap (locals_inside es []) h.1 ∙ one_more [] new h.0) ∙ e)

  pub fewer : (P : code.Local → Type 0) (old new : List code.Local) → DropsLast old new → AllByRecursion P old → AllByRecursion P new
  fewer P old new (inl h) a = subst (AllByRecursion P) (sym h.1) tt
  fewer P old new (inr h) a = all_front P new (h.0 ∷ []) (subst (AllByRecursion P) h.1 a)

  -- ---- the innermost of a name
  module _ (name : List ℕ) (ls : List code.Local) (i : ℕ) (x : code.Local) (o : Option Meaning) (within : i < length ls) (is : x ≡ get_or ls i x) where
    abbrev before : List Local
    before = locals_inside es [] (take i ls)

    next : locals_inside es [] (take (i + 1) ls) ≡ local_in es x ∷ before
    next = ap (locals_inside es []) (take_more ls i x within ∙ ap (λ y. take i ls ++ y ∷ []) (sym is)) ∙ one_more [] (take i ls) x

    pub found_here : (m : Meaning) → m ≡ x.meaning → IsMeaning es x.meaning → bytes_eq name x.name.now ≡ true → FindsAmong es (locals_inside es [] (take (i + 1) ls)) name (Some m)
    found_here m e h t = (
      subst (IsMeaning es) (sym e) h,
      λ outside. ap (λ z. look_up z outside name) next ∙ ap (λ (b : Bool). elim b [ true ↦ bound (meaning_in es x.meaning) | false ↦ look_up before outside name ]) t ∙ ap (λ z. bound (meaning_in es z)) (sym e),
    )

    pub found_before : FindsAmong es before name o → bytes_eq name x.name.now ≡ false → FindsAmong es (locals_inside es [] (take (i + 1) ls)) name o
    found_before = by_found o
      where
        passed : (outside : Named) → bytes_eq name x.name.now ≡ false → look_up (locals_inside es [] (take (i + 1) ls)) outside name ≡ look_up before outside name
        passed outside f = ap (λ z. look_up z outside name) next ∙ ap (λ (b : Bool). elim b [ true ↦ bound (meaning_in es x.meaning) | false ↦ look_up before outside name ]) f

        by_found : (p : Option Meaning) → FindsAmong es before name p → bytes_eq name x.name.now ≡ false → FindsAmong es (locals_inside es [] (take (i + 1) ls)) name p
        by_found (Some m) h f = (h.0, λ outside. passed outside f ∙ h.1 outside)
        by_found None h f = λ outside. passed outside f ∙ h outside

  pub found_whole : (name : List ℕ) (ls : List code.Local) (i : ℕ) (o : Option Meaning) → length ls ≤ i → FindsAmong es (locals_inside es [] (take i ls)) name o → FindsAmong es (locals_inside es [] ls) name o
  found_whole name ls i o l h = subst (λ z. FindsAmong es (locals_inside es [] z) name o) (take_all i ls l) h
