-- Blocks that are merged with the one round them: what stands at a place among the nodes, and its conditions.
use Rattle.std.proofs.Common.{arith, ◌≡◌, ◌∙◌, ℕ, zero, suc, ◌+◌, ◌<◌, ◌≤◌, Bool, true, false, List, [], ◌∷◌, ◌++◌, length, length-append, take, drop, get_or, Option, Some, None, refl, sym, ap, subst, slice_get, true≢false}
use Rattle.std.proofs.lemmas.List.{append_assoc, append-nil, drop_more, drop_all}
use Rattle.std.proofs.lemmas.Option.{none-some, same_Some, slice_get_past}
use Rattle.ae_base.proofs.ListFacts.{get_after, get_seam}
use Rattle.ae_core.specs.declared.terms.Head.{Head}
use Rattle.ae_core.specs.declared.terms.Head.TheVariants as head
use Rattle.ae_core.specs.declared.terms.Sort.{Sort}
use Rattle.ae_syntax.specs.declared.exprs.Quantifier.{Quantifier}
use Rattle.ae_elab.specs.declared.nodes.Connective.{Connective}
use Rattle.ae_elab.specs.declared.nodes.Connective.TheVariants as connective
use Rattle.ae_elab.specs.declared.nodes.Node.{Node}
use Rattle.ae_elab.specs.declared.nodes.Node.TheVariants as node
use Rattle.ae_elab.specs.declared.nodes.Pattern.{Pattern}
use Rattle.ae_elab.specs.declared.faults.TypeFault.TheVariants as fault
use Rattle.ae_elab.specs.Conditions.{Condition}
use Rattle.ae_elab.specs.Formulas.{same_quantifier, covering, covering_all, covers, merging, merging_triggers}
use Rattle.ae_elab.specs.Nodes.{Entry, claim_in, claim_at, entry_of, entries_after, entries_of, join_of, patterns_at, trees_at}
use Rattle.ae_elab.specs.Steps.{AreMet, AreNotMet}
use Rattle.ae_elab.specs.Trees as tree
use Rattle.ae_elab.specs.Trees.{Tree, Claim, claim_of, claim_of_head, holds}
use Rattle.ae_elab.proofs.NameRules.{Follows, follow_next, follow_stop, follow_end}
use Rattle.ae_elab.proofs.WalkLaws.{test_met, test_not_met}

-- ---- the entry at a place
pub later_entries : (es : List Entry) (ns : List Node) → (more : List Entry) × (entries_after es ns ≡ es ++ more)
later_entries es [] = ([], sym (append-nil es))
later_entries es (n ∷ ns) =
    let r = later_entries (es ++ entry_of es n ∷ []) ns in
    (entry_of es n ∷ r.0, r.1 ∙ append_assoc es (entry_of es n ∷ []) r.0)

entry_get : (es : List Entry) (ns : List Node) (n : ℕ) (x : Node) → slice_get ns n ≡ Some x → slice_get (entries_after es ns) (length es + n) ≡ Some (entry_of (entries_after es (take n ns)) x)
entry_get es [] n x h = absurd (none-some x h)
entry_get es (m ∷ ns) zero x h =
    let e = entry_of es m in
    let r = later_entries (es ++ e ∷ []) ns in
    let at : length es + 0 ≡ length es = omega arith in
    ap (λ z. slice_get z (length es + 0)) (r.1 ∙ append_assoc es (e ∷ []) r.0) ∙ ap (slice_get (es ++ e ∷ r.0)) at ∙ get_seam es r.0 e ∙ ap (λ z. Some (entry_of es z)) (same_Some m x h)
entry_get es (m ∷ ns) (suc k) x h =
    let e = entry_of es m in
    let l : length (es ++ e ∷ []) ≡ length es + 1 = length-append es (e ∷ []) in
    let at : length es + suc k ≡ length (es ++ e ∷ []) + k = omega (arith, l) in
    ap (slice_get (entries_after (es ++ e ∷ []) ns)) at ∙ entry_get (es ++ e ∷ []) ns k x h

no_entry : (es : List Entry) (ns : List Node) (n : ℕ) → slice_get ns n ≡ None → slice_get (entries_after es ns) (length es + n) ≡ None
no_entry es [] n h = ap (λ z. slice_get z (length es + n)) (sym (append-nil es)) ∙ get_after es [] n ∙ slice_get_past [] n (omega arith)
no_entry es (m ∷ ns) zero h = absurd (none-some m (sym h))
no_entry es (m ∷ ns) (suc k) h =
    let e = entry_of es m in
    let l : length (es ++ e ∷ []) ≡ length es + 1 = length-append es (e ∷ []) in
    let at : length es + suc k ≡ length (es ++ e ∷ []) + k = omega (arith, l) in
    ap (slice_get (entries_after (es ++ e ∷ []) ns)) at ∙ no_entry (es ++ e ∷ []) ns k h

module _ (ns : List Node) (n : ℕ) where
  from_start : (o : Option Entry) → slice_get (entries_of ns) (0 + n) ≡ o → slice_get (entries_of ns) n ≡ o
  from_start o h = let at : n ≡ 0 + n = omega arith in ap (slice_get (entries_of ns)) at ∙ h

  pub claim_there : (x : Node) → slice_get ns n ≡ Some x → claim_at (entries_of ns) n ≡ claim_in (Some (entry_of (entries_of (take n ns)) x))
  claim_there x h = ap claim_in (from_start (Some (entry_of (entries_of (take n ns)) x)) (entry_get [] ns n x h))

  pub claim_missing : slice_get ns n ≡ None → claim_at (entries_of ns) n ≡ tree.falsity
  claim_missing h = ap claim_in (from_start None (no_entry [] ns n h))

-- ---- what is no block is merged with none
module _ (q : Quantifier) (xs : List ℕ) where
  head_no_block : (h : Head) (t : Tree) → merging q xs (claim_of_head h (holds t)) ≡ []
  head_no_block (head.Symbol k) t = refl
  head_no_block (head.Field k p) t = refl
  head_no_block (head.Build k) t = refl
  head_no_block (head.Int o) t = refl
  head_no_block (head.Real o) t = refl
  head_no_block head.True t = refl
  head_no_block head.False t = refl
  head_no_block head.Void t = refl

  term_no_block : (t : Tree) → merging q xs (claim_of t) ≡ []
  term_no_block (tree.variable x) = refl
  term_no_block (tree.numeral a b r) = refl
  term_no_block (tree.apply h ss us) = head_no_block h (tree.apply h ss us)
  term_no_block (tree.operation o s us) = refl
  term_no_block (tree.build k ss n ps us) = refl
  term_no_block (tree.update k ss n b ps us) = refl
  term_no_block (tree.choice c s t) = refl

  joined_no_block : (j : Connective) (a b : Claim) → merging q xs (join_of j a b) ≡ []
  joined_no_block connective.Conjunction a b = refl
  joined_no_block connective.Disjunction a b = refl
  joined_no_block connective.Exclusion a b = refl
  joined_no_block connective.Equivalence a b = refl
  joined_no_block connective.Implication a b = refl

  abbrev IsNoBlock : Node → Type 0
  IsNoBlock n = (r : Quantifier) (ys : List ℕ) (ss : List Sort) (ps : List Pattern) (f : ℕ) → n ≡ node.Quantified r ys ss ps f → ⊥

  node_no_block : (es : List Entry) (n : Node) → IsNoBlock n → merging q xs (claim_in (Some (entry_of es n))) ≡ []
  node_no_block es (node.Variable x) h = refl
  node_no_block es (node.Numeral a b r) h = refl
  node_no_block es (node.Apply k ss us) h = refl
  node_no_block es (node.Operation o s us) h = refl
  node_no_block es (node.Build k ss n ps us) h = refl
  node_no_block es (node.Update k ss n b ps us) h = refl
  node_no_block es (node.Choice c a b) h = refl
  node_no_block es node.Truth h = refl
  node_no_block es node.Falsity h = refl
  node_no_block es (node.Relation r a b) h = refl
  node_no_block es (node.Predicate k ss us) h = refl
  node_no_block es (node.Distinct us) h = refl
  node_no_block es (node.Holds t) h = term_no_block _
  node_no_block es (node.Negation a) h = refl
  node_no_block es (node.Joined j a b) h = joined_no_block j _ _
  node_no_block es (node.Conditional c a b) h = refl
  node_no_block es (node.Quantified r ys ss ps f) h = absurd (h r ys ss ps f refl)

  module _ (ns : List Node) (n : ℕ) where
    abbrev conditions : List Condition
    conditions = merging q xs (claim_at (entries_of ns) n)

    pub merge_missing : slice_get ns n ≡ None → conditions ≡ []
    merge_missing h = ap (merging q xs) (claim_missing ns n h)

    pub merge_other : (x : Node) → slice_get ns n ≡ Some x → IsNoBlock x → conditions ≡ []
    merge_other x h other = ap (merging q xs) (claim_there ns n x h) ∙ node_no_block (entries_of (take n ns)) x other

    module _ (r : Quantifier) (ys : List ℕ) (ss : List Sort) (ps : List Pattern) (f : ℕ) (h : slice_get ns n ≡ Some (node.Quantified r ys ss ps f)) where
      abbrev before : List Entry
      before = entries_of (take n ns)

      abbrev by_same : Bool → List Pattern → List Condition
      by_same b zs = elim b [ true ↦ merging_triggers (xs ++ ys) (patterns_at before zs) (merging q (xs ++ ys) (claim_at before f)) | false ↦ [] ]

      block_conditions : conditions ≡ by_same (same_quantifier q r) ps
      block_conditions = ap (merging q xs) (claim_there ns n (node.Quantified r ys ss ps f) h)

      pub merge_others : same_quantifier q r ≡ false → conditions ≡ []
      merge_others e = block_conditions ∙ ap (λ b. by_same b ps) e

      pub merge_body : same_quantifier q r ≡ true → ps ≡ [] → conditions ≡ merging q (xs ++ ys) (claim_at before f)
      merge_body e none = block_conditions ∙ ap (λ b. by_same b ps) e ∙ ap (by_same true) none

      pub merge_triggers : same_quantifier q r ≡ true → (ps ≡ [] → ⊥) → conditions ≡ covering_all (xs ++ ys) (patterns_at before ps)
      merge_triggers e some = block_conditions ∙ ap (λ b. by_same b ps) e ∙ by_patterns ps some
        where
          by_patterns : (zs : List Pattern) → (zs ≡ [] → ⊥) → by_same true zs ≡ covering_all (xs ++ ys) (patterns_at before zs)
          by_patterns [] k = absurd (k refl)
          by_patterns (z ∷ zs) k = refl

-- ---- triggers that have the variables, one by one
module _ (xs : List ℕ) (es : List Entry) (ps : List Pattern) (m : ℕ → Sort) where
  abbrev cover_from : ℕ → List Condition
  cover_from i = covering_all xs (patterns_at es (drop i ps))

  module _ (i : ℕ) (p : Pattern) (l : i < length ps) (is : p ≡ get_or ps i p) (f : Follows (covering_all xs (patterns_at es ps)) (cover_from i) m) where
    abbrev here : Condition
    here = covering xs (trees_at es p.terms) p.place

    at_trigger : Follows (covering_all xs (patterns_at es ps)) (here ∷ cover_from (i + 1)) m
    at_trigger = subst (λ (zs : List Pattern). Follows (covering_all xs (patterns_at es ps)) (covering_all xs (patterns_at es zs)) m) (drop_more ps i p l ∙ ap (λ z. z ∷ drop (i + 1) ps) (sym is)) f

    pub cover_next : covers xs (trees_at es p.terms) ≡ true → Follows (covering_all xs (patterns_at es ps)) (cover_from (i + 1)) m
    cover_next h =
        follow_next here (covering_all xs (patterns_at es ps)) (cover_from (i + 1)) m at_trigger (test_met (covers xs (trees_at es p.terms)) (fault.BadTrigger p.place.from p.place.to) m h)

    pub cover_stop : covers xs (trees_at es p.terms) ≡ false → AreNotMet (covering_all xs (patterns_at es ps)) m (fault.BadTrigger p.place.from p.place.to)
    cover_stop h =
        let e = fault.BadTrigger p.place.from p.place.to in
        follow_stop here (covering_all xs (patterns_at es ps)) (cover_from (i + 1)) m e at_trigger (test_not_met (covers xs (trees_at es p.terms)) e m (λ t. true≢false (sym t ∙ h)))

  pub cover_whole : (i : ℕ) → length ps ≤ i → Follows (covering_all xs (patterns_at es ps)) (cover_from i) m → AreMet (covering_all xs (patterns_at es ps)) m m
  cover_whole i l f =
      follow_end (covering_all xs (patterns_at es ps)) m (subst (λ (zs : List Pattern). Follows (covering_all xs (patterns_at es ps)) (covering_all xs (patterns_at es zs)) m) (drop_all i ps l) f)
