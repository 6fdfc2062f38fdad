-- The equation of a name of an AC symbol with its two arguments.
use Rattle.std.specs.Prelude.{ℕ, ◌<◌, ◌≡◌, List, [], ◌∷◌, length, slice_get, slice_index_or, Some}
use Rattle.std.specs.List.{AllByRecursion}
use Rattle.std.proofs.Common.{sym, ap, ◌∙◌, subst, arith}
use Rattle.std.proofs.lemmas.Option.{same_Some, slice_get_within}
use Rattle.ae_core.specs.declared.problems.AcSymbol.{AcSymbol}
use Rattle.ae_core.specs.declared.problems.Signature.{Signature}
use Rattle.ae_core.specs.declared.terms.Head.{Head}
use Rattle.ae_core.specs.declared.terms.Sort.{Sort}
use Rattle.ae_core.specs.declared.terms.Term.{Term, Apply}
use Rattle.ae_descents.specs.Descents.Descends.{itself}
use Rattle.ae_equation_turns.specs.Said.{IsWaitingSaid}
use Rattle.ae_equations.specs.declared.queue.Waiting.{Waiting}
use Rattle.ae_journal.specs.declared.lines.Line.{Line}
use Rattle.ae_just.specs.declared.steps.Step.{Step}
use Rattle.ae_multiset.proofs.Counts.{same}
use Rattle.ae_multiset_steps.specs.Equating.{AreNamesOf}
use Rattle.ae_rule_lines.specs.InStep.{HasSource}
use Rattle.ae_rule_lines.specs.Lineage.IsSourceOf.{of_name}
use Rattle.ae_settled.specs.Swept.{IsJoinOf}
use Rattle.ae_settled.proofs.Nodes.{named_at}
use Rattle.ae_state_steps.specs.ManySteps.{StatesMany}
use Rattle.ae_store.specs.Shapes.{shapes}
use Rattle.ae_store.specs.Stores.{IsStore}
use Rattle.ae_store.specs.Terms.{terms, named}
use Rattle.ae_store.specs.declared.nodes.Node.{Node}
use Rattle.ae_store.specs.declared.nodes.NodeHead.{NodeHead}
use Rattle.ae_store.specs.declared.nodes.NodeHead.TheVariants.{Of}
use Rattle.ae_strips.proofs.FieldTerms.{args_below}
use Rattle.ae_state.specs.Stepping.{equation}
use Rattle.ae_gaps.specs.Inner.Openings.{IsJoined}
use Rattle.ae_gaps.proofs.JoinedSorts.{join_there, join_named, join_names}

same_head : (h k : Head) → ◌≡◌ {A = NodeHead} (Of h) (Of k) → h ≡ k
same_head h k e = cc e

module _ (sig : Signature) (nodes : List Node) (n : ℕ) (o : IsJoined sig nodes n) where
  -- what applies a symbol to two names does so to these
  pub joined_node : (p : Node) → slice_get nodes n ≡ Some p → IsJoinOf sig nodes p o.symbol o.left o.right
  joined_node p at = subst (λ (q : Node). IsJoinOf sig nodes q o.symbol o.left o.right) (same_Some o.node p (sym o.at ∙ at)) o.joins

  pub joined_symbol : (p : Node) (u : AcSymbol) (i j : ℕ) → slice_get nodes n ≡ Some p → IsJoinOf sig nodes p u i j → o.symbol ≡ u
  joined_symbol p u i j at k =
      let q = joined_node p at in
      let h : (o.symbol).head ≡ u.head = same_head (o.symbol).head u.head (sym q.head ∙ k.head) in
      let s : (o.symbol).sorts ≡ u.sorts = sym q.sorts ∙ k.sorts in
      λ z. record { head = h z; sorts = s z }

  pub joined_args : (p : Node) (u : AcSymbol) (i j : ℕ) → slice_get nodes n ≡ Some p → IsJoinOf sig nodes p u i j → ◌≡◌ {A = List ℕ} (o.left ∷ o.right ∷ []) (i ∷ j ∷ [])
  joined_args p u i j at k = sym (joined_node p at).args ∙ k.args

  -- the arguments, read from a list
  pub read_left : (p : Node) (xs : List ℕ) → slice_get nodes n ≡ Some p → xs ≡ p.args → slice_index_or xs 0 0 ≡ o.left
  read_left p xs at e = ap (λ (l : List ℕ). slice_index_or l 0 0) (e ∙ (joined_node p at).args)

  pub read_right : (p : Node) (xs : List ℕ) → slice_get nodes n ≡ Some p → xs ≡ p.args → slice_index_or xs 1 0 ≡ o.right
  read_right p xs at e = ap (λ (l : List ℕ). slice_index_or l 1 0) (e ∙ (joined_node p at).args)

  pub read_two : (p : Node) (xs : List ℕ) → slice_get nodes n ≡ Some p → xs ≡ p.args → length xs ≡ 2
  read_two p xs at e = ap length (e ∙ (joined_node p at).args)

  -- the symbol, read from the node
  pub read_symbol : (p : Node) (h : Head) (ss : List Sort) → slice_get nodes n ≡ Some p → p.head ≡ Of h → ss ≡ p.sorts → ◌≡◌ {A = AcSymbol} (record { head = h; sorts = ss }) o.symbol
  read_symbol p h ss at is e =
      let q = joined_node p at in
      let g : h ≡ (o.symbol).head = same_head h (o.symbol).head (sym is ∙ q.head) in
      let s : ss ≡ (o.symbol).sorts = e ∙ q.sorts in
      λ z. record { head = g z; sorts = s z }

  module _ (store : IsStore sig nodes) where
    abbrev ts : List Term
    ts = terms (shapes nodes)

    pub joined_names : AreNamesOf sig ts o.symbol (o.left ∷ o.right ∷ n ∷ [])
    joined_names = join_names sig nodes store n o.node o.symbol o.left o.right o.at o.joins

    pub joined_name : AreNamesOf sig ts o.symbol (n ∷ [])
    joined_name = let a = joined_names in record { sort = a.sort; symbol = a.symbol; of_names = a.of_names; sorted = a.sorted.1.1 }

    pub joined_term : named ts n ≡ Apply (o.symbol).head (o.symbol).sorts (named ts o.left ∷ named ts o.right ∷ [])
    joined_term = join_named sig nodes store n o.node o.symbol o.left o.right o.at o.joins

    pub joined_waits : (new : List Step) (w : Waiting) → w.symbol ≡ o.symbol → w.left ≡ o.left ∷ o.right ∷ [] → w.right ≡ n ∷ [] → StatesMany new w.step o.symbol (o.left ∷ o.right ∷ []) (n ∷ []) → IsWaitingSaid sig ts new w
    joined_waits new w s l r states =
        let it : Waiting = record { symbol = o.symbol; left = o.left ∷ o.right ∷ []; right = n ∷ []; step = w.step } in
        let is : it ≡ w = λ i. record { symbol = sym s i; left = sym l i; right = sym r i; step = w.step } in
        subst (IsWaitingSaid sig ts new) is (record { names = joined_names; left_some = omega arith; right_some = omega arith; states = states })

    -- its source is the name
    pub joined_source : (js : List Line) (w : Waiting) → w.symbol ≡ o.symbol → w.left ≡ o.left ∷ o.right ∷ [] → w.right ≡ n ∷ [] → HasSource sig ts js (equation w)
    joined_source js w s l r =
        let u = o.symbol in
        let i = o.left in
        let j = o.right in
        let below = args_below sig nodes store n o.node o.at in
        let args : AllByRecursion (λ a. a < n) (i ∷ j ∷ []) = subst (AllByRecursion (λ a. a < n)) (o.joins).args below in
        let long : n < length ts = slice_get_within ts n (Apply u.head u.sorts (named ts i ∷ named ts j ∷ [])) (join_there sig nodes store n o.node u i j o.at o.joins) in
        let it : HasSource sig ts js (record { symbol = u; left = i ∷ j ∷ []; right = n ∷ [] }) =
        record {
          one = i ∷ j ∷ [];
          other = n ∷ [];
          source = of_name n i j (named ts i) (named ts j) (join_there sig nodes store n o.node u i j o.at o.joins) (o.joins).joins (named_at ts i (omega (arith, long, args.0))) (named_at ts j (omega (arith, long, args.1.0)));
          left = itself (same (i ∷ j ∷ []));
          right = itself (same (n ∷ []));
        } in
        subst (HasSource sig ts js) (λ k. record { symbol = sym s k; left = sym l k; right = sym r k }) it
