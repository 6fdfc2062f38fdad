-- The rules that put parts together, as functions follow them: each exit of the function is one of these lemmas.
use Rattle.std.proofs.Common.{ℕ, List, subst}
use Rattle.ae_core.specs.declared.terms.Sort.{Sort}
use Rattle.ae_syntax.specs.declared.exprs.Expr.{Expr}
use Rattle.ae_elab.specs.declared.faults.TypeFault.{TypeFault}
use Rattle.ae_elab.specs.declared.numbers.Numbers.TheVariants.{IntOrReal}
use Rattle.ae_elab.specs.declared.typings.Context.{Context}
use Rattle.ae_elab.specs.declared.typings.Typing.{Typing}
use Rattle.ae_elab.specs.Expressions.{part_of}
use Rattle.ae_elab.specs.Formulas.{equation_rule, inequality_rule, connective_rule, conditional_rule}
use Rattle.ae_elab.specs.AfterParts.{negation_rule}
use Rattle.ae_elab.specs.Nodes.{Entry, a_tree, a_claim, tree_at, claim_at, IsTree, IsClaim}
use Rattle.ae_elab.specs.Rules.{Rule, Typed, typed, give, ◌>>◌, as_term, as_formula, wanted}
use Rattle.ae_elab.specs.Scope.{Scope}
use Rattle.ae_elab.specs.Terms.{operands, choice_rule}
use Rattle.ae_elab.specs.Trees.{Tree, Claim, Relation, relation, negation, conditional, choice}
use Rattle.ae_elab.specs.Typings.{Walks, Stops, TypesTerm, TypesClaim, Puts, nodes_of}
use Rattle.ae_elab.proofs.NodeLaws.{tree_is, claim_is, later_tree, later_claim, begins_on}
use Rattle.ae_elab.proofs.TypingLaws.{walks_then, stops_first, stops_later, walks_push, stands_put}

abbrev es : Typing → List Entry
es t = nodes_of t

-- ---- two terms of one sort
module _ (c : Context) (r : Relation) (a b : Expr) (old : Typing) where
  abbrev after_left : Scope → Typed → Rule Claim
  after_left sc s = wanted sc s.sort (part_of b) >> λ t. give (relation r s.tree t)

  pub equation_first : (e : TypeFault) → Stops c (λ sc. as_term sc (part_of a)) old e → Stops c (λ sc. equation_rule r (part_of a) (part_of b) sc) old e
  equation_first e h = stops_first c (λ sc. as_term sc (part_of a)) after_left old e h

  module _ (mid : Typing) (x : Tree) (s : Sort) (one : Walks c (λ sc. as_term sc (part_of a)) old mid (typed x s)) where
    pub equation_second : (e : TypeFault) → Stops c (λ sc. wanted sc s (part_of b)) mid e → Stops c (λ sc. equation_rule r (part_of a) (part_of b) sc) old e
    equation_second e h =
        stops_later c (λ sc. as_term sc (part_of a)) after_left old mid (typed x s) e one
        (stops_first c (λ sc. wanted sc s (part_of b)) (λ sc t. give (relation r x t)) mid e h)

    pub equation_done : (end new : Typing) (y : Tree) (i j n : ℕ) → IsTree (es mid) i x → Walks c (λ sc. wanted sc s (part_of b)) mid end y → IsTree (es end) j y
        → Puts end new (a_claim (relation r (tree_at (es end) i) (tree_at (es end) j))) n → TypesClaim c (λ sc. equation_rule r (part_of a) (part_of b) sc) old new n
    equation_done end new y i j n ix two jy p =
        let left = tree_is (es end) i x (later_tree (es mid) (es end) two.kept i x ix) in
        let q = subst (λ z. Puts end new (a_claim (relation r z (tree_at (es end) j))) n) left p in
        let last : Puts end new (a_claim (relation r x y)) n = (subst (λ z. Puts end new (a_claim (relation r x z)) n) (tree_is (es end) j y jy) q) in
        record {
          claim = relation r x y;
          stands = stands_put end new (a_claim (relation r x y)) n last;
          walks = walks_then c (λ sc. as_term sc (part_of a)) after_left old mid new (typed x s) (relation r x y) one
              (walks_then c (λ sc. wanted sc s (part_of b)) (λ sc t. give (relation r x t)) mid end new y (relation r x y) two (walks_push c end new (a_claim (relation r x y)) n (relation r x y) last));
        }

-- ---- two numbers
module _ (c : Context) (r : Relation) (a b : Expr) (old : Typing) where
  abbrev after_operands : Scope → (Typed × Tree) → Rule Claim
  after_operands sc st = give (relation r st.0.tree st.1)

  pub inequality_first : (e : TypeFault) → Stops c (λ sc. operands sc IntOrReal (part_of a) (part_of b)) old e → Stops c (λ sc. inequality_rule r (part_of a) (part_of b) sc) old e
  inequality_first e h = stops_first c (λ sc. operands sc IntOrReal (part_of a) (part_of b)) after_operands old e h

  pub inequality_done : (end new : Typing) (x y : Tree) (s : Sort) (i j n : ℕ) → Walks c (λ sc. operands sc IntOrReal (part_of a) (part_of b)) old end (typed x s, y) → IsTree (es end) i x → IsTree (es end) j y
      → Puts end new (a_claim (relation r (tree_at (es end) i) (tree_at (es end) j))) n → TypesClaim c (λ sc. inequality_rule r (part_of a) (part_of b) sc) old new n
  inequality_done end new x y s i j n one ix jy p =
      let q = subst (λ z. Puts end new (a_claim (relation r z (tree_at (es end) j))) n) (tree_is (es end) i x ix) p in
      let last : Puts end new (a_claim (relation r x y)) n = (subst (λ z. Puts end new (a_claim (relation r x z)) n) (tree_is (es end) j y jy) q) in
      record {
        claim = relation r x y;
        stands = stands_put end new (a_claim (relation r x y)) n last;
        walks = walks_then c (λ sc. operands sc IntOrReal (part_of a) (part_of b)) after_operands old end new (typed x s, y) (relation r x y) one (walks_push c end new (a_claim (relation r x y)) n (relation r x y) last);
      }

-- ---- `not`
module _ (c : Context) (a : Expr) (old : Typing) where
  pub negation_first : (e : TypeFault) → Stops c (λ sc. as_formula sc (part_of a)) old e → Stops c (λ sc. negation_rule (part_of a) sc) old e
  negation_first e h = stops_first c (λ sc. as_formula sc (part_of a)) (λ sc f. give (negation f)) old e h

  pub negation_done : (mid new : Typing) (f : Claim) (i n : ℕ) → Walks c (λ sc. as_formula sc (part_of a)) old mid f → IsClaim (es mid) i f
      → Puts mid new (a_claim (negation (claim_at (es mid) i))) n → TypesClaim c (λ sc. negation_rule (part_of a) sc) old new n
  negation_done mid new f i n one h p =
      let last : Puts mid new (a_claim (negation f)) n = (subst (λ z. Puts mid new (a_claim (negation z)) n) (claim_is (es mid) i f h) p) in
      record { claim = negation f; stands = stands_put mid new (a_claim (negation f)) n last; walks = walks_then c (λ sc. as_formula sc (part_of a)) (λ sc g. give (negation g)) old mid new f (negation f) one (walks_push c mid new (a_claim (negation f)) n (negation f) last) }

-- ---- two formulas
module _ (c : Context) (join : Claim → Claim → Claim) (a b : Expr) (old : Typing) where
  abbrev after_one : Scope → Claim → Rule Claim
  after_one sc f = as_formula sc (part_of b) >> λ g. give (join f g)

  pub joined_first : (e : TypeFault) → Stops c (λ sc. as_formula sc (part_of a)) old e → Stops c (λ sc. connective_rule join (part_of a) (part_of b) sc) old e
  joined_first e h = stops_first c (λ sc. as_formula sc (part_of a)) after_one old e h

  module _ (mid : Typing) (f : Claim) (one : Walks c (λ sc. as_formula sc (part_of a)) old mid f) where
    pub joined_second : (e : TypeFault) → Stops c (λ sc. as_formula sc (part_of b)) mid e → Stops c (λ sc. connective_rule join (part_of a) (part_of b) sc) old e
    joined_second e h =
        stops_later c (λ sc. as_formula sc (part_of a)) after_one old mid f e one (stops_first c (λ sc. as_formula sc (part_of b)) (λ sc g. give (join f g)) mid e h)

    pub joined_done : (end new : Typing) (g : Claim) (i j n : ℕ) → IsClaim (es mid) i f → Walks c (λ sc. as_formula sc (part_of b)) mid end g → IsClaim (es end) j g
        → Puts end new (a_claim (join (claim_at (es end) i) (claim_at (es end) j))) n → TypesClaim c (λ sc. connective_rule join (part_of a) (part_of b) sc) old new n
    joined_done end new g i j n hf two hg p =
        let left = claim_is (es end) i f (later_claim (es mid) (es end) two.kept i f hf) in
        let q = subst (λ z. Puts end new (a_claim (join z (claim_at (es end) j))) n) left p in
        let last : Puts end new (a_claim (join f g)) n = (subst (λ z. Puts end new (a_claim (join f z)) n) (claim_is (es end) j g hg) q) in
        record {
          claim = join f g;
          stands = stands_put end new (a_claim (join f g)) n last;
          walks = walks_then c (λ sc. as_formula sc (part_of a)) after_one old mid new f (join f g) one
              (walks_then c (λ sc. as_formula sc (part_of b)) (λ sc h. give (join f h)) mid end new g (join f g) two (walks_push c end new (a_claim (join f g)) n (join f g) last));
        }

-- ---- `if` between formulas
module _ (c : Context) (k a b : Expr) (old : Typing) where
  abbrev after_two : Claim → Scope → Claim → Rule Claim
  after_two f sc g = as_formula sc (part_of b) >> λ h. give (conditional f g h)

  abbrev after_test : Scope → Claim → Rule Claim
  after_test sc f = as_formula sc (part_of a) >> after_two f sc

  pub conditional_first : (e : TypeFault) → Stops c (λ sc. as_formula sc (part_of k)) old e → Stops c (λ sc. conditional_rule (part_of k) (part_of a) (part_of b) sc) old e
  conditional_first e h = stops_first c (λ sc. as_formula sc (part_of k)) after_test old e h

  module _ (mid : Typing) (f : Claim) (one : Walks c (λ sc. as_formula sc (part_of k)) old mid f) where
    pub conditional_second : (e : TypeFault) → Stops c (λ sc. as_formula sc (part_of a)) mid e → Stops c (λ sc. conditional_rule (part_of k) (part_of a) (part_of b) sc) old e
    conditional_second e h = stops_later c (λ sc. as_formula sc (part_of k)) after_test old mid f e one (stops_first c (λ sc. as_formula sc (part_of a)) (after_two f) mid e h)

    module _ (end : Typing) (g : Claim) (two : Walks c (λ sc. as_formula sc (part_of a)) mid end g) where
      pub conditional_third : (e : TypeFault) → Stops c (λ sc. as_formula sc (part_of b)) end e → Stops c (λ sc. conditional_rule (part_of k) (part_of a) (part_of b) sc) old e
      conditional_third e h =
          stops_later c (λ sc. as_formula sc (part_of k)) after_test old mid f e one
          (stops_later c (λ sc. as_formula sc (part_of a)) (after_two f) mid end g e two (stops_first c (λ sc. as_formula sc (part_of b)) (λ sc h. give (conditional f g h)) end e h))

      pub conditional_done : (last new : Typing) (h : Claim) (i j l n : ℕ) → IsClaim (es mid) i f → IsClaim (es end) j g → Walks c (λ sc. as_formula sc (part_of b)) end last h → IsClaim (es last) l h
          → Puts last new (a_claim (conditional (claim_at (es last) i) (claim_at (es last) j) (claim_at (es last) l))) n → TypesClaim c (λ sc. conditional_rule (part_of k) (part_of a) (part_of b) sc) old new n
      conditional_done last new h i j l n hf hg three hh p =
          let ff = claim_is (es last) i f (later_claim (es mid) (es last) (begins_on (es mid) (es end) (es last) two.kept three.kept) i f hf) in
          let gg = claim_is (es last) j g (later_claim (es end) (es last) three.kept j g hg) in
          let q = subst (λ z. Puts last new (a_claim (conditional z (claim_at (es last) j) (claim_at (es last) l))) n) ff p in
          let r = subst (λ z. Puts last new (a_claim (conditional f z (claim_at (es last) l))) n) gg q in
          let put : Puts last new (a_claim (conditional f g h)) n = (subst (λ z. Puts last new (a_claim (conditional f g z)) n) (claim_is (es last) l h hh) r) in
          record {
            claim = conditional f g h;
            stands = stands_put last new (a_claim (conditional f g h)) n put;
            walks = walks_then c (λ sc. as_formula sc (part_of k)) after_test old mid new f (conditional f g h) one
                (walks_then c (λ sc. as_formula sc (part_of a)) (after_two f) mid end new g (conditional f g h) two
                (walks_then c (λ sc. as_formula sc (part_of b)) (λ sc z. give (conditional f g z)) end last new h (conditional f g h) three (walks_push c last new (a_claim (conditional f g h)) n (conditional f g h) put)));
          }

-- ---- `if` between terms
module _ (c : Context) (k a b : Expr) (old : Typing) where
  abbrev after_first : Claim → Scope → Typed → Rule Typed
  after_first f sc s = wanted sc s.sort (part_of b) >> λ t. give (typed (choice f s.tree t) s.sort)

  abbrev after_condition : Scope → Claim → Rule Typed
  after_condition sc f = as_term sc (part_of a) >> after_first f sc

  pub choice_first : (e : TypeFault) → Stops c (λ sc. as_formula sc (part_of k)) old e → Stops c (λ sc. choice_rule (part_of k) (part_of a) (part_of b) sc) old e
  choice_first e h = stops_first c (λ sc. as_formula sc (part_of k)) after_condition old e h

  module _ (mid : Typing) (f : Claim) (one : Walks c (λ sc. as_formula sc (part_of k)) old mid f) where
    pub choice_second : (e : TypeFault) → Stops c (λ sc. as_term sc (part_of a)) mid e → Stops c (λ sc. choice_rule (part_of k) (part_of a) (part_of b) sc) old e
    choice_second e h = stops_later c (λ sc. as_formula sc (part_of k)) after_condition old mid f e one (stops_first c (λ sc. as_term sc (part_of a)) (after_first f) mid e h)

    module _ (end : Typing) (x : Tree) (s : Sort) (two : Walks c (λ sc. as_term sc (part_of a)) mid end (typed x s)) where
      pub choice_third : (e : TypeFault) → Stops c (λ sc. wanted sc s (part_of b)) end e → Stops c (λ sc. choice_rule (part_of k) (part_of a) (part_of b) sc) old e
      choice_third e h =
          stops_later c (λ sc. as_formula sc (part_of k)) after_condition old mid f e one
          (stops_later c (λ sc. as_term sc (part_of a)) (after_first f) mid end (typed x s) e two (stops_first c (λ sc. wanted sc s (part_of b)) (λ sc t. give (typed (choice f x t) s)) end e h))

      pub choice_done : (last new : Typing) (y : Tree) (i j l n : ℕ) → IsClaim (es mid) i f → IsTree (es end) j x → Walks c (λ sc. wanted sc s (part_of b)) end last y → IsTree (es last) l y
          → Puts last new (a_tree (choice (claim_at (es last) i) (tree_at (es last) j) (tree_at (es last) l))) n
          → TypesTerm c (λ sc. choice_rule (part_of k) (part_of a) (part_of b) sc) old new (record { tree = n; sort = s })
      choice_done last new y i j l n hf hx three hy p =
          let ff = claim_is (es last) i f (later_claim (es mid) (es last) (begins_on (es mid) (es end) (es last) two.kept three.kept) i f hf) in
          let xx = tree_is (es last) j x (later_tree (es end) (es last) three.kept j x hx) in
          let q = subst (λ z. Puts last new (a_tree (choice z (tree_at (es last) j) (tree_at (es last) l))) n) ff p in
          let r = subst (λ z. Puts last new (a_tree (choice f z (tree_at (es last) l))) n) xx q in
          let put : Puts last new (a_tree (choice f x y)) n = (subst (λ z. Puts last new (a_tree (choice f x z)) n) (tree_is (es last) l y hy) r) in
          record {
            tree = choice f x y;
            stands = stands_put last new (a_tree (choice f x y)) n put;
            walks = walks_then c (λ sc. as_formula sc (part_of k)) after_condition old mid new f (typed (choice f x y) s) one
                (walks_then c (λ sc. as_term sc (part_of a)) (after_first f) mid end new (typed x s) (typed (choice f x y) s) two
                (walks_then c (λ sc. wanted sc s (part_of b)) (λ sc t. give (typed (choice f x t) s)) end last new y (typed (choice f x y) s) three (walks_push c last new (a_tree (choice f x y)) n (typed (choice f x y) s) put)));
          }
