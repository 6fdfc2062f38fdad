-- One name of an AC symbol.
use Rattle.std.specs.Prelude.{ℕ, ◌<◌, Bool, true, false, not, ◌&&◌, MatchBool, List, [], ◌∷◌, ◌≡◌, length, get_or, slice_get, Option, Some}
use Rattle.std.specs.List.{AllByRecursion}
use Rattle.std.specs.List.Sorted.{IsNonDecreasing}
use Rattle.std.proofs.Common.{refl, sym, ap, ◌∙◌, subst, arith, rules}
use Rattle.std.proofs.lemmas.List.{length-map}
use Rattle.std.proofs.lemmas.Option.{same_Some, slice_get-get_or, slice_get_within}
use Rattle.ae_base.proofs.AllOf.{all_at, all_weaker}
use Rattle.ae_base.proofs.ListFacts.{get_map}
use Rattle.ae_core.specs.declared.terms.Sort.{Sort}
use Rattle.ae_core.specs.declared.terms.Head.{Head}
use Rattle.ae_core.specs.declared.terms.Head.TheVariants as head
use Rattle.ae_core.specs.declared.terms.Op.TheVariants as op
use Rattle.ae_core.specs.declared.terms.Term.{Term}
use Rattle.ae_core.specs.declared.problems.AcSymbol.{AcSymbol}
use Rattle.ae_core.specs.declared.problems.Signature.{Signature}
use Rattle.ae_rules.specs.Linear.{form, is_number}
use Rattle.ae_rules.specs.Lines.{IsAc}
use Rattle.ae_multiset.specs.Rewriting.{IsReduced, ReducesTo}
use Rattle.ae_multiset.proofs.Rising.{one_spelling}
use Rattle.ae_journal.specs.Systems.{IsJoin}
use Rattle.ae_journal.specs.declared.systems.RuleEntry.{RuleEntry}
use Rattle.ae_monoid.specs.declared.rules.Kept.{Kept}
use Rattle.ae_monoid.specs.Rules.{IsRuleOf}
use Rattle.ae_monoid.specs.Reductions.{ReducesBy}
use Rattle.ae_store.specs.declared.nodes.Node.{Node}
use Rattle.ae_store.specs.declared.nodes.NodeHead.{NodeHead}
use Rattle.ae_store.specs.declared.nodes.NodeHead.TheVariants.{Of}
use Rattle.ae_store.specs.Shapes.{shapes, shape_of}
use Rattle.ae_store.specs.Terms.{terms, named}
use Rattle.ae_store.specs.Stores.{IsStore}
use Rattle.ae_store.proofs.TermLaws.{length_terms}
use Rattle.ae_settled.specs.Held.{HasRule}
use Rattle.ae_settled.specs.Swept.{IsJoinOf}
use Rattle.ae_base.proofs.Tests.{true_false}
use Rattle.ae_sweeps.specs.Given.{entry_of}
use Rattle.ae_sweeps.specs.Gaps.{IsUnflat}
use Rattle.ae_sweeps.specs.Inner.Parts.{IsProduct, Joined, IsNameSwept}
use Rattle.ae_sweeps.proofs.Bridges.{ends}

pub two_of : (xs : List ℕ) → length xs ≡ 2 → xs ≡ get_or xs 0 0 ∷ get_or xs 1 0 ∷ []
two_of [] e = absurd (omega (arith, e))
two_of (a ∷ []) e = absurd (omega (arith, e))
two_of (a ∷ b ∷ []) e = refl
two_of (a ∷ b ∷ c ∷ xs) e = absurd (omega (arith, e))

pub same_head : (h k : Head) → ◌≡◌ {A = NodeHead} (Of h) (Of k) → h ≡ k
same_head h k e = cc e

-- the names of arguments
pub args_within : (sig : Signature) (nodes : List Node) → IsStore sig nodes → (name : ℕ) (p : Node) → slice_get nodes name ≡ Some p → AllByRecursion (λ a. a < length nodes) p.args
args_within sig nodes store name p at =
    let l : name < length nodes = slice_get_within nodes name p at in
    all_weaker (λ a. a < name) (λ a. a < length nodes) (λ a k. omega (arith, k, l)) p.args (store.sound.places name (shape_of p) (get_map shape_of nodes name p at)).args

pub arg_below : (sig : Signature) (nodes : List Node) → IsStore sig nodes → (name : ℕ) (p : Node) → slice_get nodes name ≡ Some p → (xs : List ℕ) → xs ≡ p.args → (constants : List Bool)
    → length constants ≡ length (terms (shapes nodes)) → (k : ℕ) → k < length xs → get_or xs k 0 < length constants
arg_below sig nodes store name p at xs e constants one k l =
    let all : AllByRecursion (λ a. a < length nodes) xs = subst (AllByRecursion (λ a. a < length nodes)) (sym e) (args_within sig nodes store name p at) in
    let below : get_or xs k 0 < length nodes = all_at (λ a. a < length nodes) xs k (get_or xs k 0) all (slice_get-get_or xs k 0 l) in
    let n : length (terms (shapes nodes)) ≡ length nodes = length_terms (shapes nodes) ∙ length-map nodes shape_of in
    omega (arith, below, one, n)

-- a name whose node applies a head to two names
module _ (sig : Signature) (nodes : List Node) (n : ℕ) (q : Node) (at : slice_get nodes n ≡ Some q) (h : Head) (head : q.head ≡ Of h) (xs : List ℕ) (args : xs ≡ q.args) (two : length xs ≡ 2) where
  abbrev first : Term
  first = named (terms (shapes nodes)) (get_or xs 0 0)

  abbrev second : Term
  second = named (terms (shapes nodes)) (get_or xs 1 0)

  pub is_joined : IsJoin sig h first second → Joined sig nodes n h (get_or xs 0 0) (get_or xs 1 0)
  is_joined j = record { node = q; at = at; head = head; args = sym args ∙ two_of xs two; joins = j }

  pub not_joined : (IsJoin sig h first second → ⊥) → (p : Node) (u : AcSymbol) (i j : ℕ) → slice_get nodes n ≡ Some p → IsJoinOf sig nodes p u i j → ⊥
  not_joined none p u i j e k =
      let z : q ≡ p = same_Some q p (sym at ∙ e) in
      let eh : u.head ≡ h = same_head u.head h (sym k.head ∙ ap (λ (r : Node). r.head) (sym z) ∙ head) in
      let ea : ◌≡◌ {A = List ℕ} (i ∷ j ∷ []) (get_or xs 0 0 ∷ get_or xs 1 0 ∷ []) = sym k.args ∙ ap (λ (r : Node). r.args) (sym z) ∙ sym args ∙ two_of xs two in
      let ei : i ≡ get_or xs 0 0 = cc ea in
      let ej : j ≡ get_or xs 1 0 = cc ea in
      let by_head : IsJoin sig h (named (terms (shapes nodes)) i) (named (terms (shapes nodes)) j) =
      subst (λ g. IsJoin sig g (named (terms (shapes nodes)) i) (named (terms (shapes nodes)) j)) eh k.joins in
      let by_first : IsJoin sig h first (named (terms (shapes nodes)) j) = subst (λ a. IsJoin sig h (named (terms (shapes nodes)) a) (named (terms (shapes nodes)) j)) ei by_head in
      none (subst (λ a. IsJoin sig h first (named (terms (shapes nodes)) a)) ej by_first)

-- ---- applications of AC symbols
pub not_ac : (sig : Signature) (h : Head) (a b : Term) → IsJoin sig h a b → IsAc sig h
not_ac sig (head.Symbol n) a b j = j
not_ac sig (head.Build n) a b j = absurd j
not_ac sig (head.Field n i) a b j = absurd j
not_ac sig (head.Int op.Add) a b j = absurd j
not_ac sig (head.Int op.Sub) a b j = absurd j
not_ac sig (head.Int op.Neg) a b j = absurd j
not_ac sig (head.Int op.Mul) a b j = tt
not_ac sig (head.Int op.Div) a b j = absurd j
not_ac sig (head.Int op.Mod) a b j = absurd j
not_ac sig (head.Real op.Add) a b j = absurd j
not_ac sig (head.Real op.Sub) a b j = absurd j
not_ac sig (head.Real op.Neg) a b j = absurd j
not_ac sig (head.Real op.Mul) a b j = tt
not_ac sig (head.Real op.Div) a b j = absurd j
not_ac sig (head.Real op.Mod) a b j = absurd j
not_ac sig head.True a b j = absurd j
not_ac sig head.False a b j = absurd j
not_ac sig head.Void a b j = absurd j

pub symbol_joins : (sig : Signature) (h : Head) (a b : Term) → IsAc sig h → (IsProduct h → ⊥) → IsJoin sig h a b
symbol_joins sig (head.Symbol n) a b j p = j
symbol_joins sig (head.Build n) a b j p = absurd j
symbol_joins sig (head.Field n i) a b j p = absurd j
symbol_joins sig (head.Int op.Add) a b j p = absurd j
symbol_joins sig (head.Int op.Sub) a b j p = absurd j
symbol_joins sig (head.Int op.Neg) a b j p = absurd j
symbol_joins sig (head.Int op.Mul) a b j p = absurd (p tt)
symbol_joins sig (head.Int op.Div) a b j p = absurd j
symbol_joins sig (head.Int op.Mod) a b j p = absurd j
symbol_joins sig (head.Real op.Add) a b j p = absurd j
symbol_joins sig (head.Real op.Sub) a b j p = absurd j
symbol_joins sig (head.Real op.Neg) a b j p = absurd j
symbol_joins sig (head.Real op.Mul) a b j p = absurd (p tt)
symbol_joins sig (head.Real op.Div) a b j p = absurd j
symbol_joins sig (head.Real op.Mod) a b j p = absurd j
symbol_joins sig head.True a b j p = absurd j
symbol_joins sig head.False a b j p = absurd j
symbol_joins sig head.Void a b j p = absurd j

abbrev Neither : Term → Term → Type 0
Neither a b = (is_number (form a) ≡ false) × (is_number (form b) ≡ false)

product_joins : (sig : Signature) (h : Head) (a b : Term) → IsProduct h → (Neither a b → IsJoin sig h a b) × (IsJoin sig h a b → Neither a b)
product_joins sig (head.Symbol n) a b p = absurd p
product_joins sig (head.Build n) a b p = absurd p
product_joins sig (head.Field n i) a b p = absurd p
product_joins sig (head.Int op.Add) a b p = absurd p
product_joins sig (head.Int op.Sub) a b p = absurd p
product_joins sig (head.Int op.Neg) a b p = absurd p
product_joins sig (head.Int op.Mul) a b p = ((λ n. n), (λ n. n))
product_joins sig (head.Int op.Div) a b p = absurd p
product_joins sig (head.Int op.Mod) a b p = absurd p
product_joins sig (head.Real op.Add) a b p = absurd p
product_joins sig (head.Real op.Sub) a b p = absurd p
product_joins sig (head.Real op.Neg) a b p = absurd p
product_joins sig (head.Real op.Mul) a b p = ((λ n. n), (λ n. n))
product_joins sig (head.Real op.Div) a b p = absurd p
product_joins sig (head.Real op.Mod) a b p = absurd p
product_joins sig head.True a b p = absurd p
product_joins sig head.False a b p = absurd p
product_joins sig head.Void a b p = absurd p

pub product_tested : (sig : Signature) (h : Head) (a b : Term) (l r : Bool) → IsProduct h → l ≡ is_number (form a) → r ≡ is_number (form b) → MatchBool (not l && not r) (IsJoin sig h a b) (IsJoin sig h a b → ⊥)
product_tested sig h a b true r p e f = λ j. let n = (product_joins sig h a b p).1 j in true_false (e ∙ n.0)
product_tested sig h a b false true p e f = λ j. let n = (product_joins sig h a b p).1 j in true_false (f ∙ n.1)
product_tested sig h a b false false p e f = (product_joins sig h a b p).0 (sym e, sym f)

module _ (sig : Signature) (nodes : List Node) (rep : ℕ → ℕ) (kept : ℕ → Option Kept) (n : ℕ) where
  abbrev entries : ℕ → Option RuleEntry
  entries k = entry_of (kept k)

  pub no_join : ((p : Node) (u : AcSymbol) (i j : ℕ) → slice_get nodes n ≡ Some p → IsJoinOf sig nodes p u i j → ⊥) → IsNameSwept sig nodes rep entries n
  no_join h = record { flat = λ p u i j e k. absurd (h p u i j e k) }

  module _ (h : Head) (l r : ℕ) (ss : List Sort) (joined : Joined sig nodes n h l r) (sorts : ss ≡ joined.node.sorts) (a js : List ℕ) (follows : ReducesBy kept (record { head = h; sorts = ss }) (rep l ∷ rep r ∷ []) js a)
      (reduced : IsReduced (IsRuleOf kept (record { head = h; sorts = ss })) a) (rises : IsNonDecreasing a) where
    abbrev symbol : AcSymbol
    symbol = record { head = h; sorts = ss }

    pub unflat : (a ≡ rep n ∷ [] → ⊥) → IsUnflat sig nodes rep entries n a
    unflat d = record {
      node = joined.node;
      at = joined.at;
      symbol = symbol;
      left = l;
      right = r;
      joins = record { head = joined.head; sorts = sym sorts; args = joined.args; joins = joined.joins };
      ends = ends kept symbol follows reduced;
      differ = λ e. d (let one : IsNonDecreasing (rep n ∷ []) = search rules in one_spelling a (rep n ∷ []) rises one e);
    }

    pub flat : a ≡ rep n ∷ [] → IsNameSwept sig nodes rep entries n
    flat e = record { flat = by_node }
      where
        by_symbol : (u : AcSymbol) (i j : ℕ) → u ≡ symbol → i ≡ l → j ≡ r → ReducesTo (HasRule entries u) (rep i ∷ rep j ∷ []) (rep n ∷ [])
        by_symbol u i j eu ei ej =
            let f : ReducesTo (HasRule entries symbol) (rep l ∷ rep r ∷ []) (rep n ∷ []) = subst (ReducesTo (HasRule entries symbol) (rep l ∷ rep r ∷ [])) e (ends kept symbol follows reduced).follows in
            rw (eu, ei, ej) f

        by_node : (p : Node) (u : AcSymbol) (i j : ℕ) → slice_get nodes n ≡ Some p → IsJoinOf sig nodes p u i j → ReducesTo (HasRule entries u) (rep i ∷ rep j ∷ []) (rep n ∷ [])
        by_node p u i j at k =
            let z : p ≡ joined.node = same_Some p joined.node (sym at ∙ joined.at) in
            let eh : u.head ≡ h = same_head u.head h (sym k.head ∙ ap (λ (q : Node). q.head) z ∙ joined.head) in
            let es : u.sorts ≡ ss = sym k.sorts ∙ ap (λ (q : Node). q.sorts) z ∙ sym sorts in
            let ea : ◌≡◌ {A = List ℕ} (i ∷ j ∷ []) (l ∷ r ∷ []) = sym k.args ∙ ap (λ (q : Node). q.args) z ∙ joined.args in
            let ei : i ≡ l = cc ea in
            let ej : j ≡ r = cc ea in
            by_symbol u i j (λ x. record { head = eh x; sorts = es x }) ei ej
