-- What the index has for an argument.
use Rattle.std.specs.Prelude.{ℕ, zero, suc, ℤ, ◌-◌, ◌≡◌, ◌≤◌, ◌<◌, ◌↔◌, Bool, true, cond, nat_eq, List, [], ◌∷◌, length, reverse, slice_get, slice_index_or, Option, Some, None}
use Rattle.std.specs.List.{flat_map, Contains}
use Rattle.std.proofs.Common.{sym, ap, ◌∙◌, subst, arith, inl, inr}
use Rattle.std.proofs.lemmas.Bool.{eqb-true}
use Rattle.std.proofs.lemmas.List.{get_or-reverse, length-reverse}
use Rattle.std.proofs.lemmas.Option.{slice_get_within, slice_get-get_or, slice_get_past}
use Rattle.ae_base.proofs.AllOf.{all_at}
use Rattle.ae_base.proofs.ListFacts.{get_map}
use Rattle.ae_core.specs.declared.terms.Sort.{Sort}
use Rattle.ae_core.specs.declared.terms.Head.{Head}
use Rattle.ae_core.specs.declared.terms.Term.{Term, Bound, Num, Fresh, Apply}
use Rattle.ae_core.specs.declared.terms.Term.TheVariants.{outs-Apply, outs-Num, outs-Fresh, outs-Bound}
use Rattle.ae_core.specs.declared.problems.Signature.{Signature}
use Rattle.ae_store.specs.declared.nodes.Node.{Node}
use Rattle.ae_store.specs.declared.nodes.NodeHead.TheVariants as node
use Rattle.ae_store.specs.Shapes.{shape_of}
use Rattle.ae_store.specs.Stores.{IsStore}
use Rattle.ae_matching.specs.Laws.{In}
use Rattle.ae_matching.proofs.Complete.{any_in, in_left, in_right, in_flat}
use Rattle.ae_known.specs.declared.known.Known.{Known}
use Rattle.ae_known.specs.Index.{is_listed, with_argument, HasHeads}
use Rattle.ae_finding.specs.declared.sites.Site.{Site}
use Rattle.ae_finding.specs.Sites.{value_layer, value_of, other_place, at_argument, HasNames}

-- ---- the name of a variable
pub value_bound : (value : ℕ → Option ℕ) (i : ℕ) → value_of value (Bound i) ≡ value i
value_bound value i = ap (value_layer value) (outs-Bound i)

pub value_num : (value : ℕ → Option ℕ) (a b : ℤ) (r : Bool) → value_of value (Num a b r) ≡ None
value_num value a b r = ap (value_layer value) (outs-Num a b r)

pub value_fresh : (value : ℕ → Option ℕ) (k : ℕ) (s : Sort) → value_of value (Fresh k s) ≡ None
value_fresh value k s = ap (value_layer value) (outs-Fresh k s)

pub value_apply : (value : ℕ → Option ℕ) (h : Head) (ss : List Sort) (us : List Term) → value_of value (Apply h ss us) ≡ None
value_apply value h ss us = ap (value_layer value) (outs-Apply h ss us)

pub ruleset value_rules = (value_bound, value_num, value_fresh, value_apply)

pub none_back : (xs : List ℕ) (m : ℕ) → length xs ≤ m → slice_get (reverse xs) m ≡ None
none_back xs m h = slice_get_past (reverse xs) m (omega (arith, h, length-reverse xs))

pub ruleset back_rules = (none_back)

pub value_back : (xs : List ℕ) (i : ℕ) → i < length xs → Some (slice_index_or xs (length xs - 1 - i) 0) ≡ slice_get (reverse xs) i
value_back xs i l = sym (slice_get-get_or (reverse xs) i 0 (omega (arith, l, length-reverse xs)) ∙ ap Some (get_or-reverse xs i 0 l))

-- ---- what is among a list
contains_in : (xs : List ℕ) (x k : ℕ) → k < length xs → slice_index_or xs k x ≡ x → In xs x
contains_in [] x k l e = absurd (omega (arith, l))
contains_in (y ∷ xs) x zero l e = inl e
contains_in (y ∷ xs) x (suc k) l e = inr (contains_in xs x k (omega (arith, l)) e)

listed_in : (n : ℕ) (ns : List ℕ) → is_listed n ns ≡ true → In ns n
listed_in n ns e =
    let r = any_in (nat_eq n) ns e in
    subst (In ns) (sym (eqb-true n r.0 r.2)) r.1

-- ---- a store's names by an argument of a class
module _ (sig : Signature) (ns : List Node) (s : IsStore sig ns) (alike : ℕ → ℕ → Bool) (k : Known) (has : HasHeads ns k) (h : Head) (either : Bool) (site : Site) (args : List ℕ)
    (all : (n : ℕ) → n < length ns → Contains args n ↔ alike site.name n ≡ true) where
  argument_within : (m : ℕ) (x : Node) (i a : ℕ) → slice_get ns m ≡ Some x → slice_get x.args i ≡ Some a → a < length ns
  argument_within m x i a at arg =
      let b : a < m = all_at (λ a. a < m) x.args i a (s.sound.places m (shape_of x) (get_map shape_of ns m x at)).args arg in
      omega (arith, b, slice_get_within ns m x at)

  asked : (m : ℕ) (x : Node) (i a : ℕ) → slice_get ns m ≡ Some x → slice_get x.args i ≡ Some a → alike site.name a ≡ true → In args a
  asked m x i a at arg e =
      let c = (all a (argument_within m x i a at arg)).1 e in
      contains_in args a c.0 c.1 c.2

  under : (m : ℕ) (x : Node) (i a : ℕ) → slice_get ns m ≡ Some x → x.head ≡ node.Of h → slice_get x.args i ≡ Some a → In (with_argument k (node.Of h) i a) m
  under m x i a at is arg = listed_in m (with_argument k (node.Of h) i a) (subst (λ q. is_listed m (with_argument k q i a) ≡ true) is (has.arguments m x at i a arg))

  pub names_had : HasNames ns alike h either site (flat_map (at_argument k h either site.place) args)
  names_had = record {
    straight = λ m x a at is arg e.
        in_flat (at_argument k h either site.place) args a m (asked m x site.place a at arg e)
        (in_left (with_argument k (node.Of h) site.place a) (cond either (with_argument k (node.Of h) (other_place site.place) a) []) m (under m x site.place a at is arg));
    turned = λ t m x a at is arg e.
        in_flat (at_argument k h either site.place) args a m (asked m x (other_place site.place) a at arg e)
        (in_right (with_argument k (node.Of h) site.place a) (cond either (with_argument k (node.Of h) (other_place site.place) a) []) m
        (subst (λ b. In (cond b (with_argument k (node.Of h) (other_place site.place) a) []) m) (sym t) (under m x (other_place site.place) a at is arg)));
  }
