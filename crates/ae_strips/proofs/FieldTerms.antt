-- Fields and written records: their nodes and their terms, and the order of their names.
use Rattle.std.specs.Prelude.{ℕ, suc, ◌+◌, ◌<◌, ◌≤◌, List, [], ◌∷◌, ◌≡◌, map, length, slice_get, Some}
use Rattle.std.specs.List.{AllByRecursion}
use Rattle.std.proofs.Common.{refl, sym, ap, ◌∙◌, subst, arith, slice_index_or}
use Rattle.std.proofs.lemmas.List.{length-map}
use Rattle.std.proofs.lemmas.Option.{same_Some, slice_get_within}
use native.Mathlib.Decide.{ℕ_discrete}
use Rattle.ae_base.proofs.AllOf.{all_at}
use Rattle.ae_base.proofs.ListFacts.{value_at, get_map}
use Rattle.ae_core.specs.declared.terms.Sort.{Sort}
use Rattle.ae_core.specs.declared.terms.Term.{Term, Term-F, Apply, out-Term}
use Rattle.ae_core.specs.declared.terms.Term.TheOpen as layer
use Rattle.ae_core.specs.declared.terms.Term.TheVariants.{outs-Apply}
use Rattle.ae_core.specs.declared.terms.Head.{Head}
use Rattle.ae_core.specs.declared.terms.Head.TheVariants as head
use Rattle.ae_core.specs.declared.problems.Signature.{Signature}
use Rattle.ae_store.specs.declared.nodes.Node.{Node}
use Rattle.ae_store.specs.declared.nodes.NodeHead.TheVariants.{Of}
use Rattle.ae_store.specs.Shapes.{shapes, shape_of}
use Rattle.ae_store.specs.Terms.{terms, named, IsPlaced}
use Rattle.ae_store.specs.Stores.{IsStore}
use Rattle.ae_store.proofs.StoreLaws.{applied_term_at}
use Rattle.ae_store.proofs.TermLaws.{length_terms}
use Rattle.ae_settled.proofs.Nodes.{application, named_at}
use Rattle.ae_strips.specs.Applied.{Applies, IsAppliedTo}
use Rattle.ae_strips.specs.Stripping.{IsFieldOf, IsNoField, IsWrittenWith, StripsTo, itself, of_written, of_other}
use Rattle.ae_strips.specs.declared.fields.FieldAt.{FieldAt}
use Rattle.ae_strips.specs.Inner.FieldNodes.{IsFieldNode, HasArgument}

map_one : {A B : Type 0} (f : A → B) (xs : List A) (y : B) → map f xs ≡ y ∷ [] → (x : A) × (xs ≡ x ∷ [])
map_one f [] y e = absurd (cc e)
map_one f (x ∷ []) y e = (x, refl)
map_one f (x ∷ z ∷ xs) y e = absurd (cc e)

-- what a list has in a place comes from that place of the list that was mapped
get_mapped : {A B : Type 0} (f : A → B) (xs : List A) (k : ℕ) (y : B) → slice_get (map f xs) k ≡ Some y → (x : A) × (slice_get xs k ≡ Some x) × (f x ≡ y)
get_mapped f xs k y e =
    let l : k < length (map f xs) = slice_get_within (map f xs) k y e in
    let n : length (map f xs) ≡ length xs = length-map xs f in
    let x = value_at xs k (omega (arith, l, n)) in
    (x.0, x.1, same_Some (f x.0) y (sym (get_map f xs k x.0 x.1) ∙ e))

pub build_no_field : (k : ℕ) (ss : List Sort) (us : List Term) → IsNoField (Apply (head.Build k) ss us)
build_no_field k ss us j place rs r e =
    let z : ◌≡◌ {A = Term-F Term} (layer.Apply (head.Build k) ss us) (layer.Apply (head.Field j place) rs (r ∷ [])) =
    sym (outs-Apply (head.Build k) ss us) ∙ ap out-Term e ∙ outs-Apply (head.Field j place) rs (r ∷ []) in
    absurd (cc z)

pub only_one : (xs : List ℕ) → length xs ≡ 1 → xs ≡ slice_index_or xs 0 0 ∷ []
only_one [] e = absurd (let z : 0 ≡ 1 = e in omega (arith, z))
only_one (x ∷ []) e = refl
only_one (x ∷ y ∷ zs) e = absurd (let z : suc (suc (length zs)) ≡ 1 = e in omega (arith, z))

module _ (sig : Signature) (nodes : List Node) (store : IsStore sig nodes) where
  abbrev ts : List Term
  ts = terms (shapes nodes)

  placed : IsPlaced (shapes nodes)
  placed = record { args = λ i x e. (store.sound.places i x e).args }

  pub length_is : length ts ≡ length nodes
  length_is = length_terms (shapes nodes) ∙ length-map nodes shape_of

  pub name_there : (a : ℕ) → a < length nodes → slice_get ts a ≡ Some (named ts a)
  name_there a l = let e : length ts ≡ length nodes = length_is in named_at ts a (omega (arith, l, e))

  pub term_there : (n : ℕ) (p : Node) (h : Head) → slice_get nodes n ≡ Some p → p.head ≡ Of h → slice_get ts n ≡ Some (Apply h p.sorts (map (named ts) p.args))
  term_there n p h at e = applied_term_at nodes placed n p at h p.sorts (map (named ts) p.args) e refl refl

  pub args_below : (n : ℕ) (p : Node) → slice_get nodes n ≡ Some p → AllByRecursion (λ a. a < n) p.args
  args_below n p at = (store.sound.places n (shape_of p) (get_map shape_of nodes n p at)).args

  -- the name of what stands among the arguments of a name is below it
  pub argument_below : (n : ℕ) (h : Head) (ss : List Sort) (us : List Term) (i : ℕ) (u : Term) (a : ℕ) → slice_get ts n ≡ Some (Apply h ss us) → slice_get us i ≡ Some u → slice_get ts a ≡ Some u → a < n
  argument_below n h ss us i u a e at f =
      let p = application sig nodes store n h ss us e in
      let x = get_mapped (named ts) p.node.args i u (ap (λ (l : List Term). slice_get l i) p.shape.args ∙ at) in
      let l : x.0 < n = all_at (λ b. b < n) p.node.args i x.0 (args_below n p.node p.at) x.1 in
      let w : n < length nodes = slice_get_within nodes n p.node p.at in
      let s : a ≡ x.0 = store.sound.one_name a x.0 u f (name_there x.0 (omega (arith, l, w)) ∙ ap Some x.2) in
      subst (λ b. b < n) (sym s) l

  pub field_below : (n k place : ℕ) (ss : List Sort) (a : ℕ) → IsFieldOf ts n k place ss a → a < n
  field_below n k place ss a f = argument_below n (head.Field k place) ss (f.owner ∷ []) 0 f.owner a f.is refl f.owner_is

  pub written_below : (b k place : ℕ) (ss : List Sort) (u : ℕ) → IsWrittenWith ts b k place ss u → u < b
  written_below b k place ss u w = argument_below b (head.Build k) ss w.arguments place w.argument u w.is w.at w.argument_is

  -- ---- by their nodes
  -- an application is above the name that it is applied to
  pub applied_above : (m : ℕ) (h : Head) (ss : List Sort) (b : ℕ) → IsAppliedTo nodes m h ss b → b < m
  applied_above m h ss b i = (subst (AllByRecursion (λ a. a < m)) i.applies.args (args_below m i.node i.there)).0

  pub applied_is : (m k place : ℕ) (ss : List Sort) (b : ℕ) → IsAppliedTo nodes m (head.Field k place) ss b → IsFieldOf ts m k place ss b
  applied_is m k place ss b i =
      let l : b < m = applied_above m (head.Field k place) ss b i in
      let w : m < length nodes = slice_get_within nodes m i.node i.there in
      record {
        owner = named ts b;
        is = term_there m i.node (head.Field k place) i.there i.applies.head ∙ (λ j. Some (Apply (head.Field k place) (i.applies.sorts j) (map (named ts) (i.applies.args j))));
        owner_is = name_there b (omega (arith, l, w));
      }

  pub field_applied : (n : ℕ) (f : FieldAt) (i : IsFieldNode nodes n f) → IsAppliedTo nodes n (head.Field f.of f.place) (i.node).sorts f.owner
  field_applied n f i = record { node = i.node; there = i.there; applies = record { head = i.head; args = i.args; sorts = refl } }

  pub owner_below : (n : ℕ) (f : FieldAt) → IsFieldNode nodes n f → f.owner < n
  owner_below n f i = applied_above n (head.Field f.of f.place) (i.node).sorts f.owner (field_applied n f i)

  pub field_is : (n : ℕ) (f : FieldAt) (i : IsFieldNode nodes n f) → IsFieldOf ts n f.of f.place (i.node).sorts f.owner
  field_is n f i = applied_is n f.of f.place (i.node).sorts f.owner (field_applied n f i)

  pub no_field : (n : ℕ) (t : Term) → slice_get ts n ≡ Some t → ((k place a : ℕ) → IsFieldNode nodes n (record { of = k; place = place; owner = a }) → ⊥) → IsNoField t
  no_field n t e none k place ss r s =
      let p = application sig nodes store n (head.Field k place) ss (r ∷ []) (e ∙ ap Some s) in
      let one = map_one (named ts) p.node.args r p.shape.args in
      none k place one.0 (record { node = p.node; there = p.at; head = p.shape.heads; args = one.1 })

  pub written_is : (b k place : ℕ) (ss : List Sort) (u : ℕ) → HasArgument nodes b k place ss u → IsWrittenWith ts b k place ss u
  written_is b k place ss u h =
      let l : u < b = all_at (λ a. a < b) h.node.args place u (args_below b h.node h.there) h.at in
      let w : b < length nodes = slice_get_within nodes b h.node h.there in
      record {
        arguments = map (named ts) h.node.args;
        is = term_there b h.node (head.Build k) h.there h.written.head ∙ ap (λ (ss : List Sort). Some (Apply (head.Build k) ss (map (named ts) h.node.args))) h.written.sorts;
        argument = named ts u;
        at = get_map (named ts) h.node.args place u h.at;
        argument_is = name_there u (omega (arith, l, w));
      }

  pub not_written : (b k place : ℕ) (ss : List Sort) → ((u : ℕ) → HasArgument nodes b k place ss u → ⊥) → (u : ℕ) → IsWrittenWith ts b k place ss u → ⊥
  not_written b k place ss none u w =
      let p = application sig nodes store b (head.Build k) ss w.arguments w.is in
      let x = get_mapped (named ts) p.node.args place w.argument (ap (λ (l : List Term). slice_get l place) p.shape.args ∙ w.at) in
      none x.0 (record { node = p.node; there = p.at; written = record { head = p.shape.heads; sorts = p.shape.sorts }; at = x.1 })

  -- ---- what names come down to
  pub within : (n m : ℕ) → StripsTo ts n m → m < length ts
  within _ _ (itself n t e f) = slice_get_within ts n t e
  within _ _ (of_written n a b u m k place ss f s w r) = within u m r
  within _ _ (of_other n a b m k place ss f s w r) = slice_get_within ts m (Apply (head.Field k place) ss (r.owner ∷ [])) r.is

  -- what is no field isn't above the names that come down to it
  pub no_later : (n m : ℕ) → StripsTo ts n m → (t : Term) → slice_get ts m ≡ Some t → IsNoField t → m ≤ n
  no_later _ _ (itself n t e f) u g plain = omega arith
  no_later _ _ (of_written n a b u m k place ss f s w r) t e plain =
      let last : m ≤ u = no_later u m r t e plain in
      let inner : u < b = written_below b k place ss u w in
      let first : b ≤ a = no_later a b s (Apply (head.Build k) ss w.arguments) w.is (build_no_field k ss w.arguments) in
      let outer : a < n = field_below n k place ss a f in
      omega (arith, last, inner, first, outer)
  no_later _ _ (of_other n a b m k place ss f s w r) t e plain =
      absurd (plain k place ss r.owner (same_Some t (Apply (head.Field k place) ss (r.owner ∷ [])) (sym e ∙ r.is)))

-- no name below the next one is such an application where none below this one is, and this one isn't
pub not_later : (nodes : List Node) (k : ℕ) (p : Node) (h : Head) (ss : List Sort) (b : ℕ) → ((n : ℕ) → n < k → IsAppliedTo nodes n h ss b → ⊥) → slice_get nodes k ≡ Some p → (Applies p h ss b → ⊥)
    → (n : ℕ) → n < k + 1 → IsAppliedTo nodes n h ss b → ⊥
not_later nodes k p h ss b before at none n l i = by_name (ℕ_discrete n k)
  where
    by_name : Dec (n ≡ k) → ⊥
    by_name (yes e) = none (subst (λ (q : Node). Applies q h ss b) (same_Some i.node p (sym i.there ∙ ap (slice_get nodes) e ∙ at)) i.applies)
    by_name (no d) = before n (omega (arith, l, d)) i
