-- Fields that have names keep them, and new names get theirs.
use Rattle.std.specs.Prelude.{ℕ, ◌+◌, ◌<◌, List, [], ◌∷◌, ◌++◌, ◌≡◌, length, slice_get, Option, Some, None}
use Rattle.std.proofs.Common.{refl, sym, ap, ◌∙◌, subst, arith, inl, inr, length-append}
use Rattle.std.proofs.lemmas.Bool.{cases_lt}
use Rattle.std.proofs.lemmas.List.{length-map, map-append}
use Rattle.ae_base.specs.Options.{or_else, ◌>>=◌}
use Rattle.ae_core.specs.Putting.{put_sort}
use Rattle.ae_core.specs.Signatures.{fields_of}
use Rattle.ae_core.specs.declared.terms.Sort.{Sort, Sort-F, Var, Rigid, Int, Real, Bool as BoolSort, Unit as UnitSort, Named, out-Sort, roll-Sort, roll-out-Sort}
use Rattle.ae_core.specs.declared.terms.Sort.TheOpen as layer
use Rattle.ae_core.specs.declared.terms.Sort.TheVariants.{outs-Var, outs-Rigid, outs-Int, outs-Real, outs-Bool, outs-Unit, outs-Named, rolls-Named}
use Rattle.ae_core.specs.declared.terms.Head.{Head}
use Rattle.ae_core.specs.declared.terms.Head.TheVariants as head
use Rattle.ae_core.specs.declared.problems.Signature.{Signature}
use Rattle.ae_core.specs.declared.problems.TypeEntry.{TypeEntry}
use Rattle.ae_store.specs.declared.nodes.Node.{Node}
use Rattle.ae_store.specs.declared.nodes.Shape.{Shape}
use Rattle.ae_store.specs.Shapes.{shape_of, shapes}
use Rattle.ae_store.specs.Terms.{node_sort, applied}
use Rattle.ae_store.specs.Heights.{height, weights, FieldsFall}
use Rattle.ae_store.specs.Growing.{IsFront}
use Rattle.ae_store.specs.Fields.{count_of, field_count, head_of, field_head, args_of, sort_args, HasField, IsComplete, News, HasFields, OnlyNew}
use Rattle.ae_base.proofs.ListFacts.{get_append, value_at}

-- ---- at each form of sort
pub count_var : (sig : Signature) (i : ℕ) → field_count sig (Var i) ≡ 0
unfolding field_count
count_var sig i = ap (count_of sig) (outs-Var i)

pub count_rigid : (sig : Signature) (i : ℕ) → field_count sig (Rigid i) ≡ 0
unfolding field_count
count_rigid sig i = ap (count_of sig) (outs-Rigid i)

pub count_int : (sig : Signature) → field_count sig Int ≡ 0
unfolding field_count
count_int sig = ap (count_of sig) outs-Int

pub count_real : (sig : Signature) → field_count sig Real ≡ 0
unfolding field_count
count_real sig = ap (count_of sig) outs-Real

pub count_bool : (sig : Signature) → field_count sig BoolSort ≡ 0
unfolding field_count
count_bool sig = ap (count_of sig) outs-Bool

pub count_unit : (sig : Signature) → field_count sig UnitSort ≡ 0
unfolding field_count
count_unit sig = ap (count_of sig) outs-Unit

pub count_named : (sig : Signature) (h : ℕ) (ss : List Sort) → field_count sig (Named h ss) ≡ length (or_else (slice_get sig.types h >>= λ (e : TypeEntry). Some (fields_of e)) [])
unfolding field_count
count_named sig h ss = ap (count_of sig) (outs-Named h ss)

pub ruleset count_rules = (count_var, count_rigid, count_int, count_real, count_bool, count_unit, count_named)

pub head_named : (h : ℕ) (ss : List Sort) (k : ℕ) → field_head (Named h ss) k ≡ head.Field h k
unfolding field_head
head_named h ss k = ap (λ l. head_of l k) (outs-Named h ss)

pub args_named : (h : ℕ) (ss : List Sort) → sort_args (Named h ss) ≡ ss
unfolding sort_args
args_named h ss = ap args_of (outs-Named h ss)

pub head_var : (i : ℕ) (k : ℕ) → field_head (Var i) k ≡ head.Void
unfolding field_head
head_var i k = ap (λ l. head_of l k) (outs-Var i)

pub args_var : (i : ℕ) → sort_args (Var i) ≡ []
unfolding sort_args
args_var i = ap args_of (outs-Var i)

pub head_rigid : (i : ℕ) (k : ℕ) → field_head (Rigid i) k ≡ head.Void
unfolding field_head
head_rigid i k = ap (λ l. head_of l k) (outs-Rigid i)

pub args_rigid : (i : ℕ) → sort_args (Rigid i) ≡ []
unfolding sort_args
args_rigid i = ap args_of (outs-Rigid i)

pub head_int : (k : ℕ) → field_head (Int) k ≡ head.Void
unfolding field_head
head_int k = ap (λ l. head_of l k) outs-Int

pub args_int : sort_args Int ≡ []
unfolding sort_args
args_int = ap args_of outs-Int

pub head_real : (k : ℕ) → field_head (Real) k ≡ head.Void
unfolding field_head
head_real k = ap (λ l. head_of l k) outs-Real

pub args_real : sort_args Real ≡ []
unfolding sort_args
args_real = ap args_of outs-Real

pub head_bool : (k : ℕ) → field_head (BoolSort) k ≡ head.Void
unfolding field_head
head_bool k = ap (λ l. head_of l k) outs-Bool

pub args_bool : sort_args BoolSort ≡ []
unfolding sort_args
args_bool = ap args_of outs-Bool

pub head_unit : (k : ℕ) → field_head (UnitSort) k ≡ head.Void
unfolding field_head
head_unit k = ap (λ l. head_of l k) outs-Unit

pub args_unit : sort_args UnitSort ≡ []
unfolding sort_args
args_unit = ap args_of outs-Unit

pub ruleset head_rules = (head_var, head_rigid, head_int, head_real, head_bool, head_unit, head_named)

pub ruleset args_rules = (args_var, args_rigid, args_int, args_real, args_bool, args_unit, args_named)

pub named_back : (s : Sort) (h : ℕ) (ss : List Sort) → out-Sort s ≡ layer.Named h ss → Named h ss ≡ s
named_back s h ss p =
    let a : Named h ss ≡ roll-Sort (layer.Named h ss) = sym (rolls-Named h ss) in
    let b : roll-Sort (layer.Named h ss) ≡ roll-Sort (out-Sort s) = ap roll-Sort (sym p) in
    a ∙ b ∙ roll-out-Sort s

-- ---- the heights fall
module _ (sig : Signature) (fall : FieldsFall sig) where
  named_falls : (h : ℕ) (ss : List Sort) (k : ℕ) (o : Option TypeEntry) → slice_get sig.types h ≡ o → k < length (or_else (o >>= λ (e : TypeEntry). Some (fields_of e)) [])
      → height (weights sig) (node_sort sig (head.Field h k) ss) < height (weights sig) (Named h ss)
  named_falls h ss k None p l = absurd (omega (arith, l))
  named_falls h ss k (Some e) p l =
      let f = value_at (fields_of e) k l in
      let q : node_sort sig (head.Field h k) ss ≡ put_sort ss f.0.sort =
      (λ i. or_else (p i >>= λ (e : TypeEntry). slice_get (fields_of e) k >>= λ f. Some (put_sort ss f.sort)) BoolSort) ∙ (λ i. or_else (f.1 i >>= λ f. Some (put_sort ss f.sort)) BoolSort) in
      subst (λ s. height (weights sig) s < height (weights sig) (Named h ss)) (sym q) (fall.falls h ss e k f.0 p f.1)

  falls_by : (s : Sort) (k : ℕ) (l : Sort-F Sort) → out-Sort s ≡ l → k < count_of sig l → height (weights sig) (node_sort sig (head_of l k) (args_of l)) < height (weights sig) s
  falls_by s k (layer.Named h ss) p c =
      let q : Named h ss ≡ s = named_back s h ss p in
      subst (λ t. height (weights sig) (node_sort sig (head.Field h k) ss) < height (weights sig) t) q (named_falls h ss k (slice_get sig.types h) refl c)
  falls_by s k (layer.Var i) p c = absurd (omega (arith, c))
  falls_by s k (layer.Rigid i) p c = absurd (omega (arith, c))
  falls_by s k layer.Int p c = absurd (omega (arith, c))
  falls_by s k layer.Real p c = absurd (omega (arith, c))
  falls_by s k layer.Bool p c = absurd (omega (arith, c))
  falls_by s k layer.Unit p c = absurd (omega (arith, c))

  pub field_falls : (s : Sort) (k : ℕ) → k < field_count sig s → height (weights sig) (node_sort sig (field_head s k) (sort_args s)) < height (weights sig) s
  unfolding field_count field_head sort_args
  field_falls s k c = falls_by s k (out-Sort s) refl c

-- ---- more names
pub shape_kept : (ns ms : List Node) → IsFront ns ms → (i : ℕ) (x : Shape) → slice_get (shapes ns) i ≡ Some x → slice_get (shapes ms) i ≡ Some x
shape_kept ns ms f i x e = ap (λ l. slice_get (shapes l) i) f.1 ∙ ap (λ l. slice_get l i) (map-append shape_of ns f.0) ∙ get_append (shapes ns) (shapes f.0) i x e

module _ (sig : Signature) where
  pub field_more : (ns ms : List Node) (a : ℕ) (s : Sort) (k : ℕ) → IsFront ns ms → HasField sig (shapes ns) a s k → HasField sig (shapes ms) a s k
  field_more ns ms a s k f h = record { name = h.name; at = shape_kept ns ms f h.name _ h.at }

  pub complete_more : (ns ms : List Node) (a : ℕ) → IsFront ns ms → a < length ns → IsComplete sig (shapes ns) a → IsComplete sig (shapes ms) a
  complete_more ns ms a f l c = record {
    fields = λ x k e h.
        let g = value_at (shapes ns) a (let q = length-map ns shape_of in omega (arith, l, q)) in
        let s : ◌≡◌ {A = Option Shape} (Some g.0) (Some x) = sym (shape_kept ns ms f a g.0 g.1) ∙ e in
        let t : g.0 ≡ x = cc s in
        field_more ns ms a x.sort k f (c.fields x k (g.1 ∙ ap Some t) h);
  }

  pub news_none : (ns : List Node) → News sig ns ns
  news_none ns = record { each = λ a l h. absurd (omega (arith, l, h)) }

  pub news_then : (xs ys zs : List Node) → News sig xs ys → IsFront ys zs → News sig ys zs → News sig xs zs
  news_then xs ys zs p f q = record { each = λ a l h. elim (cases_lt a (length ys)) [ inl b ↦ complete_more ys zs a f b (p.each a l b) | inr b ↦ q.each a b h ] }

  pub news_one : (xs ys zs : List Node) (a : ℕ) → OnlyNew xs ys a → News sig ys zs → IsComplete sig (shapes zs) a → News sig xs zs
  news_one xs ys zs a o q c = record { each = λ b l h. elim (cases_lt b (length ys)) [ inl d ↦ subst (IsComplete sig (shapes zs)) (sym (o.only b l d)) c | inr d ↦ q.each b d h ] }

  pub fields_more : (xs ys : List Node) → IsFront xs ys → HasFields sig (shapes xs) → News sig xs ys → HasFields sig (shapes ys)
  fields_more xs ys f h n = record {
    each = λ a l. (let l' : a < length ys = (let q = length-map ys shape_of in omega (arith, l, q)) in elim (cases_lt a (length xs)) [
      | inl d ↦ complete_more xs ys a f d (h.each a (let q = length-map xs shape_of in omega (arith, d, q)))
      | inr d ↦ n.each a d l'
    ]);
  }

pub only_none : (ns : List Node) (a : ℕ) → OnlyNew ns ns a
only_none ns a = record { only = λ b l h. absurd (omega (arith, l, h)) }

pub only_push : (ns ms : List Node) (n : Node) (a : ℕ) → ms ≡ ns ++ n ∷ [] → a ≡ length ns → OnlyNew ns ms a
only_push ns ms n a e p = record { only = λ b l h. (let q : length ms ≡ length ns + 1 = ap length e ∙ length-append ns (n ∷ []) in omega (arith, l, h, p, q)) }

-- one field more
pub done_more : (sig : Signature) (ns ms : List Node) (a : ℕ) (s : Sort) (i : ℕ) → IsFront ns ms → ((k : ℕ) → k < i → HasField sig (shapes ns) a s k) → HasField sig (shapes ms) a s i → (k : ℕ) → k < i + 1 → HasField sig (shapes ms) a s k
done_more sig ns ms a s i f d h k l = elim (cases_lt k i) [
  | inl q ↦ field_more sig ns ms a s k f (d k q)
  | inr q ↦ (let e : k ≡ i = omega (arith, q, l) in subst (HasField sig (shapes ms) a s) (sym e) h)
]

pub field_here : (sig : Signature) (xs : List Shape) (a : ℕ) (s : Sort) (k name : ℕ) (hd : Head) (ss : List Sort) → hd ≡ field_head s k → ss ≡ sort_args s → slice_get xs name ≡ Some (applied sig hd ss (a ∷ [])) → HasField sig xs a s k
field_here sig xs a s k name hd ss e f g = record { name = name; at = g ∙ (λ i. Some (applied sig (e i) (f i) (a ∷ []))) }

pub complete_from : (sig : Signature) (ns ms : List Node) (a : ℕ) (s : Sort) → IsFront ns ms → a < length ns → ((x : Shape) → slice_get (shapes ns) a ≡ Some x → x.sort ≡ s)
    → ((k : ℕ) → k < field_count sig s → HasField sig (shapes ms) a s k) → IsComplete sig (shapes ms) a
complete_from sig ns ms a s f l q d = record {
  fields = λ x k e h.
      let g = value_at (shapes ns) a (let n = length-map ns shape_of in omega (arith, l, n)) in
      let t : ◌≡◌ {A = Option Shape} (Some g.0) (Some x) = sym (shape_kept ns ms f a g.0 g.1) ∙ e in
      let u : g.0 ≡ x = cc t in
      let v : x.sort ≡ s = ap (λ (y : Shape). y.sort) (sym u) ∙ q g.0 g.1 in
      subst (λ r. HasField sig (shapes ms) a r k) (sym v) (d k (subst (λ r. k < field_count sig r) v h));
}

pub sort_placed : (xs : List Shape) (p : ℕ) (y x : Shape) (s : Sort) → slice_get xs p ≡ Some y → y.sort ≡ s → slice_get xs p ≡ Some x → x.sort ≡ s
sort_placed xs p y x s e f g =
    let t : ◌≡◌ {A = Option Shape} (Some y) (Some x) = sym e ∙ g in
    let u : y ≡ x = cc t in
    ap (λ (z : Shape). z.sort) (sym u) ∙ f

pub fields_none : (sig : Signature) → HasFields sig []
fields_none sig = record { each = λ a l. absurd (omega (arith, l)) }
