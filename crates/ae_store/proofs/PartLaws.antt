-- Parts of names, while nodes come behind.
use Rattle.std.specs.Prelude.{ℕ, zero, suc, ◌+◌, ◌<◌, ◌⊎◌, List, [], ◌∷◌, ◌++◌, ◌≡◌, length, slice_get, Option, Some}
use Rattle.std.proofs.Common.{refl, sym, ap, ◌∙◌, subst, arith, inl, inr}
use Rattle.std.proofs.lemmas.Bool.{cases_lt}
use Rattle.std.proofs.lemmas.List.{length-map}
use Rattle.std.proofs.lemmas.Option.{slice_get_within}
use Rattle.ae_core.specs.declared.terms.Sort.{Sort}
use Rattle.ae_core.specs.declared.terms.Head.{Head}
use Rattle.ae_core.specs.declared.problems.Signature.{Signature}
use Rattle.ae_store.specs.declared.nodes.Node.{Node}
use Rattle.ae_store.specs.declared.nodes.Shape.{Shape}
use Rattle.ae_store.specs.Shapes.{shape_of, shapes}
use Rattle.ae_store.specs.Terms.{applied}
use Rattle.ae_store.specs.Growing.{IsFront}
use Rattle.ae_store.specs.Fields.{field_count, field_head, sort_args, OnlyNew}
use Rattle.ae_store.specs.Parts.{IsIn, AreIn, IsPart, root, argument, field, AreGiven, HasFieldIn, HasFieldsIn, IsTouched, Added}
use Rattle.ae_base.proofs.ListFacts.{get_append, value_at}
use Rattle.ae_store.proofs.Gets.{get_last, get_pushed}
use Rattle.ae_store.proofs.FieldLaws.{shape_kept}

-- ---- one of some names
pub in_none : (a : ℕ) → IsIn a [] → ⊥
in_none a h = cc h.is

pub in_front : (a : ℕ) (xs ys : List ℕ) → IsIn a xs → IsIn a (xs ++ ys)
in_front a xs ys h = record { place = h.place; is = get_append xs ys h.place a h.is }

pub in_last : (a : ℕ) (xs : List ℕ) → IsIn a (xs ++ a ∷ [])
in_last a xs = record { place = length xs; is = get_last xs a }

pub in_pushed : (a b : ℕ) (xs : List ℕ) → IsIn a (xs ++ b ∷ []) → IsIn a xs ⊎ (a ≡ b)
in_pushed a b xs h = elim (get_pushed xs b h.place a h.is) [ inl e ↦ inl (record { place = h.place; is = e }) | inr e ↦ inr (sym e.1) ]

pub in_one : (a : ℕ) → IsIn a (a ∷ [])
in_one a = record { place = 0; is = refl }

one_at : (a b i : ℕ) → slice_get (b ∷ []) i ≡ Some a → a ≡ b
one_at a b zero e = cc e
one_at a b (suc i) e = cc e

pub is_one : (a b : ℕ) → IsIn a (b ∷ []) → a ≡ b
is_one a b h = one_at a b h.place h.is

pub are_none : (names : List ℕ) → AreIn [] names
are_none names = record { each = λ a h. absurd (in_none a h) }

pub are_same : (names : List ℕ) → AreIn names names
are_same names = record { each = λ a h. h }

pub are_then : (xs ys zs : List ℕ) → AreIn xs ys → AreIn ys zs → AreIn xs zs
are_then xs ys zs p q = record { each = λ a h. q.each a (p.each a h) }

pub are_pushed : (xs ys : List ℕ) (a : ℕ) → ys ≡ xs ++ a ∷ [] → AreIn xs ys
are_pushed xs ys a e = record { each = λ b h. subst (IsIn b) (sym e) (in_front b xs (a ∷ []) h) }

pub in_new : (xs ys : List ℕ) (a : ℕ) → ys ≡ xs ++ a ∷ [] → IsIn a ys
in_new xs ys a e = subst (IsIn a) (sym e) (in_last a xs)

-- names that are there, and one more
pub are_one_more : (xs ys T U : List ℕ) (a : ℕ) → ys ≡ xs ++ a ∷ [] → AreIn xs T → AreIn T U → IsIn a U → AreIn ys U
are_one_more xs ys T U a e p q h = record { each = λ b k. elim (in_pushed b a xs (subst (IsIn b) e k)) [ inl i ↦ q.each b (p.each b i) | inr i ↦ subst (λ c. IsIn c U) (sym i) h ] }

pub are_one : (a : ℕ) (names : List ℕ) → IsIn a names → AreIn (a ∷ []) names
are_one a names h = record { each = λ b k. subst (λ c. IsIn c names) (sym (is_one b a k)) h }

-- ---- given generations
pub given_none : (g : ℕ) (ns : List Node) → AreGiven g ns ns
given_none g ns = record { each = λ m y l e. absurd (let h : m < length ns = slice_get_within ns m y e in omega (arith, h, l)) }

pub given_push : (g : ℕ) (ns ms : List Node) (n : Node) → ms ≡ ns ++ n ∷ [] → n.generation ≡ g → AreGiven g ns ms
given_push g ns ms n e p = record {
  each = λ m y l q.
      elim (get_pushed ns n m y (ap (λ xs. slice_get xs m) (sym e) ∙ q)) [
        | inl h ↦ absurd (let w : m < length ns = slice_get_within ns m y h in omega (arith, w, l))
        | inr h ↦ ap (λ (x : Node). x.generation) (sym h.1) ∙ p
      ];
}

pub node_kept : (ns ms : List Node) → IsFront ns ms → (i : ℕ) (x : Node) → slice_get ns i ≡ Some x → slice_get ms i ≡ Some x
node_kept ns ms f i x e = ap (λ l. slice_get l i) f.1 ∙ get_append ns f.0 i x e

pub node_back : (ns ms : List Node) → IsFront ns ms → (i : ℕ) (x : Node) → i < length ns → slice_get ms i ≡ Some x → slice_get ns i ≡ Some x
node_back ns ms f i x l e =
    let g = value_at ns i l in
    let t : ◌≡◌ {A = Option Node} (Some g.0) (Some x) = sym (node_kept ns ms f i g.0 g.1) ∙ e in
    g.1 ∙ t

pub shape_back : (ns ms : List Node) → IsFront ns ms → (i : ℕ) (x : Shape) → i < length (shapes ns) → slice_get (shapes ms) i ≡ Some x → slice_get (shapes ns) i ≡ Some x
shape_back ns ms f i x l e =
    let g = value_at (shapes ns) i l in
    let t : ◌≡◌ {A = Option Shape} (Some g.0) (Some x) = sym (shape_kept ns ms f i g.0 g.1) ∙ e in
    g.1 ∙ t

pub given_then : (g : ℕ) (xs ys zs : List Node) → AreGiven g xs ys → IsFront ys zs → AreGiven g ys zs → AreGiven g xs zs
given_then g xs ys zs p f q = record { each = λ m y l e. elim (cases_lt m (length ys)) [ inl b ↦ p.each m y l (node_back ys zs f m y b e) | inr b ↦ q.each m y b e ] }

module _ (sig : Signature) where
  -- ---- parts
  pub part_more : (ns ms : List Node) (roots : List ℕ) (m : ℕ) → IsFront ns ms → IsPart sig (shapes ns) roots m → IsPart sig (shapes ms) roots m
  part_more ns ms roots m f (root n h) = root m h
  part_more ns ms roots m f (argument n x a p e h) = argument n x m (part_more ns ms roots n f p) (shape_kept ns ms f n x e) h
  part_more ns ms roots m f (field n x k b p e l h) = field n x k m (part_more ns ms roots n f p) (shape_kept ns ms f n x e) l (shape_kept ns ms f m _ h)

  -- parts of parts are parts
  pub part_under : (xs : List Shape) (roots tops : List ℕ) (m : ℕ) → ((r : ℕ) → IsIn r roots → IsPart sig xs tops r) → IsPart sig xs roots m → IsPart sig xs tops m
  part_under xs roots tops m u (root n h) = u m h
  part_under xs roots tops m u (argument n x a p e h) = argument n x m (part_under xs roots tops n u p) e h
  part_under xs roots tops m u (field n x k b p e l h) = field n x k m (part_under xs roots tops n u p) e l h

  pub field_in_more : (ns ms : List Node) (T U : List ℕ) (a : ℕ) (s : Sort) (k : ℕ) → IsFront ns ms → AreIn T U → HasFieldIn sig (shapes ns) T a s k → HasFieldIn sig (shapes ms) U a s k
  field_in_more ns ms T U a s k f t h = record { name = h.name; at = shape_kept ns ms f h.name _ h.at; within = t.each h.name h.within }

  pub fields_in_more : (ns ms : List Node) (T U : List ℕ) (a : ℕ) (s : Sort) → IsFront ns ms → AreIn T U → HasFieldsIn sig (shapes ns) T a s → HasFieldsIn sig (shapes ms) U a s
  fields_in_more ns ms T U a s f t h = record { each = λ k l. field_in_more ns ms T U a s k f t (h.each k l) }

  pub touched_more : (ns ms : List Node) (T U roots tops : List ℕ) (a : ℕ) → IsFront ns ms → AreIn T U → ((r : ℕ) → IsIn r roots → IsPart sig (shapes ms) tops r)
      → IsTouched sig (shapes ns) T roots a → IsTouched sig (shapes ms) U tops a
  touched_more ns ms T U roots tops a f t u h =
      let w : a < length (shapes ns) = h.within in
      let g = value_at (shapes ns) a w in
      record {
        under = part_under (shapes ms) roots tops a u (part_more ns ms roots a f h.under);
        within = slice_get_within (shapes ms) a g.0 (shape_kept ns ms f a g.0 g.1);
        args = λ x e. are_then x.args T U (h.args x (shape_back ns ms f a x w e)) t;
        fields = λ x e. fields_in_more ns ms T U a x.sort f t (h.fields x (shape_back ns ms f a x w e));
      }

  pub touched_from : (xs : List Shape) (T roots : List ℕ) (p : ℕ) (y : Shape) → IsPart sig xs roots p → slice_get xs p ≡ Some y → AreIn y.args T → HasFieldsIn sig xs T p y.sort → IsTouched sig xs T roots p
  touched_from xs T roots p y u e a f =
      let is : (x : Shape) → slice_get xs p ≡ Some x → y ≡ x = λ x q. (let t : ◌≡◌ {A = Option Shape} (Some y) (Some x) = sym e ∙ q in cc t) in
      record {
        under = u;
        within = slice_get_within xs p y e;
        args = λ x q. subst (λ (z : Shape). AreIn z.args T) (is x q) a;
        fields = λ x q. subst (λ (z : Shape). HasFieldsIn sig xs T p z.sort) (is x q) f;
      }

  -- a field of the name a is a part of it
  pub field_part : (ns ms : List Node) (a : ℕ) (s : Sort) (k p : ℕ) (hd : Head) (ss : List Sort) → IsFront ns ms → a < length ns → ((x : Shape) → slice_get (shapes ns) a ≡ Some x → x.sort ≡ s) → k < field_count sig s
      → hd ≡ field_head s k → ss ≡ sort_args s → slice_get (shapes ms) p ≡ Some (applied sig hd ss (a ∷ [])) → IsPart sig (shapes ms) (a ∷ []) p
  field_part ns ms a s k p hd ss f l q c e1 e2 e =
      let g = value_at (shapes ns) a (let n = length-map ns shape_of in omega (arith, l, n)) in
      let v : s ≡ g.0.sort = sym (q g.0 g.1) in
      field a g.0 k p (root a (in_one a)) (shape_kept ns ms f a g.0 g.1) (subst (λ r. k < field_count sig r) v c)
      (e ∙ (λ i. Some (applied sig ((e1 ∙ ap (λ r. field_head r k) v) i) ((e2 ∙ ap sort_args v) i) (a ∷ []))))

  pub field_in_here : (xs : List Shape) (T : List ℕ) (a : ℕ) (s : Sort) (k p : ℕ) (hd : Head) (ss : List Sort) → hd ≡ field_head s k → ss ≡ sort_args s
      → slice_get xs p ≡ Some (applied sig hd ss (a ∷ [])) → IsIn p T → HasFieldIn sig xs T a s k
  field_in_here xs T a s k p hd ss e1 e2 e h = record { name = p; at = e ∙ (λ i. Some (applied sig (e1 i) (e2 i) (a ∷ []))); within = h }

  pub inside_more : (ns ms : List Node) (T U : List ℕ) (a : ℕ) (s : Sort) (i : ℕ) → IsFront ns ms → AreIn T U → ((k : ℕ) → k < i → HasFieldIn sig (shapes ns) T a s k)
      → HasFieldIn sig (shapes ms) U a s i → (k : ℕ) → k < i + 1 → HasFieldIn sig (shapes ms) U a s k
  inside_more ns ms T U a s i f t d h k l = elim (cases_lt k i) [
    | inl q ↦ field_in_more ns ms T U a s k f t (d k q)
    | inr q ↦ (let e : k ≡ i = omega (arith, q, l) in subst (HasFieldIn sig (shapes ms) U a s) (sym e) h)
  ]

  -- ---- names that are added
  pub added_none : (g : ℕ) (ns : List Node) (T roots : List ℕ) → Added sig g ns ns T T roots
  added_none g ns T roots = record { kept = are_same T; each = λ a h. inl h; news = λ a l h. absurd (omega (arith, l, h)); given = given_none g ns }

  pub added_then : (g : ℕ) (xs ys zs : List Node) (T U V r1 r2 tops : List ℕ) → Added sig g xs ys T U r1 → IsFront ys zs → Added sig g ys zs U V r2
      → ((r : ℕ) → IsIn r r1 → IsPart sig (shapes zs) tops r) → ((r : ℕ) → IsIn r r2 → IsPart sig (shapes zs) tops r) → Added sig g xs zs T V tops
  added_then g xs ys zs T U V r1 r2 tops p f q u1 u2 = record {
    kept = are_then T U V p.kept q.kept;
    each = λ a h.
        elim (q.each a h) [
          | inl h1 ↦ elim (p.each a h1) [ inl h2 ↦ inl h2 | inr t ↦ inr (touched_more ys zs U V r1 tops a f q.kept u1 t) ]
          | inr t ↦ inr (touched_more zs zs V V r2 tops a (same zs) (are_same V) u2 t)
        ];
    news = λ a l h. elim (cases_lt a (length ys)) [ inl b ↦ q.kept.each a (p.news a l b) | inr b ↦ q.news a b h ];
    given = given_then g xs ys zs p.given f q.given;
  }
    where
      same : (ns : List Node) → IsFront ns ns
      same ns = ([], sym (append_nil ns))
        where
          append_nil : (ns : List Node) → ns ++ [] ≡ ns
          append_nil [] = refl
          append_nil (n ∷ ns) = ap (λ l. n ∷ l) (append_nil ns)

  -- one name, and then what lies below it
  pub added_one : (g : ℕ) (xs ys zs : List Node) (T U V tops : List ℕ) (p : ℕ) → OnlyNew xs ys p → AreGiven g xs ys → U ≡ T ++ p ∷ [] → IsFront ys zs → Added sig g ys zs U V (p ∷ [])
      → IsTouched sig (shapes zs) V tops p → Added sig g xs zs T V tops
  added_one g xs ys zs T U V tops p o gv e f q t = record {
    kept = are_then T U V (are_pushed T U p e) q.kept;
    each = λ a h.
        elim (q.each a h) [
          | inl h1 ↦ elim (in_pushed a p T (subst (IsIn a) e h1)) [ inl h2 ↦ inl h2 | inr i ↦ inr (subst (IsTouched sig (shapes zs) V tops) (sym i) t) ]
          | inr w ↦ inr (touched_more zs zs V V (p ∷ []) tops a (same zs) (are_same V) (λ r k. subst (IsPart sig (shapes zs) tops) (sym (is_one r p k)) t.under) w)
        ];
    news = λ a l h. elim (cases_lt a (length ys)) [ inl b ↦ subst (λ c. IsIn c V) (sym (o.only a l b)) (q.kept.each p (in_new T U p e)) | inr b ↦ q.news a b h ];
    given = given_then g xs ys zs gv f q.given;
  }
    where
      same : (ns : List Node) → IsFront ns ns
      same ns = ([], sym (append_nil ns))
        where
          append_nil : (ns : List Node) → ns ++ [] ≡ ns
          append_nil [] = refl
          append_nil (n ∷ ns) = ap (λ l. n ∷ l) (append_nil ns)
