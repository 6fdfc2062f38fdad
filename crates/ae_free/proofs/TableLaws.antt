-- The entered names of a table, and their collisions.
use Rattle.std.specs.Prelude.{ℕ, zero, suc, ◌<◌, ◌≤◌, Bool, true, false, List, [], ◌∷◌, ◌++◌, ◌≡◌, ◌≢◌, length, slice_get, Option, Some, None, IfSome, IfNone, Result, Ok, Err, OnOk, OnErr, nat_lt, if◌then◌else◌, ◌==◌}
use Rattle.std.specs.List.{AllByRecursion, IsDistinct, list_any}
use Rattle.std.proofs.Common.{refl, sym, ap, ◌∙◌, subst, arith, inl, inr, length-append}
use Rattle.std.proofs.lemmas.List.{append-nil}
use Rattle.std.proofs.lemmas.Option.{slice_get_within}
use Rattle.std.proofs.lemmas.Map.Keys.{IsDistinct-head, IsDistinct-tail}
use Rattle.ae_base.specs.Options.{or_else, ◌>>=◌}
use Rattle.ae_base.proofs.ListFacts.{get_append}
use Rattle.ae_pmap.specs.Pairs.{found, put_in, with_at}
use Rattle.ae_pmap.specs.Forest.{present, map_at, Lasts, AllNamed}
use Rattle.ae_pmap.proofs.Values.{found_put, fits_lasts}
use Rattle.ae_store.specs.Keys.{is_same, is_same_decides}
use Rattle.ae_store.specs.Growing.{IsFront}
use Rattle.ae_store.specs.declared.nodes.Node.{Node}
use Rattle.ae_store.specs.declared.nodes.Shape.{Shape}
use Rattle.ae_free.specs.declared.classes.Class.{Class}
use Rattle.ae_free.specs.declared.table.Shared.{Shared}
use Rattle.ae_free.specs.Collisions.{with_args, IsCollision, IsLeastCollision}
use Rattle.ae_free.specs.Classes.{first_key, rest, unless, least_other, IsClass, AreClasses}
use Rattle.ae_free.specs.Tables.{Tables, args_at, entered_by, entered, HasPlaces, IsEntry, FitsWith, Fits, Stands}
use Rattle.ae_free.proofs.ClassLaws.{map_lasts, classes_last, at_by}
use Rattle.ae_free.proofs.LeastLaws.{other_key}

-- ---- entered names
pub found_entered : (xs : List Shape) (ps : List (ℕ × ℕ)) (n k : ℕ) → found ps n ≡ Some k → found (entered_by xs ps) n ≡ Some (args_at xs k)
found_entered xs [] n k e = cc e
found_entered xs (p ∷ ps) n k e = by (p.0 == n) refl (found_entered xs ps n k)
  where
    by : (b : Bool) → (p.0 == n) ≡ b → (found ps n ≡ Some k → found (entered_by xs ps) n ≡ Some (args_at xs k)) → (if p.0 == n then Some (args_at xs p.1) else found (entered_by xs ps) n) ≡ Some (args_at xs k)
    by true q more =
        let w : ◌≡◌ {A = Option ℕ} (Some p.1) (Some k) = sym (ap (λ b. if b then Some p.1 else found ps n) q) ∙ e in
        let v : p.1 ≡ k = cc w in
        ap (λ b. if b then Some (args_at xs p.1) else found (entered_by xs ps) n) q ∙ ap (λ m. Some (args_at xs m)) v
    by false q more = ap (λ b. if b then Some (args_at xs p.1) else found (entered_by xs ps) n) q ∙ more (sym (ap (λ b. if b then Some p.1 else found ps n) q) ∙ e)

none_entered : (xs : List Shape) (ps : List (ℕ × ℕ)) (n : ℕ) → found ps n ≡ None → found (entered_by xs ps) n ≡ None
none_entered xs [] n e = refl
none_entered xs (p ∷ ps) n e = by (p.0 == n) refl (none_entered xs ps n)
  where
    by : (b : Bool) → (p.0 == n) ≡ b → (found ps n ≡ None → found (entered_by xs ps) n ≡ None) → (if p.0 == n then Some (args_at xs p.1) else found (entered_by xs ps) n) ≡ None
    by true q more = let w : ◌≡◌ {A = Option ℕ} (Some p.1) None = sym (ap (λ b. if b then Some p.1 else found ps n) q) ∙ e in cc w
    by false q more = ap (λ b. if b then Some (args_at xs p.1) else found (entered_by xs ps) n) q ∙ more (sym (ap (λ b. if b then Some p.1 else found ps n) q) ∙ e)

pub record StandsWith (xs : List Shape) (ps : List (ℕ × ℕ)) (n : ℕ) (args : List ℕ) : Type 0 where
  pub number : ℕ
  pub at : found ps n ≡ Some number
  pub args_are : args_at xs number ≡ args

pub entered_found : (xs : List Shape) (ps : List (ℕ × ℕ)) (n : ℕ) (args : List ℕ) → found (entered_by xs ps) n ≡ Some args → StandsWith xs ps n args
entered_found xs ps n args e = by (found ps n) refl
  where
    by : (o : Option ℕ) → found ps n ≡ o → StandsWith xs ps n args
    by None q = let w : ◌≡◌ {A = Option (List ℕ)} None (Some args) = sym (none_entered xs ps n q) ∙ e in cc w
    by (Some k) q =
        let w : ◌≡◌ {A = Option (List ℕ)} (Some (args_at xs k)) (Some args) = sym (found_entered xs ps n k q) ∙ e in
        record { number = k; at = q; args_are = cc w }

pub put_entered : (xs : List Shape) (n k : ℕ) (ps : List (ℕ × ℕ)) → entered_by xs (put_in n k ps) ≡ put_in n (args_at xs k) (entered_by xs ps)
put_entered xs n k [] = refl
put_entered xs n k (p ∷ ps) = by (nat_lt n p.0) (p.0 == n) (put_entered xs n k ps)
  where
    by : (b c : Bool) → entered_by xs (put_in n k ps) ≡ put_in n (args_at xs k) (entered_by xs ps) → entered_by xs (if b then (n, k) ∷ p ∷ ps else (if c then (n, k) ∷ ps else p ∷ put_in n k ps))
        ≡ (if b then (n, args_at xs k) ∷ entered_by xs (p ∷ ps) else (if c then (n, args_at xs k) ∷ entered_by xs ps else (p.0, args_at xs p.1) ∷ put_in n (args_at xs k) (entered_by xs ps)))
    by true c more = refl
    by false true more = refl
    by false false more = ap (λ qs. (p.0, args_at xs p.1) ∷ qs) more

args_grown : (xs more : List Shape) (k : ℕ) → k < length xs → args_at (xs ++ more) k ≡ args_at xs k
args_grown [] more k l = absurd (omega (arith, l))
args_grown (x ∷ xs) more zero l = refl
args_grown (x ∷ xs) more (suc k) l = args_grown xs more k (omega (arith, l))

pub entered_grown : (xs ys : List Shape) (ps : List (ℕ × ℕ)) → IsFront xs ys → AllNamed (length xs) ps → entered_by ys ps ≡ entered_by xs ps
entered_grown xs ys [] f a = refl
entered_grown xs ys (p ∷ ps) f a =
    let e : args_at ys p.1 ≡ args_at xs p.1 = ap (λ zs. args_at zs p.1) f.1 ∙ args_grown xs f.0 p.1 a.0 in
    let r = entered_grown xs ys ps f a.1 in
    λ i. (p.0, e i) ∷ r i

pub numbers_wider : (m n : ℕ) (ps : List (ℕ × ℕ)) → m ≤ n → AllNamed m ps → AllNamed n ps
numbers_wider m n [] l a = tt
numbers_wider m n (p ∷ ps) l a = (let h : p.1 < m = a.0 in omega (arith, h, l), numbers_wider m n ps l a.1)

pub numbers_more : (m n k : ℕ) (ps : List (ℕ × ℕ)) → k < m → AllNamed m ps → AllNamed m (put_in n k ps)
numbers_more m n k [] l a = (l, tt)
numbers_more m n k (p ∷ ps) l a = by (nat_lt n p.0) (p.0 == n) (numbers_more m n k ps l a.1)
  where
    by : (b c : Bool) → AllNamed m (put_in n k ps) → AllNamed m (if b then (n, k) ∷ p ∷ ps else (if c then (n, k) ∷ ps else p ∷ put_in n k ps))
    by true c more = (l, a)
    by false true more = (l, a.1)
    by false false more = (a.0, more)

-- ---- shapes
pub front_itself : (xs ys : List Shape) → ys ≡ xs → IsFront xs ys
front_itself xs ys e = ([], e ∙ sym (append-nil xs))

pub front_inserted : (xs ys : List Shape) (x : Shape) → ys ≡ (if list_any (is_same x) xs then xs else xs ++ x ∷ []) → IsFront xs ys
front_inserted xs ys x e = by (list_any (is_same x) xs) e
  where
    by : (b : Bool) → ys ≡ (if b then xs else xs ++ x ∷ []) → IsFront xs ys
    by true q = front_itself xs ys q
    by false q = (x ∷ [], q)

shape_front : (xs ys : List Shape) (k : ℕ) (x : Shape) → IsFront xs ys → slice_get xs k ≡ Some x → slice_get ys k ≡ Some x
shape_front xs ys k x f e = ap (λ zs. slice_get zs k) f.1 ∙ get_append xs f.0 k x e

not_after : (y x : Shape) (xs : List Shape) (j : ℕ) → AllByRecursion (λ z. is_same y z ≡ false) xs → slice_get xs j ≡ Some x → is_same y x ≡ false
not_after y x [] j a e = cc e
not_after y x (z ∷ xs) zero a e = let f : z ≡ x = cc e in subst (λ w. is_same y w ≡ false) f a.0
not_after y x (z ∷ xs) (suc j) a e = not_after y x xs j a.1 e

pub one_number : (xs : List Shape) (i j : ℕ) (x : Shape) → IsDistinct is_same xs → slice_get xs i ≡ Some x → slice_get xs j ≡ Some x → i ≡ j
one_number [] i j x d e f = cc e
one_number (y ∷ xs) zero zero x d e f = refl
one_number (y ∷ xs) zero (suc j) x d e f =
    let g : y ≡ x = cc e in
    let w : ◌≡◌ {A = Bool} true false = sym ((is_same_decides y x).1 g) ∙ not_after y x xs j (IsDistinct-head is_same y xs d) f in
    cc w
one_number (y ∷ xs) (suc i) zero x d e f =
    let g : y ≡ x = cc f in
    let w : ◌≡◌ {A = Bool} true false = sym ((is_same_decides y x).1 g) ∙ not_after y x xs i (IsDistinct-head is_same y xs d) e in
    cc w
one_number (y ∷ xs) (suc i) (suc j) x d e f = ap suc (one_number xs i j x (IsDistinct-tail is_same y xs d) e f)

-- ---- fitting
pub entry_front : (nodes : List Node) (xs ys : List Shape) (n k : ℕ) → IsFront xs ys → IsEntry nodes xs n k → IsEntry nodes ys n k
entry_front nodes xs ys n k f x = record { node = x.node; at = x.at; args = x.args; shape = shape_front xs ys k (with_args x.args x.node) f x.shape; one_each = x.one_each; within = x.within }

pub entry_args : (nodes : List Node) (xs : List Shape) (n k : ℕ) (x : IsEntry nodes xs n k) → args_at xs k ≡ x.args
entry_args nodes xs n k x = ap (λ o. or_else (o >>= λ s. Some s.args) []) x.shape

front_wide : (xs ys : List Shape) → IsFront xs ys → length xs ≤ length ys
front_wide xs ys f = let l = length-append xs f.0 in let e : length ys ≡ length (xs ++ f.0) = ap (λ zs. length zs) f.1 in omega (arith, l, e)

-- a table grows by shapes and sets: what fitted it fits it still
pub fits_front : (nodes : List Node) (old new : Tables) (ns : List (ℕ × ℕ)) (cs : List (ℕ × Class)) → IsFront old.shapes new.shapes → IsDistinct is_same new.shapes → present new.members ≡ []
    → Lasts old.members new.members → FitsWith nodes old ns cs → FitsWith nodes new ns cs
fits_front nodes old new ns cs f d r l x = record {
  distinct = d;
  resting = r;
  are_numbers = numbers_wider (length old.shapes) (length new.shapes) ns (front_wide old.shapes new.shapes f) x.are_numbers;
  entries = λ n k e. entry_front nodes old.shapes new.shapes n k f (x.entries n k e);
  are_classes = classes_last old.members new.members (found cs) (found ns) l x.are_classes;
}

pub stands_front : (nodes : List Node) (old new : Tables) (v : Shared) (names : List (ℕ × List ℕ)) → IsFront old.shapes new.shapes → IsDistinct is_same new.shapes → present new.members ≡ []
    → Lasts old.members new.members → Lasts old.numbers new.numbers → Lasts old.classes new.classes → Stands nodes old v names → Stands nodes new v names
stands_front nodes old new v names f d r lm ln lc s =
    let en = map_lasts old.numbers new.numbers v.numbers ln s.numbers in
    let ec = map_lasts old.classes new.classes v.classes lc s.classes in
    record {
      numbers = fits_lasts old.numbers new.numbers v.numbers ln s.numbers;
      classes = fits_lasts old.classes new.classes v.classes lc s.classes;
      names_are = ap (entered_by new.shapes) en ∙ entered_grown old.shapes new.shapes (map_at old.numbers v.numbers) f s.fits.are_numbers ∙ s.names_are;
      fits = subst (λ ns. FitsWith nodes new ns (map_at new.classes v.classes)) (sym en)
          (subst (λ cs. FitsWith nodes new (map_at old.numbers v.numbers) cs) (sym ec)
          (fits_front nodes old new (map_at old.numbers v.numbers) (map_at old.classes v.classes) f d r lm s.fits));
    }

-- a name is entered
entry_new : (nodes : List Node) (xs : List Shape) (name number : ℕ) (args : List ℕ) (node : Node) → slice_get nodes name ≡ Some node → HasPlaces nodes name args
    → AllByRecursion (λ a. a < length nodes) args → slice_get xs number ≡ Some (with_args args node) → IsEntry nodes xs name number
entry_new nodes xs name number args node at p w s =
    let e : ◌≡◌ {A = Option Node} (Some p.node) (Some node) = sym p.at ∙ at in
    let e' : p.node ≡ node = cc e in
    record { node = node; at = at; args = args; shape = s; one_each = p.one_each ∙ ap (λ n. length n.args) e'; within = w }

pub fits_entered : (nodes : List Node) (old new : Tables) (name number : ℕ) (args : List ℕ) (node : Node) → IsFront old.shapes new.shapes → IsDistinct is_same new.shapes → present new.members ≡ []
    → slice_get nodes name ≡ Some node → HasPlaces nodes name args → AllByRecursion (λ a. a < length nodes) args → slice_get new.shapes number ≡ Some (with_args args node)
    → present new.numbers ≡ put_in name number (present old.numbers) → AreClasses new.members (found (present new.classes)) (found (present new.numbers)) → Fits nodes old → Fits nodes new
fits_entered nodes old new name number args node f d r at p w s e a x = record {
  distinct = d;
  resting = r;
  are_numbers = subst (AllNamed (length new.shapes)) (sym e)
      (numbers_more (length new.shapes) name number (present old.numbers) (slice_get_within new.shapes number (with_args args node) s)
      (numbers_wider (length old.shapes) (length new.shapes) (present old.numbers) (front_wide old.shapes new.shapes f) x.are_numbers));
  entries = λ n k q. by n k (sym (found_put name number n (present old.numbers)) ∙ sym (ap (λ ps. found ps n) e) ∙ q);
  are_classes = a;
}
  where
    by : (n k : ℕ) → with_at (found (present old.numbers)) name (Some number) n ≡ Some k → IsEntry nodes new.shapes n k
    by n k q = elim (at_by (found (present old.numbers)) name (Some number) n) [
      | inl h ↦ (let u : ◌≡◌ {A = Option ℕ} (Some number) (Some k) = sym h.1 ∙ q in
          let v : number ≡ k = cc u in
          subst (λ j. IsEntry nodes new.shapes n j) v (subst (λ m. IsEntry nodes new.shapes m number) (sym h.0) (entry_new nodes new.shapes name number args node at p w s)))
      | inr h ↦ entry_front nodes old.shapes new.shapes n k f (x.entries n k (sym h.1 ∙ q))
    ]

-- nothing is entered, and the classes are right
pub fits_same : (nodes : List Node) (old new : Tables) → IsFront old.shapes new.shapes → IsDistinct is_same new.shapes → present new.members ≡ [] → present new.numbers ≡ present old.numbers
    → AreClasses new.members (found (present new.classes)) (found (present new.numbers)) → Fits nodes old → Fits nodes new
fits_same nodes old new f d r e a x = record {
  distinct = d;
  resting = r;
  are_numbers = subst (AllNamed (length new.shapes)) (sym e) (numbers_wider (length old.shapes) (length new.shapes) (present old.numbers) (front_wide old.shapes new.shapes f) x.are_numbers);
  entries = λ n k q. entry_front nodes old.shapes new.shapes n k f (x.entries n k (sym (ap (λ ps. found ps n) e) ∙ q));
  are_classes = a;
}

-- ---- collisions
module _ (nodes : List Node) (t : Tables) (x : Fits nodes t) (name k : ℕ) (at : found (present t.numbers) name ≡ Some k) where
  args_of_name : (args : List ℕ) → found (entered t) name ≡ Some args → args_at t.shapes k ≡ args
  args_of_name args e = let w : ◌≡◌ {A = Option (List ℕ)} (Some (args_at t.shapes k)) (Some args) = sym (found_entered t.shapes (present t.numbers) name k at) ∙ e in cc w

  -- what stands at the number of the name collides with it
  stands_collides : (args : List ℕ) (n : ℕ) → found (entered t) name ≡ Some args → found (present t.numbers) n ≡ Some k → n ≢ name → IsCollision nodes (entered t) name args n
  stands_collides args n e f d =
      let a = x.entries name k at in
      let b = x.entries n k f in
      let w : ◌≡◌ {A = Option Shape} (Some (with_args a.args a.node)) (Some (with_args b.args b.node)) = sym a.shape ∙ b.shape in
      let v : with_args a.args a.node ≡ with_args b.args b.node = cc w in
      record {
        entered = found_entered t.shapes (present t.numbers) n k f ∙ ap Some (args_of_name args e);
        is_other = d;
        node = a.node;
        at = a.at;
        other_node = b.node;
        other_at = b.at;
        heads = ap (λ s. s.head) v;
        sorts = ap (λ s. s.sorts) v;
        sort = ap (λ s. s.sort) v;
      }

  -- and nothing else does
  collides_stands : (args : List ℕ) (n : ℕ) → found (entered t) name ≡ Some args → IsCollision nodes (entered t) name args n → found (present t.numbers) n ≡ Some k
  collides_stands args n e c =
      let s = entered_found t.shapes (present t.numbers) n args c.entered in
      let a = x.entries name k at in
      let b = x.entries n s.number s.at in
      let na : ◌≡◌ {A = Option Node} (Some a.node) (Some c.node) = sym a.at ∙ c.at in
      let nb : ◌≡◌ {A = Option Node} (Some b.node) (Some c.other_node) = sym b.at ∙ c.other_at in
      let na' : a.node ≡ c.node = cc na in
      let nb' : b.node ≡ c.other_node = cc nb in
      let heads : a.node.head ≡ b.node.head = ap (λ m. m.head) na' ∙ c.heads ∙ sym (ap (λ m. m.head) nb') in
      let sorts : a.node.sorts ≡ b.node.sorts = ap (λ m. m.sorts) na' ∙ c.sorts ∙ sym (ap (λ m. m.sorts) nb') in
      let sort : a.node.sort ≡ b.node.sort = ap (λ m. m.sort) na' ∙ c.sort ∙ sym (ap (λ m. m.sort) nb') in
      let args_same : a.args ≡ b.args = sym (entry_args nodes t.shapes name k a) ∙ args_of_name args e ∙ sym s.args_are ∙ entry_args nodes t.shapes n s.number b in
      let same : with_args a.args a.node ≡ with_args b.args b.node = λ i. record { head = heads i; sorts = sorts i; args = args_same i; sort = sort i } in
      let one : k ≡ s.number = one_number t.shapes k s.number (with_args b.args b.node) x.distinct (a.shape ∙ ap Some same) b.shape in
      s.at ∙ ap Some (sym one)

  module _ (c : Class) (is : found (present t.classes) k ≡ Some c) (args : List ℕ) (e : found (entered t) name ≡ Some args) where
    least_is : (y : IsClass t.members (found (present t.numbers)) k c) → least_other c name ≡ unless (first_key y.set) (first_key (rest y.set)) name
    least_is y = λ i. unless (y.of.least i) (y.of.second i) name

    pub least_some : (o : Option ℕ) → o ≡ least_other c name → IfSome o (λ n. IsLeastCollision nodes (entered t) name args n)
    least_some None q = tt
    least_some (Some m) q =
        let y = x.are_classes.each k c is in
        let z = other_key y.set name y.of.rises in
        let f : unless (first_key y.set) (first_key (rest y.set)) name ≡ Some m = sym (least_is y) ∙ sym q in
        let u = z.there m f in
        record {
          collision = stands_collides args m e (y.only m u.1) (z.differs m f);
          least = λ n d. z.least m n tt f (y.has n (collides_stands args n e d)) d.is_other;
        }

    pub least_none : (o : Option ℕ) → o ≡ least_other c name → IfNone o ((n : ℕ) → ¬ IsCollision nodes (entered t) name args n)
    least_none None q =
        let y = x.are_classes.each k c is in
        let z = other_key y.set name y.of.rises in
        λ n d. d.is_other (z.none n tt (sym (least_is y) ∙ sym q) (y.has n (collides_stands args n e d)))
    least_none (Some m) q = tt

  -- a name that is entered has a class
  pub no_class : None ≡ found (present t.classes) k → ⊥
  no_class q = let y = x.are_classes.has name k at in let w : ◌≡◌ {A = Option Class} None (Some y.0) = q ∙ y.1 in cc w

pub number_of : (t : Tables) (name : ℕ) (args : List ℕ) → found (entered t) name ≡ Some args → None ≡ found (present t.numbers) name → ⊥
number_of t name args e q =
    let s = entered_found t.shapes (present t.numbers) name args e in
    let w : ◌≡◌ {A = Option ℕ} None (Some s.number) = q ∙ s.at in
    cc w

-- ---- what entering changes
pub entered_put : (xs ys : List Shape) (ps ns : List (ℕ × ℕ)) (name number : ℕ) (args : List ℕ) → IsFront xs ys → AllNamed (length xs) ps → ns ≡ put_in name number ps → args_at ys number ≡ args
    → entered_by ys ns ≡ put_in name args (entered_by xs ps)
entered_put xs ys ps ns name number args f a e g = ap (entered_by ys) e ∙ put_entered ys name number ps ∙ (λ i. put_in name (g i) (entered_grown xs ys ps f a i))

pub entered_same : (xs ys : List Shape) (ps ns : List (ℕ × ℕ)) → IsFront xs ys → AllNamed (length xs) ps → ns ≡ ps → entered_by ys ns ≡ entered_by xs ps
entered_same xs ys ps ns f a e = ap (entered_by ys) e ∙ entered_grown xs ys ps f a

pub stored_at : (ys : List Shape) (number : ℕ) (x y : Shape) → slice_get ys number ≡ Some y → is_same x y ≡ true → slice_get ys number ≡ Some x
stored_at ys number x y e s = e ∙ ap Some (sym ((is_same_decides x y).0 s))

pub args_stored : (ys : List Shape) (number : ℕ) (x : Shape) → slice_get ys number ≡ Some x → args_at ys number ≡ x.args
args_stored ys number x e = ap (λ o. or_else (o >>= λ s. Some s.args) []) e

-- the table after a call that entered the name, or was refused
pub fits_after : {T E : Type 0} (r : Result T E) (nodes : List Node) (old new : Tables) (name number : ℕ) (args : List ℕ) (node : Node) → IsFront old.shapes new.shapes → IsDistinct is_same new.shapes
    → present new.members ≡ [] → slice_get nodes name ≡ Some node → HasPlaces nodes name args → AllByRecursion (λ a. a < length nodes) args → slice_get new.shapes number ≡ Some (with_args args node)
    → OnOk r (present new.numbers ≡ put_in name number (present old.numbers)) → OnErr r (present new.numbers ≡ present old.numbers)
    → AreClasses new.members (found (present new.classes)) (found (present new.numbers)) → Fits nodes old → Fits nodes new
fits_after (Ok z) nodes old new name number args node f d m at p w s ok err a x = fits_entered nodes old new name number args node f d m at p w s ok a x
fits_after (Err z) nodes old new name number args node f d m at p w s ok err a x = fits_same nodes old new f d m err a x
