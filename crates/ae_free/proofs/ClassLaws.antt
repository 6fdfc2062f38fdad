-- The classes of numbers, while names leave and join them.
use Rattle.std.specs.Prelude.{ℕ, ◌⊎◌, List, [], ◌≡◌, ◌≢◌, Bool, true, false, Option, Some, None, if◌then◌else◌, ◌==◌}
use Rattle.std.proofs.Common.{refl, sym, ap, ◌∙◌, subst, inl, inr}
use Rattle.std.proofs.lemmas.Bool.{eqb-true, eq-eqb}
use Rattle.ae_pmap.specs.Pairs.{found, with_at}
use Rattle.ae_pmap.specs.Forest.{Forest, present, map_at, IsRoot, StandsFor, Lasts}
use Rattle.ae_pmap.proofs.PairLemmas.{at_same, at_other}
use Rattle.ae_free.specs.declared.classes.Class.{Class}
use Rattle.ae_free.specs.Classes.{set_of, IsClassOf, IsClass, AreClasses}

abbrev pub Sets : Type 0
Sets = Forest (Unit {0})

pub lasts_itself : {V : Type 0} (f : Forest V) → Lasts f f
lasts_itself f root map h = h

pub lasts_then : {V : Type 0} (f g h : Forest V) → Lasts f g → Lasts g h → Lasts f h
lasts_then f g h p q root map s = q root map (p root map s)

-- a version goes on standing for what it stands for
pub map_lasts : {V : Type 0} (f g : Forest V) (v : ℕ) → Lasts f g → IsRoot f v → map_at g v ≡ map_at f v
map_lasts f g v l r = (l v (map_at f v) (record { fits = r; is = refl })).is

pub class_lasts : (f g : Sets) (ps : List (ℕ × Unit {0})) (c : Class) → Lasts f g → IsClassOf f ps c → IsClassOf g ps c
class_lasts f g ps c l x = record { stands = l c.members ps x.stands; rises = x.rises; least = x.least; second = x.second }

pub classes_last : (f g : Sets) (cs : ℕ → Option Class) (ns : ℕ → Option ℕ) → Lasts f g → AreClasses f cs ns → AreClasses g cs ns
classes_last f g cs ns l a = record {
  each = λ k c e. (let x = a.each k c e in record { set = x.set; of = class_lasts f g x.set c l x.of; has = x.has; only = x.only });
  has = a.has;
}

pub classes_by : (f : Sets) (cs ds : ℕ → Option Class) (ns ms : ℕ → Option ℕ) → ((k : ℕ) → ds k ≡ cs k) → ((n : ℕ) → ms n ≡ ns n) → AreClasses f cs ns → AreClasses f ds ms
classes_by f cs ds ns ms p q a = record {
  each = λ k c e. (let x = a.each k c (sym (p k) ∙ e) in record { set = x.set; of = x.of; has = λ n h. x.has n (sym (q n) ∙ h); only = λ n h. q n ∙ x.only n h });
  has = λ n k e. (let x = a.has n k (sym (q n) ∙ e) in (x.0, p k ∙ x.1));
}

pub classes_none : (f : Sets) → AreClasses f (found []) (found [])
classes_none f = record { each = λ k c e. cc e; has = λ n k e. cc e }

-- ---- the set of a number
pub record AreMembers (ns : ℕ → Option ℕ) (k : ℕ) (ps : List (ℕ × Unit {0})) : Type 0 where
  pub has : (n : ℕ) → ns n ≡ Some k → found ps n ≡ Some tt
  pub only : (n : ℕ) → found ps n ≡ Some tt → ns n ≡ Some k

pub root_at : (f : Sets) (cs : ℕ → Option Class) (ns : ℕ → Option ℕ) (k none v : ℕ) → AreClasses f cs ns → StandsFor f none [] → v ≡ set_of (cs k) none → IsRoot f v
root_at f cs ns k none v a s e = subst (IsRoot f) (sym e) (by (cs k) refl)
  where
    by : (o : Option Class) → cs k ≡ o → IsRoot f (set_of o none)
    by None q = s.fits
    by (Some c) q = (a.each k c q).of.stands.fits

pub members_at : (f : Sets) (cs : ℕ → Option Class) (ns : ℕ → Option ℕ) (k none v : ℕ) → AreClasses f cs ns → StandsFor f none [] → v ≡ set_of (cs k) none → AreMembers ns k (map_at f v)
members_at f cs ns k none v a s e = subst (λ w. AreMembers ns k (map_at f w)) (sym e) (by (cs k) refl)
  where
    by : (o : Option Class) → cs k ≡ o → AreMembers ns k (map_at f (set_of o none))
    by None q = record {
      has = λ n h. (let x = a.has n k h in let w : ◌≡◌ {A = Option Class} None (Some x.0) = sym q ∙ x.1 in cc w);
      only = λ n h. (let w : ◌≡◌ {A = Option (Unit {0})} None (Some tt) = sym (ap (λ ps. found ps n) s.is) ∙ h in cc w);
    }
    by (Some c) q =
        let x = a.each k c q in
        subst (AreMembers ns k) (sym x.of.stands.is) (record { has = x.has; only = x.only })

-- ---- one class is renewed
pub class_renewed : (f g : Sets) (cs ds : ℕ → Option Class) (ns ms : ℕ → Option ℕ) (k : ℕ) (c : Class) (ps : List (ℕ × Unit {0})) → Lasts f g → AreClasses f cs ns
    → IsClassOf g ps c → AreMembers ms k ps → ((q : ℕ) → ds q ≡ with_at cs k (Some c) q)
    → ((j n : ℕ) → j ≢ k → ms n ≡ Some j → ns n ≡ Some j) → ((j n : ℕ) → j ≢ k → ns n ≡ Some j → ms n ≡ Some j) → AreClasses g ds ms
class_renewed f g cs ds ns ms k c ps l a x m at to from = record { each = each; has = has }
  where
    differs : (j : ℕ) → (k == j) ≡ false → j ≢ k
    differs j e q = let w : ◌≡◌ {A = Bool} true false = sym (eq-eqb k j (sym q)) ∙ e in cc w

    own : (j : ℕ) (d : Class) → ds j ≡ Some d → (b : Bool) → (k == j) ≡ b → IsClass g ms j d
    own j d e true q =
        let same : k ≡ j = eqb-true k j q in
        let f1 : ◌≡◌ {A = Option Class} (Some c) (Some d) = sym (at_same cs k (Some c)) ∙ sym (at k) ∙ ap ds same ∙ e in
        let f2 : c ≡ d = cc f1 in
        subst (λ i. IsClass g ms i d) same (subst (IsClass g ms k) f2 (record { set = ps; of = x; has = m.has; only = m.only }))
    own j d e false q =
        let y = a.each j d (sym (at_other cs k (Some c) j (differs j q)) ∙ sym (at j) ∙ e) in
        record { set = y.set; of = class_lasts f g y.set d l y.of; has = λ n h. y.has n (to j n (differs j q) h); only = λ n h. from j n (differs j q) (y.only n h) }

    each : (j : ℕ) (d : Class) → ds j ≡ Some d → IsClass g ms j d
    each j d e = own j d e (k == j) refl

    there : (n j : ℕ) → ms n ≡ Some j → (b : Bool) → (k == j) ≡ b → (d : Class) × (ds j ≡ Some d)
    there n j e true q = (c, ap ds (sym (eqb-true k j q)) ∙ at k ∙ at_same cs k (Some c))
    there n j e false q = let y = a.has n j (to j n (differs j q) e) in (y.0, at j ∙ at_other cs k (Some c) j (differs j q) ∙ y.1)

    has : (n j : ℕ) → ms n ≡ Some j → (d : Class) × (ds j ≡ Some d)
    has n j e = there n j e (k == j) refl

-- what stands at a key after one key is changed
module _ {A : Type 0} (m : ℕ → Option A) (key : ℕ) (o : Option A) where
  pub at_by : (n : ℕ) → ((n ≡ key) × (with_at m key o n ≡ o)) ⊎ ((n ≢ key) × (with_at m key o n ≡ m n))
  at_by n = by (key == n) refl
    where
      by : (b : Bool) → (key == n) ≡ b → ((n ≡ key) × (with_at m key o n ≡ o)) ⊎ ((n ≢ key) × (with_at m key o n ≡ m n))
      by true e = inl (sym (eqb-true key n e), ap (λ b. if b then o else m n) e)
      by false e = inr ((λ q. (let w : ◌≡◌ {A = Bool} true false = sym (eq-eqb key n (sym q)) ∙ e in cc w)), ap (λ b. if b then o else m n) e)

some_not : {A : Type 0} (o : Option A) (x : A) → o ≡ None → o ≡ Some x → ⊥
some_not {A = A} o x p q = let w : ◌≡◌ {A = Option A} None (Some x) = sym p ∙ q in cc w

some_one : (o : Option ℕ) (j k : ℕ) → o ≡ Some k → o ≡ Some j → j ≡ k
some_one o j k p q = let w : ◌≡◌ {A = Option ℕ} (Some k) (Some j) = sym p ∙ q in let v : k ≡ j = cc w in sym v

-- ---- a name leaves its class
pub members_left : (ns : ℕ → Option ℕ) (name k : ℕ) (ps qs : List (ℕ × Unit {0})) → AreMembers ns k ps → ((q : ℕ) → found qs q ≡ with_at (found ps) name None q) → AreMembers (with_at ns name None) k qs
members_left ns name k ps qs m at = record {
  has = λ n h. elim (at_by ns name None n) [
    | inl e ↦ absurd (some_not (with_at ns name None n) k e.1 h)
    | inr e ↦ at n ∙ at_other (found ps) name None n e.0 ∙ m.has n (sym e.1 ∙ h)
  ];
  only = λ n h. elim (at_by (found ps) name None n) [
    | inl e ↦ absurd (some_not (found qs n) tt (at n ∙ e.1) h)
    | inr e ↦ at_other ns name None n e.0 ∙ m.only n (sym (at n ∙ e.1) ∙ h)
  ];
}

pub left : (f g h : Sets) (cs ds : ℕ → Option Class) (ns : ℕ → Option ℕ) (name k none v : ℕ) (c : Class) → AreClasses f cs ns → StandsFor f none [] → ns name ≡ Some k → v ≡ set_of (cs k) none
    → Lasts f g → present g ≡ map_at f v → Lasts g h → ((q : ℕ) → found (present h) q ≡ with_at (found (present g)) name None q) → IsClassOf h (present h) c
    → ((q : ℕ) → ds q ≡ with_at cs k (Some c) q) → AreClasses h ds (with_at ns name None)
left f g h cs ds ns name k none v c a s e ev l p l' at x at' =
    class_renewed f h cs ds ns (with_at ns name None) k c (present h) (lasts_then f g h l l') a x
    (members_left ns name k (present g) (present h) (subst (AreMembers ns k) (sym p) (members_at f cs ns k none v a s ev)) at) at'
    (λ j n d q. elim (at_by ns name None n) [ inl w ↦ absurd (some_not (with_at ns name None n) j w.1 q) | inr w ↦ sym w.1 ∙ q ])
    (λ j n d q. elim (at_by ns name None n) [ inl w ↦ absurd (d (some_one (ns n) j k (ap ns w.0 ∙ e) q)) | inr w ↦ w.1 ∙ q ])

pub stays : (f : Sets) (cs : ℕ → Option Class) (ns : ℕ → Option ℕ) (name : ℕ) → AreClasses f cs ns → ns name ≡ None → AreClasses f cs (with_at ns name None)
stays f cs ns name a e = classes_by f cs cs ns (with_at ns name None) (λ k. refl) (λ n. elim (at_by ns name None n) [ inl w ↦ w.1 ∙ sym (ap ns w.0 ∙ e) | inr w ↦ w.1 ]) a

-- ---- a name joins a class
pub members_joined : (ns : ℕ → Option ℕ) (name k : ℕ) (ps qs : List (ℕ × Unit {0})) → AreMembers (with_at ns name None) k ps → ((q : ℕ) → found qs q ≡ with_at (found ps) name (Some tt) q)
    → AreMembers (with_at ns name (Some k)) k qs
members_joined ns name k ps qs m at = record {
  has = λ n h. elim (at_by (found ps) name (Some tt) n) [
    | inl e ↦ at n ∙ e.1
    | inr e ↦ at n ∙ e.1 ∙ m.has n (at_other ns name None n e.0 ∙ sym (at_other ns name (Some k) n e.0) ∙ h)
  ];
  only = λ n h. elim (at_by ns name (Some k) n) [
    | inl e ↦ e.1
    | inr e ↦ e.1 ∙ sym (at_other ns name None n e.0) ∙ m.only n (sym (at_other (found ps) name (Some tt) n e.0) ∙ sym (at n) ∙ h)
  ];
}

pub joined : (f g h : Sets) (cs ds : ℕ → Option Class) (ns : ℕ → Option ℕ) (name k none v : ℕ) (c : Class) → AreClasses f cs (with_at ns name None) → StandsFor f none [] → v ≡ set_of (cs k) none
    → Lasts f g → present g ≡ map_at f v → Lasts g h → ((q : ℕ) → found (present h) q ≡ with_at (found (present g)) name (Some tt) q) → IsClassOf h (present h) c
    → ((q : ℕ) → ds q ≡ with_at cs k (Some c) q) → AreClasses h ds (with_at ns name (Some k))
joined f g h cs ds ns name k none v c a s ev l p l' at x at' =
    class_renewed f h cs ds (with_at ns name None) (with_at ns name (Some k)) k c (present h) (lasts_then f g h l l') a x
    (members_joined ns name k (present g) (present h) (subst (AreMembers (with_at ns name None) k) (sym p) (members_at f cs (with_at ns name None) k none v a s ev)) at) at'
    (λ j n d q. elim (at_by ns name (Some k) n) [ inl w ↦ absurd (d (some_one (with_at ns name (Some k) n) j k w.1 q)) | inr w ↦ at_other ns name None n w.0 ∙ sym w.1 ∙ q ])
    (λ j n d q. elim (at_by ns name None n) [ inl w ↦ absurd (some_not (with_at ns name None n) j w.1 q) | inr w ↦ at_other ns name (Some k) n w.0 ∙ sym w.1 ∙ q ])

-- ---- what was changed is undone
pub classes_undone : (f g : Sets) (cs ds : List (ℕ × Class)) (ns ms : List (ℕ × ℕ)) → Lasts f g → ds ≡ cs → ms ≡ ns → AreClasses f (found cs) (found ns) → AreClasses g (found ds) (found ms)
classes_undone f g cs ds ns ms l p q a = classes_by g (found cs) (found ds) (found ns) (found ms) (λ k. ap (λ ps. found ps k) p) (λ n. ap (λ ps. found ps n) q) (classes_last f g (found cs) (found ns) l a)
