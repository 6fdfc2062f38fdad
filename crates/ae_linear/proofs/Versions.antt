-- Versions of rows, and rows in which a name was eliminated.
use Rattle.std.specs.Prelude.{◌≡◌, ◌≢◌, ℕ, ◌⊎◌, true, false, List, [], ◌∷◌, Option, Some, None}
use Rattle.std.specs.List.{Contains}
use Rattle.std.proofs.Common.{refl, sym, ap, ◌∙◌, subst, arith, inl, inr}
use native.Mathlib.Decide.{ℕ_discrete}
use Rattle.ae_pmap.specs.Forest.{Forest, map_at, IsRoot, Lasts as MapLasts}
use Rattle.ae_pmap.specs.Pairs.{found, with_at}
use Rattle.ae_pmap.proofs.PairLemmas.{at_same, at_other}
use Rattle.ae_num.specs.declared.forms.Lin.{Lin}
use Rattle.ae_num.specs.Forms.{IsNormal, has_key}
use Rattle.ae_linear.specs.declared.occurrences.Link.{Link}
use Rattle.ae_linear.specs.declared.rows.Row.{Row}
use Rattle.ae_linear.specs.Inner.Occurrences.{AreLinked, OccursIn, AllOccur, Grows}
use Rattle.ae_linear.specs.Rows.{AreRows, IsFree, IsSubstituted, IsSubstitutedAt, ArePut, AreIndexed, Lasts}
use Rattle.ae_linear.proofs.Links.{occurs_grows}
use Rattle.ae_linear.proofs.RowLaws.{old_at, gone, came_from}

-- ---- a version after changes
pub map_lasts : {V : Type 0} (old new : Forest V) (root : ℕ) → MapLasts old new → IsRoot old root → IsRoot new root × (map_at new root ≡ map_at old root)
map_lasts old new root l r = let s = l root (map_at old root) (record { fits = r; is = refl }) in (s.fits, s.is)

pub indexed_grows : (rows : ℕ → Option Row) (heads : ℕ → Option ℕ) (old new : List Link) → Grows old new → AreLinked new → AreIndexed rows heads old → AreIndexed rows heads new
indexed_grows rows heads old new g l i = record {
  are_rows = i.are_rows;
  are_linked = l;
  are_heads = record { within = λ key head e. let w = i.are_heads.within key head e in omega (arith, w, g.longer) };
  finds = λ n key row e h. let o = i.finds n key row e h in record { head = o.head; there = o.there; from = occurs_grows old new o.head n g o.from };
}

pub versions_last : (rows rows' : Forest Row) (heads heads' : Forest ℕ) (links links' : List Link) → MapLasts rows rows' → MapLasts heads heads' → Grows links links' → AreLinked links'
    → Lasts (record { rows = rows; heads = heads; links = links }) (record { rows = rows'; heads = heads'; links = links' })
versions_last rows rows' heads heads' links links' lr lh g l shared f s =
    let r = map_lasts rows rows' shared.rows lr s.fits.rows in
    let h = map_lasts heads heads' shared.heads lh s.fits.heads in
    record {
      fits = record {
        rows = r.0;
        heads = h.0;
        indexed =
            subst (λ (ps : List (ℕ × Row)). AreIndexed (λ n. found ps n) (λ n. found (map_at heads' shared.heads) n) links') (sym r.1)
            (subst (λ (ps : List (ℕ × ℕ)). AreIndexed (λ n. found (map_at rows shared.rows) n) (λ n. found ps n) links') (sym h.1)
            (indexed_grows (λ n. found (map_at rows shared.rows) n) (λ n. found (map_at heads shared.heads) n) links links' g l s.fits.indexed));
      };
      is = λ n. ap (λ (ps : List (ℕ × Row)). found ps n) r.1 ∙ s.is n;
    }

pub indexed_same : (rows rows' : List (ℕ × Row)) (heads heads' : List (ℕ × ℕ)) (links : List Link) → rows' ≡ rows → heads' ≡ heads → AreIndexed (λ n. found rows n) (λ n. found heads n) links → AreIndexed (λ n. found rows' n) (λ n. found heads' n) links
indexed_same rows rows' heads heads' links e f i =
    subst (λ (ps : List (ℕ × Row)). AreIndexed (λ n. found ps n) (λ n. found heads' n) links) (sym e)
    (subst (λ (ps : List (ℕ × ℕ)). AreIndexed (λ n. found rows n) (λ n. found ps n) links) (sym f) i)

-- ---- a name is eliminated
module _ (old mid new : ℕ → Option Row) (x just : ℕ) (q : Lin) (nq : IsNormal q) (lacks : has_key q.parts x ≡ false) (are : AreRows old) (free : IsFree old q)
    (sub : (n : ℕ) → IsSubstitutedAt (old n) x q (mid n)) (at : (n : ℕ) → new n ≡ with_at mid x (Some (record { value = q; just = just })) n) where
  here : new x ≡ Some (record { value = q; just = just })
  here = at x ∙ at_same mid x (Some (record { value = q; just = just }))

  there : (n : ℕ) → n ≢ x → new n ≡ mid n
  there n d = at n ∙ at_other mid x (Some (record { value = q; just = just })) n d

  pub are_put : ArePut old x q just new
  are_put = record { row = here; others = λ n d. subst (λ (o : Option Row). IsSubstitutedAt (old n) x q o) (sym (there n d)) (sub n) }

  is_row : (row : Row) → new x ≡ Some row → record { value = q; just = just } ≡ row
  is_row row e = let c : Some (record { value = q; just = just }) ≡ Some row = sym here ∙ e in cc

  -- the old row of another name
  was : (n : ℕ) (row : Row) → n ≢ x → new n ≡ Some row → (o : Row) × (old n ≡ Some o) × IsSubstituted o x q row
  was n row d e = old_at (old n) (mid n) x q row (sub n) (sym (there n d) ∙ e)

  none_new : (key : ℕ) → old key ≡ None → key ≢ x → new key ≡ None
  none_new key e d = there key d ∙ subst (λ (o : Option Row). IsSubstitutedAt o x q (mid key)) e (sub key)

  value_free : IsFree new q
  value_free key h = none_new key (free key h) (λ e. let c : true ≡ false = sym h ∙ ap (has_key q.parts) e ∙ lacks in cc)

  pub are_rows : AreRows new
  are_rows = record { normal = λ n row e. normal_by n row e (ℕ_discrete n x); free = λ n row e. free_by n row e (ℕ_discrete n x) }
    where
      normal_by : (n : ℕ) (row : Row) → new n ≡ Some row → Dec (n ≡ x) → IsNormal row.value
      normal_by n row e (yes s) = subst (λ (r : Row). IsNormal r.value) (is_row row (ap new (sym s) ∙ e)) nq
      normal_by n row e (no d) = (was n row d e).2.normal

      free_by : (n : ℕ) (row : Row) → new n ≡ Some row → Dec (n ≡ x) → IsFree new row.value
      free_by n row e (yes s) = subst (λ (r : Row). IsFree new r.value) (is_row row (ap new (sym s) ∙ e)) value_free
      free_by n row e (no d) = let w = was n row d e in λ key h. by_part w.0 w.1 w.2 key h (came_from w.0.value x q row.value (are.normal n w.0 w.1) nq w.2.normal lacks w.2.form key h)
        where
          by_part : (o : Row) → old n ≡ Some o → IsSubstituted o x q row → (key : ℕ) → has_key row.value.parts key ≡ true → (has_key o.value.parts key ≡ true) ⊎ (has_key q.parts key ≡ true) → new key ≡ None
          by_part o f s key h (inr k) = value_free key k
          by_part o f s key h (inl k) =
              none_new key (are.free n o f key k)
              (λ g. let c : true ≡ false = sym h ∙ ap (has_key row.value.parts) g ∙ gone o.value x q row.value (are.normal n o f) nq s.normal lacks s.form in cc)

  module _ (names : List ℕ) (heads heads1 heads2 : Forest ℕ) (links links1 links2 : List Link) (touched : (n : ℕ) → Contains names n ⊎ (mid n ≡ old n))
      (finds : (n key : ℕ) (row : Row) → old n ≡ Some row → has_key row.value.parts key ≡ true → OccursIn heads links key n)
      (stays1 : (key row : ℕ) → OccursIn heads links key row → OccursIn heads1 links1 key row) (stays2 : (key row : ℕ) → OccursIn heads1 links1 key row → OccursIn heads2 links2 key row)
      (named1 : (key : ℕ) → has_key q.parts key ≡ true → AllOccur heads1 links1 key names) (named2 : (key : ℕ) → has_key q.parts key ≡ true → AllOccur heads2 links2 key (x ∷ [])) where
    pub finds_new : (n key : ℕ) (row : Row) → new n ≡ Some row → has_key row.value.parts key ≡ true → OccursIn heads2 links2 key n
    finds_new n key row e h = by_name (ℕ_discrete n x)
      where
        by_name : Dec (n ≡ x) → OccursIn heads2 links2 key n
        by_name (yes s) = named2 key (subst (λ (r : Row). has_key r.value.parts key ≡ true) (sym (is_row row (ap new (sym s) ∙ e))) h) n (0, omega arith, sym s)
        by_name (no d) = let w = was n row d e in by_touch w.0 w.1 w.2 (touched n)
          where
            by_part : (o : Row) → old n ≡ Some o → Contains names n → (has_key o.value.parts key ≡ true) ⊎ (has_key q.parts key ≡ true) → OccursIn heads2 links2 key n
            by_part o f t (inl k) = stays2 key n (stays1 key n (finds n key o f k))
            by_part o f t (inr k) = stays2 key n (named1 key k n t)

            by_touch : (o : Row) → old n ≡ Some o → IsSubstituted o x q row → Contains names n ⊎ (mid n ≡ old n) → OccursIn heads2 links2 key n
            by_touch o f s (inl t) = by_part o f t (came_from o.value x q row.value (are.normal n o f) nq s.normal lacks s.form key h)
            by_touch o f s (inr same) =
                let c : Some o ≡ Some row = sym f ∙ sym same ∙ sym (there n d) ∙ e in
                let r : o ≡ row = cc in
                stays2 key n (stays1 key n (finds n key o f (subst (λ (y : Row). has_key y.value.parts key ≡ true) (sym r) h)))
