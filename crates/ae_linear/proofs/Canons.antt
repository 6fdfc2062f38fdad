-- Forms in which the values of the names are put one after the other.
use Rattle.std.specs.Prelude.{◌≡◌, ◌≢◌, ℕ, ◌+◌, ◌<◌, ◌≤◌, ◌⊎◌, Bool, true, false, ◌||◌, List, ◌++◌, length, take, drop, slice_index_or, Option, Some, None, IfSome}
use Rattle.std.proofs.Common.{refl, sym, ap, ◌∙◌, subst, inl, inr}
use Rattle.std.proofs.lemmas.List.{take_more, drop_more, drop_all, take_all, take-append-drop}
use Rattle.std.proofs.lemmas.Bool.{ne_eqb}
use native.Mathlib.Decide.{ℕ_discrete}
use Rattle.ae_math.specs.Fractions.{one_ℚ}
use Rattle.ae_math.specs.Forms.{substitute}
use Rattle.ae_math.proofs.FormLaws.{value-same, value-substitute}
use Rattle.ae_num.specs.declared.forms.Part.{Part}
use Rattle.ae_num.specs.declared.forms.Lin.{Lin}
use Rattle.ae_num.specs.declared.numbers.Wide.{Wide}
use Rattle.ae_num.specs.Forms.{meaning, IsNormal, has_key}
use Rattle.ae_linear.specs.declared.rows.Row.{Row}
use Rattle.ae_linear.specs.Rows.{AreRows, IsFree}
use Rattle.ae_linear.specs.Canonical.{worth, SameByRows, IsPutBy, ArePutFor, none, past, more, IsWideBy, IsWideFor}
use Rattle.ae_linear.proofs.RowLaws.{gone, came_from}

-- the names before a place were taken
pub record IsCanonizing (rows : ℕ → Option Row) (form : Lin) (parts : List Part) (i : ℕ) (now : Lin) : Type 0 where
  pub normal : IsNormal now
  pub same : SameByRows rows form now
  pub follows : ArePutFor rows (take i parts) form now
  pub left : (key : ℕ) → has_key now.parts key ≡ true → (rows key ≡ None) ⊎ (has_key (drop i parts) key ≡ true)

pub canon_none : (rows : ℕ → Option Row) (form now : Lin) (parts : List Part) → IsNormal form → parts ≡ form.parts → now ≡ form → IsCanonizing rows form parts 0 now
canon_none rows form now parts n p e = record {
  normal = subst IsNormal (sym e) n;
  same = λ f m. ap (worth f) e;
  follows = none e;
  left = λ key h. inr (subst (λ (ps : List Part). has_key ps key ≡ true) (sym p) (subst (λ (l : Lin). has_key l.parts key ≡ true) e h));
}

-- a value lacks its own name
pub lacks_own : (rows : ℕ → Option Row) (key : ℕ) (row : Row) → AreRows rows → rows key ≡ Some row → has_key row.value.parts key ≡ false
lacks_own rows key row are e = by_test (has_key row.value.parts key) refl
  where
    by_test : (b : Bool) → has_key row.value.parts key ≡ b → has_key row.value.parts key ≡ false
    by_test true h = let c : Some row ≡ None = sym e ∙ are.free key row e key h in cc
    by_test false h = h

pub row_fits : (rows : ℕ → Option Row) (key : ℕ) → AreRows rows → (o : Option Row) → o ≡ rows key → IfSome o (λ row. IsNormal row.value × (has_key row.value.parts key ≡ false))
row_fits rows key are None e = tt
row_fits rows key are (Some row) e = (are.normal key row (sym e), lacks_own rows key row are (sym e))

module _ (rows : ℕ → Option Row) (are : AreRows rows) (form : Lin) (parts : List Part) (i : ℕ) (d : Part) (now : Lin) (c : IsCanonizing rows form parts i now) (inside : i < length parts) where
  abbrev pub part : Part
  part = slice_index_or parts i d

  -- the next names are those after the part, unless it is the part's
  next_key : (key : ℕ) → part.key ≢ key → has_key (drop i parts) key ≡ true → has_key (drop (i + 1) parts) key ≡ true
  next_key key n h =
      sym (ap (λ b. b || has_key (drop (i + 1) parts) key) (ne_eqb part.key key n)) ∙ sym (ap (λ (ps : List Part). has_key ps key) (drop_more parts i d inside)) ∙ h

  pub canon_stays : rows part.key ≡ None → IsCanonizing rows form parts (i + 1) now
  canon_stays e = record {
    normal = c.normal;
    same = c.same;
    follows = subst (λ (ps : List Part). ArePutFor rows ps form now) (sym (take_more parts i d inside)) (past part c.follows e);
    left = λ key h. by_part key (c.left key h) (ℕ_discrete part.key key);
  }
    where
      by_part : (key : ℕ) → (rows key ≡ None) ⊎ (has_key (drop i parts) key ≡ true) → Dec (part.key ≡ key) → (rows key ≡ None) ⊎ (has_key (drop (i + 1) parts) key ≡ true)
      by_part key (inl g) same = inl g
      by_part key (inr g) (yes s) = inl (ap rows (sym s) ∙ e)
      by_part key (inr g) (no n) = inr (next_key key n g)

  pub canon_more : (new : Lin) → IsPutBy (rows part.key) part.key now new → IsCanonizing rows form parts (i + 1) new
  canon_more new s =
      let row = s.row in
      let e = s.there in
      let g = gone now part.key row.value new c.normal (are.normal part.key row e) s.normal (lacks_own rows part.key row are e) s.form in
      record {
        normal = s.normal;
        same = λ f m.
            value-same ℕ_discrete f one_ℚ (meaning new) (substitute ℕ_discrete (meaning now) part.key (meaning row.value)) s.form
            ∙ value-substitute ℕ_discrete f one_ℚ (meaning now) part.key (meaning row.value) (m part.key row e) ∙ c.same f m;
        follows = subst (λ (ps : List Part). ArePutFor rows ps form new) (sym (take_more parts i d inside)) (more part c.follows s);
        left = λ key h. by_part row e g key h (came_from now part.key row.value new c.normal (are.normal part.key row e) s.normal (lacks_own rows part.key row are e) s.form key h);
      }
    where
      by_name : has_key new.parts part.key ≡ false → (key : ℕ) → has_key new.parts key ≡ true → (rows key ≡ None) ⊎ (has_key (drop i parts) key ≡ true) → Dec (part.key ≡ key)
          → (rows key ≡ None) ⊎ (has_key (drop (i + 1) parts) key ≡ true)
      by_name g key h (inl p) same = inl p
      by_name g key h (inr p) (no n) = inr (next_key key n p)
      by_name g key h (inr p) (yes t) = let k : true ≡ false = sym h ∙ ap (has_key new.parts) (sym t) ∙ g in cc

      by_part : (row : Row) → rows part.key ≡ Some row → has_key new.parts part.key ≡ false → (key : ℕ) → has_key new.parts key ≡ true → (has_key now.parts key ≡ true) ⊎ (has_key row.value.parts key ≡ true)
          → (rows key ≡ None) ⊎ (has_key (drop (i + 1) parts) key ≡ true)
      by_part row e g key h (inl p) = by_name g key h (c.left key p) (ℕ_discrete part.key key)
      by_part row e g key h (inr p) = inl (are.free part.key row e key p)

  pub canon_wide : parts ≡ form.parts → (w : Wide) → IsWideBy (rows part.key) now part.key w → IsWideFor rows form w
  canon_wide p w leaves = record {
    before = take i parts;
    part = part;
    after = drop (i + 1) parts;
    is = sym p ∙ sym (take-append-drop i parts) ∙ ap (λ (ps : List Part). take i parts ++ ps) (drop_more parts i d inside);
    now = now;
    follows = c.follows;
    leaves = leaves;
  }

-- at the end no eliminated name is left, and all names were taken
pub canon_free : (rows : ℕ → Option Row) (form : Lin) (parts : List Part) (i : ℕ) (now : Lin) → IsCanonizing rows form parts i now → length parts ≤ i → IsFree rows now
canon_free rows form parts i now c over key h = by_part (c.left key h)
  where
    by_part : (rows key ≡ None) ⊎ (has_key (drop i parts) key ≡ true) → rows key ≡ None
    by_part (inl e) = e
    by_part (inr k) = let t : false ≡ true = sym (ap (λ (ps : List Part). has_key ps key) (drop_all i parts over)) ∙ k in cc

pub canon_follows : (rows : ℕ → Option Row) (form : Lin) (parts : List Part) (i : ℕ) (now : Lin) → IsCanonizing rows form parts i now → length parts ≤ i → parts ≡ form.parts → ArePutFor rows form.parts form now
canon_follows rows form parts i now c over p = subst (λ (ps : List Part). ArePutFor rows ps form now) (take_all i parts over ∙ p) c.follows
