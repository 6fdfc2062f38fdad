-- Versions of rules after changes.
use Rattle.std.specs.Prelude.{◌≡◌, ℕ, List}
use Rattle.std.proofs.Common.{refl, sym, ap, ◌∙◌, subst}
use Rattle.ae_pmap.specs.Forest.{Forest, map_at, IsRoot, Lasts as MapLasts}
use Rattle.ae_pmap.specs.Pairs.{found}
use Rattle.ae_monoid.specs.declared.chains.Link.{Link}
use Rattle.ae_monoid.specs.declared.rules.Kept.{Kept}
use Rattle.ae_monoid.specs.Inner.Chains.{AreLinked, Grows}
use Rattle.ae_monoid.specs.Inner.Indexes.{AreIndexed}
use Rattle.ae_monoid.specs.Versions.{Lasts}
use Rattle.ae_monoid.proofs.Grown.{indexed_grows}

pub map_lasts : {V : Type 0} (old new : Forest V) (root : ℕ) → MapLasts old new → IsRoot old root → IsRoot new root × (map_at new root ≡ map_at old root)
map_lasts old new root l r = let s = l root (map_at old root) (record { fits = r; is = refl }) in (s.fits, s.is)

pub indexed_same : (kept kept' : List (ℕ × Kept)) (next : ℕ) (largest largest' elements elements' : List (ℕ × ℕ)) (links : List Link) → kept' ≡ kept → largest' ≡ largest → elements' ≡ elements
    → AreIndexed (λ n. found kept n) next (λ n. found largest n) (λ n. found elements n) links → AreIndexed (λ n. found kept' n) next (λ n. found largest' n) (λ n. found elements' n) links
indexed_same kept kept' next largest largest' elements elements' links e f g i =
    subst (λ (ps : List (ℕ × Kept)). AreIndexed (λ n. found ps n) next (λ n. found largest' n) (λ n. found elements' n) links) (sym e)
    (subst (λ (ps : List (ℕ × ℕ)). AreIndexed (λ n. found kept n) next (λ n. found ps n) (λ n. found elements' n) links) (sym f)
    (subst (λ (ps : List (ℕ × ℕ)). AreIndexed (λ n. found kept n) next (λ n. found largest n) (λ n. found ps n) links) (sym g) i))

pub versions_last : (kept kept' : Forest Kept) (next next' : ℕ) (largest largest' elements elements' : Forest ℕ) (links links' : List Link)
    → MapLasts kept kept' → MapLasts largest largest' → MapLasts elements elements' → Grows links links' → AreLinked links'
    → Lasts (record { kept = kept; next = next; largest = largest; elements = elements; links = links }) (record { kept = kept'; next = next'; largest = largest'; elements = elements'; links = links' })
versions_last kept kept' next next' largest largest' elements elements' links links' lk ll le g l shared rules len s =
    let k = map_lasts kept kept' shared.kept lk s.fits.kept in
    let x = map_lasts largest largest' shared.largest ll s.fits.largest in
    let y = map_lasts elements elements' shared.elements le s.fits.elements in
    record {
      fits = record {
        kept = k.0;
        largest = x.0;
        elements = y.0;
        indexed =
            indexed_same (map_at kept shared.kept) (map_at kept' shared.kept) shared.next (map_at largest shared.largest) (map_at largest' shared.largest) (map_at elements shared.elements)
            (map_at elements' shared.elements) links' k.1 x.1 y.1
            (indexed_grows (λ n. found (map_at kept shared.kept) n) shared.next (λ n. found (map_at largest shared.largest) n) (λ n. found (map_at elements shared.elements) n) links links' g l s.fits.indexed);
      };
      is = λ n. ap (λ (ps : List (ℕ × Kept)). found ps n) k.1 ∙ s.is n;
      len_is = s.len_is;
    }

pub same_last : {V : Type 0} (map : Forest V) → MapLasts map map
same_last map root ps s = s
