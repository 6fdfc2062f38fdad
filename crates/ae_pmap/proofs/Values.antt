use Rattle.std.proofs.Common.{◌≡◌, ℕ, ◌<◌, ◌≤◌, List, [], ◌∷◌, ◌++◌, length, refl, sym, ◌∙◌, ap, arith, Option, Some, None, is_some, true, false, get_or, slice_get, length-append, inl, inr}
use Rattle.std.proofs.lemmas.Bool.{cases_eq, cases_order}
use Rattle.std.proofs.lemmas.Bool.Decides.{nat_tests}
use Rattle.std.proofs.lemmas.Option.{slice_get_read}
use Rattle.ae_base.proofs.ListFacts.{value_at, get_before, get_seam}
use Rattle.ae_pmap.specs.declared.nodes.Node.{Node}
use Rattle.ae_pmap.specs.Pairs.{found, put_in, take_out, with_at, AllAbove, Rises}
use Rattle.ae_pmap.specs.Trees.{pairs}
use Rattle.ae_pmap.specs.Nodes.{tree_at}
use Rattle.ae_pmap.specs.Inner.Nodes.{Keeps}
use Rattle.ae_pmap.specs.Forest.{Forest, with_value, valued, map_at, present, AllNamed, IsRoot, Lasts}
use Rattle.ae_pmap.proofs.PairLemmas.{put_rises, out_rises}

-- what stands at a key of a changed map
pub found_put : {A : Type 0} (key : ℕ) (x : A) (q : ℕ) (ps : List (ℕ × A)) → found (put_in key x ps) q ≡ with_at (found ps) key (Some x) q
found_put key x q [] = grind (arith, nat_tests)
found_put key x q (p ∷ ps) = grind (arith, nat_tests, found_put key x q ps)

found_none : {A : Type 0} (key : ℕ) (ps : List (ℕ × A)) → AllAbove key ps → found ps key ≡ None
found_none key [] h = refl
found_none key (p ∷ ps) h = grind (arith, nat_tests, found_none key ps h.1, h.0)

pub found_out : {A : Type 0} (key q : ℕ) (ps : List (ℕ × A)) → Rises ps → found (take_out key ps) q ≡ with_at (found ps) key None q
found_out key q [] h = grind (arith, nat_tests)
found_out key q (p ∷ ps) h = grind (arith, nat_tests, found_out key q ps h.1, found_none p.0 ps h.0)

-- values and their places
abbrev pub read : {V : Type 0} → List V → Option ℕ → Option V
read xs None = None
read xs (Some place) = slice_get xs place

pub named_found : (n key p : ℕ) (ps : List (ℕ × ℕ)) → AllNamed n ps → found ps key ≡ Some p → p < n
named_found n key p [] h e = cc
named_found n key p (q ∷ ps) h e = grind (arith, nat_tests, named_found n key p ps h.1, h.0)

named_more : (n m : ℕ) (ps : List (ℕ × ℕ)) → n ≤ m → AllNamed n ps → AllNamed m ps
named_more n m [] l h = tt
named_more n m (q ∷ ps) l h = (omega (arith, h.0), named_more n m ps l h.1)

named_put : (n key v : ℕ) (ps : List (ℕ × ℕ)) → v < n → AllNamed n ps → AllNamed n (put_in key v ps)
named_put n key v [] l h = (l, tt)
named_put n key v (q ∷ ps) l h = grind (arith, nat_tests, named_put n key v ps l h.1, h.0, h.1)

named_out : (n key : ℕ) (ps : List (ℕ × ℕ)) → AllNamed n ps → AllNamed n (take_out key ps)
named_out n key [] h = tt
named_out n key (q ∷ ps) h = grind (arith, nat_tests, named_out n key ps h.1, h.0, h.1)

-- one more value changes no map
valued_more : {V : Type 0} (xs : List V) (v : V) (ps : List (ℕ × ℕ)) → AllNamed (length xs) ps → valued (xs ++ v ∷ []) ps ≡ valued xs ps
valued_more xs v [] h = refl
valued_more xs v (q ∷ ps) h = rw (get_before xs (v ∷ []) q.1 h.0, valued_more xs v ps h.1) refl

pub valued_step : {V : Type 0} (xs : List V) (p : ℕ × ℕ) (ps : List (ℕ × ℕ)) (v : V) → slice_get xs p.1 ≡ Some v → valued xs (p ∷ ps) ≡ (p.0, v) ∷ valued xs ps
valued_step xs p ps v e = ap (λ (o : Option _). with_value p.0 o (valued xs ps)) e

found_valued : {V : Type 0} (xs : List V) (key : ℕ) (ps : List (ℕ × ℕ)) → AllNamed (length xs) ps → found (valued xs ps) key ≡ read xs (found ps key)
found_valued xs key [] h = refl
found_valued xs key (q ∷ ps) h =
    let (v, e) = value_at xs q.1 h.0 in
    rw (valued_step xs q ps v e) (elim (cases_eq q.0 key) as (λ _. found ((q.0, v) ∷ valued xs ps) key ≡ read xs (found (q ∷ ps) key)) [
      | inl i ↦ grind (arith, nat_tests)
      | inr d ↦ grind (arith, nat_tests, found_valued xs key ps h.1)
    ])

pub valued_put : {V : Type 0} (xs : List V) (key : ℕ) (v : V) (ps : List (ℕ × ℕ)) → AllNamed (length xs) ps → valued (xs ++ v ∷ []) (put_in key (length xs) ps) ≡ put_in key v (valued xs ps)
valued_put xs key v [] h = rw (get_seam xs [] v) refl
valued_put {V} xs key v (q ∷ ps) h =
    let (u, e) = value_at xs q.1 h.0 in
    let a : slice_get (xs ++ v ∷ []) (length xs) ≡ Some v = get_seam xs [] v in
    let b : valued (xs ++ v ∷ []) ps ≡ valued xs ps = valued_more xs v ps h.1 in
    let d : slice_get (xs ++ v ∷ []) q.1 ≡ Some u = get_before xs (v ∷ []) q.1 h.0 ∙ e in
    rw (valued_step xs q ps u e) (elim (cases_order key q.0) as (λ _. valued (xs ++ v ∷ []) (put_in key (length xs) (q ∷ ps)) ≡ put_in key v ((q.0, u) ∷ valued xs ps)) [
      | inl i ↦ grind (arith, nat_tests, a, b)
      | inr o ↦ elim o as (λ _. valued (xs ++ v ∷ []) (put_in key (length xs) (q ∷ ps)) ≡ put_in key v ((q.0, u) ∷ valued xs ps)) [
        | inl lt ↦ grind (arith, nat_tests, a, b, d)
        | inr gt ↦ grind (arith, nat_tests, d, valued_put xs key v ps h.1)
      ]
    ])

pub valued_out : {V : Type 0} (xs : List V) (key : ℕ) (ps : List (ℕ × ℕ)) → AllNamed (length xs) ps → valued xs (take_out key ps) ≡ take_out key (valued xs ps)
valued_out xs key [] h = refl
valued_out xs key (q ∷ ps) h =
    let (u, e) = value_at xs q.1 h.0 in
    rw (valued_step xs q ps u e) (elim (cases_eq q.0 key) as (λ _. valued xs (take_out key (q ∷ ps)) ≡ take_out key ((q.0, u) ∷ valued xs ps)) [
      | inl i ↦ grind (arith, nat_tests)
      | inr d ↦ grind (arith, nat_tests, e, valued_out xs key ps h.1)
    ])

above_valued : {V : Type 0} (xs : List V) (k : ℕ) (ps : List (ℕ × ℕ)) → AllNamed (length xs) ps → AllAbove k ps → AllAbove k (valued xs ps)
above_valued xs k [] h a = tt
above_valued xs k (q ∷ ps) h a = let (u, e) = value_at xs q.1 h.0 in rw (valued_step xs q ps u e) (a.0, above_valued xs k ps h.1 a.1)

pub rises_valued : {V : Type 0} (xs : List V) (ps : List (ℕ × ℕ)) → AllNamed (length xs) ps → Rises ps → Rises (valued xs ps)
rises_valued xs [] h a = tt
rises_valued xs (q ∷ ps) h a = let (u, e) = value_at xs q.1 h.0 in rw (valued_step xs q ps u e) (above_valued xs q.0 ps h.1 a.0, rises_valued xs ps h.1 a.1)

-- taking out what isn't there
pub out_absent : {A : Type 0} (key : ℕ) (ps : List (ℕ × A)) → found ps key ≡ None → take_out key ps ≡ ps
out_absent key [] h = refl
out_absent key (p ∷ ps) h = elim (cases_eq p.0 key) as (λ _. take_out key (p ∷ ps) ≡ p ∷ ps) [
  | inl i ↦ grind (arith, nat_tests, h)
  | inr d ↦ grind (arith, nat_tests, h, out_absent key ps)
]

module _ {V : Type 0} (f : Forest V) where
  pub present_rises : IsRoot f f.root → Rises (present f)
  present_rises h = rises_valued f.values (pairs (tree_at f.nodes f.root)) h.named h.rises

  pub found_present : (key : ℕ) → IsRoot f f.root → found (present f) key ≡ read f.values (found (pairs (tree_at f.nodes f.root)) key)
  found_present key h = found_valued f.values key (pairs (tree_at f.nodes f.root)) h.named

-- more nodes, and one more value
module _ {V : Type 0} (f : Forest V) (nodes : List Node) (v : V) (keeps : Keeps f.nodes nodes) where
  abbrev pub larger : ℕ → Forest V
  larger root = record { nodes = nodes; values = f.values ++ v ∷ []; root = root }

  pub root_lasts : (r root : ℕ) → IsRoot f r → IsRoot (larger root) r
  root_lasts r root h = record {
    within = omega (arith, keeps.size, h.within);
    rises = rw (keeps.trees r h.within) h.rises;
    named = rw (keeps.trees r h.within) (named_more (length f.values) (length (f.values ++ v ∷ [])) (pairs (tree_at f.nodes r)) (omega (arith, length-append f.values (v ∷ []))) h.named);
  }

  pub map_lasts : (r root : ℕ) → IsRoot f r → map_at (larger root) r ≡ map_at f r
  map_lasts r root h = rw (keeps.trees r h.within) (valued_more f.values v (pairs (tree_at f.nodes r)) h.named)

  pub lasts : (root : ℕ) → Lasts f (larger root)
  lasts root r m s = record { fits = root_lasts r root s.fits; is = map_lasts r root s.fits ∙ s.is }

  -- the root after an insertion
  pub put_root : (root key : ℕ) → root ≤ length nodes → IsRoot f f.root → pairs (tree_at nodes root) ≡ put_in key (length f.values) (pairs (tree_at f.nodes f.root)) → IsRoot (larger root) root
  put_root root key l h e = record {
    within = l;
    rises = rw e (put_rises key (length f.values) (pairs (tree_at f.nodes f.root)) h.rises);
    named = rw e (named_put (length (f.values ++ v ∷ [])) key (length f.values) (pairs (tree_at f.nodes f.root)) (omega (arith, length-append f.values (v ∷ [])))
        (named_more (length f.values) (length (f.values ++ v ∷ [])) (pairs (tree_at f.nodes f.root)) (omega (arith, length-append f.values (v ∷ []))) h.named));
  }

  pub put_map : (root key : ℕ) → IsRoot f f.root → pairs (tree_at nodes root) ≡ put_in key (length f.values) (pairs (tree_at f.nodes f.root)) → map_at (larger root) root ≡ put_in key v (present f)
  put_map root key h e = rw e (valued_put f.values key v (pairs (tree_at f.nodes f.root)) h.named)

-- more nodes
module _ {V : Type 0} (f : Forest V) (nodes : List Node) where
  -- the root after a removal
  pub out_root : (root key : ℕ) → root ≤ length nodes → IsRoot f f.root → pairs (tree_at nodes root) ≡ take_out key (pairs (tree_at f.nodes f.root)) → IsRoot (record { nodes = nodes; values = f.values; root = root }) root
  out_root root key l h e = record {
    within = l;
    rises = rw e (out_rises key (pairs (tree_at f.nodes f.root)) h.rises);
    named = rw e (named_out (length f.values) key (pairs (tree_at f.nodes f.root)) h.named);
  }

  pub out_map : (root key : ℕ) → IsRoot f f.root → pairs (tree_at nodes root) ≡ take_out key (pairs (tree_at f.nodes f.root)) → map_at (record { nodes = nodes; values = f.values; root = root }) root ≡ take_out key (present f)
  out_map root key h e = rw e (valued_out f.values key (pairs (tree_at f.nodes f.root)) h.named)

pub got_within : {V : Type 0} (f : Forest V) (nodes : List Node) (key place : ℕ) → nodes ≡ f.nodes → Some place ≡ found (pairs (tree_at nodes f.root)) key → IsRoot f f.root → place < length f.values
got_within f nodes key place n e h = named_found (length f.values) key place (pairs (tree_at f.nodes f.root)) h.named (sym (e ∙ ap (λ (w : List Node). found (pairs (tree_at w f.root)) key) n))

pub got : {V : Type 0} (f : Forest V) (nodes : List Node) (key place : ℕ) (x : V) → nodes ≡ f.nodes → Some place ≡ found (pairs (tree_at nodes f.root)) key → IsRoot f f.root
    → x ≡ get_or f.values place x → Some x ≡ found (present f) key
got f nodes key place x n e h r =
    let k : found (pairs (tree_at f.nodes f.root)) key ≡ Some place = sym (e ∙ ap (λ (w : List Node). found (pairs (tree_at w f.root)) key) n) in
    sym (found_present f key h ∙ (ap (read f.values) k ∙ slice_get_read f.values (length f.values) place x refl (got_within f nodes key place n e h) r))

pub got_none : {V : Type 0} (f : Forest V) (nodes : List Node) (key : ℕ) → nodes ≡ f.nodes → None ≡ found (pairs (tree_at nodes f.root)) key → IsRoot f f.root → None ≡ found (present f) key
got_none f nodes key n e h =
    let k : found (pairs (tree_at f.nodes f.root)) key ≡ None = sym (e ∙ ap (λ (w : List Node). found (pairs (tree_at w f.root)) key) n) in
    sym (found_present f key h ∙ ap (read f.values) k)

-- a test of what a search found
pub none_found : {V : Type 0} (f : Forest V) (nodes : List Node) (key : ℕ) (o : Option ℕ) → nodes ≡ f.nodes → o ≡ found (pairs (tree_at nodes f.root)) key → is_some o ≡ false → IsRoot f f.root → found (present f) key ≡ None
none_found f nodes key None n e t h = sym (got_none f nodes key n e h)
none_found f nodes key (Some place) n e t h = cc

pub some_found : {V : Type 0} (f : Forest V) (nodes : List Node) (key : ℕ) (o : Option ℕ) → nodes ≡ f.nodes → o ≡ found (pairs (tree_at nodes f.root)) key → is_some o ≡ true → IsRoot f f.root → found (present f) key ≡ None → ⊥
some_found f nodes key None n e t h a = cc
some_found f nodes key (Some place) n e t h a =
    let (v, s) = value_at f.values place (got_within f nodes key place n e h) in
    let k : found (pairs (tree_at f.nodes f.root)) key ≡ Some place = sym (e ∙ ap (λ (w : List Node). found (pairs (tree_at w f.root)) key) n) in
    let b : Some v ≡ None = sym (found_present f key h ∙ (ap (read f.values) k ∙ s)) ∙ a in cc

-- a version that fits goes on fitting
pub fits_lasts : {V : Type 0} (old new : Forest V) (root : ℕ) → Lasts old new → IsRoot old root → IsRoot new root
fits_lasts old new root l h = (l root (map_at old root) (record { fits = h; is = refl })).fits
