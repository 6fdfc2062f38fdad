-- What is told of the sizes of typed trees, at the places of a list, and of lists of them.
use Rattle.std.proofs.Common.{arith, ◌≡◌, ◌∙◌, ℕ, suc, ◌+◌, ◌<◌, ◌≤◌, ⊎_elim, Bool, true, false, Option, Some, None, List, [], ◌∷◌, ◌++◌, map, length, take, drop, min, get_or, slice_get, refl, sym, ap, append_assoc}
use Rattle.std.specs.Option.{option_map}
use Rattle.std.proofs.lemmas.Bool.{cases_lt}
use Rattle.std.proofs.lemmas.List.{drop_more, take_more, take_all, map-append}
use Rattle.std.proofs.Math.Seq.{take-length}
use Rattle.std.proofs.lemmas.Option.{slice_get-map}
use Rattle.ae_core.specs.declared.terms.Sort.{Sort}
use Rattle.ae_core.specs.declared.terms.Head.{Head}
use Rattle.ae_core.specs.declared.terms.Head.TheVariants as head
use Rattle.ae_syntax.specs.declared.exprs.Quantifier.{Quantifier}
use Rattle.ae_elab.specs.declared.nodes.Node.{Node}
use Rattle.ae_elab.specs.declared.nodes.Pattern.{Pattern}
use Rattle.ae_elab.specs.Nodes.{Entry, a_tree, a_claim, tree_in, tree_at, trees_at, patterns_at, entry_of, entries_of}
use Rattle.ae_elab.specs.Sizes.{Size, round}
use Rattle.ae_elab.specs.Trees.{Tree, Claim, Relation, equal, unequal, less, at_most, greater, at_least, claim_of, claim_of_head, variable, numeral, apply, operation, build, update, choice, holds}
use Rattle.ae_elab.specs.Weights.{one_case, within, beside, together, size_of, relation_nodes, merges}
use Rattle.ae_elab.proofs.NodeLaws.{entries_more}
use Rattle.ae_sizes.specs.declared.weights.Size as code_size
use Rattle.ae_sizes.specs.declared.weights.Weight as code_weight
use Rattle.ae_sizes.specs.declared.measures.Measure.{Measure}
use Rattle.ae_sizes.specs.declared.measures.Measure.TheVariants.{Term, Formula}
use Rattle.ae_sizes.specs.Inner.Counted.{capped, counted, block_of, told}
use Rattle.ae_sizes.specs.Inner.Weights.{Stand, standing, once, all_standing, weight, weight_list, pattern_sizes, claim_size}

-- a formula in the place of a term stands for no term
pub formula_there : (f : ℕ → Sort) (e : Entry) (s : code_size.Size) (b : Option Quantifier) → Formula s b ≡ told f e
    → counted (size_of (within 1 (beside (round [] ∷ []) (one_case 1)))) ≡ counted (claim_size f (claim_of (tree_in (Some e))))
formula_there f (a_claim c) s b h = refl
formula_there f (a_tree t) s b h = absurd (cc)

pub relation_small : (r : Relation) → relation_nodes r ≡ capped (relation_nodes r)
relation_small equal = refl
relation_small unequal = refl
relation_small less = refl
relation_small at_most = refl
relation_small greater = refl
relation_small at_least = refl

-- nothing is told of a place where nothing stands
pub none_there : {A B : Type 0} (g : A → B) (xs : List A) (ys : List B) (n : ℕ) → ys ≡ map g xs → slice_get ys n ≡ None → slice_get xs n ≡ None
none_there g xs ys n e h = found (slice_get xs n) refl
  where
    found : (o : Option _) → slice_get xs n ≡ o → slice_get xs n ≡ None
    found None p = p
    found (Some x) p = absurd (let q : None ≡ Some (g x) = sym h ∙ ap (λ z. slice_get z n) e ∙ slice_get-map g xs n ∙ ap (option_map g) p in cc)

-- ---- the terms of a list, from the last to the first
pub standing_next : (last : Bool) (f : ℕ → Sort) (g : ℕ → Stand) (es : List Entry) (ns : List ℕ) (p : ℕ) → p < length ns
    → together (standing (g p).times (g p).levels (weight last f (tree_at es (get_or ns p 0)))) (all_standing g (p + 1) (weight_list last f (trees_at es (drop (p + 1) ns))))
    ≡ all_standing g p (weight_list last f (trees_at es (drop p ns)))
standing_next last f g es ns p l =
    let n = get_or ns p 0 in
    ap (λ k. together (standing (g p).times (g p).levels (weight last f (tree_at es n))) (all_standing g k (weight_list last f (trees_at es (drop (p + 1) ns)))))
    (let h : p + 1 ≡ suc p = omega arith in h)
    ∙ ap (λ z. all_standing g p (weight_list last f (trees_at es z))) (sym (drop_more ns p 0 l))

pub weights_long : (last : Bool) (f : ℕ → Sort) (es : List Entry) (ns : List ℕ) → length (weight_list last f (trees_at es ns)) ≡ length ns
weights_long last f es [] = refl
weights_long last f es (n ∷ ns) = ap suc (weights_long last f es ns)

-- ---- blocks
no_head : (h : Head) (c : Claim) → block_of c ≡ None → block_of (claim_of_head h c) ≡ None
no_head head.True c e = refl
no_head head.False c e = refl
no_head h c e = e

-- a term that stands for a formula is no block
pub no_block : (t : Tree) → block_of (claim_of t) ≡ None
no_block (variable x) = refl
no_block (numeral a b r) = refl
no_block (apply h ss us) = no_head h (holds (apply h ss us)) refl
no_block (operation o s us) = refl
no_block (build of ss n ps us) = refl
no_block (update of ss n b ps us) = refl
no_block (choice c s t) = refl

pub merges_not : (q : Quantifier) (es : List Entry) (ts : List Pattern) (c : Claim) → 0 < length ts → false ≡ merges q (patterns_at es ts) c
merges_not q es [] c h = absurd (omega arith)
merges_not q es (t ∷ ts) c h = refl

-- ---- measures are the same where their parts are
pub term_is : (a b a' b' : code_weight.Weight) (s s' : code_size.Size) → a ≡ a' → b ≡ b' → s ≡ s' → Term a b s ≡ Term a' b' s'
term_is a b a' b' s s' d e f = ap (λ x. Term x b s) d ∙ ap (λ x. Term a' x s) e ∙ ap (Term a' b') f

pub formula_is : (s s' : code_size.Size) (o o' : Option Quantifier) → s ≡ s' → o ≡ o' → Formula s o ≡ Formula s' o'
formula_is s s' o o' e f = ap (λ x. Formula x o) e ∙ ap (Formula s') f

-- ---- triggers, one more
patterns_more : (f : ℕ → Sort) (es : List Entry) (ps : List Pattern) (p : Pattern)
    → pattern_sizes f (patterns_at es (ps ++ p ∷ [])) ≡ pattern_sizes f (patterns_at es ps) ++ size_of (all_standing once 0 (weight_list true f (trees_at es p.terms))) ∷ []
patterns_more f es [] p = refl
patterns_more f es (q ∷ ps) p = ap (λ z. size_of (all_standing once 0 (weight_list true f (trees_at es q.terms))) ∷ z) (patterns_more f es ps p)

pub patterns_next : (f : ℕ → Sort) (es : List Entry) (ss : List Size) (ps : List Pattern) (i : ℕ) (p : Pattern) → i < length ps → p ≡ get_or ps i p
    → (ss ++ pattern_sizes f (patterns_at es (take i ps))) ++ size_of (all_standing once 0 (weight_list true f (trees_at es p.terms))) ∷ []
    ≡ ss ++ pattern_sizes f (patterns_at es (take (i + 1) ps))
patterns_next f es ss ps i p l e =
    append_assoc ss (pattern_sizes f (patterns_at es (take i ps))) (size_of (all_standing once 0 (weight_list true f (trees_at es p.terms))) ∷ [])
    ∙ ap (λ z. ss ++ z)
    (sym (patterns_more f es (take i ps) p) ∙ ap (λ z. pattern_sizes f (patterns_at es z)) (ap (λ y. take i ps ++ y ∷ []) e ∙ sym (take_more ps i p l)))

-- ---- the places of as many values as there are
pub take_both : {A : Type 0} (xs : List A) (k : ℕ) → take (min (length xs) k) xs ≡ take k xs
take_both xs k = ⊎_elim
    (λ (h : length xs < k). ap (λ n. take n xs) (let e : min (length xs) k ≡ length xs = omega arith in e) ∙ take-length xs ∙ sym (take_all k xs (omega arith)))
    (λ (h : k ≤ length xs). ap (λ n. take n xs) (let e : min (length xs) k ≡ k = omega arith in e))
    (cases_lt (length xs) k)

-- ---- nodes, one more
pub measures_next : (f : ℕ → Sort) (ns : List Node) (i : ℕ) (n : Node) (ms : List Measure) (m : Measure) → i < length ns → n ≡ get_or ns i n
    → ms ≡ map (told f) (entries_of (take i ns)) → m ≡ told f (entry_of (entries_of (take i ns)) n) → ms ++ m ∷ [] ≡ map (told f) (entries_of (take (i + 1) ns))
measures_next f ns i n ms m l e h k =
    ap (λ z. z ++ m ∷ []) h
    ∙ ap (λ z. map (told f) (entries_of (take i ns)) ++ z ∷ []) k
    ∙ sym (map-append (told f) (entries_of (take i ns)) (entry_of (entries_of (take i ns)) n ∷ []))
    ∙ ap (map (told f)) (sym (entries_more [] (take i ns) n) ∙ ap entries_of (ap (λ y. take i ns ++ y ∷ []) e ∙ sym (take_more ns i n l)))

-- what is told of a node that is seen to be another
pub node_is : (f : ℕ → Sort) (es : List Entry) (n n' : Node) (m : Measure) → n ≡ n' → m ≡ told f (entry_of es n') → m ≡ told f (entry_of es n)
node_is f es n n' m e h = h ∙ ap (λ z. told f (entry_of es z)) (sym e)
