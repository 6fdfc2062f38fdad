-- Opening a block takes its quantifiers away and brings those of its body, which are one less.
use Rattle.std.specs.Prelude.{ℕ, suc, ◌<◌, ◌≤◌, ◌≡◌, ◌≢◌, Bool, true, false, List, [], ◌∷◌, ◌++◌, map, Some}
use Rattle.std.specs.List.{Contains}
use Rattle.std.proofs.Common.{refl, ap, ◌∙◌, subst, arith}
use Rattle.std.proofs.lemmas.List.Concat.{flat_map-append}
use Rattle.ae_base.proofs.Options.{never_some, when_some}
use Rattle.ae_block_constants.specs.declared.opened.Opened.{Opened}
use Rattle.ae_core.specs.Putting.{put_formula}
use Rattle.ae_core.specs.declared.formulas.Formula.{Formula, Formula-F, out-Formula}
use Rattle.ae_core.specs.declared.formulas.Formula.TheOpen as layer
use Rattle.ae_core.specs.declared.formulas.Quant.{Quant}
use Rattle.ae_core.specs.declared.terms.Term.{Term}
use Rattle.ae_journal.specs.States.{quant_of}
use Rattle.ae_rules.specs.Clauses.{Clause, literal, yes_of, no_of, is_true, is_false}
use Rattle.ae_rules.specs.Instances.{fresh_clause, are_numbered, count_from}
use Rattle.ae_block_counts.specs.Counts.{quantifiers, blocks_of, blocks_in, unseen_quantifiers, quantifiers_left}
use Rattle.ae_block_counts.proofs.Blocks.{clause_blocks, own_block, all_together}
use Rattle.ae_block_counts.proofs.Numbers.{by_layer, by_block, literal_within, put_within}
use Rattle.ae_block_counts.proofs.Seen.{among_here, same_unseen, seen_already, taken, within, joined, at_most_all, block_of, opened_more, not_opened}

-- the block with the literal of its body, where the block was seen
body_less : (f : Formula) (q : Quant) (sign other : Bool) (ts : List Term) (s : List Formula) → blocks_of f ≡ f ∷ [] → quantifiers f ≡ suc (quantifiers q.body)
    → unseen_quantifiers (f ∷ s) (clause_blocks (record { positive = sign; formula = f } ∷ literal other (put_formula ts q.body) ∷ [])) < quantifiers f
body_less f q sign other ts s own more =
    let seen = f ∷ s in
    let body = (literal other (put_formula ts q.body)).formula in
    let a = joined (blocks_of f) (blocks_of body ++ []) seen in
    let b = joined (blocks_of body) [] seen in
    let n : unseen_quantifiers seen (blocks_of f) ≡ 0 = ap (unseen_quantifiers seen) own ∙ seen_already seen f [] (among_here s f) in
    let c = at_most_all (blocks_of body) seen in
    let d = all_together body in
    let l = literal_within other (put_formula ts q.body) in
    let p = put_within ts q.body in
    omega (arith, a, b, n, c, d, l, p, more)

fresh_less : (f : Formula) (m : ℕ) (c : Clause) (s : List Formula) → fresh_clause f m (out-Formula f) ≡ Some c → unseen_quantifiers (f ∷ s) (clause_blocks c) < quantifiers f
fresh_less f m c s e = from (out-Formula f) refl e
  where
    from : (o : Formula-F Formula Quant) → out-Formula f ≡ o → fresh_clause f m o ≡ Some c → unseen_quantifiers (f ∷ s) (clause_blocks c) < quantifiers f
    from (layer.All q) o e =
        let w = when_some (are_numbered m q.sorts) (is_true f ∷ no_of (put_formula (count_from m q.sorts) q.body) ∷ []) c e in
        subst (λ (d : Clause). unseen_quantifiers (f ∷ s) (clause_blocks d) < quantifiers f) w.1
        (body_less f q true false (count_from m q.sorts) s (own_block f q (ap quant_of o)) (by_layer f (layer.All q) o ∙ by_block q))
    from (layer.Ex q) o e =
        let w = when_some (are_numbered m q.sorts) (is_false f ∷ yes_of (put_formula (count_from m q.sorts) q.body) ∷ []) c e in
        subst (λ (d : Clause). unseen_quantifiers (f ∷ s) (clause_blocks d) < quantifiers f) w.1
        (body_less f q false true (count_from m q.sorts) s (own_block f q (ap quant_of o)) (by_layer f (layer.Ex q) o ∙ by_block q))
    from layer.True o e = never_some c e
    from layer.False o e = never_some c e
    from (layer.Eq x y) o e = never_some c e
    from (layer.Lt x y) o e = never_some c e
    from (layer.Le x y) o e = never_some c e
    from (layer.Pred p ss us) o e = never_some c e
    from (layer.Not x) o e = never_some c e
    from (layer.And x y) o e = never_some c e
    from (layer.Or x y) o e = never_some c e
    from (layer.Xor x y) o e = never_some c e
    from (layer.Iff x y) o e = never_some c e

pub opening_less : (opened : List Opened) (clauses : List Clause) (o : Opened) (c : Clause) → Contains (blocks_in clauses) o.formula → ((e : Opened) → Contains opened e → e.formula ≢ o.formula)
    → fresh_clause o.formula o.first (out-Formula o.formula) ≡ Some c → quantifiers_left (opened ++ o ∷ []) (clauses ++ c ∷ []) < quantifiers_left opened clauses
opening_less opened clauses o c there new e =
    let f = o.formula in
    let s = map block_of opened in
    let a = same_unseen (blocks_in (clauses ++ c ∷ [])) (map block_of (opened ++ o ∷ [])) (f ∷ s) (opened_more opened o) in
    let b = ap (unseen_quantifiers (f ∷ s)) (flat_map-append clause_blocks clauses (c ∷ [])) in
    let j = joined (blocks_in clauses) (clause_blocks c ++ []) (f ∷ s) in
    let k = joined (clause_blocks c) [] (f ∷ s) in
    let l = fresh_less f o.first c s e in
    let t = taken (blocks_in clauses) s f there (not_opened opened f new) in
    omega (arith, a, b, j, k, l, t)

pub no_more : (opened : List Opened) (old new : List Clause) → ((f : Formula) → Contains (blocks_in new) f → Contains (blocks_in old) f) → quantifiers_left opened new ≤ quantifiers_left opened old
no_more opened old new h = within (blocks_in new) (blocks_in old) (map block_of opened) (map block_of opened) (λ x c n. (h x c, n))
