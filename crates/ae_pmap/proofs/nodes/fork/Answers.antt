use Rattle.std.proofs.Common.{◌≡◌, ◌∙◌, ap, ℕ, ◌++◌, ◌∷◌, [], List, sym, subst, arith}
use Rattle.ae_pmap.specs.declared.nodes.Node.{Node}
use Rattle.ae_pmap.specs.Trees.{levels}
use Rattle.ae_pmap.specs.Nodes.{tree_at}
use Rattle.ae_pmap.specs.Inner.Nodes.{IsSound, Keeps}
use Rattle.ae_pmap.proofs.Tables.{sound_push, keeps_push, tree_new, at_place, fork_of}
use Rattle.ae_pmap.proofs.nodes.fork.Goals as goal

pub returns-clause-sound : goal.returns-clause-sound
returns-clause-sound c =
    let nodes = c.args.nodes.now.items in
    let l : c.height-left_height.result ≡ levels (tree_at nodes c.args.left) = c.height-left_height.ensures ∙ ap (λ (w : List Node). levels (tree_at w c.args.left)) c.deref.ensures.value in
    let r : c.height-right_height.result ≡ levels (tree_at nodes c.args.right) = c.height-right_height.ensures ∙ ap (λ (w : List Node). levels (tree_at w c.args.right)) c.deref-2.ensures.value in
    let low = (at_place nodes c.args.left c.requires.sound c.requires.left).0 in
    let low' = (at_place nodes c.args.right c.requires.sound c.requires.right).0 in
    subst IsSound (sym c.in_ok-push.ensures.items) (sound_push c.args.nodes.now.items _ c.requires.sound c.requires.left c.requires.right c.requires.left_low c.requires.right_low
    (omega (arith, l, r, low, low', c.max.ensures, c.saturating_add-height.ensures, c.in_ok-push.ensures.len, c.len.ensures, c.len.type_inv, c.args.nodes.now.ok.0)))

pub returns-clause-keeps : goal.returns-clause-keeps
returns-clause-keeps c = subst (λ (w : List Node). Keeps c.args.nodes.now.items w) (sym c.in_ok-push.ensures.items) (keeps_push c.args.nodes.now.items _)

pub returns-clause-tree : goal.returns-clause-tree
returns-clause-tree c =
    let n : Node = record { key = c.args.key; value = c.args.value; left = c.args.left; right = c.args.right; height = c.saturating_add-height.result } in
    rw (c.in_ok-push.ensures.items) (subst (λ (p : ℕ). tree_at (c.args.nodes.now.items ++ n ∷ []) p ≡ fork_of c.args.nodes.now.items n) (omega (arith, c.len.ensures, c.in_ok-push.ensures.len, c.args.nodes.now.ok.0)) (tree_new c.args.nodes.now.items n))
