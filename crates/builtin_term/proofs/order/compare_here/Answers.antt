use Rattle.std.proofs.Common.{sym, ap, ◌∙◌}
use Rattle.std.specs.Ordering.{ordering_then}
use Rattle.pl_term.specs.NodeLists.{node_order}
use Rattle.pl_term.specs.Order.{order}
use Rattle.term_store.specs.Contents.{term_at}
use Rattle.world_builtins.specs.Nodes.{spelled_node}
use Rattle.world_builtins.specs.Spelling.{reads, text_of}
use Rattle.builtin_term.specs.Heads.{behind, head}
use Rattle.builtin_term.specs.declared.place_pairs.Pair.{Pair}
use Rattle.builtin_term.specs.Pending.{pending_order}
use Rattle.builtin_term.proofs.Comparing.{course_opens, opens_order}
use Rattle.builtin_term.proofs.Seeing.{by_heads, equal_from_not_ne, held_parts}
use Rattle.builtin_term.proofs.Stacking.{apart, opened}
use Rattle.builtin_term.proofs.order.compare_here.Goals as goal

pub returns-then-is_ne-clause-order : goal.returns-then-is_ne-clause-order
returns-then-is_ne-clause-order g c =
    let m = g.A.Atoms.held c.args.atoms.now in
    let s = c.args.store.now in
    let v = c.look-this.result in
    let w = c.look-that.result in
    let f = text_of m in
    apart c.compare_heads-heads.result (node_order (spelled_node f (head v)) (spelled_node f (head w))) (behind f s v w)
    (order (reads m s c.args.left) (reads m s c.args.right)) (pending_order m s c.args.pending.now.pairs.items) (sym c.if-is_ne.ensures)
    c.compare_heads-heads.ensures.order
    (by_heads f s (term_at s c.args.left) (term_at s c.args.right) v w c.look-this.ensures c.look-that.ensures)

pub returns-clause-order : goal.returns-clause-order
returns-clause-order g c =
    let m = g.A.Atoms.held c.args.atoms.now in
    let s = c.args.store.now in
    let v = c.look-this.result in
    let w = c.look-that.result in
    let f = text_of m in
    opened c.compare_heads-heads.result (node_order (spelled_node f (head v)) (spelled_node f (head w))) (behind f s v w)
    (order (reads m s c.args.left) (reads m s c.args.right)) (pending_order m s c.args.pending.now.pairs.items)
    (pending_order m s c.push_arguments.new.pending.pairs.items) (sym c.if-is_ne.ensures) c.compare_heads-heads.ensures.order
    (by_heads f s (term_at s c.args.left) (term_at s c.args.right) v w c.look-this.ensures c.look-that.ensures)
    (opens_order m s (behind f s v w) c.args.pending.now c.push_arguments.new.pending
    (c.in_ok-push_arguments.ensures.opens m c.requires.course.known))

pub returns-clause-pairs : goal.returns-clause-pairs
returns-clause-pairs g c =
    let m = g.A.Atoms.held c.args.atoms.now in
    let s = c.args.store.now in
    c.in_ok-push_arguments.ensures.pairs m (held_parts m s (term_at s c.args.left) c.look-this.result c.look-this.ensures c.requires.left_held).1
    (held_parts m s (term_at s c.args.right) c.look-that.result c.look-that.ensures c.requires.right_held).1 c.requires.pairs

pub returns-clause-course : goal.returns-clause-course
returns-clause-course g c _ =
    let m = g.A.Atoms.held c.args.atoms.now in
    let s = c.args.store.now in
    let v = c.look-this.result in
    let w = c.look-that.result in
    let f = text_of m in
    let p : Pair = record { left = c.args.left; right = c.args.right } in
    course_opens m s (behind f s v w) p c.args.pending.now c.push_arguments.new.pending (c.in_ok-push_arguments.ensures.opens m c.requires.course.known)
    (by_heads f s (term_at s c.args.left) (term_at s c.args.right) v w c.look-this.ensures c.look-that.ensures
    ∙ ap (λ o. ordering_then o (behind f s v w))
    (sym c.compare_heads-heads.ensures.order ∙ equal_from_not_ne c.compare_heads-heads.result (sym c.if-is_ne.ensures)))
    c.requires.course
