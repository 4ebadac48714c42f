use Rattle.std.proofs.Common.{◌≡◌, ◌∙◌}
use Rattle.builtin_term.proofs.Reading.{unified_tells}
use Rattle.builtin_term.proofs.Rooms.{differs_stand}
use Rattle.builtin_term.proofs.unification.not_unifiable.Goals as goal

pub returns-clause-row : goal.returns-clause-row
returns-clause-row c =
    let s = c.args.store.now in
    let same : c.undo_to.new.self ≡ s = c.undo_to.ensures.back ∙ c.unify.ensures.adds.back c.mark-mark.result c.mark-mark.ensures.mark ∙ c.mark-mark.ensures.here in
    differs_stand s c.undo_to.new.self c.tested.new.store c.in_ok-same.same c.args.left c.args.right c.tested.result same
    (λ m names. unified_tells c.in_ok-same.same s c.unify.new.self c.args.left c.args.right c.in_ok-same.ensures.unified m names) c.tested.ensures.row
