use Rattle.std.proofs.Common.{length, map, take, ap, ◌∙◌}
use Rattle.std.proofs.Math.Seq.{take-append_seam}
use Rattle.term_store.proofs.make.push_places.Goals as goal

pub returns-in_err-push-clause-kept : goal.returns-in_err-push-clause-kept
returns-in_err-push-clause-kept c =
    ap (take (length c.args.args.now.items)) (c.in_err-push.ensures.items ∙ c.loop-p.invariant)
    ∙ take-append_seam c.args.args.now.items (map (λ p. p.word) (take c.loop-p.p-index c.args.places.now))
