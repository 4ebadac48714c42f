use Rattle.std.proofs.Common.{codes}
use Rattle.shared_builtins.proofs.FixedNames.{slash_is}
use Rattle.shared_builtins.proofs.Indicating.{pair_indicated}
use Rattle.shared_builtins.proofs.indicators.indicated_at.Goals as goal

pub returns-in-Some : goal.returns-in-Some
returns-in-Some c m n held =
    let r = c.in-Some.ensures.read m (codes "/") n held slash_is in
    pair_indicated m c.args.store.now c.args.place c.in-Some.both.0 c.in-Some.both.1 r.0 c.named_at.result (c.named_at.ensures m n r.1.0 r.1.1)

pub returns-in-None : goal.returns-in-None
returns-in-None c m n held =
    let r = c.in-None.ensures.read m (codes "/") n held slash_is in
    (c.no_indicator.ensures.error m r, (c.no_indicator.ensures.inside, c.no_indicator.ensures.held m held))
