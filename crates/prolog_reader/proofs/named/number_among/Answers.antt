use Rattle.std.proofs.Common.{◌∙◌, sym, refl}
use Rattle.prolog_reader.proofs.NameTexts.{number_of-found, number_of-other}
use Rattle.prolog_reader.proofs.named.number_among.Goals as goal

pub returns-then-same : goal.returns-then-same
returns-then-same c =
    number_of-found c.args.names.now c.loop-named.named-index c.named-item.result c.args.name.now c.loop-named-test.true c.named-item.is
    (c.if-same.ensures.0 refl)
    ∙ sym c.loop-named.invariant

pub loop-named-preserved : goal.loop-named-preserved
loop-named-preserved c =
    c.loop-named.invariant
    ∙ number_of-other c.args.names.now c.loop-named.named-index c.named-item.result c.args.name.now c.loop-named-test.true c.named-item.is
    (λ e. let h = c.if-same.ensures.1 e in cc)
