use Rattle.std.proofs.Common.{ap}
use Rattle.atom_words.specs.declared.view.View.{View}
use Rattle.atom_table.proofs.Scans.{sits_same, swept_sits}
use Rattle.atom_table.proofs.table.AtomTable.sweep_some.Goals as goal

pub returns-then-end-slots-clause-sits : goal.returns-then-end-slots-clause-sits
returns-then-end-slots-clause-sits c = swept_sits c.args.self.now.words c.args.collector.now.seat c.sweep_run-live.new.seat c.sweep_run-live.ensures.same c.sweep_run-live.ensures.untouched c.requires.sits

pub returns-clause-sits : goal.returns-clause-sits
returns-clause-sits c = let is = c.finish.ensures.steps in sits_same c.args.self.now.words c.sweep_run-live.new.seat c.finish.new.seat c.finish.ensures.same
    (ap (λ (y : View). y.held) is) (ap (λ (y : View). y.fixed) is) (ap (λ (y : View). y.size) is) (ap (λ (y : View). y.gone) is) (ap (λ (y : View). y.own) is) (ap (λ (y : View). y.counts) is)
    (swept_sits c.args.self.now.words c.args.collector.now.seat c.sweep_run-live.new.seat c.sweep_run-live.ensures.same c.sweep_run-live.ensures.untouched c.requires.sits)
