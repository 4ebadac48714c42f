use Rattle.std.proofs.Common.{ap}
use Rattle.atom_words.specs.Seats.{seen}
use Rattle.atom_words.specs.declared.view.View.{View}
use Rattle.atom_table.proofs.Rowed.{rowed_still}
use Rattle.atom_table.proofs.Scans.{collects_known, begun_collects, sits_same}
use Rattle.atom_table.proofs.table.AtomTable.begin.Goals as goal

pub invariant_of-collector : goal.invariant_of-collector
invariant_of-collector c = let o = c.args.collector.now in record {
  collects = begun_collects (seen o.seat) (seen c.begin.new.seat) c.in-Ok.epoch o.word o.checked o.cursor o.collects c.in-Ok.ensures.steps;
  rowed = rowed_still (seen o.seat) (seen c.begin.new.seat) o.rows c.requires.still (ap (λ (y : View). y.growing) c.in-Ok.ensures.steps.5) (ap (λ (y : View). y.size) c.in-Ok.ensures.steps.5) o.rowed;
  few = o.few;
}

pub returns-in-Ok-clause-sits : goal.returns-in-Ok-clause-sits
returns-in-Ok-clause-sits c = let is = c.in-Ok.ensures.steps.5 in sits_same c.args.self.now.words c.args.collector.now.seat c.begin.new.seat c.begin.ensures.same
    (ap (λ (y : View). y.held) is) (ap (λ (y : View). y.fixed) is) (ap (λ (y : View). y.size) is) (ap (λ (y : View). y.gone) is) (ap (λ (y : View). y.own) is) (ap (λ (y : View). y.counts) is) c.requires.sits

pub returns-then-word-eq0-clause-sits : goal.returns-then-word-eq0-clause-sits
returns-then-word-eq0-clause-sits c = let is = c.in-Err.ensures.steps.2 in sits_same c.args.self.now.words c.args.collector.now.seat c.begin.new.seat c.begin.ensures.same
    (ap (λ (y : View). y.held) is) (ap (λ (y : View). y.fixed) is) (ap (λ (y : View). y.size) is) (ap (λ (y : View). y.gone) is) (ap (λ (y : View). y.own) is) (ap (λ (y : View). y.counts) is) c.requires.sits

pub returns-else-word-eq0-clause-sits : goal.returns-else-word-eq0-clause-sits
returns-else-word-eq0-clause-sits c = let is = c.in-Err.ensures.steps.2 in sits_same c.args.self.now.words c.args.collector.now.seat c.begin.new.seat c.begin.ensures.same
    (ap (λ (y : View). y.held) is) (ap (λ (y : View). y.fixed) is) (ap (λ (y : View). y.size) is) (ap (λ (y : View). y.gone) is) (ap (λ (y : View). y.own) is) (ap (λ (y : View). y.counts) is) c.requires.sits

pub begin-requires-clause-collector : goal.begin-requires-clause-collector
begin-requires-clause-collector c = let o = c.args.collector.now in let k = collects_known (seen o.seat) o.word o.checked o.cursor o.collects in (k.0, k.1, o.rowed.2 c.requires.still)
