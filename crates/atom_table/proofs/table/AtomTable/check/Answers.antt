use Rattle.std.proofs.Common.{refl, ap, arith}
use Rattle.atom_words.specs.Layout.{epoch_of}
use Rattle.atom_words.specs.Seats.{seen}
use Rattle.atom_words.specs.declared.size.Size.{Size}
use Rattle.bucket_rows.specs.declared.cycles.Checked.TheVariants.{All, NotYet}
use Rattle.atom_words.specs.declared.view.View.{View}
use Rattle.atom_table.proofs.Rowed.{rowed_still, marks_still}
use Rattle.atom_table.proofs.Scans.{checked_same, checked_sits, all_collects, part_collects}
use Rattle.atom_table.proofs.table.AtomTable.check.Goals as goal

pub invariant_of-collector : goal.invariant_of-collector
invariant_of-collector c = let o = c.args.collector.now in record {
  collects = all_collects (epoch_of o.word) o.word o.checked o.cursor c.args.self.now.words.size.engines (seen o.seat) (seen c.check-checked.new.seat) c.requires.marking (ap (λ (z : Size). z.engines) c.requires.sits.0.1) o.collects c.in-All.ensures.steps;
  rowed = rowed_still (seen o.seat) (seen c.check-checked.new.seat) o.rows (marks_still (seen o.seat) o.word o.checked o.cursor o.rows c.requires.marking o.collects o.rowed) (checked_same (λ (y : View). y.growing) (λ _ _. refl) (λ _. refl) (λ _ _ _. refl) (epoch_of o.word) o.checked (seen o.seat) All (seen c.check-checked.new.seat) c.in-All.ensures.steps) (checked_same (λ (y : View). y.size) (λ _ _. refl) (λ _. refl) (λ _ _ _. refl) (epoch_of o.word) o.checked (seen o.seat) All (seen c.check-checked.new.seat) c.in-All.ensures.steps) o.rowed;
  few = omega arith;
}

pub invariant_of-collector-in-NotYet : goal.invariant_of-collector-in-NotYet
invariant_of-collector-in-NotYet c = let o = c.args.collector.now in record {
  collects = part_collects (epoch_of o.word) o.word o.checked o.cursor c.in-NotYet.engine c.in-NotYet.seen (seen o.seat) (seen c.check-checked.new.seat) o.collects c.in-NotYet.ensures.steps;
  rowed = rowed_still (seen o.seat) (seen c.check-checked.new.seat) o.rows (marks_still (seen o.seat) o.word o.checked o.cursor o.rows c.requires.marking o.collects o.rowed) (checked_same (λ (y : View). y.growing) (λ _ _. refl) (λ _. refl) (λ _ _ _. refl) (epoch_of o.word) o.checked (seen o.seat) (NotYet c.in-NotYet.engine c.in-NotYet.seen) (seen c.check-checked.new.seat) c.in-NotYet.ensures.steps) (checked_same (λ (y : View). y.size) (λ _ _. refl) (λ _. refl) (λ _ _ _. refl) (epoch_of o.word) o.checked (seen o.seat) (NotYet c.in-NotYet.engine c.in-NotYet.seen) (seen c.check-checked.new.seat) c.in-NotYet.ensures.steps) o.rowed;
  few = o.few;
}

pub returns-in-All-clause-sits : goal.returns-in-All-clause-sits
returns-in-All-clause-sits c = let o = c.args.collector.now in checked_sits c.args.self.now.words (epoch_of o.word) o.checked o.seat c.check-checked.new.seat All c.check-checked.ensures.same c.in-All.ensures.steps c.requires.sits

pub returns-in-NotYet-clause-sits : goal.returns-in-NotYet-clause-sits
returns-in-NotYet-clause-sits c = let o = c.args.collector.now in
    checked_sits c.args.self.now.words (epoch_of o.word) o.checked o.seat c.check-checked.new.seat (NotYet c.in-NotYet.engine c.in-NotYet.seen) c.check-checked.ensures.same c.in-NotYet.ensures.steps c.requires.sits
