use Rattle.std.proofs.Common.{◌≡◌, ◌∙◌, sym, ap, subst, inl}
use Rattle.atom_words.specs.Seats.{seen}
use Rattle.atom_table.proofs.Naming.{lawful}
use Rattle.counted_terms.proofs.EngineAtoms.{keeper_in, keeper_at, stays_engine, stays_so, stays_requests}
use Rattle.counted_terms.proofs.engines.hold_by.Goals as goal

pub invariant_of-atoms : goal.invariant_of-atoms
invariant_of-atoms g c = let s = c.args.atoms.now in let r = c.hold.new.seat in let e = c.hold.ensures in record {
  named = s.named;
  sized = s.sized;
  sits = e.seat.0;
  engine = stays_engine (seen s.seat) (seen r) e.stays s.engine;
  fixed = e.seat.1;
  lawful = lawful s.table.now.words r e.seat.0 e.seat.1;
  refused = stays_so (seen s.seat) (seen r) e.stays s.refused;
}

pub hold-requires-clause-keeper : goal.hold-requires-clause-keeper
hold-requires-clause-keeper g c = let s = c.args.atoms.now in keeper_in s.table.now.words g.K.NamesTable.atoms g.K.NamesTable.size c.args.keeper.now s.named s.sized c.requires.keeper

pub returns-clause-keeper : goal.returns-clause-keeper
returns-clause-keeper g c = let s = c.args.atoms.now in keeper_at s.table.now.words g.K.NamesTable.atoms g.K.NamesTable.size c.hold.new.keeper s.named s.sized c.hold.ensures.keeper

pub returns-clause-refusals : goal.returns-clause-refusals
returns-clause-refusals g c = c.hold.ensures.stays.refusals

pub returns-clause-requests : goal.returns-clause-requests
returns-clause-requests g c = stays_requests (seen c.args.atoms.now.seat) (seen c.hold.new.seat) c.hold.ensures.stays

pub hold-requires-clause-sitting : goal.hold-requires-clause-sitting
hold-requires-clause-sitting g c = inl c.args.atoms.now.engine.0
