use Rattle.std.proofs.Common.{◌≡◌, ◌∙◌, inl}
use Rattle.atom_words.specs.Texts.{bucket}
use Rattle.atom_words.specs.Seats.{seen}
use Rattle.bucket_rows.specs.Walks.{spelled}
use Rattle.atom_table.specs.Opening.{fixed_slots}
use Rattle.atom_table.proofs.Naming.{lawful, interns_by, asked_by}
use Rattle.atom_table.proofs.Settling.{engine_by}
use Rattle.atom_table.proofs.Refusals.{so_told}
use Rattle.atom_table.proofs.atoms.TableAtomsAtoms.intern.Goals as goal

pub invariant_of-self : goal.invariant_of-self
invariant_of-self g c = let s = c.args.self.now in let t = c.intern.new.seat in let fixed : (seen t).fixed ≡ fixed_slots = c.intern.ensures.rest.fixed ∙ s.fixed in
    record { named = s.named; sized = s.sized; sits = c.intern.ensures.sits; engine = engine_by (seen s.seat) (seen t) c.intern.ensures.rest.cycle c.intern.ensures.rest.sweep s.engine; fixed = fixed; lawful = lawful s.table.now.words t c.intern.ensures.sits fixed; refused = so_told c.args.text.now (bucket c.intern.ensures.answer.0 (spelled c.args.text.now)) (seen s.seat) (seen t) c.intern.result c.intern.ensures.answer.2 c.intern.ensures.refusal c.intern.ensures.rest.size s.refused }

pub intern-requires-clause-walking : goal.intern-requires-clause-walking
intern-requires-clause-walking g c = let e = c.args.self.now.engine in (inl e.0, e.1)

pub returns-clause-answer : goal.returns-clause-answer
returns-clause-answer g c = let s = c.args.self.now in let t = c.args.text.now in
    interns_by t c.scalars.ensures (bucket c.intern.ensures.answer.0 (spelled t)) (seen s.seat) (seen c.intern.new.seat) s.sits.2 c.intern.ensures.rest.fixed c.intern.result c.intern.ensures.answer.2

pub returns-clause-request : goal.returns-clause-request
returns-clause-request g c = let s = c.args.self.now in let t = c.args.text.now in
    asked_by t c.scalars.ensures (bucket c.intern.ensures.answer.0 (spelled t)) (seen s.seat) (seen c.intern.new.seat) s.sits.2 c.intern.ensures.rest.fixed c.intern.result c.intern.ensures.answer.2 c.intern.ensures.request
