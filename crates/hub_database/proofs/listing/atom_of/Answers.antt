use Rattle.std.proofs.Common.{◌++◌, ◌∷◌, [], inl, inr, ap, ◌∙◌}
use Rattle.std.proofs.lemmas.Option.{same_Some}
use Rattle.atom_api.specs.Names.{Names}
use Rattle.atom_words.specs.Seats.{seen}
use Rattle.atom_table.specs.Naming.{names, requests}
use Rattle.hub_database.proofs.ListedProcedures.{held_there, held_with}
use Rattle.hub_database.proofs.listing.atom_of.Goals as goal

pub returns-in-Is-clause-atom : goal.returns-in-Is-clause-atom
returns-in-Is-clause-atom g c = held_there (names (seen c.args.atoms.now.seat)) c.args.text.now c.in-Is.a (names (seen c.intern.new.self.seat)) c.in-Is.ensures.answer

pub returns-in-Is-clause-holds : goal.returns-in-Is-clause-holds
returns-in-Is-clause-holds g c = held_with (names (seen c.args.atoms.now.seat)) c.args.text.now c.in-Is.a (names (seen c.intern.new.self.seat)) c.in-Is.ensures.answer

pub returns-in-Is-clause-asked : goal.returns-in-Is-clause-asked
returns-in-Is-clause-asked g c = inr (same_Some (requests (seen c.intern.new.self.seat)) ((requests (seen c.args.atoms.now.seat)) ++ c.args.text.now ∷ []) c.in-Is.ensures.request)

pub returns-in-Full-clause-holds : goal.returns-in-Full-clause-holds
returns-in-Full-clause-holds g c = λ k u e. ap (λ (f : Names). f k) c.in-Full.ensures.answer.1 ∙ e

pub returns-in-Full-clause-asked : goal.returns-in-Full-clause-asked
returns-in-Full-clause-asked g c = inr (same_Some (requests (seen c.intern.new.self.seat)) ((requests (seen c.args.atoms.now.seat)) ++ c.args.text.now ∷ []) c.in-Full.ensures.request)

pub returns-in-Again-clause-holds : goal.returns-in-Again-clause-holds
returns-in-Again-clause-holds g c = λ k u e. ap (λ (f : Names). f k) c.in-Again.ensures.answer.1 ∙ e

pub returns-in-Again-clause-asked : goal.returns-in-Again-clause-asked
returns-in-Again-clause-asked g c = inr (same_Some (requests (seen c.intern.new.self.seat)) ((requests (seen c.args.atoms.now.seat)) ++ c.args.text.now ∷ []) c.in-Again.ensures.request)

pub returns-in-Worn-clause-holds : goal.returns-in-Worn-clause-holds
returns-in-Worn-clause-holds g c = λ k u e. ap (λ (f : Names). f k) c.in-Worn.ensures.answer.1 ∙ e

pub returns-in-Worn-clause-asked : goal.returns-in-Worn-clause-asked
returns-in-Worn-clause-asked g c = inr (same_Some (requests (seen c.intern.new.self.seat)) ((requests (seen c.args.atoms.now.seat)) ++ c.args.text.now ∷ []) c.in-Worn.ensures.request)

pub returns-in-TooLong-clause-holds : goal.returns-in-TooLong-clause-holds
returns-in-TooLong-clause-holds g c = λ k u e. ap (λ (f : Names). f k) c.in-TooLong.ensures.answer.2 ∙ e

pub returns-in-TooLong-clause-asked : goal.returns-in-TooLong-clause-asked
returns-in-TooLong-clause-asked g c = inl (same_Some (requests (seen c.intern.new.self.seat)) (requests (seen c.args.atoms.now.seat)) c.in-TooLong.ensures.request)

pub returns-in-Memory-clause-holds : goal.returns-in-Memory-clause-holds
returns-in-Memory-clause-holds g c = λ k u e. ap (λ (f : Names). f k) c.in-Memory.ensures.answer.1 ∙ e

pub returns-in-Memory-clause-asked : goal.returns-in-Memory-clause-asked
returns-in-Memory-clause-asked g c = inl (same_Some (requests (seen c.intern.new.self.seat)) (requests (seen c.args.atoms.now.seat)) c.in-Memory.ensures.request)
