use Rattle.std.proofs.Common.{ap, sym}
use Rattle.std.proofs.lemmas.Option.{same_Some}
use Rattle.std.proofs.lemmas.Result.{IfOk-weaker}
use Rattle.atom_words.specs.Seats.{seen}
use Rattle.atom_table.specs.Naming.{requests}
use Rattle.world_api.specs.Texts.{or_no_text}
use Rattle.hub_database.proofs.Deciding.{quiet_by}
use Rattle.hub_database.proofs.naming.name_text.Goals as goal

pub returns-clause-text : goal.returns-clause-text
returns-clause-text g c = IfOk-weaker c.text_of_atom.result _ _ (λ t e. sym (ap (or_no_text c.args.a) e)) c.text_of_atom.ensures.text

pub returns-clause-quiet : goal.returns-clause-quiet
returns-clause-quiet g c = quiet_by (seen c.args.atoms.now.seat) (seen c.text_of_atom.new.atoms.seat) c.text_of_atom.ensures.same c.text_of_atom.ensures.refusals (same_Some (requests (seen c.text_of_atom.new.atoms.seat)) (requests (seen c.args.atoms.now.seat)) c.text_of_atom.ensures.asked)
