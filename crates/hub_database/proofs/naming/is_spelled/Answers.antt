use Rattle.std.proofs.Common.{ℕ, ap, ap₂, sym}
use Rattle.std.proofs.lemmas.Option.{same_Some}
use Rattle.pl_term.specs.Tree.{Chars}
use Rattle.atom_words.specs.Seats.{seen}
use Rattle.atom_table.specs.Naming.{requests}
use Rattle.world_api.specs.Texts.{or_no_text}
use Rattle.hub_database.proofs.Deciding.{quiet_by}
use Rattle.hub_database.proofs.naming.is_spelled.Goals as goal

pub returns-clause-spelled : goal.returns-clause-spelled
returns-clause-spelled g c = λ yes.
    ap₂ (λ (f : Chars) (n : ℕ). record { name = f; arity = n }) (sym (ap (or_no_text c.args.p.now.name) (c.reads.ensures.reads yes))) (sym c.if-p-spelled.false)

pub returns-clause-quiet : goal.returns-clause-quiet
returns-clause-quiet g c = quiet_by (seen c.args.atoms.now.seat) (seen c.reads.new.atoms.seat) c.reads.ensures.same c.reads.ensures.refusals (same_Some (requests (seen c.reads.new.atoms.seat)) (requests (seen c.args.atoms.now.seat)) c.reads.ensures.asked)
