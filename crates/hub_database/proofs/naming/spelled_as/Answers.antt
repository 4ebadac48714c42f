use Rattle.std.proofs.Common.{◌≡◌, sym, subst}
use Rattle.std.specs.Prelude.{IsSome, IfOk}
use Rattle.pl_model.specs.laws.Shown.{proc_of}
use Rattle.atom_api.specs.Names.{Names}
use Rattle.atom_words.specs.Seats.{seen}
use Rattle.world_api.specs.Texts.{text_of}
use Rattle.world_api.specs.Visits.{proc_named}
use Rattle.hub_database.proofs.Deciding.{quiet_then}
use Rattle.hub_database.proofs.naming.spelled_as.Goals as goal

pub predicate_text-requires : goal.predicate_text-requires
predicate_text-requires g c = subst (λ (m : Names). IsSome (m c.args.p.now.name)) (sym c.is_spelled.ensures.held) c.requires

pub returns-clause-spelled : goal.returns-clause-spelled
returns-clause-spelled g c = subst (λ (m : Names). IfOk c.predicate_text.result (λ q. proc_of q ≡ proc_named (text_of m) c.args.p.now)) c.is_spelled.ensures.held c.predicate_text.ensures.spelled

pub returns-clause-quiet : goal.returns-clause-quiet
returns-clause-quiet g c = quiet_then (seen c.args.atoms.now.seat) (seen c.is_spelled.new.atoms.seat) (seen c.predicate_text.new.atoms.seat) c.is_spelled.ensures.quiet c.predicate_text.ensures.quiet
