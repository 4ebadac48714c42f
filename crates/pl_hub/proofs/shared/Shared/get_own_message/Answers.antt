use Rattle.std.proofs.Common.{None}
use Rattle.std.specs.Prelude.{IsSome}
use Rattle.std.proofs.lemmas.List.Elements.{All-append}
use Rattle.atom_words.specs.Seats.{seen}
use Rattle.atom_table.specs.Naming.{names}
use Rattle.term_store.specs.NumberedNames.{names_of}
use Rattle.world_api.specs.declared.visit.Visit.TheVariants.{GetMessage}
use Rattle.pl_hub.proofs.SameVisits.{memory_visit, own_get}
use Rattle.pl_hub.proofs.shared.Shared.get_own_message.Goals as goal

pub get_message-requires-clause-held : goal.get_message-requires-clause-held
get_message-requires-clause-held g c =
    let m = names (seen c.args.atoms.now.seat) in
    All-append (λ a. IsSome (m a)) (names_of c.in-Ok.queue) (names_of c.args.pattern.now) (c.in-Ok.ensures.named m c.args.atoms.now.lawful.stand) c.requires.held

pub returns-in-Err : goal.returns-in-Err
returns-in-Err g c = memory_visit g.K.Naming.history g.K.Naming.goals c.args.engine (seen c.args.atoms.now.seat) (GetMessage None c.args.pattern.now) c.args.front.now c.args.self.now c.requires.front

pub returns-in-Ok : goal.returns-in-Ok
returns-in-Ok g c =
    own_get g.K.Naming.history g.K.Naming.goals c.args.engine (seen c.args.atoms.now.seat) (seen c.get_message.new.atoms.seat) c.in-Ok.queue c.args.pattern.now
    (c.in-Ok.ensures.says (names (seen c.args.atoms.now.seat))) c.args.front.now c.requires.front.engine c.get_message.result c.get_message.new.front c.args.self.now c.get_message.new.self c.get_message.ensures
