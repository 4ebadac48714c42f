use Rattle.std.proofs.Common.{map, refl, sym, ap, subst, arith}
use Rattle.std.specs.Prelude.{IsSome}
use Rattle.std.proofs.lemmas.List.Elements.{All-get_or}
use Rattle.pl_model.specs.laws.Shown.{proc_of}
use Rattle.atom_api.specs.Names.{Names}
use Rattle.atom_words.specs.Seats.{seen}
use Rattle.atom_table.specs.Naming.{names}
use Rattle.world_api.specs.declared.visit.Procedure.{Procedure}
use Rattle.hub_database.proofs.Deciding.{quiet_same}
use Rattle.hub_database.proofs.naming.predicate_texts.Goals as goal

pub loop-i-init : goal.loop-i-init
loop-i-init g c = record { held = refl; quiet = quiet_same (seen c.args.atoms.now.seat); spelled = ap (λ l. map proc_of l) c.new-texts.ensures.items }

pub predicate_text-requires : goal.predicate_text-requires
predicate_text-requires g c =
    subst (λ (m : Names). IsSome (m c.index-ps-i.result.name)) (sym c.loop-i.invariant.held)
    (subst (λ (p : Procedure). IsSome (names (seen c.args.atoms.now.seat) p.name)) (sym c.index-ps-i.is)
    (All-get_or (λ (p : Procedure). IsSome (names (seen c.args.atoms.now.seat) p.name)) c.args.ps.now c.loop-i.i c.index-ps-i.result (omega (arith, c.loop-i-test.true)) c.requires))
