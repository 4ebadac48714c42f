use Rattle.std.proofs.Common.{◌≡◌, refl, ◌∙◌}
use Rattle.atom_words.specs.Seats.{seen}
use Rattle.atom_words.specs.declared.view.View.{View}
use Rattle.atom_table.specs.Opening.{fixed_slots}
use Rattle.atom_table.specs.Naming.{requests}
use Rattle.atom_table.proofs.Naming.{lawful}
use Rattle.atom_table.proofs.Refusals.{so_same}
use Rattle.atom_table.proofs.Acking.{acked_same, names_acked}
use Rattle.atom_table.proofs.atoms.TableAtoms.acknowledge.Goals as goal

pub invariant_of-self : goal.invariant_of-self
invariant_of-self g c = let s = c.args.self.now in let t = c.mark_and_ack.new.seat in let v : View = seen s.seat in let w : View = seen t in let r = c.mark_and_ack.result in let steps = c.mark_and_ack.ensures.steps in
    let fixed : w.fixed ≡ fixed_slots = acked_same (λ (y : View). y.fixed) (λ _ _ _. refl) (λ _ _. refl) (λ _ _ _. refl) (λ _. refl) (λ _ _ _. refl) c.args.live.now v r w steps ∙ s.fixed in
    record {
      named = s.named;
      sized = s.sized;
      sits = c.mark_and_ack.ensures.sits;
      engine = c.mark_and_ack.ensures.engine;
      fixed = fixed;
      lawful = lawful s.table.now.words t c.mark_and_ack.ensures.sits fixed;
      refused = so_same v w (acked_same (λ (y : View). y.refusals) (λ _ _ _. refl) (λ _ _. refl) (λ _ _ _. refl) (λ _. refl) (λ _ _ _. refl) c.args.live.now v r w steps) (acked_same (λ (y : View). y.size) (λ _ _ _. refl) (λ _ _. refl) (λ _ _ _. refl) (λ _. refl) (λ _ _ _. refl) c.args.live.now v r w steps) s.refused;
    }

pub returns-clause-names : goal.returns-clause-names
returns-clause-names g c = let s = c.args.self.now in let v : View = seen s.seat in let w : View = seen c.mark_and_ack.new.seat in let r = c.mark_and_ack.result in let steps = c.mark_and_ack.ensures.steps in
    names_acked c.args.live.now v r w steps (acked_same (λ (y : View). y.fixed) (λ _ _ _. refl) (λ _ _. refl) (λ _ _ _. refl) (λ _. refl) (λ _ _ _. refl) c.args.live.now v r w steps) s.fixed

pub returns-clause-refusals : goal.returns-clause-refusals
returns-clause-refusals g c = acked_same (λ (y : View). y.refusals) (λ _ _ _. refl) (λ _ _. refl) (λ _ _ _. refl) (λ _. refl) (λ _ _ _. refl) c.args.live.now (seen c.args.self.now.seat) c.mark_and_ack.result (seen c.mark_and_ack.new.seat) c.mark_and_ack.ensures.steps

pub returns-clause-asked : goal.returns-clause-asked
returns-clause-asked g c = acked_same requests (λ _ _ _. refl) (λ _ _. refl) (λ _ _ _. refl) (λ _. refl) (λ _ _ _. refl) c.args.live.now (seen c.args.self.now.seat) c.mark_and_ack.result (seen c.mark_and_ack.new.seat) c.mark_and_ack.ensures.steps
